use Rattle.std.proofs.Common.{◌≡◌, ℕ, ◌<◌, ◌≤◌, List, [], ◌∷◌, ◌++◌, Err, map, length, get_or, take, vec_items, sym, ap, ◌∙◌, subst, subst₂, arith}
use Rattle.std.proofs.lemmas.List.{length-map, get_or-map, take_more, map_push}
use Rattle.std.proofs.lemmas.Result.{err_from_is_err_and}
use Rattle.exchange.specs.Life.Question.{height}
use Rattle.exchange.specs.Life.Event.{ask}
use Rattle.lives.specs.declared.events.Event.{Event}
use Rattle.lives.specs.declared.events.Stop.TheVariants.{NoMemory}
use Rattle.lives.specs.Events.{event_of, answer_of}
use Rattle.lives.specs.Steps.{Come, Over}
use Rattle.lives.proofs.Going.{come_none, come_more, over_end, over_memory, over_stop}
use Rattle.lives.proofs.run.Run.go_on.Goals as goal

pub loop-event-init : goal.loop-event-init
loop-event-init g c = λ st bk e h a. come_none st bk _ _ _ e h (ap (map answer_of) a)

-- the event of a turn, among the events of the rules
event_at : (events : List Event) (i : ℕ) (d : Event) → i < length events → event_of (get_or events i d) ≡ get_or (map event_of events) i (ask height)
event_at events i d h = sym (get_or-map event_of events i d (ask height) h)

pub returns-in_err-answer : goal.returns-in_err-answer
returns-in_err-answer g c = λ st bk e h a.
    let es = map event_of c.args.events.now in
    let i = c.loop-event.event-index in
    let within : i < length es = omega (arith, length-map c.args.events.now event_of, c.loop-event-test.true) in
    let p = err_from_is_err_and c.from_residual.result c.from_residual.ensures.1 in
    rw (p.1, p.2) (over_stop st bk es _ i _ _ (c.loop-event.invariant st bk e h a) _ c.step.new.self.replica (vec_items c.step.new.self.held) _ within
    (event_at c.args.events.now i _ c.loop-event-test.true) c.in_err-answer.ensures)

pub returns-in_err-push : goal.returns-in_err-push
returns-in_err-push g c = λ st bk e h a.
    let es = map event_of c.args.events.now in
    let i = c.loop-event.event-index in
    let within : i ≤ length es = omega (arith, length-map c.args.events.now event_of, c.loop-event-test.true) in
    let p = err_from_is_err_and c.from_residual-in_err-push.result c.from_residual-in_err-push.ensures.1 in
    rw (p.1, p.2) (subst (λ us. Over st bk es us (Err NoMemory)) (ap (map answer_of) (sym c.in_err-push.ensures.items))
    (over_memory st bk es _ i _ _ (c.loop-event.invariant st bk e h a) within))

pub loop-event-preserved : goal.loop-event-preserved
loop-event-preserved g c = λ st bk e h a.
    let es = map event_of c.args.events.now in
    let i = c.loop-event.event-index in
    let within : i < length es = omega (arith, length-map c.args.events.now event_of, c.loop-event-test.true) in
    let t = c.step.new.self.replica in
    let ks = vec_items c.step.new.self.held in
    let more = come_more st bk (take i es) _ _ _ (c.loop-event.invariant st bk e h a) _ c.in_ok-answer.answer t ks c.in_ok-answer.ensures in
    subst₂ (λ x y. Come st bk x y t ks)
    (ap (λ z. take i es ++ z ∷ []) (event_at c.args.events.now i _ c.loop-event-test.true) ∙ sym (take_more es i (ask height) within))
    (sym (map_push answer_of (vec_items c.loop-event.answers) c.in_ok-answer.answer) ∙ ap (map answer_of) (sym c.in_ok-push.ensures.items))
    more

pub returns : goal.returns
returns g c = λ st bk e h a.
    let es = map event_of c.args.events.now in
    over_end st bk es _ c.loop-event.event-index _ _ (c.loop-event.invariant st bk e h a)
    (omega (arith, length-map c.args.events.now event_of, c.loop-event.auto.event-index-end)) (omega (arith, length-map c.args.events.now event_of, c.loop-event-test.false))
