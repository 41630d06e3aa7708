use Rattle.std.proofs.Common.{rules, ◌≡◌, ◌+◌, ◌<◌, ◌≤◌, [], ◌∷◌, ◌++◌, length, Ok, Some, sym, ◌∙◌, subst, inr, arith}
use Rattle.std.proofs.lemmas.Result.{err_from_is_err_and}
use Rattle.arrayvec.specs.ArrayVec.{array_vec_len}
use Rattle.commands.specs.Shown.{shown}
use Rattle.commands.proofs.Cuts.{whole_moves}
use Rattle.blocks.specs.Stages.{admits, afterwards, Next}
use Rattle.blocks.specs.Drafts.{added, spoken}
use Rattle.blocks.specs.Readable.{Stops, is_begin, transactions}
use Rattle.blocks.proofs.Drafting.{room, full}
use Rattle.blocks.proofs.Walking.{Walked, next_stops, next_took, walked_more, stops_excess, counted, finish}
use Rattle.blocks.proofs.Fitting.{readable_fits}
use Rattle.blocks.proofs.walk.read_block.Goals as goal

pub returns-in_err-reading : goal.returns-in_err-reading
returns-in_err-reading c =
    let p = err_from_is_err_and c.from_residual.result c.from_residual.ensures.1 in
    let i = c.loop-reading.invariant in
    rw (p.1, p.2)
    (inr (i.0, next_stops is_begin c.args.bytes.now i.1 c.loop-reading.at c.loop-reading.stage i.2.reached c.in_err-reading.field-0.0 c.in_err-reading.ensures))

pub add-requires-clause-room : goal.add-requires-clause-room
add-requires-clause-room c =
    let bs = c.args.bytes.now in
    let at = c.loop-reading.at in
    let g = c.loop-reading.stage in
    let i = c.loop-reading.invariant in
    let r = c.in-Some.reading in
    let t = next_took bs at (admits g) r (subst (λ o. Next (admits g) bs at (Ok o)) c.in-Some.is c.in_ok-reading.ensures) in
    room c.loop-reading.draft i.1 g (shown r.command) i.2.says t.admitted t.ranged

pub returns-in_err-map_err : goal.returns-in_err-map_err
returns-in_err-map_err c =
    let p = err_from_is_err_and c.from_residual-in_err-map_err.result c.from_residual-in_err-map_err.ensures.1 in
    let bs = c.args.bytes.now in
    let at = c.loop-reading.at in
    let g = c.loop-reading.stage in
    let d = c.loop-reading.draft in
    let i = c.loop-reading.invariant in
    let r = c.in-Some.reading in
    let x = shown r.command in
    let t = next_took bs at (admits g) r (subst (λ o. Next (admits g) bs at (Ok o)) c.in-Some.is c.in_ok-reading.ensures) in
    let e : (1024 < array_vec_len d.transactions + length (transactions x)) × (c.in_err-map_err.field-0.0 ≡ record { number = 6; first = at; second = 0 }) = search rules in
    let f = full (array_vec_len d.transactions) x i.2.says.few e.0 in
    rw (p.1, p.2)
    (inr (i.0, subst (Stops is_begin bs) (sym e.1) (stops_excess is_begin bs i.1 at g i.2.reached x r.next t (counted bs i.1 at g d i.2 ∙ f.0) f.1)))

pub loop-reading-smaller : goal.loop-reading-smaller
loop-reading-smaller c =
    let bs = c.args.bytes.now in
    let at = c.loop-reading.at in
    let g = c.loop-reading.stage in
    let t = next_took bs at (admits g) c.in-Some.reading (subst (λ o. Next (admits g) bs at (Ok o)) c.in-Some.is c.in_ok-reading.ensures) in
    let m = whole_moves bs at t.here in
    let e = t.then in
    omega (arith, m.0, m.1, e)

pub loop-reading-preserved : goal.loop-reading-preserved
loop-reading-preserved c =
    let bs = c.args.bytes.now in
    let at = c.loop-reading.at in
    let g = c.loop-reading.stage in
    let d = c.loop-reading.draft in
    let i = c.loop-reading.invariant in
    let r = c.in-Some.reading in
    let x = shown r.command in
    let found : Next (admits g) bs at (Ok (Some r)) = subst (λ o. Next (admits g) bs at (Ok o)) c.in-Some.is c.in_ok-reading.ensures in
    let t = next_took bs at (admits g) r found in
    let more : (array_vec_len d.transactions + length (transactions x) ≤ 1024) × (c.add.new.self ≡ added d x) = search rules in
    let w = walked_more bs i.1 at g d i.2 x r.next t found.1 more.0 in (
      i.0,
      i.1 ++ x ∷ [],
      subst (λ h. Walked bs (i.1 ++ x ∷ []) r.next h c.add.new.self) (sym c.after-stage.ensures)
          (subst (Walked bs (i.1 ++ x ∷ []) r.next (afterwards x)) (sym more.1) w),
    )

pub invariant_of-result : goal.invariant_of-result
invariant_of-result c =
    let bs = c.args.bytes.now in
    let at = c.loop-reading.at in
    let g = c.loop-reading.stage in
    let d = c.loop-reading.draft in
    let i = c.loop-reading.invariant in
    let ended = subst (λ o. Next (admits g) bs at (Ok o)) c.in_default.is c.in_ok-reading.ensures in
    record { ranges = readable_fits bs (spoken d) (finish bs i.1 at g d i.2 ended i.0) }

pub returns : goal.returns
returns c =
    let bs = c.args.bytes.now in
    let at = c.loop-reading.at in
    let g = c.loop-reading.stage in
    let i = c.loop-reading.invariant in
    let ended = subst (λ o. Next (admits g) bs at (Ok o)) c.in_default.is c.in_ok-reading.ensures in
    finish bs i.1 at g c.loop-reading.draft i.2 ended i.0
