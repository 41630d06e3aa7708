-- A run that goes on and stops. Assumes nothing.
use Rattle.std.proofs.Common.{◌≡◌, ℕ, ◌<◌, ◌≤◌, List, [], ◌∷◌, ◌++◌, length, get_or, take, Ok, Err, sym, refl, ap, ◌∙◌, subst, ap₂, arith}
use Rattle.std.proofs.lemmas.List.{length-take}
use Rattle.terms.specs.declared.Grant.{Grant}
use Rattle.terms.specs.Holdings.{Store, Book}
use Rattle.exchange.specs.State.{State, newborn}
use Rattle.exchange.specs.Life as ex
use Rattle.exchange.specs.Life.{Life, life, birth, Step, Runs}
use Rattle.exchange.specs.Life.Question.{height}
use Rattle.exchange.specs.Life.Event.{ask}
use Rattle.lives.specs.declared.events.Answer.{Answer}
use Rattle.lives.specs.declared.events.Stop.{Stop}
use Rattle.lives.specs.declared.events.Stop.TheVariants.{NotHeld, NoMemory}
use Rattle.lives.specs.Events.{Ending, answer_of}
use Rattle.lives.specs.Law.{Unheld, Ran}
use Rattle.lives.specs.Steps.{Holdings, StepOr, Come, Over}
use Rattle.lives.proofs.Runs.{run_more, run_length, lived}

pub come_none : (st : Store) (bk : Book) (us : List ex.Answer) (s : State) (hs : Holdings) → s ≡ newborn st bk → hs ≡ [] → us ≡ [] → Come st bk [] us s hs
come_none st bk us s hs e h a = record {
  last = birth st bk;
  run = subst (λ x. Runs (birth st bk) [] x (birth st bk)) (sym a) refl;
  state = sym e;
  held = sym h;
}

module _ (st : Store) (bk : Book) (es : List ex.Event) (us : List ex.Answer) (s : State) (hs : Holdings) (c : Come st bk es us s hs) where
  here : c.last ≡ life s hs c.last.grants
  here = ap₂ (λ x y. life x y c.last.grants) c.state c.held

  pub come_more : (e : ex.Event) (a : Answer) (t : State) (ks : Holdings) → StepOr s hs e t ks (Ok a) → Come st bk (es ++ e ∷ []) (us ++ answer_of a ∷ []) t ks
  come_more e a t ks w =
      let z = w c.last.grants in
      record {
        last = life t ks z.0;
        run = run_more es us (birth st bk) c.last (life t ks z.0) e (answer_of a) c.run (subst (λ x. Step x e (answer_of a) (life t ks z.0)) (sym here) z.1);
        state = refl;
        held = refl;
      }

-- where a run stops

module _ (st : Store) (bk : Book) (es : List ex.Event) (us : List ex.Answer) (i : ℕ) (s : State) (hs : Holdings) (c : Come st bk (take i es) us s hs) where
  many : i ≤ length es → length us ≡ i
  many h = omega (arith, run_length (take i es) us (birth st bk) c.last c.run, length-take i es, h)

  run : i ≤ length es → Runs (birth st bk) (take (length us) es) us c.last
  run h = subst (λ n. Runs (birth st bk) (take n es) us c.last) (sym (many h)) c.run

  pub over_end : i ≤ length es → length es ≤ i → Over st bk es us (Ok tt)
  over_end h k = record { last = c.last; run = run h; stopped = omega (arith, many h, h, k) }

  pub over_memory : i ≤ length es → Over st bk es us (Err NoMemory)
  over_memory h = record { last = c.last; run = run h; stopped = tt }

  unheld : (e : ex.Event) → ((gs : List Grant) → Unheld (life s hs gs) e) → Unheld c.last e
  unheld e u = subst (λ x. Unheld x e) (sym (ap₂ (λ x y. life x y c.last.grants) c.state c.held)) (u c.last.grants)

  pub over_stop : (e : ex.Event) (t : State) (ks : Holdings) (stop : Stop) → i < length es → e ≡ get_or es i (ask height) → StepOr s hs e t ks (Err stop) → Over st bk es us (Err stop)
  over_stop e t ks NotHeld h x w = record {
    last = c.last;
    run = run (omega arith);
    stopped = (omega (arith, many (omega arith), h), subst (λ n. Unheld c.last (get_or es n (ask height))) (sym (many (omega arith))) (subst (Unheld c.last) x (unheld e w)));
  }
  over_stop e t ks NoMemory h x w = over_memory (omega arith)

-- a run that is over, as a life
pub ran : (st : Store) (bk : Book) (es : List ex.Event) (us : List ex.Answer) (stop : Ending) → Over st bk es us stop → Ran st bk es us stop
ran st bk es us stop o = record { last = o.last; lived = lived st bk (take (length us) es) us o.last o.run; stopped = o.stopped }
