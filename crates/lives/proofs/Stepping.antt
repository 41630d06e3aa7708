-- From what a call of the replica answers and leaves to a step of its life. Assumes nothing.
use Rattle.std.proofs.Common.{◌≡◌, ℕ, List, [], ◌∷◌, ◌++◌, length, get_or, set, Some, None, Ok, Err, Result, refl, ap, ◌∙◌, ap₂, arith}
use Rattle.terms.specs.declared.Fault.{Fault}
use Rattle.terms.specs.declared.Grant.{Grant}
use Rattle.terms.specs.declared.Key.{Key}
use Rattle.blocks.specs.Readable.{Block}
use Rattle.exchange.specs.State.{State}
use Rattle.exchange.specs.Life.{Answer, life, Step, or_refused, fill_of, grants_after, after_reject}
use Rattle.exchange.specs.Life.Event.{found, fill, reject}
use Rattle.exchange.specs.Life.Answer.{done, refused, filled}
use Rattle.replica.specs.Calls.{plainly, fills_of, FoundCall, FillCall}
use Rattle.lives.specs.Events.{spoken}
use Rattle.lives.specs.Steps.{Holdings}

abbrev pub told_fill : Result (ℕ × ℕ) Fault → Answer
told_fill (Ok p) = filled p.0 p.1
told_fill (Err f) = refused f

spoken_is : {X : Type 0} (a : Answer) (x : Result X Fault) → spoken a (plainly x) ≡ or_refused a x
spoken_is a (Ok x) = refl
spoken_is a (Err f) = refl

fill_is : (s : State) (k : Key) (x : Result Block Fault) → told_fill (fills_of s k x) ≡ fill_of s k x
fill_is s k (Ok b) = refl
fill_is s k (Err f) = refl

module _ (s t : State) (hs ks : Holdings) (gs : List Grant) (bs : List ℕ) where
  pub found_step : (r : Result (Unit {0}) Fault) → FoundCall s bs r t → (fs : List Grant) × Step (life s hs gs) (found bs) (spoken done r) (life t hs fs)
  found_step r c =
      (grants_after (life s hs gs) c.ruling, (c.ruling, c.rules, ap (spoken done) c.answer ∙ spoken_is done c.ruling, c.after, refl, refl))

  module _ (i : ℕ) (held : get_or hs i None ≡ Some bs) where
    pub reject_step : t ≡ after_reject s → ks ≡ set hs i None → (fs : List Grant) × Step (life s hs gs) (reject i) done (life t ks fs)
    reject_step e k = (gs, (bs, held, refl, ap₂ (λ x y. life x y gs) e k))

    pub fill_step : (k : Key) (r : Result (ℕ × ℕ) Fault) → FillCall s bs k r → (fs : List Grant) × Step (life s hs gs) (fill i k) (told_fill r) (life s hs fs)
    fill_step k r c = (gs, (bs, held, (c.ruling, c.rules, ap told_fill c.answer ∙ fill_is s k c.ruling, refl)))
