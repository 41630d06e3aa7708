-- From a cleared block to a committed state. Assumes nothing.
use Rattle.std.proofs.Common.{◌≡◌, ℕ, ◌+◌, ◌<◌, true, None, Ok, Err, MatchResult, Result, sym, refl, ap, ◌∙◌, subst, inl, inr, arith}
use Rattle.std.specs.Result.{IsOk}
use Rattle.std.proofs.lemmas.Bool.{cases_eq, and_parts, ltb-true}
use Rattle.terms.specs.Ranges.{is_word}
use Rattle.blocks.specs.Readable.{Block, fit_block}
use Rattle.exchange.specs.State.{State}
use Rattle.exchange.specs.Faults.{Verdict}
use Rattle.exchange.specs.Faults.Cause.{wrong_height}
use Rattle.exchange.specs.Commit.{Sound, Committed}
use Rattle.exchange.proofs.Causes.{faulty}
use Rattle.exchange.proofs.Fit.{fits}
use Rattle.exchange.proofs.Lasting.{still_sound}
use Rattle.replica.specs.Meaning.{Steady}

-- what cannot be refused is done
pub done : {X E P : Type 0} (r : Result X E) → MatchResult r (λ _. P) (λ _. ⊥) → IsOk r × P
done (Ok x) p = (refl, p)
done (Err e) p = absurd p

-- a sound state in which a block has no fault, and what a clearing of the block makes of it
pub record Ready (s : State) (b : Block) : Type 0 where
  pub sound : Sound s
  pub clean : Verdict s b None

pub ready : (s t : State) (b : Block) → s ≡ t → Steady s → t.founded ≡ true → Verdict t b None → Ready s b
ready s t b e steady f clean = record { sound = steady (ap (λ x. x.founded) e ∙ f); clean = subst (λ x. Verdict x b None) (sym e) clean }

module _ (s : State) (b : Block) (fit : fit_block b ≡ true) (r : Ready s b) where
  -- there is a next height
  pub height_left : s.own.height + 1 < 4294967296
  height_left =
      let word : b.height < 4294967296 = ltb-true b.height 4294967296 (and_parts (is_word b.height) _ fit).0 in
      elim (cases_eq b.height (s.own.height + 1)) [
        | inl e ↦ omega (arith, e, word)
        | inr n ↦ absurd (r.clean _ (faulty s b wrong_height b.height s.own.height (n, refl, refl)))
      ]

  pub sound_after : (t : State) → Committed s b t → Sound t
  sound_after t c = still_sound s b r.sound r.clean (fits b fit) t c
