-- An offer taken out and another placed. Assumes nothing.
use Rattle.std.proofs.Common.{◌≡◌, ℕ, ◌<◌, true, false, cond, not, ◌&&◌, ltb, Ok, Result, sym, ap, ◌∙◌, subst, inl, inr, arith, MatchResult}
use Rattle.terms.specs.declared.Fault.{Fault}
use Rattle.std.proofs.lemmas.Bool.{cond-true, cond-false, cases_Bool, and_from, ltb-false, both_ways}
use Rattle.terms.specs.declared.Key.{Key}
use Rattle.terms.specs.Order.{same, words}
use Rattle.terms.specs.Ranges.{fit_key, is_amount}
use Rattle.terms.specs.Holdings.{Book, amount_at}
use Rattle.terms.proofs.Order.{same_sym}
use Rattle.offers.specs.Changes.{place_answer, taken, replace_answer, Placed, Reduced, Replaced}
use Rattle.offers.proofs.Sound.{SoundBook}
use Rattle.offers.proofs.Replies.{place_made, replace_ends}

module _ (b c d : Book) (j k : Key) (v : ℕ) where
  -- the new key is free once the old one is out
  pub free_then : taken b j k ≡ false → Reduced b j 0 c → amount_at c.offers k ≡ 0
  free_then free r =
      r.amounts k
      ∙ elim (cases_Bool (same (words k) (words j))) [
        | inl e ↦ cond-true _ 0 (amount_at b.offers k) e
        | inr e ↦
            cond-false _ 0 (amount_at b.offers k) e
            ∙ elim (cases_Bool (ltb 0 (amount_at b.offers k))) [
              | inl t ↦ absurd (both_ways (taken b j k) free (and_from _ _ (ap not (same_sym (words j) (words k) ∙ e)) t))
              | inr f ↦ omega (arith, ltb-false 0 (amount_at b.offers k) f)
            ]
      ]

  -- nothing refuses the new offer
  pub fits_then : SoundBook b → taken b j k ≡ false → (fit_key k && is_amount v) ≡ true → Reduced b j 0 c → Ok tt ≡ place_answer c k v
  fits_then ok free fit r = place_made c k v (free_then free r) (omega (arith, r.count, r.capacity, ok.few)) fit

  pub replaced : Reduced b j 0 c → Placed c k v d → Replaced b j k v d
  replaced r p =
      record {
        capacity = p.capacity ∙ r.capacity;
        count = omega (arith, p.count, r.count);
        amounts = λ i. p.amounts i ∙ ap (cond (same (words i) (words k)) v) (r.amounts i);
      }

  -- so the placing is made, and with it the replacing
  pub ends : (r : Result (Unit {0}) Fault) → SoundBook b → 0 < amount_at b.offers j → taken b j k ≡ false → (fit_key k && is_amount v) ≡ true → Reduced b j 0 c
      → r ≡ place_answer c k v → MatchResult r (λ _. Placed c k v d) (λ _. d ≡ c)
      → (r ≡ replace_answer b j k v) × MatchResult r (λ _. Replaced b j k v d) (λ _. d ≡ b)
  ends r ok stands free fit out answer after =
      let done : r ≡ Ok tt = answer ∙ sym (fits_then ok free fit out) in (
        done ∙ replace_ends b j k v free stands true fit,
        subst (λ x. MatchResult x (λ _. Replaced b j k v d) (λ _. d ≡ b)) (sym done)
            (replaced out (subst (λ x. MatchResult x (λ _. Placed c k v d) (λ _. d ≡ c)) done after)),
      )
