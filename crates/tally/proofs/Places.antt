-- The least place so far. Assumes nothing.
use Rattle.std.proofs.Common.{◌≡◌, ℕ, ◌+◌, ◌<◌, Bool, true, false, List, [], ◌∷◌, ◌++◌, length, get_or, take, Some, None, Option, sym, ap, ◌∙◌, subst, ap₂, inl, inr}
use Rattle.std.proofs.lemmas.List.{take_more}
use Rattle.std.proofs.lemmas.Bool.{cases_Bool, cond_both, both_ways}
use Rattle.std.proofs.ByRecursion.{All-push, All-weaker, has_push, has_append_left}
use Rattle.terms.specs.Order.{lower}
use Rattle.terms.proofs.Order.{irreflexive, transitive}
use Rattle.tally.specs.declared.rules.Place.{Place}
use Rattle.tally.specs.Least.{Broken}
use Rattle.tally.specs.Least.{LeastPlace, lesser_of, spot}

-- what is not below b is not below a lower h
pub not_below : (k h b : List ℕ) → lower h b ≡ true → lower k b ≡ false → lower k h ≡ false
not_below k h b e f =
    elim (cases_Bool (lower k h)) [ inl r ↦ absurd (both_ways (lower k b) f (transitive k h b r e)) | inr r ↦ r ]

module _ {X : Type 0} (first second : X → ℕ) (p : X → Bool) where
  abbrev at : X → List ℕ
  at x = first x ∷ second x ∷ []

  pub broken_more : (ts : List X) (t : X) (i j : ℕ) → Broken first second p ts i j → Broken first second p (ts ++ t ∷ []) i j
  broken_more ts t i j (u, m, e, f, q) = (u, has_append_left ts (t ∷ []) u m, e, f, q)

  least_skip : (ts : List X) (t : X) (r : Option Place) → p t ≡ false → LeastPlace first second p ts r → LeastPlace first second p (ts ++ t ∷ []) r
  least_skip ts t None n l = All-push _ ts t l n
  least_skip ts t (Some b) n (m, l) = (broken_more ts t _ _ m, All-push _ ts t l (λ q. absurd (both_ways (p t) n q)))

  module _ (t : X) (h : Place) (es : h.first ≡ first t) (eq : h.second ≡ second t) (q : p t ≡ true) where
    same_spot : lower (at t) (spot h) ≡ false
    same_spot = subst (λ z. lower z (spot h) ≡ false) (ap₂ (λ i j. i ∷ j ∷ []) es eq) (irreflexive (spot h))

    new : (ts : List X) → Broken first second p (ts ++ t ∷ []) h.first h.second
    new ts = (t, has_push ts t, sym es, sym eq, q)

    least_take : (ts : List X) (r : Option Place) → LeastPlace first second p ts r → LeastPlace first second p (ts ++ t ∷ []) (lesser_of r h)
    least_take ts None l = (new ts, All-push _ ts t (All-weaker _ _ (λ u n o. absurd (both_ways (p u) n o)) ts l) (λ _. same_spot))
    least_take ts (Some b) (m, l) =
        cond_both (lower (spot h) (spot b)) h b (λ z. LeastPlace first second p (ts ++ t ∷ []) (Some z))
        (λ e. (new ts, All-push _ ts t (All-weaker _ _ (λ u f o. not_below (at u) (spot h) (spot b) e (f o)) ts l) (λ _. same_spot)))
        (λ e. (broken_more ts t _ _ m, All-push _ ts t l (λ _. subst (λ z. lower z (spot b) ≡ false) (ap₂ (λ i j. i ∷ j ∷ []) es eq) e)))

  -- one more entry x of the list, which stands at i
  module _ (ts : List X) (i : ℕ) (x : X) (l : i < length ts) (is : x ≡ get_or ts i x) where
    more : take i ts ++ x ∷ [] ≡ take (i + 1) ts
    more = ap (λ z. take i ts ++ z ∷ []) is ∙ sym (take_more ts i x l)

    pub least_more_no : (r : Option Place) → p x ≡ false → LeastPlace first second p (take i ts) r → LeastPlace first second p (take (i + 1) ts) r
    least_more_no r n k = subst (λ z. LeastPlace first second p z r) more (least_skip (take i ts) x r n k)

    pub least_more_yes : (h : Place) (r : Option Place) → h.first ≡ first x → h.second ≡ second x → p x ≡ true
        → LeastPlace first second p (take i ts) r → LeastPlace first second p (take (i + 1) ts) (lesser_of r h)
    least_more_yes h r es eq q k = subst (λ z. LeastPlace first second p z (lesser_of r h)) more (least_take x h es eq q (take i ts) r k)
