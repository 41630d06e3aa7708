-- Going through a list whose keys rise, from each key to the next. Assumes nothing.
use Rattle.std.proofs.Common.{◌≡◌, ℕ, ◌<◌, Bool, true, false, cond, List, [], ◌∷◌, ◌++◌, length, sym, refl, ap, ◌∙◌, subst, inl, inr, append_assoc, append-nil, arith}
use Rattle.std.specs.List.{ContainsAt as Has, flat_map, AllByRecursion}
use Rattle.std.proofs.lemmas.Bool.Decides.{nat_tests}
use Rattle.std.proofs.lemmas.Bool.{cases_Bool}
use Rattle.std.proofs.ByRecursion.{All-weaker, all-has, has_append_right}
use Rattle.terms.specs.declared.Key.{Key}
use Rattle.terms.specs.Order.{lower, words, Rising, above}
use Rattle.terms.proofs.Order.{transitive, irreflexive, asymmetric}
use Rattle.state_digest.specs.Rest.{rest}

-- nothing lies below a number of an account, or a key of one, that is 0
pub above_zero : (n : ℕ) → 0 < n → lower (0 ∷ []) (n ∷ []) ≡ true
above_zero n h = grind (arith, nat_tests)

pub above_zeros : (k : Key) → 0 < k.account → lower (0 ∷ 0 ∷ 0 ∷ 0 ∷ 0 ∷ []) (words k) ≡ true
above_zeros k h = grind (arith, nat_tests)

kept : {X : Type 0} (b : Bool) (x : X) (ys : List X) → b ≡ true → cond b (x ∷ ys) ys ≡ x ∷ ys
kept b x ys e = simp e

left : {X : Type 0} (b : Bool) (x : X) (ys : List X) → b ≡ false → cond b (x ∷ ys) ys ≡ ys
left b x ys e = simp e

pick : (b : Bool) (k l : List ℕ) → b ≡ true → cond b k l ≡ k
pick b k l e = simp e

skip : (b : Bool) (k l : List ℕ) → b ≡ false → cond b k l ≡ l
skip b k l e = simp e

-- the entry after a key: what was left above the key is this entry and what is left above its own key
pub record Next {X : Type 0} (key : X → List ℕ) (xs : List X) (k l : List ℕ) : Type 0 where
  pub entry : X
  pub is : key entry ≡ l
  pub has : Has xs entry
  pub more : rest key xs k ≡ entry ∷ rest key xs l

module _ {X : Type 0} (key : X → List ℕ) where
  pub rest_all : (xs : List X) (k : List ℕ) → AllByRecursion (λ x. lower k (key x) ≡ true) xs → rest key xs k ≡ xs
  rest_all [] k a = refl
  rest_all (x ∷ xs) k a = kept _ x (rest key xs k) a.0 ∙ ap (λ ys. x ∷ ys) (rest_all xs k a.1)

  pub rest_end : (xs : List X) (k : List ℕ) → AllByRecursion (λ x. key x ≡ [] → ⊥) xs → above key xs k ≡ [] → rest key xs k ≡ []
  rest_end [] k a e = refl
  rest_end (x ∷ xs) k a e =
      elim (cases_Bool (lower k (key x))) [
        | inl t ↦ absurd (a.0 (sym (pick _ (key x) (above key xs k) t) ∙ e))
        | inr t ↦ left _ x (rest key xs k) t ∙ rest_end xs k a.1 (sym (skip _ (key x) (above key xs k) t) ∙ e)
      ]

  pub rest_next : (xs : List X) (k l : List ℕ) → Rising key xs → (l ≡ [] → ⊥) → above key xs k ≡ l → Next key xs k l
  rest_next [] k l up some e = absurd (some (sym e))
  rest_next (x ∷ xs) k l up some e =
      elim (cases_Bool (lower k (key x))) [
        | inl t ↦
            let is : key x ≡ l = sym (pick _ (key x) (above key xs k) t) ∙ e in
            let far : rest key xs k ≡ xs = rest_all xs k (All-weaker _ _ (λ y q. transitive k (key x) (key y) t q) xs up.0) in
            let near : rest key xs (key x) ≡ xs = rest_all xs (key x) up.0 in
            let own : rest key (x ∷ xs) (key x) ≡ rest key xs (key x) = left _ x (rest key xs (key x)) (irreflexive (key x)) in
            record {
              entry = x;
              is = is;
              has = (0, omega arith, λ d. refl);
              more = kept _ x (rest key xs k) t ∙ ap (λ ys. x ∷ ys) (far ∙ sym near ∙ sym own) ∙ ap (λ m. x ∷ rest key (x ∷ xs) m) is;
            }
        | inr t ↦
            let n = rest_next xs k l up.1 some (sym (skip _ (key x) (above key xs k) t) ∙ e) in
            let low : lower (key x) (key n.entry) ≡ true = all-has _ xs n.entry up.0 n.has in
            let off : lower l (key x) ≡ false = subst (λ m. lower m (key x) ≡ false) n.is (asymmetric (key x) (key n.entry) low) in
            record {
              entry = n.entry;
              is = n.is;
              has = has_append_right (x ∷ []) xs n.entry n.has;
              more = left _ x (rest key xs k) t ∙ n.more ∙ ap (λ ys. n.entry ∷ ys) (sym (left _ x (rest key xs l) off));
            }
      ]

  -- f of what is left, put behind what is taken: each entry goes from the one to the other
  module _ {Y : Type 0} (f : X → List Y) (xs : List X) (k : List ℕ) where
    pub moved : (l : List ℕ) (w z : List Y) (n : Next key xs k l) → w ++ flat_map f (rest key xs k) ≡ z → (w ++ f n.entry) ++ flat_map f (rest key xs l) ≡ z
    moved l w z n e = append_assoc w (f n.entry) (flat_map f (rest key xs l)) ∙ (ap (λ ys. w ++ flat_map f ys) (sym n.more) ∙ e)

    pub fewer : (l : List ℕ) → Next key xs k l → length (rest key xs l) < length (rest key xs k)
    fewer l n = omega (arith, ap length n.more)

    pub ended : (w z : List Y) → rest key xs k ≡ [] → w ++ flat_map f (rest key xs k) ≡ z → w ≡ z
    ended w z n e = sym (append-nil w) ∙ (ap (λ ys. w ++ flat_map f ys) (sym n) ∙ e)
