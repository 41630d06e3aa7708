-- Lists whose keys rise: what stands under each key, and what an insertion, a removal and a write leave there.
-- Assumes nothing.
use Rattle.std.proofs.Common.{◌≡◌, ℕ, zero, suc, ◌+◌, ◌<◌, ◌≤◌, Bool, true, false, cond, List, [], ◌∷◌, ◌++◌, length, get_or, take, drop, set, sum_by, sym, refl, ap, ◌∙◌, subst, inl, inr, add-one, arith}
use Rattle.std.specs.List.{insert, remove, AllByRecursion}
use Rattle.std.proofs.lemmas.List.{take-append-drop, take_all}
use Rattle.std.proofs.lemmas.List.Sums.{sum_by-cons, sum_by-append, sum_by-take-drop, sum_by-drop_more, sum_by-set}
use Rattle.std.proofs.lemmas.Bool.{cond-true, cond-false, cases_Bool, and_parts, and_from}
use Rattle.std.proofs.ByRecursion.{All-weaker, All-append, All-get_or, All-set, All-take, All-drop}
use Rattle.terms.specs.Order.{lower, same, Rising, under, above}
use Rattle.terms.specs.Ranges.{every}
use Rattle.terms.specs.Holdings.{rising}
use Rattle.ordered.specs.Places.{Gap, Past}
use Rattle.terms.proofs.Order.{apart, not_both, same_is, same_refl, same_sym}

pub sum_by_zero : {X : Type 0} (f : X → ℕ) (xs : List X) → AllByRecursion (λ x. f x ≡ 0) xs → sum_by f xs ≡ 0
sum_by_zero f [] h = refl
sum_by_zero f (x ∷ xs) h = omega (arith, sum_by-cons f x xs, sum_by_zero f xs h.1, h.0)

pub all_2 : {X : Type 0} {P Q : X → Type 0} (R : X → Type 0) → ((x : X) → P x → Q x → R x) → (xs : List X) → AllByRecursion P xs → AllByRecursion Q xs → AllByRecursion R xs
all_2 R f [] a b = tt
all_2 R f (x ∷ xs) a b = (f x a.0 b.0, all_2 R f xs a.1 b.1)

-- a test of each entry, as a fact, and back

pub every_all : {X : Type 0} (p : X → Bool) (xs : List X) → every p xs ≡ true → AllByRecursion (λ x. p x ≡ true) xs
every_all p [] e = tt
every_all p (x ∷ xs) e = let h = and_parts (p x) (every p xs) e in (h.0, every_all p xs h.1)

pub all_every : {X : Type 0} (p : X → Bool) (xs : List X) → AllByRecursion (λ x. p x ≡ true) xs → every p xs ≡ true
all_every p [] a = refl
all_every p (x ∷ xs) a = and_from _ _ a.0 (all_every p xs a.1)

pub all_parts : {X : Type 0} (P : X → Type 0) (xs ys : List X) → AllByRecursion P (xs ++ ys) → AllByRecursion P xs × AllByRecursion P ys
all_parts P [] ys a = (tt, a)
all_parts P (x ∷ xs) ys a = let h = all_parts P xs ys a.1 in ((a.0, h.0), h.1)

pub all_inserted : {X : Type 0} (P : X → Type 0) (xs : List X) (i : ℕ) (x : X) → P x → AllByRecursion P xs → AllByRecursion P (insert xs i x)
all_inserted P xs i x p a = All-append P (take i xs) (x ∷ drop i xs) (All-take P i xs a) (p, All-drop P i xs a)

pub all_removed : {X : Type 0} (P : X → Type 0) (xs : List X) (i : ℕ) → AllByRecursion P xs → AllByRecursion P (remove xs i)
all_removed P xs i a = All-append P (take i xs) (drop (suc i) xs) (All-take P i xs a) (All-drop P (suc i) xs a)

module _ {X : Type 0} (key : X → List ℕ) where
  pub rising_is : (xs : List X) → rising key xs ≡ true → Rising key xs
  rising_is [] e = tt
  rising_is (x ∷ xs) e = let h = and_parts (every (λ y. lower (key x) (key y)) xs) (rising key xs) e in (every_all _ xs h.0, rising_is xs h.1)

  pub is_rising : (xs : List X) → Rising key xs → rising key xs ≡ true
  is_rising [] r = refl
  is_rising (x ∷ xs) r = and_from _ _ (all_every _ xs r.0) (is_rising xs r.1)

  pub rising_parts : (xs ys : List X) → Rising key (xs ++ ys) → Rising key xs × Rising key ys × AllByRecursion (λ x. AllByRecursion (λ y. lower (key x) (key y) ≡ true) ys) xs
  rising_parts [] ys r = (tt, r, tt)
  rising_parts (x ∷ xs) ys r =
      let h = rising_parts xs ys r.1 in
      let a = all_parts _ xs ys r.0 in
      ((a.0, h.0), h.1, (a.1, h.2))

  pub rising_join : (xs ys : List X) → Rising key xs → Rising key ys → AllByRecursion (λ x. AllByRecursion (λ y. lower (key x) (key y) ≡ true) ys) xs → Rising key (xs ++ ys)
  rising_join [] ys a b c = b
  rising_join (x ∷ xs) ys a b c = (All-append _ xs ys a.0 c.0, rising_join xs ys a.1 b c.1)

  pub rising_inserted : (xs : List X) (i : ℕ) (x : X) → Rising key xs → Gap key xs (key x) i → Rising key (insert xs i x)
  rising_inserted xs i x up g =
      let p = rising_parts (take i xs) (drop i xs) (subst (Rising key) (sym (take-append-drop i xs)) up) in
      rising_join (take i xs) (x ∷ drop i xs) p.0 (g.high, p.1) (all_2 _ (λ z a b. (a, b)) (take i xs) g.low p.2)

  pub rising_removed : (xs : List X) (i : ℕ) → Rising key xs → Rising key (remove xs i)
  rising_removed [] zero r = tt
  rising_removed [] (suc i) r = tt
  rising_removed (x ∷ xs) zero r = r.1
  rising_removed (x ∷ xs) (suc i) r = (all_removed _ xs i r.0, rising_removed xs i r.1)

  pub rising_set : (xs : List X) (i : ℕ) (y d : X) → i < length xs → key y ≡ key (get_or xs i d) → Rising key xs → Rising key (set xs i y)
  rising_set [] i y d lt e r = tt
  rising_set (x ∷ xs) zero y d lt e r = (subst (λ k. AllByRecursion (λ z. lower k (key z) ≡ true) xs) (sym e) r.0, r.1)
  rising_set (x ∷ xs) (suc i) y d lt e r =
      let h : i < length xs = omega arith in (
        All-set _ xs i y (subst (λ k. lower (key x) k ≡ true) (sym e) (All-get_or (λ z. lower (key x) (key z) ≡ true) xs i d h r.0)) r.0,
        rising_set xs i y d h e r.1,
      )

  -- what lies before the entry at i, and what after
  pub rising_around : (xs : List X) (i : ℕ) (d : X) → i < length xs → Rising key xs
      → AllByRecursion (λ y. lower (key y) (key (get_or xs i d)) ≡ true) (take i xs) × AllByRecursion (λ y. lower (key (get_or xs i d)) (key y) ≡ true) (drop (suc i) xs)
  rising_around [] i d lt r = absurd (omega arith)
  rising_around (x ∷ xs) zero d lt r = (tt, r.0)
  rising_around (x ∷ xs) (suc i) d lt r =
      let h : i < length xs = omega arith in
      let a = rising_around xs i d h r.1 in
      ((All-get_or (λ z. lower (key x) (key z) ≡ true) xs i d h r.0, a.0), a.1)

  -- look-ups

  pub under_above : (f : X → ℕ) (xs : List X) (k : List ℕ) → AllByRecursion (λ y. lower k (key y) ≡ true) xs → under key f xs k ≡ 0
  under_above f xs k h = sum_by_zero _ xs (All-weaker _ _ (λ y p. cond-false _ (f y) 0 (apart k (key y) p)) xs h)

  -- the first entry is what stands under its key
  pub under_first : (f : X → ℕ) (x : X) (xs : List X) → Rising key (x ∷ xs) → under key f (x ∷ xs) (key x) ≡ f x
  under_first f x xs r =
      omega (arith, sum_by-cons (λ y. cond (same (key y) (key x)) (f y) 0) x xs, under_above f xs (key x) r.0, cond-true _ (f x) 0 (same_refl (key x)))

  -- and so is each
  pub under_each : (f : X → ℕ) (xs : List X) → Rising key xs → AllByRecursion (λ x. under key f xs (key x) ≡ f x) xs
  under_each f [] r = tt
  under_each f (x ∷ xs) r = (
    under_first f x xs r,
    all_2 _ (λ y p q. omega (arith, sum_by-cons (λ z. cond (same (key z) (key y)) (f z) 0) x xs, p, cond-false _ (f x) 0 (not_both (key x) (key y) q))) xs
        (under_each f xs r.1) r.0,
  )

  pub under_at : (f : X → ℕ) (xs : List X) (i : ℕ) (d : X) → Rising key xs → i < length xs → under key f xs (key (get_or xs i d)) ≡ f (get_or xs i d)
  under_at f xs i d r lt = All-get_or (λ x. under key f xs (key x) ≡ f x) xs i d lt (under_each f xs r)

  pub under_none : (f : X → ℕ) (xs : List X) (k : List ℕ) → AllByRecursion (λ x. same (key x) k ≡ false) xs → under key f xs k ≡ 0
  under_none f xs k h = sum_by_zero _ xs (All-weaker _ _ (λ x p. cond-false _ (f x) 0 p) xs h)

  -- where no entry has the key, nothing stands under it
  pub under_absent : (f : X → ℕ) (xs : List X) (k : List ℕ) → under key (λ _. 1) xs k ≡ 0 → under key f xs k ≡ 0
  under_absent f [] k z = refl
  under_absent f (x ∷ xs) k z =
      let one = sum_by-cons (λ y. cond (same (key y) k) 1 0) x xs in
      let all = sum_by-cons (λ y. cond (same (key y) k) (f y) 0) x xs in
      elim (cases_Bool (same (key x) k)) [
        | inl e ↦ absurd (omega (arith, one, z, cond-true {A = ℕ} (same (key x) k) 1 0 e))
        | inr e ↦ omega (arith, all, cond-false (same (key x) k) (f x) 0 e, under_absent f xs k (omega (arith, one, z)))
      ]

  pub gap_apart : (xs : List X) (k : List ℕ) (i : ℕ) → Gap key xs k i → AllByRecursion (λ x. same (key x) k ≡ false) xs
  gap_apart xs k i g =
      subst (AllByRecursion (λ x. same (key x) k ≡ false)) (take-append-drop i xs)
      (All-append _ (take i xs) (drop i xs)
      (All-weaker _ _ (λ y p. not_both (key y) k p) (take i xs) g.low)
      (All-weaker _ _ (λ y p. apart k (key y) p) (drop i xs) g.high))

  pub under_gap : (f : X → ℕ) (xs : List X) (k : List ℕ) (i : ℕ) → Gap key xs k i → under key f xs k ≡ 0
  under_gap f xs k i g = under_none f xs k (gap_apart xs k i g)

  pub under_inserted : (f : X → ℕ) (xs : List X) (i : ℕ) (x : X) → Gap key xs (key x) i
      → (k : List ℕ) → under key f (insert xs i x) k ≡ cond (same k (key x)) (f x) (under key f xs k)
  under_inserted f xs i x g k =
      let h : X → ℕ = λ y. cond (same (key y) k) (f y) 0 in
      let a = sum_by-append h (take i xs) (x ∷ drop i xs) in
      let b = sum_by-cons h x (drop i xs) in
      let c = sum_by-take-drop h xs i in
      elim (cases_Bool (same k (key x))) [
        | inl e ↦
            let z : under key f xs k ≡ 0 = ap (under key f xs) (same_is k (key x) e) ∙ under_gap f xs (key x) i g in
            omega (arith, a, b, c, z, cond-true _ (f x) 0 (same_sym (key x) k ∙ e)) ∙ sym (cond-true _ (f x) (under key f xs k) e)
        | inr e ↦ omega (arith, a, b, c, cond-false _ (f x) 0 (same_sym (key x) k ∙ e)) ∙ sym (cond-false _ (f x) (under key f xs k) e)
      ]

  pub under_set : (f : X → ℕ) (xs : List X) (i : ℕ) (y d : X) → Rising key xs → i < length xs → key y ≡ key (get_or xs i d)
      → (k : List ℕ) → under key f (set xs i y) k ≡ cond (same k (key y)) (f y) (under key f xs k)
  under_set f xs i y d r lt ke k =
      let h : X → ℕ = λ z. cond (same (key z) k) (f z) 0 in
      let a = sum_by-set h xs i y d lt in
      let s : same (key (get_or xs i d)) k ≡ same k (key y) = ap (λ l. same l k) (sym ke) ∙ same_sym (key y) k in
      elim (cases_Bool (same k (key y))) [
        | inl e ↦
            let z : under key f xs k ≡ f (get_or xs i d) = ap (under key f xs) (same_is k (key y) e ∙ ke) ∙ under_at f xs i d r lt in
            omega (arith, a, z, cond-true _ (f y) 0 (same_sym (key y) k ∙ e), cond-true _ (f (get_or xs i d)) 0 (s ∙ e)) ∙ sym (cond-true _ (f y) (under key f xs k) e)
        | inr e ↦
            omega (arith, a, cond-false _ (f y) 0 (same_sym (key y) k ∙ e), cond-false _ (f (get_or xs i d)) 0 (s ∙ e)) ∙ sym (cond-false _ (f y) (under key f xs k) e)
      ]

  pub under_removed : (f : X → ℕ) (xs : List X) (i : ℕ) (d : X) → Rising key xs → i < length xs
      → (k : List ℕ) → under key f (remove xs i) k ≡ cond (same k (key (get_or xs i d))) 0 (under key f xs k)
  under_removed f xs i d r lt k =
      let h : X → ℕ = λ z. cond (same (key z) k) (f z) 0 in
      let x : X = get_or xs i d in
      let a = sum_by-append h (take i xs) (drop (suc i) xs) in
      let b = sum_by-drop_more h xs i d lt in
      let n : sum_by h (drop (i + 1) xs) ≡ sum_by h (drop (suc i) xs) = ap (λ j. sum_by h (drop j xs)) (add-one i) in
      let c = sum_by-take-drop h xs i in
      elim (cases_Bool (same k (key x))) [
        | inl e ↦
            let z : under key f xs k ≡ f x = ap (under key f xs) (same_is k (key x) e) ∙ under_at f xs i d r lt in
            omega (arith, a, b, c, n, z, cond-true _ (f x) 0 (same_sym (key x) k ∙ e)) ∙ sym (cond-true _ 0 (under key f xs k) e)
        | inr e ↦ omega (arith, a, b, c, n, cond-false _ (f x) 0 (same_sym (key x) k ∙ e)) ∙ sym (cond-false _ 0 (under key f xs k) e)
      ]

  -- the lowest key above k

  pub above_none : (xs : List X) (k : List ℕ) → AllByRecursion (λ y. lower k (key y) ≡ false) xs → above key xs k ≡ []
  above_none [] k a = refl
  above_none (x ∷ xs) k a = cond-false (lower k (key x)) (key x) (above key xs k) a.0 ∙ above_none xs k a.1

  pub above_at : (xs : List X) (k : List ℕ) (i : ℕ) (d : X) → i < length xs → AllByRecursion (λ y. lower k (key y) ≡ false) (take i xs)
      → lower k (key (get_or xs i d)) ≡ true → above key xs k ≡ key (get_or xs i d)
  above_at [] k i d lt a h = absurd (omega arith)
  above_at (x ∷ xs) k zero d lt a h = cond-true (lower k (key x)) (key x) (above key xs k) h
  above_at (x ∷ xs) k (suc i) d lt a h =
      cond-false (lower k (key x)) (key x) (above key xs k) a.0 ∙ above_at xs k i d (omega arith) a.1 h

  -- an entry that adds nothing, and one that stays as it was in what f reads

  pub under_inserted_zero : (f : X → ℕ) (xs : List X) (i : ℕ) (x : X) → f x ≡ 0 → (k : List ℕ) → under key f (insert xs i x) k ≡ under key f xs k
  under_inserted_zero f xs i x z k =
      let h : X → ℕ = λ y. cond (same (key y) k) (f y) 0 in
      let e : h x ≡ 0 = elim (same (key x) k) as (λ b. cond b (f x) 0 ≡ 0) [ true ↦ z | false ↦ refl ] in
      omega (arith, sum_by-append h (take i xs) (x ∷ drop i xs), sum_by-cons h x (drop i xs), sum_by-take-drop h xs i, e)

  pub under_set_same : (f : X → ℕ) (xs : List X) (i : ℕ) (y d : X) → i < length xs → key y ≡ key (get_or xs i d) → f y ≡ f (get_or xs i d)
      → (k : List ℕ) → under key f (set xs i y) k ≡ under key f xs k
  under_set_same f xs i y d lt ke fe k =
      let h : X → ℕ = λ z. cond (same (key z) k) (f z) 0 in
      let e : h y ≡ h (get_or xs i d) = ap (λ l. cond (same l k) (f y) 0) ke ∙ ap (λ n. cond (same (key (get_or xs i d)) k) n 0) fe in
      omega (arith, sum_by-set h xs i y d lt, e)

  pub past_all : (xs : List X) (k : List ℕ) (i : ℕ) → Past key xs k i → length xs ≤ i → above key xs k ≡ []
  past_all xs k i p h = above_none xs k (subst (AllByRecursion (λ y. lower k (key y) ≡ false)) (take_all i xs h) p.low)
