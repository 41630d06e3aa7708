-- A search by halves in a list whose keys rise. Assumes nothing.
use Rattle.std.proofs.Common.{◌≡◌, ℕ, suc, ◌+◌, ◌<◌, ◌≤◌, Bool, true, false, Some, None, Ok, Err, Result, List, length, get_or, take, drop, sym, ap, ◌∙◌, subst, inl, inr, add-one, arith}
use Rattle.std.specs.List.{AllByRecursion}
use Rattle.std.specs.Result.{result_ok}
use Rattle.std.proofs.lemmas.List.{drop_all, drop_more, get_or_default}
use Rattle.std.proofs.ByRecursion.{All-weaker, All-more}
use Rattle.std.proofs.lemmas.Bool.{cases_Bool, both_ways}
use Rattle.terms.specs.Order.{lower, Rising}
use Rattle.ordered.specs.Places.{Gap, At, Sought, Cut, Past}
use Rattle.terms.proofs.Order.{transitive, irreflexive, total, asymmetric}
use Rattle.ordered.proofs.Rising.{rising_around}

-- the entries before `low` lie below k, those from `high` on do not
pub record Window {X : Type 0} (key : X → List ℕ) (xs : List X) (k : List ℕ) (low high : ℕ) : Type 0 where
  pub below : AllByRecursion (λ y. lower (key y) k ≡ true) (take low xs)
  pub above : AllByRecursion (λ y. lower (key y) k ≡ false) (drop high xs)

-- a test of what was read, as a test of what stands there
pub told_by : {A : Type 0} (f : A → Bool) (x y : A) (b : Bool) → x ≡ y → b ≡ f x → f y ≡ b
told_by f x y b e q = ap f (sym e) ∙ sym q

-- y lies above x, and x does not lie below k: nor does y
not_below : (x y k : List ℕ) → lower x y ≡ true → lower x k ≡ false → lower y k ≡ false
not_below x y k p q = elim (cases_Bool (lower y k)) [ inl t ↦ absurd (both_ways (lower x k) q (transitive x y k p t)) | inr t ↦ t ]

module _ {X : Type 0} (key : X → List ℕ) (xs : List X) (k : List ℕ) where
  pub window_start : Window key xs k 0 (length xs)
  window_start = record { below = tt; above = subst (AllByRecursion (λ y. lower (key y) k ≡ false)) (sym (drop_all (length xs) xs (omega arith))) tt }

  -- what holds of the entry at i and of those after it
  from_here : (P : X → Type 0) (i : ℕ) (x : X) → i < length xs → P (get_or xs i x) → AllByRecursion P (drop (suc i) xs) → AllByRecursion P (drop i xs)
  from_here P i x lt h rest = subst (AllByRecursion P) (sym (drop_more xs i x lt)) (h, subst (λ j. AllByRecursion P (drop j xs)) (sym (add-one i)) rest)

  module _ (up : Rising key xs) where
    pub window_low : (low high mid : ℕ) (x : X) → Window key xs k low high → mid < length xs → x ≡ get_or xs mid x → lower (key x) k ≡ true → Window key xs k (mid + 1) high
    window_low low high mid x w lt is here =
        let h = subst (λ z. lower (key z) k ≡ true) is here in
        record {
          below = All-more (λ y. lower (key y) k ≡ true) xs mid x lt
              (All-weaker _ _ (λ y p. transitive (key y) (key (get_or xs mid x)) k p h) (take mid xs) (rising_around key xs mid x lt up).0) h;
          above = w.above;
        }

    pub window_high : (low high mid : ℕ) (x : X) → Window key xs k low high → mid < length xs → x ≡ get_or xs mid x → lower (key x) k ≡ false → Window key xs k low mid
    window_high low high mid x w lt is here =
        let h = subst (λ z. lower (key z) k ≡ false) is here in
        record {
          below = w.below;
          above = from_here (λ y. lower (key y) k ≡ false) mid x lt h
              (All-weaker _ _ (λ y p. not_below (key (get_or xs mid x)) (key y) k p h) (drop (suc mid) xs) (rising_around key xs mid x lt up).1);
        }

    -- the entry at the cut lies above k
    pub gap_here : (i : ℕ) (x : X) → Cut key xs k i → i < length xs → x ≡ get_or xs i x → lower k (key x) ≡ true → Gap key xs k i
    gap_here i x cut lt is here =
        let h = subst (λ z. lower k (key z) ≡ true) is here in
        record {
          within = cut.within;
          low = cut.low;
          high = from_here (λ y. lower k (key y) ≡ true) i x lt h
              (All-weaker _ _ (λ y p. transitive k (key (get_or xs i x)) (key y) h p) (drop (suc i) xs) (rising_around key xs i x lt up).1);
        }

    -- k is the key of the entry at the cut
    pub at_here : (i : ℕ) (x : X) → Cut key xs k i → i < length xs → x ≡ get_or xs i x → lower k (key x) ≡ false → At key xs k i
    at_here i x cut lt is here =
        let first = (subst (AllByRecursion (λ y. lower (key y) k ≡ false)) (drop_more xs i x lt) cut.high).0 in
        let q : key x ≡ k = total (key x) k (subst (λ z. lower (key z) k ≡ false) (sym is) first) here in
        record { within = lt; is = λ d. ap key (get_or_default xs i d x lt ∙ sym is) ∙ q }

    pub past_here : (i : ℕ) (x : X) → Cut key xs k i → i < length xs → x ≡ get_or xs i x → lower k (key x) ≡ true → Past key xs k i
    past_here i x cut lt is here =
        record {
          within = cut.within;
          low = All-weaker _ _ (λ y p. asymmetric (key y) k p) (take i xs) cut.low;
          next = λ h d. subst (λ z. lower k (key z) ≡ true) (is ∙ get_or_default xs i x d lt) here;
        }

    pub past_step : (i : ℕ) (x : X) → Cut key xs k i → i < length xs → x ≡ get_or xs i x → lower k (key x) ≡ false → Past key xs k (i + 1)
    past_step i x cut lt is here =
        let at = at_here i x cut lt is here in
        record {
          within = omega arith;
          low = All-more (λ y. lower k (key y) ≡ false) xs i x lt (All-weaker _ _ (λ y p. asymmetric (key y) k p) (take i xs) cut.low)
              (subst (λ z. lower k z ≡ false) (sym (at.is x)) (irreflexive k));
          next = λ h d.
              let rest : AllByRecursion (λ y. lower k (key y) ≡ true) (drop (suc i) xs) =
              subst (λ z. AllByRecursion (λ y. lower z (key y) ≡ true) (drop (suc i) xs)) (at.is x) (rising_around key xs i x lt up).1 in
              (subst (AllByRecursion (λ y. lower k (key y) ≡ true)) (drop_more xs (i + 1) d h) (subst (λ j. AllByRecursion (λ y. lower k (key y) ≡ true) (drop j xs)) (sym (add-one i)) rest)).0;
        }

  -- the window has closed
  pub window_cut : (low high : ℕ) → Window key xs k low high → low ≡ high → high ≤ length xs → Cut key xs k low
  window_cut low high w e hi =
      record { within = omega arith; low = w.below; high = subst (λ j. AllByRecursion (λ y. lower (key y) k ≡ false) (drop j xs)) (sym e) w.above }

  -- all entries lie below k
  pub gap_end : (i : ℕ) → Cut key xs k i → length xs ≤ i → Gap key xs k i
  gap_end i cut ge = record { within = cut.within; low = cut.low; high = subst (AllByRecursion (λ y. lower k (key y) ≡ true)) (sym (drop_all i xs ge)) tt }

  pub past_end : (i : ℕ) → Cut key xs k i → length xs ≤ i → Past key xs k i
  past_end i cut ge =
      record { within = cut.within; low = All-weaker _ _ (λ y p. asymmetric (key y) k p) (take i xs) cut.low; next = λ h d. absurd (omega arith) }

-- what a search found, as an option

pub sought_some : {X : Type 0} (key : X → List ℕ) (xs : List X) (k : List ℕ) (r : Result ℕ ℕ) (i : ℕ) → result_ok r ≡ Some i → Sought key xs k r → At key xs k i
sought_some key xs k (Ok j) i e at = let q : j ≡ i = cc in subst (At key xs k) q at
sought_some key xs k (Err j) i e gap = cc

pub sought_none : {X : Type 0} (key : X → List ℕ) (xs : List X) (k : List ℕ) (r : Result ℕ ℕ) → result_ok r ≡ None → Sought key xs k r → (i : ℕ) × Gap key xs k i
sought_none key xs k (Ok j) e at = cc
sought_none key xs k (Err j) e gap = (j, gap)
