-- Slots, order and buckets of a hashed store: what a probe's answer says of the accounts, and what an opening and a
-- write leave. Assumes nothing.
use Rattle.std.proofs.Common.{◌≡◌, ℕ, zero, suc, ◌+◌, ◌<◌, ◌≤◌, Bool, Some, None, Option, MatchOption, true, false, cond, eqb, ltb, List, [], ◌∷◌, map, length, get_or, take, drop, set, sum_by, sym, refl, ap, ◌∙◌, subst, inl, inr, arith}
use Rattle.std.specs.List.{insert, AllByRecursion}
use Rattle.std.proofs.lemmas.List.{length-map, length-set, length-take-le, get_or-map, get_or_default, get_or-set_same, get_or-set_other, get_or-take, take-set-le}
use Rattle.std.proofs.lemmas.List.Sums.{sum_by-cons, sum_by-append, sum_by-take-drop, sum_by_more, sum_by-set}
use Rattle.std.proofs.ByRecursion.{All-weaker, All-get_or, All-take, All-drop}
use Rattle.std.proofs.lemmas.Bool.{cases_Bool, cases_eq, cond-true, cond-false, eq-eqb, ne_eqb, eqb-true, ltb-true, lt-ltb, and_parts, and_from, both_ways, true≢false}
use Rattle.terms.specs.declared.Account.{Account}
use Rattle.terms.specs.Order.{lower, same, Rising, name, under, above}
use Rattle.terms.specs.Ranges.{every, fit_account}
use Rattle.terms.specs.Holdings.{standing, sound_store}
use Rattle.ordered.specs.Places.{Gap, At}
use Rattle.terms.proofs.Order.{irreflexive, same_is}
use Rattle.ordered.proofs.Rising.{every_all, all_every, all_2, all_inserted, under_at, under_above, under_none}
use Rattle.ordered.proofs.Shift.{put_is}
use Rattle.accounts.specs.Changes.{Opened, BalanceSet, FloorSet}
use Rattle.accounts.proofs.Sound.{SoundStore, store_parts, account_parts}
use Rattle.accounts.proofs.Edits.{same_one, store_is, with_accounts, fresh, with_balance, with_floor, opened, balance_set, floor_set}
use Rattle.hashed_store.specs.declared.entry.Entry.{Entry}
use Rattle.hashed_store.specs.Index.{number, tag, blank, lying, store_of, laid, taken, Lies, Found}
use Rattle.hashed_store.specs.declared.probe.Probe.{Probe}
use Rattle.hashed_store.specs.declared.probe.Probe.TheVariants.{Held, Free, Full}
use Rattle.hashed_store.specs.Probing.{has, seen, turned, Probed}
use Rattle.std.specs.Option.{is_some}

-- lists and sums

sum_by_same : {X : Type 0} (f g : X → ℕ) (xs : List X) → AllByRecursion (λ x. f x ≡ g x) xs → sum_by f xs ≡ sum_by g xs
sum_by_same f g [] h = refl
sum_by_same f g (x ∷ xs) h = omega (arith, sum_by-cons f x xs, sum_by-cons g x xs, sum_by_same f g xs h.1, h.0)

all_of : {X : Type 0} (P : X → Type 0) → ((x : X) → P x) → (xs : List X) → AllByRecursion P xs
all_of P h [] = tt
all_of P h (x ∷ xs) = (h x, all_of P h xs)

sum_by_map : {X Y : Type 0} (f : Y → ℕ) (g : X → Y) (xs : List X) → sum_by f (map g xs) ≡ sum_by (λ x. f (g x)) xs
sum_by_map f g [] = refl
sum_by_map f g (x ∷ xs) = omega (arith, sum_by-cons f (g x) (map g xs), sum_by-cons (λ x. f (g x)) x xs, sum_by_map f g xs)

sum_by_inserted : {X : Type 0} (f : X → ℕ) (xs : List X) (i : ℕ) (x : X) → sum_by f (insert xs i x) ≡ sum_by f xs + f x
sum_by_inserted f xs i x = omega (arith, sum_by-append f (take i xs) (x ∷ drop i xs), sum_by-cons f x (drop i xs), sum_by-take-drop f xs i)

sum_by_ones : {X : Type 0} (xs : List X) → sum_by (λ _. 1) xs ≡ length xs
sum_by_ones [] = refl
sum_by_ones (x ∷ xs) = omega (arith, sum_by-cons (λ _. 1) x xs, sum_by_ones xs)

map_same : {X Y : Type 0} (f g : X → Y) (xs : List X) → AllByRecursion (λ x. f x ≡ g x) xs → map f xs ≡ map g xs
map_same f g [] h = refl
map_same f g (x ∷ xs) h = ap (λ y. y ∷ map f xs) h.0 ∙ ap (λ l. g x ∷ l) (map_same f g xs h.1)

map_inserted : {X Y : Type 0} (f : X → Y) (xs : List X) (i : ℕ) (x : X) → map f (insert xs i x) ≡ insert (map f xs) i (f x)
map_inserted f [] zero x = refl
map_inserted f [] (suc i) x = refl
map_inserted f (y ∷ ys) zero x = refl
map_inserted f (y ∷ ys) (suc i) x = ap (λ l. f y ∷ l) (map_inserted f ys i x)

all_take_map : {X Y : Type 0} (P : Y → Type 0) (f : X → Y) (i : ℕ) (xs : List X) → AllByRecursion (λ x. P (f x)) (take i xs) → AllByRecursion P (take i (map f xs))
all_take_map P f zero [] a = tt
all_take_map P f (suc i) [] a = tt
all_take_map P f zero (x ∷ xs) a = tt
all_take_map P f (suc i) (x ∷ xs) a = (a.0, all_take_map P f i xs a.1)

all_drop_map : {X Y : Type 0} (P : Y → Type 0) (f : X → Y) (i : ℕ) (xs : List X) → AllByRecursion (λ x. P (f x)) (drop i xs) → AllByRecursion P (drop i (map f xs))
all_drop_map P f zero [] a = tt
all_drop_map P f (suc i) [] a = tt
all_drop_map P f zero (x ∷ xs) a = (a.0, all_drop_map P f zero xs a.1)
all_drop_map P f (suc i) (x ∷ xs) a = all_drop_map P f i xs a

all_from_map : {X Y : Type 0} (P : Y → Type 0) (f : X → Y) (xs : List X) → AllByRecursion P (map f xs) → AllByRecursion (λ x. P (f x)) xs
all_from_map P f [] a = tt
all_from_map P f (x ∷ xs) a = (a.0, all_from_map P f xs a.1)

-- a key stands once at most where the keys rise
under_once : {X : Type 0} (key : X → List ℕ) (xs : List X) (k : List ℕ) → Rising key xs → under key (λ _. 1) xs k ≤ 1
under_once key [] k r = omega arith
under_once key (x ∷ xs) k r =
    let c = sum_by-cons (λ y. cond (same (key y) k) 1 0) x xs in
    elim (cases_Bool (same (key x) k)) [
      | inl e ↦
          let z : under key (λ _. 1) xs k ≡ 0 = ap (under key (λ _. 1) xs) (sym (same_is (key x) k e)) ∙ under_above key (λ _. 1) xs (key x) r.0 in
          omega (arith, c, z, cond-true {A = ℕ} (same (key x) k) 1 0 e)
      | inr e ↦ omega (arith, c, cond-false {A = ℕ} (same (key x) k) 1 0 e, under_once key xs k r.1)
    ]

-- and has a place where it stands
stands_at : {X : Type 0} (key : X → List ℕ) (xs : List X) (k : List ℕ) → 0 < under key (λ _. 1) xs k → (i : ℕ) × (i < length xs) × ((d : X) → key (get_or xs i d) ≡ k)
stands_at key [] k p = absurd (omega arith)
stands_at key (x ∷ xs) k p =
    elim (cases_Bool (same (key x) k)) [
      | inl e ↦ (0, omega arith, λ d. same_is (key x) k e)
      | inr e ↦
          let c = sum_by-cons (λ y. cond (same (key y) k) 1 0) x xs in
          let (i, lt, is) = stands_at key xs k (omega (arith, c, p, cond-false {A = ℕ} (same (key x) k) 1 0 e)) in
          (suc i, omega arith, is)
    ]

-- the buckets of a number: of one at most, that one; of none, nothing

only_none : (t : Entry → Bool) (f : Entry → ℕ) (xs : List Entry) → sum_by (λ x. cond (t x) 1 0) xs ≡ 0 → sum_by (λ x. cond (t x) (f x) 0) xs ≡ 0
only_none t f [] z = refl
only_none t f (x ∷ xs) z =
    let one = sum_by-cons (λ x. cond (t x) 1 0) x xs in
    let all = sum_by-cons (λ x. cond (t x) (f x) 0) x xs in
    elim (cases_Bool (t x)) [
      | inl e ↦ absurd (omega (arith, one, z, cond-true {A = ℕ} (t x) 1 0 e))
      | inr e ↦ omega (arith, all, cond-false (t x) (f x) 0 e, only_none t f xs (omega (arith, one, z)))
    ]

only_one : (t : Entry → Bool) (f : Entry → ℕ) (xs : List Entry) (j : ℕ) (d : Entry) → sum_by (λ x. cond (t x) 1 0) xs ≤ 1 → j < length xs → t (get_or xs j d) ≡ true
    → sum_by (λ x. cond (t x) (f x) 0) xs ≡ f (get_or xs j d)
only_one t f [] j d le lt e = absurd (omega arith)
only_one t f (x ∷ xs) zero d le lt e =
    let one = sum_by-cons (λ x. cond (t x) 1 0) x xs in
    omega (arith, sum_by-cons (λ x. cond (t x) (f x) 0) x xs, cond-true (t x) (f x) 0 e, only_none t f xs (omega (arith, one, le, cond-true {A = ℕ} (t x) 1 0 e)))
only_one t f (x ∷ xs) (suc j) d le lt e =
    let one = sum_by-cons (λ x. cond (t x) 1 0) x xs in
    let all = sum_by-cons (λ x. cond (t x) (f x) 0) x xs in
    elim (cases_Bool (t x)) [
      | inl q ↦
          let none : sum_by (λ x. cond (t x) 1 0) xs ≡ 0 = omega (arith, one, le, cond-true {A = ℕ} (t x) 1 0 q) in
          let some = only_one t (λ _. 1) xs j d (omega arith) (omega arith) e in
          absurd (omega (arith, none, some))
      | inr q ↦ omega (arith, all, cond-false (t x) (f x) 0 q, only_one t f xs j d (omega (arith, one, le, cond-false {A = ℕ} (t x) 1 0 q)) (omega arith) e)
    ]

has_not : (n : ℕ) (f : Entry → ℕ) (xs : List Entry) → has n (map number xs) ≡ false → sum_by (λ x. cond (eqb x.number n) (f x) 0) xs ≡ 0
has_not n f [] h = refl
has_not n f (x ∷ xs) h =
    let all = sum_by-cons (λ x. cond (eqb x.number n) (f x) 0) x xs in
    elim (cases_Bool (eqb x.number n)) [
      | inl e ↦ absurd (true≢false (sym (cond-true (eqb x.number n) true (has n (map number xs)) e) ∙ h))
      | inr e ↦ omega (arith, all, cond-false (eqb x.number n) (f x) 0 e, has_not n f xs (sym (cond-false (eqb x.number n) true (has n (map number xs)) e) ∙ h))
    ]

-- no bucket is free
all_taken : (xs : List Entry) → ((i : ℕ) → i < length (map number xs) → 0 < get_or (map number xs) i 0) → sum_by (taken (λ _. 1)) xs ≡ length xs
all_taken [] full = refl
all_taken (x ∷ xs) full =
    let pos : 0 < x.number = full zero (omega arith) in
    omega (arith, sum_by-cons (taken (λ _. 1)) x xs, cond-false {A = ℕ} (eqb x.number 0) 0 1 (ne_eqb _ 0 (λ q. omega arith)), all_taken xs (λ i l. full (suc i) (omega arith)))

-- entries that point to accounts of their numbers

module _ (slots : List Account) where
  abbrev Match : Entry → Type 0
  Match e = (lying slots e).number ≡ e.number

  rising_tags : (es : List Entry) → AllByRecursion Match es → Rising name (map (lying slots) es) → Rising tag es
  rising_tags [] m r = tt
  rising_tags (e ∷ es) m r = (
    all_2 _ (λ z p q. subst (λ a. lower (a ∷ []) (z.number ∷ []) ≡ true) m.0 (subst (λ b. lower ((lying slots e).number ∷ []) (b ∷ []) ≡ true) p q)) es m.1
        (all_from_map (λ a. lower (name (lying slots e)) (name a) ≡ true) (lying slots) es r.0),
    rising_tags es m.1 r.1,
  )

  under_lying : (f : Account → ℕ) (es : List Entry) (n : ℕ) → AllByRecursion Match es
      → under name f (map (lying slots) es) (n ∷ []) ≡ under tag (λ e. f (lying slots e)) es (n ∷ [])
  under_lying f es n m =
      sum_by_map (λ a. cond (same (name a) (n ∷ [])) (f a) 0) (lying slots) es
      ∙ sum_by_same _ _ es (All-weaker Match _ (λ e q. ap (λ k. cond (same (k ∷ []) (n ∷ [])) (f (lying slots e)) 0) q) es m)

  -- two entries of different numbers point to different slots
  apart_slots : (d e : Entry) → Match d → Match e → lower (tag d) (tag e) ≡ true → d.slot ≡ e.slot → ⊥
  apart_slots d e p q l s =
      let same_number : d.number ≡ e.number = sym p ∙ ap (λ k. (get_or slots k blank).number) s ∙ q in
      both_ways (lower (tag e) (tag e)) (irreflexive (tag e)) (subst (λ k. lower (k ∷ []) (tag e) ≡ true) same_number l)

  module _ (s : ℕ) (y : Account) where
    elsewhere : (e : Entry) → (e.slot ≡ s → ⊥) → lying (set slots s y) e ≡ lying slots e
    elsewhere e ne = get_or-set_other slots s e.slot y blank ne

    -- one slot is written over: one account changes
    map_set_one : (es : List Entry) (i : ℕ) (d : Entry) → s < length slots → i < length es → (get_or es i d).slot ≡ s → AllByRecursion Match es → Rising tag es
        → map (lying (set slots s y)) es ≡ set (map (lying slots) es) i y
    map_set_one [] i d ls lt e m r = absurd (omega arith)
    map_set_one (x ∷ xs) zero d ls lt e m r =
        ap (λ a. a ∷ map (lying (set slots s y)) xs) (ap (λ k. get_or (set slots s y) k blank) e ∙ get_or-set_same slots s y blank ls)
        ∙ ap (λ l. y ∷ l) (map_same (lying (set slots s y)) (lying slots) xs
        (all_2 _ (λ z p q. elsewhere z (λ h. apart_slots x z m.0 p q (e ∙ sym h))) xs m.1 r.0))
    map_set_one (x ∷ xs) (suc i) d ls lt e m r =
        let h : i < length xs = omega arith in
        ap (λ a. a ∷ map (lying (set slots s y)) xs)
        (elsewhere x (λ q. apart_slots x (get_or xs i d) m.0 (All-get_or Match xs i d h m.1) (All-get_or (λ z. lower (tag x) (tag z) ≡ true) xs i d h r.0) (q ∙ sym e)))
        ∙ ap (λ l. lying slots x ∷ l) (map_set_one xs i d ls h e m.1 r.1)

  above_lying : (es : List Entry) (k : List ℕ) → AllByRecursion Match es → above name (map (lying slots) es) k ≡ above tag es k
  above_lying [] k m = refl
  above_lying (e ∷ es) k m =
      ap (λ n. cond (lower k (n ∷ [])) (n ∷ []) (above name (map (lying slots) es) k)) m.0
      ∙ ap (λ l. cond (lower k (tag e)) (tag e) l) (above_lying es k m.1)

-- a hashed store: its top, slots, buckets and entries
module _ (top : ℕ) (slots : List Account) (buckets es : List Entry) (sound : sound_store (store_of top slots es) ≡ true)
    (laid_all : every (laid (length es) slots) es ≡ true) (linked : (f : Entry → ℕ) → sum_by (taken f) buckets ≡ sum_by f es) where
  pub ok : SoundStore (store_of top slots es)
  ok = store_parts (store_of top slots es) sound

  laid_each : AllByRecursion (λ e. laid (length es) slots e ≡ true) es
  laid_each = every_all (laid (length es) slots) es laid_all

  matches : AllByRecursion (Match slots) es
  matches = All-weaker _ _ (λ e q. eqb-true _ _ (and_parts (ltb e.slot (length es)) _ q).1) es laid_each

  -- no more entries than slots
  pub few_entries : length es ≤ length slots
  few_entries = omega (arith, ok.few, length-map es (lying slots))

  pub up : Rising tag es
  up = rising_tags slots es matches ok.up

  under_buckets : (f : Entry → ℕ) (n : ℕ) → 0 < n → under tag f es (n ∷ []) ≡ sum_by (λ x. cond (eqb x.number n) (f x) 0) buckets
  under_buckets f n pos =
      sym (linked (λ x. cond (same (tag x) (n ∷ [])) (f x) 0))
      ∙ sum_by_same _ _ buckets (all_of _ (λ x.
      elim (cases_Bool (eqb x.number 0)) [
        | inl e ↦ cond-true (eqb x.number 0) 0 _ e ∙ sym (cond-false (eqb x.number n) (f x) 0 (ne_eqb _ _ (λ q. omega (arith, eqb-true _ _ e))))
        | inr e ↦ cond-false (eqb x.number 0) 0 _ e ∙ ap (λ b. cond b (f x) 0) (same_one x.number n)
      ]) buckets)

  -- no bucket has the number
  pub none_of : (n : ℕ) → 0 < n → has n (map number buckets) ≡ false → (f : Account → ℕ) → under name f (map (lying slots) es) (n ∷ []) ≡ 0
  none_of n pos h f = under_lying slots f es n matches ∙ under_buckets (λ e. f (lying slots e)) n pos ∙ has_not n (λ e. f (lying slots e)) buckets h

  -- no account has the number 0
  pub none_zero : (n : ℕ) → n ≡ 0 → (f : Account → ℕ) → under name f (map (lying slots) es) (n ∷ []) ≡ 0
  none_zero n z f =
      under_none name f (map (lying slots) es) (n ∷ [])
      (All-weaker _ _ (λ a e. same_one a.number n ∙ ne_eqb _ _ (λ q. omega (arith, (account_parts top a e).some))) (map (lying slots) es) ok.fit)

  -- the bucket j has the number
  pub held : (n j : ℕ) (d : Entry) → 0 < n → j < length buckets → get_or (map number buckets) j 0 ≡ n → d ≡ get_or buckets j d → Lies slots es n d.slot (lying slots d)
  held n j d pos lt e is =
      let num : d.number ≡ n = ap number is ∙ sym (get_or-map number buckets j d 0 lt) ∙ e in
      let hit : eqb (get_or buckets j d).number n ≡ true = eq-eqb _ _ (ap number (sym is) ∙ num) in
      let once : sum_by (λ x. cond (eqb x.number n) 1 0) buckets ≤ 1 = omega (arith, under_buckets (λ _. 1) n pos, under_once tag es (n ∷ []) up) in
      let all : (f : Entry → ℕ) → under tag f es (n ∷ []) ≡ f d =
      λ f. under_buckets f n pos ∙ only_one (λ x. eqb x.number n) f buckets j d once lt hit ∙ sym (ap f is) in
      let (i, within, key) = stands_at tag es (n ∷ []) (omega (arith, all (λ _. 1))) in
      let x : Entry = get_or es i d in
      let each : (f : Entry → ℕ) → f (get_or es i d) ≡ f d = λ f. sym (under_at tag f es i d up within) ∙ ap (under tag f es) (key d) ∙ all f in
      record {
        entry = get_or es i d;
        place = i;
        within = within;
        is = get_or_default es i d (get_or es i d) within;
        number = each number ∙ num;
        slot = each (λ z. z.slot);
        account = ap (λ k. get_or slots k blank) (sym (each (λ z. z.slot)));
      }

  -- what no bucket has is not in the order
  pub not_in_order : (n i : ℕ) (d : Entry) → 0 < n → has n (map number buckets) ≡ false → At tag es (n ∷ []) i → ⊥
  not_in_order n i d pos h at =
      let one : under tag (λ _. 1) es (n ∷ []) ≡ 1 = ap (under tag (λ _. 1) es) (sym (at.is d)) ∙ under_at tag (λ _. 1) es i d up at.within in
      omega (arith, one, under_lying slots (λ _. 1) es n matches, none_of n pos h (λ _. 1))

  pub next_is : (k : List ℕ) → above tag es k ≡ above name (map (lying slots) es) k
  next_is k = sym (above_lying slots es k matches)

  -- as many accounts as buckets
  pub none_free : ((i : ℕ) → i < length (map number buckets) → 0 < get_or (map number buckets) i 0) → length buckets ≡ length es
  none_free full = sym (all_taken buckets full) ∙ linked (λ _. 1) ∙ sum_by_ones es

  module _ (n s : ℕ) (a : Account) (lies : Lies slots es n s a) where
    laid_here : laid (length es) slots lies.entry ≡ true
    laid_here = subst (λ e. laid (length es) slots e ≡ true) (sym lies.is) (All-get_or (λ e. laid (length es) slots e ≡ true) es lies.place lies.entry lies.within laid_each)

    pub slot_below : s < (length es)
    slot_below = omega (arith, ltb-true _ _ (and_parts (ltb lies.entry.slot (length es)) _ laid_here).0, lies.slot)

    numbered : a.number ≡ n
    numbered = ap (λ b. b.number) lies.account ∙ eqb-true _ _ (and_parts (ltb lies.entry.slot (length es)) _ laid_here).1 ∙ lies.number

    pub all_of_it : (f : Account → ℕ) → under name f (map (lying slots) es) (n ∷ []) ≡ f a
    all_of_it f =
        under_lying slots f es n matches
        ∙ ap (under tag (λ e. f (lying slots e)) es) (sym (ap (λ k. k ∷ []) lies.number) ∙ ap tag lies.is)
        ∙ under_at tag (λ e. f (lying slots e)) es lies.place lies.entry up lies.within
        ∙ ap (λ e. f (lying slots e)) (sym lies.is)
        ∙ sym (ap f lies.account)

    row : a ≡ get_or (map (lying slots) es) lies.place a
    row = lies.account ∙ ap (lying slots) lies.is ∙ sym (get_or-map (lying slots) es lies.place lies.entry a lies.within)

    pub eight : length a.balances ≡ 8
    eight =
        ap (λ b. length b.balances) row
        ∙ (account_parts top (get_or (map (lying slots) es) lies.place a) (All-get_or (λ b. fit_account top b ≡ true) (map (lying slots) es) lies.place a (omega (arith, length-map es (lying slots), lies.within)) ok.fit)).eight

    -- the account is written over by one of its number
    module _ (y : Account) (kept : y.number ≡ a.number) (fits : (length es) ≤ length slots) where
      changed : map (lying (set slots s y)) es ≡ set (map (lying slots) es) lies.place y
      changed =
          map_set_one slots s y es lies.place lies.entry (omega (arith, slot_below)) lies.within
          (ap (λ e. e.slot) (sym lies.is) ∙ lies.slot) matches up

      same_number : (e : Entry) → (lying (set slots s y) e).number ≡ (lying slots e).number
      same_number e =
          elim (cases_eq e.slot s) [
            | inl q ↦
                ap (λ k. (get_or (set slots s y) k blank).number) q
                ∙ ap (λ b. b.number) (get_or-set_same slots s y blank (omega (arith, slot_below)))
                ∙ kept
                ∙ ap (λ b. b.number) lies.account
                ∙ ap (λ k. (get_or slots k blank).number) (lies.slot ∙ sym q)
            | inr ne ↦ ap (λ b. b.number) (elsewhere slots s y e ne)
          ]

      pub laid_after : every (laid (length es) (set slots s y)) es ≡ true
      laid_after =
          all_every (laid (length es) (set slots s y)) es
          (All-weaker _ _ (λ e q. let p = and_parts (ltb e.slot (length es)) _ q in and_from _ _ p.0 (eq-eqb _ _ (same_number e ∙ eqb-true _ _ p.1))) es laid_each)

      pub sums_after : ((f : Account → ℕ) → sum_by f (take (length es) slots) ≡ sum_by f (map (lying slots) es)) → (f : Account → ℕ) → sum_by f (take (length es) (set slots s y)) ≡ sum_by f (map (lying (set slots s y)) es)
      sums_after sums f =
          let old : f (get_or (take (length es) slots) s a) ≡ f (get_or (map (lying slots) es) lies.place a) =
          ap f (get_or-take (length es) slots s a slot_below ∙ get_or_default slots s a blank (omega (arith, slot_below)) ∙ ap (λ k. get_or slots k blank) (sym lies.slot) ∙ sym lies.account ∙ row) in
          omega (
            arith,
            ap (sum_by f) (put_is slots (length es) s y slot_below),
            sum_by-set f (take (length es) slots) s y a (omega (arith, length-take-le (length es) slots fits, slot_below)),
            ap (sum_by f) changed,
            sum_by-set f (map (lying slots) es) lies.place y a (omega (arith, length-map es (lying slots), lies.within)),
            sums f,
            old,
          )

      store_after : store_of top (set slots s y) es ≡ with_accounts (store_of top slots es) (set (map (lying slots) es) lies.place y)
      store_after = store_is (with_accounts (store_of top slots es) (set (map (lying slots) es) lies.place y)) (store_of top (set slots s y) es) (length-set slots s y) refl changed

    pub sets_balance : (x v : ℕ) → (length es) ≤ length slots → x < 8 → v < 68719476736
        → BalanceSet (store_of top slots es) n x v (store_of top (set slots s (with_balance a x v)) es) × (sound_store (store_of top (set slots s (with_balance a x v)) es) ≡ true)
    sets_balance x v fits xs vs =
        subst (λ t. BalanceSet (store_of top slots es) n x v t × (sound_store t ≡ true)) (sym (store_after (with_balance a x v) refl fits))
        (balance_set (store_of top slots es) n x v lies.place a ok (omega (arith, length-map es (lying slots), lies.within)) row numbered xs vs)

    pub sets_floor : (v : ℕ) → (length es) ≤ length slots → v < 4294967296
        → FloorSet (store_of top slots es) n v (store_of top (set slots s (with_floor a v)) es) × (sound_store (store_of top (set slots s (with_floor a v)) es) ≡ true)
    sets_floor v fits vs =
        subst (λ t. FloorSet (store_of top slots es) n v t × (sound_store t ≡ true)) (sym (store_after (with_floor a v) refl fits))
        (floor_set (store_of top slots es) n v lies.place a ok (omega (arith, length-map es (lying slots), lies.within)) row numbered vs)

  pub one_of : (n j : ℕ) → 0 < n → j < length buckets → get_or (map number buckets) j 0 ≡ n → standing (store_of top slots es) n ≡ 1
  one_of n j pos lt e =
      let none : Entry = record { number = 0; slot = 0 } in
      let d : Entry = get_or buckets j none in
      all_of_it n (get_or buckets j none).slot (lying slots (get_or buckets j none)) (held n j (get_or buckets j none) pos lt e (get_or_default buckets j none (get_or buckets j none) lt)) (λ _. 1)

  -- a new account n in the next slot, with the bucket j and the place i in the order
  module _ (n i j : ℕ) (e : Entry) (num : e.number ≡ n) (at : e.slot ≡ (length es)) (pos : 0 < n) (room : (length es) < length slots) (gap : Gap tag es (n ∷ []) i) where
    before : AllByRecursion (λ x. lying (set slots (length es) (fresh n)) x ≡ lying slots x) es
    before = All-weaker _ _ (λ x q. elsewhere slots (length es) (fresh n) x (λ h. omega (arith, ltb-true _ _ (and_parts (ltb x.slot (length es)) _ q).0))) es laid_each

    new_one : lying (set slots (length es) (fresh n)) e ≡ fresh n
    new_one = ap (λ k. get_or (set slots (length es) (fresh n)) k blank) at ∙ get_or-set_same slots (length es) (fresh n) blank room

    grown : map (lying (set slots (length es) (fresh n))) (insert es i e) ≡ insert (map (lying slots) es) i (fresh n)
    grown =
        map_inserted (lying (set slots (length es) (fresh n))) es i e
        ∙ ap (λ l. insert l i (lying (set slots (length es) (fresh n)) e)) (map_same _ _ es before)
        ∙ ap (λ a. insert (map (lying slots) es) i a) new_one

    gap_accounts : Gap name (map (lying slots) es) (n ∷ []) i
    gap_accounts =
        record {
          within = omega (arith, gap.within, length-map es (lying slots));
          low = all_take_map (λ a. lower (name a) (n ∷ []) ≡ true) (lying slots) i es
              (all_2 _ (λ x m q. subst (λ k. lower (k ∷ []) (n ∷ []) ≡ true) (sym m) q) (take i es) (All-take _ i es matches) gap.low);
          high = all_drop_map (λ a. lower (n ∷ []) (name a) ≡ true) (lying slots) i es
              (all_2 _ (λ x m q. subst (λ k. lower (n ∷ []) (k ∷ []) ≡ true) (sym m) q) (drop i es) (All-drop _ i es matches) gap.high);
        }

    pub opens : n ≤ top → Opened (store_of top slots es) n (store_of top (set slots (length es) (fresh n)) (insert es i e)) × (sound_store (store_of top (set slots (length es) (fresh n)) (insert es i e)) ≡ true)
    opens le =
        subst (λ t. Opened (store_of top slots es) n t × (sound_store t ≡ true))
        (sym (store_is (with_accounts (store_of top slots es) (insert (map (lying slots) es) i (fresh n))) (store_of top (set slots (length es) (fresh n)) (insert es i e)) (length-set slots (length es) (fresh n)) refl grown))
        (opened (store_of top slots es) n i ok pos le gap_accounts (omega (arith, length-map es (lying slots))))

    pub laid_new : every (laid ((length es) + 1) (set slots (length es) (fresh n))) (insert es i e) ≡ true
    laid_new =
        all_every _ (insert es i e)
        (all_inserted _ es i e
        (and_from _ _ (lt-ltb _ _ (omega arith)) (eq-eqb _ _ (ap (λ a. a.number) new_one ∙ sym num)))
        (all_2 _ (λ x b q. let p = and_parts (ltb x.slot (length es)) _ q in
        and_from _ _ (lt-ltb _ _ (omega (arith, ltb-true _ _ p.0))) (eq-eqb _ _ (ap (λ a. a.number) b ∙ eqb-true _ _ p.1))) es before laid_each))

    pub linked_new : j < length buckets → get_or (map number buckets) j 0 ≡ 0 → (f : Entry → ℕ) → sum_by (taken f) (set buckets j e) ≡ sum_by f (insert es i e)
    linked_new lt free f =
        let old : taken f (get_or buckets j e) ≡ 0 = cond-true _ 0 _ (eq-eqb _ _ (sym (get_or-map number buckets j e 0 lt) ∙ free)) in
        let ne : e.number ≡ 0 → ⊥ = λ z. omega arith in
        let new : taken f e ≡ f e = cond-false _ 0 _ (ne_eqb _ _ ne) in
        omega (arith, sum_by-set (taken f) buckets j e e lt, old, new, linked f, sum_by_inserted f es i e)

    pub sums_new : ((f : Account → ℕ) → sum_by f (take (length es) slots) ≡ sum_by f (map (lying slots) es)) → (f : Account → ℕ) → sum_by f (take ((length es) + 1) (set slots (length es) (fresh n))) ≡ sum_by f (map (lying (set slots (length es) (fresh n))) (insert es i e))
    sums_new sums f =
        omega (
          arith,
          sum_by_more f (set slots (length es) (fresh n)) (length es) blank (omega (arith, length-set slots (length es) (fresh n))),
          ap f (get_or-set_same slots (length es) (fresh n) blank room),
          ap (sum_by f) (take-set-le (length es) slots (length es) (fresh n) (omega arith)),
          sums f,
          ap (sum_by f) grown,
          sum_by_inserted f (map (lying slots) es) i (fresh n),
        )

  -- what the answer of a search says of an account
  pub found_is : (n : ℕ) (o : Option (ℕ × Account)) → Found slots es n o → (f : Account → ℕ) (r : ℕ) → MatchOption o (r ≡ 0) (λ p. r ≡ f p.1)
      → r ≡ under name f (map (lying slots) es) (n ∷ [])
  found_is n None none f r e = e ∙ sym (none f)
  found_is n (Some p) lies f r e = e ∙ sym (all_of_it n p.0 p.1 lies f)

  pub found_one : (n : ℕ) (o : Option (ℕ × Account)) → Found slots es n o → cond (is_some o) 1 0 ≡ under name (λ _. 1) (map (lying slots) es) (n ∷ [])
  found_one n None none = sym (none (λ _. 1))
  found_one n (Some p) lies = sym (all_of_it n p.0 p.1 lies (λ _. 1))

  -- where a probe for n does not end at a bucket that holds it, nothing stands under n
  pub none_probed : (n h : ℕ) (r : Probe) → 0 < n → seen n (turned h (map number buckets)) ≡ has n (map number buckets) → Probed n h buckets r → ((j : ℕ) → r ≡ Held j → ⊥)
      → (f : Account → ℕ) → under name f (map (lying slots) es) (n ∷ []) ≡ 0
  none_probed n h (Held j) pos s p un = absurd (un j refl)
  none_probed n h (Free j) pos s p un = none_of n pos (sym s ∙ p.2)
  none_probed n h Full pos s p un = none_of n pos (sym s ∙ p.0)
