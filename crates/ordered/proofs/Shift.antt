-- What a block move and a write leave in the first slots, a record put in, taken out or replaced, and in the free ones. Assumes nothing.
use Rattle.std.proofs.Common.{◌≡◌, ℕ, zero, suc, ◌+◌, ◌-◌, ◌<◌, ◌≤◌, List, [], ◌∷◌, ◌++◌, None, length, get_or, take, drop, set, sym, refl, ap, ◌∙◌, subst, inl, inr, arith}
use Rattle.std.specs.List.{insert, remove, slice_get}
use Rattle.std.proofs.lemmas.List.{same_lists, get_or-take, get_or-set_same, get_or-set_other, length-set, get_or-drop, length-drop, drop-drop, drop-set-lt, drop-append-le, take-append-drop, length-take-le, drop_all, take_all, append-nil}
use Rattle.std.proofs.lemmas.List.Edits.{length-insert, get_or-insert_below, get_or-insert_at, get_or-insert_above, length-remove, get_or-remove_below, get_or-remove_above}
use Rattle.std.proofs.lemmas.Bool.{cases_order, cases_lt}
use Rattle.ordered.specs.Rows.{Rows}

-- the row at k, once the row r is put in at `at`
insert_at : {X : Type 0} (xs ys : List X) (n at : ℕ) (r : X) → at ≤ n → n < length xs → length ys ≡ length xs → ((k : ℕ) (d : X) → at + 1 ≤ k → k < at + 1 + (n - at) → get_or ys k d ≡ get_or xs (at + (k - (at + 1))) d) → ((k : ℕ) (d : X) → k < at + 1 → get_or ys k d ≡ get_or xs k d) → (k : ℕ) (d : X) → k < n + 1 → get_or (take (n + 1) (set ys at r)) k d ≡ get_or (insert (take n xs) at r) k d
insert_at {X} xs ys n at r le lt same above below k d h =
    let len : length (take n xs) ≡ n = length-take-le n xs (omega arith) in
    let within : at ≤ length (take n xs) = omega arith in
    get_or-take (n + 1) (set ys at r) k d h
    ∙ elim (cases_order k at) as (λ _. get_or (set ys at r) k d ≡ get_or (insert (take n xs) at r) k d) [
      | inl e ↦ rw (e, get_or-set_same ys at r d (omega arith), get_or-insert_at (take n xs) at r d within)
      | inr s ↦
          elim s [
            | inl l ↦ get_or-set_other ys at k r d (λ e. omega arith) ∙ below k d (omega arith) ∙ sym (get_or-insert_below (take n xs) at r d k l within ∙ get_or-take n xs k d (omega arith))
            | inr m ↦
                let e : k ≡ (k - 1) + 1 = omega arith in
                let f : at + (k - (at + 1)) ≡ k - 1 = omega arith in
                get_or-set_other ys at k r d (λ e. omega arith)
                ∙ above k d (omega arith) (omega arith)
                ∙ ap (λ i. get_or xs i d) f
                ∙ sym (ap (λ i. get_or (insert (take n xs) at r) i d) e ∙ get_or-insert_above (take n xs) at r d (k - 1) (omega arith) within ∙ get_or-take n xs (k - 1) d (omega arith))
          ]
    ]

pub insert_is : {X : Type 0} (xs ys : List X) (n at : ℕ) (r : X) → at ≤ n → n < length xs → length ys ≡ length xs → ((k : ℕ) (d : X) → at + 1 ≤ k → k < at + 1 + (n - at) → get_or ys k d ≡ get_or xs (at + (k - (at + 1))) d) → ((k : ℕ) (d : X) → k < at + 1 → get_or ys k d ≡ get_or xs k d) → take (n + 1) (set ys at r) ≡ insert (take n xs) at r
insert_is xs ys n at r le lt same above below =
    let len : length (take n xs) ≡ n = length-take-le n xs (omega arith) in
    let left : length (take (n + 1) (set ys at r)) ≡ n + 1 = length-take-le (n + 1) (set ys at r) (omega (arith, length-set ys at r)) in
    let right : length (insert (take n xs) at r) ≡ n + 1 = omega (arith, length-insert (take n xs) at r (omega arith)) in
    same_lists _ _ (left ∙ sym right) (λ k d h. insert_at xs ys n at r le lt same above below k d (omega arith))

pub remove_is : {X : Type 0} (xs ys : List X) (n at : ℕ) → at < n → n ≤ length xs → length ys ≡ length xs → ((k : ℕ) (d : X) → at ≤ k → k < at + (n - (at + 1)) → get_or ys k d ≡ get_or xs (at + 1 + (k - at)) d) → ((k : ℕ) (d : X) → k < at → get_or ys k d ≡ get_or xs k d) → take (n - 1) ys ≡ remove (take n xs) at
remove_is {X} xs ys n at lt le same above below =
    let len : length (take n xs) ≡ n = length-take-le n xs le in
    let left : length (take (n - 1) ys) ≡ n - 1 = length-take-le (n - 1) ys (omega arith) in
    let right : length (remove (take n xs) at) ≡ n - 1 = omega (arith, length-remove (take n xs) at (omega arith)) in
    let each : (k : ℕ) (d : X) → k < n - 1 → get_or (take (n - 1) ys) k d ≡ get_or (remove (take n xs) at) k d = λ k d h.
    get_or-take (n - 1) ys k d h
    ∙ elim (cases_lt k at) as (λ _. get_or ys k d ≡ get_or (remove (take n xs) at) k d) [
      | inl l ↦ below k d l ∙ sym (get_or-remove_below (take n xs) at d k l (omega arith) ∙ get_or-take n xs k d (omega arith))
      | inr m ↦
          let f : at + 1 + (k - at) ≡ k + 1 = omega arith in
          above k d m (omega arith)
          ∙ ap (λ i. get_or xs i d) f
          ∙ sym (get_or-remove_above (take n xs) at d k m (omega arith) ∙ get_or-take n xs (k + 1) d (omega arith))
    ] in
    same_lists _ _ (left ∙ sym right) (λ k d h. each k d (omega arith))

pub put_is : {X : Type 0} (xs : List X) (n i : ℕ) (y : X) → i < n → take n (set xs i y) ≡ set (take n xs) i y
put_is [] zero i y h = refl
put_is [] (suc n) zero y h = refl
put_is [] (suc n) (suc i) y h = refl
put_is (x ∷ xs) zero i y h = absurd (omega arith)
put_is (x ∷ xs) (suc n) zero y h = refl
put_is (x ∷ xs) (suc n) (suc i) y h = ap (λ l. x ∷ l) (put_is xs n i y (omega arith))

-- where no record stands at i

pub none_past : {X : Type 0} (xs : List X) (i : ℕ) → slice_get xs i ≡ None → length xs ≤ i
none_past [] i e = omega arith
none_past (x ∷ xs) zero e = cc
none_past (x ∷ xs) (suc i) e = let h = none_past xs i e in omega arith

pub remove_past : {X : Type 0} (xs : List X) (i : ℕ) → length xs ≤ i → remove xs i ≡ xs
remove_past xs i ge = ap (λ ys. take i xs ++ ys) (drop_all (suc i) xs (omega arith)) ∙ append-nil (take i xs) ∙ take_all i xs ge

-- the free slots

rest_is : {X : Type 0} (xs ys : List X) (n : ℕ) → length ys ≡ length xs → ((k : ℕ) (d : X) → n ≤ k → get_or ys k d ≡ get_or xs k d) → drop n ys ≡ drop n xs
rest_is xs ys n same from =
    same_lists _ _ (length-drop n ys ∙ ap (λ l. l - n) same ∙ sym (length-drop n xs)) (λ k d h. get_or-drop n ys k d ∙ from (n + k) d (omega arith) ∙ sym (get_or-drop n xs k d))

pub insert_free : {X : Type 0} (xs ys : List X) (n at : ℕ) (r : X) → at ≤ n → length ys ≡ length xs → ((k : ℕ) (d : X) → at + 1 + (n - at) ≤ k → get_or ys k d ≡ get_or xs k d) → drop (n + 1) (set ys at r) ≡ drop (n + 1) xs
insert_free xs ys n at r le same from = drop-set-lt (n + 1) ys at r (omega arith) ∙ rest_is xs ys (n + 1) same (λ k d h. from k d (omega arith))

pub remove_free : {X : Type 0} (xs ys : List X) (n at : ℕ) → at < n → length ys ≡ length xs → ((k : ℕ) (d : X) → at + (n - (at + 1)) ≤ k → get_or ys k d ≡ get_or xs k d) → drop (n - 1) ys ≡ drop (n - 1) xs
remove_free xs ys n at lt same from = rest_is xs ys (n - 1) same (λ k d h. from k d (omega arith))

-- of the first n, those from m on, and the free ones
freed : {X : Type 0} (xs : List X) (m n : ℕ) → m ≤ n → n ≤ length xs → drop m (take n xs) ++ drop n xs ≡ drop m xs
freed xs m n le fits = sym (drop-append-le m (take n xs) (drop n xs) (omega (arith, length-take-le n xs fits))) ∙ ap (drop m) (take-append-drop n xs)

-- what a table means of whose slots the first n hold records
abbrev meant : {X : Type 0} → List X → ℕ → Rows X
meant xs n = record { records = take n xs; capacity = length xs; free = drop n xs }

-- what it means with one record more, and with one less

module _ {X : Type 0} (xs ys : List X) (n at : ℕ) (t : Rows X) (is : meant xs n ≡ t) (same : length ys ≡ length xs) where
  pub put_in : (r : X) → take (n + 1) ys ≡ insert (take n xs) at r → drop (n + 1) ys ≡ drop (n + 1) xs → meant ys (n + 1) ≡ record { records = insert t.records at r; capacity = t.capacity; free = drop 1 t.free }
  put_in r in_place rest =
      let free : drop (n + 1) ys ≡ drop 1 (drop n xs) = rest ∙ sym (drop-drop 1 n xs) in
      subst (λ u. meant ys (n + 1) ≡ record { records = insert u.records at r; capacity = u.capacity; free = drop 1 u.free }) is (λ i. record { records = in_place i; capacity = same i; free = free i })

  pub taken_out : at < n → n ≤ length xs → take (n - 1) ys ≡ remove (take n xs) at → drop (n - 1) ys ≡ drop (n - 1) xs
      → meant ys (n - 1) ≡ record { records = remove t.records at; capacity = t.capacity; free = drop (length (remove t.records at)) t.records ++ t.free }
  taken_out lt fits out rest =
      let len : length (take n xs) ≡ n = length-take-le n xs fits in
      let kept : length (remove (take n xs) at) ≡ n - 1 = omega (arith, length-remove (take n xs) at (omega arith)) in
      let free : drop (n - 1) ys ≡ drop (length (remove (take n xs) at)) (take n xs) ++ drop n xs =
      rest ∙ sym (ap (λ m. drop m (take n xs) ++ drop n xs) kept ∙ freed xs (n - 1) n (omega arith) fits) in
      subst (λ u. meant ys (n - 1) ≡ record { records = remove u.records at; capacity = u.capacity; free = drop (length (remove u.records at)) u.records ++ u.free }) is
      (λ i. record { records = out i; capacity = same i; free = free i })

-- nothing is taken out from past the end
pub none_out : {X : Type 0} (xs free : List X) (at : ℕ) → length xs ≤ at → drop (length (remove xs at)) xs ++ free ≡ free
none_out xs free at ge = ap (λ ys. drop (length ys) xs ++ free) (remove_past xs at ge) ∙ ap (λ ys. ys ++ free) (drop_all (length xs) xs (omega arith))
