-- What a probe meets, bucket by bucket, and once a free bucket is filled. Assumes nothing.
use Rattle.std.proofs.Common.{◌≡◌, ℕ, zero, suc, ◌+◌, ◌-◌, ◌<◌, ◌≤◌, Bool, true, false, ◌||◌, eqb, List, [], ◌∷◌, ◌++◌, map, length, get_or, take, drop, set, sym, refl, ap, ◌∙◌, subst, inl, inr, arith}
use lib.Seq.{take-set-lt}
use Rattle.std.proofs.lemmas.Bool.{cases_eq, cases_lt, ne_eqb, eq-eqb, cond-true, cond-false, true≢false}
use Rattle.std.proofs.lemmas.List.{take-set-le, drop-set-lt, drop-set-add, set-append_left, set-append_right, length-drop, length-take-le, get_or_append_left, get_or-append-add, get_or-take, get_or-drop, get_or-map, length-map, length-set, map-set, drop_more, take-append-drop, length-append}
use Rattle.hashed_store.specs.declared.entry.Entry.{Entry}
use Rattle.hashed_store.specs.Index.{number}
use Rattle.hashed_store.specs.Probing.{start, seen, has, turned}
use Rattle.hashed_store.proofs.Starts.{start_within}

has_at : (m x : ℕ) (rest : List ℕ) → x ≡ m → has m (x ∷ rest) ≡ true
has_at m x rest e = cond-true (eqb x m) true (has m rest) (eq-eqb x m e)

has_past : (m x : ℕ) (rest : List ℕ) → (x ≡ m → ⊥) → has m (x ∷ rest) ≡ has m rest
has_past m x rest ne = cond-false (eqb x m) true (has m rest) (ne_eqb x m ne)

seen_at : (m x : ℕ) (rest : List ℕ) → x ≡ m → seen m (x ∷ rest) ≡ true
seen_at m x rest e = cond-true (eqb x m) true _ (eq-eqb x m e)

seen_past : (m x : ℕ) (rest : List ℕ) → (x ≡ m → ⊥) → (x ≡ 0 → ⊥) → seen m (x ∷ rest) ≡ seen m rest
seen_past m x rest ne nz = cond-false (eqb x m) true _ (ne_eqb x m ne) ∙ cond-false (eqb x 0) false (seen m rest) (ne_eqb x 0 nz)

seen_end : (m x : ℕ) (rest : List ℕ) → (x ≡ m → ⊥) → x ≡ 0 → seen m (x ∷ rest) ≡ false
seen_end m x rest ne z = cond-false (eqb x m) true _ (ne_eqb x m ne) ∙ cond-true (eqb x 0) false (seen m rest) (eq-eqb x 0 z)

-- what is nowhere is met nowhere
pub seen_none : (m : ℕ) (ns : List ℕ) → has m ns ≡ false → seen m ns ≡ false
seen_none m [] h = refl
seen_none m (x ∷ ns) h =
    elim (cases_eq x m) as (λ _. seen m (x ∷ ns) ≡ false) [
      | inl e ↦ absurd (true≢false (sym (has_at m x ns e) ∙ h))
      | inr ne ↦ elim (cases_eq x 0) as (λ _. seen m (x ∷ ns) ≡ false) [ inl z ↦ seen_end m x ns ne z | inr nz ↦ seen_past m x ns ne nz ∙ seen_none m ns (sym (has_past m x ns ne) ∙ h) ]
    ]

has_none_head : (m x : ℕ) (ns : List ℕ) → has m (x ∷ ns) ≡ false → x ≡ m → ⊥
has_none_head m x ns h e = true≢false (sym (has_at m x ns e) ∙ h)

has_none_tail : (m x : ℕ) (ns : List ℕ) → has m (x ∷ ns) ≡ false → has m ns ≡ false
has_none_tail m x ns h = sym (has_past m x ns (has_none_head m x ns h)) ∙ h

has_set_none : (m n : ℕ) (ns : List ℕ) (t : ℕ) → (n ≡ m → ⊥) → has m ns ≡ false → has m (set ns t n) ≡ false
has_set_none m n [] t ne h = refl
has_set_none m n (x ∷ ns) zero ne h = has_past m n ns ne ∙ has_none_tail m x ns h
has_set_none m n (x ∷ ns) (suc t) ne h = has_past m x (set ns t n) (has_none_head m x ns h) ∙ has_set_none m n ns t ne (has_none_tail m x ns h)

pub has_set_same : (n : ℕ) (ns : List ℕ) (t : ℕ) → t < length ns → has n (set ns t n) ≡ true
has_set_same n [] t lt = let no : ⊥ = omega arith in absurd no
has_set_same n (x ∷ ns) zero lt = has_at n n ns refl
has_set_same n (x ∷ ns) (suc t) lt =
    elim (cases_eq x n) as (λ _. has n (x ∷ set ns t n) ≡ true) [ inl e ↦ has_at n x (set ns t n) e | inr ne ↦ has_past n x (set ns t n) ne ∙ has_set_same n ns t (omega arith) ]

pub has_not_at : (n : ℕ) (ns : List ℕ) (i : ℕ) → 0 < n → has n ns ≡ false → get_or ns i 0 ≡ n → ⊥
has_not_at n [] i pos h e = omega arith
has_not_at n (x ∷ ns) zero pos h e = has_none_head n x ns h e
has_not_at n (x ∷ ns) (suc i) pos h e = has_not_at n ns i pos (has_none_tail n x ns h) e

has_append : (m : ℕ) (xs ys : List ℕ) → has m (xs ++ ys) ≡ (has m xs || has m ys)
has_append m [] ys = refl
has_append m (x ∷ xs) ys =
    elim (cases_eq x m) as (λ _. has m (x ∷ (xs ++ ys)) ≡ (has m (x ∷ xs) || has m ys)) [
      | inl e ↦ has_at m x (xs ++ ys) e ∙ ap (λ b. b || has m ys) (sym (has_at m x xs e))
      | inr ne ↦ has_past m x (xs ++ ys) ne ∙ has_append m xs ys ∙ ap (λ b. b || has m ys) (sym (has_past m x xs ne))
    ]

or_swap : (a b : Bool) → (a || b) ≡ (b || a)
or_swap true true = refl
or_swap true false = refl
or_swap false true = refl
or_swap false false = refl

pub has_turned : (m h : ℕ) (ns : List ℕ) → has m (turned h ns) ≡ has m ns
has_turned m h ns =
    has_append m (drop h ns) (take h ns) ∙ or_swap (has m (drop h ns)) (has m (take h ns)) ∙ sym (has_append m (take h ns) (drop h ns)) ∙ ap (λ l. has m l) (take-append-drop h ns)

-- a free place that is filled with n: a probe for any other m still meets m where m stands
pub seen_fill : (m n : ℕ) (ns : List ℕ) (t : ℕ) → 0 < m → 0 < n → (n ≡ m → ⊥) → t < length ns → get_or ns t 0 ≡ 0 → seen m ns ≡ has m ns → seen m (set ns t n) ≡ has m (set ns t n)
seen_fill m n [] t pm pn ne lt z e = let no : ⊥ = omega arith in absurd no
seen_fill m n (x ∷ ns) zero pm pn ne lt z e =
    let nx : x ≡ m → ⊥ = λ q. omega (arith, q, z) in
    let none : has m ns ≡ false = sym (has_past m x ns nx) ∙ sym e ∙ seen_end m x ns nx z in
    seen_past m n ns ne (λ q. omega arith) ∙ seen_none m ns none ∙ sym (has_past m n ns ne ∙ none)
seen_fill m n (x ∷ ns) (suc t) pm pn ne lt z e =
    elim (cases_eq x m) as (λ _. seen m (x ∷ set ns t n) ≡ has m (x ∷ set ns t n)) [
      | inl q ↦ seen_at m x (set ns t n) q ∙ sym (has_at m x (set ns t n) q)
      | inr nx ↦
          elim (cases_eq x 0) as (λ _. seen m (x ∷ set ns t n) ≡ has m (x ∷ set ns t n)) [
            | inl q ↦
                let none : has m ns ≡ false = sym (has_past m x ns nx) ∙ sym e ∙ seen_end m x ns nx q in
                seen_end m x (set ns t n) nx q ∙ sym (has_past m x (set ns t n) nx ∙ has_set_none m n ns t ne none)
            | inr nz ↦
                seen_past m x (set ns t n) nx nz
                ∙ seen_fill m n ns t pm pn ne (omega arith) z (sym (seen_past m x ns nx nz) ∙ e ∙ has_past m x ns nx)
                ∙ sym (has_past m x (set ns t n) nx)
          ]
    ]

-- and a probe for n meets it there, if no place before is free
pub seen_filled : (n : ℕ) (ns : List ℕ) (t : ℕ) → t < length ns → ((i : ℕ) → i < t → 0 < get_or ns i 0) → seen n (set ns t n) ≡ true
seen_filled n [] t lt full = let no : ⊥ = omega arith in absurd no
seen_filled n (x ∷ ns) zero lt full = seen_at n n ns refl
seen_filled n (x ∷ ns) (suc t) lt full =
    let px : 0 < x = full zero (omega arith) in
    elim (cases_eq x n) as (λ _. seen n (x ∷ set ns t n) ≡ true) [
      | inl q ↦ seen_at n x (set ns t n) q
      | inr nx ↦ seen_past n x (set ns t n) nx (λ z. omega arith) ∙ seen_filled n ns t (omega arith) (λ i h. full (suc i) (omega arith))
    ]

-- a write at j is a write at one place of the turned list
pub record Turned (h : ℕ) (ns : List ℕ) (j n at : ℕ) : Type 0 where
  pub within : at < length (turned h ns)
  pub reads : get_or (turned h ns) at 0 ≡ get_or ns j 0
  pub writes : turned h (set ns j n) ≡ set (turned h ns) at n

turned_low : (h : ℕ) (ns : List ℕ) (j n : ℕ) → h ≤ length ns → j < h → Turned h ns j n (length (drop h ns) + j)
turned_low h ns j n le l =
    let ld = length-drop h ns in
    let lk = length-take-le h ns le in
    record {
      within = rw length-append (omega arith);
      reads = get_or-append-add (drop h ns) (take h ns) j 0 ∙ get_or-take h ns j 0 l;
      writes =
          ap (λ l. l ++ take h (set ns j n)) (drop-set-lt h ns j n l)
          ∙ ap (λ l. drop h ns ++ l) (take-set-lt h ns j n l)
          ∙ sym (set-append_right (drop h ns) (take h ns) (length (drop h ns)) (length (drop h ns) + j) n refl (omega arith) ∙ ap (λ i. drop h ns ++ set (take h ns) i n) (omega arith));
    }

turned_high : (h : ℕ) (ns : List ℕ) (j n : ℕ) → h ≤ length ns → h ≤ j → j < length ns → Turned h ns j n (j - h)
turned_high h ns j n le g lt =
    let ld = length-drop h ns in
    let lk = length-take-le h ns le in
    let e : j ≡ h + (j - h) = omega arith in
    record {
      within = rw length-append (omega arith);
      reads = get_or_append_left (drop h ns) (take h ns) 0 (j - h) (omega arith) ∙ get_or-drop h ns (j - h) 0 ∙ ap (λ i. get_or ns i 0) (sym e);
      writes =
          ap (λ l. drop h (set ns j n) ++ l) (take-set-le h ns j n g)
          ∙ ap (λ l. l ++ take h ns) (ap (λ i. drop h (set ns i n)) e ∙ drop-set-add h ns (j - h) n)
          ∙ sym (set-append_left (drop h ns) (take h ns) (j - h) n (omega arith));
    }

turned_set : (h : ℕ) (ns : List ℕ) (j n : ℕ) → h ≤ length ns → j < length ns → (at : ℕ) × Turned h ns j n at
turned_set h ns j n le lt =
    elim (cases_lt j h) [ inl l ↦ (length (drop h ns) + j, turned_low h ns j n le l) | inr g ↦ (j - h, turned_high h ns j n le g lt) ]

-- the first free bucket that a probe from h on meets is where n is then met: past h, and before it
pub filled_high : (n h j : ℕ) (ns : List ℕ) → h ≤ j → j < length ns → ((i : ℕ) → h ≤ i → i < j → 0 < get_or ns i 0) → seen n (turned h (set ns j n)) ≡ true
filled_high n h j ns g lt full =
    let t = turned_high h ns j n (omega arith) g lt in
    ap (λ l. seen n l) t.writes
    ∙ seen_filled n (turned h ns) (j - h) t.within (λ i l. let r = turned_high h ns (h + i) n (omega arith) (omega arith) (omega arith) in let q : h + i - h ≡ i = omega arith in rw (ap (λ k. get_or (turned h ns) k 0) (sym q) ∙ r.reads) (full (h + i) (omega arith) (omega arith)))

pub filled_low : (n h j : ℕ) (ns : List ℕ) → j < h → h ≤ length ns → ((i : ℕ) → h ≤ i → i < length ns → 0 < get_or ns i 0) → ((i : ℕ) → i < j → 0 < get_or ns i 0) → seen n (turned h (set ns j n)) ≡ true
filled_low n h j ns l le high low =
    let t = turned_low h ns j n le l in
    let ld = length-drop h ns in
    ap (λ l. seen n l) t.writes
    ∙ seen_filled n (turned h ns) (length (drop h ns) + j) t.within
    (λ i b. elim (cases_lt i (length (drop h ns))) as (λ _. 0 < get_or (turned h ns) i 0) [
      | inl d ↦ let r = turned_high h ns (h + i) n le (omega arith) (omega arith) in let q : h + i - h ≡ i = omega arith in rw (ap (λ k. get_or (turned h ns) k 0) (sym q) ∙ r.reads) (high (h + i) (omega arith) (omega arith))
      | inr d ↦ let r = turned_low h ns (i - length (drop h ns)) n le (omega arith) in let q : length (drop h ns) + (i - length (drop h ns)) ≡ i = omega arith in rw (ap (λ k. get_or (turned h ns) k 0) (sym q) ∙ r.reads) (low (i - length (drop h ns)) (omega arith))
    ])

-- every probe meets what stands, once n fills a free bucket
pub finds_set : (m n j h : ℕ) (ns : List ℕ) → h ≤ length ns → 0 < m → 0 < n → (n ≡ m → ⊥) → j < length ns → get_or ns j 0 ≡ 0 → seen m (turned h ns) ≡ has m ns → seen m (turned h (set ns j n)) ≡ has m (set ns j n)
finds_set m n j h ns le pm pn ne lt z e =
    let w = turned_set h ns j n le lt in
    let t : Turned h ns j n w.0 = w.1 in
    ap (λ l. seen m l) t.writes
    ∙ seen_fill m n (turned h ns) w.0 pm pn ne t.within (t.reads ∙ z) (e ∙ sym (has_turned m h ns))
    ∙ ap (λ l. has m l) (sym t.writes)
    ∙ has_turned m h (set ns j n)

-- one bucket on, in a part ns of the numbers that ms follow
pub probe_pass : (n : ℕ) (ns ms : List ℕ) (j : ℕ) → j < length ns → (get_or ns j 0 ≡ n → ⊥) → (get_or ns j 0 ≡ 0 → ⊥) → seen n (drop (j + 1) ns ++ ms) ≡ seen n (drop j ns ++ ms)
probe_pass n ns ms j lt ne nz = sym (ap (λ l. seen n (l ++ ms)) (drop_more ns j 0 lt) ∙ seen_past n (get_or ns j 0) (drop (j + 1) ns ++ ms) ne nz)

pub probe_stop : (n : ℕ) (ns ms : List ℕ) (j : ℕ) → j < length ns → (get_or ns j 0 ≡ n → ⊥) → get_or ns j 0 ≡ 0 → seen n (drop j ns ++ ms) ≡ false
probe_stop n ns ms j lt ne z = ap (λ l. seen n (l ++ ms)) (drop_more ns j 0 lt) ∙ seen_end n (get_or ns j 0) (drop (j + 1) ns ++ ms) ne z

pub number_at : (xs : List Entry) (j : ℕ) (d : Entry) → j < length xs → get_or (map number xs) j 0 ≡ (get_or xs j d).number
number_at xs j d lt = get_or-map number xs j d 0 lt

-- every probe meets what stands, once an entry is written into a free bucket where a probe for it would end
pub finds_new : (buckets : List Entry) (j : ℕ) (e : Entry) → 0 < e.number → j < length buckets → get_or (map number buckets) j 0 ≡ 0
    → seen e.number (turned (start e.number (length buckets)) (set (map number buckets) j e.number)) ≡ true
    → ((m : ℕ) → 0 < m → seen m (turned (start m (length buckets)) (map number buckets)) ≡ has m (map number buckets))
    → (m : ℕ) → 0 < m → seen m (turned (start m (length (set buckets j e))) (map number (set buckets j e))) ≡ has m (map number (set buckets j e))
finds_new buckets j e pos lt free met finds m pm =
    let n : ℕ = e.number in
    let jn : j < length (map number buckets) = omega (arith, length-map buckets number) in
    let within : start m (length buckets) ≤ length (map number buckets) = omega (arith, start_within m (length buckets) (omega arith), length-map buckets number) in
    rw (length-set buckets j e, map-set number buckets j e)
    (elim (cases_eq e.number m) as (λ _. seen m (turned (start m (length buckets)) (set (map number buckets) j e.number)) ≡ has m (set (map number buckets) j e.number)) [
      | inl q ↦
          subst (λ k. seen k (turned (start k (length buckets)) (set (map number buckets) j e.number)) ≡ has k (set (map number buckets) j e.number)) q
          (met ∙ sym (has_set_same e.number (map number buckets) j jn))
      | inr ne ↦ finds_set m e.number j (start m (length buckets)) (map number buckets) within pm pos ne jn free (finds m pm)
    ])
