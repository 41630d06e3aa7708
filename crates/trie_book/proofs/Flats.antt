-- A trie as an offer book: what its descent finds is what the book means. Assumes nothing.
use Rattle.std.proofs.Common.{◌≡◌, ℕ, ◌+◌, ◌-◌, ◌*◌, ◌^◌, ◌<◌, ◌≤◌, Bool, true, false, cond, ◌&&◌, eqb, ltb, leb, ◌⊎◌, List, [], ◌∷◌, length, Some, None, sum_by, Option, sym, refl, ap, ◌∙◌, subst, inl, inr, arith}
use Rattle.std.specs.List.{AllByRecursion}
use Rattle.std.proofs.lemmas.List.{length-append, nil_from_length}
use Rattle.std.proofs.lemmas.List.Sums.{sum_by-cons, sum_by-append}
use Rattle.std.proofs.ByRecursion.{All-append, All-weaker}
use Rattle.std.proofs.lemmas.Bool.{and_parts, and_from, cases_lt, cases_eq, cases_Bool, cond-true, cond-false, eq-eqb, ne_eqb, eqb-true, eqb-false, lt-ltb, le-ltb, ltb-true, le-leb, leb-true, both_ways}
use Rattle.terms.specs.declared.Key.{Key}
use Rattle.terms.specs.declared.Offer.{Offer as Resting}
use Rattle.terms.specs.Order.{Rising, under, above, place, words, lower, same}
use Rattle.terms.specs.Ranges.{fit_key, fit_offer, is_amount}
use Rattle.terms.specs.Holdings.{amount_at, offered_of, up_to, sound_book}
use Rattle.terms.proofs.Order.{same_is, key_is, total as total-order, transitive}
use Rattle.ordered.proofs.Rising.{sum_by_zero, all_2, all_parts, rising_join, under_above, under_each, under_none, under_absent, above_none}
use Rattle.offers.specs.Changes.{Placed, Reduced}
use Rattle.offers.proofs.Sound.{book_parts, book_from, amount_parts}
use Rattle.trie.specs.declared.node.Node.{Node}
use Rattle.trie.specs.declared.node.Node.TheVariants.{Idle, Offer, Branch'}
use Rattle.trie.specs.Trie.{held, offers, within, ordered, Ordered, Whole, Next, placeable, reducible}
use Rattle.trie.specs.Trie as trie
use Rattle.trie_book.specs.Codes.{code, key_of, Bits, flat, book_of, Starts}
use Rattle.trie_book.proofs.Digits.{bits_of, code_key, code_small, key_code, same_code, lower_code, bits?}
use Rattle.trie.proofs.Sides.{of_whole, held_above}

pub sum_by_same : {X : Type 0} (f g : X → ℕ) (xs : List X) → AllByRecursion (λ x. f x ≡ g x) xs → sum_by f xs ≡ sum_by g xs
sum_by_same f g [] h = refl
sum_by_same f g (x ∷ xs) h = omega (arith, sum_by-cons f x xs, sum_by-cons g x xs, sum_by_same f g xs h.1, h.0)

pub sum_by_plus : {X : Type 0} (f g : X → ℕ) (xs : List X) → sum_by (λ x. f x + g x) xs ≡ sum_by f xs + sum_by g xs
sum_by_plus f g [] = refl
sum_by_plus f g (x ∷ xs) = omega (arith, sum_by-cons f x xs, sum_by-cons g x xs, sum_by_plus f g xs, sum_by-cons (λ y. f y + g y) x xs)

-- m stands, lies above k, and no key lies between
pub above_from : {X : Type 0} (key : X → List ℕ) (xs : List X) (k m : List ℕ) → Rising key xs → lower k m ≡ true → 0 < under key (λ _. 1) xs m
    → AllByRecursion (λ x. lower k (key x) ≡ true → lower (key x) m ≡ false) xs → above key xs k ≡ m
above_from key [] k m r h p a = absurd (omega arith)
above_from key (x ∷ xs) k m r h p a =
    elim (cases_Bool (lower k (key x))) [
      | inl e ↦
          cond-true (lower k (key x)) (key x) (above key xs k) e
          ∙ total-order (key x) m (a.0 e)
          (elim (cases_Bool (lower m (key x))) [
            | inl q ↦ absurd (omega (arith, under_above key (λ _. 1) (x ∷ xs) m (q, All-weaker _ _ (λ y t. transitive m (key x) (key y) q t) xs r.0)))
            | inr q ↦ q
          ])
      | inr e ↦
          let no : same (key x) m ≡ false =
          elim (cases_Bool (same (key x) m)) [ inl q ↦ absurd (both_ways (lower k m) (subst (λ l. lower k l ≡ false) (same_is (key x) m q) e) h) | inr q ↦ q ] in
          let c = sum_by-cons (λ y. cond (same (key y) m) 1 0) x xs in
          cond-false (lower k (key x)) (key x) (above key xs k) e
          ∙ above_from key xs k m r.1 h (omega (arith, c, cond-false {A = ℕ} (same (key x) m) 1 0 no)) a.1
    ]

-- an offer whose key has its bits, and a number from lo to below hi
pub record In (lo hi : ℕ) (o : Resting) : Type 0 where
  pub low : lo ≤ code o.key
  pub high : code o.key < hi
  pub bits : Bits o.key

pub all_in : (t : Node) (lo hi : ℕ) → within lo hi t ≡ true → within 0 (2 ^ 102) t ≡ true → AllByRecursion (In lo hi) (flat t)
all_in Idle lo hi w v = tt
all_in (Offer k a) lo hi w v =
    let p = and_parts (leb lo k) (ltb k hi) w in
    let q = and_parts (leb 0 k) (ltb k (2 ^ 102)) v in (
      record {
        low = omega (arith, leb-true lo k p.0, code_key k);
        high = omega (arith, ltb-true k hi p.1, code_key k);
        bits = bits_of k (ltb-true k (2 ^ 102) q.1);
      },
      tt,
    )
all_in (Branch' bit split sum b l d r) lo hi w v =
    let p = and_parts (within lo hi l) (within lo hi r) w in
    let q = and_parts (within 0 (2 ^ 102) l) (within 0 (2 ^ 102) r) v in
    All-append _ (flat l) (flat r) (all_in l lo hi p.0 q.0) (all_in r lo hi p.1 q.1)

pub amount_held : (t : Node) → within 0 (2 ^ 102) t ≡ true → (j : Key) → Bits j → amount_at (flat t) j ≡ held t (code j)
amount_held Idle w j b = refl
amount_held (Offer k a) w j b =
    let q = and_parts (leb 0 k) (ltb k (2 ^ 102)) w in
    let o : Resting = record { key = key_of k; amount = a } in
    let e : cond (same (words (key_of k)) (words j)) a 0 ≡ cond (eqb k (code j)) a 0 =
    ap (λ v. cond v a 0) (same_code (key_of k) j (bits_of k (ltb-true k (2 ^ 102) q.1)) b ∙ ap (λ c. eqb c (code j)) (code_key k)) in
    omega (arith, sum_by-cons (λ p. cond (same (place p) (words j)) p.amount 0) o [], e)
amount_held (Branch' bit split sum c l d r) w j b =
    let q = and_parts (within 0 (2 ^ 102) l) (within 0 (2 ^ 102) r) w in
    omega (arith, sum_by-append (λ p. cond (same (place p) (words j)) p.amount 0) (flat l) (flat r), amount_held l q.0 j b, amount_held r q.1 j b)

pub amount_out : (t : Node) → within 0 (2 ^ 102) t ≡ true → (j : Key) → (Bits j → ⊥) → amount_at (flat t) j ≡ 0
amount_out t w j never =
    under_none place (λ o. o.amount) (flat t) (words j)
    (All-weaker (In 0 (2 ^ 102)) _
    (λ o i. elim (cases_Bool (same (place o) (words j))) [ inl e ↦ absurd (never (subst Bits (key_is o.key j (same_is (place o) (words j) e)) i.bits)) | inr e ↦ e ])
    (flat t) (all_in t 0 (2 ^ 102) w w))

pub count_flat : (t : Node) → length (flat t) ≡ offers t
count_flat Idle = refl
count_flat (Offer k a) = refl
count_flat (Branch' bit split sum p l q r) = omega (arith, length-append (flat l) (flat r), count_flat l, count_flat r)

pub rising_flat : (t : Node) (bits : ℕ) → Ordered bits t → within 0 (2 ^ 102) t ≡ true → Rising place (flat t)
rising_flat Idle bits o w = tt
rising_flat (Offer k a) bits o w = (tt, tt)
rising_flat (Branch' bit split sum b l d r) bits o w =
    let q = and_parts (within 0 (2 ^ 102) l) (within 0 (2 ^ 102) r) w in
    let p1 = and_parts _ (ordered bit r) o in
    let p2 = and_parts _ (ordered bit l) p1.0 in
    let p3 = and_parts _ (within split (split + 2 ^ bit) r) p2.0 in
    let p4 = and_parts _ (within (split - 2 ^ bit) split l) p3.0 in
    rising_join place (flat l) (flat r) (rising_flat l bit p2.1 q.0) (rising_flat r bit p1.1 q.1)
    (All-weaker (In (split - 2 ^ bit) split) _
    (λ x i. All-weaker (In split (split + 2 ^ bit)) _
    (λ y j. lower_code x.key y.key i.bits j.bits ∙ lt-ltb _ _ (omega (arith, i.high, j.low)))
    (flat r) (all_in r split (split + 2 ^ bit) p3.1 q.1))
    (flat l) (all_in l (split - 2 ^ bit) split p4.1 q.0))

pub under_flat : (t : Node) (c : ℕ) → sum_by (λ o. cond (ltb (code o.key) c) o.amount 0) (flat t) ≡ trie.under t c
under_flat Idle c = refl
under_flat (Offer k a) c =
    let o : Resting = record { key = key_of k; amount = a } in
    let e : cond (ltb (code (key_of k)) c) a 0 ≡ cond (ltb k c) a 0 = ap (λ n. cond (ltb n c) a 0) (code_key k) in
    omega (arith, sum_by-cons (λ p. cond (ltb (code p.key) c) p.amount 0) o [], e)
under_flat (Branch' bit split sum p l q r) c =
    omega (arith, sum_by-append (λ o. cond (ltb (code o.key) c) o.amount 0) (flat l) (flat r), under_flat l c, under_flat r c)

-- ranges of keys

abbrev pub Fits : Node → Type 0
Fits t = (x : ℕ) → 0 < held t x → fit_key (key_of x) ≡ true

pub keys_fit : (t : Node) → AllByRecursion (λ o. fit_offer o ≡ true) (flat t) → Fits t
keys_fit Idle a x h = absurd (omega arith)
keys_fit (Offer k v) a x h =
    elim (cases_Bool (eqb k x)) [
      | inl e ↦ subst (λ c. fit_key (key_of c) ≡ true) (eqb-true k x e) (and_parts (fit_key (key_of k)) (is_amount v) a.0).0
      | inr e ↦ absurd (omega (arith, cond-false (eqb k x) v 0 e))
    ]
keys_fit (Branch' bit split sum p l q r) a x h =
    let s = all_parts (λ o. fit_offer o ≡ true) (flat l) (flat r) a in
    elim (cases_lt 0 (held l x)) [ inl y ↦ keys_fit l s.0 x y | inr n ↦ keys_fit r s.1 x (omega arith) ]

pub fit_flat : (t : Node) (bits : ℕ) → Ordered bits t → Fits t → AllByRecursion (λ o. fit_offer o ≡ true) (flat t)
fit_flat Idle bits o f = tt
fit_flat (Offer k a) bits o f =
    let p = and_parts (ltb 0 a) (leb a 68719476735) o in
    let pos : 0 < a = ltb-true 0 a p.0 in
    (and_from (fit_key (key_of k)) (is_amount a) (f k (omega (arith, cond-true (eqb k k) a 0 (eq-eqb k k refl)))) (and_from _ _ p.0 (lt-ltb a 68719476736 (omega (arith, leb-true a 68719476735 p.1)))), tt)
fit_flat (Branch' bit split sum b l d r) bits o f =
    let p1 = and_parts _ (ordered bit r) o in
    let p2 = and_parts _ (ordered bit l) p1.0 in
    All-append _ (flat l) (flat r) (fit_flat l bit p2.1 (λ x h. f x (omega arith))) (fit_flat r bit p1.1 (λ x h. f x (omega arith)))

pub whole_in : (t : Node) → Whole t → within 0 (2 ^ 102) t ≡ true
whole_in t w =
    elim (cases_lt 0 (offers t)) [
      | inl p ↦ (of_whole t w p).1
      | inr z ↦ none t (omega arith) w
    ]
  where
    none : (u : Node) → offers u ≡ 0 → Whole u → within 0 (2 ^ 102) u ≡ true
    none Idle e w = refl
    none (Offer k a) e w = absurd (omega arith)
    none (Branch' bit split sum p l q r) e w = and_from _ _ (and_parts _ (within 0 (2 ^ 102) l) (and_parts _ (within 0 (2 ^ 102) r) w).0).1 (and_parts _ (within 0 (2 ^ 102) r) w).1

pub sound_of : (cap : ℕ) (u : Node) → Whole u → offers u ≤ cap → cap ≤ 65536 → Fits u → sound_book (book_of cap u) ≡ true
sound_of cap u w few small fit =
    elim (cases_lt 0 (offers u)) [
      | inl p ↦
          let o = of_whole u w p in
          book_from (book_of cap u) (record { up = rising_flat u 102 o.0 o.1; fit = fit_flat u 102 o.0 fit; few = omega (arith, count_flat u); small = small })
      | inr z ↦
          let nil : flat u ≡ [] = nil_from_length (flat u) (omega (arith, count_flat u)) in
          book_from (book_of cap u) (record { up = subst (Rising place) (sym nil) tt; fit = subst (AllByRecursion (λ o. fit_offer o ≡ true)) (sym nil) tt; few = omega (arith, count_flat u); small = small })
    ]

pub fits_of : (cap : ℕ) (t : Node) → sound_book (book_of cap t) ≡ true → Fits t
fits_of cap t s = keys_fit t (book_parts (book_of cap t) s).fit

pub put_fits : (t u : Node) (c v : ℕ) → ((x : ℕ) → held u x ≡ cond (eqb x c) v (held t x)) → Fits t → fit_key (key_of c) ≡ true → Fits u
put_fits t u c v e f k x h =
    elim (cases_Bool (eqb x c)) [
      | inl q ↦ subst (λ n. fit_key (key_of n) ≡ true) (sym (eqb-true x c q)) k
      | inr q ↦ f x (omega (arith, e x, cond-false (eqb x c) v (held t x) q))
    ]

-- what a key reads after a change
pub amounts_put : (t u : Node) (k : Key) (v : ℕ) → within 0 (2 ^ 102) t ≡ true → within 0 (2 ^ 102) u ≡ true → Bits k
    → ((x : ℕ) → held u x ≡ cond (eqb x (code k)) v (held t x))
    → (j : Key) → amount_at (flat u) j ≡ cond (same (words j) (words k)) v (amount_at (flat t) j)
amounts_put t u k v tw uw kb e j =
    elim (bits? j) [
      | inl b ↦
          amount_held u uw j b ∙ e (code j) ∙ ap (λ n. cond (eqb (code j) (code k)) v n) (sym (amount_held t tw j b))
          ∙ ap (λ s. cond s v (amount_at (flat t) j)) (sym (same_code j k b kb))
      | inr n ↦
          let no : same (words j) (words k) ≡ false =
          elim (cases_Bool (same (words j) (words k))) [ inl q ↦ absurd (n (subst Bits (sym (key_is j k (same_is (words j) (words k) q))) kb)) | inr q ↦ q ] in
          amount_out u uw j n ∙ sym (cond-false (same (words j) (words k)) v (amount_at (flat t) j) no ∙ amount_out t tw j n)
    ]

pub key_bits : (k : Key) → fit_key k ≡ true → Bits k
key_bits k e =
    let p = and_parts _ _ e in
    let q = and_parts _ _ p.0 in
    let r = and_parts _ _ p.1 in
    let u = and_parts _ _ r.1 in
    record {
      sells = ltb-true _ _ q.0;
      buys = ltb-true _ _ (and_parts _ _ q.1).0;
      limit = ltb-true _ _ (and_parts _ _ r.0).1;
      account = ltb-true _ _ (and_parts _ _ u.0).1;
      sequence = ltb-true _ _ u.1;
    }

-- the lowest key above

abbrev pub told_code : Option ℕ → List ℕ
told_code None = []
told_code (Some c) = words (key_of c)

all_held : (cap : ℕ) (t : Node) → Whole t → sound_book (book_of cap t) ≡ true → AllByRecursion (λ o. (0 < held t (code o.key)) × Bits o.key) (flat t)
all_held cap t w s =
    let ok = book_parts (book_of cap t) s in
    let v = whole_in t w in
    all_2 _ (λ o p q.
    let k = and_parts (fit_key o.key) (is_amount o.amount) q in
    let b = key_bits o.key k.0 in
    (omega (arith, p, amount_held t v o.key b, ltb-true 0 o.amount (and_parts (ltb 0 o.amount) (ltb o.amount 68719476736) k.1).0), b))
    (flat t) (under_each place (λ o. o.amount) (flat t) ok.up) ok.fit

pub next_is : (cap : ℕ) (t : Node) → Whole t → sound_book (book_of cap t) ≡ true → (j : Key) (c : ℕ) → Starts j (Some c) → (r : Option ℕ) → Next c t r
    → told_code r ≡ above place (flat t) (words j)
next_is cap t w s j c st None n =
    sym (above_none place (flat t) (words j)
    (All-weaker _ _ (λ o h. st o.key h.1 ∙ elim (cases_lt c (code o.key)) [ inl l ↦ absurd (omega (arith, n (code o.key) l, h.0)) | inr g ↦ le-ltb c (code o.key) g ]) (flat t) (all_held cap t w s)))
next_is cap t w s j c st (Some m) n =
    let ok = book_parts (book_of cap t) s in
    let v = whole_in t w in
    let small : m < 2 ^ 102 = elim (cases_lt m (2 ^ 102)) [ inl l ↦ l | inr g ↦ absurd (omega (arith, n.1, held_above t 0 (2 ^ 102) m v g)) ] in
    let b = bits_of m small in
    let some : 0 < amount_at (flat t) (key_of m) = omega (arith, amount_held t v (key_of m) b, ap (held t) (code_key m), n.1) in
    let one : 0 < under place (λ _. 1) (flat t) (words (key_of m)) =
    elim (cases_lt 0 (under place (λ _. 1) (flat t) (words (key_of m)))) [ inl l ↦ l | inr g ↦ absurd (omega (arith, some, under_absent place (λ o. o.amount) (flat t) (words (key_of m)) (omega arith))) ] in
    sym (above_from place (flat t) (words j) (words (key_of m)) ok.up
    (st (key_of m) b ∙ lt-ltb c (code (key_of m)) (omega (arith, n.0, code_key m))) one
    (All-weaker _ _ (λ o h e.
    lower_code o.key (key_of m) h.1 b
    ∙ elim (cases_lt (code o.key) (code (key_of m))) [
      | inl l ↦ absurd (omega (arith, h.0, n.2 (code o.key) (ltb-true c (code o.key) (sym (st o.key h.1) ∙ e)) (omega (arith, code_key m))))
      | inr g ↦ le-ltb (code o.key) (code (key_of m)) g
    ])
    (flat t) (all_held cap t w s)))

pub next_none : (t : Node) → Whole t → (j : Key) → Starts j None → [] ≡ above place (flat t) (words j)
next_none t w j st = sym (above_none place (flat t) (words j) (All-weaker (In 0 (2 ^ 102)) _ (λ o i. st o.key i.bits) (flat t) (all_in t 0 (2 ^ 102) (whole_in t w) (whole_in t w))))

-- sums of a run of keys

parted : (c lo hi a : ℕ) (b : Bool) → lo ≤ hi → (b ≡ true → (lo ≤ c) × (c < hi)) → (b ≡ false → (c < lo) ⊎ (hi ≤ c)) → cond (ltb c hi) a 0 ≡ cond (ltb c lo) a 0 + cond b a 0
parted c lo hi a true le y n =
    let p = y refl in
    omega (arith, cond-true (ltb c hi) a 0 (lt-ltb c hi p.1), cond-false (ltb c lo) a 0 (le-ltb c lo p.0))
parted c lo hi a false le y n =
    elim (n refl) [
      | inl l ↦ omega (arith, cond-true (ltb c hi) a 0 (lt-ltb c hi (omega arith)), cond-true (ltb c lo) a 0 (lt-ltb c lo l))
      | inr g ↦ omega (arith, cond-false (ltb c hi) a 0 (le-ltb c hi g), cond-false (ltb c lo) a 0 (le-ltb c lo (omega arith)))
    ]

run_sum : (t : Node) (lo hi : ℕ) (p : Resting → Bool) → within 0 (2 ^ 102) t ≡ true → lo ≤ hi
    → ((o : Resting) → Bits o.key → (p o ≡ true → (lo ≤ code o.key) × (code o.key < hi)) × (p o ≡ false → (code o.key < lo) ⊎ (hi ≤ code o.key)))
    → trie.under t hi ≡ trie.under t lo + sum_by (λ o. cond (p o) o.amount 0) (flat t)
run_sum t lo hi p w le each =
    let below : ℕ → Resting → ℕ = λ c o. cond (ltb (code o.key) c) o.amount 0 in
    sym (under_flat t hi)
    ∙ sum_by_same (below hi) (λ o. below lo o + cond (p o) o.amount 0) (flat t)
    (All-weaker (In 0 (2 ^ 102)) _ (λ o i. let e = each o i.bits in parted (code o.key) lo hi o.amount (p o) le e.0 e.1) (flat t) (all_in t 0 (2 ^ 102) w w))
    ∙ sum_by_plus (below lo) (λ o. cond (p o) o.amount 0) (flat t)
    ∙ ap (λ n. n + sum_by (λ o. cond (p o) o.amount 0) (flat t)) (under_flat t lo)

pub sold_sum : (cap : ℕ) (t : Node) (x lo hi : ℕ) → Whole t → lo ≡ x * 633825300114114700748351602688 → hi ≡ lo + 633825300114114700748351602688
    → trie.under t hi ≡ trie.under t lo + offered_of (book_of cap t) x
sold_sum cap t x lo hi w el eh =
    run_sum t lo hi (λ o. eqb o.key.sold x) (whole_in t w) (omega arith)
    (λ o b. (
      (λ e. let q = eqb-true o.key.sold x e in (omega (arith, q), omega (arith, q, b.buys, b.limit, b.account, b.sequence))),
      (λ e. elim (cases_lt o.key.sold x) [
        | inl l ↦ inl (omega (arith, l, b.buys, b.limit, b.account, b.sequence))
        | inr g ↦ inr (let ne = eqb-false o.key.sold x e in let l : x < o.key.sold = elim (cases_eq o.key.sold x) [ inl q ↦ absurd (ne q) | inr q ↦ omega arith ] in omega (arith, l))
      ]),
    ))

pub sold_out : (cap : ℕ) (t : Node) (x : ℕ) → Whole t → 8 ≤ x → offered_of (book_of cap t) x ≡ 0
sold_out cap t x w h =
    sum_by_zero _ (flat t)
    (All-weaker (In 0 (2 ^ 102)) _ (λ o i. cond-false (eqb o.key.sold x) o.amount 0 (ne_eqb _ _ (λ e. omega (arith, i.bits.sells)))) (flat t) (all_in t 0 (2 ^ 102) (whole_in t w) (whole_in t w)))

abbrev reaches : ℕ → ℕ → ℕ → Resting → Bool
reaches x y l o = eqb o.key.sold x && (eqb o.key.bought y && leb o.key.limit l)

pub reach_out : (cap : ℕ) (t : Node) (x y l : ℕ) → Whole t → (8 ≤ x) ⊎ (8 ≤ y) → up_to (book_of cap t) x y l ≡ 0
reach_out cap t x y l w h =
    sum_by_zero _ (flat t)
    (All-weaker (In 0 (2 ^ 102)) _
    (λ o i. cond-false (reaches x y l o) o.amount 0
    (elim (cases_Bool (reaches x y l o)) [
      | inl e ↦
          let p = and_parts (eqb o.key.sold x) (eqb o.key.bought y && leb o.key.limit l) e in
          let q = and_parts (eqb o.key.bought y) (leb o.key.limit l) p.1 in
          absurd (elim h [ inl a ↦ omega (arith, i.bits.sells, eqb-true o.key.sold x p.0, a) | inr a ↦ omega (arith, i.bits.buys, eqb-true o.key.bought y q.0, a) ])
      | inr e ↦ e
    ]))
    (flat t) (all_in t 0 (2 ^ 102) (whole_in t w) (whole_in t w)))

pub reach_sum : (cap : ℕ) (t : Node) (x y l lo hi : ℕ) → Whole t → x < 8 → y < 8 → l < 4294967296
    → lo ≡ x * 633825300114114700748351602688 + y * 79228162514264337593543950336
    → hi ≡ lo + (l + 1) * 18446744073709551616
    → trie.under t hi ≡ trie.under t lo + up_to (book_of cap t) x y l
reach_sum cap t x y l lo hi w xs ys ls el eh =
    run_sum t lo hi (reaches x y l) (whole_in t w) (omega arith)
    (λ o b. (
      (λ e.
          let p = and_parts (eqb o.key.sold x) (eqb o.key.bought y && leb o.key.limit l) e in
          let q = and_parts (eqb o.key.bought y) (leb o.key.limit l) p.1 in
          let s = eqb-true o.key.sold x p.0 in
          let t = eqb-true o.key.bought y q.0 in
          let u = leb-true o.key.limit l q.1 in
          (omega (arith, s, t), omega (arith, s, t, u, b.account, b.sequence))),
      (λ e. other o b e),
    ))
  where
    other : (o : Resting) → Bits o.key → reaches x y l o ≡ false → (code o.key < lo) ⊎ (hi ≤ code o.key)
    other o b e =
        elim (cases_lt (code o.key) lo) [
          | inl h ↦ inl h
          | inr g ↦
              elim (cases_lt (code o.key) hi) [
                | inr h ↦ inr h
                | inl h ↦
                    let s : o.key.sold ≡ x = omega (arith, g, h, b.sells, b.buys, b.limit, b.account, b.sequence, xs, ys, ls, el, eh) in
                    let t : o.key.bought ≡ y = omega (arith, g, h, s, b.buys, b.limit, b.account, b.sequence, ys, ls, el, eh) in
                    let u : o.key.limit ≤ l = omega (arith, g, h, s, t, b.limit, b.account, b.sequence, el, eh) in
                    absurd (both_ways (reaches x y l o) e (and_from _ _ (eq-eqb _ _ s) (and_from _ _ (eq-eqb _ _ t) (le-leb _ _ u))))
              ]
        ]

pub held_small : (t : Node) → Whole t → (x : ℕ) → 0 < held t x → x < 2 ^ 102
held_small t w x h = elim (cases_lt x (2 ^ 102)) [ inl l ↦ l | inr g ↦ absurd (omega (arith, h, held_above t 0 (2 ^ 102) x (whole_in t w) g)) ]

pub stands_bits : (t : Node) → Whole t → (j : Key) → 0 < amount_at (flat t) j → Bits j
stands_bits t w j h = elim (bits? j) [ inl b ↦ b | inr n ↦ absurd (omega (arith, h, amount_out t (whole_in t w) j n)) ]

-- changes

-- what stands in the book stands in the trie
pub stands_held : (t : Node) (k : Key) (c : ℕ) → Whole t → Bits k → c ≡ code k → held t c ≡ amount_at (flat t) k
stands_held t k c w b e = ap (held t) e ∙ sym (amount_held t (whole_in t w) k b)

module _ (cap cap' : ℕ) (t u : Node) (k : Key) (v c : ℕ) (done : Bool) (tw : Whole t) (uw : Whole u) (sound : sound_book (book_of cap t) ≡ true) (few : offers u ≤ cap)
    (is : c ≡ code k) (caps : cap' ≡ cap) (holds : (x : ℕ) → held u x ≡ cond (done && eqb x c) v (held t x)) where
  made_holds : done ≡ true → (x : ℕ) → held u x ≡ cond (eqb x c) v (held t x)
  made_holds made x = holds x ∙ ap (λ q. cond (q && eqb x c) v (held t x)) made

  -- the book is as good as it was, once the key is good
  kept : done ≡ true → fit_key (key_of c) ≡ true → sound_book (book_of cap u) ≡ true
  kept made kf = sound_of cap u uw few (book_parts (book_of cap t) sound).small (put_fits t u c v (made_holds made) (fits_of cap t sound) kf)

  pub places : done ≡ placeable t cap c v → offers u ≡ offers t + cond done 1 0 → (fit_key k && is_amount v) ≡ true → amount_at (flat t) k ≡ 0 → offers t < cap
      → Placed (book_of cap t) k v (book_of cap' u) × (sound_book (book_of cap' u) ≡ true)
  places d n fit absent room =
      let f = and_parts (fit_key k) (is_amount v) fit in
      let a = amount_parts v f.1 in
      let b = key_bits k f.0 in
      let made : done ≡ true = d
      ∙ and_from _ _ (eq-eqb _ 0 (stands_held t k c tw b is ∙ absent))
      (and_from _ _ (lt-ltb (offers t) cap room)
      (and_from _ _ (lt-ltb c (2 ^ 102) (omega (arith, is, code_small k b))) (and_from _ _ (lt-ltb 0 v a.0) (le-leb v 68719476735 a.1)))) in
      let kf : fit_key (key_of c) ≡ true = subst (λ n. fit_key (key_of n) ≡ true) (sym is) (subst (λ j. fit_key j ≡ true) (sym (key_code k b)) f.0) in
      subst (λ m. Placed (book_of cap t) k v (book_of m u) × (sound_book (book_of m u) ≡ true)) (sym caps) (
        record {
          capacity = refl;
          count = omega (arith, count_flat t, count_flat u, n, cond-true {A = ℕ} done 1 0 made);
          amounts = amounts_put t u k v (whole_in t tw) (whole_in u uw) b (λ x. made_holds made x ∙ ap (λ m. cond (eqb x m) v (held t x)) is);
        },
        kept made kf,
      )

  pub reduces : done ≡ reducible t c v → offers u + cond (done && eqb v 0) 1 0 ≡ offers t → 0 < amount_at (flat t) k → v ≤ amount_at (flat t) k
      → Reduced (book_of cap t) k v (book_of cap' u) × (sound_book (book_of cap' u) ≡ true)
  reduces d n stands le =
      let b = stands_bits t tw k stands in
      let h = stands_held t k c tw b is in
      let made : done ≡ true = d ∙ and_from _ _ (lt-ltb 0 (held t c) (omega (arith, h))) (le-leb v (held t c) (omega (arith, h))) in
      subst (λ m. Reduced (book_of cap t) k v (book_of m u) × (sound_book (book_of m u) ≡ true)) (sym caps) (
        record {
          capacity = refl;
          count = omega (arith, count_flat t, count_flat u, n, ap (λ q. cond {A = ℕ} (q && eqb v 0) 1 0) made);
          amounts = amounts_put t u k v (whole_in t tw) (whole_in u uw) b (λ x. made_holds made x ∙ ap (λ m. cond (eqb x m) v (held t x)) is);
        },
        kept made (fits_of cap t sound c (omega (arith, h))),
      )
