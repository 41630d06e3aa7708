-- The order of keys is that of their numbers. Assumes nothing.
use Rattle.std.proofs.Common.{◌≡◌, ℕ, ◌+◌, ◌*◌, ◌^◌, ◌<◌, ◌≤◌, Bool, true, false, cond, eqb, ltb, ◌⊎◌, sym, ap, ◌∙◌, subst, inl, inr, mul-le-mul_right, add-mul, arith}
use Rattle.std.proofs.lemmas.Bool.{cases_order, cases_lt, cases_Bool, cond-true, cond-false, eq-eqb, ne_eqb, eqb-true, lt-ltb, le-ltb, both_ways}
use Rattle.terms.specs.declared.Key.{Key}
use Rattle.terms.specs.Order.{lower, same, words}
use Rattle.terms.proofs.Order.{same_is, same_refl, key_is}
use Rattle.trie_book.specs.Codes.{code, key_of, Bits}

pub bits_of : (c : ℕ) → c < 2 ^ 102 → Bits (key_of c)
bits_of c h = record { sells = omega arith; buys = omega arith; limit = omega arith; account = omega arith; sequence = omega arith }

pub code_key : (c : ℕ) → code (key_of c) ≡ c
code_key c = omega arith

pub code_small : (k : Key) → Bits k → code k < 2 ^ 102
code_small k b = omega arith

pub code_inj : (a b : Key) → Bits a → Bits b → code a ≡ code b → a ≡ b
code_inj a b p q e =
    let s : a.sold ≡ b.sold = omega arith in
    let t : a.bought ≡ b.bought = omega arith in
    let l : a.limit ≡ b.limit = omega arith in
    let n : a.account ≡ b.account = omega arith in
    let m : a.sequence ≡ b.sequence = omega arith in
    λ i. record { sold = s i; bought = t i; limit = l i; account = n i; sequence = m i }

pub key_code : (k : Key) → Bits k → key_of (code k) ≡ k
key_code k b = code_inj (key_of (code k)) k (bits_of (code k) (code_small k b)) b (code_key (code k))

pub same_code : (a b : Key) → Bits a → Bits b → same (words a) (words b) ≡ eqb (code a) (code b)
same_code a b p q =
    elim (cases_Bool (same (words a) (words b))) [
      | inl e ↦ e ∙ sym (eq-eqb (code a) (code b) (ap code (key_is a b (same_is (words a) (words b) e))))
      | inr e ↦ e ∙ sym (ne_eqb (code a) (code b) (λ h. both_ways (same (words a) (words b)) e (subst (λ k. same (words a) (words k) ≡ true) (code_inj a b p q h) (same_refl (words a)))))
    ]

-- one digit in front
step : (B x y u v : ℕ) (t : Bool) → u < B → v < B → t ≡ ltb u v → cond (eqb x y) t (ltb x y) ≡ ltb (x * B + u) (y * B + v)
step B x y u v t p q e =
    elim (cases_order x y) [
      | inl h ↦
          let m : x * B ≡ y * B = ap (λ n. n * B) h in
          cond-true (eqb x y) t (ltb x y) (eq-eqb x y h) ∙ e
          ∙ elim (cases_lt u v) [
            | inl l ↦ lt-ltb u v l ∙ sym (lt-ltb (x * B + u) (y * B + v) (omega (arith, m)))
            | inr g ↦ le-ltb u v g ∙ sym (le-ltb (x * B + u) (y * B + v) (omega (arith, m)))
          ]
      | inr s ↦
          elim s [
            | inl l ↦
                let m : (x + 1) * B ≤ y * B = mul-le-mul_right B (omega arith) in
                cond-false (eqb x y) t (ltb x y) (ne_eqb x y (λ h. omega arith)) ∙ lt-ltb x y l ∙ sym (lt-ltb (x * B + u) (y * B + v) (omega (arith, m, add-mul x 1 B)))
            | inr g ↦
                let m : (y + 1) * B ≤ x * B = mul-le-mul_right B (omega arith) in
                cond-false (eqb x y) t (ltb x y) (ne_eqb x y (λ h. omega arith)) ∙ le-ltb x y (omega arith) ∙ sym (le-ltb (x * B + u) (y * B + v) (omega (arith, m, add-mul y 1 B)))
          ]
    ]

last : (x y : ℕ) → cond (eqb x y) false (ltb x y) ≡ ltb x y
last x y =
    elim (cases_Bool (eqb x y)) [
      | inl e ↦ cond-true (eqb x y) false (ltb x y) e ∙ sym (le-ltb x y (omega (arith, eqb-true x y e)))
      | inr e ↦ cond-false (eqb x y) false (ltb x y) e
    ]

pub lower_code : (a b : Key) → Bits a → Bits b → lower (words a) (words b) ≡ ltb (code a) (code b)
lower_code a b p q =
    step 633825300114114700748351602688 a.sold b.sold _ _ _ (omega arith) (omega arith)
    (step 79228162514264337593543950336 a.bought b.bought _ _ _ (omega arith) (omega arith)
    (step 18446744073709551616 a.limit b.limit _ _ _ (omega arith) (omega arith)
    (step 4294967296 a.account b.account a.sequence b.sequence _ (omega arith) (omega arith)
    (last a.sequence b.sequence))))

-- keys past the range of sold, and of bought
pub lower_sold : (j o : Key) → Bits o → 8 ≤ j.sold → lower (words j) (words o) ≡ false
lower_sold j o b h = cond-false (eqb j.sold o.sold) _ (ltb j.sold o.sold) (ne_eqb _ _ (λ e. omega (arith, b.sells))) ∙ le-ltb j.sold o.sold (omega (arith, b.sells))

pub lower_bought : (j m o : Key) → Bits o → 8 ≤ j.bought → m.sold ≡ j.sold → m.bought ≡ 7 → m.limit ≡ 4294967295 → m.account ≡ 4294967295 → m.sequence ≡ 4294967295
    → lower (words j) (words o) ≡ ltb (code m) (code o)
lower_bought j m o b h e1 e2 e3 e4 e5 =
    elim (cases_order j.sold o.sold) [
      | inl e ↦
          cond-true (eqb j.sold o.sold) _ (ltb j.sold o.sold) (eq-eqb _ _ e)
          ∙ cond-false (eqb j.bought o.bought) _ (ltb j.bought o.bought) (ne_eqb _ _ (λ f. omega (arith, b.buys)))
          ∙ le-ltb j.bought o.bought (omega (arith, b.buys))
          ∙ sym (le-ltb (code m) (code o) (omega (arith, b.buys, b.limit, b.account, b.sequence, e)))
      | inr s ↦
          elim s [
            | inl l ↦
                cond-false (eqb j.sold o.sold) _ (ltb j.sold o.sold) (ne_eqb _ _ (λ f. omega arith)) ∙ lt-ltb j.sold o.sold l
                ∙ sym (lt-ltb (code m) (code o) (omega (arith, e1)))
            | inr g ↦
                cond-false (eqb j.sold o.sold) _ (ltb j.sold o.sold) (ne_eqb _ _ (λ f. omega arith)) ∙ le-ltb j.sold o.sold (omega arith)
                ∙ sym (le-ltb (code m) (code o) (omega (arith, b.buys, b.limit, b.account, b.sequence, e1)))
          ]
    ]

-- whether a key's parts have their bits
pub bits? : (k : Key) → Bits k ⊎ (Bits k → ⊥)
bits? k =
    elim (cases_lt k.sold 8) [
      | inr g ↦ inr (λ b. omega (arith, b.sells))
      | inl a ↦ elim (cases_lt k.bought 8) [
        | inr g ↦ inr (λ b. omega (arith, b.buys))
        | inl b ↦ elim (cases_lt k.limit 4294967296) [
          | inr g ↦ inr (λ x. omega (arith, x.limit))
          | inl c ↦ elim (cases_lt k.account 4294967296) [
            | inr g ↦ inr (λ x. omega (arith, x.account))
            | inl d ↦ elim (cases_lt k.sequence 4294967296) [
              | inr g ↦ inr (λ x. omega (arith, x.sequence))
              | inl e ↦ inl (record { sells = a; buys = b; limit = c; account = d; sequence = e })
            ]
          ]
        ]
      ]
    ]
