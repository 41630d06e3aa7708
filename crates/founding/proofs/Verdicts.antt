-- What a founding's accounts count to, and the verdict from its rows. Assumes nothing.
use Rattle.std.proofs.Common.{◌≡◌, ℕ, ◌<◌, ◌≤◌, true, false, cond, ◌&&◌, eqb, ltb, leb, List, [], ◌∷◌, length, IsErrAnd, Some, Ok, Err, sum_by, count_by, Result, sym, refl, ap, ◌∙◌, subst, inl, inr, arith}
use Rattle.std.specs.List.{ContainsAt as Has, flat_map}
use Rattle.std.proofs.lemmas.List.Sums.{sum_by-cons}
use Rattle.std.proofs.lemmas.Bool.{cases_eq, cases_order, eq-eqb, ne_eqb, ltb-true, leb-true, lt-ltb, and_parts, and_from, and_left, and_right, or_cases, or_left, or_right, false≢true}
use Rattle.std.proofs.lemmas.Bool.Decides.{nat_tests}
use Rattle.terms.specs.declared.Grant.{Grant}
use Rattle.terms.specs.declared.Fault.{Fault}
use Rattle.terms.specs.Order.{lower, rank, same, under}
use Rattle.terms.specs.Ranges.{every, fit_grant}
use Rattle.terms.specs.Holdings.{Store}
use Rattle.blocks.specs.Readable.{fit_grants}
use Rattle.exchange.specs.Faults.{Objection, Objected, FoundingVerdict, objection_number}
use Rattle.exchange.specs.Faults.Objection.{bad_grant, too_many_grants, excess_grants}
use Rattle.exchange.proofs.Rising.{sum_by_zero, sum_by_same, all_of}
use Rattle.exchange.proofs.Sums.{sum_by_joined, some_of, member_le, if_true, if_false}
use Rattle.exchange.proofs.Keyed.{and_only}
use Rattle.exchange.proofs.Causes.{later, level}
use Rattle.tally.specs.Least.{Told, spot, fault_of}
use Rattle.tally.specs.declared.effects.Effect.{Effect}
use Rattle.tally.specs.declared.rules.Place.{Place}
use Rattle.tally.proofs.Tells.{told_by}
use Rattle.founding.specs.Judged.{once, is_bad}

-- there are few grants
pub few : (gs hs : List Grant) → gs ≡ hs → fit_grants hs ≡ true → length gs ≤ 1024
few gs hs e fit = omega (arith, ap length e, leb-true (length hs) 579 (and_parts (every fit_grant hs) (leb (length hs) 579) fit).1)

-- what is counted at a place
abbrev pub tallied : List Grant → ℕ → ℕ → ℕ
tallied gs i j = under (λ e. spot e.key) (λ e. e.plus) (flat_map once gs) (i ∷ j ∷ [])

abbrev at : ℕ → ℕ → Effect Place → ℕ
at i j e = cond (same (spot e.key) (i ∷ j ∷ [])) e.plus 0

here : Grant → Effect Place
here g = record { key = record { first = g.account; second = 0 }; plus = 1; minus = 0 }

counted : (gs : List Grant) (i : ℕ) → tallied gs i 0 ≡ count_by (λ g. eqb g.account i) gs
counted gs i =
    sum_by_joined (at i 0) once gs
    ∙ sum_by_same (λ g. sum_by (at i 0) (once g)) (λ g. cond (eqb g.account i) 1 0) gs
    (all_of _ (λ g. omega (arith, sum_by-cons (at i 0) (here g) [], ap {B = ℕ} (λ t. cond t 1 0) (and_only (eqb g.account i)))) gs)

nowhere_else : (gs : List Grant) (i j : ℕ) → (j ≡ 0 → ⊥) → tallied gs i j ≡ 0
nowhere_else gs i j ne =
    sum_by_joined (at i j) once gs
    ∙ sum_by_zero (λ g. sum_by (at i j) (once g)) gs
    (all_of _ (λ g. omega (arith, sum_by-cons (at i j) (here g) [], if_false (eqb g.account i && (eqb 0 j && true)) 1 0 (and_right _ _ (and_left _ _ (ne_eqb 0 j (λ e. ne (sym e))))))) gs)

module _ (st : Store) (gs : List Grant) where
  -- an account that is counted is the account of a grant
  named : (i : ℕ) → 0 < count_by (λ g. eqb g.account i) gs → (g : Grant) × Has gs g × (g.account ≡ i)
  named i h =
      let (g, m, p) = some_of (λ g. cond (eqb g.account i) 1 0) gs h in
      let e : g.account ≡ i = grind (arith, nat_tests) in
      (g, m, e)

  to_objected : (i j : ℕ) → is_bad st.top i (tallied gs i j) ≡ true → Objected st gs bad_grant i j
  to_objected i j h = elim (cases_eq j 0) [
    | inr ne ↦ absurd (false≢true (subst (λ n. is_bad st.top i n ≡ true) (nowhere_else gs i j ne) h))
    | inl z ↦
        let e : tallied gs i j ≡ count_by (λ g. eqb g.account i) gs = ap (tallied gs i) z ∙ counted gs i in
        elim (or_cases _ _ (subst (λ n. is_bad st.top i n ≡ true) e h)) [
          | inl p ↦
              let twice = ltb-true 1 (count_by (λ g. eqb g.account i) gs) p in
              let (g, m, is) = named i (omega (arith, twice)) in
              (g, m, is, inr twice, z)
          | inr p ↦
              let (some, above) = and_parts _ _ p in
              let (g, m, is) = named i (ltb-true 0 (count_by (λ g. eqb g.account i) gs) some) in
              (g, m, is, inl (ltb-true st.top i above), z)
        ]
  ]

  from_objected : (i j : ℕ) → Objected st gs bad_grant i j → is_bad st.top i (tallied gs i j) ≡ true
  from_objected i j (g, m, is, o, z) =
      let n : ℕ = count_by (λ g. eqb g.account i) gs in
      let some : 0 < n = omega (arith, member_le (λ h. cond (eqb h.account i) 1 0) gs g m, if_true (eqb g.account i) 1 0 (eq-eqb g.account i is)) in
      subst (λ k. is_bad st.top i k ≡ true) (sym (ap (tallied gs i) z ∙ counted gs i))
      (elim o [
        | inl above ↦ or_right (ltb 1 n) _ (and_from _ _ (lt-ltb 0 n some) (lt-ltb st.top i above))
        | inr twice ↦ or_left _ _ (lt-ltb 1 n twice)
      ])

  pub told_accounts : (r : Result (Unit {0}) Fault) → Told (λ i j. is_bad st.top i (tallied gs i j) ≡ true) 15 r → Told (Objected st gs bad_grant) 15 r
  told_accounts r = told_by _ _ 15 r to_objected from_objected

  -- the verdict

  abbrev objection_of : ℕ → Objection
  objection_of n = cond (eqb n 15) bad_grant (cond (eqb n 19) too_many_grants excess_grants)

  told : (c : Objection) → objection_of (objection_number c) ≡ c
  told bad_grant = refl
  told too_many_grants = refl
  told excess_grants = refl

  one_objection : (d c : Objection) → objection_number d ≡ objection_number c → d ≡ c
  one_objection d c e = sym (told d) ∙ ap objection_of e ∙ told c

  -- an objection at its least places, where none with a smaller number holds
  least : (c : Objection) (f : Fault) → ((d : Objection) → objection_number d < objection_number c → (i j : ℕ) → Objected st gs d i j → ⊥)
      → Told (Objected st gs c) (objection_number c) (Err f) → FoundingVerdict st gs (Some f)
  least c f none (e, p, low) = ((c, e, p), go)
    where
      go : (g : Fault) → ((d : Objection) × (g.number ≡ objection_number d) × Objected st gs d g.first g.second) → lower (rank g) (rank f) ≡ false
      go g (d, n, q) =
          elim (cases_order (objection_number d) (objection_number c)) [
            | inl r ↦
                subst (λ m. lower (m ∷ g.first ∷ g.second ∷ []) (rank f) ≡ false) (sym (n ∙ r ∙ sym e))
                (level f.number f.first f.second g.first g.second
                (low g.first g.second (subst (λ z. Objected st gs z g.first g.second) (one_objection d c r) q)))
            | inr (inl r) ↦ absurd (none d r g.first g.second q)
            | inr (inr r) ↦ later f.number g.number f.first f.second g.first g.second (omega (arith, e, n, r))
          ]

  -- what a `?` hands on
  broke : (f : Fault) (r : Result (Unit {0}) Fault) → IsErrAnd r (λ y. y ≡ f) → FoundingVerdict st gs (Some f) → FoundingVerdict st gs (fault_of r)
  broke f (Ok _) e v = absurd e
  broke f (Err y) e v = subst (λ z. FoundingVerdict st gs (Some z)) (sym e) v

  pub by_accounts : (f : Fault) (r : Result (Unit {0}) Fault) → IsErrAnd r (λ y. y ≡ f) → Told (Objected st gs bad_grant) 15 (Err f) → FoundingVerdict st gs (fault_of r)
  by_accounts f r e t = broke f r e (least bad_grant f none t)
    where
      none : (d : Objection) → objection_number d < 15 → (i j : ℕ) → Objected st gs d i j → ⊥
      none bad_grant l i j o = omega arith
      none too_many_grants l i j o = omega arith
      none excess_grants l i j o = omega arith

  module _ (good : (i j : ℕ) → Objected st gs bad_grant i j → ⊥) where
    pub by_room : (f : Fault) (r : Result (Unit {0}) Fault) → IsErrAnd r (λ y. y ≡ f) → Told (Objected st gs too_many_grants) 19 (Err f) → FoundingVerdict st gs (fault_of r)
    by_room f r e t = broke f r e (least too_many_grants f none t)
      where
        none : (d : Objection) → objection_number d < 19 → (i j : ℕ) → Objected st gs d i j → ⊥
        none bad_grant l i j o = good i j o
        none too_many_grants l i j o = omega arith
        none excess_grants l i j o = omega arith

    pub by_amounts : ((i j : ℕ) → Objected st gs too_many_grants i j → ⊥) → (r : Result (Unit {0}) Fault) → Told (Objected st gs excess_grants) 23 r
        → FoundingVerdict st gs (fault_of r)
    by_amounts room (Ok _) t = λ f (c, e, o). none c f.first f.second o
      where
        none : (c : Objection) (i j : ℕ) → Objected st gs c i j → ⊥
        none bad_grant i j o = good i j o
        none too_many_grants i j o = room i j o
        none excess_grants i j o = t i j o
    by_amounts room (Err f) t = least excess_grants f none t
      where
        none : (d : Objection) → objection_number d < 23 → (i j : ℕ) → Objected st gs d i j → ⊥
        none bad_grant l i j o = good i j o
        none too_many_grants l i j o = room i j o
        none excess_grants l i j o = omega arith
