-- From the tests that a call makes, in their order, to its ruling. Assumes nothing.
use Rattle.std.proofs.Common.{◌≡◌, ℕ, Bool, true, false, ◌&&◌, ltb, ◌⊎◌, List, length, None, Ok, Err, MatchBool, Result, sym, refl, ap, subst, inl, inr, arith}
use Rattle.std.proofs.lemmas.Bool.{cases_Bool, le-ltb, eq-eqb, ne_eqb, and_from}
use Rattle.terms.specs.declared.Fault.{Fault}
use Rattle.terms.specs.declared.Grant.{Grant}
use Rattle.blocks.specs.Readable.{Block, Readable}
use Rattle.exchange.specs.State.{State, most}
use Rattle.exchange.specs.Faults.{fault, Verdict}
use Rattle.exchange.specs.Life.{is_empty, ReadsFounding, RulesFounding, Reads, Rules}
use Rattle.replica.specs.Calls.{FoundCall, CheckCall}

pub when_true : (b : Bool) (P Q : Type 0) → b ≡ true → P → MatchBool b P Q
when_true b P Q e p = subst (λ x. MatchBool x P Q) (sym e) p

pub when_false : (b : Bool) (P Q : Type 0) → b ≡ false → Q → MatchBool b P Q
when_false b P Q e q = subst (λ x. MatchBool x P Q) (sym e) q

-- a refusal that is due to no bytes leaves all as it was

module _ (s : State) (bs : List ℕ) (f : Fault) where
  pub found_again : f ≡ fault 25 0 0 → s.founded ≡ true → FoundCall s bs (Err f) s
  found_again e t = record { ruling = Err f; rules = when_true s.founded _ _ t (ap Err e); answer = refl; after = refl }

  pub found_late : f ≡ fault 22 0 0 → s.founded ≡ false → is_empty s ≡ false → FoundCall s bs (Err f) s
  found_late e n t = record { ruling = Err f; rules = when_false s.founded _ _ n (when_false (is_empty s) _ _ t (ap Err e)); answer = refl; after = refl }

  pub check_early : f ≡ fault 24 0 0 → s.founded ≡ false → CheckCall s bs (Err f) s
  check_early e n = record { ruling = Err f; rules = when_false s.founded _ _ n (ap Err e); answer = refl; after = refl }

  pub check_more : f ≡ fault 26 0 0 → s.founded ≡ true → s.counts.passed ≡ most → CheckCall s bs (Err f) s
  check_more e t n =
      let full : ltb s.counts.passed most ≡ false = le-ltb s.counts.passed most (omega (arith, n)) in
      record { ruling = Err f; rules = when_true s.founded _ _ t (when_false (ltb s.counts.passed most) _ _ full (ap Err e)); answer = refl; after = refl }

-- a founding that was looked at
pub found_ruled : (s : State) (bs : List ℕ) (r : Result (List Grant) Fault) → s.founded ≡ false → length s.store.accounts ≡ 0 → length s.book.offers ≡ 0
    → ReadsFounding s bs r → RulesFounding s bs r
found_ruled s bs r n st bk q =
    let empty : is_empty s ≡ true = and_from _ _ (eq-eqb _ _ st) (eq-eqb _ _ bk) in
    when_false s.founded _ _ n (when_true (is_empty s) _ _ empty q)

and_left : (a b : Bool) → a ≡ false → (a && b) ≡ false
and_left a b e = rw e

and_right : (a b : Bool) → b ≡ false → (a && b) ≡ false
and_right true b e = e
and_right false b e = refl

-- a store or a book that is not empty
pub not_empty : (s : State) → (length s.store.accounts ≡ 0 → ⊥) ⊎ (length s.book.offers ≡ 0 → ⊥) → is_empty s ≡ false
not_empty s h =
    elim h [
      | inl a ↦ and_left _ _ (ne_eqb (length s.store.accounts) 0 a)
      | inr a ↦ and_right _ _ (ne_eqb (length s.book.offers) 0 a)
    ]

-- a ruling that lets a block pass: the replica is founded, the bytes are readable, and the block has no fault
pub record Passes (s : State) (bs : List ℕ) (b : Block) : Type 0 where
  pub founded : s.founded ≡ true
  pub readable : Readable bs b
  pub clean : Verdict s b None

never : {X : Type 0} (x : X) (f : Fault) → ◌≡◌ {A = Result X Fault} (Ok x) (Err f) → ⊥
never x f e = let z : ◌≡◌ {A = ℕ} 0 1 = cc in omega arith

pub passes : (s : State) (bs : List ℕ) (b : Block) → Rules s bs (Ok b) → Passes s bs b
passes s bs b q =
    elim (cases_Bool s.founded) [
      | inl t ↦
          let p : Reads s bs (Ok b) = subst (λ x. MatchBool x (Reads s bs (Ok b)) (Ok b ≡ Err (fault 24 0 0))) t q in
          record { founded = t; readable = p.0; clean = p.1 }
      | inr n ↦ absurd (never b (fault 24 0 0) (subst (λ x. MatchBool x (Reads s bs (Ok b)) (Ok b ≡ Err (fault 24 0 0))) n q))
    ]

-- a founding that is refused for its bytes or for what they say
pub found_refused : (s : State) (bs : List ℕ) (f : Fault) → s.founded ≡ false → length s.store.accounts ≡ 0 → length s.book.offers ≡ 0
    → ReadsFounding s bs (Err f) → FoundCall s bs (Err f) s
found_refused s bs f n st bk q = record { ruling = Err f; rules = found_ruled s bs (Err f) n st bk q; answer = refl; after = refl }
