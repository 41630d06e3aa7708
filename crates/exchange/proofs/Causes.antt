-- Faults from their causes, and the least of them. Assumes nothing.
use Rattle.std.proofs.Common.{◌≡◌, ℕ, ◌<◌, false, cond, eqb, [], ◌∷◌, Some, None, Option, sym, refl, ap, ◌∙◌, subst, inl, inr, arith}
use Rattle.std.proofs.lemmas.Bool.Decides.{nat_tests}
use Rattle.std.proofs.lemmas.Bool.{cases_order}
use Rattle.terms.specs.declared.Fault.{Fault}
use Rattle.terms.specs.Order.{lower, rank}
use Rattle.blocks.specs.Readable.{Block}
use Rattle.exchange.specs.State.{State, Counts}
use Rattle.exchange.specs.Faults.Cause.{wrong_height, wrong_parent, uncleared, no_source, out_of_window, repeated, no_receiver, bad_account, no_offer, cancelled_twice, overdrawn, accounts_full, offers_full, excess_volume}
use Rattle.exchange.specs.Faults.{Cause, Bad, Faulty, Least, Verdict, fault, number}
use Rattle.exchange.specs.Commit.{counted}
use Rattle.terms.proofs.Order.{total}

pub faulty : (s : State) (b : Block) (c : Cause) (i j : ℕ) → Bad s b c i j → Faulty s b (fault (number c) i j)
faulty s b c i j p = (c, refl, p)

-- a cause is told by its number
abbrev cause_of : ℕ → Cause
cause_of n =
    cond (eqb n 8) wrong_height (cond (eqb n 9) wrong_parent (cond (eqb n 10) uncleared (cond (eqb n 11) no_source
    (cond (eqb n 12) out_of_window (cond (eqb n 13) repeated (cond (eqb n 14) no_receiver (cond (eqb n 15) bad_account
    (cond (eqb n 16) no_offer (cond (eqb n 17) cancelled_twice (cond (eqb n 18) overdrawn (cond (eqb n 19) accounts_full
    (cond (eqb n 20) offers_full excess_volume))))))))))))

told : (c : Cause) → cause_of (number c) ≡ c
told wrong_height = refl
told wrong_parent = refl
told uncleared = refl
told no_source = refl
told out_of_window = refl
told repeated = refl
told no_receiver = refl
told bad_account = refl
told no_offer = refl
told cancelled_twice = refl
told overdrawn = refl
told accounts_full = refl
told offers_full = refl
told excess_volume = refl

pub one_cause : (d c : Cause) → number d ≡ number c → d ≡ c
one_cause d c e = sym (told d) ∙ ap cause_of e ∙ told c

pub later : (m n i j k l : ℕ) → m < n → lower (n ∷ k ∷ l ∷ []) (m ∷ i ∷ j ∷ []) ≡ false
later m n i j k l h = grind (arith, nat_tests)

pub level : (n i j k l : ℕ) → lower (k ∷ l ∷ []) (i ∷ j ∷ []) ≡ false → lower (n ∷ k ∷ l ∷ []) (n ∷ i ∷ j ∷ []) ≡ false
level n i j k l h = grind (arith, nat_tests)

-- the least fault: a cause whose number is the least that has any, at its least places
pub least : (s : State) (b : Block) (c : Cause) (i j : ℕ) → Bad s b c i j
    → ((d : Cause) → number d < number c → (k l : ℕ) → Bad s b d k l → ⊥)
    → ((k l : ℕ) → Bad s b c k l → lower (k ∷ l ∷ []) (i ∷ j ∷ []) ≡ false)
    → Verdict s b (Some (fault (number c) i j))
least s b c i j p none here = (faulty s b c i j p, go)
  where
    go : (g : Fault) → Faulty s b g → lower (rank g) (rank (fault (number c) i j)) ≡ false
    go g (d, e, q) =
        elim (cases_order (number d) (number c)) [
          | inl r ↦ subst (λ n. lower (n ∷ g.first ∷ g.second ∷ []) (rank (fault (number c) i j)) ≡ false) (sym (e ∙ r)) (level (number c) i j g.first g.second (here g.first g.second (subst (λ z. Bad s b z g.first g.second) (one_cause d c r) q)))
          | inr (inl r) ↦ absurd (none d r g.first g.second q)
          | inr (inr r) ↦ subst (λ n. lower (n ∷ g.first ∷ g.second ∷ []) (rank (fault (number c) i j)) ≡ false) (sym e) (later (number c) (number d) i j g.first g.second r)
        ]

rank_is : (f g : Fault) → rank f ≡ rank g → f ≡ g
rank_is f g e =
    let p : f.number ≡ g.number = cc in
    let q : f.first ≡ g.first = cc in
    let r : f.second ≡ g.second = cc in
    λ i. record { number = p i; first = q i; second = r i }

-- what has the same faults has the same least fault
pub one_least : (P Q : Fault → Type 0) → ((f : Fault) → P f → Q f) → ((f : Fault) → Q f → P f) → (v w : Option Fault) → Least P v → Least Q w → v ≡ w
one_least P Q to from None None p q = refl
one_least P Q to from None (Some g) p q = absurd (p g (from g q.0))
one_least P Q to from (Some f) None p q = absurd (q f (to f p.0))
one_least P Q to from (Some f) (Some g) p q = ap Some (rank_is f g (total (rank f) (rank g) (q.1 f (to f p.0)) (p.1 g (from g q.0))))

-- faults do not depend on the counts
pub bad_counted : (s : State) (n : Counts) (b : Block) (c : Cause) (i j : ℕ) → Bad (counted s n) b c i j → Bad s b c i j
bad_counted s n b wrong_height i j p = p
bad_counted s n b wrong_parent i j p = p
bad_counted s n b uncleared i j p = p
bad_counted s n b no_source i j p = p
bad_counted s n b out_of_window i j p = p
bad_counted s n b repeated i j p = p
bad_counted s n b no_receiver i j p = p
bad_counted s n b bad_account i j p = p
bad_counted s n b no_offer i j p = p
bad_counted s n b cancelled_twice i j p = p
bad_counted s n b overdrawn i j p = p
bad_counted s n b accounts_full i j p = p
bad_counted s n b offers_full i j p = p
bad_counted s n b excess_volume i j p = p

pub clean_counted : (s : State) (n : Counts) (b : Block) → Verdict s b None → Verdict (counted s n) b None
clean_counted s n b h f (c, e, p) = h f (c, e, bad_counted s n b c f.first f.second p)
