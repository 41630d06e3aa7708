-- Rows one after the other, and stages one after the other, to the verdict. Assumes nothing.
use Rattle.std.proofs.Common.{◌≡◌, ℕ, ◌+◌, ◌<◌, ◌≤◌, IsErrAnd, Some, Ok, Err, Result, sym, subst, inl, inr, arith, lit<, lit≤}
use Rattle.std.proofs.lemmas.Bool.{cases_lt}
use Rattle.terms.specs.declared.Fault.{Fault}
use Rattle.blocks.specs.Readable.{Block}
use Rattle.exchange.specs.State.{State}
use Rattle.exchange.specs.Faults.{Cause, Bad, Verdict, number, fault}
use Rattle.exchange.specs.Faults.Cause.{wrong_height, wrong_parent, uncleared, no_source, out_of_window, repeated, no_receiver, bad_account, no_offer, cancelled_twice, overdrawn, accounts_full, offers_full, excess_volume}
use Rattle.exchange.proofs.Causes.{one_cause, least}
use Rattle.tally.specs.Least.{Told}
use Rattle.tally.specs.Least.{fault_of}
use Rattle.judging.specs.Verdicts.{Clear, First, Stage}

numbered : (c : Cause) → (8 ≤ number c) × (number c < 22)
numbered wrong_height = (lit≤ tt, lit< tt)
numbered wrong_parent = (lit≤ tt, lit< tt)
numbered uncleared = (lit≤ tt, lit< tt)
numbered no_source = (lit≤ tt, lit< tt)
numbered out_of_window = (lit≤ tt, lit< tt)
numbered repeated = (lit≤ tt, lit< tt)
numbered no_receiver = (lit≤ tt, lit< tt)
numbered bad_account = (lit≤ tt, lit< tt)
numbered no_offer = (lit≤ tt, lit< tt)
numbered cancelled_twice = (lit≤ tt, lit< tt)
numbered overdrawn = (lit≤ tt, lit< tt)
numbered accounts_full = (lit≤ tt, lit< tt)
numbered offers_full = (lit≤ tt, lit< tt)
numbered excess_volume = (lit≤ tt, lit< tt)

module _ (s : State) (b : Block) where
  pub clear_none : (n : ℕ) → Clear s b n n
  clear_none n c p q i j bad = omega arith

  pub clear_join : (m n p : ℕ) → Clear s b m n → Clear s b n p → Clear s b m p
  clear_join m n p f g c l h i j bad = elim (cases_lt (number c) n) [ inl q ↦ f c l q i j bad | inr q ↦ g c q h i j bad ]

  -- one row more that is clear
  pub clear_row : (c : Cause) (m : ℕ) → Clear s b m (number c) → ((i j : ℕ) → Bad s b c i j → ⊥) → Clear s b m (number c + 1)
  clear_row c m f h d l q i j bad =
      elim (cases_lt (number d) (number c)) [
        | inl p ↦ f d l p i j bad
        | inr p ↦ let e : number d ≡ number c = omega arith in h i j (subst (λ z. Bad s b z i j) (one_cause d c e) bad)
      ]

  -- the first row that is not
  pub first_row : (c : Cause) (m n : ℕ) (f : Fault) → m ≤ number c → number c < n → Clear s b m (number c) → Told (Bad s b c) (number c) (Err f) → First s b m n f
  first_row c m n f l h k (e, p, q) = record { cause = c; from = l; below = h; numbered = e; bad = p; before = k; least = q }

  pub last_row : (c : Cause) (m : ℕ) (r : Result (Unit {0}) Fault) → m ≤ number c → Clear s b m (number c) → Told (Bad s b c) (number c) r → Stage s b m (number c + 1) r
  last_row c m (Ok _) l k t = clear_row c m k t
  last_row c m (Err f) l k t = first_row c m (number c + 1) f l (omega arith) k t

  -- stages one after the other
  pub first_wider : (m n p : ℕ) (f : Fault) → n ≤ p → First s b m n f → First s b m p f
  first_wider m n p f l t = record {
    cause = t.cause;
    from = t.from;
    below = omega (arith, t.below);
    numbered = t.numbered;
    bad = t.bad;
    before = t.before;
    least = t.least;
  }

  pub stage_join : (m n p : ℕ) (r : Result (Unit {0}) Fault) → m ≤ n → Clear s b m n → Stage s b n p r → Stage s b m p r
  stage_join m n p (Ok _) l f g = clear_join m n p f g
  stage_join m n p (Err x) l f t = record {
    cause = t.cause;
    from = omega (arith, t.from);
    below = t.below;
    numbered = t.numbered;
    bad = t.bad;
    before = clear_join m n (number t.cause) f t.before;
    least = t.least;
  }

  -- what a `?` hands on
  pub broke : (m n : ℕ) (f : Fault) (r : Result (Unit {0}) Fault) → IsErrAnd r (λ y. y ≡ f) → First s b m n f → Stage s b m n r
  broke m n f (Ok _) e t = absurd e
  broke m n f (Err y) e t = subst (First s b m n) (sym e) t

  pub verdict : (r : Result (Unit {0}) Fault) → Stage s b 8 22 r → Verdict s b (fault_of r)
  verdict (Ok _) k = λ f (c, e, bad). k c (numbered c).0 (numbered c).1 f.first f.second bad
  verdict (Err f) t =
      subst (λ n. Verdict s b (Some (fault n f.first f.second))) (sym t.numbered)
      (least s b t.cause f.first f.second t.bad (λ d l k m bad. t.before d (numbered d).0 l k m bad) t.least)
