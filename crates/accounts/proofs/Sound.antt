-- The tests of order and range of an account store, as facts, and back. Assumes nothing.
use Rattle.std.proofs.Common.{◌≡◌, ℕ, ◌<◌, ◌≤◌, true, length}
use Rattle.std.specs.List.{AllByRecursion}
use Rattle.std.proofs.lemmas.Bool.{and_parts, and_from, ltb-true, leb-true, eqb-true, lt-ltb, le-leb, eq-eqb}
use Rattle.terms.specs.declared.Account.{Account}
use Rattle.terms.specs.Order.{Rising, name}
use Rattle.terms.specs.Ranges.{is_balance, fit_account}
use Rattle.terms.specs.Holdings.{Store, sound_store}
use Rattle.ordered.proofs.Rising.{every_all, all_every, rising_is, is_rising}

pub record FitAccount (top : ℕ) (a : Account) : Type 0 where
  pub some : 0 < a.number
  pub word : a.number < 4294967296
  pub below : a.number ≤ top
  pub floor : a.floor < 4294967296
  pub eight : length a.balances ≡ 8
  pub small : AllByRecursion (λ b. is_balance b ≡ true) a.balances

pub account_parts : (top : ℕ) (a : Account) → fit_account top a ≡ true → FitAccount top a
account_parts top a e =
    let p = and_parts _ _ e in
    let n = and_parts _ _ p.0 in
    let q = and_parts _ _ p.1 in
    let r = and_parts _ _ q.1 in
    let t = and_parts _ _ r.1 in
    record {
      some = ltb-true _ _ n.0;
      word = ltb-true _ _ n.1;
      below = leb-true _ _ q.0;
      floor = ltb-true _ _ r.0;
      eight = eqb-true _ _ t.0;
      small = every_all is_balance a.balances t.1;
    }

pub account_from : (top : ℕ) (a : Account) → FitAccount top a → fit_account top a ≡ true
account_from top a f =
    and_from _ _ (and_from _ _ (lt-ltb _ _ f.some) (lt-ltb _ _ f.word))
    (and_from _ _ (le-leb _ _ f.below)
    (and_from _ _ (lt-ltb _ _ f.floor) (and_from _ _ (eq-eqb _ _ f.eight) (all_every is_balance a.balances f.small))))

pub record SoundStore (s : Store) : Type 0 where
  pub up : Rising name s.accounts
  pub fit : AllByRecursion (λ a. fit_account s.top a ≡ true) s.accounts
  pub few : length s.accounts ≤ s.capacity
  pub small : s.capacity ≤ 65536
  pub top : s.top < 4294967296

pub store_parts : (s : Store) → sound_store s ≡ true → SoundStore s
store_parts s e =
    let p = and_parts _ _ e in
    let q = and_parts _ _ p.1 in
    let r = and_parts _ _ q.1 in
    let t = and_parts _ _ r.1 in
    record { up = rising_is name s.accounts p.0; fit = every_all (fit_account s.top) s.accounts q.0; few = leb-true _ _ r.0; small = leb-true _ _ t.0; top = ltb-true _ _ t.1 }

pub store_from : (s : Store) → SoundStore s → sound_store s ≡ true
store_from s f =
    and_from _ _ (is_rising name s.accounts f.up)
    (and_from _ _ (all_every (fit_account s.top) s.accounts f.fit)
    (and_from _ _ (le-leb _ _ f.few) (and_from _ _ (le-leb _ _ f.small) (lt-ltb _ _ f.top))))
