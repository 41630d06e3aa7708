-- Accounts of grants that open one after the other. Assumes nothing.
use Rattle.std.proofs.Common.{◌≡◌, ℕ, ◌+◌, ◌<◌, ◌≤◌, true, cond, eqb, ltb, List, [], ◌∷◌, length, get_or, take, None, Ok, Err, sum_by, count_by, Result, sym, refl, ap, ◌∙◌, inl, inr, arith}
use Rattle.std.proofs.lemmas.List.{length-take-le}
use Rattle.std.proofs.lemmas.List.Sums.{sum_by_more, sum_by-take-le, count_by_more_yes}
use Rattle.std.proofs.ByRecursion.{has_get_or, All-get_or}
use Rattle.std.proofs.lemmas.Bool.{cases_eq, cases_lt, eq-eqb, ne_eqb, ltb-true, and_parts, cond-true}
use Rattle.terms.specs.declared.Grant.{Grant}
use Rattle.terms.specs.declared.Fault.{Fault}
use Rattle.terms.specs.declared.Account.{Account}
use Rattle.terms.specs.Order.{name, under}
use Rattle.terms.specs.Ranges.{every, fit_grant, is_word, is_number, are_balances}
use Rattle.terms.specs.Holdings.{Store, standing, balance_at}
use Rattle.ordered.proofs.Rising.{under_absent}
use Rattle.accounts.specs.Changes.{grant_answer, Granted}
use Rattle.accounts.proofs.Replies.{open_made}
use Rattle.accounts.proofs.Grants.{never}
use Rattle.blocks.specs.Readable.{fit_grants}
use Rattle.exchange.specs.Faults.{FoundingVerdict, fault}
use Rattle.exchange.specs.Faults.Objection.{bad_grant, too_many_grants}
use Rattle.exchange.proofs.Sums.{if_true, if_false}
use Rattle.exchange.proofs.Fit.{all_from}
use Rattle.founding.specs.Granting.{GrantedAll, GrantedOr}

pub none_granted : (s : Store) → GrantedAll s [] s
none_granted s =
    record { capacity = refl; top = refl; count = omega arith; stand = λ n. omega arith; floors = λ n. refl; balances = λ n x. omega arith }

-- no account stands in an empty store
empty_stands : (xs : List Account) (n : ℕ) → length xs ≡ 0 → under name (λ _. 1) xs (n ∷ []) ≡ 0
empty_stands [] n e = refl
empty_stands (x ∷ xs) n e = absurd (omega arith)

-- the first i grants of gs have been opened in an empty store s, which is now t, and no fault is in gs
module _ (s : Store) (gs : List Grant) (fit : fit_grants gs ≡ true) (empty : length s.accounts ≡ 0) (clean : FoundingVerdict s gs None)
    (t : Store) (i : ℕ) (d : Grant) (l : i < length gs) (a : GrantedAll s (take i gs) t) where
  abbrev grant : Grant
  grant = get_or gs i d

  -- the account of the next is in range, and is in no other grant
  low : grant.account ≤ s.top
  low = elim (cases_lt s.top grant.account) [
    | inl h ↦ absurd (clean (fault 15 grant.account 0) (bad_grant, refl, (grant, has_get_or gs i d l, refl, inl h, refl)))
    | inr h ↦ h
  ]

  once : count_by (λ g. eqb g.account grant.account) gs ≤ 1
  once = elim (cases_lt 1 (count_by (λ g. eqb g.account grant.account) gs)) [
    | inl h ↦ absurd (clean (fault 15 grant.account 0) (bad_grant, refl, (grant, has_get_or gs i d l, refl, inr h, refl)))
    | inr h ↦ h
  ]

  room : length gs ≤ s.capacity
  room = elim (cases_lt s.capacity (length gs)) [
    | inl h ↦ absurd (clean (fault 19 0 0) (too_many_grants, refl, (h, refl, refl)))
    | inr h ↦ h
  ]

  -- so it does not stand yet
  fresh : standing t grant.account ≡ 0
  fresh = omega (
    arith,
    a.stand grant.account,
    empty_stands s.accounts grant.account empty,
    once,
    sum_by-take-le (λ g. cond (eqb g.account grant.account) 1 0) gs (i + 1),
    count_by_more_yes (λ g. eqb g.account grant.account) gs i d l (eq-eqb grant.account grant.account refl),
  )

  fits : fit_grant grant ≡ true
  fits = All-get_or (λ g. fit_grant g ≡ true) gs i d l (all_from fit_grant gs (and_parts (every fit_grant gs) _ fit).0)

  -- the next is not refused
  granted_next : Ok tt ≡ grant_answer t grant.account grant.balances
  granted_next =
      let (number, balances) = and_parts (is_number grant.account) (are_balances grant.balances) fits in
      let (above, _) = and_parts (ltb 0 grant.account) (is_word grant.account) number in
      open_made t grant.account (λ z. omega (arith, z, ltb-true 0 grant.account above)) (omega (arith, low, a.top)) fresh
      (omega (arith, a.count, empty, room, a.capacity, length-take-le i gs (omega arith)))
      ∙ sym (cond-true (are_balances grant.balances) _ _ balances)

  pub never_refused : (f : Fault) → Err f ≡ grant_answer t grant.account grant.balances
      → (u : Store) (hs : List Grant) (r : Result (Unit {0}) Fault) → GrantedOr s hs u r
  never_refused f e u hs r = absurd (never (granted_next ∙ sym e))

  -- and then one more is open
  pub granted_more : (u : Store) → Granted t grant.account grant.balances u → GrantedAll s (take (i + 1) gs) u
  granted_more u g = record {
    capacity = g.capacity ∙ a.capacity;
    top = g.top ∙ a.top;
    count = omega (arith, g.count, a.count, length-take-le i gs (omega arith), length-take-le (i + 1) gs (omega arith));
    stand = stands;
    floors = λ n. g.floors n ∙ a.floors n;
    balances = balances;
  }
    where
      stands : (n : ℕ) → standing u n ≡ standing s n + count_by (λ g. eqb g.account n) (take (i + 1) gs)
      stands n =
          let more = sum_by_more (λ g. cond (eqb g.account n) 1 0) gs i d l in
          elim (cases_eq n grant.account) [
            | inl e ↦ omega (arith, more, g.stand n, a.stand n, fresh, ap (standing t) e, if_true (eqb n grant.account) 1 (standing t n) (eq-eqb n grant.account e), if_true (eqb grant.account n) 1 0 (eq-eqb grant.account n (sym e)))
            | inr ne ↦ omega (arith, more, g.stand n, a.stand n, if_false (eqb n grant.account) 1 (standing t n) (ne_eqb n grant.account ne), if_false (eqb grant.account n) 1 0 (ne_eqb grant.account n (λ e. ne (sym e))))
          ]

      balances : (n x : ℕ) → balance_at u n x ≡ balance_at s n x + sum_by (λ g. cond (eqb g.account n) (get_or g.balances x 0) 0) (take (i + 1) gs)
      balances n x =
          let b : ℕ = get_or grant.balances x 0 in
          let more = sum_by_more (λ g. cond (eqb g.account n) (get_or g.balances x 0) 0) gs i d l in
          let none : balance_at t grant.account x ≡ 0 = under_absent name (λ c. get_or c.balances x 0) t.accounts (grant.account ∷ []) fresh in
          elim (cases_eq n grant.account) [
            | inl e ↦ omega (arith, more, g.balances n x, a.balances n x, none, ap (λ m. balance_at t m x) e, if_true (eqb n grant.account) b (balance_at t n x) (eq-eqb n grant.account e), if_true (eqb grant.account n) b 0 (eq-eqb grant.account n (sym e)))
            | inr ne ↦ omega (arith, more, g.balances n x, a.balances n x, if_false (eqb n grant.account) b (balance_at t n x) (ne_eqb n grant.account ne), if_false (eqb grant.account n) b 0 (ne_eqb grant.account n (λ e. ne (sym e))))
          ]
