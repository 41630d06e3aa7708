-- The eight balances of an account, one for each asset. Assumes nothing.
use Rattle.std.specs.List.{ContainsAt as Has}
use Rattle.std.proofs.Common.{◌≡◌, ℕ, List, [], ◌∷◌, length, map, get_or, sym, ap, ◌∙◌, arith}
use Rattle.std.proofs.ByRecursion.{all-has}
use Rattle.terms.specs.declared.Account.{Account}
use Rattle.terms.specs.Order.{name, under}
use Rattle.terms.specs.Holdings.{Store, balance_at}
use Rattle.ordered.proofs.Rising.{under_each}
use Rattle.accounts.proofs.Sound.{SoundStore, account_parts}

-- a list of eight by its elements
pub listed : (xs : List ℕ) (a b c d e f g h : ℕ) → length xs ≡ 8 → get_or xs 0 0 ≡ a → get_or xs 1 0 ≡ b → get_or xs 2 0 ≡ c → get_or xs 3 0 ≡ d → get_or xs 4 0 ≡ e → get_or xs 5 0 ≡ f → get_or xs 6 0 ≡ g → get_or xs 7 0 ≡ h
    → xs ≡ a ∷ b ∷ c ∷ d ∷ e ∷ f ∷ g ∷ h ∷ []
listed [] _ _ _ _ _ _ _ _ n _ _ _ _ _ _ _ _ = absurd (omega arith)
listed (x0 ∷ []) _ _ _ _ _ _ _ _ n _ _ _ _ _ _ _ _ = absurd (omega arith)
listed (x0 ∷ x1 ∷ []) _ _ _ _ _ _ _ _ n _ _ _ _ _ _ _ _ = absurd (omega arith)
listed (x0 ∷ x1 ∷ x2 ∷ []) _ _ _ _ _ _ _ _ n _ _ _ _ _ _ _ _ = absurd (omega arith)
listed (x0 ∷ x1 ∷ x2 ∷ x3 ∷ []) _ _ _ _ _ _ _ _ n _ _ _ _ _ _ _ _ = absurd (omega arith)
listed (x0 ∷ x1 ∷ x2 ∷ x3 ∷ x4 ∷ []) _ _ _ _ _ _ _ _ n _ _ _ _ _ _ _ _ = absurd (omega arith)
listed (x0 ∷ x1 ∷ x2 ∷ x3 ∷ x4 ∷ x5 ∷ []) _ _ _ _ _ _ _ _ n _ _ _ _ _ _ _ _ = absurd (omega arith)
listed (x0 ∷ x1 ∷ x2 ∷ x3 ∷ x4 ∷ x5 ∷ x6 ∷ []) _ _ _ _ _ _ _ _ n _ _ _ _ _ _ _ _ = absurd (omega arith)
listed (x0 ∷ x1 ∷ x2 ∷ x3 ∷ x4 ∷ x5 ∷ x6 ∷ x7 ∷ []) _ _ _ _ _ _ _ _ n p0 p1 p2 p3 p4 p5 p6 p7 = λ i. p0 i ∷ p1 i ∷ p2 i ∷ p3 i ∷ p4 i ∷ p5 i ∷ p6 i ∷ p7 i ∷ []
listed (x0 ∷ x1 ∷ x2 ∷ x3 ∷ x4 ∷ x5 ∷ x6 ∷ x7 ∷ x8 ∷ xs) _ _ _ _ _ _ _ _ n _ _ _ _ _ _ _ _ = absurd (omega arith)

module _ (s : Store) (n : ℕ) (a : Account) (ok : SoundStore s) (has : Has s.accounts a) (is : a.number ≡ n) where
  -- what is summed up under the number of an account that stands is the account's
  pub own : (f : Account → ℕ) → under name f s.accounts (n ∷ []) ≡ f a
  own f = ap (λ k. under name f s.accounts (k ∷ [])) (sym is) ∙ all-has _ s.accounts a (under_each name f s.accounts ok.up) has

  -- the balances under the number are the account's
  pub own_balances : map (balance_at s n) (0 ∷ 1 ∷ 2 ∷ 3 ∷ 4 ∷ 5 ∷ 6 ∷ 7 ∷ []) ≡ a.balances
  own_balances =
      let at : (x : ℕ) → get_or a.balances x 0 ≡ under name (λ b. get_or b.balances x 0) s.accounts (n ∷ []) = λ x. sym (own (λ b. get_or b.balances x 0)) in
      let eight = (account_parts s.top a (all-has _ s.accounts a ok.fit has)).eight in
      sym (listed a.balances _ _ _ _ _ _ _ _ eight (at 0) (at 1) (at 2) (at 3) (at 4) (at 5) (at 6) (at 7))
