-- A sorted table as an account store: what a search finds there, and what an edit leaves. Assumes nothing.
use Rattle.std.proofs.Common.{◌≡◌, ℕ, ◌<◌, ◌≤◌, Some, None, Option, MatchOption, Bool, true, false, cond, List, [], ◌∷◌, length, get_or, set, sym, refl, ap, ◌∙◌, subst}
use Rattle.std.specs.List.{insert}
use Rattle.std.specs.Option.{is_some}
use Rattle.std.proofs.ByRecursion.{All-get_or}
use Rattle.terms.specs.declared.Account.{Account}
use Rattle.terms.specs.Order.{name, under}
use Rattle.terms.specs.Ranges.{fit_account}
use Rattle.terms.specs.Holdings.{sound_store}
use Rattle.ordered.specs.Places.{Gap, At}
use Rattle.ordered.specs.Rows.{Rows}
use Rattle.ordered.proofs.Rising.{under_at, under_gap}
use Rattle.accounts.specs.Changes.{Opened, BalanceSet, FloorSet}
use Rattle.accounts.proofs.Sound.{SoundStore, store_parts, account_parts}
use Rattle.accounts.proofs.Edits.{fresh, with_balance, with_floor, opened, balance_set, floor_set}
use Rattle.sorted_store.specs.Rows.{store_of, Found}

module _ (t : Rows Account) (top : ℕ) (sound : sound_store (store_of t top) ≡ true) where
  pub ok : SoundStore (store_of t top)
  ok = store_parts (store_of t top) sound

  -- all that stands under the number at a place
  pub all_at : (n i : ℕ) (a : Account) → At name t.records (n ∷ []) i → a ≡ get_or t.records i a → (f : Account → ℕ) → under name f t.records (n ∷ []) ≡ f a
  all_at n i a at is f = ap (under name f t.records) (sym (at.is a)) ∙ under_at name f t.records i a ok.up at.within ∙ sym (ap f is)

  pub eight_at : (n i : ℕ) (a : Account) → At name t.records (n ∷ []) i → a ≡ get_or t.records i a → length a.balances ≡ 8
  eight_at n i a at is =
      ap (λ b. length b.balances) is
      ∙ (account_parts top (get_or t.records i a) (All-get_or (λ b. fit_account top b ≡ true) t.records i a at.within ok.fit)).eight

  pub none_at : (n i : ℕ) → Gap name t.records (n ∷ []) i → (f : Account → ℕ) → under name f t.records (n ∷ []) ≡ 0
  none_at n i gap f = under_gap name f t.records (n ∷ []) i gap

  pub one_at : (n i : ℕ) → At name t.records (n ∷ []) i → (d : Account) → under name (λ _. 1) t.records (n ∷ []) ≡ 1
  one_at n i at d = ap (under name (λ _. 1) t.records) (sym (at.is d)) ∙ under_at name (λ _. 1) t.records i d ok.up at.within

  -- what the answer of a search says of an account
  pub found_is : (n : ℕ) (o : Option (ℕ × Account)) → Found t.records n o → (f : Account → ℕ) (r : ℕ) → MatchOption o (r ≡ 0) (λ p. r ≡ f p.1)
      → r ≡ under name f t.records (n ∷ [])
  found_is n None none f r e = e ∙ sym (none f)
  found_is n (Some p) at f r e = e ∙ sym (all_at n p.0 p.1 at.0 at.1 f)

  pub found_one : (n : ℕ) (o : Option (ℕ × Account)) → Found t.records n o → cond (is_some o) 1 0 ≡ under name (λ _. 1) t.records (n ∷ [])
  found_one n None none = sym (none (λ _. 1))
  found_one n (Some p) at = sym (all_at n p.0 p.1 at.0 at.1 (λ _. 1))

  numbered : (n i : ℕ) (a : Account) → At name t.records (n ∷ []) i → a ≡ get_or t.records i a → a.number ≡ n
  numbered n i a at is = ap (λ b. b.number) is ∙ ap (λ l. get_or l 0 0) (at.is a)

  pub opens : (n i : ℕ) (t' : Rows Account) (fs : List Account) → 0 < n → n ≤ top → Gap name t.records (n ∷ []) i → length t.records < t.capacity
      → t' ≡ record { records = insert t.records i (fresh n); capacity = t.capacity; free = fs }
      → Opened (store_of t top) n (store_of t' top) × (sound_store (store_of t' top) ≡ true)
  opens n i t' fs pos le gap room e =
      subst (λ r. Opened (store_of t top) n (store_of r top) × (sound_store (store_of r top) ≡ true)) (sym e) (opened (store_of t top) n i ok pos le gap room)

  -- the store is sound, whether the account went in or not
  pub stays : (n i : ℕ) (t' : Rows Account) (fs : List Account) (done : Bool) → 0 < n → n ≤ top → Gap name t.records (n ∷ []) i → (done ≡ true → length t.records < t.capacity)
      → t' ≡ cond done (record { records = insert t.records i (fresh n); capacity = t.capacity; free = fs }) t → sound_store (store_of t' top) ≡ true
  stays n i t' fs true pos le gap room e = (opens n i t' fs pos le gap (room refl) e).1
  stays n i t' fs false pos le gap room e = subst (λ r. sound_store (store_of r top) ≡ true) (sym e) sound

  pub sets_balance : (n x v i : ℕ) (a : Account) (t' : Rows Account) (fs : List Account) → At name t.records (n ∷ []) i → a ≡ get_or t.records i a → x < 8 → v < 68719476736
      → t' ≡ record { records = set t.records i (with_balance a x v); capacity = t.capacity; free = fs }
      → BalanceSet (store_of t top) n x v (store_of t' top) × (sound_store (store_of t' top) ≡ true)
  sets_balance n x v i a t' fs at is xs vs e =
      subst (λ r. BalanceSet (store_of t top) n x v (store_of r top) × (sound_store (store_of r top) ≡ true)) (sym e)
      (balance_set (store_of t top) n x v i a ok at.within is (numbered n i a at is) xs vs)

  pub sets_floor : (n v i : ℕ) (a : Account) (t' : Rows Account) (fs : List Account) → At name t.records (n ∷ []) i → a ≡ get_or t.records i a → v < 4294967296
      → t' ≡ record { records = set t.records i (with_floor a v); capacity = t.capacity; free = fs }
      → FloorSet (store_of t top) n v (store_of t' top) × (sound_store (store_of t' top) ≡ true)
  sets_floor n v i a t' fs at is vs e =
      subst (λ r. FloorSet (store_of t top) n v (store_of r top) × (sound_store (store_of r top) ≡ true)) (sym e)
      (floor_set (store_of t top) n v i a ok at.within is (numbered n i a at is) vs)
