-- An account store in order, once an account is put in or written over: the change that the interface names.
-- Assumes nothing.
use Rattle.std.proofs.Common.{◌≡◌, ℕ, ◌+◌, ◌*◌, ◌<◌, ◌≤◌, true, false, cond, ◌&&◌, eqb, List, [], ◌∷◌, length, get_or, set, replicate, sym, refl, ap, ◌∙◌, subst, inl, inr, mul-le-mul_right, arith}
use Rattle.std.specs.List.{insert}
use Rattle.std.proofs.lemmas.List.{get_or-replicate, get_or_past, get_or-set_same, get_or-set_other, length-set, length-replicate}
use Rattle.std.proofs.lemmas.List.Edits.{length-insert}
use Rattle.std.proofs.ByRecursion.{All-get_or, All-set, All-weaker, sum_by_le}
use Rattle.std.proofs.lemmas.Bool.{cases_lt, cases_eq, and_from, and_left, and_right, eq-eqb, ne_eqb, lt-ltb, ltb-true, cond-true, cond-false}
use Rattle.terms.specs.declared.Account.{Account}
use Rattle.terms.specs.Order.{name, under, same}
use Rattle.terms.specs.Ranges.{is_balance, fit_account}
use Rattle.terms.specs.Holdings.{Store, standing, floor_at, balance_at, free_of, sound_store}
use Rattle.ordered.specs.Places.{Gap}
use Rattle.ordered.proofs.Rising.{all_inserted, rising_inserted, rising_set, under_at, under_inserted, under_inserted_zero, under_set, under_set_same}
use Rattle.accounts.specs.Changes.{Opened, BalanceSet, FloorSet}
use Rattle.accounts.proofs.Sound.{FitAccount, account_parts, account_from, SoundStore, store_from}

pub store_is : (s t : Store) → t.capacity ≡ s.capacity → t.top ≡ s.top → t.accounts ≡ s.accounts → t ≡ s
store_is s t p q r = λ i. record { capacity = p i; top = q i; accounts = r i }

abbrev pub with_accounts : Store → List Account → Store
with_accounts s xs = record { capacity = s.capacity; top = s.top; accounts = xs }

abbrev pub fresh : ℕ → Account
fresh n = record { number = n; floor = 0; balances = replicate 8 0 }

pub same_one : (m n : ℕ) → same (m ∷ []) (n ∷ []) ≡ eqb m n
same_one m n = elim (eqb m n) as (λ b. (b && true) ≡ b) [ true ↦ refl | false ↦ refl ]

zeros : (k y z : ℕ) → get_or (replicate k z) y z ≡ z
zeros k y z = elim (cases_lt y k) [ inl l ↦ get_or-replicate k y z z l | inr g ↦ get_or_past (replicate k z) y z (omega (arith, length-replicate k z)) ]

pub opened : (s : Store) (n i : ℕ) → SoundStore s → 0 < n → n ≤ s.top → Gap name s.accounts (n ∷ []) i → length s.accounts < s.capacity
    → Opened s n (with_accounts s (insert s.accounts i (fresh n))) × (sound_store (with_accounts s (insert s.accounts i (fresh n))) ≡ true)
opened s n i ok pos le gap room =
    let xs : List Account = s.accounts in
    let count : length (insert s.accounts i (fresh n)) ≡ length s.accounts + 1 = length-insert s.accounts i (fresh n) gap.within in (
      record {
        capacity = refl;
        top = refl;
        count = count;
        stand = λ m. under_inserted name (λ _. 1) s.accounts i (fresh n) gap (m ∷ []) ∙ ap (λ b. cond b 1 (standing s m)) (same_one m n);
        floors = λ m. under_inserted_zero name (λ a. a.floor) s.accounts i (fresh n) refl (m ∷ []);
        balances = λ m y. under_inserted_zero name (λ a. get_or a.balances y 0) s.accounts i (fresh n) (zeros 8 y 0) (m ∷ []);
      },
      store_from (with_accounts s (insert s.accounts i (fresh n))) (record {
        up = rising_inserted name s.accounts i (fresh n) ok.up gap;
        fit = all_inserted (λ a. fit_account s.top a ≡ true) s.accounts i (fresh n)
            (account_from s.top (fresh n) (record { some = pos; word = omega (arith, ok.top); below = le; floor = omega arith; eight = refl; small = (refl, (refl, (refl, (refl, (refl, (refl, (refl, (refl, tt)))))))) }))
            ok.fit;
        few = omega arith;
        small = ok.small;
        top = ok.top;
      }),
    )

abbrev pub with_balance : Account → ℕ → ℕ → Account
with_balance a x v = record { number = a.number; floor = a.floor; balances = set a.balances x v }

abbrev pub with_floor : Account → ℕ → Account
with_floor a f = record { number = a.number; floor = f; balances = a.balances }

-- one account written over another of its number
rewritten : (s : Store) (i : ℕ) (d y : Account) → SoundStore s → i < length s.accounts → y.number ≡ (get_or s.accounts i d).number → fit_account s.top y ≡ true
    → sound_store (with_accounts s (set s.accounts i y)) ≡ true
rewritten s i d y ok lt e f =
    store_from (with_accounts s (set s.accounts i y)) (record {
      up = rising_set name s.accounts i y d lt (ap (λ n. n ∷ []) e) ok.up;
      fit = All-set (λ a. fit_account s.top a ≡ true) s.accounts i y f ok.fit;
      few = omega (arith, length-set s.accounts i y, ok.few);
      small = ok.small;
      top = ok.top;
    })

pub balance_set : (s : Store) (n x v i : ℕ) (a : Account) → SoundStore s → i < length s.accounts → a ≡ get_or s.accounts i a → a.number ≡ n → x < 8 → v < 68719476736
    → BalanceSet s n x v (with_accounts s (set s.accounts i (with_balance a x v)))
    × (sound_store (with_accounts s (set s.accounts i (with_balance a x v))) ≡ true)
balance_set s n x v i a ok lt is num xs vs =
    let fit = account_parts s.top a (subst (λ b. fit_account s.top b ≡ true) (sym is) (All-get_or (λ b. fit_account s.top b ≡ true) s.accounts i a lt ok.fit)) in
    let y : Account = with_balance a x v in
    let ke : name (with_balance a x v) ≡ name (get_or s.accounts i a) = ap name is in (
      record {
        capacity = refl;
        top = refl;
        count = length-set s.accounts i (with_balance a x v);
        stand = λ m. under_set_same name (λ _. 1) s.accounts i (with_balance a x v) a lt ke refl (m ∷ []);
        floors = λ m. under_set_same name (λ b. b.floor) s.accounts i (with_balance a x v) a lt ke (ap (λ b. b.floor) is) (m ∷ []);
        balances = λ m z.
            let f : Account → ℕ = λ b. get_or b.balances z 0 in
            under_set name f s.accounts i (with_balance a x v) a ok.up lt ke (m ∷ [])
            ∙ elim (cases_eq m n) [
              | inl e ↦
                  let t : same (m ∷ []) (a.number ∷ []) ≡ true = same_one m a.number ∙ eq-eqb _ _ (e ∙ sym num) in
                  let old : balance_at s m z ≡ get_or a.balances z 0 =
                  ap (λ k. balance_at s k z) (e ∙ sym num) ∙ ap (under name f s.accounts) (ap name is) ∙ under_at name f s.accounts i a ok.up lt ∙ sym (ap f is) in
                  cond-true _ _ _ t
                  ∙ elim (cases_eq z x) [
                    | inl q ↦
                        ap (λ j. get_or (set a.balances x v) j 0) q ∙ get_or-set_same a.balances x v 0 (omega (arith, fit.eight))
                        ∙ sym (cond-true (eqb m n && eqb z x) v (balance_at s m z) (and_from _ _ (eq-eqb _ _ e) (eq-eqb _ _ q)))
                    | inr q ↦
                        get_or-set_other a.balances x z v 0 q ∙ sym old
                        ∙ sym (cond-false (eqb m n && eqb z x) v (balance_at s m z) (and_right _ _ (ne_eqb _ _ q)))
                  ]
              | inr e ↦
                  cond-false _ _ _ (same_one m a.number ∙ ne_eqb _ _ (λ q. e (q ∙ num)))
                  ∙ sym (cond-false (eqb m n && eqb z x) v (balance_at s m z) (and_left _ _ (ne_eqb _ _ e)))
            ];
      },
      rewritten s i a (with_balance a x v) ok lt (ap (λ b. b.number) is)
          (account_from s.top (with_balance a x v) (record {
            some = fit.some;
            word = fit.word;
            below = fit.below;
            floor = fit.floor;
            eight = length-set a.balances x v ∙ fit.eight;
            small = All-set (λ b. is_balance b ≡ true) a.balances x v (lt-ltb v 68719476736 vs) fit.small;
          })),
    )

pub floor_set : (s : Store) (n v i : ℕ) (a : Account) → SoundStore s → i < length s.accounts → a ≡ get_or s.accounts i a → a.number ≡ n → v < 4294967296
    → FloorSet s n v (with_accounts s (set s.accounts i (with_floor a v)))
    × (sound_store (with_accounts s (set s.accounts i (with_floor a v))) ≡ true)
floor_set s n v i a ok lt is num vs =
    let fit = account_parts s.top a (subst (λ b. fit_account s.top b ≡ true) (sym is) (All-get_or (λ b. fit_account s.top b ≡ true) s.accounts i a lt ok.fit)) in
    let ke : name (with_floor a v) ≡ name (get_or s.accounts i a) = ap name is in (
      record {
        capacity = refl;
        top = refl;
        count = length-set s.accounts i (with_floor a v);
        stand = λ m. under_set_same name (λ _. 1) s.accounts i (with_floor a v) a lt ke refl (m ∷ []);
        floors = λ m. under_set name (λ b. b.floor) s.accounts i (with_floor a v) a ok.up lt ke (m ∷ [])
            ∙ ap (λ b. cond b v (floor_at s m)) (same_one m a.number ∙ ap (eqb m) num);
        balances = λ m z. under_set_same name (λ b. get_or b.balances z 0) s.accounts i (with_floor a v) a lt ke (ap (λ b. get_or b.balances z 0) is) (m ∷ []);
      },
      rewritten s i a (with_floor a v) ok lt (ap (λ b. b.number) is)
          (account_from s.top (with_floor a v) (record
          { some = fit.some; word = fit.word; below = fit.below; floor = vs; eight = fit.eight; small = fit.small })),
    )

-- all balances of an asset together fit a u64

small_balance : (top x : ℕ) (a : Account) → FitAccount top a → get_or a.balances x 0 ≤ 68719476735
small_balance top x a f =
    elim (cases_lt x (length a.balances)) [
      | inl l ↦ omega (arith, ltb-true (get_or a.balances x 0) 68719476736 (All-get_or (λ b. is_balance b ≡ true) a.balances x 0 l f.small))
      | inr g ↦ rw (get_or_past a.balances x 0 g) (omega arith)
    ]

pub free_fits : (s : Store) (x : ℕ) → SoundStore s → free_of s x ≤ 65536 * 68719476735
free_fits s x ok =
    let h = sum_by_le (λ a. get_or a.balances x 0) 68719476735 s.accounts (All-weaker _ _ (λ a e. small_balance s.top x a (account_parts s.top a e)) s.accounts ok.fit) in
    omega (arith, h, mul-le-mul_right {m = length s.accounts} {n = 65536} 68719476735 (omega (arith, ok.few, ok.small)))
