-- An account that is opened and then given its balances one by one. Assumes nothing.
use Rattle.std.proofs.Common.{◌≡◌, ℕ, ◌+◌, ◌<◌, true, cond, ◌&&◌, ◌||◌, eqb, ltb, List, [], ◌∷◌, length, get_or, Ok, Err, Result, sym, refl, ap, ◌∙◌, inl, inr, arith}
use Rattle.std.proofs.lemmas.List.{get_or_past}
use Rattle.std.proofs.lemmas.Bool.{cases_lt, cases_eq, and_from, and_left, and_right, eq-eqb, ne_eqb, lt-ltb, le-ltb, cond-true, cond-false, cases_Bool, ltb-true}
use Rattle.terms.specs.Holdings.{Store, standing, floor_at, balance_at}
use Rattle.terms.specs.declared.Fault.{Fault}
use Rattle.std.proofs.ByRecursion.{All-get_or}
use Rattle.terms.specs.Order.{name}
use Rattle.terms.specs.Ranges.{every, is_balance}
use Rattle.ordered.proofs.Rising.{every_all, under_absent}
use Rattle.accounts.specs.Changes.{open_answer, balance_answer, Opened, BalanceSet, Granted}
use Rattle.accounts.proofs.Replies.{balance_made}

pub never : {f : Fault} → ◌≡◌ {A = Result (Unit {0}) Fault} (Ok tt) (Err f) → ⊥
never e = let z : ◌≡◌ {A = ℕ} 0 1 = cc in omega arith

-- an account that could be opened did not stand
open_fresh : (s : Store) (n : ℕ) → Ok tt ≡ open_answer s n → standing s n ≡ 0
open_fresh s n e =
    elim (cases_lt 0 (standing s n)) [
      | inr g ↦ omega arith
      | inl l ↦
          elim (cases_Bool (eqb n 0 || ltb s.top n)) [
            | inl t ↦ absurd (never (e ∙ cond-true (eqb n 0 || ltb s.top n) _ _ t))
            | inr f ↦ absurd (never (e ∙ cond-false (eqb n 0 || ltb s.top n) _ _ f ∙ cond-true (ltb 0 (standing s n)) _ _ (lt-ltb 0 (standing s n) l)))
          ]
    ]

-- account n has the balances bs of the assets below x; s is the store before, t the store after
pub record Filled (s : Store) (n : ℕ) (bs : List ℕ) (x : ℕ) (t : Store) : Type 0 where
  pub capacity : t.capacity ≡ s.capacity
  pub top : t.top ≡ s.top
  pub count : length t.accounts ≡ length s.accounts
  pub stand : (m : ℕ) → standing t m ≡ standing s m
  pub floors : (m : ℕ) → floor_at t m ≡ floor_at s m
  pub balances : (m y : ℕ) → balance_at t m y ≡ cond (eqb m n && ltb y x) (get_or bs y 0) (balance_at s m y)

pub filled_none : (s : Store) (n : ℕ) (bs : List ℕ) → Filled s n bs 0 s
filled_none s n bs =
    record {
      capacity = refl;
      top = refl;
      count = refl;
      stand = λ m. refl;
      floors = λ m. refl;
      balances = λ m y. sym (cond-false (eqb m n && ltb y 0) _ _ (and_right _ _ (le-ltb y 0 (omega arith))));
    }

module _ (s t u : Store) (n : ℕ) (bs : List ℕ) where
  pub filled_more : (x : ℕ) → Filled s n bs x t → BalanceSet t n x (get_or bs x 0) u → Filled s n bs (x + 1) u
  filled_more x f b =
      record {
        capacity = b.capacity ∙ f.capacity;
        top = b.top ∙ f.top;
        count = b.count ∙ f.count;
        stand = λ m. b.stand m ∙ f.stand m;
        floors = λ m. b.floors m ∙ f.floors m;
        balances = λ m y. b.balances m y ∙ each m y;
      }
    where
      each : (m y : ℕ) → cond (eqb m n && eqb y x) (get_or bs x 0) (balance_at t m y) ≡ cond (eqb m n && ltb y (x + 1)) (get_or bs y 0) (balance_at s m y)
      each m y =
          elim (cases_eq m n) [
            | inr ne ↦
                cond-false (eqb m n && eqb y x) _ _ (and_left _ _ (ne_eqb m n ne))
                ∙ f.balances m y
                ∙ cond-false (eqb m n && ltb y x) _ _ (and_left _ _ (ne_eqb m n ne))
                ∙ sym (cond-false (eqb m n && ltb y (x + 1)) _ _ (and_left _ _ (ne_eqb m n ne)))
            | inl e ↦
                elim (cases_eq y x) [
                  | inl q ↦
                      cond-true (eqb m n && eqb y x) _ _ (and_from _ _ (eq-eqb m n e) (eq-eqb y x q))
                      ∙ ap (λ z. get_or bs z 0) (sym q)
                      ∙ sym (cond-true (eqb m n && ltb y (x + 1)) _ _ (and_from _ _ (eq-eqb m n e) (lt-ltb y (x + 1) (omega arith))))
                  | inr ne ↦
                      cond-false (eqb m n && eqb y x) _ _ (and_right _ _ (ne_eqb y x ne))
                      ∙ f.balances m y
                      ∙ elim (cases_lt y x) [
                        | inl l ↦
                            cond-true (eqb m n && ltb y x) _ _ (and_from _ _ (eq-eqb m n e) (lt-ltb y x l))
                            ∙ sym (cond-true (eqb m n && ltb y (x + 1)) _ _ (and_from _ _ (eq-eqb m n e) (lt-ltb y (x + 1) (omega arith))))
                        | inr g ↦
                            cond-false (eqb m n && ltb y x) _ _ (and_right _ _ (le-ltb y x g))
                            ∙ sym (cond-false (eqb m n && ltb y (x + 1)) _ _ (and_right _ _ (le-ltb y (x + 1) (omega arith))))
                      ]
                ]
          ]

  -- all of them, after an opening
  pub granted : length bs ≡ 8 → Ok tt ≡ open_answer s n → Opened s n t → Filled t n bs 8 u → Granted s n bs u
  granted eight fits o f =
      record {
        capacity = f.capacity ∙ o.capacity;
        top = f.top ∙ o.top;
        count = f.count ∙ o.count;
        stand = λ m. f.stand m ∙ o.stand m;
        floors = λ m. f.floors m ∙ o.floors m;
        balances = λ m y. f.balances m y ∙ each m y;
      }
    where
      each : (m y : ℕ) → cond (eqb m n && ltb y 8) (get_or bs y 0) (balance_at t m y) ≡ cond (eqb m n) (get_or bs y 0) (balance_at s m y)
      each m y =
          elim (cases_eq m n) [
            | inr ne ↦ cond-false (eqb m n && ltb y 8) _ _ (and_left _ _ (ne_eqb m n ne)) ∙ o.balances m y ∙ sym (cond-false (eqb m n) _ _ (ne_eqb m n ne))
            | inl e ↦
                elim (cases_lt y 8) [
                  | inl l ↦ cond-true (eqb m n && ltb y 8) _ _ (and_from _ _ (eq-eqb m n e) (lt-ltb y 8 l)) ∙ sym (cond-true (eqb m n) _ _ (eq-eqb m n e))
                  | inr g ↦
                      cond-false (eqb m n && ltb y 8) _ _ (and_right _ _ (le-ltb y 8 g))
                      ∙ o.balances m y ∙ ap (λ k. balance_at s k y) e ∙ under_absent name (λ a. get_or a.balances y 0) s.accounts (n ∷ []) (open_fresh s n fits)
                      ∙ sym (cond-true (eqb m n) (get_or bs y 0) (balance_at s m y) (eq-eqb m n e) ∙ get_or_past bs y 0 (omega arith))
                ]
          ]

  -- no balance is refused on the way
  pub settable : (x : ℕ) → length bs ≡ 8 → every is_balance bs ≡ true → x < 8 → Opened s n t → Filled t n bs x u → Ok tt ≡ balance_answer u n x (get_or bs x 0)
  settable x eight fit lt o f =
      balance_made u n x (get_or bs x 0)
      (f.stand n ∙ o.stand n ∙ cond-true (eqb n n) 1 (standing s n) (eq-eqb n n refl))
      lt
      (ltb-true _ _ (All-get_or (λ b. is_balance b ≡ true) bs x 0 (omega arith) (every_all is_balance bs fit)))
