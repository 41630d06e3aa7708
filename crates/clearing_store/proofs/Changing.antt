-- Balances, floors and accounts change one after the other. Assumes nothing.
use Rattle.std.proofs.Common.{◌≡◌, ℕ, ◌+◌, ◌-◌, ◌<◌, ◌≤◌, true, false, cond, ◌&&◌, ◌||◌, eqb, ltb, leb, ◌⊎◌, List, [], ◌∷◌, ◌++◌, Some, None, Ok, Err, Option, Result, sym, refl, ap, ◌∙◌, ap₂, inl, inr, arith, length-append, MatchResult}
use Rattle.std.specs.List.{ContainsAt as Has}
use Rattle.std.proofs.lemmas.List.Sums.{sum_by-append}
use Rattle.std.proofs.lemmas.Bool.{cases_Bool, cases_eq, cases_lt, eq-eqb, ne_eqb, eqb-true, and_parts, and_from, lt-ltb, ltb-true, le-leb, leb-true, cond-true, cond-false}
use Rattle.std.proofs.lemmas.Bool.Decides.{nat_tests}
use Rattle.std.proofs.ByRecursion.{All-weaker, All-append, all-has, has_append_left, has_append_right}
use Rattle.terms.specs.declared.Fault.{Fault}
use Rattle.terms.specs.declared.Transaction.{Transaction}
use Rattle.terms.specs.Order.{same, under}
use Rattle.terms.specs.Ranges.{is_asset, is_balance}
use Rattle.terms.specs.Holdings.{Store, standing, floor_at, balance_at}
use Rattle.accounts.specs.Changes.{open_answer, balance_answer, floor_answer, Opened, BalanceSet, FloorSet}
use Rattle.accounts.proofs.Grants.{never}
use Rattle.accounts.proofs.Replies.{open_made}
use Rattle.tally.specs.declared.effects.Net.{Net}
use Rattle.judging_balances.specs.declared.Slot.{Slot}
use Rattle.exchange.proofs.Sums.{if_true, if_false, all_by_has, under_gone, member_le}
use Rattle.clearing_book.proofs.Passes.{all_left, all_right, member}
use Rattle.clearing_store.specs.Changes.{holder, gets, gives, moved_to, Applied, Bearable, CanApply, AppliedOr, Raised, CanRaise, RaisedOr, times, AllOpened, CanOpen, OpenedOr}

-- balances

-- a new balance is in range and has what came in and not what went out; and if there is none, it would not be in range
pub moved_is : (had p m v : ℕ) → Some v ≡ moved_to had p m → (v + m ≡ had + p) × (v ≤ 68719476735)
moved_is had p m v e = elim (cases_Bool (leb m (had + p) && is_balance (had + p - m))) [
  | inl b ↦
      let q : Some v ≡ Some (had + p - m) = e ∙ cond-true (leb m (had + p) && is_balance (had + p - m)) (Some (had + p - m)) None b in
      let w : v ≡ had + p - m = cc in
      let (l, r) = and_parts (leb m (had + p)) (is_balance (had + p - m)) b in
      (omega (arith, leb-true m (had + p) l), omega (arith, ltb-true (had + p - m) 68719476736 r))
  | inr b ↦ absurd
      (let q : Some v ≡ None = e ∙ cond-false (leb m (had + p) && is_balance (had + p - m)) (Some (had + p - m)) None b in
      let z : ◌≡◌ {A = ℕ} 0 1 = cc in omega (arith, z))
]

pub moved_not : (had p m : ℕ) → None ≡ moved_to had p m → m ≤ had + p → had + p ≤ 68719476735 + m → ⊥
moved_not had p m e l h =
    let b : (leb m (had + p) && is_balance (had + p - m)) ≡ true = and_from _ _ (le-leb m (had + p) l) (lt-ltb (had + p - m) 68719476736 (omega arith)) in
    let q : ◌≡◌ {A = Option ℕ} None (Some (had + p - m)) = e ∙ cond-true (leb m (had + p) && is_balance (had + p - m)) (Some (had + p - m)) None b in
    let z : ◌≡◌ {A = ℕ} 0 1 = cc in
    omega (arith, z)

pub none_applied : (s : Store) → Applied [] s s
none_applied s =
    record { capacity = refl; top = refl; count = refl; stand = λ n. refl; floors = λ n. refl; balances = λ n x. omega arith }

here : (m : Net Slot) (n x : ℕ) → same (holder m) (n ∷ x ∷ []) ≡ (eqb n m.key.account && eqb x m.key.asset)
here m n x = grind (arith, nat_tests)

-- a net that changes nothing
pub nothing_applied : (m : Net Slot) (s : Store) → m.plus ≡ m.minus → Applied (m ∷ []) s s
nothing_applied m s e = record {
  capacity = refl;
  top = refl;
  count = refl;
  stand = λ n. refl;
  floors = λ n. refl;
  balances = λ n x. elim (cases_Bool (same (holder m) (n ∷ x ∷ []))) [
    | inl p ↦ omega (arith, e, if_true _ m.minus 0 p, if_true _ m.plus 0 p)
    | inr p ↦ omega (arith, if_false _ m.minus 0 p, if_false _ m.plus 0 p)
  ];
}

pub one_applied : (m : Net Slot) (s t : Store) (v : ℕ) → (m.plus ≡ m.minus → ⊥)
    → Some v ≡ moved_to (balance_at s m.key.account m.key.asset) m.plus m.minus
    → (r : Result (Unit {0}) Fault) → r ≡ balance_answer s m.key.account m.key.asset v
    → MatchResult r (λ _. BalanceSet s m.key.account m.key.asset v t) (λ _. t ≡ s) → AppliedOr (m ∷ []) s t r
one_applied m s t v ne ev (Ok _) q a = record {
  capacity = a.capacity;
  top = a.top;
  count = a.count;
  stand = a.stand;
  floors = a.floors;
  balances = λ n x. go n x (cases_Bool (eqb n m.key.account && eqb x m.key.asset));
}
  where
    is : v + m.minus ≡ balance_at s m.key.account m.key.asset + m.plus
    is = (moved_is (balance_at s m.key.account m.key.asset) m.plus m.minus v ev).0

    go : (n x : ℕ) → ((eqb n m.key.account && eqb x m.key.asset) ≡ true) ⊎ ((eqb n m.key.account && eqb x m.key.asset) ≡ false)
        → balance_at t n x + gives (m ∷ []) n x ≡ balance_at s n x + gets (m ∷ []) n x
    go n x (inl p) =
        let (en, ex) = and_parts (eqb n m.key.account) (eqb x m.key.asset) p in
        omega (arith, a.balances n x, if_true _ v (balance_at s n x) p, ap₂ (balance_at s) (eqb-true n m.key.account en) (eqb-true x m.key.asset ex), is, if_true (same (holder m) (n ∷ x ∷ [])) m.minus 0 (here m n x ∙ p), if_true (same (holder m) (n ∷ x ∷ [])) m.plus 0 (here m n x ∙ p))
    go n x (inr p) =
        omega (arith, a.balances n x, if_false _ v (balance_at s n x) p, if_false (same (holder m) (n ∷ x ∷ [])) m.minus 0 (here m n x ∙ p), if_false (same (holder m) (n ∷ x ∷ [])) m.plus 0 (here m n x ∙ p))
one_applied m s t v ne ev (Err _) q a = λ can.
    let be = can.each.0 ne in
    let st : 0 < standing s m.key.account = be.stand in
    let small = (moved_is (balance_at s m.key.account m.key.asset) m.plus m.minus v ev).1 in
    never (sym (cond-false (eqb (standing s m.key.account) 0) _ _ (ne_eqb (standing s m.key.account) 0 (λ z. omega (arith, z, st)))
    ∙ cond-true (is_asset m.key.asset && is_balance v) _ _ (and_from _ _ (lt-ltb m.key.asset 8 be.asset) (lt-ltb v 68719476736 (omega (arith, small)))))
    ∙ sym q)

pub applied_more : (ms ns : List (Net Slot)) (s t u : Store) → Applied ms s t → Applied ns t u → Applied (ms ++ ns) s u
applied_more ms ns s t u a b = record {
  capacity = b.capacity ∙ a.capacity;
  top = b.top ∙ a.top;
  count = b.count ∙ a.count;
  stand = λ n. b.stand n ∙ a.stand n;
  floors = λ n. b.floors n ∙ a.floors n;
  balances = λ n x.
      omega (arith, a.balances n x, b.balances n x, sum_by-append (λ m. cond (same (holder m) (n ∷ x ∷ [])) m.plus 0) ms ns, sum_by-append (λ m. cond (same (holder m) (n ∷ x ∷ [])) m.minus 0) ms ns);
}

-- where all can be applied, and the first are, the next can
pub apply_next : (ls ms ns : List (Net Slot)) (s t : Store) → CanApply (ls ++ (ms ++ ns)) s → Applied ls s t → CanApply ms t
apply_next ls ms ns s t can a = record { each = all_by_has _ ms go; once = λ n x. omega (arith, can.once n x, parts n x) }
  where
    parts : (n x : ℕ) → under holder (λ _. 1) (ls ++ (ms ++ ns)) (n ∷ x ∷ [])
        ≡ under holder (λ _. 1) ls (n ∷ x ∷ []) + (under holder (λ _. 1) ms (n ∷ x ∷ []) + under holder (λ _. 1) ns (n ∷ x ∷ []))
    parts n x =
        sum_by-append (λ m. cond (same (holder m) (n ∷ x ∷ [])) 1 0) ls (ms ++ ns)
        ∙ ap (λ k. under holder (λ _. 1) ls (n ∷ x ∷ []) + k) (sum_by-append (λ m. cond (same (holder m) (n ∷ x ∷ [])) 1 0) ms ns)

    Fine : Net Slot → Type 0
    Fine m = (m.plus ≡ m.minus → ⊥) → Bearable s m

    go : (m : Net Slot) → Has ms m → (m.plus ≡ m.minus → ⊥) → Bearable t m
    go m h ne =
        let z : under holder (λ _. 1) ls (holder m) ≡ 0 = omega (arith, can.once m.key.account m.key.asset, parts m.key.account m.key.asset, member holder ms m h) in
        let e : balance_at t m.key.account m.key.asset ≡ balance_at s m.key.account m.key.asset =
        omega (arith, a.balances m.key.account m.key.asset, under_gone holder (λ e. e.plus) ls (holder m) z, under_gone holder (λ e. e.minus) ls (holder m) z) in
        let be = all-has Fine ms m (all_left Fine ms ns (all_right Fine ls (ms ++ ns) can.each)) h ne in
        record {
          stand = omega (arith, be.stand, a.stand m.key.account);
          asset = be.asset;
          enough = omega (arith, be.enough, e);
          room = omega (arith, be.room, e);
        }

-- floors

pub none_raised : (s : Store) → Raised [] s s
none_raised s = record {
  capacity = refl;
  top = refl;
  count = refl;
  stand = λ n. refl;
  balances = λ n x. refl;
  grows = λ n. omega arith;
  used = tt;
  last = λ n. inl refl;
}

pub one_raised : (u : Transaction) (s t : Store) → floor_at s u.source < u.sequence → (r : Result (Unit {0}) Fault)
    → r ≡ floor_answer s u.source → MatchResult r (λ _. FloorSet s u.source u.sequence t) (λ _. t ≡ s) → RaisedOr (u ∷ []) s t r
one_raised u s t l (Ok _) e a = record {
  capacity = a.capacity;
  top = a.top;
  count = a.count;
  stand = a.stand;
  balances = a.balances;
  grows = λ m. elim (cases_eq m u.source) [
    | inl k ↦ omega (arith, l, a.floors m, if_true (eqb m u.source) u.sequence (floor_at s m) (eq-eqb m u.source k), ap (floor_at s) k)
    | inr k ↦ omega (arith, a.floors m, if_false (eqb m u.source) u.sequence (floor_at s m) (ne_eqb m u.source k))
  ];
  used = (omega (arith, at_source), tt);
  last = λ m. elim (cases_eq m u.source) [
    | inl k ↦ inr (u, (0, omega arith, λ d. refl), sym k, ap (floor_at t) k ∙ at_source)
    | inr k ↦ inl (a.floors m ∙ if_false (eqb m u.source) u.sequence (floor_at s m) (ne_eqb m u.source k))
  ];
}
  where
    at_source : floor_at t u.source ≡ u.sequence
    at_source = a.floors u.source ∙ if_true (eqb u.source u.source) u.sequence (floor_at s u.source) (eq-eqb u.source u.source refl)
one_raised u s t l (Err _) e a = λ can.
    never (sym (cond-false (eqb (standing s u.source) 0) _ _ (ne_eqb (standing s u.source) 0 (λ z. omega (arith, z, can.0)))) ∙ sym e)

pub raised_already : (u : Transaction) (s : Store) → u.sequence ≤ floor_at s u.source → Raised (u ∷ []) s s
raised_already u s l = record {
  capacity = refl;
  top = refl;
  count = refl;
  stand = λ n. refl;
  balances = λ n x. refl;
  grows = λ n. omega arith;
  used = (l, tt);
  last = λ n. inl refl;
}

pub raised_more : (us vs : List Transaction) (s t w : Store) → Raised us s t → Raised vs t w → Raised (us ++ vs) s w
raised_more us vs s t w a b = record {
  capacity = b.capacity ∙ a.capacity;
  top = b.top ∙ a.top;
  count = b.count ∙ a.count;
  stand = λ n. b.stand n ∙ a.stand n;
  balances = λ n x. b.balances n x ∙ a.balances n x;
  grows = λ n. omega (arith, a.grows n, b.grows n);
  used = All-append _ us vs (All-weaker _ _ (λ u l. omega (arith, l, b.grows u.source)) us a.used) b.used;
  last = λ n. elim (b.last n) [
    | inl e ↦ elim (a.last n) [ inl f ↦ inl (e ∙ f) | inr (u, m, k, f) ↦ inr (u, has_append_left us vs u m, k, e ∙ f) ]
    | inr (u, m, k, f) ↦ inr (u, has_append_right us vs u m, k, f)
  ];
}

-- where all can rise, and the first have risen, the next can
pub raise_next : (us vs ws : List Transaction) (s t : Store) → CanRaise (us ++ (vs ++ ws)) s → Raised us s t → CanRaise vs t
raise_next us vs ws s t can a =
    All-weaker _ _ (λ u h. omega (arith, h, a.stand u.source)) vs (all_left _ vs ws (all_right _ us (vs ++ ws) can))

-- accounts

pub none_opened : (s : Store) → AllOpened [] s s
none_opened s =
    record { capacity = refl; top = refl; count = omega arith; stand = λ n. omega arith; floors = λ n. refl; balances = λ n x. refl }

-- an account that could be opened did not stand
fresh : (s : Store) (n : ℕ) → Ok tt ≡ open_answer s n → standing s n ≡ 0
fresh s n e = elim (cases_lt 0 (standing s n)) [
  | inr g ↦ omega arith
  | inl l ↦ elim (cases_Bool (eqb n 0 || ltb s.top n)) [
    | inl t ↦ absurd (never (e ∙ cond-true (eqb n 0 || ltb s.top n) _ _ t))
    | inr f ↦ absurd (never (e ∙ cond-false (eqb n 0 || ltb s.top n) _ _ f ∙ cond-true (ltb 0 (standing s n)) _ _ (lt-ltb 0 (standing s n) l)))
  ]
]

pub one_opened : (n : ℕ) (s t : Store) (r : Result (Unit {0}) Fault) → r ≡ open_answer s n → MatchResult r (λ _. Opened s n t) (λ _. t ≡ s)
    → OpenedOr (n ∷ []) s t r
one_opened n s t (Ok _) e a = record {
  capacity = a.capacity;
  top = a.top;
  count = a.count;
  stand = λ m. a.stand m ∙ elim (cases_eq m n) [
    | inl k ↦ omega (arith, if_true (eqb m n) 1 (standing s m) (eq-eqb m n k), if_true (eqb n m) 1 0 (eq-eqb n m (sym k)), ap (standing s) k, fresh s n e)
    | inr k ↦ omega (arith, if_false (eqb m n) 1 (standing s m) (ne_eqb m n k), if_false (eqb n m) 1 0 (ne_eqb n m (λ z. k (sym z))))
  ];
  floors = a.floors;
  balances = a.balances;
}
one_opened n s t (Err _) e a = λ can.
    let h = can.each.0 in
    never (open_made s n (λ z. omega (arith, z, h.0)) h.1 h.2 (omega (arith, can.room)) ∙ sym e)

pub opened_more : (ms ns : List ℕ) (s t u : Store) → AllOpened ms s t → AllOpened ns t u → AllOpened (ms ++ ns) s u
opened_more ms ns s t u a b = record {
  capacity = b.capacity ∙ a.capacity;
  top = b.top ∙ a.top;
  count = omega (arith, a.count, b.count, length-append ms ns);
  stand = λ n. omega (arith, a.stand n, b.stand n, sum_by-append (λ m. cond (eqb m n) 1 0) ms ns);
  floors = λ n. b.floors n ∙ a.floors n;
  balances = λ n x. b.balances n x ∙ a.balances n x;
}

-- where all can open, and the first have opened, the next can
pub open_next : (ls ms ns : List ℕ) (s t : Store) → CanOpen (ls ++ (ms ++ ns)) s → AllOpened ls s t → CanOpen ms t
open_next ls ms ns s t can a = record {
  each = all_by_has _ ms go;
  once = λ n. omega (arith, can.once n, parts n);
  room = omega (arith, can.room, a.count, a.capacity, length-append ls (ms ++ ns), length-append ms ns);
}
  where
    parts : (n : ℕ) → times (ls ++ (ms ++ ns)) n ≡ times ls n + (times ms n + times ns n)
    parts n = sum_by-append (λ m. cond (eqb m n) 1 0) ls (ms ++ ns) ∙ ap (λ k. times ls n + k) (sum_by-append (λ m. cond (eqb m n) 1 0) ms ns)

    Fine : ℕ → Type 0
    Fine n = (0 < n) × (n ≤ s.top) × (standing s n ≡ 0)

    go : (n : ℕ) → Has ms n → (0 < n) × (n ≤ t.top) × (standing t n ≡ 0)
    go n m =
        let h = all-has Fine ms n (all_left Fine ms ns (all_right Fine ls (ms ++ ns) can.each)) m in
        let c : 0 < times ms n = omega (arith, member_le (λ z. cond (eqb z n) 1 0) ms n m, if_true (eqb n n) 1 0 (eq-eqb n n refl)) in
        (h.0, omega (arith, h.1, a.top), omega (arith, h.2, a.stand n, c, can.once n, parts n))
