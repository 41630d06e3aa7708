use Rattle.std.proofs.Common.{◌≡◌, ℕ, [], ◌∷◌, ◌++◌, length, sym, ap, subst, arith}
use Rattle.std.specs.List.{flat_map}
use Rattle.std.proofs.ByRecursion.{All-weaker}
use Rattle.terms.specs.Order.{name}
use Rattle.accounts.proofs.Sound.{store_parts, account_parts}
use Rattle.sha256.specs.Streaming.{Holds}
use Rattle.exchange.specs.Commit.{account_bytes}
use Rattle.state_digest.proofs.Rests.{Next, above_zero, rest_all, rest_end, rest_next, moved, fewer, ended}
use Rattle.state_digest.proofs.add_accounts.Goals as goal

some : (n : ℕ) → n ∷ [] ≡ [] → ⊥
some n e = omega (arith, ap length e)

pub loop-number-init : goal.loop-number-init
loop-number-init g c = λ m k.
    let st = (g.S.AccountStore.store c.args.store.now) in
    let ok = store_parts st (g.met.S.AccountStore.sound c.args.store.now) in
    let all = rest_all name st.accounts (0 ∷ []) (All-weaker _ _ (λ a e. above_zero a.number (account_parts st.top a e).some) st.accounts ok.fit) in
    (m, k, ap (λ xs. m ++ flat_map account_bytes xs) all)

-- the account that the loop comes to
after : (g : _) (c : goal.After-add_account g)
    → Next name (g.S.AccountStore.store c.args.store.now).accounts (c.loop-number.at ∷ []) (c.in-Some.number ∷ [])
after g c =
    let st = (g.S.AccountStore.store c.args.store.now) in
    let ok = store_parts st (g.met.S.AccountStore.sound c.args.store.now) in
    rest_next name st.accounts _ _ ok.up (some _) (sym c.in-Some.ensures)

pub loop-number-smaller : goal.loop-number-smaller
loop-number-smaller g c = fewer name account_bytes _ _ _ (after g c)

pub loop-number-preserved : goal.loop-number-preserved
loop-number-preserved g c = λ m k.
    let st = (g.S.AccountStore.store c.args.store.now) in
    let n = after g c in
    let a = n.entry in
    let number : a.number ≡ c.in-Some.number = let e = n.is in cc in
    let before = c.loop-number.invariant m k in (
      before.0 ++ account_bytes a,
      c.add_account.ensures before.0 a n.has number before.1,
      moved name account_bytes st.accounts _ _ before.0 _ n before.2,
    )

pub returns : goal.returns
returns g c = λ m k.
    let st = (g.S.AccountStore.store c.args.store.now) in
    let ok = store_parts st (g.met.S.AccountStore.sound c.args.store.now) in
    let none = rest_end name st.accounts (c.loop-number.at ∷ []) (All-weaker _ _ (λ a _. some a.number) st.accounts ok.fit) (sym c.in_default.ensures) in
    let before = c.loop-number.invariant m k in
    subst (Holds c.loop-number.hasher) (ended name account_bytes st.accounts (c.loop-number.at ∷ []) before.0 _ none before.2) before.1
