use Rattle.std.proofs.Common.{◌≡◌, ℕ, [], ◌∷◌, ◌++◌, map, length, vec_items, sym, ap, ◌∙◌, arith}
use Rattle.std.proofs.ByRecursion.{All-weaker}
use Rattle.terms.specs.Order.{name}
use Rattle.accounts.proofs.Sound.{store_parts, account_parts}
use Rattle.state_digest.proofs.Rests.{Next, above_zero, rest_all, rest_end, rest_next}
use Rattle.listing.specs.declared.line.Line.TheVariants as line
use Rattle.listing.proofs.Adding.{moved, fewer, ended}
use Rattle.listing.proofs.standing.push_accounts.Goals as goal

some : (n : ℕ) → n ∷ [] ≡ [] → ⊥
some n e = omega (arith, ap length e)

pub loop-number-init : goal.loop-number-init
loop-number-init g c =
    let st = c.args.replica.now.store in
    let ok = store_parts st c.requires in
    let all = rest_all name st.accounts (0 ∷ []) (All-weaker _ _ (λ a e. above_zero a.number (account_parts st.top a e).some) st.accounts ok.fit) in
    ap (λ xs. vec_items c.args.lines.now ++ map line.Account xs) all

-- the account that the loop comes to
after : (g : _) (c : goal.In_ok-push g)
    → Next name c.args.replica.now.store.accounts (c.loop-number.at ∷ []) (c.in-Some.number ∷ [])
after g c =
    let st = c.args.replica.now.store in
    let ok = store_parts st c.requires in
    rest_next name st.accounts _ _ ok.up (some _) (sym c.in-Some.ensures.value)

pub loop-number-smaller : goal.loop-number-smaller
loop-number-smaller g c = fewer name line.Account _ _ _ (after g c)

pub loop-number-preserved : goal.loop-number-preserved
loop-number-preserved g c =
    let st = c.args.replica.now.store in
    let n = after g c in
    let number : n.entry.number ≡ c.in-Some.number = let e = n.is in cc in
    let is = c.account.ensures n.entry n.has number in
    let items = c.in_ok-push.ensures.items ∙ ap (λ a. vec_items c.loop-number.lines ++ line.Account a ∷ []) is in
    moved name line.Account st.accounts (c.loop-number.at ∷ []) (c.in-Some.number ∷ []) _ _ _ n items c.loop-number.invariant

pub returns : goal.returns
returns g c =
    let st = c.args.replica.now.store in
    let ok = store_parts st c.requires in
    let none = rest_end name st.accounts (c.loop-number.at ∷ []) (All-weaker _ _ (λ a _. some a.number) st.accounts ok.fit) (sym c.in_default.ensures.value) in
    ended name line.Account st.accounts (c.loop-number.at ∷ []) _ _ none c.loop-number.invariant
