-- States that hold the same are equal; a commit and a founding have one outcome. Assumes nothing.
use Rattle.std.proofs.Common.{◌≡◌, ℕ, ◌+◌, ◌<◌, ◌≤◌, true, cond, ◌⊎◌, List, [], length, get_or, sym, ap, ◌∙◌, subst, inl, inr, arith}
use Rattle.std.specs.List.Sorted.{IsPermutation}
use Rattle.std.proofs.lemmas.List.{ext_get_or}
use Rattle.std.proofs.lemmas.List.Sorted.{sum_by-IsPermutation, IsPermutation-sym, length_permutation}
use Rattle.std.proofs.ByRecursion.{has_shuffled}
use Rattle.terms.specs.declared.Account.{Account}
use Rattle.terms.specs.declared.Key.{Key}
use Rattle.terms.specs.declared.Offer.{Offer}
use Rattle.terms.specs.declared.Transaction.{Transaction}
use Rattle.terms.specs.declared.Grant.{Grant}
use Rattle.terms.specs.Order.{same, under, name, place, words}
use Rattle.terms.specs.Holdings.{Store, standing, floor_at, balance_at, amount_at}
use Rattle.blocks.specs.Readable.{Block}
use Rattle.exchange.specs.State.{State, remainder}
use Rattle.exchange.specs.Trade.{created}
use Rattle.exchange.specs.Faults.{Objection, Objected}
use Rattle.exchange.specs.Faults.Objection.{bad_grant, too_many_grants, excess_grants}
use Rattle.exchange.specs.Commit.{Ordered, Founded, Committed, digest_of}
use Rattle.exchange.specs.Life.{Rearranged}
use Rattle.exchange.specs.Claims.{OrderFree, OneOutcome, FoundingOrderFree}
use Rattle.terms.proofs.Order.{key_is}
use Rattle.exchange.proofs.Rising.{alike}
use Rattle.exchange.proofs.Causes.{one_least}
use Rattle.exchange.proofs.Rearranged.{reorder, reordered, joins, trading_sums, sold_same, payout_same, left_over_same, incoming_same, outgoing_same, back, rearranged_refl, faults_go, verdicts, sold_alike, paid_alike}

data Part : Type 0 where
  stands used : Part
  held : (x : ℕ) → x < 8 → Part

part : Part → Account → ℕ
part stands a = 1
part used a = a.floor
part (held x l) a = get_or a.balances x 0

lists_of_eight : (xs ys : List ℕ) → length xs ≡ 8 → length ys ≡ 8 → ((x : ℕ) → x < 8 → get_or xs x 0 ≡ get_or ys x 0) → xs ≡ ys
lists_of_eight xs ys p q h = ext_get_or 0 xs ys (p ∙ sym q) (λ i l. h i (subst (λ n. i < n) p l))

whole_account : (x y : Account) → length x.balances ≡ 8 → length y.balances ≡ 8 → name x ≡ name y → ((i : Part) → part i x ≡ part i y) → x ≡ y
unfolding part
whole_account x y p q e h =
    let n : x.number ≡ y.number = cc in
    λ i. record { number = n i; floor = h used i; balances = lists_of_eight _ _ p q (λ z l. h (held z l)) i }

whole_offer : (x y : Offer) → place x ≡ place y → x.amount ≡ y.amount → x ≡ y
whole_offer x y e h = let k = key_is x.key y.key e in λ i. record { key = k i; amount = h i }

-- two states in order that hold the same, over equal capacities and top
pub record Same (t u : State) : Type 0 where
  pub first : Ordered t
  pub second : Ordered u
  pub accounts : t.store.capacity ≡ u.store.capacity
  pub top : t.store.top ≡ u.store.top
  pub offers : t.book.capacity ≡ u.book.capacity
  pub stand : (n : ℕ) → standing t.store n ≡ standing u.store n
  pub floors : (n : ℕ) → floor_at t.store n ≡ floor_at u.store n
  pub balances : (n x : ℕ) → x < 8 → balance_at t.store n x ≡ balance_at u.store n x
  pub amounts : (k : Key) → amount_at t.book.offers k ≡ amount_at u.book.offers k
  pub remain : (x : ℕ) → x < 8 → remainder t x ≡ remainder u x
  pub height : t.own.height ≡ u.own.height
  pub digest : t.own.digest ≡ digest_of t
  pub digest' : u.own.digest ≡ digest_of u
  pub founded : t.founded ≡ u.founded
  pub counts : t.counts ≡ u.counts

same_accounts : (t u : State) → Same t u → t.store.accounts ≡ u.store.accounts
unfolding part
same_accounts t u h =
    alike name part (λ a. length a.balances ≡ 8) stands (λ x p. omega arith) whole_account
    t.store.accounts u.store.accounts h.first.accounts h.second.accounts h.first.eight h.second.eight each
  where
    each : (i : Part) (z : Account) → under name (part i) t.store.accounts (name z) ≡ under name (part i) u.store.accounts (name z)
    each stands z = h.stand z.number
    each used z = h.floors z.number
    each (held x l) z = h.balances z.number x l

same_offers : (t u : State) → Same t u → t.book.offers ≡ u.book.offers
same_offers t u h =
    alike place {I = Unit {0}} (λ _ o. o.amount) (λ o. 0 < o.amount) tt (λ x p. p) (λ x y _ _ e w. whole_offer x y e (w tt))
    t.book.offers u.book.offers h.first.offers h.second.offers h.first.some h.second.some (λ _ z. h.amounts z.key)

pub same_states : (t u : State) → Same t u → t ≡ u
same_states t u h =
    let accs = same_accounts t u h in
    let os = same_offers t u h in
    let store : t.store ≡ u.store = λ i. record { capacity = h.accounts i; top = h.top i; accounts = accs i } in
    let book : t.book ≡ u.book = λ i. record { capacity = h.offers i; offers = os i } in
    let rs : t.own.remainders ≡ u.own.remainders = lists_of_eight _ _ h.first.remainders h.second.remainders h.remain in
    let bytes : digest_of t ≡ digest_of u =
    λ i. digest_of (record { founded = true; store = store i; book = book i; own = record { height = h.height i; digest = []; remainders = rs i }; counts = t.counts }) in
    let dig : t.own.digest ≡ u.own.digest = h.digest ∙ bytes ∙ sym h.digest' in
    λ i. record { founded = h.founded i; store = store i; book = book i; own = record { height = h.height i; digest = dig i; remainders = rs i }; counts = h.counts i }

module _ (s : State) (b : Block) (us : List Transaction) (h : IsPermutation b.transactions us) (t u : State) (p : Committed s b t) (q : Committed s (reorder b us) u) where
  floors : (n : ℕ) → floor_at t.store n ≡ floor_at u.store n
  floors n =
      elim (p.last n) [
        | inl (e, nil) ↦
            elim (q.last n) [
              | inl (f, non) ↦ e ∙ sym f
              | inr (x, m, k, f) ↦ absurd (nil x (has_shuffled _ _ x (IsPermutation-sym _ _ h) m) k)
            ]
        | inr (x, m, k, e) ↦
            elim (q.last n) [
              | inl (f, non) ↦ absurd (non x (has_shuffled _ _ x h m) k)
              | inr (y, m', k', f) ↦
                  let up : x.sequence ≤ floor_at u.store n = subst (λ j. x.sequence ≤ floor_at u.store j) k (q.used x (has_shuffled _ _ x h m)) in
                  let down : y.sequence ≤ floor_at t.store n = subst (λ j. y.sequence ≤ floor_at t.store j) k' (p.used y (has_shuffled _ _ y (IsPermutation-sym _ _ h) m')) in
                  omega (arith, e, f, up, down)
            ]
      ]

  amounts_same : (k : Key) → amount_at t.book.offers k ≡ amount_at u.book.offers k
  amounts_same k =
      omega (arith, p.amounts k, q.amounts k, sold_same s b us h k, trading_sums s b us h (λ o. cond (same (place o) (words k)) o.amount 0))

  one_outcome : Same t u
  one_outcome = record {
    first = p.ordered;
    second = q.ordered;
    accounts = p.capacities.accounts ∙ sym q.capacities.accounts;
    top = p.capacities.top ∙ sym q.capacities.top;
    offers = p.capacities.offers ∙ sym q.capacities.offers;
    stand = λ n. p.stand n ∙ ap (λ m. standing s.store n + m) (sym (joins s b us h created _)) ∙ sym (q.stand n);
    floors = floors;
    balances = λ n x l. omega (arith, p.balances n x l, q.balances n x l, incoming_same s b us h n x, outgoing_same s b us h n x, payout_same s b us h n x);
    amounts = λ k. amounts_same k;
    remain = λ x l. p.remain x l ∙ ap (λ n. remainder s x + n) (sym (left_over_same s b us h x)) ∙ sym (q.remain x l);
    height = p.height ∙ sym q.height;
    digest = p.digest;
    digest' = q.digest;
    founded = p.founded ∙ sym q.founded;
    counts = p.counts ∙ sym q.counts;
  }

pub commits_alike : (s : State) (b c : Block) → Rearranged b c → (t u : State) → Committed s b t → Committed s c u → t ≡ u
commits_alike s b c r t u p q =
    same_states t u (one_outcome s b c.transactions r.transactions t u p (subst (λ d. Committed s d u) (reordered b c r) q))

pub order_free : OrderFree
order_free s b c r = record {
  faults = faults_go s b c r;
  no_others = faults_go s c b (back b c r);
  verdicts = verdicts s b c r;
  solds = sold_alike s b c r;
  paids = paid_alike s b c r;
  commits = commits_alike s b c r;
}

pub one_outcome_only : OneOutcome
one_outcome_only s b t u p q = commits_alike s b b (rearranged_refl b) t u p q

-- foundings

objected : (st : Store) (gs hs : List Grant) → IsPermutation gs hs → (c : Objection) (i j : ℕ) → Objected st gs c i j → Objected st hs c i j
objected st gs hs h bad_grant i j (g, m, e, p, q) =
    (g, has_shuffled gs hs g h m, e, subst (λ n. (st.top < i) ⊎ (1 < n)) (sym (sum_by-IsPermutation _ gs hs h)) p, q)
objected st gs hs h too_many_grants i j (p, q, r) = (subst (λ n. st.capacity < n) (sym (length_permutation gs hs h)) p, q, r)
objected st gs hs h excess_grants i j (l, p, r) = (l, subst (λ n. 68719476735 < n) (sym (sum_by-IsPermutation _ gs hs h)) p, r)

pub founded_alike : (s : State) (gs hs : List Grant) → IsPermutation gs hs → (t u : State) → Founded s gs t → Founded s hs u → t ≡ u
founded_alike s gs hs h t u p q =
    same_states t u (record {
      first = p.ordered;
      second = q.ordered;
      accounts = p.capacities.accounts ∙ sym q.capacities.accounts;
      top = p.capacities.top ∙ sym q.capacities.top;
      offers = p.capacities.offers ∙ sym q.capacities.offers;
      stand = λ n. p.stand n ∙ sym (sum_by-IsPermutation _ gs hs h) ∙ sym (q.stand n);
      floors = λ n. p.unused n ∙ sym (q.unused n);
      balances = λ n x l. p.balances n x l ∙ sym (sum_by-IsPermutation _ gs hs h) ∙ sym (q.balances n x l);
      amounts = λ k. ap (λ os. amount_at os k) (p.none ∙ sym q.none);
      remain = λ x l. ap (λ rs. get_or rs x 0) (p.remainders ∙ sym q.remainders);
      height = p.height ∙ sym q.height;
      digest = p.digest;
      digest' = q.digest;
      founded = p.founded ∙ sym q.founded;
      counts = p.counts ∙ sym q.counts;
    })

pub founding_order_free : FoundingOrderFree
founding_order_free s gs hs h = record {
  verdicts = one_least _ _ (λ f (c, e, p). (c, e, objected s.store gs hs h c f.first f.second p))
      (λ f (c, e, p). (c, e, objected s.store hs gs (IsPermutation-sym gs hs h) c f.first f.second p));
  states = founded_alike s gs hs h;
}
