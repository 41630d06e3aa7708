-- Over every life each asset adds up to what was founded, no more is paid than sold, and limits are kept. Assumes nothing.
use Rattle.std.proofs.Common.{◌≡◌, ℕ, ◌+◌, ◌*◌, ◌<◌, true, cond, eqb, List, [], ◌∷◌, get_or, replicate, Ok, Err, sum_by, Result, sym, refl, ap, ◌∙◌, subst, arith}
use Rattle.std.specs.List.{ContainsAt as Has, AllByRecursion}
use Rattle.std.proofs.lemmas.List.Sums.{get_or-le-sum_by}
use Rattle.std.proofs.lemmas.List.{get_or-replicate}
use Rattle.std.proofs.lemmas.Bool.{eq-eqb}
use Rattle.std.proofs.ByRecursion.{All-weaker}
use Rattle.terms.specs.declared.Key.{Key}
use Rattle.terms.specs.declared.Grant.{Grant}
use Rattle.terms.specs.declared.Fault.{Fault}
use Rattle.terms.specs.Order.{name}
use Rattle.terms.specs.Holdings.{Store, Book, standing, free_of, offered_of}
use Rattle.blocks.specs.Readable.{Block, Readable}
use Rattle.blocks.proofs.Laws.{readable_fits}
use Rattle.exchange.specs.State.{State, Counts, remainder}
use Rattle.exchange.specs.Trade.{sold, paid}
use Rattle.exchange.specs.Faults.{granted}
use Rattle.exchange.specs.Commit.{Owned, Founded, Committed, counted}
use Rattle.exchange.specs.Life.{Event, Answer, Life, birth, Holds, Runs, Reads, Rules, AfterCommit, fill_of, or_refused}
use Rattle.exchange.specs.Life.Answer.{done, filled}
use Rattle.exchange.specs.Claims.{Conserved, PayoutsCovered, LimitsKept, Served}
use Rattle.exchange.proofs.Rising.{sum_by_same, all_of}
use Rattle.exchange.proofs.Sums.{if_true, all_by_has, lookup, rising_once}
use Rattle.exchange.proofs.Keyed.{and_only, by_keys}
use Rattle.exchange.proofs.Fit.{Fit, fits}
use Rattle.exchange.proofs.Trades.{paid_within}
use Rattle.exchange.proofs.Ledger.{conserved, still_owned}
use Rattle.exchange.proofs.Limits.{served, unpaid}
use Rattle.exchange.proofs.Running.{read_founded, founded_keep}

abbrev total : State → ℕ → ℕ
total s x = free_of s.store x + offered_of s.book x + remainder s x

-- at the founding

module _ (s : State) (gs : List Grant) (t : State) (w : Founded s gs t) where
  abbrev grantee : Grant → List ℕ
  grantee g = g.account ∷ []

  pub once_granted : AllByRecursion (λ g. standing t.store g.account ≡ 1) gs
  once_granted = all_by_has _ gs go
    where
      go : (g : Grant) → Has gs g → standing t.store g.account ≡ 1
      go g (k, l, at) =
          let f : Grant → ℕ = λ h. cond (eqb h.account g.account) 1 0 in
          omega (
            arith,
            w.stand g.account,
            get_or-le-sum_by f gs k g l,
            ap f (at g),
            if_true _ 1 0 (eq-eqb g.account g.account refl),
            rising_once name t.store.accounts w.ordered.accounts (record { number = g.account; floor = 0; balances = [] }),
          )

  pub free_founded : (x : ℕ) → x < 8 → free_of t.store x ≡ granted gs x
  free_founded x l =
      sym (sum_by_same _ _ t.store.accounts
      (lookup name (λ a. get_or a.balances x 0) t.store.accounts (rising_once name t.store.accounts w.ordered.accounts)))
      ∙ sum_by_same _ _ t.store.accounts
      (all_of _
      (λ a. w.balances a.number x l
      ∙ sum_by_same _ _ gs (all_of _ (λ g. ap (λ p. cond p (get_or g.balances x 0) 0) (and_only (eqb g.account a.number))) gs))
      t.store.accounts)
      ∙ by_keys grantee name (λ _. true) (λ _. true) (λ _ _ _. refl) (λ g. get_or g.balances x 0) gs t.store.accounts
      ∙ sum_by_same _ _ gs (All-weaker _ _ (λ g e. ap (λ n. get_or g.balances x 0 * n) e ∙ omega arith) gs once_granted)

  pub founded_total : (x : ℕ) → x < 8 → total t x ≡ granted gs x
  founded_total x l = omega (arith, free_founded x l, empty, nothing)
    where
      empty : offered_of t.book x ≡ 0
      empty = ap (λ os. sum_by (λ o. cond (eqb o.key.sold x) o.amount 0) os) w.none

      zeros : (y : ℕ) → y < 8 → ◌≡◌ {A = ℕ} (get_or (replicate 8 0) y 0) 0
      zeros y h = get_or-replicate 8 y 0 0 h

      nothing : remainder t x ≡ 0
      nothing = ap (λ rs. get_or rs x 0) w.remainders ∙ zeros x l

  pub founded_owned : Owned t
  founded_owned = record { ordered = w.ordered; owners = subst (AllByRecursion _) (sym w.none) tt; numbers = subst (AllByRecursion _) (sym w.none) tt }

-- at each event

pub record Good (s : State) (gs : List Grant) : Type 0 where
  pub owned : Owned s
  pub adds : (x : ℕ) → x < 8 → total s x ≡ granted gs x

pub owned_counted : (s : State) (c : Counts) → Owned s → Owned (counted s c)
owned_counted s c h = record {
  ordered = record { accounts = h.ordered.accounts; offers = h.ordered.offers; eight = h.ordered.eight; some = h.ordered.some; remainders = h.ordered.remainders };
  owners = h.owners;
  numbers = h.numbers;
}

-- what is known of a readable block
pub read_fits : (bs : List ℕ) (b : Block) → Readable bs b → Fit b
read_fits bs b h = fits b (readable_fits bs b h)

pub good_life : (st : Store) (bk : Book) (es : List Event) (us : List Answer) (l : Life) → Runs (birth st bk) es us l → l.state.founded ≡ true
    → Good l.state l.grants
good_life st bk =
    founded_keep (λ _. Unit {0}) Good (λ s c q. q)
    (λ s c gs g. record { owned = owned_counted s c g.owned; adds = g.adds })
    (λ s bs gs t q f v w. record { owned = founded_owned s gs t w; adds = founded_total s gs t w })
    (λ s bs b t gs g r v c. record {
      owned = still_owned s b g.owned v t c;
      adds = λ x l. conserved s b g.owned v t c x l (read_fits bs b r) ∙ g.adds x l;
    })
    st bk tt

pub life_conserves : Conserved
life_conserves st bk es us l p f = (good_life st bk es us l p f).adds

pub payouts_covered : PayoutsCovered
payouts_covered st bk es us l p f bs b h v x r =
    paid_within l.state b (good_life st bk es us l p f).owned v x r (read_fits bs b h)

pub limits_kept : LimitsKept
limits_kept = record {
  blocks = λ s bs b h. served s b (read_fits bs b h);
  unfilled = unpaid;
  fills = λ l m i k n p (bs, hb, (r, q, a, e)) some. told l i k n p bs hb r q a some;
  commits = λ l m i (bs, hb, (r, q, a, t, e, g)). applied l m i bs hb r q a t;
}
  where
    told : (l : Life) (i : ℕ) (k : Key) (n p : ℕ) (bs : List ℕ) → Holds l i bs → (r : Result Block Fault) → Rules l.state bs r → filled n p ≡ fill_of l.state k r → 0 < n
        → (bs : List ℕ) × (b : Block) × Holds l i bs × Readable bs b × (n ≡ sold l.state b k) × (p ≡ paid l.state b k) × Served l.state b k
    told l i k n p bs hb (Ok b) q a some =
        let w = read_founded l.state.founded (Reads l.state bs (Ok b)) b _ q in
        let en : n ≡ sold l.state b k = cc in
        let ep : p ≡ paid l.state b k = cc in
        (bs, b, hb, w.1.0, en, ep, served l.state b (read_fits bs b w.1.0) k (subst (λ z. 0 < z) en some))
    told l i k n p bs hb (Err g) q a some = absurd (let z : ◌≡◌ {A = ℕ} 0 1 = cc in omega (arith, z))

    applied : (l m : Life) (i : ℕ) (bs : List ℕ) → Holds l i bs → (r : Result Block Fault) → Rules l.state bs r → done ≡ or_refused done r → AfterCommit l.state r m.state
        → (bs : List ℕ) × (b : Block) × Holds l i bs × Readable bs b × Committed l.state b m.state × ((k : Key) → 0 < sold l.state b k → Served l.state b k)
    applied l m i bs hb (Ok b) q a t =
        let w = read_founded l.state.founded (Reads l.state bs (Ok b)) b _ q in
        (bs, b, hb, w.1.0, t, served l.state b (read_fits bs b w.1.0))
    applied l m i bs hb (Err g) q a t = absurd (let z : ◌≡◌ {A = ℕ} 0 1 = cc in omega (arith, z))
