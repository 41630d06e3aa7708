use Rattle.std.proofs.Common.{◌≡◌, ℕ, ◌<◌, true, ltb, List, [], ◌∷◌, ◌++◌, length, sym, refl, ap, ◌∙◌, subst, ap₂, arith}
use Rattle.std.specs.List.{flat_map}
use Rattle.std.proofs.ByRecursion.{all-has, All-weaker}
use Rattle.std.proofs.lemmas.Bool.{and_parts, ltb-true}
use Rattle.terms.specs.declared.Offer.{Offer}
use Rattle.terms.specs.Bytes.{bytes_of}
use Rattle.terms.specs.Order.{place, words, under}
use Rattle.terms.specs.Ranges.{is_pair, is_number, is_word, is_amount, fit_key, fit_offer}
use Rattle.terms.proofs.Order.{key_is}
use Rattle.ordered.proofs.Rising.{under_each}
use Rattle.offers.proofs.Sound.{book_parts}
use Rattle.sha256.specs.Streaming.{Holds}
use Rattle.exchange.specs.Commit.{offer_bytes, key_bytes}
use Rattle.state_digest.proofs.Rests.{Next, above_zeros, rest_all, rest_end, rest_next, moved, fewer, ended}
use Rattle.state_digest.proofs.add_offers.Goals as goal

owned : (o : Offer) → fit_offer o ≡ true → 0 < o.key.account
owned o e =
    let k = o.key in
    let key = (and_parts (is_pair k.sold k.bought) _ (and_parts (fit_key k) (is_amount o.amount) e).0).1 in
    let account = (and_parts (is_number k.account) (is_word k.sequence) (and_parts (is_number k.limit) _ key).1).0 in
    ltb-true 0 k.account (and_parts (ltb 0 k.account) (is_word k.account) account).0

pub loop-key-init : goal.loop-key-init
loop-key-init g c = λ m k.
    let bk = (g.B.OfferBook.book c.args.book.now) in
    let ok = book_parts bk (g.met.B.OfferBook.sound c.args.book.now) in
    let all = rest_all place bk.offers (0 ∷ 0 ∷ 0 ∷ 0 ∷ 0 ∷ []) (All-weaker _ _ (λ o e. above_zeros o.key (owned o e)) bk.offers ok.fit) in
    (m, k, ap (λ os. m ++ flat_map offer_bytes os) all)

some : (k : List ℕ) (n : ℕ) → length k ≡ n → 0 < n → k ≡ [] → ⊥
some k n e h z = omega (arith, e, ap length z)

-- the offer that the loop comes to
after : (g : _) (c : goal.After-add_offer g)
    → Next place (g.B.OfferBook.book c.args.book.now).offers (words c.loop-key.at) (words c.in-Some.key)
after g c =
    let bk = (g.B.OfferBook.book c.args.book.now) in
    let ok = book_parts bk (g.met.B.OfferBook.sound c.args.book.now) in
    rest_next place bk.offers _ _ ok.up (some _ 5 refl (omega arith)) (sym c.in-Some.ensures)

pub loop-key-smaller : goal.loop-key-smaller
loop-key-smaller g c = fewer place offer_bytes _ _ _ (after g c)

pub loop-key-preserved : goal.loop-key-preserved
loop-key-preserved g c = λ m k.
    let bk = (g.B.OfferBook.book c.args.book.now) in
    let ok = book_parts bk (g.met.B.OfferBook.sound c.args.book.now) in
    let n = after g c in
    let o = n.entry in
    let key : c.in-Some.key ≡ o.key = sym (key_is o.key c.in-Some.key n.is) in
    let amount : c.amount.result ≡ o.amount =
    c.amount.ensures ∙ ap (under place (λ p. p.amount) bk.offers) (sym n.is) ∙ all-has _ bk.offers o (under_each place (λ p. p.amount) bk.offers ok.up) n.has in
    let bytes : key_bytes c.in-Some.key ++ bytes_of 8 c.amount.result ≡ offer_bytes o = ap₂ (λ j v. key_bytes j ++ bytes_of 8 v) key amount in
    let before = c.loop-key.invariant m k in (
      before.0 ++ offer_bytes o,
      subst (λ z. Holds c.add_offer.new.hasher (before.0 ++ z)) bytes (c.add_offer.ensures before.0 before.1),
      moved place offer_bytes bk.offers _ _ before.0 _ n before.2,
    )

pub returns : goal.returns
returns g c = λ m k.
    let bk = (g.B.OfferBook.book c.args.book.now) in
    let none = rest_end place bk.offers (words c.loop-key.at) (All-weaker _ _ (λ o _. some _ 5 refl (omega arith)) bk.offers (book_parts bk (g.met.B.OfferBook.sound c.args.book.now)).fit) (sym c.in_default.ensures) in
    let before = c.loop-key.invariant m k in
    subst (Holds c.loop-key.hasher) (ended place offer_bytes bk.offers (words c.loop-key.at) before.0 _ none before.2) before.1
