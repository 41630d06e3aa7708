use Rattle.std.proofs.Common.{◌≡◌, ℕ, ◌<◌, rules, true, ltb, List, [], ◌∷◌, ◌++◌, map, length, vec_items, sym, refl, ap, ◌∙◌, subst, arith}
use Rattle.std.proofs.ByRecursion.{all-has, All-weaker}
use Rattle.std.proofs.lemmas.Bool.{and_parts, ltb-true}
use Rattle.terms.specs.declared.Offer.{Offer}
use Rattle.terms.specs.Order.{lower, place, words, under}
use Rattle.terms.specs.Ranges.{is_pair, is_number, is_word, is_amount, fit_key, fit_offer}
use Rattle.terms.proofs.Order.{key_is}
use Rattle.ordered.proofs.Rising.{under_each}
use Rattle.offers.proofs.Sound.{book_parts}
use Rattle.state_digest.proofs.Rests.{Next, above_zeros, rest_all, rest_end, rest_next}
use Rattle.listing.specs.declared.line.Line.TheVariants as line
use Rattle.listing.proofs.Adding.{moved, fewer, ended}
use Rattle.listing.proofs.standing.push_offers.Goals as goal

owned : (o : Offer) → fit_offer o ≡ true → 0 < o.key.account
owned o e =
    let k = o.key in
    let key = (and_parts (is_pair k.sold k.bought) _ (and_parts (fit_key k) (is_amount o.amount) e).0).1 in
    let account = (and_parts (is_number k.account) (is_word k.sequence) (and_parts (is_number k.limit) _ key).1).0 in
    ltb-true 0 k.account (and_parts (ltb 0 k.account) (is_word k.account) account).0

some : (k : List ℕ) (n : ℕ) → length k ≡ n → 0 < n → k ≡ [] → ⊥
some k n e h z = omega (arith, e, ap length z)

pub loop-key-init : goal.loop-key-init
loop-key-init g c =
    let bk = c.args.replica.now.book in
    let ok = book_parts bk c.requires in
    let zeros : words c.default-at.result ≡ 0 ∷ 0 ∷ 0 ∷ 0 ∷ 0 ∷ [] = search rules in
    let below = All-weaker _ _ (λ o e. subst (λ k. lower k (words o.key) ≡ true) (sym zeros) (above_zeros o.key (owned o e))) bk.offers ok.fit in
    ap (λ os. vec_items c.args.lines.now ++ map line.Offer os) (rest_all place bk.offers (words c.default-at.result) below)

-- the offer that the loop comes to
after : (g : _) (c : goal.In_ok-push g)
    → Next place c.args.replica.now.book.offers (words c.loop-key.at) (words c.in-Some.key)
after g c =
    let bk = c.args.replica.now.book in
    let ok = book_parts bk c.requires in
    rest_next place bk.offers _ _ ok.up (some _ 5 refl (omega arith)) (sym c.in-Some.ensures.value)

pub loop-key-smaller : goal.loop-key-smaller
loop-key-smaller g c = fewer place line.Offer _ _ _ (after g c)

pub loop-key-preserved : goal.loop-key-preserved
loop-key-preserved g c =
    let bk = c.args.replica.now.book in
    let ok = book_parts bk c.requires in
    let n = after g c in
    let o = n.entry in
    let key : c.in-Some.key ≡ o.key = sym (key_is o.key c.in-Some.key n.is) in
    let amount : c.amount-amount.result ≡ o.amount =
    c.amount-amount.ensures.value ∙ ap (under place (λ p. p.amount) bk.offers) (sym n.is) ∙ all-has _ bk.offers o (under_each place (λ p. p.amount) bk.offers ok.up) n.has in
    let is : record { key = c.in-Some.key; amount = c.amount-amount.result } ≡ o = λ i. record { key = key i; amount = amount i } in
    let items = c.in_ok-push.ensures.items ∙ ap (λ p. vec_items c.loop-key.lines ++ line.Offer p ∷ []) is in
    moved place line.Offer bk.offers (words c.loop-key.at) (words c.in-Some.key) _ _ _ n items c.loop-key.invariant

pub returns : goal.returns
returns g c =
    let bk = c.args.replica.now.book in
    let none = rest_end place bk.offers (words c.loop-key.at) (All-weaker _ _ (λ o _. some _ 5 refl (omega arith)) bk.offers (book_parts bk c.requires).fit) (sym c.in_default.ensures.value) in
    ended place line.Offer bk.offers (words c.loop-key.at) _ _ none c.loop-key.invariant
