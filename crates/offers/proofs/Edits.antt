-- An offer book in order, once an offer is put in, written over or taken out: the change that the interface names.
-- Assumes nothing.
use Rattle.std.proofs.Common.{◌≡◌, ℕ, ◌+◌, ◌<◌, true, false, cond, ◌&&◌, eqb, List, length, get_or, set, sym, refl, ap, ◌∙◌, subst, arith}
use Rattle.std.specs.List.{insert, remove}
use Rattle.std.proofs.lemmas.List.{length-set}
use Rattle.std.proofs.lemmas.List.Edits.{length-insert, length-remove}
use Rattle.std.proofs.ByRecursion.{All-get_or, All-set}
use Rattle.std.proofs.lemmas.Bool.{and_parts, and_from, ne_eqb, cond-false}
use Rattle.terms.specs.declared.Key.{Key}
use Rattle.terms.specs.declared.Offer.{Offer}
use Rattle.terms.specs.Order.{place, words, same}
use Rattle.terms.specs.Ranges.{fit_key, is_amount, fit_offer}
use Rattle.terms.specs.Holdings.{Book, amount_at, sound_book}
use Rattle.ordered.specs.Places.{Gap}
use Rattle.ordered.proofs.Rising.{all_inserted, all_removed, rising_inserted, rising_removed, rising_set, under_inserted, under_set, under_removed}
use Rattle.offers.specs.Changes.{Placed, Reduced}
use Rattle.offers.proofs.Sound.{SoundBook, book_from, amount_parts}

pub book_is : (b c : Book) → c.capacity ≡ b.capacity → c.offers ≡ b.offers → c ≡ b
book_is b c p q = λ i. record { capacity = p i; offers = q i }

abbrev pub with_offers : Book → List Offer → Book
with_offers b os = record { capacity = b.capacity; offers = os }

pub placed : (b : Book) (k : Key) (v i : ℕ) → SoundBook b → (fit_key k && is_amount v) ≡ true → Gap place b.offers (words k) i → length b.offers < b.capacity
    → Placed b k v (with_offers b (insert b.offers i (record { key = k; amount = v })))
    × (sound_book (with_offers b (insert b.offers i (record { key = k; amount = v }))) ≡ true)
placed b k v i ok fit gap room =
    let o : Offer = record { key = k; amount = v } in
    let count : length (insert b.offers i o) ≡ length b.offers + 1 = length-insert b.offers i o gap.within in (
      record { capacity = refl; count = count; amounts = λ j. under_inserted place (λ p. p.amount) b.offers i o gap (words j) },
      book_from (with_offers b (insert b.offers i o)) (record {
        up = rising_inserted place b.offers i o ok.up gap;
        fit = all_inserted (λ p. fit_offer p ≡ true) b.offers i o fit ok.fit;
        few = omega arith;
        small = ok.small;
      }),
    )

pub shrunk : (b : Book) (k : Key) (v i : ℕ) (d : Offer) → SoundBook b → i < length b.offers → (get_or b.offers i d).key ≡ k → is_amount v ≡ true
    → Reduced b k v (with_offers b (set b.offers i (record { key = k; amount = v })))
    × (sound_book (with_offers b (set b.offers i (record { key = k; amount = v }))) ≡ true)
shrunk b k v i d ok lt ke fit =
    let o : Offer = record { key = k; amount = v } in
    let old = and_parts (fit_key (get_or b.offers i d).key) _ (All-get_or (λ p. fit_offer p ≡ true) b.offers i d lt ok.fit) in
    let kf : fit_key k ≡ true = subst (λ j. fit_key j ≡ true) ke old.0 in
    let pos : eqb v 0 ≡ false = ne_eqb v 0 (λ z. omega (arith, amount_parts v fit)) in (
      record {
        capacity = refl;
        count = omega (arith, length-set b.offers i o, cond-false {A = ℕ} (eqb v 0) 1 0 pos);
        amounts = λ j. under_set place (λ p. p.amount) b.offers i o d ok.up lt (ap words (sym ke)) (words j);
      },
      book_from (with_offers b (set b.offers i o)) (record {
        up = rising_set place b.offers i o d lt (ap words (sym ke)) ok.up;
        fit = All-set (λ p. fit_offer p ≡ true) b.offers i o (and_from _ _ kf fit) ok.fit;
        few = omega (arith, length-set b.offers i o, ok.few);
        small = ok.small;
      }),
    )

pub taken : (b : Book) (k : Key) (i : ℕ) (d : Offer) → SoundBook b → i < length b.offers → (get_or b.offers i d).key ≡ k
    → Reduced b k 0 (with_offers b (remove b.offers i))
    × (sound_book (with_offers b (remove b.offers i)) ≡ true)
taken b k i d ok lt ke =
    let len = length-remove b.offers i lt in (
      record {
        capacity = refl;
        count = len;
        amounts = λ j. under_removed place (λ p. p.amount) b.offers i d ok.up lt (words j)
            ∙ ap (λ l. cond (same (words j) l) 0 (amount_at b.offers j)) (ap words ke);
      },
      book_from (with_offers b (remove b.offers i)) (record {
        up = rising_removed place b.offers i ok.up;
        fit = all_removed (λ p. fit_offer p ≡ true) b.offers i ok.fit;
        few = omega (arith, len, ok.few);
        small = ok.small;
      }),
    )
