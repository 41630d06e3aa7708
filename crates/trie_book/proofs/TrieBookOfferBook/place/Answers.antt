use Rattle.std.proofs.Common.{Err, sym, refl, ap, ◌∙◌, arith}
use Rattle.std.proofs.lemmas.Bool.{and_parts}
use Rattle.terms.specs.Ranges.{fit_key, is_amount}
use Rattle.offers.proofs.Replies.{place_stands, place_full, place_out, place_made}
use Rattle.trie_book.specs.Codes.{book_of}
use Rattle.trie_book.proofs.Flats.{count_flat, key_bits, places}
use Rattle.trie_book.proofs.TrieBookOfferBook.place.Goals as goal

pub returns-then-amount-gt0 : goal.returns-then-amount-gt0
returns-then-amount-gt0 c =
    let t = c.args.self.now.trie in
    record { answer = ap Err c.into.ensures ∙ place_stands (book_of t.capacity t.root) c.args.key c.args.units (omega (arith, c.amount.ensures)); after = refl }

pub returns-then-count-capacity : goal.returns-then-count-capacity
returns-then-count-capacity c =
    let t = c.args.self.now.trie in
    record { answer = ap Err c.into-then-count-capacity.ensures ∙ place_full (book_of t.capacity t.root) c.args.key c.args.units (omega (arith, c.amount.ensures)) (omega arith); after = refl }

pub returns-then-not-in_range : goal.returns-then-not-in_range
returns-then-not-in_range c =
    let t = c.args.self.now.trie in
    record { answer = ap Err c.into-then-not-in_range.ensures ∙ place_out (book_of t.capacity t.root) c.args.key c.args.units (omega (arith, c.amount.ensures)) (omega arith) (sym c.in_range.ensures ∙ c.if-not-in_range.true); after = refl }

pub code-requires : goal.code-requires
code-requires c =
    let b = key_bits c.args.key (and_parts (fit_key c.args.key) (is_amount c.args.units) (sym c.in_range.ensures ∙ c.if-not-in_range.false)).0 in
    (b.sells, b.buys)

pub invariant_of-self : goal.invariant_of-self
invariant_of-self c =
    let s = c.args.self.now in
    let t = s.trie in
    let u = c.place.new.self in
    let e = c.place.ensures in
    let o = places t.capacity u.capacity t.root u.root c.args.key c.args.units c.code.result c.place.result t.ok u.ok s.sound (omega (arith, u.few, u.counted, e.capacity))
    c.code.ensures.value e.capacity e.holds e.done e.count (sym c.in_range.ensures ∙ c.if-not-in_range.false) (omega (arith, c.amount.ensures)) (omega (arith, count_flat t.root)) in
    record { sound = o.1 }

pub returns : goal.returns
returns c =
    let s = c.args.self.now in
    let t = s.trie in
    let u = c.place.new.self in
    let e = c.place.ensures in
    let fit = sym c.in_range.ensures ∙ c.if-not-in_range.false in
    let o = places t.capacity u.capacity t.root u.root c.args.key c.args.units c.code.result c.place.result t.ok u.ok s.sound (omega (arith, u.few, u.counted, e.capacity))
    c.code.ensures.value e.capacity e.holds e.done e.count fit (omega (arith, c.amount.ensures)) (omega (arith, count_flat t.root)) in
    record { answer = place_made (book_of t.capacity t.root) c.args.key c.args.units (omega (arith, c.amount.ensures)) (omega arith) fit; after = o.0 }
