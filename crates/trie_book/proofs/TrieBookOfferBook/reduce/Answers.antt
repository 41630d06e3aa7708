use Rattle.std.proofs.Common.{arith}
use Rattle.offers.proofs.Replies.{reduce_made}
use Rattle.trie_book.specs.Codes.{book_of}
use Rattle.trie_book.proofs.Flats.{stands_bits, reduces}
use Rattle.trie_book.proofs.TrieBookOfferBook.reduce.Goals as goal

pub code-requires : goal.code-requires
code-requires c =
    let t = c.args.self.now.trie in
    let b = stands_bits t.root t.ok c.args.key (omega (arith, c.amount-old.ensures)) in
    (b.sells, b.buys)

pub invariant_of-self : goal.invariant_of-self
invariant_of-self c =
    let s = c.args.self.now in
    let t = s.trie in
    let u = c.reduce.new.self in
    let e = c.reduce.ensures in
    let o = reduces t.capacity u.capacity t.root u.root c.args.key c.args.units c.code.result c.reduce.result t.ok u.ok s.sound (omega (arith, u.few, u.counted, e.capacity))
    c.code.ensures.value e.capacity e.holds e.done e.count (omega (arith, c.amount-old.ensures)) (omega (arith, c.amount-old.ensures)) in
    record { sound = o.1 }

pub returns : goal.returns
returns c =
    let s = c.args.self.now in
    let t = s.trie in
    let u = c.reduce.new.self in
    let e = c.reduce.ensures in
    let o = reduces t.capacity u.capacity t.root u.root c.args.key c.args.units c.code.result c.reduce.result t.ok u.ok s.sound (omega (arith, u.few, u.counted, e.capacity))
    c.code.ensures.value e.capacity e.holds e.done e.count (omega (arith, c.amount-old.ensures)) (omega (arith, c.amount-old.ensures)) in
    record { answer = reduce_made (book_of t.capacity t.root) c.args.key c.args.units (omega (arith, c.amount-old.ensures)) (omega (arith, c.amount-old.ensures)); after = o.0 }
