use Rattle.std.proofs.Common.{sym, refl, arith}
use Rattle.trie_book.proofs.Flats.{sold_sum, sold_out}
use Rattle.trie_book.proofs.TrieBookOfferBook.offered.Goals as goal

pub returns-then-sold-gt7 : goal.returns-then-sold-gt7
returns-then-sold-gt7 c = let t = c.args.self.now.trie in sym (sold_out t.capacity t.root c.args.sold t.ok (omega arith))

pub overflow_sub-result : goal.overflow_sub-result
overflow_sub-result c =
    let t = c.args.self.now.trie in
    omega (arith, c.below.ensures, c.below-2.ensures, sold_sum t.capacity t.root c.args.sold c.code-low.result _ t.ok (omega (arith, c.code-low.ensures.value)) refl)

pub returns : goal.returns
returns c =
    let t = c.args.self.now.trie in
    omega (arith, c.below.ensures, c.below-2.ensures, sold_sum t.capacity t.root c.args.sold c.code-low.result _ t.ok (omega (arith, c.code-low.ensures.value)) refl)
