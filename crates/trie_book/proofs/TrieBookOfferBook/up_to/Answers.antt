use Rattle.std.proofs.Common.{◌+◌, sym, inl, inr, arith}
use Rattle.trie_book.proofs.Flats.{reach_sum, reach_out}
use Rattle.trie_book.proofs.TrieBookOfferBook.up_to.Goals as goal

pub returns-then-sold-gt7 : goal.returns-then-sold-gt7
returns-then-sold-gt7 c =
    let t = c.args.self.now.trie in
    sym (reach_out t.capacity t.root c.args.sold c.args.bought c.args.limit t.ok (elim c.then-sold-gt7.either [ inl a ↦ inl (omega arith) | inr a ↦ inr (omega (arith, a.1)) ]))

pub overflow_sub-result : goal.overflow_sub-result
overflow_sub-result c =
    let t = c.args.self.now.trie in
    omega (arith, c.below.ensures, c.below-2.ensures, reach_sum t.capacity t.root c.args.sold c.args.bought c.args.limit c.code-low.result (c.code-high.result + 1) t.ok (omega arith) (omega arith) (omega arith) (omega (arith, c.code-low.ensures.value)) (omega (arith, c.code-low.ensures.value, c.code-high.ensures.value)))

pub returns : goal.returns
returns c =
    let t = c.args.self.now.trie in
    omega (arith, c.below.ensures, c.below-2.ensures, reach_sum t.capacity t.root c.args.sold c.args.bought c.args.limit c.code-low.result (c.code-high.result + 1) t.ok (omega arith) (omega arith) (omega arith) (omega (arith, c.code-low.ensures.value)) (omega (arith, c.code-low.ensures.value, c.code-high.ensures.value)))
