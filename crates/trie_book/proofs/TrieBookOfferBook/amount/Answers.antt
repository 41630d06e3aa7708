use Rattle.std.proofs.Common.{sym, ap, ◌∙◌, inl, inr, arith}
use Rattle.trie.specs.Trie.{held}
use Rattle.trie_book.specs.Codes.{Bits}
use Rattle.trie_book.proofs.Flats.{whole_in, amount_held, amount_out}
use Rattle.trie_book.proofs.TrieBookOfferBook.amount.Goals as goal

pub returns-then-key-gt7 : goal.returns-then-key-gt7
returns-then-key-gt7 c =
    let t = c.args.self.now.trie in
    sym (amount_out t.root (whole_in t.root t.ok) c.args.key (λ b. elim c.then-key-gt7.either [ inl a ↦ omega (arith, b.sells, a) | inr a ↦ omega (arith, b.buys, a.1) ]))

pub returns : goal.returns
returns c =
    let t = c.args.self.now.trie in
    let b : Bits c.args.key = record { sells = omega arith; buys = omega arith; limit = omega arith; account = omega arith; sequence = omega arith } in
    c.amount.ensures ∙ ap (held t.root) c.code.ensures.value ∙ sym (amount_held t.root (whole_in t.root t.ok) c.args.key b)
