use Rattle.std.proofs.Common.{ltb, sym, ap, ◌∙◌, arith}
use Rattle.trie_book.specs.Codes.{code, Bits}
use Rattle.trie_book.proofs.Digits.{lower_code}
use Rattle.trie_book.proofs.codes.start.Goals as goal

pub returns : goal.returns
returns c o b =
    let k : Bits c.args.key = record { sells = omega arith; buys = omega arith; limit = omega arith; account = omega arith; sequence = omega arith } in
    lower_code c.args.key o k b ∙ ap (λ n. ltb n (code o)) (sym c.code-2.ensures.value)
