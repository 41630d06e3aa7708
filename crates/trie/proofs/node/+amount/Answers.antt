use Rattle.std.proofs.Common.{sym, ◌∙◌}
use Rattle.trie.proofs.Sides.{sides}
use Rattle.trie.proofs.node.+amount.Goals as goal

pub returns-then-key-split : goal.returns-then-key-split
returns-then-key-split t c =
    let s = sides c.in-Branch.is c.requires in
    let read = rw c.deref.ensures at c.amount.ensures in
    read ∙ sym (s.at_left c.args.key c.if-key-split.true)

pub returns-else-key-split : goal.returns-else-key-split
returns-else-key-split t c =
    let s = sides c.in-Branch.is c.requires in
    let read = rw c.deref-else-key-split.ensures at c.amount-else-key-split.ensures in
    read ∙ sym (s.at_right c.args.key c.if-key-split.false)
