use Rattle.std.proofs.Common.{arith}
use Rattle.trie.proofs.Sides.{spliced_left, spliced_right}
use Rattle.trie.proofs.node.splice.Goals as goal

pub returns-then-key-split : goal.returns-then-key-split
returns-then-key-split c =
    rw c.swap.ensures.x_after (spliced_left c.args.bits c.args.bit c.args.split _ c.args.key c.args.amount c.args.node.now c.args.spare.leaf c.args.spare.fork c.requires.ok c.requires.falls c.requires.middle c.requires.parted c.requires.some (omega (arith, c.all.ensures)) c.if-key-split.true)

pub returns-else-key-split : goal.returns-else-key-split
returns-else-key-split c =
    rw c.swap.ensures.x_after (spliced_right c.args.bits c.args.bit c.args.split _ c.args.key c.args.amount c.args.node.now c.args.spare.leaf c.args.spare.fork c.requires.ok c.requires.falls c.requires.middle c.requires.parted c.requires.some (omega (arith, c.all.ensures)) c.if-key-split.false)
