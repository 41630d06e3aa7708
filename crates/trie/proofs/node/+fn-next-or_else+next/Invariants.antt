use Rattle.std.proofs.Common.{◌+◌}
use Rattle.trie.proofs.node.+fn-next-or_else+next.Given as goal

-- next is called on a side by next, or by the closure that next makes
abbrev pub decreases-or_else : goal.decreases-or_else
decreases-or_else l = l.bit.now + l.bit.now + 1

abbrev pub decreases-next : goal.decreases-next
decreases-next l = l.bits + l.bits
