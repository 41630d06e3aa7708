use Rattle.trie.proofs.node.+remove.Given as goal

abbrev pub decreases-remove : goal.decreases-remove
decreases-remove l = l.bits
