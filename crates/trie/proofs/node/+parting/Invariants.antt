use Rattle.trie.proofs.node.+parting.Given as goal

abbrev pub decreases-parting : goal.decreases-parting
decreases-parting l = l.bits
