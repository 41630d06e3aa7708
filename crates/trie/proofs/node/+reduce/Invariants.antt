use Rattle.trie.proofs.node.+reduce.Given as goal

abbrev pub decreases-reduce : goal.decreases-reduce
decreases-reduce l = l.bits
