use Rattle.trie.proofs.node.+sum_under.Given as goal

abbrev pub decreases-sum_under : goal.decreases-sum_under
decreases-sum_under l = l.bits
