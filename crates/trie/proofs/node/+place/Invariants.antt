use Rattle.trie.proofs.node.+place.Given as goal

abbrev pub decreases-place : goal.decreases-place
decreases-place l = l.bits
