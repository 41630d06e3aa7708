use Rattle.trie.proofs.node.+amount.Given as goal

abbrev pub decreases-amount : goal.decreases-amount
decreases-amount l = l.bits
