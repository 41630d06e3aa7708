use Rattle.std.proofs.Common.{arith}
use Rattle.trie.proofs.Sides.{of_whole, some_offers, total_max}
use Rattle.trie.proofs.Trie.below.Goals as goal

pub sum_under-requires : goal.sum_under-requires
sum_under-requires c =
    let s = c.args.self.now in
    let o = of_whole s.root s.ok (some_offers s.root s.ok c.in_default.not-Idle) in
    record { ok = o.0; fits = omega (arith, total_max s.root 102 o.0) }
