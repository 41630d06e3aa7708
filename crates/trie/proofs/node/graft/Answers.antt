use Rattle.std.proofs.Common.{◌*◌, ◌/◌, ◌%◌, ◌^◌, ◌<◌, mod-eq_of_lt, arith}
use Rattle.trie.proofs.Numbers.{block}
use Rattle.trie.proofs.Sides.{grafted}
use Rattle.trie.proofs.node.graft.Goals as goal

pub splice-requires : goal.splice-requires
splice-requires c =
    let r = c.parting-bit.result in
    let e = c.parting-bit.ensures in
    let hung = c.requires.hangs r e.above e.here in
    let top = c.max-top.result in
    let lt : top / 2 ^ r * 2 ^ r < 2 ^ 128 = omega (arith, block c.max-top.result r, c.max-top.ensures, c.ranges.base.fits, c.ranges.key.fits) in
    let g = grafted r c.args.base c.args.key top ((top / 2 ^ r * 2 ^ r) % 2 ^ 128) c.args.node.now (mod-eq_of_lt lt) c.max-top.ensures e.above e.here hung.1 in
    record { ok = hung.0; falls = e.falls; middle = g.0; parted = g.1; room = c.requires.room; some = c.requires.some }
