use Rattle.std.proofs.Common.{◌≡◌, length, take}
use Rattle.sha256.specs.Padding.{words_of}
use Rattle.sha256.proofs.compress.load.Given as goal

abbrev pub invariant-loop-t : goal.invariant-loop-t
invariant-loop-t l = (length l.w ≡ 64) × (take l.t l.w ≡ words_of l.t l.block)
