use Rattle.std.proofs.Common.{◌≡◌, ◌+◌, ◌*◌, length, take}
use Rattle.sha256.specs.Padding.{words_of}
use Rattle.sha256.specs.Compression.{schedule, rounds_of}
use Rattle.sha256.proofs.compress.rounds.Given as goal

abbrev pub invariant-loop-i : goal.invariant-loop-i
invariant-loop-i l =
    (length l.w ≡ 64)
    × (take (8 * l.i + 16) l.w ≡ schedule (8 * l.i) (words_of 16 l.block))
    × (l.s ≡ rounds_of (8 * l.i) (schedule 48 (words_of 16 l.block)) l.initial.s)
