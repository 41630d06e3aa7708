use Rattle.std.proofs.Common.{◌≡◌, ℕ, ◌+◌, List, take}
use Rattle.sha256.specs.declared.compress.State.{State}
use Rattle.sha256.specs.Compression.{rounds_of}
use Rattle.sha256.proofs.compress.eight.Given as goal

abbrev pub invariant-loop-i : goal.invariant-loop-i
invariant-loop-i l =
    (start : State) (all : List ℕ) → take (l.t + 8) l.w ≡ take (l.t + 8) all → l.initial.s ≡ rounds_of l.t all start
    → l.s ≡ rounds_of (l.t + l.i) all start
