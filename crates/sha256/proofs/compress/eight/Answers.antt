use Rattle.std.proofs.Common.{◌≡◌, ◌+◌, sym, ap, ◌∙◌, add-zero, arith}
use Rattle.sha256.specs.Compression.{rounds_of}
use Rattle.sha256.proofs.Schedule.{one_round, same_word}
use Rattle.sha256.proofs.compress.eight.Goals as goal

pub loop-i-init : goal.loop-i-init
loop-i-init c start all e f = f ∙ ap (λ k. rounds_of k all start) (sym (add-zero c.args.t))

pub loop-i-preserved : goal.loop-i-preserved
loop-i-preserved c start all e f =
    let t = c.args.t in
    let w = c.args.w.now in
    let i = c.loop-i.i in
    one_round t i w all start _ _ (same_word (t + 8) (t + i) w all (omega arith) e) (c.loop-i.invariant start all e f) c.step-s.ensures

pub returns : goal.returns
returns c start all e f =
    let i : c.loop-i.i ≡ 8 = omega arith in
    c.loop-i.invariant start all e f ∙ ap (λ k. rounds_of (c.args.t + k) all start) i
