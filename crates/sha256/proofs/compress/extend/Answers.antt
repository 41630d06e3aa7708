use Rattle.std.proofs.Common.{◌≡◌, ◌+◌, ◌-◌, ◌<◌, ◌≤◌, length, get_or, take, set, sym, ap, ◌∙◌, arith}
use Rattle.std.proofs.lemmas.List.{length-set}
use Rattle.sha256.specs.Functions.{plus, small_sigma1}
use Rattle.sha256.specs.Compression.{schedule}
use Rattle.sha256.proofs.Schedule.{one_word}
use Rattle.sha256.proofs.compress.extend.Goals as goal

pub loop-t-init : goal.loop-t-init
loop-t-init c =
    let n = c.args.n in
    let e : n ≡ n + 16 - 16 = omega arith in
    (c.told-w, λ first f. f ∙ ap (λ k. schedule k first) e)

pub loop-t-preserved : goal.loop-t-preserved
loop-t-preserved c =
    let w = c.loop-t.w in
    let t = c.loop-t.t in
    let low : 16 ≤ t = omega (arith, c.loop-t.auto.t) in
    let high : t < length w = omega (arith, c.loop-t.invariant.0) in (
      length-set _ _ _ ∙ c.loop-t.invariant.0,
      λ first f.
          ap (λ (x : _). take (t + 1) (set w t x))
          (ap (λ y. plus (plus (plus y (get_or w (t - 7) 0)) c.small_sigma0.result) (get_or w (t - 16) 0)) c.small_sigma1.ensures
          ∙ ap (λ y. plus (plus (plus (small_sigma1 (get_or w (t - 2) 0)) (get_or w (t - 7) 0)) y) (get_or w (t - 16) 0)) c.small_sigma0.ensures)
          ∙ one_word w first t low high (c.loop-t.invariant.1 first f),
    )

pub returns : goal.returns
returns c first f =
    let n = c.args.n in
    let t : c.loop-t.t ≡ n + 24 = omega (arith, c.loop-t.auto.t-end) in
    let k : n + 24 - 16 ≡ n + 8 = omega arith in
    ap (λ j. take j c.loop-t.w) (sym t)
    ∙ (c.loop-t.invariant.1 first f ∙ (ap (λ j. schedule (j - 16) first) t ∙ ap (λ j. schedule j first) k))
