use Rattle.std.proofs.Common.{◌≡◌, ◌+◌, ◌*◌, ap, ◌∙◌, subst, arith}
use Rattle.sha256.specs.Digest.{sha256}
use Rattle.sha256.specs.Streaming.{Holds}
use Rattle.vectors.specs.Letters.{letters}
use Rattle.vectors.proofs.Pieces.{letters_more, letters_none}
use Rattle.vectors.proofs.million.Goals as goal

pub loop-i-init : goal.loop-i-init
loop-i-init c = subst (Holds c.new-hasher.result) letters_none c.new-hasher.ensures

pub loop-i-preserved : goal.loop-i-preserved
loop-i-preserved c =
    let i = c.loop-i._i in
    let n : 999 * i + 999 ≡ 999 * (i + 1) = omega arith in
    subst (Holds c.update.new.self) (letters_more (999 * i) 999 ∙ ap letters n)
    (c.update.ensures (letters (999 * i)) c.loop-i.invariant)

pub returns : goal.returns
returns c =
    let i = c.loop-i._i in
    let n : 999 * i + 1 ≡ 1000000 = omega arith in
    c.finish.ensures.digest _ (c.update-2.ensures (letters (999 * i)) c.loop-i.invariant)
    ∙ ap sha256 (letters_more (999 * i) 1 ∙ ap letters n)
