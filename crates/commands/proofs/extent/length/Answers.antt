use Rattle.std.proofs.Common.{◌≡◌, [], ◌∷◌, ◌++◌, refl, ◌∙◌, subst, rules, arith}
use Rattle.std.proofs.lemmas.Result.{err_from_is_err_and}
use Rattle.commands.specs.Format.{command_at}
use Rattle.commands.specs.Extent.{Stand}
use Rattle.commands.specs.Kinds.{letter_of}
use Rattle.commands.specs.declared.kind.Kind.{Kind}
use Rattle.commands.specs.declared.kind.Kind.TheVariants.{Begin, Price, Volume, Create, Pay, Place, Cancel, Found, End}
use Rattle.commands.proofs.Cuts.{skip_upto, end_letter, stand_push, unended_push, endless}
use Rattle.commands.proofs.extent.length.Goals as goal

-- only the end has the letter E
other : (k : Kind) → (k ≡ End → ⊥) → letter_of k ≡ 69 → ⊥
other Begin n e = omega arith
other Price n e = omega arith
other Volume n e = omega arith
other Create n e = omega arith
other Pay n e = omega arith
other Place n e = omega arith
other Cancel n e = omega arith
other Found n e = omega arith
other End n e = n refl

pub returns-in_err-kind : goal.returns-in_err-kind
returns-in_err-kind c =
    let p = err_from_is_err_and c.from_residual.result c.from_residual.ensures.1 in
    let i = c.loop-kind.invariant in
    rw (p.1, p.2)
    (endless c.args.bytes.now c.loop-kind.at c.in_err-kind.field-0.0 i.0 i.1 i.2 c.in_err-kind.ensures.place)

pub loop-kind-preserved : goal.loop-kind-preserved
loop-kind-preserved c =
    let bs = c.args.bytes.now in
    let at = c.loop-kind.at in
    let i = c.loop-kind.invariant in
    let q = skip_upto bs at _ c.in_ok-kind.ensures.place in
    let d = command_at bs at in
    let s = stand_push bs 0 i.0 at d i.1 q.0 refl in
    (i.0 ++ d ∷ [], subst (λ n. Stand bs 0 (i.0 ++ d ∷ []) n) q.1 s, unended_push i.0 d i.2 (end_letter bs at q.0 (λ e. other c.in_ok-kind.kind (search rules) (c.in_ok-kind.ensures.kind ∙ e))))
