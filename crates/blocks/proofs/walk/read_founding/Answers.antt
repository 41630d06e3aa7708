use Rattle.std.proofs.Common.{◌≡◌, ℕ, List, [], ◌∷◌, ◌++◌, Ok, Some, sym, ap, ◌∙◌, subst, inr, arith, Bor}
use Rattle.std.proofs.lemmas.Result.{err_from_is_err_and}
use Rattle.terms.specs.declared.Grant.{Grant}
use Rattle.commands.specs.declared.command.Command.{Command}
use Rattle.commands.specs.declared.command.Command.TheVariants.{Found}
use Rattle.commands.specs.Format.{found, balances}
use Rattle.commands.specs.Shown.{shown}
use Rattle.commands.proofs.Cuts.{whole_moves}
use Rattle.blocks.specs.declared.stage.Stage.TheVariants.{Grants}
use Rattle.blocks.specs.Stages.{admits, Next}
use Rattle.blocks.specs.Readable.{is_grant}
use Rattle.blocks.proofs.Walking.{Took, Gathered, next_stops, next_took, gathered_more, grant_fits, grant_only, founds}
use Rattle.blocks.proofs.Fitting.{founds_fits}
use Rattle.blocks.proofs.walk.read_founding.Goals as goal

pub returns-in_err-reading : goal.returns-in_err-reading
returns-in_err-reading c =
    let p = err_from_is_err_and c.from_residual.result c.from_residual.ensures.1 in
    let i = c.loop-reading.invariant in
    rw (p.1, p.2)
    (inr (i.0, next_stops is_grant c.args.bytes.now i.1 c.loop-reading.at Grants i.2.reached c.in_err-reading.field-0.0 c.in_err-reading.ensures))

pub unreachable-requires : goal.unreachable-requires
unreachable-requires c =
    let bs = c.args.bytes.now in
    let at = c.loop-reading.at in
    let r = c.in-Some.reading in
    let next : Next (admits Grants) bs at (Ok (Some r)) = subst (λ o. Next (admits Grants) bs at (Ok o)) c.in-Some.is c.in_ok-reading.ensures in
    grant_only r.command (next_took bs at (admits Grants) r next).admitted next.1 c.in_default-command.not-Found

-- the grant that a step took
grant : (bs : List ℕ) (at : ℕ) (x : Command) (n a : ℕ) (b : Bor (List ℕ)) (r : List ℕ) → Took bs at (admits Grants) (shown x) n
    → x ≡ Found a b → r ≡ balances b.now 0 → Took bs at (admits Grants) (found (record { account = a; balances = r })) n
grant bs at x n a b r t is eq =
    let same : shown x ≡ found (record { account = a; balances = r }) =
    ap shown is ∙ (λ i. found (record { account = a; balances = sym eq i })) in
    subst (λ y. Took bs at (admits Grants) y n) same t

pub push-requires : goal.push-requires
push-requires c =
    let bs = c.args.bytes.now in
    let at = c.loop-reading.at in
    let i = c.loop-reading.invariant in
    let r = c.in-Some.reading in
    let took = next_took bs at (admits Grants) r (subst (λ o. Next (admits Grants) bs at (Ok o)) c.in-Some.is c.in_ok-reading.ensures) in
    let t = grant bs at r.command r.next _ _ _ took c.in-Found.is c.eight_balances.ensures in
    (omega arith, grant_fits bs i.1 at c.loop-reading.grants.items i.2 _ _ t i.0)

pub loop-reading-smaller : goal.loop-reading-smaller
loop-reading-smaller c =
    let bs = c.args.bytes.now in
    let at = c.loop-reading.at in
    let t = next_took bs at (admits Grants) c.in-Some.reading (subst (λ o. Next (admits Grants) bs at (Ok o)) c.in-Some.is c.in_ok-reading.ensures) in
    let m = whole_moves bs at t.here in
    let e = t.then in
    omega (arith, m.0, m.1, e)

pub loop-reading-preserved : goal.loop-reading-preserved
loop-reading-preserved c =
    let bs = c.args.bytes.now in
    let at = c.loop-reading.at in
    let gs = c.loop-reading.grants.items in
    let i = c.loop-reading.invariant in
    let r = c.in-Some.reading in
    let took = next_took bs at (admits Grants) r (subst (λ o. Next (admits Grants) bs at (Ok o)) c.in-Some.is c.in_ok-reading.ensures) in
    let t = grant bs at r.command r.next _ _ _ took c.in-Found.is c.eight_balances.ensures in
    let g : Grant = record { account = c.in-Found.account; balances = c.eight_balances.result } in
    let cs = i.1 ++ found g ∷ [] in
    (i.0, cs, subst (Gathered bs cs r.next) (sym c.push.ensures.items) (gathered_more bs i.1 at gs i.2 g r.next t i.0))

pub invariant_of-result : goal.invariant_of-result
invariant_of-result c =
    let bs = c.args.bytes.now in
    let at = c.loop-reading.at in
    let gs = c.loop-reading.grants.items in
    let i = c.loop-reading.invariant in
    let ended = subst (λ o. Next (admits Grants) bs at (Ok o)) c.in_default.is c.in_ok-reading.ensures in
    record { ranges = founds_fits bs gs (founds bs i.1 at gs i.2 ended i.0) }

pub returns : goal.returns
returns c =
    let bs = c.args.bytes.now in
    let at = c.loop-reading.at in
    let i = c.loop-reading.invariant in
    let ended = subst (λ o. Next (admits Grants) bs at (Ok o)) c.in_default.is c.in_ok-reading.ensures in
    founds bs i.1 at c.loop-reading.grants.items i.2 ended i.0
