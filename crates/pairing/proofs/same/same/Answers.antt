use Rattle.std.proofs.Common.{sym, inl, inr, true≢false}
use Rattle.std.proofs.lemmas.Bool.{both_ways}
use Rattle.std.proofs.lemmas.Bool.Decides.{Decides-eqb}
use Rattle.std.proofs.lemmas.Slice.Eq.{slice_eq-Decides}
use Rattle.pairing.proofs.same.same.Goals as goal

pub returns-in_default : goal.returns-in_default
returns-in_default g c =
    let bs = c.args.first.now in
    let cs = c.args.second.now in
    let equal = slice_eq-Decides Decides-eqb bs cs c.eq.result c.eq.ensures in (
      λ e. absurd (true≢false (sym e)),
      λ a. absurd (both_ways c.eq.result c.if-eq.false (equal.1 (g.met.M.Message.unread bs cs c.in_default.field-0 (inl c.in_default.ensures) a))),
    )

pub returns-in_default-read : goal.returns-in_default-read
returns-in_default-read g c =
    let bs = c.args.first.now in
    let cs = c.args.second.now in
    let equal = slice_eq-Decides Decides-eqb bs cs c.eq.result c.eq.ensures in (
      λ e. absurd (true≢false (sym e)),
      λ a. absurd (both_ways c.eq.result c.if-eq.false (equal.1 (g.met.M.Message.unread bs cs c.in_default-read.field-0 (inr c.in_default-read.ensures) a))),
    )
