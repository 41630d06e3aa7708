use Rattle.std.proofs.Common.{Ok, sym}
use Rattle.std.proofs.lemmas.Result.{err_from_is_err_and}
use Rattle.listing.proofs.Streaming.{committed, refused, never}
use Rattle.listing.proofs.stream.take_block.Goals as goal

pub returns-in_err-check : goal.returns-in_err-check
returns-in_err-check g c =
    let p = err_from_is_err_and c.from_residual.result c.from_residual.ensures.1 in
    rw (p.1, p.2) (refused _ _ _ _ c.in_err-check.ensures.call)

pub returns-in_err-commit : goal.returns-in_err-commit
returns-in_err-commit g c =
    let done = committed _ _ _ _ _ _ c.in_ok-check.ensures.holds c.in_ok-check.ensures.call c.in_err-commit.ensures in
    absurd (never tt _ (sym done.0))

pub returns : goal.returns
returns g c =
    let done = committed _ _ _ _ _ (Ok tt) c.in_ok-check.ensures.holds c.in_ok-check.ensures.call c.in_ok-commit.ensures in
    done.1 c.height.result c.height.ensures
