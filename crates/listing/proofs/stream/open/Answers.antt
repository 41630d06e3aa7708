use Rattle.std.proofs.lemmas.Result.{err_from_is_err_and}
use Rattle.listing.proofs.Streaming.{opens, unopened}
use Rattle.listing.proofs.stream.open.Goals as goal

pub returns-in_err-found : goal.returns-in_err-found
returns-in_err-found g c =
    let p = err_from_is_err_and c.from_residual-in_err-found.result c.from_residual-in_err-found.ensures.1 in
    rw (p.1, p.2) (unopened _ _ _ _ _ _ c.in_ok-n.ensures c.split_at.ensures.front c.in_err-found.ensures)

pub returns : goal.returns
returns g c = opens _ _ _ _ _ _ c.in_ok-n.ensures c.split_at.ensures.front c.split_at.ensures.back c.in_ok-found.ensures
