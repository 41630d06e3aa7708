use Rattle.std.proofs.lemmas.Result.{err_from_is_err_and}
use Rattle.listing.proofs.Streaming.{lists}
use Rattle.listing.proofs.stream.run.Goals as goal

pub returns-in_err-push-in-Ok : goal.returns-in_err-push-in-Ok
returns-in_err-push-in-Ok g c = let p = err_from_is_err_and c.from_residual.result c.from_residual.ensures.1 in rw p.1 tt

pub returns-in_err-take_blocks-in-Ok : goal.returns-in_err-take_blocks-in-Ok
returns-in_err-take_blocks-in-Ok g c = let p = err_from_is_err_and c.from_residual-in_err-take_blocks-in-Ok.result c.from_residual-in_err-take_blocks-in-Ok.ensures.1 in rw p.1 tt

pub returns-in_err-push_state-in-Ok : goal.returns-in_err-push_state-in-Ok
returns-in_err-push_state-in-Ok g c = let p = err_from_is_err_and c.from_residual-in_err-push_state-in-Ok.result c.from_residual-in_err-push_state-in-Ok.ensures.1 in rw p.1 tt

pub returns-in_err-push-in-Err : goal.returns-in_err-push-in-Err
returns-in_err-push-in-Err g c = let p = err_from_is_err_and c.from_residual-in_err-push-in-Err.result c.from_residual-in_err-push-in-Err.ensures.1 in rw p.1 tt

pub returns-in_ok-push_state-in-Ok : goal.returns-in_ok-push_state-in-Ok
returns-in_ok-push_state-in-Ok g c =
    lists _ _ _ _ _ _ _ _ _ _ c.in-Ok.ensures c.height.ensures c.new-lines.ensures.items c.in_ok-push-in-Ok.ensures.items c.in_ok-take_blocks-in-Ok.ensures
    c.in_ok-push_state-in-Ok.ensures
