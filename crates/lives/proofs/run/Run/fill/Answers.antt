use Rattle.std.proofs.Common.{◌≡◌, Ok, Err, Some, None, get_or, rules}
use Rattle.lives.proofs.Stepping.{fill_step}
use Rattle.lives.proofs.run.Run.fill.Goals as goal

pub returns-in-Ok : goal.returns-in-Ok
returns-in-Ok g c = λ gs.
    let held : get_or c.args.self.now.held.items c.args.block None ≡ Some c.in-Some-Some.checked = search rules in
    fill_step _ c.args.self.now.replica _ c.args.self.now.held.items gs _ c.args.block held c.args.key (Ok (c.in-Ok.sold, c.in-Ok.paid)) c.in-Ok.ensures

pub returns-in-Err : goal.returns-in-Err
returns-in-Err g c = λ gs.
    let held : get_or c.args.self.now.held.items c.args.block None ≡ Some c.in-Some-Some.checked = search rules in
    fill_step _ c.args.self.now.replica _ c.args.self.now.held.items gs _ c.args.block held c.args.key (Err c.in-Err.fault) c.in-Err.ensures
