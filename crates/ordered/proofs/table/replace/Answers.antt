use Rattle.ordered.proofs.table.replace.Goals as goal
use Rattle.ordered.proofs.Shift.{put_is}

pub returns-clause-records : goal.returns-clause-records
returns-clause-records g c = put_is c.args.slots.now c.args.len c.args.at c.args.item c.requires.0
