use Rattle.ordered.proofs.table.remove.Goals as goal
use Rattle.ordered.proofs.Shift.{remove_is, remove_free}

pub returns-clause-records : goal.returns-clause-records
returns-clause-records g c =
    remove_is c.args.slots.now c.copy_within.new.self c.args.len c.args.at
    c.requires.0 c.requires.1 c.copy_within.ensures.len c.copy_within.ensures.by_index.0 c.copy_within.ensures.by_index.1

pub returns-clause-free : goal.returns-clause-free
returns-clause-free g c =
    remove_free c.args.slots.now c.copy_within.new.self c.args.len c.args.at
    c.requires.0 c.copy_within.ensures.len c.copy_within.ensures.by_index.2
