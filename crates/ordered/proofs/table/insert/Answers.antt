use Rattle.ordered.proofs.table.insert.Goals as goal
use Rattle.ordered.proofs.Shift.{insert_is, insert_free}

pub returns-clause-records : goal.returns-clause-records
returns-clause-records g c =
    insert_is c.args.slots.now c.copy_within.new.self c.args.len c.args.at c.args.item
    c.requires.0 c.requires.1 c.copy_within.ensures.len c.copy_within.ensures.by_index.0 c.copy_within.ensures.by_index.1

pub returns-clause-free : goal.returns-clause-free
returns-clause-free g c =
    insert_free c.args.slots.now c.copy_within.new.self c.args.len c.args.at c.args.item
    c.requires.0 c.copy_within.ensures.len c.copy_within.ensures.by_index.2
