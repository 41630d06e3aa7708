use Rattle.std.proofs.Common.{◌*◌, ◌%◌, refl, arith, rules}
use Rattle.hashed_store.specs.Probing.{start}
use Rattle.hashed_store.proofs.Starts.{scaled}
use Rattle.hashed_store.proofs.tables.hash.Goals as goal

pub overflow_cast-result-3 : goal.overflow_cast-result-3
overflow_cast-result-3 c =
    let lt = scaled (c.args.number * 2654435769 % 4294967296) c.args.size (omega arith) c.requires in
    search rules

pub returns : goal.returns
unfolding start
returns c = record { value = refl; within = scaled (c.args.number * 2654435769 % 4294967296) c.args.size (omega arith) c.requires }
