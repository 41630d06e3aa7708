use Rattle.std.proofs.Common.{◌≡◌, ◌-◌, ◌<◌, length, rules}
use Rattle.inspect.proofs.Moves.{read_moves}
use Rattle.inspect.proofs.walk.WalkIterator.next.Goals as goal

pub returns-clause-goes : goal.returns-clause-goes
returns-clause-goes c =
    let less = read_moves c.read.result c.args.self.now.bytes.now c.args.self.now.at c.in_ok-reading.reading c.read.ensures (search rules) in
    record { on = λ f. (tt, tt, less); keeps = tt; rests = λ f. tt }
