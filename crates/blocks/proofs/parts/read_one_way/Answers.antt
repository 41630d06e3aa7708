use Rattle.blocks.proofs.Laws.{read_one_way}
use Rattle.blocks.proofs.parts.read_one_way.Goals as goal

pub returns : goal.returns
returns c = read_one_way
