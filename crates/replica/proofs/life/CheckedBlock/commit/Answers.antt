use Rattle.blocks.specs.Decoded.{block_of}
use Rattle.replica.proofs.Rulings.{passes}
use Rattle.replica.proofs.life.CheckedBlock.commit.Goals as goal

pub apply-requires-clause-founded : goal.apply-requires-clause-founded
apply-requires-clause-founded g c = (passes c.args.replica.now _ (block_of c.in-Ok.block) c.in-Ok.ensures).founded

pub apply-requires-clause-clean : goal.apply-requires-clause-clean
apply-requires-clause-clean g c = (passes c.args.replica.now _ (block_of c.in-Ok.block) c.in-Ok.ensures).clean
