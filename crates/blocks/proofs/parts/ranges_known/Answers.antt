use Rattle.blocks.proofs.Laws.{readable_fits, founds_fits}
use Rattle.blocks.proofs.parts.ranges_known.Goals as goal

pub returns : goal.returns
returns c = record { block = readable_fits; founding = founds_fits }
