-- What a decoded block and a decoded founding say. Assumes nothing.
use Rattle.std.specs.Prelude.{List}
use Rattle.terms.specs.declared.Grant.{Grant}
use Rattle.blocks.specs.declared.decoded.DecodedBlock.{DecodedBlock}
use Rattle.blocks.specs.declared.decoded.DecodedFounding.{DecodedFounding}
use Rattle.blocks.specs.Readable.{Block}
use Rattle.blocks.specs.Drafts.{spoken}

abbrev pub block_of : DecodedBlock → Block
block_of b = spoken b.parts

abbrev pub grants_of : DecodedFounding → List Grant
grants_of f = f.grants.items
