-- What two blocks have in common beside their transactions. Assumes nothing.
use Rattle.std.specs.Prelude.{◌≡◌}
use Rattle.blocks.specs.Readable.{Block}

-- the second has the height, the parent, the prices and the volumes of the first
pub record SameHeading (b c : Block) : Type 0 where
  pub height : c.height ≡ b.height
  pub parent : c.parent ≡ b.parent
  pub prices : c.prices ≡ b.prices
  pub volumes : c.volumes ≡ b.volumes
