use Rattle.std.proofs.Common.{refl}
use Rattle.sha256.specs.Compression.{chain}
use Rattle.sha256.proofs.hasher.Hasher.new.Goals as goal

pub returns : goal.returns
unfolding chain
returns c = record { size = refl; whole = c.initial.ensures; rest = refl }
