-- A block of which only height and parent matter. Assumes nothing.
use Rattle.std.specs.Prelude.{ℕ, List, []}
use Rattle.blocks.specs.Readable.{Block}

abbrev pub heading : ℕ → List ℕ → Block
heading h p = record { height = h; parent = p; prices = []; volumes = []; transactions = [] }
