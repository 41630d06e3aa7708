-- A block in the making. Assumes nothing.
use Rattle.std.specs.Prelude.{◌<◌, [], ◌∷◌, ◌++◌, replicate, slice_set}
use Rattle.arrayvec.specs.ArrayVec.{array_vec_len}
use Rattle.blocks.specs.declared.drafted.Draft.{Draft}
use Rattle.blocks.specs.Readable.{Block}
use Rattle.commands.specs.Format.{Cmd, begin, price, volume, transaction, found, end}

abbrev pub blank : Draft
blank = record {
  height = 0;
  parent = replicate 32 0;
  prices = replicate 8 0;
  volumes = record { items = [] };
  transactions = record { items = [] };
}

-- there is room for the price or the volume of the command
abbrev pub Room : Draft → Cmd → Type 0
Room d (begin h p) = Unit {0}
Room d (price x p) = x < 8
Room d (volume v) = array_vec_len d.volumes < 56
Room d (transaction t m) = Unit {0}
Room d (found g) = Unit {0}
Room d end = Unit {0}

abbrev pub added : Draft → Cmd → Draft
added d (begin h p) = record d { height = h; parent = p }
added d (price x p) = record d { prices = slice_set d.prices x p }
added d (volume v) = record d { volumes = record { items = d.volumes.items ++ v ∷ [] } }
added d (transaction t m) = record d { transactions = record { items = d.transactions.items ++ t ∷ [] } }
added d (found g) = d
added d end = d

-- what is said so far, as a block
abbrev pub spoken : Draft → Block
spoken d = record {
  height = d.height;
  parent = d.parent;
  prices = d.prices;
  volumes = d.volumes.items;
  transactions = d.transactions.items;
}
