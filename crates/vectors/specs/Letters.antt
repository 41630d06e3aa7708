-- A message of one letter, over and over.
use Rattle.std.specs.Prelude.{ℕ, List, replicate}

-- so many letters a
unfoldable pub letters : ℕ → List ℕ
letters n = replicate n 97
