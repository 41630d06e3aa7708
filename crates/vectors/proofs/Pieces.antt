-- One piece more of letters.
use Rattle.std.proofs.Common.{◌≡◌, ℕ, ◌+◌, ◌++◌, replicate, refl}
use Rattle.std.proofs.lemmas.List.{replicate-append-replicate}
use Rattle.vectors.specs.Letters.{letters}

pub letters_more : (n k : ℕ) → letters n ++ replicate k 97 ≡ letters (n + k)
unfolding letters
letters_more n k = replicate-append-replicate n k 97

pub letters_none : replicate 0 97 ≡ letters 0
unfolding letters
letters_none = refl
