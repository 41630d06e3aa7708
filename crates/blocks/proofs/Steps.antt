-- One command more at the end of those that follow one another. Assumes nothing.
use Rattle.std.proofs.Common.{◌≡◌, Bool, true, List, [], ◌∷◌, ◌++◌, sym, refl}
use Rattle.std.specs.List.{flat_map}
use Rattle.std.proofs.lemmas.List.{flat_map_more}
use Rattle.commands.specs.Format.{Cmd}
use Rattle.blocks.specs.Readable.{InTurn, after, follows}

pub joined_push : {X A : Type 0} (f : X → List A) (xs : List X) (x : X) → flat_map f (xs ++ x ∷ []) ≡ flat_map f xs ++ f x
joined_push f xs x = sym (flat_map_more f [] xs x)

pub turn_push : (opens : Cmd → Bool) (cs : List Cmd) (c : Cmd) → InTurn opens cs → after opens cs c ≡ true → InTurn opens (cs ++ c ∷ [])
turn_push opens [] c t m = (m, tt)
turn_push opens (d ∷ cs) c t m = (t.0, turn_push (follows d) cs c t.1 m)

pub after_push : (opens : Cmd → Bool) (cs : List Cmd) (c d : Cmd) → after opens (cs ++ c ∷ []) d ≡ follows c d
after_push opens [] c d = refl
after_push opens (e ∷ cs) c d = after_push (follows e) cs c d
