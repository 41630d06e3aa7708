-- Commands that stand one after another in the bytes, and where the first end is. Assumes nothing.
use Rattle.std.specs.Prelude.{◌≡◌, ℕ, ◌+◌, ◌≤◌, true, false, cond, not, ◌&&◌, List, [], ◌∷◌, length, nat_lt}
use Rattle.std.specs.List.{ContainsAt as Has}
use Rattle.terms.specs.declared.Fault.{Fault}
use Rattle.commands.specs.Format.{Cmd, end, command_at, width_at, lettered, whole}

-- The commands cs stand one after another in the bytes, from one place to another.
abbrev pub Stand : List ℕ → ℕ → List Cmd → ℕ → Type 0
Stand bs at [] to = at ≡ to
Stand bs at (c ∷ cs) to = (whole bs at ≡ true) × (command_at bs at ≡ c) × Stand bs (at + width_at bs at) cs to

-- No end is among the commands.
abbrev pub Unended : List Cmd → Type 0
Unended cs = Has cs end → ⊥

-- The first end among commands of which only letters and widths matter: the bytes up to and with it, or fault 2 or 3.

pub record Ends (bs : List ℕ) (n : ℕ) : Type 0 where
  pub commands : List Cmd
  pub place : ℕ
  pub stand : Stand bs 0 commands place
  pub unended : Unended commands
  pub here : whole bs place ≡ true
  pub last : command_at bs place ≡ end
  pub upto : n ≡ place + 1
  pub within : n ≤ length bs

pub record Endless (bs : List ℕ) (f : Fault) : Type 0 where
  pub commands : List Cmd
  pub stand : Stand bs 0 commands f.first
  pub unended : Unended commands
  pub broken : whole bs f.first ≡ false
  pub numbered : f.number ≡ cond (nat_lt f.first (length bs) && not (lettered bs f.first)) 3 2
  pub second : f.second ≡ 0
