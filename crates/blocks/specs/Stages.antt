-- How a walk over commands keeps what may come next. Assumes nothing.
use Rattle.std.specs.Prelude.{◌≡◌, ℕ, ◌+◌, ◌<◌, ◌≤◌, Bool, cond, ◌⊎◌, List, [], ◌∷◌, length, Option, Some, None, Result, Ok, Err, nat_lt}
use Rattle.terms.specs.declared.Fault.{Fault}
use Rattle.blocks.specs.declared.stage.Stage.{Stage}
use Rattle.blocks.specs.declared.stage.Stage.TheVariants.{Start, Price, FirstVolume, VolumeAbove, Transactions, Grants}
use Rattle.commands.specs.declared.command.Reading.{Reading}
use Rattle.commands.specs.Shown.{shown}
use Rattle.commands.specs.Format.{Cmd, begin, price, volume, transaction, found, end, Outcome, got, refused, cut, fit}
use Rattle.blocks.specs.Readable.{is_begin, is_price_of, is_volume_above, is_transaction, is_grant}

-- what may come at a stage
abbrev pub admits : Stage → Cmd → Bool
admits Start c = is_begin c
admits (Price x) c = is_price_of x c
admits FirstVolume c = is_volume_above [] c
admits (VolumeAbove s b) c = is_volume_above (s ∷ b ∷ []) c
admits Transactions c = is_transaction c
admits Grants c = is_grant c

-- the stage after a command; after the end it does not matter
abbrev pub afterwards : Cmd → Stage
afterwards (begin h p) = Price 0
afterwards (price x p) = cond (nat_lt x 7) (Price (x + 1)) FirstVolume
afterwards (volume v) = VolumeAbove v.sold v.bought
afterwards (transaction t m) = Transactions
afterwards (found g) = Grants
afterwards end = Transactions

-- a command that may come, or fault 4; in range, or fault 5
abbrev pub taken : (Cmd → Bool) → ℕ → Outcome → Outcome
taken may at (got c next) = cond (may c) (cond (fit c) (got c next) (refused 5 at 0)) (refused 4 at 0)
taken may at (refused n i j) = refused n i j

-- one step of a walk at a place
abbrev pub stepped : (Cmd → Bool) → List ℕ → ℕ → Outcome
stepped may bs at = taken may at (cut bs at)

-- what a walk finds at a place: a command other than the end, or the end of all bytes; or the fault of a step, or 7 behind an end
abbrev pub Next : (Cmd → Bool) → List ℕ → ℕ → Result (Option Reading) Fault → Type 0
Next may bs at (Ok (Some r)) = (got (shown r.command) r.next ≡ stepped may bs at) × (shown r.command ≡ end → ⊥)
Next may bs at (Ok None) = (n : ℕ) × (got end n ≡ stepped may bs at) × (length bs ≤ n)
Next may bs at (Err f) =
    (refused f.number f.first f.second ≡ stepped may bs at)
    ⊎ ((n : ℕ) × (got end n ≡ stepped may bs at) × (n < length bs) × (f ≡ record { number = 7; first = n; second = 0 }))
