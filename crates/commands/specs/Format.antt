-- The bytes of blocks and foundings: one command, its letter, its width and its operands. Assumes nothing.
use Rattle.std.specs.Prelude.{ℕ, ◌+◌, Bool, true, cond, not, ◌&&◌, List, [], ◌∷◌, length, ◌==◌, nat_le, nat_lt, slice_index, slice_index_or}
use Rattle.std.specs.List.{between}
use Rattle.terms.specs.declared.Volume.{Volume}
use Rattle.terms.specs.declared.Transaction.{Transaction}
use Rattle.terms.specs.declared.Action.{Action}
use Rattle.terms.specs.declared.Action.TheVariants.{Create, Pay, Place, Cancel}
use Rattle.terms.specs.declared.Grant.{Grant}
use Rattle.terms.specs.Bytes.{field}
use Rattle.terms.specs.Ranges.{is_asset, is_price, is_word, fit_volume, fit_transaction, fit_grant}

-- A command: B, P, V, one of the transactions A, T, O and C with its memo (empty but for T), G or E.
pub data Cmd : Type 0 where
  begin : (height : ℕ) (parent : List ℕ) → Cmd
  price : (asset worth : ℕ) → Cmd
  volume : Volume → Cmd
  transaction : Transaction → (memo : List ℕ) → Cmd
  found : Grant → Cmd
  end : Cmd

-- How many bytes a command has, with its letter; 0 for a byte that is no letter of a command.
abbrev pub width : ℕ → ℕ
width c =
    cond (c == 66) 37 (cond (c == 80) 6 (cond (c == 86) 11 (cond (c == 65) 13 (cond (c == 84) 38
    (cond (c == 79) 23 (cond (c == 67) 19 (cond (c == 71) 69 (cond (c == 69) 1 0))))))))

-- eight balances of eight bytes each
abbrev pub balances : List ℕ → ℕ → List ℕ
balances bs at =
    field 8 bs at ∷ field 8 bs (at + 8) ∷ field 8 bs (at + 16) ∷ field 8 bs (at + 24)
    ∷ field 8 bs (at + 32) ∷ field 8 bs (at + 40) ∷ field 8 bs (at + 48) ∷ field 8 bs (at + 56) ∷ []

-- The operands at a place, in the order of the format; of A, T, O and C the source and the sequence number come first.
module _ (bs : List ℕ) (at : ℕ) where
  abbrev pub begin_at : Cmd
  begin_at = begin (field 4 bs (at + 1)) (between (at + 5) (at + 37) bs)

  abbrev pub price_at : Cmd
  price_at = price (slice_index bs (at + 1)) (field 4 bs (at + 2))

  abbrev pub volume_at : Cmd
  volume_at = volume (record { sold = slice_index bs (at + 1); bought = slice_index bs (at + 2); amount = field 8 bs (at + 3) })

  abbrev pub transaction_at : Action → List ℕ → Cmd
  transaction_at a m = transaction (record { source = field 4 bs (at + 1); sequence = field 4 bs (at + 5); action = a }) m

  abbrev pub create_at : Cmd
  create_at = transaction_at (Create (field 4 bs (at + 9))) []

  abbrev pub pay_at : Cmd
  pay_at = transaction_at (Pay (field 4 bs (at + 9)) (slice_index bs (at + 13)) (field 8 bs (at + 14))) (between (at + 22) (at + 38) bs)

  abbrev pub place_at : Cmd
  place_at = transaction_at (Place (slice_index bs (at + 9)) (slice_index bs (at + 10)) (field 4 bs (at + 11)) (field 8 bs (at + 15))) []

  abbrev pub cancel_at : Cmd
  cancel_at = transaction_at (Cancel (slice_index bs (at + 9)) (slice_index bs (at + 10)) (field 4 bs (at + 11)) (field 4 bs (at + 15))) []

  abbrev pub found_at : Cmd
  found_at = found (record { account = field 4 bs (at + 1); balances = balances bs (at + 5) })

  -- the command at a place, by its letter
  abbrev pub command_at : Cmd
  command_at =
      let c = slice_index_or bs at 0 in
      cond (c == 66) begin_at (cond (c == 80) price_at (cond (c == 86) volume_at (cond (c == 65) create_at (cond (c == 84) pay_at
      (cond (c == 79) place_at (cond (c == 67) cancel_at (cond (c == 71) found_at end)))))))

  abbrev pub width_at : ℕ
  width_at = width (slice_index bs at)

  -- a letter of a command stands at the place
  abbrev pub lettered : Bool
  lettered = nat_lt at (length bs) && nat_lt 0 width_at

  -- a command stands at the place, to its last byte
  abbrev pub whole : Bool
  whole = lettered && nat_le (at + width_at) (length bs)

-- The operands are in range.
abbrev pub fit : Cmd → Bool
fit (begin h p) = is_word h
fit (price x p) = is_asset x && is_price p
fit (volume v) = fit_volume v
fit (transaction t m) = fit_transaction t
fit (found g) = fit_grant g
fit end = true

-- What reading at a place gives: the command and the place after it; or fault 3, no letter of a command; 2, the bytes end
-- before the letter or in the command; 5, an operand is out of range.
pub data Outcome : Type 0 where
  got : Cmd → (next : ℕ) → Outcome
  refused : (number first second : ℕ) → Outcome

-- by letter and width alone: the place after the command
pub data Span : Type 0 where
  upto : (next : ℕ) → Span
  broken : (number first second : ℕ) → Span

abbrev pub skipped : List ℕ → ℕ → Span
skipped bs at =
    cond (whole bs at) (upto (at + width_at bs at))
    (cond (nat_lt at (length bs) && not (lettered bs at)) (broken 3 at 0) (broken 2 at 0))

-- with the command there, whatever its operands
abbrev pub cut : List ℕ → ℕ → Outcome
cut bs at =
    cond (whole bs at) (got (command_at bs at) (at + width_at bs at))
    (cond (nat_lt at (length bs) && not (lettered bs at)) (refused 3 at 0) (refused 2 at 0))

abbrev pub ranged : ℕ → Outcome → Outcome
ranged at (got c next) = cond (fit c) (got c next) (refused 5 at 0)
ranged at (refused n i j) = refused n i j

-- with the operands
abbrev pub outcome : List ℕ → ℕ → Outcome
outcome bs at = ranged at (cut bs at)
