-- Which bytes are a readable block or founding, what they say, and which fault any other bytes have. Assumes nothing.
use Rattle.std.specs.Prelude.{◌≡◌, ℕ, ◌+◌, ◌<◌, ◌≤◌, Bool, true, false, cond, ◌&&◌, ◌⊎◌, List, [], ◌∷◌, ◌++◌, length, ◌==◌, nat_le, nat_lt}
use Rattle.std.specs.List.{ContainsAt as Has, flat_map, AllByRecursion}
use Rattle.terms.specs.declared.Volume.{Volume}
use Rattle.terms.specs.declared.Transaction.{Transaction}
use Rattle.terms.specs.declared.Grant.{Grant}
use Rattle.terms.specs.declared.Fault.{Fault}
use Rattle.terms.specs.Order.{lower}
use Rattle.terms.specs.Ranges.{every, is_price, is_word, fit_volume, fit_transaction, fit_grant}
use Rattle.terms.specs.Holdings.{rising}
pub use Rattle.commands.specs.Extent.{Stand, Unended}
use Rattle.commands.specs.Format.{Cmd, begin, price, volume, transaction, found, end, command_at, lettered, whole, fit}

-- What a block says.
pub record Block : Type 0 where
  pub height : ℕ
  pub parent : List ℕ
  pub prices : List ℕ
  pub volumes : List Volume
  pub transactions : List Transaction

-- the pair of a volume
abbrev pub pair : Volume → List ℕ
pair v = v.sold ∷ v.bought ∷ []

-- Which command may follow which.

abbrev pub is_begin : Cmd → Bool
is_begin (begin h p) = true
is_begin (price x p) = false
is_begin (volume v) = false
is_begin (transaction t m) = false
is_begin (found g) = false
is_begin end = false

-- the price of the asset x
abbrev pub is_price_of : ℕ → Cmd → Bool
is_price_of x (begin h p) = false
is_price_of x (price y p) = y == x
is_price_of x (volume v) = false
is_price_of x (transaction t m) = false
is_price_of x (found g) = false
is_price_of x end = false

-- a volume whose pair comes after the pair given, or any transaction, or the end
abbrev pub is_volume_above : List ℕ → Cmd → Bool
is_volume_above l (begin h p) = false
is_volume_above l (price x p) = false
is_volume_above l (volume v) = lower l (pair v)
is_volume_above l (transaction t m) = true
is_volume_above l (found g) = false
is_volume_above l end = true

-- a transaction or the end
abbrev pub is_transaction : Cmd → Bool
is_transaction (begin h p) = false
is_transaction (price x p) = false
is_transaction (volume v) = false
is_transaction (transaction t m) = true
is_transaction (found g) = false
is_transaction end = true

-- a grant or the end
abbrev pub is_grant : Cmd → Bool
is_grant (begin h p) = false
is_grant (price x p) = false
is_grant (volume v) = false
is_grant (transaction t m) = false
is_grant (found g) = true
is_grant end = true

-- After a begin comes the price of asset 0, and so on to that of asset 7; then volumes by rising pair; then transactions; then the
-- end. After a grant comes a grant or the end. After the end comes nothing.
abbrev pub follows : Cmd → Cmd → Bool
follows (begin h p) c = is_price_of 0 c
follows (price x p) c = cond (nat_lt x 7) (is_price_of (x + 1) c) (is_volume_above [] c)
follows (volume v) c = is_volume_above (pair v) c
follows (transaction t m) c = is_transaction c
follows (found g) c = is_grant c
follows end c = false

-- What may come after the commands cs, where `opens` says what may come first.
abbrev pub after : (Cmd → Bool) → List Cmd → Cmd → Bool
after opens [] = opens
after opens (c ∷ cs) = after (follows c) cs

-- Each command may follow the one before it.
abbrev pub InTurn : (Cmd → Bool) → List Cmd → Type 0
InTurn opens [] = Unit {0}
InTurn opens (c ∷ cs) = (opens c ≡ true) × InTurn (follows c) cs

-- What commands say: the parts of a block, and the grants of a founding.

abbrev pub heights : Cmd → List ℕ
heights (begin h p) = h ∷ []
heights (price x p) = []
heights (volume v) = []
heights (transaction t m) = []
heights (found g) = []
heights end = []

abbrev pub parents : Cmd → List ℕ
parents (begin h p) = p
parents (price x p) = []
parents (volume v) = []
parents (transaction t m) = []
parents (found g) = []
parents end = []

abbrev pub prices : Cmd → List ℕ
prices (begin h p) = []
prices (price x p) = p ∷ []
prices (volume v) = []
prices (transaction t m) = []
prices (found g) = []
prices end = []

abbrev pub volumes : Cmd → List Volume
volumes (begin h p) = []
volumes (price x p) = []
volumes (volume v) = v ∷ []
volumes (transaction t m) = []
volumes (found g) = []
volumes end = []

abbrev pub transactions : Cmd → List Transaction
transactions (begin h p) = []
transactions (price x p) = []
transactions (volume v) = []
transactions (transaction t m) = t ∷ []
transactions (found g) = []
transactions end = []

abbrev pub grants : Cmd → List Grant
grants (begin h p) = []
grants (price x p) = []
grants (volume v) = []
grants (transaction t m) = []
grants (found g) = g ∷ []
grants end = []

-- The bytes up to a place are the commands cs: whole, in turn and in range, with at most 1,024 transactions.
pub record Good (opens : Cmd → Bool) (bs : List ℕ) (cs : List Cmd) (at : ℕ) : Type 0 where
  pub stand : Stand bs 0 cs at
  pub turn : InTurn opens cs
  pub ranges : AllByRecursion (λ c. fit c ≡ true) cs
  pub few : length (flat_map transactions cs) ≤ 1024

-- The bytes are a readable block, and say b.
pub record Readable (bs : List ℕ) (b : Block) : Type 0 where
  pub short : length bs ≤ 40000
  pub commands : List Cmd
  pub good : Good is_begin bs (commands ++ end ∷ []) (length bs)
  pub height : flat_map heights commands ≡ b.height ∷ []
  pub parent : flat_map parents commands ≡ b.parent
  pub priced : flat_map prices commands ≡ b.prices
  pub traded : flat_map volumes commands ≡ b.volumes
  pub moved : flat_map transactions commands ≡ b.transactions

-- The bytes are a readable founding by these grants.
pub record Founds (bs : List ℕ) (gs : List Grant) : Type 0 where
  pub short : length bs ≤ 40000
  pub commands : List Cmd
  pub good : Good is_grant bs (commands ++ end ∷ []) (length bs)
  pub granted : flat_map grants commands ≡ gs

-- What may be wrong at a place that good commands lead to.
pub data Flaw : Type 0 where
  missing unknown misplaced unfit excess trailing : Flaw

abbrev pub number : Flaw → ℕ
number missing = 2
number unknown = 3
number misplaced = 4
number unfit = 5
number excess = 6
number trailing = 7

abbrev pub Flawed : (Cmd → Bool) → List ℕ → List Cmd → ℕ → Flaw → Type 0
-- the bytes end before a letter, or in the command of a letter
Flawed opens bs cs at missing = Unended cs × (whole bs at ≡ false) × ((length bs ≤ at) ⊎ (lettered bs at ≡ true))
-- a byte stands there that is no letter of a command
Flawed opens bs cs at unknown = Unended cs × (at < length bs) × (lettered bs at ≡ false)
-- a whole command that may not come here
Flawed opens bs cs at misplaced = Unended cs × (whole bs at ≡ true) × (after opens cs (command_at bs at) ≡ false)
-- one that may, with an operand out of range
Flawed opens bs cs at unfit =
    Unended cs × (whole bs at ≡ true) × (after opens cs (command_at bs at) ≡ true) × (fit (command_at bs at) ≡ false)
-- a transaction in range, after 1,024 others
Flawed opens bs cs at excess =
    Unended cs × (whole bs at ≡ true) × (after opens cs (command_at bs at) ≡ true) × (fit (command_at bs at) ≡ true)
    × (length (flat_map transactions cs) ≡ 1024) × (length (transactions (command_at bs at)) ≡ 1)
-- bytes after the end
Flawed opens bs cs at trailing = Has cs end × (at < length bs)

-- The leftmost fault: good commands lead to its place, and there it is.
pub record Stops (opens : Cmd → Bool) (bs : List ℕ) (f : Fault) : Type 0 where
  pub commands : List Cmd
  pub good : Good opens bs commands f.first
  pub flaw : Flaw
  pub numbered : f.number ≡ number flaw
  pub flawed : Flawed opens bs commands f.first flaw
  pub second : f.second ≡ 0

-- The bytes are refused with the fault f: 1 where they are more than 40,000, else the leftmost.
abbrev pub Refused : (Cmd → Bool) → List ℕ → Fault → Type 0
Refused opens bs f =
    ((40000 < length bs) × (f ≡ record { number = 1; first = 0; second = 0 }))
    ⊎ ((length bs ≤ 40000) × Stops opens bs f)

-- What is known of every readable block: all numbers in range, pairs of volumes rising.
abbrev pub fit_block : Block → Bool
fit_block b =
    is_word b.height && (length b.parent == 32 && (length b.prices == 8 && (every is_price b.prices
    && (rising pair b.volumes && (every fit_volume b.volumes && (nat_le (length b.volumes) 56
    && (every fit_transaction b.transactions && nat_le (length b.transactions) 1024)))))))

-- and of every readable founding
abbrev pub fit_grants : List Grant → Bool
fit_grants gs = every fit_grant gs && nat_le (length gs) 579
