-- What the nodes of a trie stand for, as a map from keys to amounts, and what makes a trie good. Assumes nothing.
use Rattle.std.specs.Prelude.{◌≡◌, ℕ, ◌+◌, ◌-◌, ◌*◌, ◌/◌, ◌%◌, ◌^◌, ◌<◌, ◌≤◌, Bool, true, false, cond, ◌&&◌, Some, None, Option, ◌==◌, ◌≢◌, nat_le, nat_lt}
use Rattle.trie.specs.declared.node.Node.{Node}
use Rattle.trie.specs.declared.node.Node.TheVariants.{Idle, Offer, Branch'}

-- the amount that stands at the key x, or 0
abbrev pub held : Node → ℕ → ℕ
held Idle x = 0
held (Offer k a) x = cond (k == x) a 0
held (Branch' bit split sum p l q r) x = held l x + held r x

-- the amounts at the keys below x
abbrev pub under : Node → ℕ → ℕ
under Idle x = 0
under (Offer k a) x = cond (nat_lt k x) a 0
under (Branch' bit split sum p l q r) x = under l x + under r x

-- an amount in range
abbrev pub Amount : ℕ → Type 0
Amount a = (0 < a) × (a ≤ 68719476735)

-- all amounts
abbrev pub total : Node → ℕ
total Idle = 0
total (Offer k a) = a
total (Branch' bit split sum p l q r) = total l + total r

-- how many offers
abbrev pub offers : Node → ℕ
offers Idle = 0
offers (Offer k a) = 1
offers (Branch' bit split sum p l q r) = offers l + offers r

-- each key is at least lo and below hi
abbrev pub within : ℕ → ℕ → Node → Bool
within lo hi Idle = true
within lo hi (Offer k a) = nat_le lo k && nat_lt k hi
within lo hi (Branch' bit split sum p l q r) = within lo hi l && within lo hi r

-- each branch has its sum, and parts the keys at its bit; bits fall downwards
abbrev pub ordered : ℕ → Node → Bool
ordered bits Idle = false
ordered bits (Offer k a) = nat_lt 0 a && nat_le a 68719476735
ordered bits (Branch' bit split sum p l q r) =
    nat_lt bit bits && split % 2 ^ (bit + 1) == 2 ^ bit && sum == total l + total r && within (split - 2 ^ bit) split l && within split (split + 2 ^ bit) r && ordered bit l && ordered bit r

-- an empty tree, or a good one of keys of 102 bits
abbrev pub whole : Node → Bool
whole Idle = true
whole (Offer k a) = nat_lt 0 a && nat_le a 68719476735 && nat_lt k (2 ^ 102)
whole (Branch' bit split sum p l q r) = ordered 102 (Branch' bit split sum p l q r) && within 0 (2 ^ 102) l && within 0 (2 ^ 102) r

abbrev pub Whole : Node → Type 0
Whole t = whole t ≡ true

abbrev pub Ordered : ℕ → Node → Type 0
Ordered bits t = ordered bits t ≡ true

-- the least number that is like key above its lowest `bits` bits
abbrev pub low : ℕ → ℕ → ℕ
low bits key = key / 2 ^ bits * 2 ^ bits

-- each key of t is like key above its lowest `bits` bits
abbrev pub Near : ℕ → ℕ → Node → Type 0
Near bits key t = within (low bits key) (low bits key + 2 ^ bits) t ≡ true

-- t may hang at the highest bit at which base and key differ
abbrev pub Hangs : ℕ → ℕ → Node → Type 0
Hangs base key t = (j : ℕ) → base / 2 ^ (j + 1) ≡ key / 2 ^ (j + 1) → (base / 2 ^ j ≢ key / 2 ^ j) → Ordered j t × Near j base t

-- key and t lie on the two sides of a split
abbrev pub Parted : ℕ → ℕ → ℕ → Node → Type 0
Parted bit split key t = (key < split → (split - 2 ^ bit ≤ key) × (within split (split + 2 ^ bit) t ≡ true)) × (split ≤ key → (key < split + 2 ^ bit) × (within (split - 2 ^ bit) split t ≡ true))

pub record Placed (bits key amount : ℕ) (t u : Node) : Type 0 where
  pub more : offers u ≡ offers t + 1
  pub ok : Ordered bits u
  pub holds : (x : ℕ) → held u x ≡ cond (x == key) amount (held t x)
  pub sum : total u ≡ total t + amount
  pub keys : (lo hi : ℕ) → within lo hi t ≡ true → lo ≤ key → key < hi → within lo hi u ≡ true

pub record Removed (bits key by : ℕ) (t u : Node) : Type 0 where
  pub fewer : offers u + 1 ≡ offers t
  pub ok : Ordered bits u
  pub holds : (x : ℕ) → held u x ≡ cond (x == key) 0 (held t x)
  pub sum : total u + by ≡ total t
  pub keys : (lo hi : ℕ) → within lo hi t ≡ true → within lo hi u ≡ true

-- a branch with two sides
abbrev pub forks : Node → Bool
forks Idle = false
forks (Offer k a) = false
forks (Branch' bit split sum p l q r) = true

-- the key's side of a branch is its offer
abbrev pub Lone : ℕ → ℕ → Node → Type 0
Lone key by Idle = ⊥
Lone key by (Offer k a) = ⊥
Lone key by (Branch' bit split sum p l q r) = (key < split → l ≡ Offer key by) × (split ≤ key → r ≡ Offer key by)

-- the lowest standing key above a key, or none
abbrev pub Next : ℕ → Node → Option ℕ → Type 0
Next key t None = (x : ℕ) → key < x → held t x ≡ 0
Next key t (Some k) = (key < k) × (0 < held t k) × ((x : ℕ) → key < x → x < k → held t x ≡ 0)

-- a key may be placed: it does not stand, there is room, it has no more than 102 bits, and the amount is in range
abbrev pub placeable : Node → ℕ → ℕ → ℕ → Bool
placeable t capacity key v = held t key == 0 && (nat_lt (offers t) capacity && (nat_lt key (2 ^ 102) && (nat_lt 0 v && nat_le v 68719476735)))

-- a key may be set to an amount: it stands, and has at least that
abbrev pub reducible : Node → ℕ → ℕ → Bool
reducible t key v = nat_lt 0 (held t key) && nat_le v (held t key)
