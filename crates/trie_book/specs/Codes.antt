-- A trie as an offer book: keys as numbers of 102 bits, and the offers from left to right. Assumes nothing.
use Rattle.std.specs.Prelude.{◌≡◌, ℕ, ◌+◌, ◌*◌, ◌/◌, ◌%◌, ◌<◌, false, List, [], ◌∷◌, ◌++◌, Some, None, Option, nat_lt}
use Rattle.terms.specs.declared.Key.{Key}
use Rattle.terms.specs.declared.Offer.{Offer as Resting}
use Rattle.terms.specs.Order.{words, lower}
use Rattle.terms.specs.Holdings.{Book}
use Rattle.trie.specs.declared.node.Node.{Node}
use Rattle.trie.specs.declared.node.Node.TheVariants.{Idle, Offer, Branch'}

-- the number of a key: sold and bought have 3 bits, the others 32
abbrev pub code : Key → ℕ
code k =
    k.sold * 633825300114114700748351602688
    + (k.bought * 79228162514264337593543950336 + (k.limit * 18446744073709551616 + (k.account * 4294967296 + k.sequence)))

-- the key of a number
abbrev pub key_of : ℕ → Key
key_of c = record {
  sold = c / 4294967296 / 4294967296 / 4294967296 / 8;
  bought = c / 4294967296 / 4294967296 / 4294967296 % 8;
  limit = c / 4294967296 / 4294967296 % 4294967296;
  account = c / 4294967296 % 4294967296;
  sequence = c % 4294967296;
}

-- each part of the key has no more bits than it is given
pub record Bits (k : Key) : Type 0 where
  pub sells : k.sold < 8
  pub buys : k.bought < 8
  pub limit : k.limit < 4294967296
  pub account : k.account < 4294967296
  pub sequence : k.sequence < 4294967296

-- the offers of a subtree, from left to right
abbrev pub flat : Node → List Resting
flat Idle = []
flat (Offer k a) = record { key = key_of k; amount = a } ∷ []
flat (Branch' bit split sum p l q r) = flat l ++ flat r

-- a trie of this capacity, as a book
abbrev pub book_of : ℕ → Node → Book
book_of capacity t = record { capacity = capacity; offers = flat t }

-- the keys above j are those whose numbers are above c; where there is no such number, there are none
abbrev pub Starts : Key → Option ℕ → Type 0
Starts j None = (o : Key) → Bits o → lower (words j) (words o) ≡ false
Starts j (Some c) = (o : Key) → Bits o → lower (words j) (words o) ≡ nat_lt c (code o)
