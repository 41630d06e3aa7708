-- Worked cases: three accounts, prices 3, 2 and six times 1, and blocks on them. Assumes nothing.
use Rattle.std.specs.Prelude.{◌≡◌, ℕ, ◌≤◌, true, false, List, [], ◌∷◌, ◌++◌, length, take, replicate, Some, None, Err}
use Rattle.std.specs.List.{flat_map}
use Rattle.terms.specs.declared.Account.{Account}
use Rattle.terms.specs.declared.Key.{Key}
use Rattle.terms.specs.declared.Offer.{Offer}
use Rattle.terms.specs.declared.Volume.{Volume}
use Rattle.terms.specs.declared.Action.TheVariants.{Pay, Place}
use Rattle.terms.specs.declared.Transaction.{Transaction}
use Rattle.terms.specs.declared.Grant.{Grant}
use Rattle.terms.specs.Bytes.{bytes_of}
use Rattle.terms.specs.Holdings.{Store, Book}
use Rattle.blocks.specs.Readable.{Block, Readable, Refused, is_begin}
use Rattle.exchange.specs.State.{State, Counts, no_counts, newborn}
use Rattle.exchange.specs.Trade.{eligible, pay_for}
use Rattle.exchange.specs.Faults.{fault, in_window, Verdict}
use Rattle.exchange.specs.Commit.{Committed, counted, one_lapsed, one_rejected}
use Rattle.exchange.specs.Life.{life, birth, Rules, RulesCheck, RulesFounding, Runs}
use Rattle.exchange.specs.Life.Event.{found, check, fill, commit}
use Rattle.exchange.specs.Life.Answer.{done, checked, filled}

-- Three accounts.

-- eight balances of which only the first two are not 0
abbrev pub balances : ℕ → ℕ → List ℕ
balances m n = m ∷ n ∷ 0 ∷ 0 ∷ 0 ∷ 0 ∷ 0 ∷ 0 ∷ []

abbrev pub account : (number floor first second : ℕ) → Account
account n f x y = record { number = n; floor = f; balances = balances x y }

abbrev pub grant : (account first second : ℕ) → Grant
grant n x y = record { account = n; balances = balances x y }

abbrev pub grants : List Grant
grants = grant 1 1000 0 ∷ grant 2 0 1000 ∷ grant 3 67 0 ∷ []

abbrev pub store_of : List Account → Store
store_of rs = record { capacity = 256; top = 4294967295; accounts = rs }

abbrev pub book_of : List Offer → Book
book_of os = record { capacity = 1024; offers = os }

-- a founded state
abbrev pub state_of : List Account → List Offer → ℕ → List ℕ → List ℕ → Counts → State
state_of rs os h d left c =
    record { founded = true; store = store_of rs; book = book_of os; own = record { height = h; digest = d; remainders = left }; counts = c }

-- Its digest is SHA-256 of the state's bytes, worked out elsewhere: the cases say that it is this.
abbrev pub founded_digest : List ℕ
founded_digest =
    0xb6 ∷ 0x43 ∷ 0xaf ∷ 0xbe ∷ 0x80 ∷ 0xe4 ∷ 0x1c ∷ 0x59 ∷ 0x87 ∷ 0xe0 ∷ 0x92 ∷ 0x03 ∷ 0x74 ∷ 0x34 ∷ 0x44 ∷ 0xee
    ∷ 0xa1 ∷ 0xe7 ∷ 0xff ∷ 0x3b ∷ 0x5a ∷ 0x85 ∷ 0x78 ∷ 0x86 ∷ 0x12 ∷ 0xe2 ∷ 0xe2 ∷ 0xeb ∷ 0x24 ∷ 0x5f ∷ 0x68 ∷ 0x03 ∷ []

abbrev pub start : State
start =
    state_of (account 1 0 1000 0 ∷ account 2 0 0 1000 ∷ account 3 0 67 0 ∷ []) [] 0 founded_digest (replicate 8 0) no_counts

-- Blocks on them.

abbrev pub block_of : List ℕ → List Volume → List Transaction → Block
block_of d vs ts = record { height = 1; parent = d; prices = 3 ∷ 2 ∷ 1 ∷ 1 ∷ 1 ∷ 1 ∷ 1 ∷ 1 ∷ []; volumes = vs; transactions = ts }

-- on the founded state
abbrev pub block : List Volume → List Transaction → Block
block vs ts = block_of founded_digest vs ts

abbrev pub volume : ℕ → ℕ → ℕ → Volume
volume x y n = record { sold = x; bought = y; amount = n }

abbrev pub pay : (source sequence receiver asset amount : ℕ) → Transaction
pay s q r x n = record { source = s; sequence = q; action = Pay r x n }

abbrev pub offer : (source sold bought limit amount : ℕ) → Transaction
offer s x y l n = record { source = s; sequence = 1; action = Place x y l n }

abbrev pub key_of : (sold bought limit account : ℕ) → Key
key_of x y l n = record { sold = x; bought = y; limit = l; account = n; sequence = 1 }

-- Account 1 offers 40 of asset 0 for 1 at 98,304, account 3 offers 67 at 65,536, account 2 offers 200 of asset 1 for 0 at 32,768.
abbrev pub offers : List Transaction
offers = offer 1 0 1 98304 40 ∷ offer 3 0 1 65536 67 ∷ offer 2 1 0 32768 200 ∷ []

-- with these volumes from 0 to 1 and from 1 to 0
abbrev pub trade : ℕ → ℕ → Block
trade m n = block (volume 0 1 m ∷ volume 1 0 n ∷ []) offers

-- The same from bytes.

abbrev pub grant_bytes : Grant → List ℕ
grant_bytes g = 71 ∷ (bytes_of 4 g.account ++ flat_map (bytes_of 8) g.balances)

abbrev pub price_bytes : ℕ → ℕ → List ℕ
price_bytes x p = 80 ∷ x ∷ bytes_of 4 p

abbrev pub volume_bytes : ℕ → ℕ → ℕ → List ℕ
volume_bytes x y n = 86 ∷ x ∷ y ∷ bytes_of 8 n

abbrev pub offer_bytes : (source sold bought limit amount : ℕ) → List ℕ
offer_bytes s x y l n = 79 ∷ (bytes_of 4 s ++ (bytes_of 4 1 ++ (x ∷ y ∷ (bytes_of 4 l ++ bytes_of 8 n))))

abbrev pub founding_bytes : List ℕ
founding_bytes = flat_map grant_bytes grants ++ 69 ∷ []

-- a block of height 1 on the digest d, with these commands after its prices
abbrev pub block_bytes : List ℕ → List ℕ → List ℕ
block_bytes d rest =
    66 ∷ (bytes_of 4 1 ++ (d ++ (price_bytes 0 3 ++ (price_bytes 1 2 ++ (price_bytes 2 1 ++ (price_bytes 3 1 ++ (price_bytes 4 1
    ++ (price_bytes 5 1 ++ (price_bytes 6 1 ++ (price_bytes 7 1 ++ rest))))))))))

abbrev pub trade_bytes : List ℕ
trade_bytes =
    block_bytes founded_digest (volume_bytes 0 1 100 ++ (volume_bytes 1 0 150 ++ (offer_bytes 1 0 1 98304 40 ++ (offer_bytes 3 0 1 65536 67
    ++ (offer_bytes 2 1 0 32768 200 ++ 69 ∷ [])))))

abbrev pub smallest : List ℕ
smallest = block_bytes (replicate 32 0) (69 ∷ [])

-- The state after that block.
abbrev pub committed_digest : List ℕ
committed_digest =
    0x4c ∷ 0x0f ∷ 0x6d ∷ 0x80 ∷ 0x56 ∷ 0xc3 ∷ 0xbd ∷ 0x5a ∷ 0x20 ∷ 0x62 ∷ 0xae ∷ 0xe3 ∷ 0x33 ∷ 0x52 ∷ 0xf1 ∷ 0xad
    ∷ 0x96 ∷ 0x4e ∷ 0x0d ∷ 0x4b ∷ 0x9e ∷ 0xbb ∷ 0x1a ∷ 0x72 ∷ 0x8a ∷ 0xb2 ∷ 0x25 ∷ 0x6a ∷ 0x85 ∷ 0x49 ∷ 0xc7 ∷ 0x05 ∷ []

abbrev pub after : State
after =
    state_of (account 1 1 960 49 ∷ account 2 1 100 800 ∷ account 3 1 0 100 ∷ [])
    (record { key = key_of 0 1 98304 1; amount = 7 } ∷ record { key = key_of 1 0 32768 2; amount = 50 } ∷ [])
    1 committed_digest (0 ∷ 1 ∷ 0 ∷ 0 ∷ 0 ∷ 0 ∷ 0 ∷ 0 ∷ []) (record { passed = 1; committed = 1; lapsed = 0; rejected = 0 })

-- Numbers 7 and 3, used by account 1 in payments of 10 and 20 to account 2, and the state after them.
abbrev pub numbered : Block
numbered = block [] (pay 1 7 2 0 10 ∷ pay 1 3 2 0 20 ∷ [])

abbrev pub numbered_digest : List ℕ
numbered_digest =
    0xd7 ∷ 0x7d ∷ 0xed ∷ 0x7f ∷ 0x0d ∷ 0x6d ∷ 0x01 ∷ 0x86 ∷ 0x20 ∷ 0xf8 ∷ 0xea ∷ 0x46 ∷ 0x5c ∷ 0x9b ∷ 0x4e ∷ 0x45
    ∷ 0xc1 ∷ 0x90 ∷ 0xa4 ∷ 0x02 ∷ 0x8c ∷ 0xd6 ∷ 0x58 ∷ 0xb7 ∷ 0xe9 ∷ 0x16 ∷ 0xc0 ∷ 0xd2 ∷ 0x7c ∷ 0xb1 ∷ 0x2a ∷ 0x78 ∷ []

abbrev pub after_numbered : State
after_numbered =
    state_of (account 1 7 970 0 ∷ account 2 0 30 1000 ∷ account 3 0 67 0 ∷ []) [] 1 numbered_digest (replicate 8 0)
    (record { passed = 0; committed = 1; lapsed = 0; rejected = 0 })

-- The founded state with the largest counts.
abbrev pub full : State
full = counted start (record { passed = 4294967295; committed = 0; lapsed = 4294967295; rejected = 4294967295 })

pub record Cases : Type 0 where
  -- limit 98,304 is eligible from 0 to 1, 98,305 is not
  pub at_the_limit : eligible (trade 100 150) (key_of 0 1 98304 1) ≡ true
  pub above_the_limit : eligible (trade 100 150) (key_of 0 1 98305 1) ≡ false
  -- sold 33 from 0 to 1 is paid 49; sold 1 at prices 1 and 2 is paid 0
  pub rounded_down : pay_for (trade 100 150) 0 1 33 ≡ 49
  pub rounded_to_nothing : pay_for (trade 100 150) 2 1 1 ≡ 0
  -- V(1, 0) of 149 gives 10 at (1, 0), of 151 gives 10 at (0, 0)
  pub too_little : Verdict start (trade 100 149) (Some (fault 10 1 0))
  pub too_much : Verdict start (trade 100 151) (Some (fault 10 0 0))
  -- at floor 0 numbers 1 and 64 are in the window, 0 and 65 are not
  pub window_0 : in_window 0 0 ≡ false
  pub window_1 : in_window 0 1 ≡ true
  pub window_64 : in_window 0 64 ≡ true
  pub window_65 : in_window 0 65 ≡ false
  -- numbers 7 and 3 leave floor 7
  pub numbers_good : Verdict start numbered None
  pub numbers_used : Committed start numbered after_numbered
  -- account 1 paying account 2 600 of asset 0 twice gives 18 at (1, 0)
  pub overspent : Verdict start (block [] (pay 1 1 2 0 600 ∷ pay 1 2 2 0 600 ∷ [])) (Some (fault 18 1 0))
  -- accounts 1 and 2 paying each other 100 of asset 5 pass; with 99 from account 2 it is 18 at (1, 5)
  pub even : Verdict start (block [] (pay 1 1 2 5 100 ∷ pay 2 1 1 5 100 ∷ [])) None
  pub uneven : Verdict start (block [] (pay 1 1 2 5 100 ∷ pay 2 1 1 5 99 ∷ [])) (Some (fault 18 1 5))
  -- the smallest block has 86 bytes; without its end it gives 2 at (85, 0)
  pub smallest_reads : Readable smallest (block_of (replicate 32 0) [] [])
  pub smallest_length : length smallest ≡ 86
  pub none_smaller : (bs : List ℕ) (b : Block) → Readable bs b → 86 ≤ length bs
  pub endless : Refused is_begin (take 85 smallest) (fault 2 85 0)
  -- 24 before the founding, 22 where the store or the book is not empty, 25 after it, 26 at the largest count
  pub unfounded : (bs : List ℕ) → RulesCheck (newborn (store_of []) (book_of [])) bs (Err (fault 24 0 0))
  pub unfounded_held : (bs : List ℕ) → Rules (newborn (store_of []) (book_of [])) bs (Err (fault 24 0 0))
  pub store_in_use : (bs : List ℕ) → RulesFounding (newborn start.store (book_of [])) bs (Err (fault 22 0 0))
  pub book_in_use : (bs : List ℕ) → RulesFounding (newborn (store_of []) after.book) bs (Err (fault 22 0 0))
  pub founded_before : (bs : List ℕ) → RulesFounding start bs (Err (fault 25 0 0))
  pub all_passed : (bs : List ℕ) → RulesCheck full bs (Err (fault 26 0 0))
  -- there lapsed and rejected stop
  pub lapsed_stops : one_lapsed full.counts ≡ full.counts
  pub rejected_stops : one_rejected full.counts ≡ full.counts
  -- a replica's digest is 32 zeros at first
  pub no_digest : (newborn (store_of []) (book_of [])).own.digest ≡ replicate 32 0
  -- the founding and the block by hand, from their bytes to the committed state, with the fill of account 1's offer
  pub by_hand : Runs (birth (store_of []) (book_of []))
      (found founding_bytes ∷ check trade_bytes ∷ fill 0 (key_of 0 1 98304 1) ∷ commit 0 ∷ [])
      (done ∷ checked 0 ∷ filled 33 49 ∷ done ∷ [])
      (life after (None ∷ []) grants)
