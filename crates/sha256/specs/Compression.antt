-- The hash computation (FIPS 180-4, section 6.2.2): the message schedule, the rounds, and the hash value after a block.
use Rattle.std.specs.Prelude.{ℕ, zero, suc, ◌-◌, ◌*◌, List, [], ◌∷◌, ◌++◌, length, take, drop, slice_index}
use Rattle.sha256.specs.declared.compress.State.{State}
use Rattle.sha256.specs.Functions.{plus, ch, maj, big_sigma0, big_sigma1, small_sigma0, small_sigma1, constant_at}
use Rattle.sha256.specs.Padding.{words_of, initial}

-- W_(t - k), where w has the words before W_t
abbrev pub back : ℕ → List ℕ → ℕ
back k w = slice_index w (length w - k)

-- W_t from the words before it
abbrev pub next_word : List ℕ → ℕ
next_word w = plus (plus (plus (small_sigma1 (back 2 w)) (back 7 w)) (small_sigma0 (back 15 w))) (back 16 w)

-- Step 1: the words of a block and n words of the message schedule behind them
unfoldable pub schedule : ℕ → List ℕ → List ℕ
schedule zero w = w
schedule (suc n) w = schedule n w ++ next_word (schedule n w) ∷ []

-- Step 3: T1 and T2 of a round
abbrev pub t1 : State → ℕ → ℕ → ℕ
t1 s k w = plus (plus (plus (plus s.h (big_sigma1 s.e)) (ch s.e s.f s.g)) k) w

abbrev pub t2 : State → ℕ
t2 s = plus (big_sigma0 s.a) (maj s.a s.b s.c)

-- one round, by its constant and its word
abbrev pub round_of : State → ℕ → ℕ → State
round_of s k w =
    record {
      a = plus (t1 s k w) (t2 s);
      b = s.a;
      c = s.b;
      d = s.c;
      e = plus s.d (t1 s k w);
      f = s.e;
      g = s.f;
      h = s.g;
    }

-- the first n rounds over the schedule w
unfoldable pub rounds_of : ℕ → List ℕ → State → State
rounds_of zero w s = s
rounds_of (suc n) w s = round_of (rounds_of n w s) (constant_at n) (slice_index w n)

-- Step 4: the sums of two states, word by word
abbrev pub sum_of : State → State → State
sum_of s t =
    record {
      a = plus s.a t.a;
      b = plus s.b t.b;
      c = plus s.c t.c;
      d = plus s.d t.d;
      e = plus s.e t.e;
      f = plus s.f t.f;
      g = plus s.g t.g;
      h = plus s.h t.h;
    }

-- Steps 1 to 4: the hash value after one block more
abbrev pub compress_of : State → List ℕ → State
compress_of s block = sum_of s (rounds_of 64 (schedule 48 (words_of 16 block)) s)

-- the hash value after the first n blocks of some bytes
unfoldable pub chain : ℕ → List ℕ → State
chain zero bs = initial
chain (suc n) bs = compress_of (chain n bs) (take 64 (drop (64 * n) bs))
