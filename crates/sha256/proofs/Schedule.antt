-- One word more of a block or of the message schedule, and one round more.
use Rattle.std.proofs.Common.{◌≡◌, ℕ, zero, suc, ◌+◌, ◌-◌, ◌*◌, ◌<◌, ◌≤◌, List, [], ◌∷◌, ◌++◌, length, get_or, take, set, sym, refl, ap, ◌∙◌, add-zero, add_assoc, add-suc, add-one, arith}
use Rattle.std.proofs.lemmas.List.{length_push, length-take-le, get_or-take, take_all, take-take, take-append-le, take_more_set}
use Rattle.sha256.specs.declared.compress.State.{State}
use Rattle.sha256.specs.Functions.{plus, small_sigma0, small_sigma1, constant_at}
use Rattle.terms.specs.Bytes.{field}
use Rattle.sha256.specs.Padding.{words_of}
use Rattle.sha256.specs.Compression.{schedule, next_word, round_of, rounds_of}

pub words_none : (block : List ℕ) → words_of 0 block ≡ []
unfolding words_of
words_none block = refl

pub words_more : (n : ℕ) (block : List ℕ) → words_of (n + 1) block ≡ words_of n block ++ field 4 block (4 * n) ∷ []
unfolding words_of
words_more n block = ap (λ k. words_of k block) (add-one n)

pub rounds_none : (w : List ℕ) (s : State) → rounds_of 0 w s ≡ s
unfolding rounds_of
rounds_none w s = refl

pub rounds_more : (n : ℕ) (w : List ℕ) (s : State) → rounds_of (n + 1) w s ≡ round_of (rounds_of n w s) (constant_at n) (get_or w n 0)
unfolding rounds_of
rounds_more n w s = ap (λ k. rounds_of k w s) (add-one n)

-- the round after t + i, over a list that has the same word there
pub one_round : (t i : ℕ) (w all : List ℕ) (start s r : State) → get_or w (t + i) 0 ≡ get_or all (t + i) 0 → s ≡ rounds_of (t + i) all start
    → r ≡ round_of s (constant_at (t + i)) (get_or w (t + i) 0) → r ≡ rounds_of (t + (i + 1)) all start
one_round t i w all start s r same e f =
    f
    ∙ (ap (λ x. round_of s (constant_at (t + i)) x) same
    ∙ (ap (λ x. round_of x (constant_at (t + i)) (get_or all (t + i) 0)) e
    ∙ (sym (rounds_more (t + i) all start) ∙ ap (λ k. rounds_of k all start) (add_assoc t i 1))))

pub schedule_none : (w : List ℕ) → schedule 0 w ≡ w
unfolding schedule
schedule_none w = refl

schedule_more : (n : ℕ) (w : List ℕ) → schedule (suc n) w ≡ schedule n w ++ next_word (schedule n w) ∷ []
unfolding schedule
schedule_more n w = refl

-- the word that a turn writes
abbrev word_at : List ℕ → ℕ → ℕ
word_at w t =
    plus (plus (plus (small_sigma1 (get_or w (t - 2) 0)) (get_or w (t - 7) 0)) (small_sigma0 (get_or w (t - 15) 0))) (get_or w (t - 16) 0)

word_front : (w : List ℕ) (t : ℕ) → 16 ≤ t → t ≤ length w → next_word (take t w) ≡ word_at w t
word_front w t low high =
    let n : length (take t w) ≡ t = length-take-le t w high in
    let a = get_or-take t w (t - 2) 0 (omega arith) in
    let b = get_or-take t w (t - 7) 0 (omega arith) in
    let c = get_or-take t w (t - 15) 0 (omega arith) in
    let d = get_or-take t w (t - 16) 0 (omega arith) in
    ap (λ k. word_at (take t w) k) n ∙ cc (a, b, c, d)

pub one_word : (w first : List ℕ) (t : ℕ) → 16 ≤ t → t < length w → take t w ≡ schedule (t - 16) first
    → take (t + 1) (set w t (word_at w t)) ≡ schedule ((t + 1) - 16) first
one_word w first t low high e =
    let n : (t + 1) - 16 ≡ suc (t - 16) = omega arith in
    let h : t ≤ length w = omega arith in
    take_more_set w t (word_at w t) high
    ∙ (ap (λ x. take t w ++ x ∷ []) (sym (word_front w t low h))
    ∙ (ap (λ x. x ++ next_word x ∷ []) e
    ∙ (sym (schedule_more (t - 16) first) ∙ ap (λ k. schedule k first) (sym n))))

length_schedule : (n : ℕ) (first : List ℕ) → length (schedule n first) ≡ length first + n
unfolding schedule
length_schedule zero first = sym (add-zero (length first))
length_schedule (suc n) first =
    length_push (schedule n first) (next_word (schedule n first)) ∙ omega (arith, length_schedule n first)

-- a longer schedule begins with a shorter one
schedule_front : (k n : ℕ) (first : List ℕ) → take (length first + n) (schedule (n + k) first) ≡ schedule n first
schedule_front zero n first =
    let e : length (schedule n first) ≤ length first + n = omega (arith, length_schedule n first) in
    ap (λ j. take (length first + n) (schedule j first)) (add-zero n) ∙ take_all (length first + n) (schedule n first) e
schedule_front (suc k) n first =
    let e : length first + n ≤ length (schedule (n + k) first) = omega (arith, length_schedule (n + k) first) in
    ap (λ j. take (length first + n) (schedule j first)) (add-suc n k)
    ∙ (ap (take (length first + n)) (schedule_more (n + k) first)
    ∙ (take-append-le (length first + n) (schedule (n + k) first) (next_word (schedule (n + k) first) ∷ []) e ∙ schedule_front k n first))

-- the words that are there are those of the whole schedule
pub schedule_part : (w first : List ℕ) (t n k : ℕ) → length first ≡ 16 → t ≤ n + 16 → take (n + 16) w ≡ schedule n first
    → take t w ≡ take t (schedule (n + k) first)
schedule_part w first t n k len low e =
    let f : take (n + 16) (schedule (n + k) first) ≡ schedule n first =
    ap (λ j. take j (schedule (n + k) first)) (omega arith) ∙ schedule_front k n first in
    sym (take-take t (n + 16) w low) ∙ (ap (take t) (e ∙ sym f) ∙ take-take t (n + 16) (schedule (n + k) first) low)

-- a word within two equal fronts
pub same_word : (n i : ℕ) (xs ys : List ℕ) → i < n → take n xs ≡ take n ys → get_or xs i 0 ≡ get_or ys i 0
same_word n i xs ys low e = sym (get_or-take n xs i 0 low) ∙ (ap (λ x. get_or x i 0) e ∙ get_or-take n ys i 0 low)

pub length_words : (n : ℕ) (block : List ℕ) → length (words_of n block) ≡ n
unfolding words_of
length_words zero block = refl
length_words (suc n) block = length_push (words_of n block) (field 4 block (4 * n)) ∙ omega (arith, length_words n block)
