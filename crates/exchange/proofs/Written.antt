-- The worked cases from bytes. Assumes nothing.
use Rattle.std.proofs.Common.{◌≡◌, ℕ, ◌+◌, ◌*◌, ◌<◌, ◌≤◌, Bool, true, false, cond, eqb, ltb, leb, List, [], ◌∷◌, ◌++◌, length, get_or, take, replicate, Some, None, Ok, sum_by, count_by, sym, refl, ap, ◌∙◌, subst, inl, inr, arith, lit≤}
use Rattle.std.specs.List.{flat_map}
use Rattle.std.proofs.ByRecursion.{all-has, All-get_or}
use Rattle.std.proofs.lemmas.List.Sums.{sum_by-cons, sum_by-append}
use Rattle.std.proofs.lemmas.Bool.{and_parts, true≢false, ltb-true}
use Rattle.std.proofs.lemmas.Bool.Decides.{nat_tests}
use Rattle.commands.specs.Format.{Cmd, begin, price, volume, transaction, found, end, command_at, width_at, lettered, whole, begin_at, price_at, volume_at, create_at, pay_at, place_at, cancel_at, found_at}
use Rattle.blocks.specs.Readable.{Block, Readable, Founds, Refused, is_begin, Stand, heights, prices}
use Rattle.blocks.specs.Readable.Flaw.{missing}
use Rattle.exchange.specs.State.{no_counts, newborn}
use Rattle.exchange.specs.Faults.{fault, granted, Verdict, FoundingVerdict}
use Rattle.exchange.specs.Faults.Objection.{bad_grant, too_many_grants, excess_grants}
use Rattle.exchange.specs.Commit.{Founded, one_passed}
use Rattle.exchange.specs.Life.{Runs, birth, life}
use Rattle.exchange.specs.Life.Event.{found as founds, check, fill, commit}
use Rattle.exchange.specs.Life.Answer.{done, checked, filled}
use Rattle.exchange.specs.Cases.{Cases, founded_digest, start, after, grants, grant, balances, store_of, book_of, block_of, trade, offer, offers, key_of, founding_bytes, trade_bytes, smallest}
use Rattle.exchange.specs.Cases as cases
use Rattle.exchange.proofs.Digests.{digest_founded}
use Rattle.exchange.proofs.Rising.{sum_by_same, sum_by_grows, sum_by_plus, all_of}
use Rattle.exchange.proofs.Sums.{sum_by_joined, sum_by_scale, ones}
use Rattle.exchange.proofs.Causes.{clean_counted}
use Rattle.exchange.proofs.Conserve.{read_fits}
use Rattle.exchange.proofs.Worked.{too_little, too_much, numbers_good, numbers_used, overspent, even, uneven, trade_good, committed, checked_start}

pub founding_reads : Founds founding_bytes grants
founding_reads = record {
  short = lit≤ tt;
  commands = found (grant 1 1000 0) ∷ found (grant 2 0 1000) ∷ found (grant 3 67 0) ∷ [];
  good = record { stand = (refl, refl, (refl, refl, (refl, refl, (refl, refl, refl)))); turn = (refl, (refl, (refl, (refl, tt)))); ranges = (refl, (refl, (refl, (refl, tt)))); few = lit≤ tt };
  granted = refl;
}

pub smallest_reads : Readable smallest (block_of (replicate 32 0) [] [])
smallest_reads = record {
  short = lit≤ tt;
  commands = begin 1 (replicate 32 0) ∷ price 0 3 ∷ price 1 2 ∷ price 2 1 ∷ price 3 1 ∷ price 4 1 ∷ price 5 1 ∷ price 6 1 ∷ price 7 1 ∷ [];
  good = record { stand = (refl, refl, (refl, refl, (refl, refl, (refl, refl, (refl, refl, (refl, refl, (refl, refl, (refl, refl, (refl, refl, (refl, refl, refl)))))))))); turn = (refl, (refl, (refl, (refl, (refl, (refl, (refl, (refl, (refl, (refl, tt)))))))))); ranges = (refl, (refl, (refl, (refl, (refl, (refl, (refl, (refl, (refl, (refl, tt)))))))))); few = lit≤ tt };
  height = refl;
  parent = refl;
  priced = refl;
  traded = refl;
  moved = refl;
}

pub trade_reads : Readable trade_bytes (trade 100 150)
trade_reads = record {
  short = lit≤ tt;
  commands =
      begin 1 founded_digest ∷ price 0 3 ∷ price 1 2 ∷ price 2 1 ∷ price 3 1 ∷ price 4 1 ∷ price 5 1 ∷ price 6 1 ∷ price 7 1
      ∷ volume (cases.volume 0 1 100) ∷ volume (cases.volume 1 0 150)
      ∷ transaction (offer 1 0 1 98304 40) [] ∷ transaction (offer 3 0 1 65536 67) [] ∷ transaction (offer 2 1 0 32768 200) [] ∷ [];
  good = record { stand = (refl, refl, (refl, refl, (refl, refl, (refl, refl, (refl, refl, (refl, refl, (refl, refl, (refl, refl, (refl, refl, (refl, refl, (refl, refl, (refl, refl, (refl, refl, (refl, refl, (refl, refl, refl))))))))))))))); turn = (refl, (refl, (refl, (refl, (refl, (refl, (refl, (refl, (refl, (refl, (refl, (refl, (refl, (refl, (refl, tt))))))))))))))); ranges = (refl, (refl, (refl, (refl, (refl, (refl, (refl, (refl, (refl, (refl, (refl, (refl, (refl, (refl, (refl, tt))))))))))))))); few = lit≤ tt };
  height = refl;
  parent = refl;
  priced = refl;
  traded = refl;
  moved = refl;
}

-- The smallest block.

abbrev is_end : Cmd → Bool
is_end (begin h p) = false
is_end (price x p) = false
is_end (volume v) = false
is_end (transaction t m) = false
is_end (found g) = false
is_end end = true

abbrev header : List Cmd
header = begin 1 (replicate 32 0) ∷ price 0 3 ∷ price 1 2 ∷ price 2 1 ∷ price 3 1 ∷ price 4 1 ∷ price 5 1 ∷ price 6 1 ∷ price 7 1 ∷ []

pub endless : Refused is_begin (take 85 smallest) (fault 2 85 0)
endless = inr (
  lit≤ tt,
  record {
    commands = header;
    good = record { stand = (refl, refl, (refl, refl, (refl, refl, (refl, refl, (refl, refl, (refl, refl, (refl, refl, (refl, refl, (refl, refl, refl))))))))); turn = (refl, (refl, (refl, (refl, (refl, (refl, (refl, (refl, (refl, tt))))))))); ranges = (refl, (refl, (refl, (refl, (refl, (refl, (refl, (refl, (refl, tt))))))))); few = lit≤ tt };
    flaw = missing;
    numbered = refl;
    flawed = ((λ h. true≢false (all-has (λ c. is_end c ≡ false) header end (refl, (refl, (refl, (refl, (refl, (refl, (refl, (refl, (refl, tt))))))))) h)), refl, inl (lit≤ tt));
    second = refl;
  },
)

-- the least width of a command
abbrev size : Cmd → ℕ
size (begin h p) = 37
size (price x p) = 6
size (volume v) = 1
size (transaction t m) = 1
size (found g) = 1
size end = 1

-- by its letter
sized : (b p v a t o c g e : Bool) (B P V A T O C G : Cmd)
    → size B ≡ 37 → size P ≡ 6 → size V ≡ 1 → size A ≡ 1 → size T ≡ 1 → size O ≡ 1 → size C ≡ 1 → size G ≡ 1
    → 0 < cond b 37 (cond p 6 (cond v 11 (cond a 13 (cond t 38 (cond o 23 (cond c 19 (cond g 69 (cond e 1 0))))))))
    → size (cond b B (cond p P (cond v V (cond a A (cond t T (cond o O (cond c C (cond g G end))))))))
    ≤ cond b 37 (cond p 6 (cond v 11 (cond a 13 (cond t 38 (cond o 23 (cond c 19 (cond g 69 (cond e 1 0))))))))
sized true p v a t o c g e B P V A T O C G h₁ h₂ h₃ h₄ h₅ h₆ h₇ h₈ w = omega (arith, h₁)
sized false true v a t o c g e B P V A T O C G h₁ h₂ h₃ h₄ h₅ h₆ h₇ h₈ w = omega (arith, h₂)
sized false false true a t o c g e B P V A T O C G h₁ h₂ h₃ h₄ h₅ h₆ h₇ h₈ w = omega (arith, h₃)
sized false false false true t o c g e B P V A T O C G h₁ h₂ h₃ h₄ h₅ h₆ h₇ h₈ w = omega (arith, h₄)
sized false false false false true o c g e B P V A T O C G h₁ h₂ h₃ h₄ h₅ h₆ h₇ h₈ w = omega (arith, h₅)
sized false false false false false true c g e B P V A T O C G h₁ h₂ h₃ h₄ h₅ h₆ h₇ h₈ w = omega (arith, h₆)
sized false false false false false false true g e B P V A T O C G h₁ h₂ h₃ h₄ h₅ h₆ h₇ h₈ w = omega (arith, h₇)
sized false false false false false false false true e B P V A T O C G h₁ h₂ h₃ h₄ h₅ h₆ h₇ h₈ w = omega (arith, h₈)
sized false false false false false false false false e B P V A T O C G h₁ h₂ h₃ h₄ h₅ h₆ h₇ h₈ w = w

size_at : (bs : List ℕ) (at : ℕ) → whole bs at ≡ true → size (command_at bs at) ≤ width_at bs at
size_at bs at e =
    let (l, _) = and_parts (lettered bs at) (leb (at + width_at bs at) (length bs)) e in
    let (_, w) = and_parts (ltb at (length bs)) (ltb 0 (width_at bs at)) l in
    let c = get_or bs at 0 in
    sized (eqb c 66) (eqb c 80) (eqb c 86) (eqb c 65) (eqb c 84) (eqb c 79) (eqb c 67) (eqb c 71) (eqb c 69)
    (begin_at bs at) (price_at bs at) (volume_at bs at) (create_at bs at) (pay_at bs at) (place_at bs at) (cancel_at bs at) (found_at bs at)
    refl refl refl refl refl refl refl refl (ltb-true 0 (width_at bs at) w)

stand_size : (bs : List ℕ) (cs : List Cmd) (at to : ℕ) → Stand bs at cs to → at + sum_by size cs ≤ to
stand_size bs [] at to e = omega (arith, e)
stand_size bs (c ∷ cs) at to (w, e, h) =
    omega (arith, sum_by-cons size c cs, stand_size bs cs (at + width_at bs at) to h, subst (λ z. size z ≤ width_at bs at) e (size_at bs at w))

size_is : (c : Cmd) → 37 * length (heights c) + 6 * length (prices c) ≤ size c
size_is (begin h p) = lit≤ tt
size_is (price x p) = lit≤ tt
size_is (volume v) = lit≤ tt
size_is (transaction t m) = lit≤ tt
size_is (found g) = lit≤ tt
size_is end = lit≤ tt

lengths : {Y : Type 0} (g : Cmd → List Y) (cs : List Cmd) → length (flat_map g cs) ≡ sum_by (λ c. length (g c)) cs
lengths g cs = ones (flat_map g cs) ∙ sum_by_joined (λ _. 1) g cs
    ∙ sum_by_same _ _ cs (all_of _ (λ c. sym (ones (g c))) cs)

pub none_smaller : (bs : List ℕ) (b : Block) → Readable bs b → 86 ≤ length bs
none_smaller bs b r =
    let cs = r.commands in
    omega (
      arith,
      stand_size bs (cs ++ end ∷ []) 0 (length bs) r.good.stand,
      sum_by-append size cs (end ∷ []),
      sum_by_grows (λ c. 37 * length (heights c) + 6 * length (prices c)) size cs (all_of _ size_is cs),
      sum_by_plus (λ c. 37 * length (heights c)) (λ c. 6 * length (prices c)) cs,
      sum_by_scale 37 (λ c. length (heights c)) cs,
      sum_by_scale 6 (λ c. length (prices c)) cs,
      lengths heights cs,
      lengths prices cs,
      ap length r.height,
      ap length r.priced,
      (read_fits bs b r).eight,
    )

-- The founding.

small : (x : ℕ) → x < 8 → granted grants x ≤ 3000
small x l =
    omega (
      arith,
      All-get_or (λ v. v ≤ 1000) (balances 1000 0) x 0 l (lit≤ tt, (lit≤ tt, (lit≤ tt, (lit≤ tt, (lit≤ tt, (lit≤ tt, (lit≤ tt, (lit≤ tt, tt)))))))),
      All-get_or (λ v. v ≤ 1000) (balances 0 1000) x 0 l (lit≤ tt, (lit≤ tt, (lit≤ tt, (lit≤ tt, (lit≤ tt, (lit≤ tt, (lit≤ tt, (lit≤ tt, tt)))))))),
      All-get_or (λ v. v ≤ 1000) (balances 67 0) x 0 l (lit≤ tt, (lit≤ tt, (lit≤ tt, (lit≤ tt, (lit≤ tt, (lit≤ tt, (lit≤ tt, (lit≤ tt, tt)))))))),
    )

once_granted : (n : ℕ) → count_by (λ g. eqb g.account n) grants ≤ 1
once_granted n = grind (arith, nat_tests)

founding_good : FoundingVerdict (store_of []) grants None
founding_good f (bad_grant, e, (g, m, i, inl p, q)) =
    omega (arith, i, p, all-has (λ h. h.account ≤ 3) grants g (lit≤ tt, (lit≤ tt, (lit≤ tt, tt))) m)
founding_good f (bad_grant, e, (g, m, i, inr p, q)) = omega (arith, p, once_granted f.first)
founding_good f (too_many_grants, e, (p, q, r)) = omega arith
founding_good f (excess_grants, e, (p, q, r)) = omega (arith, q, small f.first p)

founded : Founded (newborn (store_of []) (book_of [])) grants start
founded = record {
  ordered = record { accounts = ((refl, (refl, tt)), ((refl, tt), (tt, tt))); offers = tt; eight = (refl, (refl, (refl, tt))); some = tt; remainders = refl };
  capacities = record { accounts = refl; top = refl; offers = refl };
  stand = λ n. grind (arith, nat_tests);
  unused = λ n. grind (arith, nat_tests);
  balances = λ n x l. grind (arith, nat_tests);
  none = refl;
  founded = refl;
  height = refl;
  remainders = refl;
  digest = digest_founded;
  counts = refl;
}

-- The run.

good : Verdict checked_start (trade 100 150) None
good = clean_counted start (one_passed no_counts) (trade 100 150) trade_good

pub by_hand : Runs (birth (store_of []) (book_of []))
    (founds founding_bytes ∷ check trade_bytes ∷ fill 0 (key_of 0 1 98304 1) ∷ commit 0 ∷ [])
    (done ∷ checked 0 ∷ filled 33 49 ∷ done ∷ [])
    (life after (None ∷ []) grants)
by_hand = (
  life start [] grants,
  (Ok grants, (founding_reads, founding_good), refl, founded, refl, refl),
  (
    life checked_start (Some trade_bytes ∷ []) grants,
    (Ok (trade 100 150), (trade_reads, trade_good), refl, refl, refl, refl),
    (
      life checked_start (Some trade_bytes ∷ []) grants,
      (trade_bytes, refl, (Ok (trade 100 150), (trade_reads, good), refl, refl)),
      (
        life after (None ∷ []) grants,
        (trade_bytes, refl, (Ok (trade 100 150), (trade_reads, good), refl, committed, refl, refl)),
        refl,
      ),
    ),
  ),
)

pub cases_hold : Cases
cases_hold = record {
  at_the_limit = refl;
  above_the_limit = refl;
  rounded_down = refl;
  rounded_to_nothing = refl;
  too_little = too_little;
  too_much = too_much;
  window_0 = refl;
  window_1 = refl;
  window_64 = refl;
  window_65 = refl;
  numbers_good = numbers_good;
  numbers_used = numbers_used;
  overspent = overspent;
  even = even;
  uneven = uneven;
  smallest_reads = smallest_reads;
  smallest_length = refl;
  none_smaller = none_smaller;
  endless = endless;
  unfounded = λ bs. refl;
  unfounded_held = λ bs. refl;
  store_in_use = λ bs. refl;
  book_in_use = λ bs. refl;
  founded_before = λ bs. refl;
  all_passed = λ bs. refl;
  lapsed_stops = refl;
  rejected_stops = refl;
  no_digest = refl;
  by_hand = by_hand;
}
