use Rattle.std.proofs.Common.{◌≡◌, ℕ, ◌+◌, ◌<◌, ◌≤◌, List, [], ◌++◌, map, length, get_or, take, sym, ap, ◌∙◌, subst, inl, inr, arith}
use Rattle.std.proofs.lemmas.List.{length-map, length-take-le, get_or-take, drop_all, append-nil}
use Rattle.std.proofs.lemmas.Bool.{cases_lt}
use Rattle.hashed_store.specs.declared.entry.Entry.{Entry}
use Rattle.hashed_store.specs.Index.{number}
use Rattle.hashed_store.specs.Probing.{seen}
use Rattle.hashed_store.proofs.Probes.{probe_pass, probe_stop, number_at, filled_high, filled_low}
use Rattle.hashed_store.proofs.tables.probe_from.Goals as goal

-- the number in a slot below h, read from the first h numbers
low_at : (xs : List Entry) (h k : ℕ) → k < h → h ≤ length xs → (get_or (take h (map number xs)) k 0 ≡ (get_or xs k (record { number = 0; slot = 0 })).number) × (k < length (take h (map number xs)))
low_at xs h k lt le =
    (get_or-take h (map number xs) k 0 lt ∙ number_at xs k _ (omega arith), omega (arith, length-take-le h (map number xs) (omega (arith, length-map xs number))))

-- one index more
more : (P : ℕ → Type 0) (j i : ℕ) → (i < j → P i) → P j → i < j + 1 → P i
more P j i below here l = elim (cases_lt i j) [ inl h ↦ below h | inr g ↦ let e : j ≡ i = omega arith in subst P e here ]

pub returns-then-a-number : goal.returns-then-a-number
returns-then-a-number c = (c.loop-j-test.true, number_at _ _ _ c.loop-j-test.true ∙ c.if-a-number.true)

pub returns-then-a-eq0 : goal.returns-then-a-eq0
returns-then-a-eq0 c =
    let e = number_at c.args.buckets.now c.loop-j.j (record { number = 0; slot = 0 }) c.loop-j-test.true in
    let lt : c.loop-j.j < length (map number c.args.buckets.now) = omega (arith, length-map c.args.buckets.now number) in (
      c.loop-j-test.true,
      e ∙ c.if-a-eq0.true,
      sym c.loop-j.invariant.0 ∙ probe_stop c.args.number (map number c.args.buckets.now) _ c.loop-j.j lt (λ q. c.if-a-number.false (sym e ∙ q)) (e ∙ c.if-a-eq0.true),
      filled_high c.args.number c.args.h c.loop-j.j (map number c.args.buckets.now) (omega arith) lt c.loop-j.invariant.1,
    )

pub loop-j-preserved : goal.loop-j-preserved
loop-j-preserved c =
    let e = number_at c.args.buckets.now c.loop-j.j (record { number = 0; slot = 0 }) c.loop-j-test.true in
    let here : 0 < get_or (map number c.args.buckets.now) c.loop-j.j 0 = rw e (omega (arith, c.if-a-eq0.false)) in (
      probe_pass c.args.number (map number c.args.buckets.now) _ c.loop-j.j (omega (arith, length-map c.args.buckets.now number)) (λ q. c.if-a-number.false (sym e ∙ q)) (λ q. c.if-a-eq0.false (sym e ∙ q)) ∙ c.loop-j.invariant.0,
      λ i g l. more (λ i. 0 < get_or (map number c.args.buckets.now) i 0) c.loop-j.j i (c.loop-j.invariant.1 i g) here l,
    )

pub loop-k-init : goal.loop-k-init
loop-k-init c =
    let d = drop_all c.loop-j.j (map number c.args.buckets.now) (omega (arith, length-map c.args.buckets.now number)) in (
      ap (λ l. seen c.args.number l) (append-nil (take c.args.h (map number c.args.buckets.now)))
          ∙ ap (λ l. seen c.args.number (l ++ take c.args.h (map number c.args.buckets.now))) (sym d)
          ∙ c.loop-j.invariant.0,
      (λ i g l. c.loop-j.invariant.1 i g (omega (arith, length-map c.args.buckets.now number))),
      λ i l. omega arith,
    )

pub returns-then-a-number-2 : goal.returns-then-a-number-2
returns-then-a-number-2 c =
    let lt : c.loop-k.k < length c.args.buckets.now = omega arith in
    (lt, number_at _ _ _ lt ∙ c.if-a-number-2.true)

pub returns-then-a-eq0-2 : goal.returns-then-a-eq0-2
returns-then-a-eq0-2 c =
    let e = low_at c.args.buckets.now c.args.h c.loop-k.k c.loop-k-test.true c.requires.0 in
    let le : c.args.h ≤ length (map number c.args.buckets.now) = omega (arith, length-map c.args.buckets.now number) in
    let lt : c.loop-k.k < length c.args.buckets.now = omega arith in (
      lt,
      number_at _ _ _ lt ∙ c.if-a-eq0-2.true,
      sym c.loop-k.invariant.0 ∙ probe_stop c.args.number (take c.args.h (map number c.args.buckets.now)) [] c.loop-k.k e.1 (λ q. c.if-a-number-2.false (sym e.0 ∙ q)) (e.0 ∙ c.if-a-eq0-2.true),
      filled_low c.args.number c.args.h c.loop-k.k (map number c.args.buckets.now) c.loop-k-test.true le c.loop-k.invariant.1 c.loop-k.invariant.2,
    )

pub loop-k-preserved : goal.loop-k-preserved
loop-k-preserved c =
    let e = low_at c.args.buckets.now c.args.h c.loop-k.k c.loop-k-test.true c.requires.0 in
    let lt : c.loop-k.k < length c.args.buckets.now = omega arith in
    let f = number_at c.args.buckets.now c.loop-k.k (record { number = 0; slot = 0 }) lt in
    let here : 0 < get_or (map number c.args.buckets.now) c.loop-k.k 0 = rw f (omega (arith, c.if-a-eq0-2.false)) in (
      probe_pass c.args.number (take c.args.h (map number c.args.buckets.now)) [] c.loop-k.k e.1 (λ q. c.if-a-number-2.false (sym e.0 ∙ q)) (λ q. c.if-a-eq0-2.false (sym e.0 ∙ q)) ∙ c.loop-k.invariant.0,
      c.loop-k.invariant.1,
      λ i l. more (λ i. 0 < get_or (map number c.args.buckets.now) i 0) c.loop-k.k i (c.loop-k.invariant.2 i) here l,
    )

pub returns : goal.returns
returns c =
    let le = length-take-le c.args.h (map number c.args.buckets.now) (omega (arith, length-map c.args.buckets.now number)) in
    let d = drop_all c.loop-k.k (take c.args.h (map number c.args.buckets.now)) (omega arith) in (
      sym c.loop-k.invariant.0 ∙ ap (λ l. seen c.args.number (l ++ [])) d,
      λ i l. elim (cases_lt i c.args.h) [ inl b ↦ c.loop-k.invariant.2 i (omega arith) | inr g ↦ c.loop-k.invariant.1 i g l ],
    )
