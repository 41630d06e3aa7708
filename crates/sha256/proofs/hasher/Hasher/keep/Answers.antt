use Rattle.std.proofs.Common.{◌≡◌, ℕ, ◌+◌, ◌-◌, ◌%◌, ◌^◌, ◌<◌, ◌≤◌, List, ◌++◌, length, take, sym, refl, ap, ◌∙◌, subst, arith}
use borrow.Rule.Slice.PartMut.{put_mid}
use Rattle.std.proofs.lemmas.List.{length-append, length-take, length-drop, take_all}
use Rattle.std.proofs.lemmas.Slice.{take-put_mid}
use Rattle.sha256.specs.Streaming.{Kept}
use Rattle.sha256.proofs.Stream.{begun, completed}
use Rattle.sha256.proofs.hasher.Hasher.keep.Goals as goal

-- the buffer's bytes in use after the copy
copied : (m buffer part ys : List ℕ) (used w : ℕ) → used ≡ length m % 64 → ys ≡ part → used ≤ length buffer
    → take (length m % 64 + length part) (put_mid used w buffer ys) ≡ take (length m % 64) buffer ++ part
copied m buffer part ys used w u y low =
    let n : length m % 64 + length part ≡ used + length ys = omega (arith, ap length y) in
    let a : take (length m % 64 + length part) (put_mid used w buffer ys) ≡ take used buffer ++ ys = take-put_mid used w buffer ys (length m % 64 + length part) n low in
    a ∙ (ap (λ i. take i buffer ++ ys) u ∙ ap (λ x. take (length m % 64) buffer ++ x) y)

copied_length : (buffer ys : List ℕ) (used w : ℕ) → length buffer ≡ 64 → used + w ≡ 64 → length ys ≡ w → length (put_mid used w buffer ys) ≤ 64
copied_length buffer ys used w b e l = simp (length-append, length-take, length-drop) (omega arith)

pub returns-else-end-eq64 : goal.returns-else-end-eq64
returns-else-end-eq64 c =
    let s = c.args.self.now in
    let part = c.args.part.now in
    let used = c.used-used.result in
    let ys = c.copy_from_slice.new.self in
    let len : length s.buffer ≡ 64 = omega arith in
    record {
      count = refl;
      holds = λ m k.
          let u : used ≡ length m % 64 = omega (arith, k.size, c.used-used.ensures) in
          let l : used ≤ length s.buffer = omega arith in
          let small : length m % 64 + length part < 64 = omega (arith, c.requires, c.if-end-eq64.false) in
          begun s.state s.buffer s.count m part k _ small
          (copied m s.buffer part ys used ((used + length part) - used) u c.copy_from_slice.ensures.after l);
    }

pub returns-then-end-eq64 : goal.returns-then-end-eq64
returns-then-end-eq64 c =
    let s = c.args.self.now in
    let part = c.args.part.now in
    let used = c.used-used.result in
    let ys = c.copy_from_slice.new.self in
    let w = (used + length part) - used in
    let b = put_mid used w s.buffer ys in
    let len : length s.buffer ≡ 64 = omega arith in
    record {
      count = refl;
      holds = λ m k.
          let u : used ≡ length m % 64 = omega (arith, k.size, c.used-used.ensures) in
          let l : used ≤ length s.buffer = omega arith in
          let full : length m % 64 + length part ≡ 64 = omega (arith, c.if-end-eq64.true) in
          let y = c.copy_from_slice.ensures.after in
          let sum : used + w ≡ 64 = omega arith in
          let same : length ys ≡ w = omega (arith, ap length y) in
          let fits : length b ≤ length m % 64 + length part = omega (arith, copied_length s.buffer ys used w len sum same) in
          let e : b ≡ take (length m % 64) s.buffer ++ part =
          sym (take_all (length m % 64 + length part) b fits) ∙ copied m s.buffer part ys used w u y l in
          subst (λ x. Kept x b ((s.count + length part) % 2 ^ 64) (m ++ part)) (sym c.compress-self.ensures)
          (completed s.state s.buffer s.count m part k b b full e);
    }
