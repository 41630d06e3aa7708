use Rattle.std.proofs.Common.{◌≡◌, ℕ, ◌+◌, ◌-◌, ◌*◌, ◌≤◌, List, take, sym, ap, ◌∙◌, subst, arith}
use Rattle.sha256.specs.Padding.{words_of}
use Rattle.sha256.specs.Compression.{schedule, rounds_of}
use Rattle.sha256.proofs.Schedule.{rounds_none, schedule_none, schedule_part, length_words}
use Rattle.sha256.proofs.compress.rounds.Goals as goal

-- the first t words of the whole schedule, where 16 + n are written
part : (w block : List ℕ) (t n : ℕ) → t ≤ n + 16 → n ≤ 48 → take (n + 16) w ≡ schedule n (words_of 16 block)
    → take t w ≡ take t (schedule 48 (words_of 16 block))
part w block t n low high e =
    let k : n + (48 - n) ≡ 48 = omega arith in
    schedule_part w (words_of 16 block) t n (48 - n) (length_words 16 block) low e
    ∙ ap (λ j. take t (schedule j (words_of 16 block))) k

pub loop-i-init : goal.loop-i-init
loop-i-init c = (omega arith, c.load-w.ensures ∙ sym (schedule_none _), sym (rounds_none _ _))

pub loop-i-preserved : goal.loop-i-preserved
loop-i-preserved c =
    let i = c.loop-i.i in
    let block = c.args.block.now in
    let w = c.extend.new.w in
    let first = words_of 16 block in
    let a : 8 * i + 24 ≡ (8 * i + 8) + 16 = omega arith in
    let b : 8 * i + 8 ≡ 8 * (i + 1) = omega arith in
    let longer : take ((8 * i + 8) + 16) w ≡ schedule (8 * i + 8) first =
    ap (λ j. take j w) (sym a) ∙ c.extend.ensures first c.loop-i.invariant.1 in
    let there : take (8 * i + 8) w ≡ take (8 * i + 8) (schedule 48 first) = part w block (8 * i + 8) (8 * i + 8) (omega arith) (omega arith) longer in
    let more = c.eight-s.ensures c.args.start (schedule 48 first) there c.loop-i.invariant.2 in (
      c.extend.array_long,
      subst (λ k. take (k + 16) w ≡ schedule k first) b longer,
      more ∙ ap (λ k. rounds_of k (schedule 48 first) c.args.start) b,
    )

pub returns : goal.returns
returns c =
    let i : c.loop-i.i ≡ 6 = omega arith in
    let block = c.args.block.now in
    let w = c.loop-i.w in
    let start = c.args.start in
    let all = schedule 48 (words_of 16 block) in
    let full : take 64 w ≡ all = subst (λ k. take (8 * k + 16) w ≡ schedule (8 * k) (words_of 16 block)) i c.loop-i.invariant.1 in
    let s : c.loop-i.s ≡ rounds_of 48 all start = subst (λ k. c.loop-i.s ≡ rounds_of (8 * k) all start) i c.loop-i.invariant.2 in
    let most = c.eight-last.ensures start all (part w block 56 48 (omega arith) (omega arith) full) s in
    c.eight.ensures start all (part w block 64 48 (omega arith) (omega arith) full) most
