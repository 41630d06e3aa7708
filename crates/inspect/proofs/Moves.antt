-- Reading a command moves on within the bytes. Assumes nothing.
use Rattle.std.proofs.Common.{◌≡◌, ℕ, ◌+◌, ◌-◌, ◌<◌, Bool, true, false, cond, ◌&&◌, not, ltb, List, length, Ok, Result, sym, refl, ◌∙◌, arith}
use Rattle.terms.specs.declared.Fault.{Fault}
use Rattle.commands.specs.Format.{Cmd, Outcome, got, refused, fit, ranged, cut, outcome, whole, lettered, width_at, command_at}
use Rattle.commands.specs.Shown.{shown, told}
use Rattle.commands.specs.declared.command.Reading.{Reading}
use Rattle.commands.proofs.Cuts.{whole_moves}

when_fit : (b : Bool) (c d : Cmd) (n m at : ℕ) → got c n ≡ cond b (got d m) (refused 5 at 0) → got c n ≡ got d m
when_fit true c d n m at e = e
when_fit false c d n m at e = absurd (let z : ◌≡◌ {A = ℕ} 0 1 = cc in omega arith)

ranged_got : (at : ℕ) (o : Outcome) (c : Cmd) (n : ℕ) → got c n ≡ ranged at o → got c n ≡ o
ranged_got at (got d m) c n e = when_fit (fit d) c d n m at e
ranged_got at (refused k i j) c n e = e

when_whole : (b d : Bool) (c x : Cmd) (n m i : ℕ) → got c n ≡ cond b (got x m) (cond d (refused 3 i 0) (refused 2 i 0))
    → (b ≡ true) × (m ≡ n)
when_whole true d c x n m i e = (refl, (cc))
when_whole false true c x n m i e = absurd (let z : ◌≡◌ {A = ℕ} 0 1 = cc in omega arith)
when_whole false false c x n m i e = absurd (let z : ◌≡◌ {A = ℕ} 0 1 = cc in omega arith)

pub read_moves : (r : Result Reading Fault) (bs : List ℕ) (at : ℕ) (x : Reading) → told r ≡ outcome bs at → r ≡ Ok x
    → length bs - x.next < length bs - at
read_moves r bs at x e p =
    let q : told (Ok x) ≡ outcome bs at = (λ i. told (sym p i)) ∙ e in
    let cut_so = ranged_got at (cut bs at) (shown x.command) x.next q in
    let w =
    when_whole (whole bs at) (ltb at (length bs) && not (lettered bs at)) (shown x.command) (command_at bs at) x.next
    (at + width_at bs at) at cut_so in
    let m = whole_moves bs at w.0 in
    let t : at + width_at bs at ≡ x.next = w.1 in
    omega (arith, m.0, m.1, t)
