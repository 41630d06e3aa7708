use Rattle.std.proofs.Common.{◌≡◌, ◌-◌, length, take, set, sym, ap, ◌∙◌, subst, arith}
use Rattle.std.proofs.lemmas.List.{length-take-le}
use Rattle.ordered.proofs.Shift.{put_is}
use Rattle.tally.proofs.memory.Memory.set_last.Goals as goal

pub returns : goal.returns
returns g c =
    let s = c.self.inside in
    let len : length (take s.len s.slots) ≡ s.len = length-take-le s.len s.slots (omega arith) in
    let some = ap (λ v. length v.items) c.self.view_is in
    subst (λ v. take s.len (set s.slots (s.len - 1) c.args.x) ≡ set v.items (length v.items - 1) c.args.x) c.self.view_is
    (put_is s.slots s.len (s.len - 1) c.args.x (omega (arith, some, len)) ∙ ap (λ n. set (take s.len s.slots) (n - 1) c.args.x) (sym len))
