use Rattle.std.proofs.Common.{◌≡◌, ◌-◌, ◌<◌, ◌≤◌, List, length, take, drop, sym, ap, ◌∙◌, arith, rules}
use Rattle.std.specs.List.{remove}
use Rattle.std.proofs.lemmas.List.{length-take-le}
use Rattle.std.proofs.lemmas.Option.{slice_get_within}
use Rattle.ordered.proofs.Shift.{none_past, remove_past, taken_out, none_out}
use Rattle.ordered.proofs.table.Table.remove.Goals as goal

pub returns-in_err-taken-clause-after : goal.returns-in_err-taken-clause-after
returns-in_err-taken-clause-after g c =
    let s = c.args.self.now in
    let past : length s.records ≤ c.args.at = none_past s.records c.args.at (sym c.get.ensures ∙ c.in_err-taken.was) in
    λ i. record { records = sym (remove_past s.records c.args.at past) i; capacity = s.capacity; free = sym (none_out s.records s.free c.args.at past) i }

pub remove-requires : goal.remove-requires
remove-requires g c =
    let s = c.args.self.now in
    let below : c.args.at < length s.records = slice_get_within s.records c.args.at c.in_ok-taken.taken (sym c.get.ensures ∙ c.in_ok-taken.was) in
    let len : length (take c.self.inside.len c.self.inside.slots.now) ≡ c.self.inside.len = length-take-le c.self.inside.len c.self.inside.slots.now c.self.invariant in
    (omega (arith, below, len, ap (λ t. length t.records) c.self.view_is), c.self.invariant)

pub returns-clause-after : goal.returns-clause-after
returns-clause-after g c =
    let s = c.args.self.now in
    let xs = c.self.inside.slots.now in
    let n = c.self.inside.len in
    let below : c.args.at < length s.records = slice_get_within s.records c.args.at c.in_ok-taken.taken (sym c.get.ensures ∙ c.in_ok-taken.was) in
    let lt : c.args.at < n = omega (arith, below, length-take-le n xs c.self.invariant, ap (λ t. length t.records) c.self.view_is) in
    let out : (ys : List g.row.R.Denot) → length ys ≡ length xs → take (n - 1) ys ≡ remove (take n xs) c.args.at → drop (n - 1) ys ≡ drop (n - 1) xs → _ =
    λ ys same. taken_out xs ys n c.args.at s c.self.view_is same lt c.self.invariant in
    search (rules, out)
