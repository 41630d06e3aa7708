use Rattle.std.proofs.Common.{◌≡◌, ◌<◌, length, take, sym, ap, ◌∙◌, arith}
use Rattle.std.proofs.lemmas.List.{set_past, length-take-le}
use Rattle.std.proofs.lemmas.Option.{slice_get_within}
use Rattle.ordered.specs.Rows.{Rows}
use Rattle.ordered.proofs.Shift.{none_past}
use Rattle.ordered.proofs.table.Table.replace.Goals as goal

pub returns-in_err-taken-clause-after : goal.returns-in_err-taken-clause-after
returns-in_err-taken-clause-after g c =
    let s = c.args.self.now in
    let to : _ → Rows _ = λ xs. record { records = xs; capacity = s.capacity; free = s.free } in
    sym (ap to (set_past s.records c.args.at c.args.item (none_past s.records c.args.at (sym c.get.ensures ∙ c.in_err-taken.was))))

pub replace-requires : goal.replace-requires
replace-requires g c =
    let s = c.args.self.now in
    let below : c.args.at < length s.records = slice_get_within s.records c.args.at c.in_ok-taken.taken (sym c.get.ensures ∙ c.in_ok-taken.was) in
    let len : length (take c.self.inside.len c.self.inside.slots.now) ≡ c.self.inside.len = length-take-le c.self.inside.len c.self.inside.slots.now c.self.invariant in
    (omega (arith, below, len, ap (λ t. length t.records) c.self.view_is), c.self.invariant)
