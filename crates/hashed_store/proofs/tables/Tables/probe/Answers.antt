use Rattle.std.proofs.Common.{map, ap, ◌∙◌, arith}
use Rattle.std.proofs.lemmas.List.{nil_from_length, length-map}
use Rattle.hashed_store.specs.Index.{number}
use Rattle.hashed_store.specs.Probing.{has}
use Rattle.hashed_store.proofs.Probes.{seen_none, has_turned}
use Rattle.hashed_store.proofs.tables.Tables.probe.Goals as goal

-- where there is no bucket, nothing is met
pub returns-then-size-eq0 : goal.returns-then-size-eq0
returns-then-size-eq0 c =
    let nil = nil_from_length c.args.self.now.buckets.now c.if-size-eq0.true in (
      seen_none c.args.number _ (has_turned c.args.number _ (map number c.args.self.now.buckets.now) ∙ ap (λ xs. has c.args.number (map number xs)) nil),
      λ i h. absurd (omega (arith, length-map c.args.self.now.buckets.now number)),
    )
