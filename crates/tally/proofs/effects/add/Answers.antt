use Rattle.std.proofs.Common.{◌≡◌, length, sym, ◌∙◌, rules}
use Rattle.tally.proofs.Merge.{put_merged, put_first, put_new}
use Rattle.tally.proofs.effects.add.Goals as goal
use Rattle.tally.proofs.effects.add.Goals.{in_default-via-in-None-1, in_default-via-in-Some+else-not-precedes}

pub returns-clause-nets : goal.returns-clause-nets
returns-clause-nets g c =
    let to = c.args.nets.now.items in
    c.set_last.ensures ∙ put_merged g.K.SortKey.rank to c.in-Some.last c.args.e c.in-Some.ensures.0 c.in-Some.ensures.1 (sym c.precedes.ensures ∙ c.if-not-precedes.true)

pub returns-2-clause-nets : goal.returns-2-clause-nets
returns-2-clause-nets g c =
    let w = g.K.SortKey.rank in
    let to = c.args.nets.now.items in
    c.push.ensures
    ∙ elim c.in_default.branch [
      | in_default-via-in-None-1 v ↦
          let none : length to ≡ 0 = search rules in
          put_first w to c.args.e none
      | in_default-via-in-Some+else-not-precedes v ↦ put_new w to v.in-Some.last c.args.e v.in-Some.ensures.0 v.in-Some.ensures.1 (sym v.precedes.ensures ∙ v.if-not-precedes.false)
    ]
