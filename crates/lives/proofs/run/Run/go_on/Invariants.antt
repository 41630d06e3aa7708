use Rattle.std.proofs.Common.{◌≡◌, [], map, take, vec_items}
use Rattle.terms.specs.Holdings.{Store, Book}
use Rattle.exchange.specs.State.{newborn}
use Rattle.lives.specs.Events.{event_of, answer_of}
use Rattle.lives.specs.Steps.{Come}
use Rattle.lives.proofs.run.Run.go_on.Given as goal

abbrev pub invariant-loop-event : goal.invariant-loop-event
invariant-loop-event g l =
    (st : Store) (bk : Book) → l.initial.self.replica ≡ newborn st bk → vec_items l.initial.self.held ≡ [] → vec_items l.initial.answers ≡ []
    → Come st bk (take l.event-index (map event_of l.events)) (map answer_of (vec_items l.answers)) l.self.replica (vec_items l.self.held)
