-- Two lists of events that may come to two replicas side by side, and two runs that agree. Assumes nothing.
use Rattle.std.specs.Prelude.{◌≡◌, true, List, map, length, take}
use Rattle.std.specs.List.{AllZip}
use Rattle.lives.specs.declared.events.Event.{Event}
use Rattle.lives.specs.Events.{Ending, event_of, whole}
use Rattle.exchange.specs.Life.{Answer, Fair}

-- one by one the same, but for the order of transactions within a block and of grants within a founding
abbrev pub Paired : List Event → List Event → Type 0
Paired es fs = AllZip Fair (map event_of es) (map event_of fs)

-- Two runs agree: equal answers to every event that both answered, and to every event where neither ran out of memory.
pub record Agreed (us vs : List Answer) (stop stop' : Ending) : Type 0 where
  pub equal : take (length vs) us ≡ take (length us) vs
  pub all : whole stop ≡ true → whole stop' ≡ true → us ≡ vs
