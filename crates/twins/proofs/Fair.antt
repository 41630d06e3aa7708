-- Events that may come to two replicas side by side, one after the other. Assumes nothing.
use Rattle.std.proofs.Common.{◌≡◌, ℕ, List, [], ◌∷◌, ◌++◌, map, sym, subst}
use Rattle.std.specs.List.{AllZip}
use Rattle.std.proofs.lemmas.List.{map_push}
use Rattle.std.proofs.lemmas.List.Elements.{AllZip-push}
use Rattle.lives.specs.declared.events.Event.{Event}
use Rattle.lives.specs.Events.{event_of}
use Rattle.exchange.specs.Life.{Fair}
use Rattle.twins.specs.Paired.{Paired}

pub paired_push : (es fs gs hs : List Event) (e f : Event) → gs ≡ es ++ e ∷ [] → hs ≡ fs ++ f ∷ []
    → Paired es fs → Fair (event_of e) (event_of f) → Paired gs hs
paired_push es fs gs hs e f p q h fair =
    let k : AllZip Fair (map event_of (es ++ e ∷ [])) (map event_of (fs ++ f ∷ [])) =
    rw (map_push event_of es e, map_push event_of fs f) (AllZip-push Fair (map event_of es) (map event_of fs) (event_of e) (event_of f) h fair) in
    subst (λ l. Paired l hs) (sym p) (subst (λ l. Paired (es ++ e ∷ []) l) (sym q) k)
