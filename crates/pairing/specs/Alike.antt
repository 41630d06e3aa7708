-- When two byte strings say alike, by what was read of them. Assumes nothing.
use Rattle.std.proofs.Common.{◌≡◌, ℕ, ◌⊎◌, List, refl, subst, inl, inr}
use Rattle.std.specs.List.Sorted.{IsPermutation}
use Rattle.terms.specs.declared.Fault.{Fault}
use Rattle.terms.specs.declared.Grant.{Grant}
use Rattle.blocks.specs.Readable.{Block, Readable, Founds, Refused, is_begin, is_grant}
use Rattle.blocks.proofs.Laws.{read_one_way}
use Rattle.exchange.specs.Life.{SayAlike, Rearranged, SameBlock, SameFounding}

-- bytes that say one thing at most, or have a fault, and never both
module _ {X : Type 0} (Says : List ℕ → X → Type 0) (Refuses : List ℕ → Fault → Type 0) (Reordered : X → X → Type 0)
    (one : (bs : List ℕ) (x y : X) → Says bs x → Says bs y → x ≡ y) (never : (bs : List ℕ) (x : X) (f : Fault) → Says bs x → Refuses bs f → ⊥) where
  both_read : (bs cs : List ℕ) (x y : X) → Says bs x → Says cs y
      → (Reordered x y → SayAlike Says Reordered bs cs) × (SayAlike Says Reordered bs cs → (bs ≡ cs) ⊎ Reordered x y)
  both_read bs cs x y p q = (λ r. inr (x, y, p, q, r), back)
    where
      back : SayAlike Says Reordered bs cs → (bs ≡ cs) ⊎ Reordered x y
      back (inl e) = inl e
      back (inr s) = inr (subst (λ w. Reordered w y) (one bs s.0 x s.2 p) (subst (λ w. Reordered s.0 w) (one cs s.1 y s.3 q) s.4))

  unread : (bs cs : List ℕ) (f : Fault) → Refuses bs f ⊎ Refuses cs f → SayAlike Says Reordered bs cs → bs ≡ cs
  unread bs cs f r (inl e) = e
  unread bs cs f (inl r) (inr s) = absurd (never bs s.0 f s.2 r)
  unread bs cs f (inr r) (inr s) = absurd (never cs s.1 f s.3 r)

pub blocks_same : (bs : List ℕ) → SameBlock bs bs
blocks_same bs = inl refl

pub blocks_alike : (bs cs : List ℕ) (b c : Block) → Readable bs b → Readable cs c
    → (Rearranged b c → SameBlock bs cs) × (SameBlock bs cs → (bs ≡ cs) ⊎ Rearranged b c)
blocks_alike = both_read Readable (Refused is_begin) Rearranged read_one_way.block read_one_way.block_or_fault

pub blocks_unread : (bs cs : List ℕ) (f : Fault) → Refused is_begin bs f ⊎ Refused is_begin cs f → SameBlock bs cs → bs ≡ cs
blocks_unread = unread Readable (Refused is_begin) Rearranged read_one_way.block read_one_way.block_or_fault

pub foundings_same : (bs : List ℕ) → SameFounding bs bs
foundings_same bs = inl refl

pub foundings_alike : (bs cs : List ℕ) (gs hs : List Grant) → Founds bs gs → Founds cs hs
    → (IsPermutation gs hs → SameFounding bs cs) × (SameFounding bs cs → (bs ≡ cs) ⊎ IsPermutation gs hs)
foundings_alike = both_read Founds (Refused is_grant) IsPermutation read_one_way.founding read_one_way.founding_or_fault

pub foundings_unread : (bs cs : List ℕ) (f : Fault) → Refused is_grant bs f ⊎ Refused is_grant cs f → SameFounding bs cs → bs ≡ cs
foundings_unread = unread Founds (Refused is_grant) IsPermutation read_one_way.founding read_one_way.founding_or_fault
