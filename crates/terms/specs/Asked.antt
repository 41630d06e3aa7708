-- What a transaction asks for, as the records that it comes to. Assumes nothing.
use Rattle.std.specs.Prelude.{ℕ, List, [], ◌∷◌}
use Rattle.terms.specs.declared.Key.{Key}
use Rattle.terms.specs.declared.Offer.{Offer}
use Rattle.terms.specs.declared.Action.{Action}
use Rattle.terms.specs.declared.Action.TheVariants.{Create, Pay, Place, Cancel}
use Rattle.terms.specs.declared.Transaction.{Transaction}

-- Each transaction gives one of the four; as lists, so that a block's are joined.

-- the account that is to be opened
abbrev pub opens : Action → List ℕ
opens (Create n) = n ∷ []
opens (Pay r x n) = []
opens (Place x y l n) = []
opens (Cancel x y l q) = []

pub record Payment : Type 0 where
  pub payer : ℕ
  pub receiver : ℕ
  pub asset : ℕ
  pub amount : ℕ

-- the payment, from the transaction's source
abbrev pub pays : ℕ → Action → List Payment
pays source (Create n) = []
pays source (Pay r x n) = record { payer = source; receiver = r; asset = x; amount = n } ∷ []
pays source (Place x y l n) = []
pays source (Cancel x y l q) = []

-- the new offer: its key has the source and the sequence number of the transaction
abbrev pub places : ℕ → ℕ → Action → List Offer
places source sequence (Create n) = []
places source sequence (Pay r x n) = []
places source sequence (Place x y l n) =
    record { key = record { sold = x; bought = y; limit = l; account = source; sequence = sequence }; amount = n } ∷ []
places source sequence (Cancel x y l q) = []

-- the key of the cancelled offer, which is the source's own
abbrev pub cancels : ℕ → Action → List Key
cancels source (Create n) = []
cancels source (Pay r x n) = []
cancels source (Place x y l n) = []
cancels source (Cancel x y l q) = record { sold = x; bought = y; limit = l; account = source; sequence = q } ∷ []

abbrev pub created : Transaction → List ℕ
created t = opens t.action

abbrev pub paying : Transaction → List Payment
paying t = pays t.source t.action

abbrev pub placed : Transaction → List Offer
placed t = places t.source t.sequence t.action

abbrev pub cancelled : Transaction → List Key
cancelled t = cancels t.source t.action
