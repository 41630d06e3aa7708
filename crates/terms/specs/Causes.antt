-- The numbers of the causes. Assumes nothing.
use Rattle.std.specs.Prelude.{◌≡◌, ℕ, ◌<◌, ◌⊎◌}
use Rattle.terms.specs.declared.Fault.{Fault}
use Rattle.terms.specs.declared.causes.Cause.{Cause}
use Rattle.terms.specs.declared.causes.Cause.TheVariants.{TooManyBytes, Unfinished, NoCommand, OutOfTurn, OutOfRange, TooManyTransactions, BytesAfterEnd, WrongHeight, WrongParent, Uncleared, NoSource, OutOfWindow, Repeated, NoReceiver, BadAccount, NoOffer, CancelledTwice, Overdrawn, AccountsFull, OffersFull, ExcessVolume, NotEmpty, ExcessGrants, NotFounded, FoundedAlready, ChecksUsedUp, NoSuchAccount, StandsAlready, NoRoom, Absent, BadOperand}

-- the number by which a fault names its cause
abbrev pub number_of : Cause → ℕ
number_of TooManyBytes = 1
number_of Unfinished = 2
number_of NoCommand = 3
number_of OutOfTurn = 4
number_of OutOfRange = 5
number_of TooManyTransactions = 6
number_of BytesAfterEnd = 7
number_of WrongHeight = 8
number_of WrongParent = 9
number_of Uncleared = 10
number_of NoSource = 11
number_of OutOfWindow = 12
number_of Repeated = 13
number_of NoReceiver = 14
number_of BadAccount = 15
number_of NoOffer = 16
number_of CancelledTwice = 17
number_of Overdrawn = 18
number_of AccountsFull = 19
number_of OffersFull = 20
number_of ExcessVolume = 21
number_of NotEmpty = 22
number_of ExcessGrants = 23
number_of NotFounded = 24
number_of FoundedAlready = 25
number_of ChecksUsedUp = 26
number_of NoSuchAccount = 27
number_of StandsAlready = 28
number_of NoRoom = 29
number_of Absent = 30
number_of BadOperand = 31

-- the fault of a cause that has no place
abbrev pub fault_of : Cause → Fault
fault_of c = record { number = number_of c; first = 0; second = 0 }

-- the causes are numbered from 1 to 31
abbrev pub NoCause : ℕ → Type 0
NoCause n = (n ≡ 0) ⊎ (31 < n)
