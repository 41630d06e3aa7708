-- What a replica means: the state of the exchange that its store, its book and its own numbers make up. Assumes nothing.
-- As many blocks have been committed as the height says.
use Rattle.std.specs.Prelude.{◌≡◌, true}
use Rattle.terms.specs.Holdings.{Store, Book}
use Rattle.exchange.specs.State.{State, Own, Counts}
use Rattle.exchange.specs.Commit.{Sound}
use Rattle.replica.specs.declared.numbers.Numbers.{Numbers}

abbrev pub own_of : Numbers → Own
own_of n = record { height = n.height; digest = n.digest; remainders = n.remainders }

abbrev pub counts_of : Numbers → Counts
counts_of n = record { passed = n.passed; committed = n.height; lapsed = n.lapsed; rejected = n.rejected }

abbrev pub state_of : Store → Book → Numbers → State
state_of st bk n = record { founded = n.founded; store = st; book = bk; own = own_of n; counts = counts_of n }

-- What holds of every replica, as the invariant of its type: once founded, its state is sound.
abbrev pub Steady : State → Type 0
Steady s = s.founded ≡ true → Sound s
