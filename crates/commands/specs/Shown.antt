-- What the reader's types say, in the words of the format. Assumes nothing.
use Rattle.std.specs.Prelude.{ℕ, [], Ok, Err, Result}
use Rattle.terms.specs.declared.Fault.{Fault}
use Rattle.terms.specs.declared.Action.TheVariants as act
use Rattle.commands.specs.declared.command.Command.{Command}
use Rattle.commands.specs.declared.command.Command.TheVariants.{Begin, Price, Volume, Create, Pay, Place, Cancel, Found, End}
use Rattle.commands.specs.declared.command.Reading.{Reading}
use Rattle.commands.specs.declared.kind.Kind.{Kind}
use Rattle.commands.specs.Format.{Cmd, begin, price, volume, transaction, found, end, Outcome, got, refused, Span, upto, broken, balances}

abbrev pub shown : Command → Cmd
shown (Begin h p) = begin h p.now
shown (Price x p) = price x p
shown (Volume x y n) = volume (record { sold = x; bought = y; amount = n })
shown (Create s q a) = transaction (record { source = s; sequence = q; action = act.Create a }) []
shown (Pay s q r x n m) = transaction (record { source = s; sequence = q; action = act.Pay r x n }) m.now
shown (Place s q x y l n) = transaction (record { source = s; sequence = q; action = act.Place x y l n }) []
shown (Cancel s q x y l o) = transaction (record { source = s; sequence = q; action = act.Cancel x y l o }) []
shown (Found a b) = found (record { account = a; balances = balances b.now 0 })
shown End = end

abbrev pub told : Result Reading Fault → Outcome
told (Ok r) = got (shown r.command) r.next
told (Err f) = refused f.number f.first f.second

abbrev pub skipped_to : Result ℕ Fault → Span
skipped_to (Ok n) = upto n
skipped_to (Err f) = broken f.number f.first f.second

abbrev pub spanned_to : Result (Kind × ℕ) Fault → Span
spanned_to (Ok s) = upto s.1
spanned_to (Err f) = broken f.number f.first f.second
