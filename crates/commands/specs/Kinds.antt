-- The letters of the kinds of commands. Assumes nothing.
use Rattle.std.specs.Prelude.{ℕ}
use Rattle.commands.specs.declared.kind.Kind.{Kind}
use Rattle.commands.specs.declared.kind.Kind.TheVariants.{Begin, Price, Volume, Create, Pay, Place, Cancel, Found, End}

abbrev pub letter_of : Kind → ℕ
letter_of Begin = 66
letter_of Price = 80
letter_of Volume = 86
letter_of Create = 65
letter_of Pay = 84
letter_of Place = 79
letter_of Cancel = 67
letter_of Found = 71
letter_of End = 69
