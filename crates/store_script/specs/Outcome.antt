-- What is answered to a command that only changes something. Assumes nothing.
use Rattle.std.specs.Prelude.{Ok, Err, Result}
use Rattle.terms.specs.declared.Fault.{Fault}
use Rattle.store_script.specs.declared.answer.Answer.{Answer}
use Rattle.store_script.specs.declared.answer.Answer.TheVariants.{Done, Refused}

abbrev pub outcome : Result (Unit {0}) Fault → Answer
outcome (Ok x) = Done
outcome (Err f) = Refused f
