-- What the events and answers of the code say, in the words of the rules. Assumes nothing.
use Rattle.std.specs.Prelude.{Bool, true, false, Ok, Err, Result}
use Rattle.terms.specs.declared.Fault.{Fault}
use Rattle.exchange.specs.Life as ex
use Rattle.asking.specs.Questions.{question_of, reply_of}
use Rattle.lives.specs.declared.events.Event.{Event}
use Rattle.lives.specs.declared.events.Event.TheVariants.{Found, Check, Fill, Commit, Reject, Ask}
use Rattle.lives.specs.declared.events.Answer.{Answer}
use Rattle.lives.specs.declared.events.Answer.TheVariants.{Done, Refused, Checked, Filled, Told}
use Rattle.lives.specs.declared.events.Stop.{Stop}
use Rattle.lives.specs.declared.events.Stop.TheVariants.{NotHeld, NoMemory}

abbrev pub event_of : Event → ex.Event
event_of (Found bytes) = ex.Event.found bytes.now
event_of (Check bytes) = ex.Event.check bytes.now
event_of (Fill i k) = ex.Event.fill i k
event_of (Commit i) = ex.Event.commit i
event_of (Reject i) = ex.Event.reject i
event_of (Ask q) = ex.Event.ask (question_of q)

abbrev pub answer_of : Answer → ex.Answer
answer_of Done = ex.Answer.done
answer_of (Refused f) = ex.Answer.refused f
answer_of (Checked i) = ex.Answer.checked i
answer_of (Filled n p) = ex.Answer.filled n p
answer_of (Told r) = ex.Answer.told (reply_of r)

-- the answer where a call is done, or its fault
abbrev pub spoken : ex.Answer → Result (Unit {0}) Fault → ex.Answer
spoken a (Ok _) = a
spoken a (Err f) = ex.Answer.refused f

-- how a run ends: all events were answered, or it stopped
abbrev pub Ending : Type 0
Ending = Result (Unit {0}) Stop

-- the run was not cut short for want of memory
abbrev pub whole : Ending → Bool
whole (Ok _) = true
whole (Err NotHeld) = true
whole (Err NoMemory) = false
