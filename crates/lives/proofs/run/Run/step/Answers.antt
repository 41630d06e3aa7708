use Rattle.std.proofs.Common.{refl, ap}
use Rattle.exchange.specs.Life.Answer.{told}
use Rattle.lives.proofs.run.Run.step.Goals as goal

pub returns-in-Found : goal.returns-in-Found
returns-in-Found g c = simp c.in-Found.is c.found.ensures

pub returns-in-Check : goal.returns-in-Check
returns-in-Check g c = simp c.in-Check.is c.check.ensures

pub returns-in-Fill : goal.returns-in-Fill
returns-in-Fill g c = simp c.in-Fill.is c.fill.ensures

pub returns-in-Commit : goal.returns-in-Commit
returns-in-Commit g c = simp c.in-Commit.is c.commit.ensures

pub returns-in-Reject : goal.returns-in-Reject
returns-in-Reject g c = simp c.in-Reject.is c.reject.ensures

pub returns-in-Ask : goal.returns-in-Ask
returns-in-Ask g c = simp c.in-Ask.is (λ gs. (gs, (ap told c.ask.ensures, refl)))
