use Rattle.clearing.proofs.Committing.{commits}
use Rattle.clearing.proofs.commits.Goals as goal

pub returns : goal.returns
returns c = commits
