use Rattle.exchange.proofs.sound_for_life.Goals as goal
use Rattle.exchange.proofs.Lasting.{sound_for_life}

pub returns : goal.returns
returns c = sound_for_life
