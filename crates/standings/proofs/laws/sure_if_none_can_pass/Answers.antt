use Rattle.season.specs.Promise.{Sure}
use Rattle.standings.proofs.SureFirst.{sure_law}
use Rattle.standings.proofs.laws.sure_if_none_can_pass.Goals as goal

pub returns : goal.returns
unfolding Sure
returns c = sure_law
