use Rattle.planner.proofs.ReadBack.{bytes_agree}
use Rattle.planner.proofs.laws.bytes_agree.Goals as goal

pub returns : goal.returns
returns c = bytes_agree
