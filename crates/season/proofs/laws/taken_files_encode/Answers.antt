use Rattle.season.proofs.Encodes.{taken_encodes}
use Rattle.season.proofs.laws.taken_files_encode.Goals as goal

pub returns : goal.returns
returns c = taken_encodes
