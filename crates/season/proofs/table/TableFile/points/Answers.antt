use Rattle.std.proofs.Common.{◌≡◌, ◌+◌, ◌-◌, ◌*◌, ◌/◌, ◌≤◌, length, take, drop, ◌∙◌, arith}
use Rattle.std.proofs.lemmas.List.{length-take, length-drop}
use Rattle.season.proofs.Chunks.{first_chunks-take}
use Rattle.season.proofs.table.TableFile.points.Goals as goal

pub returns : goal.returns
returns c =
    let file = c.args.self.now in
    let whole : 1 + 2 * file.sizes.teams ≤ length file.bytes.now = file.whole in
    let long : c.points_end.result - 1 ≡ 2 * file.sizes.teams = omega arith in
    let pairs : length (take (2 * file.sizes.teams) (drop 1 file.bytes.now)) / 2 ≡ file.sizes.teams =
    rw (length-take, length-drop) (omega arith) in
    (rw (long, pairs) at c.as_chunks.ensures.front)
    ∙ first_chunks-take 2 file.sizes.teams (2 * file.sizes.teams) (drop 1 file.bytes.now) (omega arith)
