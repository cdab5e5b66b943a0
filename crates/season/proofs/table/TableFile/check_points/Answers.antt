use Rattle.std.proofs.Common.{◌≡◌, ◌<◌, length, nat_lt, refl, rules, ap, ◌∙◌}
use Rattle.season.specs.Bytes.{number_at}
use Rattle.season.specs.Reading.{points_in, above, unless_at}
use Rattle.season.specs.Refused.{given}
use Rattle.season.proofs.Chunks.{length-first_chunks, number_there}
use Rattle.season.proofs.table.TableFile.check_points.Goals as goal

pub returns : goal.returns
returns c =
    let sizes = c.args.self.now.sizes in
    let bytes = points_in c.args.self.now.bytes.now in
    let long : length c.points.result.now ≡ sizes.teams = rw (c.points.ensures, length-first_chunks) refl in
    let told = c.refuse_first.ensures (above bytes) 4 (λ k d b l says.
    let there : k < sizes.teams = rw long at l in
    let answer : b ≡ nat_lt 1000 (number_at says.shown.now 0) = search rules in
    answer ∙ ap (nat_lt 1000) (number_there sizes.teams bytes k d there c.points.ensures says.shows))
    (λ k e called. search rules) in
    told ∙ ap (λ n. unless_at (above bytes) n 4 (given sizes)) long
