use Rattle.std.proofs.Common.{◌≡◌, [], length, get_or, rules, refl, ◌∙◌, ap, arith}
use Rattle.season.specs.Bytes.{number_at}
use Rattle.season.specs.Reading.{points_in}
use Rattle.season.specs.Rows.{written}
use Rattle.season.proofs.Chunks.{length-first_chunks, number_there}
use Rattle.season.proofs.table.TableFile.write_points.Goals as goal

pub write_front-requires-clause-room : goal.write_front-requires-clause-room
write_front-requires-clause-room c = rw (c.points-pairs.ensures, length-first_chunks) c.requires

pub returns : goal.returns
returns c =
    let bytes = points_in c.args.self.now.bytes.now in
    let n = c.args.self.now.sizes.teams in
    let long : length c.points-pairs.result.now ≡ n = rw (c.points-pairs.ensures, length-first_chunks) refl in
    let all = c.write_front.ensures.values (number_at bytes) (λ k x l post.
    let here : x ≡ number_at (get_or c.points-pairs.result.now k []) 0 = search rules in
    here ∙ number_there n bytes k [] (omega arith) c.points-pairs.ensures refl) in
    all ∙ ap (λ m. written (number_at bytes) m c.args.points.now) long
