use Rattle.std.proofs.Common.{sym, ap, subst, ◌∙◌}
use Rattle.season.specs.Encoding.{Same, sizes_of, table_in}
use Rattle.season.specs.Table.{Ending}
use Rattle.standings.proofs.Checked.{ending_passed}
use Rattle.standings.proofs.FullRows.{same_finals}
use Rattle.standings.proofs.ReadTables.{sizes_front}
use Rattle.standings.proofs.endings.points_after.Goals as goal

pub write_finals-requires-clause-ending : goal.write_finals-requires-clause-ending
write_finals-requires-clause-ending c =
    let own = c.in_ok-own.own in
    let sizes = ap sizes_of c.lend.ensures ∙ sizes_front own.sizes own.points own.row own.teams_there own.games_there in
    ending_passed _ c.args.ending.now own.sizes _ c.in_ok-check_ending.ensures (λ i. (sizes i).games)

pub returns-clause-points : goal.returns-clause-points
returns-clause-points c =
    let same = subst (λ t. Same t (table_in c.args.file.now)) (sym c.lend.ensures) c.in_ok-own.ensures.table in
    c.write_finals.ensures ∙ same_finals same c.args.ending.now _

pub returns-clause-ending : goal.returns-clause-ending
returns-clause-ending c =
    let own = c.in_ok-own.own in
    let sizes = sizes_front own.sizes own.points own.row own.teams_there own.games_there in
    let ending = ending_passed _ c.args.ending.now own.sizes _ c.in_ok-check_ending.ensures (λ i. (sizes i).games) in
    subst (λ ms. Ending ms c.args.ending.now) c.in_ok-own.ensures.table.left ending
