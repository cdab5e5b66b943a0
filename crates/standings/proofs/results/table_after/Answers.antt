use Rattle.std.proofs.Common.{sym, ap, subst, ◌∙◌, rules}
use Rattle.season.proofs.Tables.{same_back, same_on}
use Rattle.season.specs.Encoding.{Same, sizes_of, table_in}
use Rattle.standings.proofs.After.{outcome_played, room_after, same_after, told_after_same}
use Rattle.standings.proofs.Copied.{copied, copied_games, copied_points}
use Rattle.standings.proofs.ReadTables.{sizes_front}
use Rattle.standings.proofs.results.table_after.Goals as goal
use Rattle.standings.specs.Results.{after}

pub returns-in_err-own-clause-answer : goal.returns-in_err-own-clause-answer
returns-in_err-own-clause-answer c =
    let read = c.in_ok-read.ensures in
    let refused = c.in_err-own.ensures.answer
    ∙ told_after_same read.table c.args.results.now
    ∙ outcome_played c.args.file.now c.args.results.now _ _ _ read.answer in
    search (rules, refused)

pub copy_front-requires-2 : goal.copy_front-requires-2
copy_front-requires-2 c =
    let file = c.args.file.now in
    let xs = c.args.results.now in
    let read = c.in_ok-read.ensures in
    let same = same_on (same_after (same_back read.table) xs) c.in_ok-own.ensures.table in
    let lent = subst (Same (after (table_in file) xs)) (sym c.lend-table.ensures) same in
    room_after file xs _ _ _ c.lend-table.result.games.now read.answer lent.left

pub returns : goal.returns
returns c =
    let file = c.args.file.now in
    let xs = c.args.results.now in
    let read = c.in_ok-read.ensures in
    let own = c.in_ok-own.own in
    let table = c.lend-table.result in
    let same = same_on (same_after (same_back read.table) xs) c.in_ok-own.ensures.table in
    let lent = subst (Same (after (table_in file) xs)) (sym c.lend-table.ensures) same in
    let sizes = ap sizes_of c.lend-table.ensures ∙ sizes_front own.sizes own.points own.row own.teams_there own.games_there in
    let copy = copied own.sizes table.points.now table.games.now lent table.within sizes c.args.points.now c.args.row.now in
    record {
      answer = c.in_ok-own.ensures.answer ∙ told_after_same read.table xs ∙ outcome_played file xs _ _ _ read.answer;
      points = c.copy_front.ensures ∙ copied_points table.points.now table.games.now lent _;
      games = c.copy_front-2.ensures ∙ copied_games table.points.now table.games.now lent _;
      played = rw (c.copy_front.ensures, c.copy_front-2.ensures) copy;
    }
