-- The table that a struct holds: two rows lent, or memory of one's own.
use Rattle.std.specs.Prelude.{Ok, Err, Result}
use Rattle.season.specs.declared.refusal.Refusal.{Refusal}
use Rattle.season.specs.declared.table.Sizes.{Sizes}
use Rattle.season.specs.Encoding.{table_front, table_held}
use Rattle.season.specs.Refused.{Told, given, number_of, place_of, refused}
use Rattle.season.specs.Table.{Table}
use Rattle.standings.specs.declared.own.OwnTable.{OwnTable}
use Rattle.standings.specs.declared.table.Table as lent

-- the table of two rows that are lent
abbrev pub held : lent.Table → Table
held t = table_held t.points.now t.games.now

-- the table in front of memory of one's own
abbrev pub owned : OwnTable → Table
owned t = table_front t.sizes t.points t.row

-- what an answer tells that may be a table: its sizes, or the refusal
abbrev pub told_sizes : Result OwnTable Refusal → Told Sizes
told_sizes (Ok t) = given t.sizes
told_sizes (Err e) = refused (number_of e) (place_of e)
