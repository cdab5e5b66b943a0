-- The games so far are counted.
use Rattle.std.proofs.Common.{◌≡◌, map, take}
use Rattle.season.specs.Encoding.{match_of}
use Rattle.season.specs.Table.{left_of}
use Rattle.standings.proofs.gains.left_of.Given as goal

abbrev pub invariant-loop-game : goal.invariant-loop-game
invariant-loop-game l = l.left ≡ left_of (map match_of (take l.game-index l.games)) l.team
