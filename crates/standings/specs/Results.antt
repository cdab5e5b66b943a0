-- Results: a row of bytes beside a row of matches, and the table that they make of a table.
use Rattle.std.specs.Prelude.{ℕ, ◌+◌, ◌-◌, ◌<◌, ◌≤◌, Bool, List, [], ◌∷◌, ◌++◌, map, length, drop, ◌==◌, nat_le, nat_lt, slice_index_or}
use Rattle.season.specs.declared.game.Game.{Game}
use Rattle.season.specs.declared.table.Sizes.{Sizes}
use Rattle.season.specs.Encoding.{Same, Within, sizes_of, table_in, table_front}
use Rattle.season.specs.Plan.{pick}
use Rattle.season.specs.Reading.{outcome, unless_at}
use Rattle.season.specs.Refused.{Told, and_then, given, refused}
use Rattle.season.specs.Rows.{written}
use Rattle.season.specs.Table.{Match, Table}

-- the byte beside match k, 255 where the row ends before it
abbrev pub byte_beside : List ℕ → ℕ → ℕ
byte_beside xs k = slice_index_or xs k 255

-- a byte is a result if it is the host's points, 0 to 2; a match with any other byte is not yet played
abbrev pub is_result : ℕ → Bool
is_result x = nat_le x 2

-- what team i gets of the two points of a match: the host x, the guest the rest
abbrev pub share : Match → ℕ → ℕ → ℕ
share m x i = pick (m.host == i) x 0 + pick (m.guest == i) (2 - x) 0

-- what team i gets of a match by the byte beside it
abbrev pub share_beside : Match → ℕ → ℕ → ℕ
share_beside m x i = pick (is_result x) (share m x i) 0

-- what team i gained in the matches with a result
unfoldable pub won : List Match → List ℕ → ℕ → ℕ
won [] xs i = 0
won (m ∷ ms) [] i = 0
won (m ∷ ms) (x ∷ xs) i = share_beside m x i + won ms xs i

-- the matches without a result, in order
unfoldable pub unplayed : List Match → List ℕ → List Match
unplayed [] xs = []
unplayed (m ∷ ms) [] = m ∷ ms
unplayed (m ∷ ms) (x ∷ xs) = pick (is_result x) (unplayed ms xs) (m ∷ unplayed ms xs)

-- the table after results: each team has what it gained, and the matches left are those without a result
abbrev pub after : Table → List ℕ → Table
after t xs = record { teams = t.teams; points = λ i. t.points i + won t.left xs i; left = unplayed t.left xs }

-- a team of the table has more than 1,000 points
abbrev pub passes_limit : Table → ℕ → Bool
passes_limit t i = nat_lt 1000 (t.points i)

-- refused with 4 at the first team whose points would pass 1,000, else the sizes of the table after results
abbrev pub told_after : Table → List ℕ → Told Sizes
told_after t xs = unless_at (passes_limit (after t xs)) t.teams 4 (given (sizes_of (after t xs)))

-- the answer for a table's file: the reader's refusals come first
abbrev pub outcome_after : List ℕ → List ℕ → ℕ → ℕ → Told Sizes
outcome_after file xs row points = and_then (outcome file row points) (λ _. told_after (table_in file) xs)

-- no team of the table has more than 1,000 points
abbrev pub Low : Table → Type 0
Low t = (i : ℕ) → i < t.teams → t.points i ≤ 1000

-- a match as a game of the code
abbrev pub game_of : Match → Game
game_of m = record { host = m.host; guest = m.guest }

-- what lent memory holds afterwards: the table, then what stood there; refused, what stood there
abbrev pub points_then : Told Sizes → Table → List ℕ → List ℕ
points_then (given s) t old = written t.points t.teams old
points_then (refused number place) t old = old

abbrev pub games_then : Told Sizes → Table → List Game → List Game
games_then (given s) t old = map game_of t.left ++ drop (length t.left) old
games_then (refused number place) t old = old

-- lent memory begins with a table of these sizes, within the limits: the one that results make of table t
pub record Played (t : Table) (xs : List ℕ) (s : Sizes) (points : List ℕ) (row : List Game) : Type 0 where
  pub teams_there : s.teams ≤ length points
  pub games_there : s.games ≤ length row
  pub within : Within (table_front s points row)
  pub same : Same (after t xs) (table_front s points row)
