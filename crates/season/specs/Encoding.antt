-- The file of a table, written from the table, and what is promised of reading it.
use Rattle.std.specs.Prelude.{◌≡◌, ℕ, ◌/◌, ◌%◌, ◌<◌, ◌≤◌, List, [], ◌∷◌, ◌++◌, map, length, take, Ok, Err, Result, slice_index}
use Rattle.std.specs.List.{range_with_len}
use Rattle.season.specs.declared.game.Game.{Game}
use Rattle.season.specs.declared.refusal.Refusal.{Refusal}
use Rattle.season.specs.declared.table.Sizes.{Sizes}
use Rattle.season.specs.Bytes.{number_at, game_at}
use Rattle.season.specs.Reading.{outcome, unless_short, teams_in, points_in, games_in, sizes_in}
use Rattle.season.specs.Refused.{given, number_of}
use Rattle.season.specs.Table.{Match, Table, Sound}

-- the limits: 2 to 64 teams, at most 1,000 points each, at most 1,024 matches left, each of two different teams of the table
pub record Within (t : Table) : Type 0 where
  pub not_few : 2 ≤ t.teams
  pub not_many : t.teams ≤ 64
  pub points_low : (i : ℕ) → i < t.teams → t.points i ≤ 1000
  pub left_few : length t.left ≤ 1024
  pub sound : Sound t

-- two bytes for each element, in order
abbrev pub pairs : {A : Type 0} → (A → ℕ) → (A → ℕ) → List A → List ℕ
pairs a b [] = []
pairs a b (x ∷ xs) = a x ∷ b x ∷ pairs a b xs

-- the low byte first
abbrev pub points_bytes : List ℕ → List ℕ
points_bytes points = pairs (λ p. p % 256) (λ p. p / 256) points

abbrev pub match_bytes : List Match → List ℕ
match_bytes matches = pairs (λ m. m.host) (λ m. m.guest) matches

-- the file of a table
abbrev pub encoded : Table → List ℕ
encoded t = t.teams ∷ (points_bytes (map t.points (range_with_len 0 t.teams)) ++ match_bytes t.left)

-- the same table: as many teams, each with the same points, and the same matches left
pub record Same (t u : Table) : Type 0 where
  pub teams : t.teams ≡ u.teams
  pub points : (i : ℕ) → i < t.teams → t.points i ≡ u.points i
  pub left : t.left ≡ u.left

-- a game of the code as a match
abbrev pub match_of : Game → Match
match_of g = record { host = g.host; guest = g.guest }

-- the table of these sizes that lent memory holds: points by team, and a row of games
abbrev pub table_of : Sizes → List ℕ → List Game → Table
table_of s points row = record { teams = s.teams; points = λ i. slice_index points i; left = map match_of (take s.games row) }

-- the table that two rows hold: the points of each team, and the games left
abbrev pub table_held : List ℕ → List Game → Table
table_held points games = record { teams = length points; points = λ i. slice_index points i; left = map match_of games }

-- the table of these sizes with which lent memory begins, held by the two rows at its front
abbrev pub table_front : Sizes → List ℕ → List Game → Table
table_front s points row = table_held (take s.teams points) (take s.games row)

-- the table that is read of a file
abbrev pub table_in : List ℕ → Table
table_in file = record {
  teams = teams_in file;
  points = number_at (points_in file);
  left = map (λ k. match_of (game_at (games_in file (sizes_in file)) k)) (range_with_len 0 (sizes_in file).games);
}

-- the sizes of a table
abbrev pub sizes_of : Table → Sizes
sizes_of t = record { teams = t.teams; games = length t.left }

-- the file of every table within the limits is taken, if lent memory is long enough, and the table read is that one
abbrev pub ReadBack : Type 0
ReadBack =
    (t : Table) → Within t → (row points : ℕ) →
    (outcome (encoded t) row points ≡ unless_short (sizes_of t) row points (given (sizes_of t)))
    × Same t (table_in (encoded t))

-- every file that is taken is the file of a table within the limits: the one that is read
abbrev pub TakenEncodes : Type 0
TakenEncodes =
    (file : List ℕ) (row points : ℕ) (s : Sizes) → ((i : ℕ) → slice_index file i < 256) → outcome file row points ≡ given s →
    Within (table_in file) × (encoded (table_in file) ≡ file)

-- an answer is exact: taken, the file is that of the table that lent memory now holds, within the limits; refused for
-- anything but short memory, it is the file of no table within the limits
abbrev pub Exact : List ℕ → Result Sizes Refusal → List ℕ → List Game → Type 0
Exact file (Ok s) points row = Within (table_of s points row) × (encoded (table_of s points row) ≡ file)
Exact file (Err e) points row = (t : Table) → Within t → encoded t ≡ file → number_of e ≡ 10

-- lent memory begins with a table of these sizes, within the limits, and the file is that of the table
pub record Holds (file : List ℕ) (s : Sizes) (points : List ℕ) (row : List Game) : Type 0 where
  pub teams_there : s.teams ≤ length points
  pub games_there : s.games ≤ length row
  pub within : Within (table_front s points row)
  pub encodes : encoded (table_front s points row) ≡ file
