-- What is read of a table's file: its number of teams in one byte, two bytes of points for each team, the low one first,
-- then host and guest of each game left.
use Rattle.std.specs.Prelude.{ℕ, ◌+◌, ◌-◌, ◌*◌, ◌/◌, ◌%◌, min, Bool, ◌||◌, List, length, drop, ◌==◌, nat_le, nat_lt, slice_index}
use Rattle.season.specs.declared.game.Game.{Game}
use Rattle.season.specs.declared.table.Sizes.{Sizes}
use Rattle.season.specs.Bytes.{number_at, game_at}
use Rattle.season.specs.Refused.{Told, given, refused, unless}
use Rattle.season.specs.Rows.{first, written}

-- refused at the first of n places where p holds, if there is one
abbrev pub unless_at : {A : Type 0} → (ℕ → Bool) → ℕ → ℕ → Told A → Told A
unless_at p n number after = unless (nat_lt (first p 0 n) n) number (first p 0 n) after

-- the number of teams, 0 where the file has no byte
abbrev pub teams_in : List ℕ → ℕ
teams_in file = slice_index file 0

-- the bytes of the points, and what follows them
abbrev pub points_in : List ℕ → List ℕ
points_in file = drop 1 file

-- the teams, and the whole games past the points
abbrev pub sizes_in : List ℕ → Sizes
sizes_in file = record { teams = teams_in file; games = (length file - (1 + 2 * teams_in file)) / 2 }

-- the bytes of the games, which follow the points
abbrev pub games_in : List ℕ → Sizes → List ℕ
games_in file s = drop (1 + 2 * s.teams) file

-- fewer than 2 or more than 64 teams
abbrev pub unserved : ℕ → Bool
unserved teams = nat_lt teams 2 || nat_lt 64 teams

-- lent memory has room for too few games; a row of more than 1,024 is refused anyway
abbrev pub row_short : Sizes → ℕ → Bool
row_short s row = nat_lt row (min s.games 1024)

-- lent memory has room for the points of too few teams
abbrev pub points_short : Sizes → ℕ → Bool
points_short s points = nat_lt points s.teams

-- refused where lent memory is too short, the row of games looked at first
abbrev pub unless_short : Sizes → ℕ → ℕ → Told Sizes → Told Sizes
unless_short s row points after = unless (row_short s row) 10 0 (unless (points_short s points) 10 1 after)

-- the file ends before its points are whole
abbrev pub cut : List ℕ → Sizes → Bool
cut file s = nat_lt (length file) (1 + 2 * s.teams)

-- points above 1,000
abbrev pub above : List ℕ → ℕ → Bool
above bytes team = nat_lt 1000 (number_at bytes team)

-- games that are not two bytes each, or more than 1,024
abbrev pub wrong_length : List ℕ → Sizes → Bool
wrong_length file s = (length file - (1 + 2 * s.teams)) % 2 == 1 || nat_lt 1024 s.games

-- a game with a team that is not there
abbrev pub absent : List ℕ → ℕ → ℕ → Bool
absent bytes teams k = nat_le teams (game_at bytes k).host || nat_le teams (game_at bytes k).guest

-- a game of a team with itself
abbrev pub against_itself : List ℕ → ℕ → Bool
against_itself bytes k = (game_at bytes k).host == (game_at bytes k).guest

-- the checks in their order: of the sizes that the file's first byte and its length give, with room for a row of so many
-- games and for the points of so many teams
abbrev pub checked : List ℕ → Sizes → ℕ → ℕ → Told Sizes
checked file s row points =
    unless (unserved s.teams) 2 0
    (unless_short s row points
    (unless (cut file s) 3 (length file)
    (unless_at (above (points_in file)) s.teams 4
    (unless (wrong_length file s) 5 (length file)
    (unless_at (absent (games_in file s) s.teams) s.games 6
    (unless_at (against_itself (games_in file s)) s.games 7
    (given s)))))))

-- the answer of the reader
abbrev pub outcome : List ℕ → ℕ → ℕ → Told Sizes
outcome file row points = checked file (sizes_in file) row points

-- what lent memory holds afterwards: what was read, then what stood there; refused, what stood there
abbrev pub points_after : Told Sizes → List ℕ → List ℕ → List ℕ
points_after (given s) file old = written (number_at (points_in file)) s.teams old
points_after (refused number place) file old = old

abbrev pub games_after : Told Sizes → List ℕ → List Game → List Game
games_after (given s) file old = written (game_at (games_in file s)) s.games old
games_after (refused number place) file old = old
