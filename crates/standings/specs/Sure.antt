-- Who is sure to be first.
use Rattle.std.specs.Prelude.{ℕ, ◌<◌, ◌≤◌, Bool, not, ◌&&◌, List, ◌==◌, nat_le, nat_lt}
use Rattle.season.specs.Encoding.{table_in}
use Rattle.season.specs.Reading.{outcome}
use Rattle.season.specs.Refused.{Told, and_then, given}
use Rattle.season.specs.Rows.{first}
use Rattle.season.specs.Table.{Table, Ending, final, left_of, most}
use Rattle.standings.specs.Asked.{unless_absent}

-- team j, another than i, can come to more than team i has
abbrev pub can_pass : Table → ℕ → ℕ → Bool
can_pass t i j = not (j == i) && nat_lt (t.points i) (most (t.points j) (left_of t.left j))

-- no other team can come to more than team i has
abbrev pub sure : Table → ℕ → Bool
sure t i = nat_le t.teams (first (can_pass t i) 0 t.teams)

-- after every ending team i is first, alone or with others
abbrev pub AlwaysFirst : Table → ℕ → Type 0
AlwaysFirst t i = (xs : List ℕ) → Ending t.left xs → (j : ℕ) → j < t.teams → final t xs j ≤ final t xs i

-- the answer for a table's file and a team: the reader's refusals come first
abbrev pub outcome_sure : List ℕ → ℕ → Told Bool
outcome_sure file team = and_then (outcome file 1024 64) (λ s. unless_absent team s.teams (given (sure (table_in file) team)))
