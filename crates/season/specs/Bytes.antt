-- What rows of bytes mean: a plan and its rounds, a game, a number of two bytes.
use Rattle.std.specs.Prelude.{ℕ, ◌+◌, ◌-◌, ◌*◌, ◌%◌, Bool, List, ◌++◌, length, take, drop, ◌==◌, nat_eq, slice_index, codes, decimal}
use Rattle.season.specs.declared.game.Game.{Game}
use Rattle.season.specs.Plan.{Plan, pick}
use Rattle.season.specs.Rows.{first}

-- round r of a plan for n teams: the n bytes from r × n on
abbrev pub round_at : List ℕ → ℕ → ℕ → List ℕ
round_at plan n r = take n (drop (r * n) plan)

-- where team i stands in a round: the first place that has its byte, or the round's length where none has
abbrev pub place_in : List ℕ → ℕ → ℕ
place_in round i = first (λ k. nat_eq (slice_index round k) i) 0 (length round)

-- whether team i is at home in a round: at an even place
abbrev pub home_in : List ℕ → ℕ → Bool
home_in round i = place_in round i % 2 == 0

-- the other place of the pair that place k belongs to
abbrev pub beside : ℕ → ℕ
beside k = pick (k % 2 == 0) (k + 1) (k - 1)

-- the plan for n teams in a row of bytes: in each round a team plays the one beside it
unfoldable pub plan_of : ℕ → List ℕ → Plan
plan_of n plan = record {
  against = λ r i. slice_index (round_at plan n r) (beside (place_in (round_at plan n r) i));
  home = λ r i. home_in (round_at plan n r) i;
}

-- the game at place k of a row of games, host and guest, one byte each
abbrev pub game_at : List ℕ → ℕ → Game
game_at bytes k = record { host = slice_index bytes (2 * k); guest = slice_index bytes (2 * k + 1) }

-- a game as text, as `3-0`
abbrev pub game_text : Game → List ℕ
game_text game = decimal game.host ++ (codes "-" ++ decimal game.guest)

-- the number at place k of a row of numbers, two bytes each, the low one first
abbrev pub number_at : List ℕ → ℕ → ℕ
number_at bytes k = slice_index bytes (2 * k) + slice_index bytes (2 * k + 1) * 256
