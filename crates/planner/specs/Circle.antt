-- The plan by circles as bytes, and what the planner answers.
use Rattle.std.specs.Prelude.{◌≡◌, ℕ, ◌+◌, ◌-◌, ◌*◌, ◌/◌, ◌%◌, ◌<◌, ◌≤◌, Bool, true, false, List, map, ◌==◌, nat_lt}
use Rattle.std.specs.List.{range_with_len}
use Rattle.season.specs.declared.game.Game.{Game}
use Rattle.season.specs.Plan.{pick, rest, unplanned}
use Rattle.season.specs.Refused.{Told, given, refused, unless}
use Rattle.season.specs.Rows.{written}

-- the game of two teams, the first at home if the test is true, else the second
abbrev pub meeting : Bool → ℕ → ℕ → Game
meeting true a b = record { host = a; guest = b }
meeting false a b = record { host = b; guest = a }

-- game k of round r: with m = n - 1, game 0 is that of m and r, m at home if r is even; in the others r + k plays r - k
-- modulo m, the first at home if k is odd
abbrev pub game_of : ℕ → ℕ → ℕ → Game
game_of n r k =
    pick (k == 0)
    (meeting (r % 2 == 0) (n - 1) r)
    (meeting (k % 2 == 1) (rest (n - 1) (r + k)) (rest (n - 1) (r + (n - 1) - k)))

-- byte p of round r: the host of a game at an even place, the guest at an odd one
unfoldable pub round_byte : ℕ → ℕ → ℕ → ℕ
round_byte n r p = pick (p % 2 == 0) (game_of n r (p / 2)).host (game_of n r (p / 2)).guest

-- the bytes of round r
abbrev pub round_bytes : ℕ → ℕ → List ℕ
round_bytes n r = map (round_byte n r) (range_with_len 0 n)

-- byte p of the plan, n bytes a round
unfoldable pub plan_byte : ℕ → ℕ → ℕ
plan_byte n p = round_byte n (p / n) (p % n)

-- how many bytes the plan for n teams has: n - 1 rounds of n bytes
abbrev pub plan_length : ℕ → ℕ
plan_length n = (n - 1) * n

-- the bytes of the plan for n teams
abbrev pub plan_bytes : ℕ → List ℕ
plan_bytes n = map (plan_byte n) (range_with_len 0 (plan_length n))

-- memory with the plan written at its front, and after that what stood there
abbrev pub with_plan : ℕ → List ℕ → List ℕ
with_plan n old = written (plan_byte n) (plan_length n) old

-- n teams for which a plan is made, and so many bytes that they hold it
pub record Fitting (n bytes : ℕ) : Type 0 where
  pub some_teams : 0 < n
  pub even_teams : n % 2 ≡ 0
  pub few_teams : n ≤ 64
  pub room : plan_length n ≤ bytes

-- the checks in their order: of a number of teams, and of the number of bytes that are there for its plan
abbrev pub unless_unfit : {A : Type 0} → ℕ → ℕ → Told A → Told A
unless_unfit n bytes after = unless (unplanned n) 1 0 (unless (nat_lt bytes (plan_length n)) 10 0 after)

-- what lent memory holds afterwards: the plan, then what stood there; refused, what stood there
abbrev pub plan_after : {A : Type 0} → Told A → ℕ → List ℕ → List ℕ
plan_after (given a) n old = with_plan n old
plan_after (refused number place) n old = old
