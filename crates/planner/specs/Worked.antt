-- Plans worked out by hand, as theorems about the definitions.
use Rattle.std.specs.Prelude.{◌≡◌, ℕ, List, [], ◌∷◌}
use Rattle.planner.specs.Circle.{plan_bytes}
use Rattle.season.specs.Bytes.{plan_of}
use Rattle.season.specs.Plan.{breaks, circle}

-- the bytes of the plan by circles for n teams, and its breaks, counted in the bytes and in the definition
pub record Worked (n : ℕ) (bytes : List ℕ) (count : ℕ) : Type 0 where
  pub plan : plan_bytes n ≡ bytes
  pub in_bytes : breaks n (plan_of n bytes) ≡ count
  pub in_circle : breaks n (circle n) ≡ count

abbrev pub two_teams : List ℕ
two_teams = 1 ∷ 0 ∷ []

abbrev pub four_teams : List ℕ
four_teams =
    3 ∷ 0 ∷ 1 ∷ 2
    ∷ 1 ∷ 3 ∷ 2 ∷ 0
    ∷ 3 ∷ 2 ∷ 0 ∷ 1 ∷ []

abbrev pub six_teams : List ℕ
six_teams =
    5 ∷ 0 ∷ 1 ∷ 4 ∷ 3 ∷ 2
    ∷ 1 ∷ 5 ∷ 2 ∷ 0 ∷ 4 ∷ 3
    ∷ 5 ∷ 2 ∷ 3 ∷ 1 ∷ 0 ∷ 4
    ∷ 3 ∷ 5 ∷ 4 ∷ 2 ∷ 1 ∷ 0
    ∷ 5 ∷ 4 ∷ 0 ∷ 3 ∷ 2 ∷ 1 ∷ []

-- the plans for 2, 4 and 6 teams
abbrev pub WorkedPlans : Type 0
WorkedPlans = Worked 2 two_teams 0 × Worked 4 four_teams 2 × Worked 6 six_teams 4
