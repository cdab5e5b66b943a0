-- What is promised of the plan by circles, beside that it is a best plan.
use Rattle.std.specs.Prelude.{◌≡◌, ℕ, ◌-◌, ◌%◌, ◌<◌, List, ◌==◌}
use Rattle.planner.specs.Circle.{with_plan}
use Rattle.season.specs.Bytes.{plan_of}
use Rattle.season.specs.Plan.{Agree, break_at, circle, pick}

-- the bytes say what the definition says: the plan read back from them agrees with the plan by circles, whatever follows them
unfoldable pub BytesAgree : Type 0
BytesAgree = (n : ℕ) (old : List ℕ) → 0 < n → n % 2 ≡ 0 → Agree n (plan_of n (with_plan n old)) (circle n)

-- who has a break, and when: team i in round i or i + 1, whichever is odd, if the plan has that round
unfoldable pub BreakRounds : Type 0
BreakRounds =
    (n : ℕ) → n % 2 ≡ 0 → (i r : ℕ) → i < n → r < n - 2 → break_at (circle n) i r ≡ pick (r == i - i % 2) 1 0
