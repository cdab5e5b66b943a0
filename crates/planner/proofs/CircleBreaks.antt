-- The breaks of the plan by circles: every team but the last two has one, team i in round i or i + 1, whichever is odd.
use Rattle.std.proofs.Common.{◌≡◌, ℕ, suc, ◌-◌, ◌%◌, ◌<◌, eqb, ltb, arith}
use Rattle.std.proofs.lemmas.Bool.Decides.{nat_tests}
use Rattle.season.specs.Plan.{pick, equal, break_at, breaks_of, breaks, circle}
use Rattle.season.proofs.Spans.{span_same, span-point, span_below}
use Rattle.planner.proofs.Circles.{home_is}

module _ (n : ℕ) (even : n % 2 ≡ 0) where
  pub break_is : (i r : ℕ) → i < n → r < n - 2 → break_at (circle n) i r ≡ pick (eqb r (i - i % 2)) 1 0
  unfolding equal
  break_is i r li lr =
      let here = home_is n even r i (omega arith) li in
      let next = home_is n even (suc r) i (omega arith) li in
      rw (here, next) (grind (arith, nat_tests))

  breaks_of-circle : (i : ℕ) → i < n → breaks_of n (circle n) i ≡ pick (ltb i (n - 2)) 1 0
  unfolding breaks_of
  breaks_of-circle i l =
      let same = span_same (break_at (circle n) i) (λ r. pick (eqb r (i - i % 2)) 1 0) (n - 2) (λ r. break_is i r l) in
      let one = span-point (i - i % 2) (n - 2) in
      grind (arith, nat_tests)

  pub circle_breaks : breaks n (circle n) ≡ n - 2
  unfolding breaks
  circle_breaks =
      let same = span_same (breaks_of n (circle n)) (λ i. pick (ltb i (n - 2)) 1 0) n breaks_of-circle in
      let count = span_below (n - 2) n in
      grind (arith, nat_tests)
