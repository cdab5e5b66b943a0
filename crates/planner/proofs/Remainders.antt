-- A team's number, as the remainder of its place on the circle.
use Rattle.std.proofs.Common.{◌≡◌, ℕ, ◌*◌, ◌%◌, ◌<◌, ℤ, pos, ◌+ℤ◌, refl, ◌∙◌, arith}
use Rattle.std.specs.Int.{int_rem_euclid}
use Rattle.std.proofs.lemmas.Int.{ints, int_rem_euclid_is}
use Rattle.season.specs.Plan.{rest}

-- of a place that, k times round a circle of m, comes to the natural number x
pub remainder :
    (found : ℕ) (place : ℤ) (m k x : ℕ) → 0 < m → pos found ≡ int_rem_euclid place (pos m) → place +ℤ pos (k * m) ≡ pos x →
    found ≡ rest m x
unfolding rest
remainder found place m k x some is at =
    let e : pos found ≡ pos (x % m) = is ∙ int_rem_euclid_is place (pos m) m k x some refl at in
    omega (arith, ints, e)
