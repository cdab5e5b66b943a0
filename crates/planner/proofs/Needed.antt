-- Every proper plan has at least n - 2 breaks: at most one team without a break begins at home, and at most one begins away.
use Rattle.std.proofs.Common.{◌≡◌, ℕ, ◌+◌, ◌<◌, ◌≤◌, Bool, true, false, ◌&&◌, eqb, sym, ◌∙◌, inl, inr, arith}
use Rattle.std.proofs.lemmas.Bool.{cases_eq}
use Rattle.std.proofs.lemmas.Bool.Decides.{nat_tests}
use Rattle.season.specs.Plan.{Plan, Proper, pick, span, equal, breaks_of, breaks}
use Rattle.season.specs.Promise.{BeginDifferently, BreaksNeeded}
use Rattle.season.proofs.Spans.{span-add, span_each_one, span_at_most_one}
use Rattle.planner.proofs.Begins.{begin_differently}

module _ (n : ℕ) (s : Plan) where
  -- 1 if team i has no break, and begins at home if b is true, else away
  unbroken : Bool → ℕ → ℕ
  unbroken b i = pick (eqb (breaks_of n s i) 0 && equal b (s.home 0 i)) 1 0

  unbroken_small : (b : Bool) (i : ℕ) → unbroken b i ≤ 1
  unfolding unbroken
  unbroken_small b i = grind (arith, nat_tests)

  unbroken_says : (b : Bool) (i : ℕ) → 0 < unbroken b i → (breaks_of n s i ≡ 0) × (s.home 0 i ≡ b)
  unfolding unbroken equal
  unbroken_says b i h = grind (arith, nat_tests)

  broken_or_not : (i : ℕ) → 1 ≤ breaks_of n s i + (unbroken true i + unbroken false i)
  unfolding unbroken equal
  broken_or_not i = grind (arith, nat_tests)

  few_unbroken : Proper n s → (b : Bool) → span (unbroken b) n ≤ 1
  unfolding BeginDifferently
  few_unbroken p b =
      span_at_most_one (unbroken b) n (unbroken_small b) (λ i j li lj hi hj.
      let i_so = unbroken_says b i hi in
      let j_so = unbroken_says b j hj in
      elim (cases_eq i j) [
        | inl e ↦ e
        | inr ne ↦ absurd (begin_differently n s i j p li lj ne i_so.0 j_so.0 (i_so.1 ∙ sym j_so.1))
      ])

pub breaks_needed : BreaksNeeded
unfolding BreaksNeeded breaks
breaks_needed n s p =
    let without : ℕ → ℕ = λ i. unbroken n s true i + unbroken n s false i in
    let all = span_each_one (λ i. breaks_of n s i + without i) n (λ i l. broken_or_not n s i) in
    let parts = span-add (breaks_of n s) without n in
    let two = span-add (unbroken n s true) (unbroken n s false) n in
    omega (arith, few_unbroken n s p true, few_unbroken n s p false)
