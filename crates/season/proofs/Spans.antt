-- Sums of numbers below a bound.
use Rattle.std.proofs.Common.{◌≡◌, ℕ, zero, suc, ◌+◌, ◌<◌, ◌≤◌, eqb, ltb, ◌≢◌, refl, inl, inr, arith}
use Rattle.std.proofs.lemmas.Bool.{cases_eq}
use Rattle.std.proofs.lemmas.Bool.Decides.{nat_tests}
use Rattle.season.specs.Plan.{pick, span}

pub span_same : (f g : ℕ → ℕ) (n : ℕ) → ((k : ℕ) → k < n → f k ≡ g k) → span f n ≡ span g n
unfolding span
span_same f g zero same = refl
span_same f g (suc n) same = omega (arith, same n (omega arith), span_same f g n (λ k l. same k (omega arith)))

pub span-add : (f g : ℕ → ℕ) (n : ℕ) → span (λ k. f k + g k) n ≡ span f n + span g n
unfolding span
span-add f g zero = refl
span-add f g (suc n) = omega (arith, span-add f g n)

pub part_le_span : (f : ℕ → ℕ) (n k : ℕ) → k < n → f k ≤ span f n
unfolding span
part_le_span f zero k l = absurd (omega arith)
part_le_span f (suc n) k l =
    elim (cases_eq k n) [
      | inl e ↦ rw e (omega arith)
      | inr ne ↦ omega (arith, part_le_span f n k (omega arith))
    ]

pub span_each_one : (f : ℕ → ℕ) (n : ℕ) → ((k : ℕ) → k < n → 1 ≤ f k) → n ≤ span f n
unfolding span
span_each_one f zero each = omega arith
span_each_one f (suc n) each = omega (arith, each n (omega arith), span_each_one f n (λ k l. each k (omega arith)))

pub span_none : (f : ℕ → ℕ) (n : ℕ) → ((k : ℕ) → k < n → f k ≡ 0) → span f n ≡ 0
unfolding span
span_none f zero none = refl
span_none f (suc n) none = omega (arith, none n (omega arith), span_none f n (λ k l. none k (omega arith)))

-- a sum of which one part alone is not 0
pub span_only : (f : ℕ → ℕ) (n a : ℕ) → a < n → ((k : ℕ) → k < n → k ≢ a → f k ≡ 0) → span f n ≡ f a
unfolding span
span_only f zero a l none = absurd (omega arith)
span_only f (suc n) a l none =
    elim (cases_eq a n) [
      | inl e ↦ rw e (omega (arith, span_none f n (λ k lk. none k (omega arith) (omega arith))))
      | inr ne ↦ omega (arith, none n (omega arith) (omega arith), span_only f n a (omega arith) (λ k lk. none k (omega arith)))
    ]

-- a sum of which at most one part is not 0, and that one 1
pub span_at_most_one :
    (f : ℕ → ℕ) (n : ℕ) → ((k : ℕ) → f k ≤ 1) → ((i j : ℕ) → i < n → j < n → 0 < f i → 0 < f j → i ≡ j) → span f n ≤ 1
unfolding span
span_at_most_one f zero small one = omega arith
span_at_most_one f (suc n) small one =
    let before = span_at_most_one f n small (λ i j li lj. one i j (omega arith) (omega arith)) in
    elim (cases_eq (f n) 0) [
      | inl e ↦ omega arith
      | inr ne ↦
          let none : (k : ℕ) → k < n → f k ≡ 0 =
          λ k l. elim (cases_eq (f k) 0) [
            | inl e ↦ e
            | inr here ↦ absurd (omega (arith, one k n (omega arith) (omega arith) (omega arith) (omega arith)))
          ] in
          omega (arith, small n, span_none f n none)
    ]

pub span-point : (a n : ℕ) → span (λ k. pick (eqb k a) 1 0) n ≡ pick (ltb a n) 1 0
unfolding span
span-point a zero = grind (arith, nat_tests)
span-point a (suc n) = let before = span-point a n in grind (arith, nat_tests)

pub span_below : (k n : ℕ) → span (λ i. pick (ltb i k) 1 0) n ≡ pick (ltb n k) n k
unfolding span
span_below k zero = grind (arith, nat_tests)
span_below k (suc n) = let before = span_below k n in grind (arith, nat_tests)
