-- Sums and counts over the numbers below a bound, as chains over a range give them.
use Rattle.std.proofs.Common.{◌≡◌, ℕ, zero, suc, Bool, cond, map, length, sum, filter, refl, ◌∙◌, sym, add-one, arith}
use Rattle.std.specs.List.{range_with_len}
use Rattle.std.proofs.lemmas.List.FromFn.{sum_by-map-range_with_len_more}
use Rattle.std.proofs.lemmas.List.Sums.{length-filter, sum-map}
use Rattle.season.proofs.Spans.{span_same}
use Rattle.season.specs.Plan.{span}

pub sum_below : (f : ℕ → ℕ) (n : ℕ) → sum (map f (range_with_len 0 n)) ≡ span f n
unfolding span
sum_below f zero = refl
sum_below f (suc n) =
    let more = rw (add-one n) at (sum_by-map-range_with_len_more (λ (x : ℕ). x) f 0 n n (omega arith)) in
    omega (arith, more, sum_below f n)

-- f tells by 1 or 0 whether the test holds
pub count_below :
    (f : ℕ → ℕ) (p : ℕ → Bool) (n : ℕ) → ((k : ℕ) → cond (p k) 1 0 ≡ f k) → length (filter p (range_with_len 0 n)) ≡ span f n
count_below f p n same =
    length-filter p (range_with_len 0 n)
    ∙ sym (sum-map (λ k. cond (p k) 1 0) (range_with_len 0 n))
    ∙ sum_below (λ k. cond (p k) 1 0) n
    ∙ span_same (λ k. cond (p k) 1 0) f n (λ k l. same k)
