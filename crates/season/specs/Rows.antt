-- Rows of anything: the first place where a test holds, and what is written from the front on.
use Rattle.std.specs.Prelude.{ℕ, zero, suc, Bool, cond, List, ◌++◌, map, drop}
use Rattle.std.specs.List.{range_with_len}

-- the first of the places from k on, of which there are n, where p holds, or the place after them
abbrev pub first : (ℕ → Bool) → ℕ → ℕ → ℕ
first p k zero = k
first p k (suc n) = cond (p k) k (first p (suc k) n)

-- a row with f k written at each place k below n, and after those what stood there
abbrev pub written : {X : Type 0} → (ℕ → X) → ℕ → List X → List X
written f n old = map f (range_with_len 0 n) ++ drop n old
