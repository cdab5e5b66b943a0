-- A row of bytes cut into pairs: how many there are, and what each holds.
use Rattle.std.proofs.Common.{◌≡◌, ℕ, zero, suc, ◌+◌, ◌-◌, ◌*◌, ◌<◌, ◌≤◌, List, length, get_or, take, drop, refl, ap, ◌∙◌, add-zero, arith}
use Rattle.std.proofs.lemmas.List.{drop-drop, drop-take, get_or-drop, get_or-take, take-take}
use Rattle.std.proofs.Math.Nat.{zero-mul}
use Rattle.std.specs.Simd.{first_chunks}
use Rattle.season.specs.Bytes.{number_at, game_at}

pub length-first_chunks : {X : Type 0} (n k : ℕ) (xs : List X) → length (first_chunks n k xs) ≡ k
length-first_chunks n zero xs = refl
length-first_chunks n (suc k) xs = ap (λ (j : ℕ). suc j) (length-first_chunks n k (drop n xs))

-- the first chunks lie in the front of the row
pub first_chunks-take : {X : Type 0} (n k m : ℕ) (xs : List X) → k * n ≤ m → first_chunks n k (take m xs) ≡ first_chunks n k xs
first_chunks-take n zero m xs h = refl
first_chunks-take n (suc k) m xs h =
    let split : n + (m - n) ≡ m = omega arith in
    let rest : drop n (take m xs) ≡ take (m - n) (drop n xs) = rw split at (drop-take n (m - n) xs) in
    let front = take-take n m xs (omega arith) in
    rw (front, rest, first_chunks-take n k (m - n) (drop n xs) (omega arith)) refl

chunk_at :
    {X : Type 0} (n m : ℕ) (xs : List X) (k : ℕ) (d : List X) → k < m → get_or (first_chunks n m xs) k d ≡ take n (drop (k * n) xs)
chunk_at n zero xs k d l = absurd (omega arith)
chunk_at n (suc m) xs zero d l = rw zero-mul refl
chunk_at n (suc m) xs (suc k) d l =
    let later = chunk_at n m (drop n xs) k d (omega arith) in
    let place : n + k * n ≡ suc k * n = omega arith in
    later ∙ ap (take n) (drop-drop (k * n) n xs) ∙ ap (λ j. take n (drop j xs)) place

-- a pair has the bytes of its place
module _ (m : ℕ) (bytes : List ℕ) (k : ℕ) (d : List ℕ) (l : k < m) where
  byte_of : (b : ℕ) → b < 2 → get_or (get_or (first_chunks 2 m bytes) k d) b 0 ≡ get_or bytes (2 * k + b) 0
  byte_of b two =
      let place : k * 2 + b ≡ 2 * k + b = omega arith in
      rw (chunk_at 2 m bytes k d l)
      (get_or-take 2 (drop (k * 2) bytes) b 0 two ∙ get_or-drop (k * 2) bytes b 0 ∙ ap (λ j. get_or bytes j 0) place)

  low : get_or (get_or (first_chunks 2 m bytes) k d) 0 0 ≡ get_or bytes (2 * k) 0
  low = rw add-zero at (byte_of 0 (omega arith))

  number_pair : number_at (get_or (first_chunks 2 m bytes) k d) 0 ≡ number_at bytes k
  number_pair = rw (low, byte_of 1 (omega arith)) refl

  game_pair : game_at (get_or (first_chunks 2 m bytes) k d) 0 ≡ game_at bytes k
  game_pair = rw (low, byte_of 1 (omega arith)) refl

  -- a pair that stands at the place of its row
  module _ {pairs : List (List ℕ)} {pair : List ℕ} (are : pairs ≡ first_chunks 2 m bytes) (here : pair ≡ get_or pairs k d) where
    stands : pair ≡ get_or (first_chunks 2 m bytes) k d
    stands = here ∙ ap (λ xs. get_or xs k d) are

    pub number_there : number_at pair 0 ≡ number_at bytes k
    number_there = ap (λ x. number_at x 0) stands ∙ number_pair

    pub game_there : game_at pair 0 ≡ game_at bytes k
    game_there = ap (λ x. game_at x 0) stands ∙ game_pair
