-- A loop that writes f k at each place k, one place or one part a turn: what was written, then what stood there.
use Rattle.std.proofs.Common.{◌≡◌, ℕ, zero, suc, ◌+◌, ◌<◌, ◌≤◌, List, [], ◌∷◌, ◌++◌, map, length, get_or, take, drop, set, sym, refl, ap, ◌∙◌, append_assoc, add-zero, add-one, arith}
use Rattle.std.specs.List.{range_with_len}
use Rattle.std.proofs.lemmas.List.FromFn.{length-map-range_with_len, map-range_with_len_more}
use Rattle.std.proofs.lemmas.List.{append-nil, take_at, drop_at, drop-drop, length-take}
use Rattle.std.proofs.Math.ListN.{drop_of_length-le}
use Rattle.season.proofs.Fronts.{front_more, past_front}
use Rattle.season.specs.Rows.{written}

pub written_more :
    {X : Type 0} (f : ℕ → X) (old xs : List X) (i : ℕ) (y : X) → i < length old →
    xs ≡ written f i old → y ≡ f i → set xs i y ≡ written f (i + 1) old
written_more f old xs i y l e h =
    let step = front_more (map f (range_with_len 0 i)) old i (length-map-range_with_len f 0 i) y l in
    let more = map-range_with_len_more f 0 i i (omega arith) in
    rw (e, step, more, h) refl

-- what has not been written yet is what stood there
pub written_past :
    {X : Type 0} (f : ℕ → X) (old xs : List X) (i : ℕ) (d : X) → xs ≡ written f i old → get_or xs i d ≡ get_or old i d
written_past f old xs i d e = rw e (past_front (map f (range_with_len 0 i)) old i (length-map-range_with_len f 0 i) i d (omega arith))

module _ {X : Type 0} (f g : ℕ → X) (a : ℕ) where
  -- a row of a + n places is one of a places and one of n
  map_counting_part :
      (n : ℕ) → ((k : ℕ) → k < n → g k ≡ f (a + k)) →
      map f (range_with_len 0 (a + n)) ≡ map f (range_with_len 0 a) ++ map g (range_with_len 0 n)
  map_counting_part zero same = rw add-zero (sym (append-nil (map f (range_with_len 0 a))))
  map_counting_part (suc n) same =
      let long : a + suc n ≡ a + n + 1 = omega arith in
      let before = map_counting_part n (λ k l. same k (omega arith)) in
      let all = map-range_with_len_more f 0 (a + n) (a + n) (omega arith) in
      let mine : map g (range_with_len 0 (suc n)) ≡ map g (range_with_len 0 n) ++ g n ∷ [] =
      rw (add-one n) at (map-range_with_len_more g 0 n n (omega arith)) in
      ap (λ m. map f (range_with_len 0 m)) long
      ∙ rw (all, before, append_assoc, ← same n (omega arith)) (ap (λ l. map f (range_with_len 0 a) ++ l) (sym mine))

  pub written_part :
      (n : ℕ) (old xs : List X) → ((k : ℕ) → k < n → g k ≡ f (a + k)) → xs ≡ written f a old →
      take a xs ++ (map g (range_with_len 0 n) ++ drop (a + n) xs) ≡ written f (a + n) old
  written_part n old xs same e =
      let front = take_at (map f (range_with_len 0 a)) (drop a old) a (length-map-range_with_len f 0 a) in
      let after = drop_at (map f (range_with_len 0 a)) (drop a old) a (length-map-range_with_len f 0 a) in
      rw (e, front, map_counting_part n same, append_assoc, ← drop-drop n a (written f a old), after, drop-drop) refl

-- what was written over the front alone, before the rest
pub written_front :
    {X : Type 0} (f : ℕ → X) (n : ℕ) (old front : List X) → front ≡ written f n (take n old) → front ++ drop n old ≡ written f n old
written_front f n old front e =
    let short : length (take n old) ≤ n = rw length-take (omega arith) in
    let past = drop_of_length-le (take n old) short in
    rw (e, past, append-nil) refl
