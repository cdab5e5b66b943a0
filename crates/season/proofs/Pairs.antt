-- A row of pairs of bytes: where each stands, and a row read back from the bytes.
use Rattle.std.proofs.Common.{◌≡◌, ℕ, zero, suc, ◌+◌, ◌*◌, ◌<◌, ◌≤◌, List, [], ◌∷◌, ◌++◌, map, length, get_or, take, sym, refl, ap, ◌∙◌, append_assoc, add-one, arith}
use Rattle.std.specs.List.{range_with_len}
use Rattle.std.proofs.lemmas.List.FromFn.{map-range_with_len_more}
use Rattle.std.proofs.lemmas.List.{take_more}
use Rattle.season.specs.Encoding.{pairs}

module _ {A : Type 0} (a b : A → ℕ) where
  pub length_pairs : (xs : List A) → length (pairs a b xs) ≡ 2 * length xs
  length_pairs [] = refl
  length_pairs (x ∷ xs) = omega (arith, length_pairs xs)

  pub pairs-append : (xs ys : List A) → pairs a b (xs ++ ys) ≡ pairs a b xs ++ pairs a b ys
  pairs-append [] ys = refl
  pairs-append (x ∷ xs) ys = ap (λ l. a x ∷ b x ∷ l) (pairs-append xs ys)

  pub pairs_even :
      (xs : List A) (more : List ℕ) (k : ℕ) (d : A) → k < length xs →
      get_or (pairs a b xs ++ more) (2 * k) 0 ≡ a (get_or xs k d)
  pairs_even [] more k d l = absurd (omega arith)
  pairs_even (x ∷ xs) more zero d l = refl
  pairs_even (x ∷ xs) more (suc k) d l =
      let e : 2 * suc k ≡ suc (suc (2 * k)) = omega arith in
      rw e (pairs_even xs more k d (omega arith))

  pub pairs_odd :
      (xs : List A) (more : List ℕ) (k : ℕ) (d : A) → k < length xs →
      get_or (pairs a b xs ++ more) (2 * k + 1) 0 ≡ b (get_or xs k d)
  pairs_odd [] more k d l = absurd (omega arith)
  pairs_odd (x ∷ xs) more zero d l = refl
  pairs_odd (x ∷ xs) more (suc k) d l =
      let e : 2 * suc k + 1 ≡ suc (suc (2 * k + 1)) = omega arith in
      rw e (pairs_odd xs more k d (omega arith))

-- the bytes of pair m
abbrev pair_at : List ℕ → ℕ → List ℕ
pair_at bytes m = get_or bytes (2 * m) 0 ∷ get_or bytes (2 * m + 1) 0 ∷ []

take-pair : (bytes : List ℕ) (m : ℕ) → 2 * m + 2 ≤ length bytes → take (2 * suc m) bytes ≡ take (2 * m) bytes ++ pair_at bytes m
take-pair bytes m l =
    let e : 2 * suc m ≡ 2 * m + 1 + 1 = omega arith in
    rw (e, take_more bytes (2 * m + 1) 0 (omega arith), take_more bytes (2 * m) 0 (omega arith), append_assoc) refl

-- what is read pair by pair is written as it was
pub pairs_read :
    {A : Type 0} (a b : A → ℕ) (f : ℕ → A) (bytes : List ℕ) (m : ℕ) →
    ((k : ℕ) → a (f k) ≡ get_or bytes (2 * k) 0) → ((k : ℕ) → b (f k) ≡ get_or bytes (2 * k + 1) 0) →
    2 * m ≤ length bytes → pairs a b (map f (range_with_len 0 m)) ≡ take (2 * m) bytes
pairs_read a b f bytes zero p q l = refl
pairs_read a b f bytes (suc m) p q l =
    let before = pairs_read a b f bytes m p q (omega arith) in
    let more : map f (range_with_len 0 (suc m)) ≡ map f (range_with_len 0 m) ++ f m ∷ [] =
    rw (add-one m) at (map-range_with_len_more f 0 m m (omega arith)) in
    let split = pairs-append a b (map f (range_with_len 0 m)) (f m ∷ []) in
    let pair = take-pair bytes m (omega arith) in
    ap (pairs a b) more ∙ split ∙ ap (λ l. l ++ a (f m) ∷ b (f m) ∷ []) before ∙ rw (p m, q m) (sym pair)
