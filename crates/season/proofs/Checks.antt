-- One check of a list: what is known where it is passed, and that it is passed where it does not apply.
use Rattle.std.proofs.Common.{◌≡◌, ℕ, ◌<◌, Bool, true, false, ltb, refl, arith}
use Rattle.std.proofs.lemmas.Bool.{le-ltb, ltb-false, cond-false}
use Rattle.season.specs.Reading.{unless_at}
use Rattle.season.specs.Refused.{Told, given, refused, unless}
use Rattle.season.specs.Rows.{first}
use Rattle.season.proofs.First.{first_none, none_before}

module _ {A : Type 0} where
  pub passed :
      (b : Bool) (number place : ℕ) (after : Told A) (s : A) → unless b number place after ≡ given s →
      (b ≡ false) × (after ≡ given s)
  passed true number place after s e = let z : ◌≡◌ {A = ℕ} 0 1 = cc in absurd (omega arith)
  passed false number place after s e = (refl, e)

  pub passed_at :
      (p : ℕ → Bool) (n number : ℕ) (after : Told A) (s : A) → unless_at p n number after ≡ given s →
      ((k : ℕ) → k < n → p k ≡ false) × (after ≡ given s)
  passed_at p n number after s e =
      let both = passed (ltb (first p 0 n) n) number (first p 0 n) after s e in
      let past = ltb-false (first p 0 n) n both.0 in
      ((λ k l. none_before p 0 n (omega arith) k (omega arith) (omega arith)), both.1)

  pub pass : (b : Bool) (number place : ℕ) (after : Told A) → b ≡ false → unless b number place after ≡ after
  pass b number place after e = cond-false b (refused number place) after e

  pub pass_at :
      (p : ℕ → Bool) (n number : ℕ) (after : Told A) → ((k : ℕ) → k < n → p k ≡ false) → unless_at p n number after ≡ after
  pass_at p n number after none =
      let end = first_none p 0 n (λ j low high. none j (omega arith)) in
      pass (ltb (first p 0 n) n) number (first p 0 n) after (le-ltb (first p 0 n) n (omega arith))
