-- The first place where a test holds: what is known of it, and that `position` and `find` give it.
use Rattle.std.proofs.Common.{◌≡◌, ℕ, zero, suc, ◌+◌, ◌<◌, ◌≤◌, Bool, true, false, cond, ltb, ◌≢◌, List, [], ◌∷◌, length, get_or, Option, Some, None, unwrap_or, Bor, Iter, sym, refl, ◌∙◌, inl, inr, arith}
use Rattle.std.proofs.Math.Nat.{zero-add}
use Rattle.std.proofs.lemmas.Fn.{fronts}
use Rattle.std.proofs.lemmas.Iterator.{YieldsList-from_slice, IsFirst-from_position, first_from_Range}
use Rattle.std.proofs.iter.Yields.{nat_range_steps}
use Rattle.std.specs.Fn.{Mut, Called, CalledAt}
use Rattle.std.specs.Iterator.{FindsPosition, FindsItem}
use Rattle.std.specs.List.{AllWithin, HoldsAt}
use Rattle.std.specs.Option.{MatchOption}
use Rattle.std.specs.Slice.Iter.{iter_rest}
use Rattle.std.proofs.lemmas.Bool.{lt-ltb, le-ltb, both_ways, cases_Bool, cases_eq, cases_lt}
use Rattle.season.specs.Reading.{unless_at}
use Rattle.season.specs.Refused.{Told, refused}
use Rattle.season.specs.Rows.{first}

-- where the first place is past the end, the test holds nowhere
pub none_before : (p : ℕ → Bool) (k n : ℕ) → k + n ≤ first p k n → (j : ℕ) → k ≤ j → j < k + n → p j ≡ false
none_before p k zero h j low high = absurd (omega arith)
none_before p k (suc n) h j low high =
    elim (cases_Bool (p k)) [
      | inl t ↦ let stop : k + suc n ≤ k = rw t at h in absurd (omega arith)
      | inr f ↦
          let on : k + suc n ≤ first p (suc k) n = rw f at h in
          elim (cases_eq k j) [
            | inl e ↦ rw e at f
            | inr ne ↦ none_before p (suc k) n (omega arith) j (omega arith) (omega arith)
          ]
    ]

-- where the test holds nowhere, the first place is the end
pub first_none : (p : ℕ → Bool) (k n : ℕ) → ((j : ℕ) → k ≤ j → j < k + n → p j ≡ false) → first p k n ≡ k + n
first_none p k zero none = omega arith
first_none p k (suc n) none =
    let rest = first_none p (suc k) n (λ j low high. none j (omega arith) (omega arith)) in
    rw (none k (omega arith) (omega arith)) (omega (arith, rest))

-- where the test holds somewhere, it holds at the first place
pub first_holds :
    (p : ℕ → Bool) (k n j : ℕ) → k ≤ j → j < k + n → p j ≡ true → (first p k n < k + n) × (p (first p k n) ≡ true)
first_holds p k zero j low high t = absurd (omega arith)
first_holds p k (suc n) j low high t =
    elim (cases_Bool (p k)) [
      | inl here ↦ rw here (omega arith, here)
      | inr not_here ↦
          let later : k ≢ j = λ e. both_ways (p k) not_here (rw e t) in
          let on = first_holds p (suc k) n j (omega arith) (omega arith) t in
          rw not_here (omega (arith, on.0), on.1)
    ]

pub first_le : (p : ℕ → Bool) (k n : ℕ) → first p k n ≤ k + n
first_le p k zero = omega arith
first_le p k (suc n) =
    elim (cases_Bool (p k)) [
      | inl t ↦ rw t (omega arith)
      | inr f ↦ rw f (omega (arith, first_le p (suc k) n))
    ]

-- tests that agree at each place have the same first place
pub first_same : (p q : ℕ → Bool) (k n : ℕ) → ((j : ℕ) → k ≤ j → j < k + n → p j ≡ q j) → first p k n ≡ first q k n
first_same p q k zero same = refl
first_same p q k (suc n) same =
    let on = first_same p q (suc k) n (λ j low high. same j (omega arith) (omega arith)) in
    rw (same k (omega arith) (omega arith), on) refl

-- the place where the test holds, and nowhere before, is the first
first_at :
    (p : ℕ → Bool) (k n i : ℕ) → k ≤ i → i < k + n → p i ≡ true → ((j : ℕ) → k ≤ j → j < i → p j ≡ false) → first p k n ≡ i
first_at p k zero i low high t none = absurd (omega arith)
first_at p k (suc n) i low high t none =
    elim (cases_eq k i) [
      | inl e ↦ let here : p k ≡ true = rw e t in rw here e
      | inr ne ↦
          let f = none k (omega arith) (omega arith) in
          rw f (first_at p (suc k) n i (omega arith) (omega arith) t (λ j past before. none j (omega arith) before))
    ]

-- the first of n places where p holds, or none
pub record Found (p : ℕ → Bool) (n : ℕ) (r : Option ℕ) : Type 0 where
  pub is : r ≡ cond (ltb (first p 0 n) n) (Some (first p 0 n)) None

found_by :
    (p : ℕ → Bool) (n : ℕ) (r : Option ℕ) →
    MatchOption r ((k : ℕ) → k < n → p k ≡ false) (λ i. (i < n) × (p i ≡ true) × ((k : ℕ) → k < i → p k ≡ false)) → Found p n r
found_by p n None none =
    let end : first p 0 n ≡ n = rw zero-add at (first_none p 0 n (λ j low high. none j (omega arith))) in
    record { is = rw (end, le-ltb n n (omega arith)) refl }
found_by p n (Some i) h =
    let here = first_at p 0 n i (omega arith) (omega (arith, h.0)) h.1 (λ j low before. h.2 j before) in
    record { is = rw (here, lt-ltb i n h.0) refl }

-- an element of a row that has one at k
element : {X : Type 0} (xs : List X) (k : ℕ) → k < length xs → X
element [] k l = absurd (omega arith)
element (x ∷ xs) k l = x

-- what `position` finds in a row, where what a call says of an element says what p says of its place
pub found_in_row :
    {X F : Type 0} {g : Mut F (Bor X × Unit {0}) Bool} {s : Iter X} (u : Iter X) {f : F} {r : Option ℕ}
    (Says : X → Bool → Type 0) (p : ℕ → Bool) (xs : List X) → FindsPosition fronts g s f r u → iter_rest s ≡ xs →
    ((x : Bor X) (b : Bool) (q : F) → Called g f (x, tt) b q → (q ≡ f) × Says x.now b) →
    ((k : ℕ) (d : X) (b : Bool) → k < length xs → Says (get_or xs k d) b → b ≡ p k) → Found p (length xs) r
found_in_row {X = X} u {f = f} {r = r} Says p xs ran rest calls agree =
    found_by p (length xs) r (between r (IsFirst-from_position u f r (λ x. Says x true) (λ x. Says x false) ran
    (YieldsList-from_slice xs rest) (λ x q called. (calls x true q called).1) (λ x q called. calls x false q called)))
  where
    told : (k : ℕ) (b : Bool) → k < length xs → ((d : X) → Says (get_or xs k d) b) → p k ≡ b
    told k b l says = let d = element xs k l in sym (agree k d b l (says d))

    between : (o : Option ℕ) → MatchOption o (AllWithin (λ x. Says x false) xs 0 (length xs))
        (λ i. (i < length xs) × HoldsAt (λ x. Says x true) xs i × AllWithin (λ x. Says x false) xs 0 i) →
        MatchOption o ((k : ℕ) → k < length xs → p k ≡ false) (λ i. (i < length xs) × (p i ≡ true) × ((k : ℕ) → k < i → p k ≡ false))
    between None none = λ k l. told k false l (λ d. none k d (omega arith) l)
    between (Some i) here =
        (here.0, told i true here.0 here.1, λ k l. told k false (omega (arith, here.0)) (λ d. here.2 k d (omega arith) l))

-- what `find` finds in a range from 0, where the closure answers p
pub found_in_range :
    {F : Type 0} {g : Mut F (Bor ℕ × Unit {0}) Bool} {s : _} (u : _) {f : F} {r : Option ℕ} (p : ℕ → Bool) (n : ℕ) →
    FindsItem nat_range_steps g s f r u → s.start ≡ 0 → s.end ≡ n →
    ((x : ℕ) (b : Bool) (q : F) → CalledAt g f x b q → (q ≡ f) × (b ≡ p x)) → Found p n r
found_in_range {s = s} u {f = f} {r = r} p n ran from to calls =
    found_by p n r (between r (first_from_Range s u f r (λ k. p k ≡ true) (λ k. p k ≡ false) ran
    (λ x q called. sym (calls x true q called).1)
    (λ x q called. let said = calls x false q called in (said.0, sym said.1))))
  where
    between : (o : Option ℕ) → MatchOption o ((k : ℕ) → s.start ≤ k → k < s.end → p k ≡ false)
        (λ i. (s.start ≤ i) × (i < s.end) × (p i ≡ true) × ((k : ℕ) → s.start ≤ k → k < i → p k ≡ false)) →
        MatchOption o ((k : ℕ) → k < n → p k ≡ false) (λ i. (i < n) × (p i ≡ true) × ((k : ℕ) → k < i → p k ≡ false))
    between None none = λ k l. none k (rw from (omega arith)) (rw to l)
    between (Some i) here = (rw to at here.1, here.2, λ k l. here.3 k (rw from (omega arith)) l)

module _ {p : ℕ → Bool} {n : ℕ} {r : Option ℕ} (found : Found p n r) {A : Type 0} (number : ℕ) (after : Told A) where
  pub refused_there : {k : ℕ} → r ≡ Some k → refused number k ≡ unless_at p n number after
  refused_there {k} e =
      elim (cases_Bool (ltb (first p 0 n) n)) [
        | inl t ↦ let there : Some k ≡ Some (first p 0 n) = sym e ∙ found.is ∙ rw t refl in rw t (cc there)
        | inr f ↦ let none : Some k ≡ None = sym e ∙ found.is ∙ rw f refl in cc none
      ]

  pub passed_all : r ≡ None → after ≡ unless_at p n number after
  passed_all e =
      elim (cases_Bool (ltb (first p 0 n) n)) [
        | inl t ↦ let there : None ≡ Some (first p 0 n) = sym e ∙ found.is ∙ rw t refl in cc there
        | inr f ↦ rw f refl
      ]

-- the place found, or the end where there is none
pub place_found : {p : ℕ → Bool} {n : ℕ} {r : Option ℕ} → Found p n r → unwrap_or r n ≡ first p 0 n
place_found {p} {n} {r} found =
    elim (cases_lt (first p 0 n) n) [
      | inl there ↦ rw (found.is, lt-ltb (first p 0 n) n there) refl
      | inr past ↦ rw (found.is, le-ltb (first p 0 n) n past) (omega (arith, first_le p 0 n))
    ]
