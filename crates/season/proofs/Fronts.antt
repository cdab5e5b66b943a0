-- A row whose front was written anew: one place more.
use Rattle.std.proofs.Common.{◌≡◌, ℕ, ◌+◌, ◌-◌, ◌<◌, ◌≤◌, List, [], ◌∷◌, ◌++◌, length, get_or, drop, set, refl, ap, ◌∙◌, append_assoc, arith}
use Rattle.std.proofs.lemmas.List.{get_or-append_right, get_or-drop, set-append_right, drop_more}

module _ {X : Type 0} (front old : List X) (n : ℕ) (is_long : length front ≡ n) where
  pub front_more : (x : X) → n < length old → set (front ++ drop n old) n x ≡ (front ++ x ∷ []) ++ drop (n + 1) old
  front_more x l =
      let z : n - n ≡ 0 = omega arith in
      let step = set-append_right front (drop n old) n n x is_long (omega arith) in
      rw (step, z, drop_more old n x l, append_assoc) refl

  pub past_front : (k : ℕ) (d : X) → n ≤ k → get_or (front ++ drop n old) k d ≡ get_or old k d
  past_front k d l =
      let e : n + (k - n) ≡ k = omega arith in
      get_or-append_right front (drop n old) n k d is_long l ∙ get_or-drop n old (k - n) d ∙ ap (λ j. get_or old j d) e
