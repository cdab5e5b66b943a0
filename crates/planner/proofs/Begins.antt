-- Two teams without a break do not begin alike: each is at home and away in turn, so they would be alike in the round where they meet.
use Rattle.std.proofs.Common.{◌≡◌, ℕ, zero, suc, ◌-◌, ◌<◌, Bool, not, sym, ap, ◌∙◌, arith}
use Rattle.season.specs.Plan.{Plan, pick, equal, break_at, breaks_of}
use Rattle.season.specs.Promise.{BeginDifferently}
use Rattle.season.proofs.Spans.{part_le_span}

no_break : (a b : Bool) → ◌≡◌ {A = ℕ} (pick (equal a b) 1 0) 0 → a ≡ not b
unfolding equal
no_break a b e = grind arith

not_own : (b : Bool) → b ≡ not b → ⊥
not_own b e = grind arith

turns : (n : ℕ) (s : Plan) (i r : ℕ) → breaks_of n s i ≡ 0 → r < n - 2 → s.home (suc r) i ≡ not (s.home r i)
unfolding breaks_of
turns n s i r e l = no_break _ _ (omega (arith, part_le_span (break_at s i) (n - 2) r l))

alike :
    (n : ℕ) (s : Plan) (i j r : ℕ) → breaks_of n s i ≡ 0 → breaks_of n s j ≡ 0 → s.home 0 i ≡ s.home 0 j →
    r < n - 1 → s.home r i ≡ s.home r j
alike n s i j zero ei ej e l = e
alike n s i j (suc r) ei ej e l =
    turns n s i r ei (omega arith) ∙ ap not (alike n s i j r ei ej e (omega arith)) ∙ sym (turns n s j r ej (omega arith))

pub begin_differently : BeginDifferently
unfolding BeginDifferently
begin_differently n s i j p li lj ne ei ej e =
    let m = p.meet i j li lj ne in
    let away : s.home m.0 j ≡ not (s.home m.0 i) = rw m.2 at (p.one_home m.0 i m.1 li) in
    not_own _ (alike n s i j m.0 ei ej e m.1 ∙ away)
