-- What holds of a plan holds of a plan that agrees with it.
use Rattle.std.proofs.Common.{◌≡◌, ℕ, suc, ◌-◌, not, sym, ap, ◌∙◌, arith}
use Rattle.season.specs.Plan.{Plan, Proper, Agree, BestPlan, break_at, breaks_of, breaks}
use Rattle.season.proofs.Spans.{span_same}

module _ {n : ℕ} {s t : Plan} (a : Agree n s t) where
  pub proper_agree : Proper n t → Proper n s
  proper_agree p = record {
    there = λ r i lr li. rw (a.against r i lr li) (p.there r i lr li);
    other = λ r i lr li. rw (a.against r i lr li) (p.other r i lr li);
    mutual_pair = λ r i lr li. rw (a.against r i lr li)
        (a.against r (t.against r i) lr (p.there r i lr li) ∙ p.mutual_pair r i lr li);
    one_home = λ r i lr li. rw (a.against r i lr li)
        (a.home r (t.against r i) lr (p.there r i lr li) ∙ p.one_home r i lr li ∙ ap not (sym (a.home r i lr li)));
    meet = λ i j li lj ne.
        let m = p.meet i j li lj ne in
        (m.0, m.1, a.against m.0 i m.1 li ∙ m.2);
  }

  pub breaks_agree : breaks n s ≡ breaks n t
  unfolding breaks breaks_of
  breaks_agree =
      span_same (breaks_of n s) (breaks_of n t) n (λ i li. span_same (break_at s i) (break_at t i) (n - 2)
      (λ r lr. rw (a.home (suc r) i (omega arith) li, a.home r i (omega arith) li)))

  pub best_agree : BestPlan n t → BestPlan n s
  best_agree b = record { proper = proper_agree b.proper; fewest = λ q p. rw breaks_agree (b.fewest q p) }
