-- Every f that the calls agree with has been written at the places before this one.
use Rattle.std.proofs.Common.{◌≡◌, ℕ, ◌<◌}
use Rattle.season.specs.Rows.{written}
use Rattle.season.proofs.rows.write_front.Given as goal

abbrev pub invariant-loop-k : goal.invariant-loop-k
invariant-loop-k g l =
    (f : ℕ → g.row.T.Denot) → ((k : ℕ) (x : g.row.T.Denot) → k < l.n → g.F.Fn.post l.value (k, tt) x → x ≡ f k) →
    l.place-items ≡ written f l.k l.initial.place-items
