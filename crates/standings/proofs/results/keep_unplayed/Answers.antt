use Rattle.std.proofs.Common.{sym, ◌∙◌, arith}
use Rattle.standings.proofs.Kept.{kept_none, kept_few, kept_played, kept_left}
use Rattle.standings.proofs.results.keep_unplayed.Goals as goal
use Rattle.standings.proofs.results.keep_unplayed.Goals.{then-not-is_played, else-not-is_played}

pub loop-k-init : goal.loop-k-init
loop-k-init c = kept_none _ _

pub bounds-games-left : goal.bounds-games-left
bounds-games-left c = omega (arith, kept_few c.loop-k.invariant)

pub loop-k-preserved : goal.loop-k-preserved
loop-k-preserved c =
    elim c.if-not-is_played.branch [
      | then-not-is_played w ↦
          let not_played = sym c.is_played.ensures ∙ w.if-not-is_played.true in
          rw (w.games-is, w.left-is) (kept_left c.loop-k.invariant c.loop-k-test.true not_played)
      | else-not-is_played w ↦
          let played = sym c.is_played.ensures ∙ w.if-not-is_played.false in
          rw (w.games-is, w.left-is) (kept_played c.loop-k.invariant c.loop-k-test.true played)
    ]
