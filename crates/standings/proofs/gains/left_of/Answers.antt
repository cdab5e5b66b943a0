use Rattle.std.proofs.Common.{ℕ, sym, refl, ap, ◌∙◌, arith}
use Rattle.std.proofs.lemmas.List.{take_all}
use Rattle.season.specs.Plan.{pick}
use Rattle.season.specs.Table.{left_of}
use Rattle.standings.proofs.Matches.{left_of_turn, left_of_before}
use Rattle.standings.proofs.gains.left_of.Goals as goal
use Rattle.standings.proofs.gains.left_of.Goals.{then-plays, else-plays}

pub loop-game-init : goal.loop-game-init
unfolding left_of
loop-game-init c = refl

pub overflow_add-left : goal.overflow_add-left
overflow_add-left c = omega (arith, left_of_before c.args.games.now c.loop-game.game-index c.args.team)

pub loop-game-preserved : goal.loop-game-preserved
loop-game-preserved c =
    let more = left_of_turn c.args.games.now c.loop-game.game-index (record { host = 0; guest = 0 }) c.loop-game-test.true
    c.args.team in
    elim c.if-plays.branch [
      | then-plays w ↦ omega (arith, ap {B = ℕ} (λ b. pick b 1 0) (sym c.plays.ensures ∙ w.if-plays.true), w.left-is)
      | else-plays w ↦ omega (arith, ap {B = ℕ} (λ b. pick b 1 0) (sym c.plays.ensures ∙ w.if-plays.false), w.left-is)
    ]

pub returns : goal.returns
returns c = rw (take_all c.loop-game.game-index c.args.games.now c.loop-game-test.false) at c.loop-game.invariant
