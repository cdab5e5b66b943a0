-- The games before this one are written.
use Rattle.std.proofs.Common.{◌≡◌}
use Rattle.std.specs.Prelude.{string_bytes}
use Rattle.season_plan.specs.Lines.{line_of}
use Rattle.season_plan.proofs.round_line.Given as goal

abbrev pub invariant-loop-pair : goal.invariant-loop-pair
invariant-loop-pair l = string_bytes l.line ≡ line_of l.fn.r l.round l.pair-index
