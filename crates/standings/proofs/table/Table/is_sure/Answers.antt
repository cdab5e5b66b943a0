use borrow.Author.Tests.{tests}
use Rattle.std.proofs.Common.{not, refl, ap, ◌∙◌, rules}
use native.Mathlib.Nat.{sub-zero}
use Rattle.std.proofs.lemmas.Bool.Decides.{Decides-at}
use Rattle.std.proofs.lemmas.Iterator.{YieldsList-from_range}
use Rattle.std.proofs.lemmas.Iterator.Search.{any_from_yields_List}
use Rattle.standings.proofs.SureFirst.{none_any, sure_decides}
use Rattle.standings.proofs.table.Table.is_sure.Goals as goal
use Rattle.standings.specs.Held.{held}
use Rattle.standings.specs.Sure.{can_pass, sure}

pub returns : goal.returns
returns c =
    let t = held c.args.self in
    let p = can_pass t c.args.team in
    let other_passes = any_from_yields_List p _ _ c.any.result c.any.ensures.ran
    (YieldsList-from_range 0 t.teams t.teams refl (sub-zero t.teams)) (λ x b q k. search (rules, tests)) in
    let answer = ap not other_passes ∙ none_any p t.teams in
    record {
      answer = answer;
      always = Decides-at _ (sure t c.args.team) answer (sure_decides t c.args.team c.args.self.within.sound c.requires);
    }
