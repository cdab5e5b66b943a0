use Rattle.std.proofs.Common.{refl}
use Rattle.std.proofs.iter.Next.{says_at}
use Rattle.std.specs.Fn.{FnReturnsAt}
use Rattle.season.proofs.First.{found_in_row, refused_there, passed_all}
use Rattle.season.proofs.rows.refuse_first.Goals as goal

pub returns-in_default : goal.returns-in_default
returns-in_default g c = λ p number agree tells.
    let found = found_in_row _ (FnReturnsAt g.P.Fn c.args.test) p c.args.row.now c.position.ensures.ran c.iter.ensures.rest
    (λ x b q k. (g.met.P.Fn.1.step_stays _ _ _ _ k, says_at g.P.Fn ((g.met.P.FnMut.1.post_iff _ _ _).1 (q, k)) refl)) agree in
    passed_all found number _ c.in_default.is

pub returns : goal.returns
returns g c = λ p number agree tells.
    let found = found_in_row _ (FnReturnsAt g.P.Fn c.args.test) p c.args.row.now c.position.ensures.ran c.iter.ensures.rest
    (λ x b q k. (g.met.P.Fn.1.step_stays _ _ _ _ k, says_at g.P.Fn ((g.met.P.FnMut.1.post_iff _ _ _).1 (q, k)) refl)) agree in
    let told = tells c.in-Some.k c.refusal.result c.refusal.ensures in
    rw (told.0, told.1) (refused_there found number _ c.in-Some.is)
