use Rattle.std.proofs.Common.{◌≡◌, ◌<◌, refl, arith}
use Rattle.std.proofs.lemmas.List.{length-take-le}
use Rattle.season.proofs.Written.{written_more, written_front}
use Rattle.season.proofs.rows.write_front.Goals as goal

pub loop-k-init : goal.loop-k-init
loop-k-init g c = λ f agree. refl

pub loop-k-preserved : goal.loop-k-preserved
loop-k-preserved g c = λ f agree.
    let long = length-take-le c.args.n c.args.row.now c.requires.room in
    let inside : c.loop-k.k < c.args.n = omega (arith, long) in
    written_more f _ _ _ _ c.loop-k-test.true (c.loop-k.invariant f agree) (agree c.loop-k.k c.value.result inside c.value.ensures)

pub returns-clause-values : goal.returns-clause-values
returns-clause-values g c = λ f agree.
    let long = length-take-le c.args.n c.args.row.now c.requires.room in
    let end : c.loop-k.k ≡ c.args.n = omega (arith, long) in
    let all = c.loop-k.invariant f agree in
    written_front f c.args.n c.args.row.now c.loop-k.place-items (rw end at all)
