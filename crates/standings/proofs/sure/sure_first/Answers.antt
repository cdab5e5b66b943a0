use Rattle.std.proofs.Common.{sym, subst, rules}
use Rattle.season.specs.Encoding.{Same, table_in}
use Rattle.standings.proofs.ReadTables.{sure_read, sure_told}
use Rattle.standings.proofs.sure.sure_first.Goals as goal

pub returns : goal.returns
returns c =
    let file = c.args.file.now in
    let same = subst (λ t. Same t (table_in file)) (sym c.lend.ensures) c.in_ok-own.ensures.table in
    let both = sure_read file same c.lend.result.within c.args.team c.is_sure.result (search rules) c.is_sure.ensures.answer in
    record {
      answer = sure_told file c.args.team c.in_ok-own.own.sizes c.is_sure.result c.in_ok-own.ensures.answer (search rules) both.0;
      always = both.1;
    }
