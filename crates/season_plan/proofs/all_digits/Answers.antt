use Rattle.std.proofs.Common.{rules, ◌≡◌, ◌<◌, true, ◌↔◌, length}
use Rattle.season_plan.proofs.Digits.{AllDigits, by_bytes}
use Rattle.season_plan.proofs.all_digits.Goals as goal

pub returns-then-not-is_empty : goal.returns-then-not-is_empty
returns-then-not-is_empty c =
    let digits = c.args.bytes.now in
    let some : 0 < length digits = search rules in
    let all : (c.all.result ≡ true) ↔ AllDigits digits = search rules in
    (λ e. (some, by_bytes.to digits (all.0 e)), λ n. all.1 (by_bytes.from digits n.1))
