use Rattle.std.proofs.Common.{◌∙◌, arith}
use Rattle.lp_integer_rows.specs.Form.{IsSameLine, IsDividedLine}
use Rattle.lp_integer_rows.proofs.Results.{if_ok}
use Rattle.lp_integer_rows.proofs.exchange.turn_pivot.Goals as goal

pub returns : goal.returns
returns c =
    let d = c.divide_pivot.ensures in
    if_ok (λ _. IsSameLine c.divide_pivot.new.line c.reduce.new.line) (λ _. IsDividedLine c.args.column c.args.line.now c.reduce.new.line) c.reduce.result
    (λ _ r. record {
      is_line = r.is_line;
      sized = r.sized ∙ d.sized;
      numbers = λ v. r.numbers v ∙ d.numbers v;
      most = let low = r.most in let high = d.most in omega arith;
      magnitudes = λ v. let low = r.magnitudes v in let high = d.magnitudes v in omega arith;
    }) c.reduce.ensures.same
