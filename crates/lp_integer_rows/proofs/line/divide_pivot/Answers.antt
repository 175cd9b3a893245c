use Rattle.std.proofs.Common.{refl}
use Rattle.lp_integer_rows.specs.declared.line.Line.{Line}
use Rattle.lp_integer_rows.proofs.Updating.{divided_by_pivot}
use Rattle.lp_integer_rows.proofs.line.divide_pivot.Goals as goal

pub returns : goal.returns
returns c =
    let after : Line = record { numbers = c.args.line.now.numbers; denominator = c.magnitude_at-number.result; most = c.args.line.now.most; marks = c.args.line.now.marks; leading = c.args.line.now.leading } in
    divided_by_pivot c.args.line.now after c.args.column c.requires.line c.requires.above refl c.magnitude_at-number.ensures.value refl refl c.requires.line.leading
