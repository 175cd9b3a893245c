use Rattle.std.proofs.Common.{rules}
use Rattle.gms_ast.specs.declared.program.Act.TheVariants.{Assign}
use Rattle.gms_ast.specs.declared.program.Right.TheVariants as right
use Rattle.gms_parse.proofs.Assigning.{assigned_as, mapped}
use Rattle.gms_parse.proofs.reader.Reader.right_side.Goals as goal

pub returns : goal.returns
returns g c read_state s other =
    mapped _ (λ x. (Assign c.args.target c.args.condition x.0.0 (right.Value x.0.1), x.1)) c.right_value-right.result c.map.result (c.right_value-right.ensures read_state s other) c.map.ensures.cases (λ x y k. search rules)
    (λ x got. assigned_as g.F.ExactField.value c.args.target c.args.condition x.0 got) (λ e r. r)
