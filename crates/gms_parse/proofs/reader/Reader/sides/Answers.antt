use Rattle.std.proofs.Common.{rules}
use Rattle.gms_ast.specs.declared.program.Act.TheVariants.{Define}
use Rattle.gms_parse.proofs.Assigning.{defined_as, mapped}
use Rattle.gms_parse.proofs.reader.Reader.sides.Goals as goal

pub returns : goal.returns
returns g c read_state s other =
    mapped _ (λ x. (Define (record { at = c.args.equation.at; name = c.args.equation.name }) c.args.equation.indices c.args.condition x.0.left_at x.0.left x.0.side x.0.right_at x.0.right, x.1)) c.relation-relation.result c.map.result (c.relation-relation.ensures read_state s other) c.map.ensures.cases
    (λ x y k. search rules) (λ x got. defined_as g.F.ExactField.value c.args.equation c.args.condition x.0 got) (λ e r. r)
