use Rattle.std.proofs.Common.{refl}
use Rattle.gms_expressions.proofs.Signs.{answered}
use Rattle.gms_parse.proofs.Declarations.{variables_got, variables_refused}
use Rattle.gms_parse.proofs.reader.Reader.variables.Goals as goal

pub returns : goal.returns
returns g c read_state h =
    let k = c.variable_type-kind.ensures g.F.ExactField.limit c.args.tables.now read_state h in
    answered c.declaration.result (c.declaration.ensures refl k.following k.leaves) (λ r got. variables_got g.F.ExactField.value k got) (λ e r. variables_refused k.gives r)
