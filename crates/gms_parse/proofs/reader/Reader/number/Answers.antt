use Rattle.std.proofs.Common.{ℕ, List, subst}
use Rattle.gq_number.specs.Number.{Number}
use Rattle.gq_text.specs.Literal.{FitsLiteral}
use Rattle.gq_text.specs.Decimal.{MeansNumber}
use Rattle.gms_expressions.proofs.Singles.{none_fits}
use Rattle.gms_parse.proofs.reader.Reader.number.Goals as goal

pub returns-in-Err : goal.returns-in-Err
returns-in-Err g c = record {
  is = c.at.ensures;
  none_fits = subst (λ (text : List ℕ). (x : Number) → MeansNumber text x → FitsLiteral g.F.ExactField.limit x → ⊥) c.text.ensures (none_fits g.F.ExactField.limit g.F.ExactField.value c.text.result.now c.in-Err.field-0 c.in-Err.ensures);
}
