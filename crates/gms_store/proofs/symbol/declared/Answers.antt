use Rattle.std.proofs.Common.{◌∙◌, ap}
use Rattle.gq_extended.specs.Meaning.{extended}
use Rattle.gms_store.specs.declared.kind.VariableType.TheVariants as type
use Rattle.gms_store.specs.Shown.{attributes_shown, entries_mapped}
use Rattle.gms_store.specs.State.{parameter_of, variable_of, equation_of}
use Rattle.gms_store.proofs.Views.{shown-empty}
use Rattle.gms_store.proofs.symbol.declared.Goals as goal

pub returns-in-Parameter : goal.returns-in-Parameter
returns-in-Parameter g c =
    rw c.in-Parameter.is (ap parameter_of (ap (entries_mapped (extended g.F.ExactField.value)) c.new-in-Parameter.ensures ∙ shown-empty (extended g.F.ExactField.value)))

pub returns-in-Scalar : goal.returns-in-Scalar
returns-in-Scalar g c =
    rw c.in-Scalar.is (ap parameter_of (ap (entries_mapped (extended g.F.ExactField.value)) c.new-in-Scalar.ensures ∙ shown-empty (extended g.F.ExactField.value)))

pub returns-in-Table : goal.returns-in-Table
returns-in-Table g c =
    rw c.in-Table.is (ap parameter_of (ap (entries_mapped (extended g.F.ExactField.value)) c.new-in-Table.ensures ∙ shown-empty (extended g.F.ExactField.value)))

pub returns-in-Free : goal.returns-in-Free
returns-in-Free g c =
    rw c.in-Free.is (ap (variable_of type.Free) (ap (entries_mapped (attributes_shown g.F.ExactField.value)) c.new-in-Free.ensures ∙ shown-empty (attributes_shown g.F.ExactField.value)))

pub returns-in-Positive : goal.returns-in-Positive
returns-in-Positive g c =
    rw c.in-Positive.is (ap (variable_of type.Positive) (ap (entries_mapped (attributes_shown g.F.ExactField.value)) c.new-in-Positive.ensures ∙ shown-empty (attributes_shown g.F.ExactField.value)))

pub returns-in-Negative : goal.returns-in-Negative
returns-in-Negative g c =
    rw c.in-Negative.is (ap (variable_of type.Negative) (ap (entries_mapped (attributes_shown g.F.ExactField.value)) c.new-in-Negative.ensures ∙ shown-empty (attributes_shown g.F.ExactField.value)))

pub returns-in-Discrete : goal.returns-in-Discrete
returns-in-Discrete g c =
    rw c.in-Discrete.is (ap (variable_of type.Discrete) (ap (entries_mapped (attributes_shown g.F.ExactField.value)) c.new-in-Discrete.ensures ∙ shown-empty (attributes_shown g.F.ExactField.value)))

pub returns-in-Equation : goal.returns-in-Equation
returns-in-Equation g c =
    rw c.in-Equation.is (ap equation_of (ap (entries_mapped (attributes_shown g.F.ExactField.value)) c.new-in-Equation.ensures ∙ shown-empty (attributes_shown g.F.ExactField.value)))
