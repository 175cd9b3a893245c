use Rattle.std.proofs.Common.{refl, sym, ◌∙◌}
use Rattle.gms_grammar.specs.declared.terminal.Terminal.TheVariants.{Set, Parameter, Scalar, Table, Equation, Model, Alias}
use Rattle.gms_parse.specs.InnerReadings.{seen_from}
use Rattle.gms_parse.proofs.Choices.{at_once, in_first, in_other, in_node, way_within, through}
use Rattle.gms_parse.proofs.Keyworded.{variable_within, other_within}
use Rattle.gms_parse.proofs.reader.Reader.keyword_act.Goals as goal

pub returns-in-Set : goal.returns-in-Set
returns-in-Set g c read_state h =
    through _ _ c.args.self.now c.args.at c.declaration.new.tables read_state c.declaration.result (way_within {kind = Set} (in_node (in_first refl (in_node at_once))) (sym c.next.ensures ∙ c.in-Set.is) refl)
    (c.declaration.ensures refl read_state h) (λ v e. e.holds) (λ sense tree x m. m)

pub returns-in-Parameter : goal.returns-in-Parameter
returns-in-Parameter g c read_state h =
    through _ _ c.args.self.now c.args.at c.declaration-in-Parameter.new.tables read_state c.declaration-in-Parameter.result (way_within {kind = Parameter} (in_node (in_other refl refl (in_first refl (in_node at_once)))) (sym c.next.ensures ∙ c.in-Parameter.is) refl)
    (c.declaration-in-Parameter.ensures refl read_state h) (λ v e. e.holds) (λ sense tree x m. m)

pub returns-in-Scalar : goal.returns-in-Scalar
returns-in-Scalar g c read_state h =
    through _ _ c.args.self.now c.args.at c.declaration-in-Scalar.new.tables read_state c.declaration-in-Scalar.result (way_within {kind = Scalar} (in_node (in_other refl refl (in_other refl refl (in_first refl (in_node at_once))))) (sym c.next.ensures ∙ c.in-Scalar.is) refl)
    (c.declaration-in-Scalar.ensures refl read_state h) (λ v e. e.holds) (λ sense tree x m. m)

pub returns-in-Table : goal.returns-in-Table
returns-in-Table g c read_state h =
    through _ _ c.args.self.now c.args.at c.table_statement.new.tables read_state c.table_statement.result (way_within {kind = Table} (in_node (in_other refl refl (in_other refl refl (in_other refl refl (in_first refl at_once))))) (sym c.next.ensures ∙ c.in-Table.is) refl)
    (c.table_statement.ensures read_state h) (λ v l. l) (λ sense tree x m. m)

pub returns-in-VariableType : goal.returns-in-VariableType
returns-in-VariableType g c read_state h =
    through _ _ c.args.self.now c.args.at c.variables.new.tables read_state c.variables.result (variable_within (seen_from c.args.self.now c.args.at) c.next.ensures c.in-VariableType.is)
    (c.variables.ensures read_state h) (λ v e. e.holds) (λ sense tree x m. m)

pub returns-in-Equation : goal.returns-in-Equation
returns-in-Equation g c read_state h =
    through _ _ c.args.self.now c.args.at c.declaration-in-Equation.new.tables read_state c.declaration-in-Equation.result
    (way_within {kind = Equation} (in_node (in_other refl refl (in_other refl refl (in_other refl refl (in_other refl refl (in_other refl refl (in_first refl (in_node at_once)))))))) (sym c.next.ensures ∙ c.in-Equation.is) refl)
    (c.declaration-in-Equation.ensures refl read_state h) (λ v e. e.holds) (λ sense tree x m. m)

pub returns-in-Model : goal.returns-in-Model
returns-in-Model g c read_state h =
    through _ _ c.args.self.now c.args.at c.models.new.tables read_state c.models.result
    (way_within {kind = Model} (in_node (in_other refl refl (in_other refl refl (in_other refl refl (in_other refl refl (in_other refl refl (in_other refl refl (in_first refl at_once)))))))) (sym c.next.ensures ∙ c.in-Model.is) refl)
    (c.models.ensures read_state h) (λ v e. e.holds) (λ sense tree x m. m)

pub returns-in-Alias : goal.returns-in-Alias
returns-in-Alias g c read_state h =
    through _ _ c.args.self.now c.args.at c.alias.new.tables read_state c.alias.result
    (way_within {kind = Alias} (in_node (in_other refl refl (in_other refl refl (in_other refl refl (in_other refl refl (in_other refl refl (in_other refl refl (in_other refl refl (in_first refl at_once))))))))) (sym c.next.ensures ∙ c.in-Alias.is) refl)
    (c.alias.ensures read_state h) (λ v e. e.holds) (λ sense tree x m. m)

pub returns-in_default : goal.returns-in_default
returns-in_default g c read_state h =
    let d = c.in_default in
    through _ _ c.args.self.now c.args.at c.act.new.tables read_state c.act.result
    (other_within (seen_from c.args.self.now c.args.at) c.next.ensures c.requires.keyword (d.not-Set, (d.not-Parameter, (d.not-Scalar, (d.not-Table, (d.not-VariableType, (d.not-Variable, (d.not-Equation, (d.not-Model, (d.not-Alias, tt))))))))))
    (c.act.ensures.read read_state h) (λ v e. e.holds) (λ sense tree x m. m)
