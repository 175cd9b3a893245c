-- What a statement adds to what is known (GAMS User's Guide, "Set Definition", "Data Entry:
-- Parameters, Scalars and Tables", "Equations", "Model and Solve Statements"). Names of a statement
-- with an error count as declared, and its data as not given; this is the project's own rule.
use Rattle.std.specs.Prelude.{ℕ, Bool, true, false, List, [], Result, Ok, Err, if◌then◌else◌}
use Rattle.std.specs.List.{fold}
use Rattle.gq_number.specs.Number.{Number}
use Rattle.gms_ast.specs.declared.declaration.DeclKind.{DeclKind}
use Rattle.gms_ast.specs.declared.declaration.DeclKind.TheVariants as declaring
use Rattle.gms_ast.specs.declared.declaration.Decl.{Decl}
use Rattle.gms_ast.specs.declared.declaration.ModelDecl.{ModelDecl}
use Rattle.gms_ast.specs.declared.program.Act.{Act}
use Rattle.gms_ast.specs.declared.program.Act.TheVariants.{Declare, Alias, Define, Model}
use Rattle.gms_store.specs.Declarations.{names_of, positions_of}
use Rattle.gms_set.specs.declared.fault.SetFault.{SetFault}
use Rattle.gms_set.specs.Expansion.{ExpandedData, expanded}
use Rattle.gms_scope.specs.Data.{is_ascending, labels_of_items}
use Rattle.gms_scope.specs.Facts.{Facts, with_alias, facts_with_data, with_declared, with_definition, with_model, with_model_name, with_unordered}
use Rattle.gms_check.specs.Past.{equations_listed}

-- what is known after models were declared, without their equations
abbrev pub with_model_names : Facts → List ModelDecl → Facts
with_model_names facts models = fold (λ facts (model : ModelDecl). with_model_name facts model.named.name) facts models

-- what is known after the equations of models were listed; none if their statement has an error
abbrev pub with_models : Bool → Facts → List ModelDecl → Facts
with_models sound facts models =
    fold (λ facts (model : ModelDecl). with_model facts model.named.name (equations_listed facts.equations sound model)) facts models

module _ {F : Type 0} where
  -- what is known after the order of the labels of sets was examined
  abbrev pub with_order : DeclKind → Facts → List (Decl F) → Facts
  with_order declaring.Set facts items =
      fold (λ facts (item : Decl F). if is_ascending (labels_of_items item.items) then facts else with_unordered facts item.named.name) facts items
  with_order kind facts items = facts

module _ {F : Type 0} (value : F → Number) where
  -- what is known after the data of a name were given, if they have no error
  abbrev pub with_given : Facts → ℕ → Result (ExpandedData F) SetFault → Facts
  with_given facts name (Ok given) = facts_with_data value facts name given
  with_given facts name (Err fault) = facts

  -- what is known after a name was declared, with its data if it has no error
  abbrev pub after_item : DeclKind → Bool → Facts → Decl F → Facts
  after_item kind false facts item = with_declared kind (names_of item.domain) facts item.named.name
  after_item kind true facts item =
      with_given (with_declared kind (names_of item.domain) facts item.named.name) item.named.name (expanded facts.state (positions_of kind (names_of item.domain)) item.items)

  -- what is known after names were declared, all with their data or all without
  abbrev pub after_items : DeclKind → Bool → Facts → List (Decl F) → Facts
  after_items kind sound facts items = fold (after_item kind sound) facts items

  -- what is known after a declaration
  abbrev pub after_declaration : DeclKind → Bool → Facts → List (Decl F) → Facts
  after_declaration kind true facts items = with_order kind (after_items kind true facts items) items
  after_declaration kind false facts items = after_items kind false facts items

  -- what is known after an act, with an error or without
  abbrev pub facts_after : Facts → Act F → Bool → Facts
  facts_after facts (Declare kind items) sound = after_declaration kind sound facts items
  facts_after facts (Alias first second) sound = with_alias facts first.name second.name
  facts_after facts (Define equation indices condition left_at left side right_at right) sound = with_definition facts equation.name
  facts_after facts (Model models) sound = with_models sound (with_model_names facts models) models
  facts_after facts act sound = facts
