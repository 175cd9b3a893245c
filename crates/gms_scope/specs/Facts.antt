-- What is known before a statement, and what each statement adds to it (GAMS User's Guide, "Set
-- Definition"; "Dynamic Sets"; "Equations"; "Model and Solve Statements").
use Rattle.std.specs.Prelude.{ℕ, Bool, true, false, not, ◌&&◌, ◌==◌, nat_lt, List, [], ◌∷◌, ◌++◌, length, fold, replicate, slice_index_or, slice_set, Option, None, if◌then◌else◌, refl}
use Rattle.std.specs.List.{list_any}
use Rattle.std.specs.Coded.{Coded, code_by, coded×, coded_ℕ, coded_bool, coded_list, coded_option}
use Rattle.gq_number.specs.Number.{Number}
use Rattle.gq_extended.specs.declared.extended.Ext.{Ext}
use Rattle.gms_ast.specs.declared.declaration.DeclKind.{DeclKind}
use Rattle.gms_ast.specs.declared.declaration.DeclKind.TheVariants.{Equation}
use Rattle.gms_ast.specs.declared.program.Program.{Program}
use Rattle.gms_store.specs.State.{State, base_of}
use Rattle.gms_store.specs.Codes.{state_code}
use Rattle.gms_store.specs.Declarations.{blank_state, declare, declare_alias, declare_model}
use Rattle.gms_scope.specs.Names.{is_equation, is_index_set, is_model, has_no_declaration, declared_kind}
use Rattle.gms_scope.specs.Below.{base_above}
use Rattle.gms_scope.specs.Entries.{DeclarationList, entry, names_of_entries}
use Rattle.gms_scope.specs.Data.{with_no_data, given_to}
use Rattle.gms_scope.specs.DynamicSets.{dynamic_sets}

-- What is known before a statement. Each list of marks has one entry for each name, by its number.
pub record Facts : Type 0 where
  -- the declared names, with the data that the statements before give
  pub state : State
  -- the declared names in the order of their declarations, one entry for each declaration, with the
  -- domain set of a one-dimensional set
  pub declared : DeclarationList
  -- the sets that some statement of the program assigns
  pub dynamic : List Bool
  -- the sets whose labels are given in another order than that in which labels first occur
  pub unordered : List Bool
  -- the equations that are defined
  pub defined : List Bool
  -- the equations that are declared, in order
  pub equations : List ℕ
  -- the models in the order of their declarations, one entry for each declaration: the model's name
  -- and its equations
  pub models : List (ℕ × List ℕ)

-- the encoding of facts by their seven fields, which determine them
abbrev pub facts_code : Coded Facts
facts_code =
    code_by (State × (DeclarationList × (List Bool × (List Bool × (List Bool × (List ℕ × List (ℕ × List ℕ))))))) (coded× state_code (coded× (coded_list (coded× coded_ℕ (coded_option coded_ℕ))) (coded× (coded_list coded_bool) (coded× (coded_list coded_bool) (coded× (coded_list coded_bool) (coded× (coded_list coded_ℕ) (coded_list (coded× coded_ℕ (coded_list coded_ℕ)))))))))
    (λ f. (f.state, (f.declared, (f.dynamic, (f.unordered, (f.defined, (f.equations, f.models))))))) (λ p. record { state = p.0; declared = p.1.0; dynamic = p.1.1.0; unordered = p.1.1.1.0; defined = p.1.1.1.1.0; equations = p.1.1.1.1.1.0; models = p.1.1.1.1.1.1 }) (λ _. refl)

-- ---- questions

-- whether the name of this number is marked
abbrev pub marked : List Bool → ℕ → Bool
marked marks name = slice_index_or marks name false

-- the marks, with these names marked too
abbrev pub with_marks : List Bool → List ℕ → List Bool
with_marks marks names = fold (λ marks name. slice_set marks name true) marks names

-- whether a set, or the set of an alias, is dynamic: some statement of the program assigns it
abbrev pub is_known_dynamic : Facts → ℕ → Bool
is_known_dynamic facts name = marked facts.dynamic (base_of facts.state name)

-- whether a set, or the set of an alias, is ordered: one-dimensional, not dynamic, and with its
-- labels given in the order in which labels first occur in the program
abbrev pub is_known_ordered : Facts → ℕ → Bool
is_known_ordered facts name =
    is_index_set facts.state name && (not (is_known_dynamic facts name) && not (marked facts.unordered (base_of facts.state name)))

-- the equations of a model, as its first entry in the list has them; none if the list has no entry
-- of the model
abbrev pub declared_equations : List (ℕ × List ℕ) → ℕ → List ℕ
declared_equations [] name = []
declared_equations (model ∷ models) name = if model.0 == name then model.1 else declared_equations models name

-- whether an equation has no definition, where `defined` marks those that have one
abbrev pub is_missing : List Bool → ℕ → Bool
is_missing defined name = not (marked defined name)

-- the names that are declared, in order, one entry for each declaration
abbrev pub names : Facts → List ℕ
names facts = names_of_entries facts.declared

-- whether a name is that of a model with an equation that is not defined
abbrev pub has_undefined : Facts → ℕ → Bool
has_undefined facts name =
    is_model (declared_kind facts.state name) && list_any (is_missing facts.defined) (declared_equations facts.models name)

-- ---- changes

-- what one declaration of a name appends to the list of declarations: the name with the set `above`
-- as its domain set, or with None if `above` is None or is not in the list; nothing if the name is
-- no number below the number of names, which is the length of `defined`
abbrev pub declared_entry : Facts → ℕ → Option ℕ → DeclarationList
declared_entry facts name above = entry (length facts.defined) facts.declared name above

-- the domain set of a name right after a declaration of the name. If the name was new (true) and is
-- a one-dimensional set over a one-dimensional set, that set, an alias replaced by its set
-- (`base_above`); otherwise None
abbrev pub above_new : Bool → State → ℕ → Option ℕ
above_new true state name = base_above state name
above_new false state name = None

-- the equation that a declaration of this kind adds to the list of declared ones: the name, if the
-- kind is Equation and the state after the declaration has the name as an equation; otherwise none
abbrev pub equation_in : DeclKind → State → ℕ → List ℕ
equation_in Equation state name = if is_equation (declared_kind state name) then name ∷ [] else []
equation_in kind state name = []

-- what is known after a name was declared, by a declaration of this kind with this written domain;
-- the data that the declaration gives are not yet written
abbrev pub with_declared : DeclKind → List (Option ℕ) → Facts → ℕ → Facts
with_declared kind domain facts name =
    record facts { state = declare kind domain facts.state name; declared = facts.declared ++ declared_entry facts name (above_new (has_no_declaration facts.state name) (declare kind domain facts.state name) name); equations = facts.equations ++ equation_in kind (declare kind domain facts.state name) name }

-- the list of declarations after the declaration of `first` and then that of `second` were
-- appended, each without a domain set
abbrev pub with_two : Facts → ℕ → ℕ → DeclarationList
with_two facts first second =
    (facts.declared ++ declared_entry facts first None) ++ declared_entry facts second None

-- what is known after the statement `alias (first, second)`
abbrev pub with_alias : Facts → ℕ → ℕ → Facts
with_alias facts first second =
    record facts { state = declare_alias facts.state first second; declared = with_two facts first second }

-- what is known after a name was declared as a model; `with_model` then adds the equations of the
-- model
abbrev pub with_model_name : Facts → ℕ → Facts
with_model_name facts name =
    record facts { state = declare_model facts.state name; declared = facts.declared ++ declared_entry facts name None }

-- a model with its equations, as an entry of the list of models; no entry if `name` is no number
-- below `names`, the number of names of the program
abbrev pub model_entry : ℕ → ℕ → List ℕ → List (ℕ × List ℕ)
model_entry names name equations = if nat_lt name names then (name, equations) ∷ [] else []

-- what is known after the model `name` with these equations was added to the list of models; if
-- `name` is no number of a name of the program, the list is unchanged
abbrev pub with_model : Facts → ℕ → List ℕ → Facts
with_model facts name equations =
    record facts { models = facts.models ++ model_entry (length facts.defined) name equations }

-- what is known after the data `given` were written to a name, in order: a tuple without a value
-- is inserted into the set; with one, the parameter gets the value at the tuple
abbrev pub facts_with_data : {F : Type 0} → (F → Number) → Facts → ℕ → List (List ℕ × Option (Ext F)) → Facts
facts_with_data value facts name given = record facts { state = given_to value name facts.state given }

-- what is known after all data of a name were removed
abbrev pub without_data : Facts → ℕ → Facts
without_data facts name = record facts { state = with_no_data facts.state name }

-- what is known after a set was found to have its labels in another order than that in which labels
-- first occur
abbrev pub with_unordered : Facts → ℕ → Facts
with_unordered facts name = record facts { unordered = slice_set facts.unordered name true }

-- what is known after an equation was defined
abbrev pub with_definition : Facts → ℕ → Facts
with_definition facts name = record facts { defined = slice_set facts.defined name true }

module _ {F : Type 0} where
  -- what is known before the first statement of a program: nothing is declared, defined or has
  -- data; the sets that some statement assigns are dynamic
  abbrev pub first_facts : Program F → Facts
  first_facts program =
      record { state = blank_state (length program.names); declared = []; dynamic = with_marks (replicate (length program.names) false) (dynamic_sets program); unordered = replicate (length program.names) false; defined = replicate (length program.names) false; equations = []; models = [] }
