-- What declarations of names and of models use: names, domain sets, items of data, equations (GAMS
-- User's Guide, "Set Definition"; "Data Entry: Parameters, Scalars and Tables"; "Variables"; "Model
-- and Solve Statements").
use Rattle.std.specs.Prelude.{ℕ, Bool, true, false, not, ◌&&◌, nat_le, List, [], ◌∷◌, ◌++◌, length, map, flat_map, take_while, Option, Some, None, Result, Ok, Err, if◌then◌else◌}
use Rattle.std.specs.List.{list_all}
use Rattle.gms_labels.specs.declared.place.Place.{Place}
use Rattle.gms_ast.specs.declared.word.Named.{Named}
use Rattle.gms_ast.specs.declared.declaration.DeclKind.{DeclKind}
use Rattle.gms_ast.specs.declared.declaration.DeclKind.TheVariants as declaring
use Rattle.gms_ast.specs.declared.declaration.Decl.{Decl}
use Rattle.gms_ast.specs.declared.declaration.Item.{Item}
use Rattle.gms_ast.specs.declared.declaration.ModelDecl.{ModelDecl}
use Rattle.gms_store.specs.State.{State}
use Rattle.gms_store.specs.Declarations.{names_of, positions_of}
use Rattle.gms_set.specs.declared.fault.SetFault.{SetFault}
use Rattle.gms_set.specs.Expansion.{ExpandedData, expanded}
use Rattle.gms_check.specs.Uses.{Uses, naming, not_continuous, bounding, placing, failing, modelling, listing}
use Rattle.gms_check.specs.Past.{Known}
use Rattle.gms_scope.specs.Names.{is_index_set}
use Rattle.gms_check.specs.Domains.{is_wrong_count}

-- whether a position of a domain admits any label (None), or has a one-dimensional set
abbrev pub is_usable_in : State → Option ℕ → Bool
is_usable_in state None = true
is_usable_in state (Some name) = is_index_set state name

-- whether data can be checked against a domain: it has at most 10 positions, and each set is
-- one-dimensional
abbrev pub are_usable_in : State → List (Option ℕ) → Bool
are_usable_in state domain = nat_le (length domain) 10 && list_all (is_usable_in state) domain

-- whether this kind of declaration is not of discrete variables
abbrev pub is_continuous : DeclKind → Bool
is_continuous declaring.Discrete = false
is_continuous kind = true

module _ {F : Type 0} where
  -- the use of the set at a position of a written domain; none at a position without a set
  abbrev pub domain_use : Option Named → Uses F
  domain_use None = []
  domain_use (Some named) = (named.at, bounding named.name) ∷ []

  -- whether data can be checked against a domain, by what is known: at most 10 positions, and each
  -- set one-dimensional
  abbrev pub are_usable : Known F → List (Option ℕ) → Bool
  are_usable known domain = are_usable_in known.state domain

  -- whether an item of data has one list of labels for each position of the domain, and at most 10
  -- such lists
  abbrev pub has_all_parts : List (Option ℕ) → Item F → Bool
  has_all_parts domain item = not (is_wrong_count (length domain) (length item.parts))

  -- the fault of a list of data as a use, which is what a check examines, at the fault's place;
  -- none if the list has no fault
  abbrev pub failure : Result (ExpandedData F) SetFault → Uses F
  failure (Ok given) = []
  failure (Err fault) = (fault.at, failing fault.error) ∷ []

  -- the use that reports the fault of a list of data, if it has one. It is a fault of the items
  -- before the first one with a wrong number of positions; none is reported if the domain has more
  -- than 10 positions or a set that is not one-dimensional
  abbrev pub expansion_uses : Known F → List (Option ℕ) → List (Item F) → Uses F
  expansion_uses known domain items =
      if are_usable known domain then failure (expanded known.state domain (take_while (has_all_parts domain) items)) else []

  -- the uses of the items of data of a name with this domain: the number of positions of each item,
  -- and after these the fault of the list, if it has one
  abbrev pub data_uses : Known F → List (Option ℕ) → List (Item F) → Uses F
  data_uses known domain items =
      map (λ (item : Item F). (item.at, placing (length domain) (length item.parts))) items ++ expansion_uses known domain items

  -- the uses of one name in a declaration of this kind: of the name itself, of each set of its
  -- written domain, and of its data, for the positions that the kind and the written domain give
  abbrev pub item_uses : Known F → DeclKind → Decl F → Uses F
  item_uses known kind item =
      (item.named.at, naming kind item.named.name (names_of item.domain)) ∷ (flat_map domain_use item.domain ++ data_uses known (positions_of kind (names_of item.domain)) item.items)

  -- the uses that the kind of a declaration at this place has: `not_continuous` if the kind is of
  -- discrete variables, otherwise none
  abbrev pub kind_uses : Place → DeclKind → Uses F
  kind_uses at declaring.Discrete = (at, not_continuous) ∷ []
  kind_uses at kind = []

  -- the uses of one model in a model statement: its name, and the equations that it lists
  abbrev pub model_uses : ModelDecl → Uses F
  model_uses model =
      (model.named.at, modelling model.named.name) ∷ map (λ (equation : Named). (equation.at, listing equation.name)) model.equations
