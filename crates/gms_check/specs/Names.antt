-- Names that are used before they are declared, and names that are declared again (GAMS User's
-- Guide, "Language Items", rules on declarations; "Set Definition", the alias statement;
-- "Variables"). The order of the names of an alias, and when a variable may be given a type once
-- more, are this project's own choice.
use Rattle.std.specs.Prelude.{ℕ, Bool, true, false, not, ◌&&◌, ◌==◌, List, [], ◌∷◌, Option, Some, None}
use Rattle.std.specs.List.{list_any}
use Rattle.gms_ast.specs.declared.declaration.DeclKind.{DeclKind}
use Rattle.gms_store.specs.State.{State, Content, variable_of, symbol_at, base_of}
use Rattle.gms_store.specs.Declarations.{is_free, content_of}
use Rattle.gms_scope.specs.Names.{has_no_declaration, positions}
use Rattle.gms_check.specs.Uses.{Use, reading, ordinal, cardinal, controlling, assigning, defining, naming, bounding, first_alias, second_alias, modelling, listing, solving, optimizing, showing, option_word, index_sets}
use Rattle.gms_check.specs.Past.{Known}
use Rattle.gms_check.specs.OptionWords.{is_option}

-- whether a content is that of a variable
abbrev pub is_variable : Content → Bool
is_variable (variable_of type entries) = true
is_variable content = false

-- whether two positions have the same set, an alias replaced by its set, or both admit any label
abbrev pub same_position : State → Option ℕ → Option ℕ → Bool
same_position state None None = true
same_position state (Some a) (Some b) = base_of state a == base_of state b
same_position state a b = false

-- whether two domains have as many positions, and at each the same set, or both any label; an alias
-- is replaced by its set
abbrev pub same_domain : State → List (Option ℕ) → List (Option ℕ) → Bool
same_domain state [] [] = true
same_domain state (a ∷ as_) (b ∷ bs) = same_position state a b && same_domain state as_ bs
same_domain state as_ bs = false

-- whether the domain of a later declaration is empty, or is the domain `old` of the name, an alias
-- replaced by its set
abbrev pub repeats_domain : State → List (Option ℕ) → List (Option ℕ) → Bool
repeats_domain state [] old = true
repeats_domain state domain old = same_domain state domain old

module _ {F : Type 0} where
  -- the names in a use that earlier statements have to declare; none for the names of an alias
  abbrev pub names_used : Use F → List ℕ
  names_used (reading context controlled name suffix indices) = name ∷ index_sets indices
  names_used (ordinal context controlled name) = name ∷ []
  names_used (cardinal context name) = name ∷ []
  names_used (controlling controlled sets) = sets
  names_used (assigning name suffix indices) = name ∷ index_sets indices
  names_used (defining name indices) = name ∷ index_sets indices
  names_used (bounding name) = name ∷ []
  names_used (listing name) = name ∷ []
  names_used (solving name) = name ∷ []
  names_used (optimizing name) = name ∷ []
  names_used (showing name suffix) = name ∷ []
  names_used used = []

  -- UnknownName: no statement before declares a name that is used; for an alias, no statement
  -- before declares either of its two names; or the word of an option is that of no option
  abbrev pub unknown_name : Known F → Use F → Bool
  unknown_name known (first_alias first second) = has_no_declaration known.state first && has_no_declaration known.state second
  unknown_name known (option_word word) = not (is_option word)
  unknown_name known used = list_any (has_no_declaration known.state) (names_used used)

  -- whether a declaration of this kind may give a type to a variable that is declared before: the
  -- variable is free so far, and the declaration is of variables and has no domain or the
  -- variable's own
  abbrev pub may_be_typed : Known F → DeclKind → ℕ → List (Option ℕ) → Bool
  may_be_typed known kind name domain =
      is_free (symbol_at known.state name).content && (is_variable (content_of kind) && repeats_domain known.state domain (positions known.state name))

  -- Redeclared: a name is declared that is declared before, except for a variable that may still be
  -- given a type; or both names of an alias are declared before
  abbrev pub redeclared : Known F → Use F → Bool
  redeclared known (naming kind name domain) = not (has_no_declaration known.state name) && not (may_be_typed known kind name domain)
  redeclared known (modelling name) = not (has_no_declaration known.state name)
  redeclared known (second_alias first second) = not (has_no_declaration known.state first) && not (has_no_declaration known.state second)
  redeclared known used = false
