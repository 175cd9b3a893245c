-- Names that are declared in sequence, with the data of those that have no error, until the whole
-- declaration is known to have none (GAMS User's Guide, "Set Definition"; "Data Entry: Parameters,
-- Scalars and Tables").
use Rattle.std.specs.Prelude.{ℕ, Bool, List, [], ◌∷◌, ◌++◌, if◌then◌else◌}
use Rattle.std.specs.List.{fold}
use Rattle.gq_number.specs.Number.{Number}
use Rattle.gms_ast.specs.declared.declaration.DeclKind.{DeclKind}
use Rattle.gms_ast.specs.declared.declaration.Decl.{Decl}
use Rattle.gms_scope.specs.Facts.{Facts, without_data}
use Rattle.gms_check.specs.CompileErrors.{errors_of, is_faultless}
use Rattle.gms_check.specs.InnerChanges.{after_item}
use Rattle.gms_check.specs.InnerChecking.{known_by}
use Rattle.gms_check.specs.DeclarationUses.{item_uses}

-- what is known after the data of names were removed again
abbrev pub taken_back : Facts → List ℕ → Facts
taken_back facts names = fold without_data facts names

module _ {F : Type 0} (value : F → Number) (solvers : List (List ℕ)) where
  -- whether a name has no error
  abbrev pub is_sound : DeclKind → Facts → Decl F → Bool
  is_sound kind facts item = is_faultless (errors_of (known_by value solvers facts) (item_uses (known_by value solvers facts) kind item))

  -- what is known after names were declared, where the data of each that has no error are given
  abbrev pub trial_facts : DeclKind → Facts → List (Decl F) → Facts
  trial_facts kind facts [] = facts
  trial_facts kind facts (item ∷ items) = trial_facts kind (after_item value kind (is_sound kind facts item) facts item) items

  -- the names that have no error
  abbrev pub trial_names : DeclKind → Facts → List (Decl F) → List ℕ
  trial_names kind facts [] = []
  trial_names kind facts (item ∷ items) =
      (if is_sound kind facts item then item.named.name ∷ [] else []) ++ trial_names kind (after_item value kind (is_sound kind facts item) facts item) items
