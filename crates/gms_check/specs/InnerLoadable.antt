-- Declarations whose data can be given: they have no error.
use Rattle.std.specs.Prelude.{◌≡◌, ◌≤◌, List, [], ◌∷◌, All, length, Ok}
use Rattle.gq_number.specs.Number.{Number}
use Rattle.gms_ast.specs.declared.declaration.DeclKind.{DeclKind}
use Rattle.gms_ast.specs.declared.declaration.Decl.{Decl}
use Rattle.gms_ast.specs.declared.declaration.Item.{Item}
use Rattle.gms_ast.specs.declared.program.Act.{Act}
use Rattle.gms_ast.specs.declared.program.Act.TheVariants.{Declare}
use Rattle.gms_store.specs.State.{State}
use Rattle.gms_store.specs.Declarations.{names_of, positions_of}
use Rattle.gms_set.specs.Expansion.{ExpandedData, expanded}
use Rattle.gms_check.specs.Past.{with_item}

module _ {F : Type 0} where
  -- a name whose items have their parts, and give elements
  pub record IsLoadableItem (kind : DeclKind) (state : State) (item : Decl F) : Type 0 where
    pub parts : All (λ (i : Item F). length i.parts ≡ length (positions_of kind (names_of item.domain))) item.items
    pub few : length (positions_of kind (names_of item.domain)) ≤ 10
    pub given : (given : ExpandedData F) × (expanded state (positions_of kind (names_of item.domain)) item.items ≡ Ok given)

module _ {F : Type 0} (value : F → Number) where
  -- the same of names in sequence
  abbrev pub AreLoadable : DeclKind → State → List (Decl F) → Type 0
  AreLoadable kind state [] = Unit {0}
  AreLoadable kind state (item ∷ items) = IsLoadableItem kind state item × AreLoadable kind (with_item value kind state item) items

  -- the data that an act declares can be given
  abbrev pub IsLoadable : State → Act F → Type 0
  IsLoadable state (Declare kind items) = AreLoadable kind state items
  IsLoadable state act = Unit {0}
