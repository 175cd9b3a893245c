-- What the declarations of a program give its names: the data of their items, the bounds of their
-- types, and nothing else (GAMS User's Guide, "Set Definition"; "Data Entry: Parameters, Scalars
-- and Tables"; "Variables"; "Equations").
use Rattle.std.specs.Prelude.{◌≡◌, ◌++◌, ◌∷◌, ℕ, Bool, true, false, List, [], Option, Some, None, if◌then◌else◌}
use Rattle.gq_number.specs.Number.{Number}
use Rattle.gq_extended.specs.Extended.{Extended}
use Rattle.gq_extended.specs.Meaning.{extended}
use Rattle.gq_extended.specs.declared.extended.Ext.{Ext}
use Rattle.gms_ast.specs.declared.declaration.DeclKind.{DeclKind}
use Rattle.gms_ast.specs.declared.declaration.DeclKind.TheVariants as declaring
use Rattle.gms_ast.specs.declared.declaration.Decl.{Decl}
use Rattle.gms_ast.specs.declared.declaration.Item.{Item}
use Rattle.gms_ast.specs.declared.program.Act.TheVariants.{Declare}
use Rattle.gms_ast.specs.declared.program.Program.{Program}
use Rattle.gms_ast.specs.declared.program.Stmt.{Stmt}
use Rattle.gms_tuple.specs.Products.{tuple_product}
use Rattle.gms_tuple.specs.TupleSet.{has}
use Rattle.gms_store.specs.declared.kind.VariableType.{VariableType}
use Rattle.gms_store.specs.declared.kind.VariableType.TheVariants.{Free, Positive, Negative, Discrete}
use Rattle.gms_store.specs.State.{zero}
use Rattle.gms_check.specs.Checked.{FollowsIn}
use Rattle.gms_check.specs.Past.{is_among, names_declared}

-- whether a declaration of this kind is of parameters: parameters, scalars or a table
abbrev pub has_values : DeclKind → Bool
has_values declaring.Parameter = true
has_values declaring.Scalar = true
has_values declaring.Table = true
has_values kind = false

-- the type of the variables that a declaration of this kind declares; None if it declares no
-- variables
abbrev pub type_of : DeclKind → Option VariableType
type_of declaring.Free = Some Free
type_of declaring.Positive = Some Positive
type_of declaring.Negative = Some Negative
type_of declaring.Discrete = Some Discrete
type_of kind = None

module _ {F : Type 0} where
  -- what items of data give at the tuple t: the value of the first item that has the tuple, where
  -- an inner None is an item without value; None if no item has the tuple
  abbrev pub datum_at : List (Item F) → List ℕ → Option (Option (Ext F))
  datum_at [] t = None
  datum_at (item ∷ items) t = if has (tuple_product item.parts) t then Some item.value else datum_at items t

  -- whether a datum makes its tuple a member of a set: an item has the tuple, without a value
  abbrev pub is_put_in : Option (Option (Ext F)) → Bool
  is_put_in (Some None) = true
  is_put_in datum = false

  -- A statement of the program is a declaration of this kind, and `item` is the declaration of one
  -- of its names, with the name's domain and data.
  pub record Declares (program : Program F) (kind : DeclKind) (item : Decl F) : Type 0 where
    pub before : List (Stmt F)
    pub statement : Stmt F
    pub occurs : FollowsIn program before statement
    pub first : List (Decl F)
    pub rest : List (Decl F)
    pub act : statement.act ≡ Declare kind (first ++ item ∷ rest)

  -- every declaration of this name in the program is one of free variables
  abbrev pub IsFree : Program F → ℕ → Type 0
  IsFree program name = (kind : DeclKind) (item : Decl F) → Declares program kind item → item.named.name ≡ name → type_of kind ≡ Some Free

  -- no statement of the program declares this name
  abbrev pub IsUndeclared : Program F → ℕ → Type 0
  IsUndeclared program name =
      (before : List (Stmt F)) (statement : Stmt F) → FollowsIn program before statement → is_among (names_declared statement.act) name ≡ false

module _ {F : Type 0} (value : F → Number) where
  -- the value that a datum gives to a parameter at a tuple; 0 if no item has the tuple, or the item
  -- has no value. `value` gives the number that a value of `F` means
  abbrev pub value_put : Option (Option (Ext F)) → Extended
  value_put (Some (Some x)) = extended value x
  value_put datum = zero
