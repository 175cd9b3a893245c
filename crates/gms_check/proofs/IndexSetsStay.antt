-- An index set before a statement of a program is one in the state in which the program begins,
-- with members of one label in their order.
use Rattle.std.proofs.Common.{◌≡◌, ℕ, zero, suc, Bool, true, false, ◌&&◌, List, [], ◌∷◌, length, slice_get, refl, sym, ap, ◌∙◌, subst, Option, unwrap_or, inl, inr}
use Rattle.std.specs.Prelude.{replicate}
use Rattle.std.specs.List.{fold}
use Rattle.std.proofs.lemmas.Bool.{eqb-true, and_parts}
use Rattle.std.proofs.lemmas.List.{map-append}
use Rattle.std.proofs.lemmas.List.Elements.{All-nil}
use Rattle.std.proofs.lemmas.List.Sums.{fold-append}
use Rattle.gq_number.specs.Number.{Number}
use Rattle.gms_ast.specs.declared.program.Program.{Program}
use Rattle.gms_ast.specs.declared.program.Stmt.{Stmt}
use Rattle.gms_tuple.specs.TupleOrder.{IsOrdered}
use Rattle.gms_tuple.proofs.Ordered.{ordered-nil}
use Rattle.gms_store.specs.State.{State, Content, undeclared, alias_of, set_of, parameter_of, variable_of, equation_of, model_with, Symbol, no_symbol, symbol_at, base_of, symbol_of, members_in, members_of}
use Rattle.gms_store.specs.Declarations.{is_set, is_undeclared, blank_state, kind_in}
use Rattle.gms_scope.specs.Names.{is_set_name, has_one_position, is_index_set, declared_kind}
use Rattle.gms_check.specs.Checked.{FollowsIn}
use Rattle.gms_check.specs.Kinds.{is_variable_kind}
use Rattle.gms_check.specs.Loaded.{sound, loaded}
use Rattle.gms_check.specs.Names.{is_variable}
use Rattle.gms_check.specs.Past.{state_after, after_statement}
use Rattle.gms_check.proofs.Growing.{IsFitting, IsAfter, IsLater, HaveLength, Grows, grows-past}

second-holds : (a b : Bool) → (a && b) ≡ true → b ≡ true
second-holds true b e = e
second-holds false b e = cc

-- nothing is declared before any statement
pub none-declared : (names n : ℕ) → unwrap_or (slice_get (replicate names no_symbol) n) no_symbol ≡ no_symbol
none-declared zero n = refl
none-declared (suc names) zero = refl
none-declared (suc names) (suc n) = none-declared names n

pub blank-fits : (names n : ℕ) → IsFitting (symbol_at (blank_state names) n)
blank-fits names n =
    subst IsFitting (sym (none-declared names n)) (record { blank = λ none. refl; arity = All-nil (λ (t : List ℕ). length t ≡ 0); ordered = ordered-nil })

-- a set is declared
set-declared : (content : Content) → is_set content ≡ true → is_undeclared content ≡ false
set-declared undeclared e = cc
set-declared (alias_of base) e = refl
set-declared (set_of members) e = refl
set-declared (parameter_of values) e = refl
set-declared (variable_of type entries) e = refl
set-declared (equation_of entries) e = refl
set-declared (model_with model solver) e = refl

-- a variable is one by its kind
by-kind : (content : Content) → is_variable content ≡ is_variable_kind (kind_in content)
by-kind undeclared = refl
by-kind (alias_of base) = refl
by-kind (set_of members) = refl
by-kind (parameter_of values) = refl
by-kind (variable_of type entries) = refl
by-kind (equation_of entries) = refl
by-kind (model_with model solver) = refl

-- no list without elements has one
none-is-no-one : (xs : List (Option ℕ)) → xs ≡ [] → length xs ≡ 1 → ⊥
none-is-no-one xs none one = let no : ◌≡◌ {A = ℕ} 0 1 = ap length (sym none) ∙ one in cc

-- The set of this name has one position, and members of one label in their order.
pub record IsOverOne (state : State) (set : ℕ) : Type 0 where
  pub position : length (symbol_of state set).domain ≡ 1
  pub labels : HaveLength 1 (members_of state set)
  pub ordered : IsOrdered (members_of state set)

-- What holds of a symbol over one position.
record IsOne (symbol : Symbol) : Type 0 where
  position : length symbol.domain ≡ 1
  labels : HaveLength 1 (members_in symbol.content)
  ordered : IsOrdered (members_in symbol.content)

-- a symbol that grew out of one with one position
of-one : (old new : Symbol) → IsFitting old → IsFitting new × IsLater old new → length old.domain ≡ 1 → IsOne new
of-one old new fits (there, inl none) one = absurd (none-is-no-one old.domain (fits.blank none) one)
of-one old new fits (there, inr after) one =
    let still : length new.domain ≡ 1 = ap length after.domain ∙ one in
    record { position = still; labels = subst (λ n. HaveLength n (members_in new.content)) still there.arity; ordered = there.ordered }

-- an index set stays one in a state that grew
stays-one : (old new : State) → ((n : ℕ) → IsFitting (symbol_at old n)) → Grows old new → (set : ℕ) → is_index_set old set ≡ true → IsOverOne new set
stays-one old new fits grows set is = by (grows set (fits set)).1
  where
    one : length (symbol_of old set).domain ≡ 1
    one = eqb-true (length (symbol_of old set).domain) 1 (second-holds (is_set_name old set) (has_one_position old set) is)

    declared : is_undeclared (symbol_at old set).content ≡ false
    declared = set-declared (symbol_at old set).content ((and_parts (is_set_name old set) (has_one_position old set) is).0)

    by : IsLater (symbol_at old set) (symbol_at new set) → IsOverOne new set
    by (inl none) = absurd (let no : true ≡ false = sym none ∙ declared in cc)
    by (inr after) =
        let base = base_of old set in
        let is = subst (λ n. IsOne (symbol_at new n)) (sym (after.alike set)) (of-one (symbol_at old base) (symbol_at new base) (fits base) (grows base (fits base)) one) in
        record { position = is.position; labels = is.labels; ordered = is.ordered }

module _ {F : Type 0} (value : F → Number) (program : Program F) where
  -- the state before a statement
  abbrev before_state : List (Stmt F) → State
  before_state before = state_after value (length program.names) (sound before)

  fits-before : (before : List (Stmt F)) (n : ℕ) → IsFitting (symbol_at (before_state before) n)
  fits-before before n =
      let blank = blank_state (length program.names) in
      (grows-past value (sound before) blank n (blank-fits (length program.names) n)).0

  grows-on : (before : List (Stmt F)) (statement : Stmt F) → FollowsIn program before statement → Grows (before_state before) (loaded value program)
  grows-on before statement occurs =
      let rest : List (Stmt F) = statement ∷ occurs.0 in
      let blank = blank_state (length program.names) in
      subst (Grows (before_state before)) (sym (ap (λ (all : List (Stmt F)). fold (after_statement value) blank (sound all)) occurs.1 ∙ ap (fold (after_statement value) blank) (map-append (λ statement. (statement, true)) before rest) ∙ fold-append (after_statement value) blank (sound before) (sound rest))) (grows-past value (sound rest) (before_state before))

  -- an index set before a statement is one when the program begins
  pub index-set-loaded : (before : List (Stmt F)) (statement : Stmt F) → FollowsIn program before statement → (set : ℕ) → is_index_set (before_state before) set ≡ true → IsOverOne (loaded value program) set
  index-set-loaded before statement occurs set is =
      stays-one (before_state before) (loaded value program) (fits-before before) (grows-on before statement occurs) set is

  -- a name that is declared before a statement comes after itself when the program begins
  after-itself : (before : List (Stmt F)) (statement : Stmt F) → FollowsIn program before statement → (name : ℕ) → is_undeclared (symbol_at (before_state before) name).content ≡ false → IsAfter (symbol_at (before_state before) name) (symbol_at (loaded value program) name)
  after-itself before statement occurs name declared =
      by (grows-on before statement occurs name (fits-before before name)).1
    where
      by : IsLater (symbol_at (before_state before) name) (symbol_at (loaded value program) name) → IsAfter (symbol_at (before_state before) name) (symbol_at (loaded value program) name)
      by (inl none) = absurd (let no : true ≡ false = sym none ∙ declared in cc)
      by (inr after) = after

  -- so it is of the same kind then, over the same domain
  pub kind-loaded : (before : List (Stmt F)) (statement : Stmt F) → FollowsIn program before statement → (name : ℕ) → is_undeclared (symbol_at (before_state before) name).content ≡ false → declared_kind (loaded value program) name ≡ declared_kind (before_state before) name
  kind-loaded before statement occurs name declared = (after-itself before statement occurs name declared).same_kind

  pub domain-loaded : (before : List (Stmt F)) (statement : Stmt F) → FollowsIn program before statement → (name : ℕ) → is_undeclared (symbol_at (before_state before) name).content ≡ false → (symbol_at (loaded value program) name).domain ≡ (symbol_at (before_state before) name).domain
  domain-loaded before statement occurs name declared = (after-itself before statement occurs name declared).domain

  -- and it is a variable exactly where it is one when the program begins
  pub variable-loaded : (before : List (Stmt F)) (statement : Stmt F) → FollowsIn program before statement → (name : ℕ) → is_undeclared (symbol_at (before_state before) name).content ≡ false → is_variable (symbol_at (loaded value program) name).content ≡ is_variable (symbol_at (before_state before) name).content
  variable-loaded before statement occurs name declared =
      by-kind (symbol_at (loaded value program) name).content
      ∙ ap is_variable_kind (kind-loaded before statement occurs name declared)
      ∙ sym (by-kind (symbol_at (before_state before) name).content)

  -- and each name has members in order, with a label for each of its positions
  pub loaded-fits : (n : ℕ) → IsFitting (symbol_at (loaded value program) n)
  loaded-fits n = fits-before program.statements.items n
