-- The contracts of the code that makes rows.
use Rattle.std.specs.Prelude.{◌≡◌, ℕ, Bool, List, [], ◌∷◌, ◌++◌, ◌==◌, if◌then◌else◌, map, option_map, slice_index_or, false, Option, Some, None, Result, Ok, Err}
use Rattle.gms_rows.specs.Forms.{Form, form_in, zero_form}
use Rattle.gms_eval.specs.Bindings.{Pairs, controlled}
use Rattle.gms_eval.specs.Faults.{Answer, faulted, ◌and_then◌}
use Rattle.gms_eval.specs.Gives.{Shows}
use Rattle.gms_eval.specs.Nodes.{signed_step}
use Rattle.gms_eval.specs.Value.{values, domain, sets_of}
use Rattle.gms_eval.specs.declared.steps.Signed.{Signed}
use Rattle.gms_eval.specs.declared.steps.Signed.TheVariants as signs
use Rattle.gms_eval.specs.declared.stop.StopKind.TheVariants.{Limit}
use Rattle.gms_eval.specs.declared.stop.ExecStopOrMemory.{ExecStopOrMemory}
use Rattle.gms_eval.specs.declared.stop.ExecStopOrMemory.TheVariants.{Memory}
use Rattle.gq_extended.specs.Extended.{Extended}
use Rattle.gms_ast.specs.TreeView.{tree_of, parts_of, index_tree, indices_of}
use Rattle.gms_ast.specs.Trees.{signed, Tree, Parts, Control}
use Rattle.gms_ast.specs.declared.expression.Expr.{Expr}
use Rattle.gms_ast.specs.declared.program.Stmt.{Stmt}
use Rattle.gms_labels.specs.declared.place.Place.{Place}
use Rattle.gms_rows.specs.Affine.{Join, joined_forms, plus, times, chained, values_first, forms, affine}
use Rattle.gms_store.specs.State.{State}
use Rattle.gms_rows.specs.ElementRows.{AreInOrder}
use Rattle.gms_rows.specs.ProgramLp.{place_of_key}
use Rattle.gms_rows.specs.Rows.{FormRow, Definition, defined_at, definition_of, distinct_numbers, sets_among}
use Rattle.gms_rows.specs.declared.equations.Definition.{Definition as OwnDefinition}
use Rattle.gms_rows.specs.declared.form_row.FormRow.{FormRow as OwnRow}
use Rattle.gq_number.specs.Number.{Number}
use Rattle.lp_form.specs.Affine.{Affine}
use Rattle.lp_form.specs.Keys.{same_key}
use Rattle.lp_form.specs.declared.fault.FormFault.TheVariants as fault
use Rattle.lp_form.specs.declared.fault.FormFault.{FormFault}
use Rattle.lp_form.specs.declared.key.Key.{Key}
use Rattle.std.specs.List.Sorted.{IsStrictlySortedBy}
use Rattle.std.specs.Borrow.{Bor}
use Rattle.std.specs.List.{All, list_any}
use Rattle.std.specs.Ordering.{eq_by_cmp}
use Rattle.std.specs.declared.cmp.Ordering.{Ordering}

-- the view of the parts of a sum or a product
abbrev pub parts_in : {F : Type 0} → List (Place × Bool × Expr F) → Parts F
parts_in parts = parts_of (map (λ p. (signed p.0 p.1, tree_of p.2)) parts)

-- ---- sums and products

-- how the parts of a sum or of a product are joined
abbrev pub signed_join : ℕ → Pairs → Signed → Join
signed_join limit binding signs.Sum = plus limit binding
signed_join limit binding signs.Product = times limit binding

module _ {F : Type 0} (number_of : F → Number) (limit : ℕ) (state : State) where
  -- the form of the parts of a sum or a product
  abbrev pub chain_form : Pairs → Signed → Parts F → Answer Form
  chain_form binding kind parts =
      chained binding (signed_step limit binding kind) (signed_join limit binding kind) (values_first state parts) (values number_of limit state binding parts) (forms number_of limit state binding parts)

  -- a form so far, plus the forms of an expression at elements: sets are bound to the labels of
  -- each
  abbrev pub added_at : Place → Pairs → List ℕ → Tree F → Form → List (List ℕ) → Answer Form
  added_at at binding sets body so_far elements =
      joined_forms (plus limit binding) (Some so_far) (map (λ element. (signed at false, affine number_of limit state at (controlled binding sets element) body)) elements)

  -- the form of a sum over a domain
  abbrev pub total_form : Place → Pairs → Control F → Tree F → Answer Form
  total_form at binding control body = domain number_of limit state binding at control and_then added_at at binding (sets_of control) body zero_form

-- ---- steps

-- the answer of a call on forms is what the steps give; out of memory makes no claim
abbrev pub Told : {F : Type 0} → (F → Number) → Result (Affine F) FormFault → Result Form (Option Key) → Type 0
Told v (Ok form) steps = steps ≡ Ok (form_in v form)
Told v (Err (fault.Limit key)) steps = steps ≡ Err key
Told v (Err fault.Memory) steps = Unit {0}

-- the stop for a fault of a step on forms: Limit, with the operands of the step; out of memory
-- remains
abbrev pub ShowsFault : {F : Type 0} → (F → Number) → Place → Pairs → (Option Key → Extended) → (Option Key → Extended) → FormFault → ExecStopOrMemory F → Type 0
ShowsFault v at binding left right (fault.Limit key) stop = Shows v stop (faulted Limit at binding (left key) (right key))
ShowsFault v at binding left right fault.Memory stop = stop ≡ Memory

-- ---- equations

-- whether a name is among names
abbrev pub is_in : List ℕ → ℕ → Bool
is_in names name = list_any (λ m. m == name) names

-- names, and one more if it is not among them
abbrev pub with_once : List ℕ → ℕ → List ℕ
with_once names name = if is_in names name then names else names ++ name ∷ []

-- exactly these names are marked, by their numbers
abbrev pub AreMarked : List Bool → List ℕ → Type 0
AreMarked marks names = (n : ℕ) → slice_index_or marks n false ≡ is_in names n

-- the view of a definition of the code
abbrev pub definition_in : {F : Type 0} → OwnDefinition F → Definition F
definition_in d =
    record {
      equation = d.equation;
      at = d.at;
      indices = indices_of (map index_tree d.indices.now);
      condition = option_map (λ e. tree_of e.now) d.condition;
      left_at = d.left_at;
      left = tree_of d.left.now;
      side = d.side;
      right_at = d.right_at;
      right = tree_of d.right.now;
    }

-- the definition that was found, if any
abbrev pub found_in : {F : Type 0} → Option (OwnDefinition F) → List (Definition F)
found_in None = []
found_in (Some d) = definition_in d ∷ []

-- the definition of a name by the statement that is noted for it, if one is noted
abbrev pub noted_by : {F : Type 0} → Option (Bor (Stmt F)) → ℕ → List (Definition F)
noted_by None name = []
noted_by (Some s) name = definition_of (defined_at s.now.at s.now.act) name

-- the entry for each name is the statement that first defines it
abbrev pub AreNoted : {F : Type 0} → List (Option (Bor (Stmt F))) → List (Definition F) → Type 0
AreNoted noted ds = (name : ℕ) → noted_by (slice_index_or noted name None) name ≡ definition_of ds name

-- ---- sets in order

-- the members of the sets of definitions are in order
abbrev pub HaveOrder : {F : Type 0} → State → List (Definition F) → Type 0
HaveOrder {F} state ds = All (λ (d : Definition F). AreInOrder state (distinct_numbers (sets_among d.indices))) ds

-- ---- rows and their columns

-- the view of a row of the code
abbrev pub form_row_in : {F : Type 0} → (F → Number) → OwnRow F → FormRow
form_row_in value row = record { key = row.key; sense = row.sense; form = form_in value row.form }

-- whether a key is among keys
abbrev pub is_among : List Key → Key → Bool
is_among keys key = list_any (same_key key) keys

-- the same values, in order, without repetition
pub record OrdersOnce {X : Type 0} (cmp : X → X → Ordering) (old new : List X) : Type 0 where
  pub ordered : IsStrictlySortedBy cmp new
  pub same : (x : X) → list_any (eq_by_cmp cmp x) new ≡ list_any (eq_by_cmp cmp x) old

-- the numbers of keys, each with the place of its key
abbrev pub placed_numbers : {F : Type 0} → List Key → List Key → List F → List (ℕ × F)
placed_numbers columns [] numbers = []
placed_numbers columns (key ∷ keys) [] = []
placed_numbers columns (key ∷ keys) (x ∷ numbers) = (place_of_key columns key, x) ∷ placed_numbers columns keys numbers
