-- Bindings that give each controlled set a label, and lags that go beyond the ends of their sets
-- (GAMS User's Guide, "Data Manipulations with Parameters", controlled indices; "Sets as Sequences:
-- Ordered Sets").
use Rattle.std.specs.Prelude.{◌≡◌, ◌⊎◌, ℕ, ℤ, true, List, [], ◌∷◌, is_some, Some, None, Ok, All}
use Rattle.gq_number.specs.Number.{Number}
use Rattle.gq_extended.specs.Extended.{Extended}
use Rattle.gms_ast.specs.declared.expression.LagOp.{LagOp}
use Rattle.gms_ast.specs.Trees as tree
use Rattle.gms_tuple.specs.TupleSet.{has}
use Rattle.gms_store.specs.State.{State, members_of}
use Rattle.gms_eval.specs.Bindings.{Pairs, label_of}
use Rattle.gms_eval.specs.Lag.{lagged_label, whole_number}
use Rattle.gms_eval.specs.Value.{value}

-- each of these sets has a label in the binding
abbrev pub OccurForLabels : Pairs → List ℕ → Type 0
OccurForLabels binding sets = All (λ set. is_some (label_of binding set) ≡ true) sets

-- the element has one label for each set, and each label is a member of its set
abbrev pub AreMembers : State → List ℕ → List ℕ → Type 0
AreMembers state [] [] = Unit {0}
AreMembers state (set ∷ sets) (label ∷ element) = (has (members_of state set) (label ∷ []) ≡ true) × AreMembers state sets element
AreMembers state sets element = ⊥

module _ {F : Type 0} (number_of : F → Number) (limit : ℕ) (state : State) (binding : Pairs) where
  -- A lead or a lag `op` of this amount reaches no label: it goes beyond an end of its set, from
  -- the label that the set has in the binding, or this label is none of the set's members.
  pub record GoesPast (set : ℕ) (op : LagOp) (amount : tree.Tree F) : Type 0 where
    pub label : ℕ
    pub occurs : label_of binding set ≡ Some label
    pub given : Extended
    pub is : value number_of limit state binding amount ≡ Ok given
    pub places : ℤ
    pub whole : whole_number given ≡ Some places
    pub past : lagged_label (members_of state set) op places label ≡ None

  -- some lead or lag among the indices reaches no label, as `GoesPast` states
  abbrev pub SomeGoesPast : tree.Indices F → Type 0
  SomeGoesPast tree.no_index = ⊥
  SomeGoesPast (tree.label label rest) = SomeGoesPast rest
  SomeGoesPast (tree.set set rest) = SomeGoesPast rest
  SomeGoesPast (tree.lagged set op at amount rest) = GoesPast set op amount ⊎ SomeGoesPast rest
