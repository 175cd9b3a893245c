-- Which references in the condition of a control may lead the traversal of the control's elements,
-- and how many elements such a traversal visits at most. It visits the stored tuples of the
-- reference in place of the whole product of sets: a condition holds only if each of its factors
-- does, and a reference as a condition holds only at its stored tuples (GAMS User's Guide,
-- "Conditional Expressions, Assignments and Equations", logical operators and nested dollar
-- conditions).
use Rattle.std.specs.Prelude.{◌≡◌, ◌⊎◌, ℕ, suc, ◌*◌, ◌≤◌, Bool, true, false, not, ◌&&◌, ◌||◌, ◌==◌, is_some, List, [], ◌∷◌, ◌++◌, length, Option, Some, None, if◌then◌else◌}
use Rattle.std.specs.List.{list_any}
use Rattle.gms_ast.specs.declared.expression.Suffix.{Suffix}
use Rattle.gms_ast.specs.declared.expression.Suffix.TheVariants as suffix
use Rattle.gms_ast.specs.Trees as tree
use Rattle.gms_tuple.specs.TupleSet.{those_with}
use Rattle.gms_store.specs.State.{State, given_of}
use Rattle.gms_eval.specs.Bindings.{Pairs, label_of}
use Rattle.gms_eval.specs.Domain.{elements}

-- the label followed by the others; the empty list if there is no label
abbrev pub before_others : Option ℕ → List ℕ → List ℕ
before_others None others = []
before_others (Some label) others = label ∷ others

module _ {F : Type 0} where
  -- whether no index has a lag
  abbrev pub without_lags : tree.Indices F → Bool
  without_lags tree.no_index = true
  without_lags (tree.label label rest) = without_lags rest
  without_lags (tree.set name rest) = without_lags rest
  without_lags (tree.lagged name op at amount rest) = false

  -- how many indices there are
  abbrev pub number_of_indices : tree.Indices F → ℕ
  number_of_indices tree.no_index = 0
  number_of_indices (tree.label label rest) = suc (number_of_indices rest)
  number_of_indices (tree.set name rest) = suc (number_of_indices rest)
  number_of_indices (tree.lagged name op at amount rest) = suc (number_of_indices rest)

  -- whether a reference has neither a suffix nor a lag
  abbrev pub is_bare : Suffix → tree.Indices F → Bool
  is_bare suffix.None indices = without_lags indices
  is_bare other indices = false

  abbrev mutual
    -- Whether the shape of a condition alone shows that its evaluation has no fault: it is a
    -- number, a reference with neither a suffix nor a lag, or made of such conditions by `and` and
    -- guards.
    pub never_fails : tree.Tree F → Bool
    never_fails (tree.number n) = true
    never_fails (tree.reference at name suffix indices) = is_bare suffix indices
    never_fails (tree.all_of parts) = none_fails parts
    never_fails (tree.guarded operand guards) = none_fails guards && never_fails operand
    never_fails other = false

    -- whether the shape of each of these conditions alone shows that its evaluation has no fault
    pub none_fails : tree.Parts F → Bool
    none_fails tree.no_part = true
    none_fails (tree.part mark condition rest) = never_fails condition && none_fails rest

  module _ (name : ℕ) (indices : tree.Indices F) where
    abbrev mutual
      -- The reference to `name` with `indices` may lead for the condition: the elements for which
      -- the condition holds are searched among the stored tuples of the reference, and not in the
      -- whole product of sets. The reference has neither a suffix nor a lag and at most 10 indices.
      -- It is the condition, or occurs in it as an operand of `and`, as a guard or as a guarded
      -- operand, at any depth, and all operands and guards that are evaluated before it never have
      -- a fault. Guards are evaluated before their operand, from the last to the first.
      pub MayLead : tree.Tree F → Type 0
      MayLead (tree.reference at other suffix those) =
          (is_bare suffix those ≡ true) × (number_of_indices those ≤ 10) × (other ≡ name) × (those ≡ indices)
      MayLead (tree.all_of parts) = OneMayLead parts
      MayLead (tree.guarded operand guards) = LastMayLead guards ⊎ ((none_fails guards ≡ true) × MayLead operand)
      MayLead other = ⊥

      -- the reference to `name` with `indices` may lead for conditions that are joined by `and` and
      -- evaluated from the first to the last: the elements at which all hold are searched among the
      -- reference's stored tuples. It may lead for one condition (`MayLead`), and the conditions
      -- before that one never have a fault
      pub OneMayLead : tree.Parts F → Type 0
      OneMayLead tree.no_part = ⊥
      OneMayLead (tree.part mark condition rest) = MayLead condition ⊎ ((never_fails condition ≡ true) × OneMayLead rest)

      -- The reference to `name` with `indices` may lead for guards, which are evaluated from the
      -- last to the first: the elements at which the guards hold are searched among the stored
      -- tuples of the reference. The reference may lead for one guard (`MayLead`), and the guards
      -- after that guard never have a fault.
      pub LastMayLead : tree.Parts F → Type 0
      LastMayLead tree.no_part = ⊥
      LastMayLead (tree.part mark condition rest) = LastMayLead rest ⊎ ((none_fails rest ≡ true) × MayLead condition)

  -- A reference in the condition of a control reads only tuples that begin with these labels: those
  -- of the reference's first indices, up to the first index with a lag, or whose set has no label
  -- in the binding around the control.
  abbrev pub leading_labels : Pairs → tree.Indices F → List ℕ
  leading_labels binding tree.no_index = []
  leading_labels binding (tree.label label rest) = label ∷ leading_labels binding rest
  leading_labels binding (tree.set name rest) = before_others (label_of binding name) (leading_labels binding rest)
  leading_labels binding (tree.lagged name op at amount rest) = []

  -- whether a set is one of the indices, without a lag
  abbrev pub is_plain_index : ℕ → tree.Indices F → Bool
  is_plain_index name tree.no_index = false
  is_plain_index name (tree.label label rest) = is_plain_index name rest
  is_plain_index name (tree.set other rest) = other == name || is_plain_index name rest
  is_plain_index name (tree.lagged other op at amount rest) = is_plain_index name rest

  -- Whether the tuple of a reference determines the label of the set `name` of a control: the set
  -- is an index without a lag, has no label in the binding around the control, and is not among
  -- `before`, the sets that precede it in the control.
  abbrev pub is_told : Pairs → tree.Indices F → List ℕ → ℕ → Bool
  is_told binding indices before name =
      not (is_some (label_of binding name) || list_any (λ other. other == name) before) && is_plain_index name indices

  -- the sets of a control whose labels the tuple of a reference does not determine, among those
  -- that follow the sets `before` in the control
  abbrev pub free_after : Pairs → tree.Indices F → List ℕ → List ℕ → List ℕ
  free_after binding indices before [] = []
  free_after binding indices before (name ∷ rest) =
      let others = free_after binding indices (before ++ name ∷ []) rest in
      if is_told binding indices before name then others else name ∷ others

  -- An upper bound of how many elements a search over these sets visits if it traverses the stored
  -- tuples of the reference to `name`: the number of the tuples that begin with the known labels of
  -- its first indices (`leading_labels`), times the number of elements in the product of the sets
  -- whose labels the tuples do not determine.
  abbrev pub reach : State → Pairs → List ℕ → ℕ → tree.Indices F → ℕ
  reach state binding sets name indices =
      length (those_with (given_of state name) (leading_labels binding indices)) * length (elements state (free_after binding indices [] sets))
