-- The places of what expressions use.
use Rattle.std.proofs.Common.{◌≡◌, ◌⊎◌, ℕ, List, [], ◌∷◌, ◌++◌, refl, sym, subst, inl, inr}
use Rattle.gms_labels.specs.declared.place.Place.{Place}
use Rattle.gms_ast.specs.declared.expression.Suffix.{Suffix}
use Rattle.gms_ast.specs.Trees.{Indices, Mark, Parts, Tree, all_of, call, chosen, fold_over, guarded, label, lagged, negated, no, no_index, no_part, not_available, not_so, number, one_of, over, over_where, part, place_in_set, placed, plain, plus_infinity, power, product, reference, related, relation, set, signed, size_of_set, sum, yes}
use Rattle.gms_check.specs.declared.contexts.Context.{Context}
use Rattle.gms_check.specs.Contexts.{as_condition, as_denied, as_guarded, as_inner, as_number, as_part}
use Rattle.gms_check.specs.Uses.{Uses, amount_uses, later_steps, part_uses, place_by_mark, shift_uses, steps as step_uses, uses}
use Rattle.gms_laws.specs.Occurrences.{ExpressionStep, signed_operand, term, factor, power_operand, argument, fold_condition, fold_body, relation_operand, not_operand, and_operand, or_operand, dollar_operand, dollar_condition, lag_amount, IsPartOf, first_part, later_part, IsAmountIn, first_amount, after_label, after_set, after_lag, Occurs, itself, in_signed, in_sum, in_product, in_power, in_call, in_fold_condition, in_fold_body, in_relation, in_not, in_and, in_or, in_dollar, in_dollar_condition, in_lag}
use Rattle.gms_laws.specs.Places.{IsOperandAt, signed_at, placed_at, later_operand, IsAmountAt, first_at, at_after_label, at_after_set, at_after_lag, HasParts, parts_of_sum, parts_of_product, parts_of_power, parts_of_call, parts_of_relation, parts_of_and, parts_of_or, parts_of_dollar, IsOwnPlace, reference_at, amount_at, ord_at, card_at, call_at, fold_at, operand_at, IsPlaceIn}

-- ---- uses at places

module _ {F : Type 0} where
  -- each of some uses is at such a place
  abbrev pub Each : (Place → Type 0) → Uses F → Type 0
  Each P [] = Unit {0}
  Each P (u ∷ us) = P u.0 × Each P us

  pub each-both : (P : Place → Type 0) (us vs : Uses F) → Each P us → Each P vs → Each P (us ++ vs)
  each-both P [] vs first second = second
  each-both P (u ∷ us) vs first second = (first.0, each-both P us vs first.1 second)

  pub each-weaker : (P Q : Place → Type 0) → ((at : Place) → P at → Q at) → (us : Uses F) → Each P us → Each Q us
  each-weaker P Q weaker [] each = tt
  each-weaker P Q weaker (u ∷ us) each = (weaker u.0 each.0, each-weaker P Q weaker us each.1)

  -- ---- places in an expression

  -- the place around it, or one in it
  abbrev pub IsNear : Place → Tree F → Place → Type 0
  IsNear around tree at = (at ≡ around) ⊎ IsPlaceIn at tree

  -- the place around parts, of an operand, or one in a part
  data IsNearParts (around : Place) (parts : Parts F) (at : Place) : Type 0 where
    at_around : at ≡ around → IsNearParts around parts at
    at_operand : IsOperandAt at parts → IsNearParts around parts at
    at_part : {next : Tree F} → IsPartOf next parts → IsPlaceIn at next → IsNearParts around parts at

  -- the place of an amount, or one in it
  pub data IsNearAmount (indices : Indices F) (at : Place) : Type 0 where
    at_amount : IsAmountAt at indices → IsNearAmount indices at
    in_amount : {amount : Tree F} → IsAmountIn amount indices → IsPlaceIn at amount → IsNearAmount indices at

  own : {at : Place} {tree : Tree F} → IsOwnPlace at tree → IsPlaceIn at tree
  own {at} {tree} is = record { steps = []; tree = tree; occurs = itself; own = is }

  -- one step further in
  deeper : (step : ExpressionStep) (next root : Tree F) (at : Place) → ((steps : List ExpressionStep) (tree : Tree F) → Occurs tree steps next → Occurs tree (step ∷ steps) root) → IsPlaceIn at next → IsPlaceIn at root
  deeper step next root at further p = record { steps = step ∷ p.steps; tree = p.tree; occurs = further p.steps p.tree p.occurs; own = p.own }

  deeper-near : (step : ExpressionStep) (around : Place) (next root : Tree F) → ((steps : List ExpressionStep) (tree : Tree F) → Occurs tree steps next → Occurs tree (step ∷ steps) root) → (at : Place) → IsNear around next at → IsNear around root at
  deeper-near step around next root further at (inl same) = inl same
  deeper-near step around next root further at (inr inside) = inr (deeper step next root at further inside)

  parts-near : (step : ExpressionStep) (around : Place) (parts : Parts F) (root : Tree F) → HasParts parts root → ((next : Tree F) → IsPartOf next parts → (steps : List ExpressionStep) (tree : Tree F) → Occurs tree steps next → Occurs tree (step ∷ steps) root) → (at : Place) → IsNearParts around parts at → IsNear around root at
  parts-near step around parts root has further at (at_around same) = inl same
  parts-near step around parts root has further at (at_operand operand) = inr (own (operand_at has operand))
  parts-near step around parts root has further at (at_part {next = next} among inside) = inr (deeper step next root at (further next among) inside)

  -- the places inside the parts of a node that has a place
  parts-inside : (step : ExpressionStep) (around place : Place) (parts : Parts F) (root : Tree F) → HasParts parts root → IsOwnPlace place root → ((next : Tree F) → IsPartOf next parts → (steps : List ExpressionStep) (tree : Tree F) → Occurs tree steps next → Occurs tree (step ∷ steps) root) → (at : Place) → IsNearParts place parts at → IsNear around root at
  parts-inside step around place parts root has its further at (at_around same) = inr (own (subst (λ (p : Place). IsOwnPlace p root) (sym same) its))
  parts-inside step around place parts root has its further at (at_operand operand) = inr (own (operand_at has operand))
  parts-inside step around place parts root has its further at (at_part {next = next} among inside) = inr (deeper step next root at (further next among) inside)

  near-inside : (step : ExpressionStep) (around place : Place) (next root : Tree F) → IsOwnPlace place root → ((steps : List ExpressionStep) (tree : Tree F) → Occurs tree steps next → Occurs tree (step ∷ steps) root) → (at : Place) → IsNear place next at → IsNear around root at
  near-inside step around place next root its further at (inl same) = inr (own (subst (λ (p : Place). IsOwnPlace p root) (sym same) its))
  near-inside step around place next root its further at (inr inside) = inr (deeper step next root at further inside)

  -- ---- marks

  mark-near : (mark : Mark) (around : Place) (tree : Tree F) (rest : Parts F) → IsNearParts around (part mark tree rest) (place_by_mark mark around)
  mark-near plain around tree rest = at_around refl
  mark-near (placed at) around tree rest = at_operand placed_at
  mark-near (signed at subtracts) around tree rest = at_operand signed_at
  mark-near (related op) around tree rest = at_around refl
  mark-near (chosen exclusive) around tree rest = at_around refl

  first-near : (mark : Mark) (around : Place) (tree : Tree F) (rest : Parts F) (at : Place) → IsNear (place_by_mark mark around) tree at → IsNearParts around (part mark tree rest) at
  first-near mark around tree rest at (inl same) = subst (IsNearParts around (part mark tree rest)) (sym same) (mark-near mark around tree rest)
  first-near mark around tree rest at (inr inside) = at_part first_part inside

  later-near : (mark : Mark) (around : Place) (tree : Tree F) (rest : Parts F) (at : Place) → IsNearParts around rest at → IsNearParts around (part mark tree rest) at
  later-near mark around tree rest at (at_around same) = at_around same
  later-near mark around tree rest at (at_operand operand) = at_operand (later_operand operand)
  later-near mark around tree rest at (at_part among inside) = at_part (later_part among) inside

  later-steps : (context : Context) (around : Place) (earlier : List (Tree F)) (parts : Parts F) → Each (IsNearParts around parts) (later_steps context around earlier parts)
  later-steps context around earlier no_part = tt
  later-steps context around earlier (part mark tree rest) =
      (mark-near mark around tree rest, each-weaker (IsNearParts around rest) (IsNearParts around (part mark tree rest)) (later-near mark around tree rest) (later_steps context around (earlier ++ tree ∷ []) rest) (later-steps context around (earlier ++ tree ∷ []) rest))

  all-steps : (context : Context) (around : Place) (parts : Parts F) → Each (IsNearParts around parts) (step_uses context around parts)
  all-steps context around no_part = tt
  all-steps context around (part mark tree rest) =
      each-weaker (IsNearParts around rest) (IsNearParts around (part mark tree rest)) (later-near mark around tree rest) (later_steps context around (tree ∷ []) rest) (later-steps context around (tree ∷ []) rest)

  -- ---- amounts

  amount-later-label : (n : ℕ) (rest : Indices F) (at : Place) → IsNearAmount rest at → IsNearAmount (label n rest) at
  amount-later-label n rest at (at_amount amount) = at_amount (at_after_label amount)
  amount-later-label n rest at (in_amount among inside) = in_amount (after_label among) inside

  amount-later-set : (name : ℕ) (rest : Indices F) (at : Place) → IsNearAmount rest at → IsNearAmount (set name rest) at
  amount-later-set name rest at (at_amount amount) = at_amount (at_after_set amount)
  amount-later-set name rest at (in_amount among inside) = in_amount (after_set among) inside

  of-reference : (around place : Place) (name : ℕ) (suffix : Suffix) (indices : Indices F) (at : Place) → IsNearAmount indices at → IsNear around (reference place name suffix indices) at
  of-reference around place name suffix indices at (at_amount amount) = inr (own (amount_at amount))
  of-reference around place name suffix indices at (in_amount {amount = amount} among inside) = inr (deeper lag_amount amount (reference place name suffix indices) at (λ steps tree o. in_lag among o) inside)

  mutual
    -- the places of what an expression uses are the one around it or places in it
    pub tree-places : (tree : Tree F) (context : Context) (around : Place) (controlled : List ℕ) → Each (IsNear around tree) (uses context around controlled tree)
    tree-places (number n) context around controlled = (inl refl, tt)
    tree-places plus_infinity context around controlled = (inl refl, tt)
    tree-places not_available context around controlled = (inl refl, tt)
    tree-places yes context around controlled = (inl refl, tt)
    tree-places no context around controlled = (inl refl, tt)
    tree-places (reference place name suffix indices) context around controlled =
        (inr (own reference_at), each-weaker (IsNearAmount indices) (IsNear around (reference place name suffix indices)) (of-reference around place name suffix indices) (amount_uses controlled indices) (amount-places indices controlled))
    tree-places (place_in_set place name) context around controlled = (inr (own ord_at), tt)
    tree-places (size_of_set place name) context around controlled = (inr (own card_at), tt)
    tree-places (call place function args) context around controlled =
        (inr (own call_at), each-weaker (IsNearParts place args) (IsNear around (call place function args)) (parts-inside argument around place args (call place function args) parts_of_call call_at (λ next among steps tree o. in_call among o)) (part_uses (as_inner context) place controlled args) (part-places args (as_inner context) place controlled))
    tree-places (fold_over place op (over sets) body) context around controlled =
        let root : Tree F = fold_over place op (over sets) body in
        (inr (own fold_at), (inr (own fold_at), each-weaker (IsNear place body) (IsNear around root) (near-inside fold_body around place body root fold_at (λ steps tree o. in_fold_body o)) (uses (as_inner context) place (controlled ++ sets) body) (tree-places body (as_inner context) place (controlled ++ sets))))
    tree-places (fold_over place op (over_where sets condition) body) context around controlled =
        let root : Tree F = fold_over place op (over_where sets condition) body in
        (inr (own fold_at), (inr (own fold_at), each-both (IsNear around root) (uses as_condition place (controlled ++ sets) condition) (uses (as_inner context) place (controlled ++ sets) body) (each-weaker (IsNear place condition) (IsNear around root) (near-inside fold_condition around place condition root fold_at (λ steps tree o. in_fold_condition o)) (uses as_condition place (controlled ++ sets) condition) (tree-places condition as_condition place (controlled ++ sets))) (each-weaker (IsNear place body) (IsNear around root) (near-inside fold_body around place body root fold_at (λ steps tree o. in_fold_body o)) (uses (as_inner context) place (controlled ++ sets) body) (tree-places body (as_inner context) place (controlled ++ sets)))))
    tree-places (negated operand) context around controlled =
        each-weaker (IsNear around operand) (IsNear around (negated operand)) (deeper-near signed_operand around operand (negated operand) (λ steps tree o. in_signed o)) (uses (as_part context) around controlled operand) (tree-places operand (as_part context) around controlled)
    tree-places (sum parts) context around controlled =
        each-weaker (IsNearParts around parts) (IsNear around (sum parts)) (parts-near term around parts (sum parts) parts_of_sum (λ next among steps tree o. in_sum among o)) (part_uses (as_part context) around controlled parts) (part-places parts (as_part context) around controlled)
    tree-places (product parts) context around controlled =
        each-weaker (IsNearParts around parts) (IsNear around (product parts)) (parts-near factor around parts (product parts) parts_of_product (λ next among steps tree o. in_product among o)) (part_uses (as_part context) around controlled parts ++ step_uses context around parts) (each-both (IsNearParts around parts) (part_uses (as_part context) around controlled parts) (step_uses context around parts) (part-places parts (as_part context) around controlled) (all-steps context around parts))
    tree-places (power parts) context around controlled =
        each-weaker (IsNearParts around parts) (IsNear around (power parts)) (parts-near power_operand around parts (power parts) parts_of_power (λ next among steps tree o. in_power among o)) (part_uses (as_part context) around controlled parts ++ step_uses context around parts) (each-both (IsNearParts around parts) (part_uses (as_part context) around controlled parts) (step_uses context around parts) (part-places parts (as_part context) around controlled) (all-steps context around parts))
    tree-places (relation parts) context around controlled =
        (inl refl, each-weaker (IsNearParts around parts) (IsNear around (relation parts)) (parts-near relation_operand around parts (relation parts) parts_of_relation (λ next among steps tree o. in_relation among o)) (part_uses as_number around controlled parts) (part-places parts as_number around controlled))
    tree-places (not_so operand) context around controlled =
        each-weaker (IsNear around operand) (IsNear around (not_so operand)) (deeper-near not_operand around operand (not_so operand) (λ steps tree o. in_not o)) (uses (as_denied context) around controlled operand) (tree-places operand (as_denied context) around controlled)
    tree-places (all_of parts) context around controlled =
        (inl refl, each-weaker (IsNearParts around parts) (IsNear around (all_of parts)) (parts-near and_operand around parts (all_of parts) parts_of_and (λ next among steps tree o. in_and among o)) (part_uses as_condition around controlled parts) (part-places parts as_condition around controlled))
    tree-places (one_of parts) context around controlled =
        (inl refl, each-weaker (IsNearParts around parts) (IsNear around (one_of parts)) (parts-near or_operand around parts (one_of parts) parts_of_or (λ next among steps tree o. in_or among o)) (part_uses as_condition around controlled parts) (part-places parts as_condition around controlled))
    tree-places (guarded operand guards) context around controlled =
        let root : Tree F = guarded operand guards in
        each-both (IsNear around root) (uses (as_guarded context) around controlled operand) (part_uses as_condition around controlled guards) (each-weaker (IsNear around operand) (IsNear around root) (deeper-near dollar_operand around operand root (λ steps tree o. in_dollar o)) (uses (as_guarded context) around controlled operand) (tree-places operand (as_guarded context) around controlled)) (each-weaker (IsNearParts around guards) (IsNear around root) (parts-near dollar_condition around guards root parts_of_dollar (λ next among steps tree o. in_dollar_condition among o)) (part_uses as_condition around controlled guards) (part-places guards as_condition around controlled))

    part-places : (parts : Parts F) (context : Context) (around : Place) (controlled : List ℕ) → Each (IsNearParts around parts) (part_uses context around controlled parts)
    part-places no_part context around controlled = tt
    part-places (part mark tree rest) context around controlled =
        each-both (IsNearParts around (part mark tree rest)) (uses context (place_by_mark mark around) controlled tree) (part_uses context around controlled rest) (each-weaker (IsNear (place_by_mark mark around) tree) (IsNearParts around (part mark tree rest)) (first-near mark around tree rest) (uses context (place_by_mark mark around) controlled tree) (tree-places tree context (place_by_mark mark around) controlled)) (each-weaker (IsNearParts around rest) (IsNearParts around (part mark tree rest)) (later-near mark around tree rest) (part_uses context around controlled rest) (part-places rest context around controlled))

    amount-places : (indices : Indices F) (controlled : List ℕ) → Each (IsNearAmount indices) (amount_uses controlled indices)
    amount-places no_index controlled = tt
    amount-places (label n rest) controlled =
        each-weaker (IsNearAmount rest) (IsNearAmount (label n rest)) (amount-later-label n rest) (amount_uses controlled rest) (amount-places rest controlled)
    amount-places (set name rest) controlled =
        each-weaker (IsNearAmount rest) (IsNearAmount (set name rest)) (amount-later-set name rest) (amount_uses controlled rest) (amount-places rest controlled)
    amount-places (lagged name op place amount rest) controlled =
        let all : Indices F = lagged name op place amount rest in
        each-both (IsNearAmount all) (uses as_number place controlled amount) (amount_uses controlled rest) (each-weaker (IsNear place amount) (IsNearAmount all) here (uses as_number place controlled amount) (tree-places amount as_number place controlled)) (each-weaker (IsNearAmount rest) (IsNearAmount all) later (amount_uses controlled rest) (amount-places rest controlled))
      where
        here : (at : Place) → IsNear place amount at → IsNearAmount (lagged name op place amount rest) at
        here at (inl same) = subst (IsNearAmount (lagged name op place amount rest)) (sym same) (at_amount first_at)
        here at (inr inside) = in_amount first_amount inside

        later : (at : Place) → IsNearAmount rest at → IsNearAmount (lagged name op place amount rest) at
        later at (at_amount is) = at_amount (at_after_lag is)
        later at (in_amount among inside) = in_amount (after_lag among) inside

  -- the same on the left of an assignment or a definition
  pub shift-places : (indices : Indices F) (controlled : List ℕ) → Each (IsNearAmount indices) (shift_uses controlled indices)
  shift-places no_index controlled = tt
  shift-places (label n rest) controlled =
      each-weaker (IsNearAmount rest) (IsNearAmount (label n rest)) (amount-later-label n rest) (shift_uses controlled rest) (shift-places rest controlled)
  shift-places (set name rest) controlled =
      each-weaker (IsNearAmount rest) (IsNearAmount (set name rest)) (amount-later-set name rest) (shift_uses controlled rest) (shift-places rest controlled)
  shift-places (lagged name op place amount rest) controlled =
      let all : Indices F = lagged name op place amount rest in
      (at_amount first_at, each-both (IsNearAmount all) (uses as_number place controlled amount) (shift_uses controlled rest) (each-weaker (IsNear place amount) (IsNearAmount all) here (uses as_number place controlled amount) (tree-places amount as_number place controlled)) (each-weaker (IsNearAmount rest) (IsNearAmount all) later (shift_uses controlled rest) (shift-places rest controlled)))
    where
      here : (at : Place) → IsNear place amount at → IsNearAmount (lagged name op place amount rest) at
      here at (inl same) = subst (IsNearAmount (lagged name op place amount rest)) (sym same) (at_amount first_at)
      here at (inr inside) = in_amount first_amount inside

      later : (at : Place) → IsNearAmount rest at → IsNearAmount (lagged name op place amount rest) at
      later at (at_amount is) = at_amount (at_after_lag is)
      later at (in_amount among inside) = in_amount (after_lag among) inside
