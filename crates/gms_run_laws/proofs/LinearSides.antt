-- The sides of the definitions of an accepted program are linear in the variables, in each state of
-- its run.
use Rattle.std.proofs.Common.{◌≡◌, ℕ, Bool, true, false, not, ◌&&◌, ◌||◌, if◌then◌else◌, List, [], ◌∷◌, ◌++◌, refl, sym, ap, ◌∙◌}
use Rattle.std.specs.List.{list_any}
use Rattle.std.proofs.lemmas.Bool.{both_ways, and_from, false_from_ne_true, not-false, or_right}
use Rattle.std.proofs.lemmas.List.Folds.{list_any-append}
use Rattle.gms_labels.specs.declared.place.Place.{Place}
use Rattle.gms_ast.specs.declared.expression.FoldOp.{FoldOp}
use Rattle.gms_ast.specs.declared.expression.FoldOp.TheVariants.{Sum, Prod, Smin, Smax}
use Rattle.gms_ast.specs.declared.expression.Suffix.TheVariants as suffix
use Rattle.gms_ast.specs.Trees.{Mark, signed, Tree}
use Rattle.gms_ast.specs.Trees as tree
use Rattle.gms_store.specs.State.{State, symbol_at}
use Rattle.gms_scope.specs.Names.{has_no_declaration}
use Rattle.gms_check.specs.declared.error.ErrorKind.TheVariants.{UnknownName, Nonlinear}
use Rattle.gms_check.specs.declared.contexts.Context.{Context}
use Rattle.gms_check.specs.Linearity.{has_variable, have_variable, nonlinear}
use Rattle.gms_check.specs.Linearity as checking
use Rattle.gms_check.specs.Names as checked_names
use Rattle.gms_check.specs.Past.{Known}
use Rattle.gms_check.specs.Contexts.{as_condition, as_part, as_inner, as_guarded}
use Rattle.gms_check.specs.Uses.{Uses, stepping, folding, Operation, multiplies, divides, raises, place_by_mark, operation_of, index_sets, sets_of_control, later_steps, steps, uses, part_uses, control_uses}
use Rattle.gms_check.proofs.NoErrors.{AreClean, clean-left, clean-right}
use Rattle.gms_check.proofs.Soundness.{neither-first}
use Rattle.gms_rows.specs.Affine.{has_variables, some_has_variables, is_variable_content}
use Rattle.gms_rows.specs.PointValues.{is_signed, is_sum_fold, are_later_factors, are_factors, is_linear, are_linear}
use Rattle.gms_run_laws.proofs.MarkedTrees.{IsMarked, AreMarked}

-- ---- tests

third-fails : (a b c : Bool) → a ≡ true → b ≡ true → (a && (b && c)) ≡ false → c ≡ false
third-fails a b c e f none = sym (ap (λ (x : Bool). x && (b && c)) e ∙ ap (λ (x : Bool). x && c) f) ∙ none

second-fails : (a c : Bool) → a ≡ true → (a && c) ≡ false → c ≡ false
second-fails a c e none = sym (ap (λ (x : Bool). x && c) e) ∙ none

either-part : (a b c d : Bool) → (a ≡ true → c ≡ true) → (b ≡ true → d ≡ true) → (a || b) ≡ true → (c || d) ≡ true
either-part true b c d own later e = ap (λ (x : Bool). x || d) (own refl)
either-part false b c d own later e = or_right c d (later e)

summed : (has sums linear : Bool) → (has ≡ true → sums ≡ true) → linear ≡ true → (not has || (sums && linear)) ≡ true
summed true sums linear is so = and_from sums linear (is refl) so
summed false sums linear is so = refl

-- the check's test of a sum implies this one
sum-too : (op : FoldOp) → checking.is_sum op ≡ true → is_sum_fold op ≡ true
sum-too Sum e = refl
sum-too Prod e = absurd (cc)
sum-too Smin e = absurd (cc)
sum-too Smax e = absurd (cc)

module _ {F : Type 0} (known : Known F) (state : State) (kinds : (n : ℕ) → has_no_declaration known.state n ≡ false → is_variable_content (symbol_at state n).content ≡ checked_names.is_variable (symbol_at known.state n).content) where
  mutual
    -- what has variables in the state has some in what is known
    has-there : (e : Tree F) (context : Context) (at : Place) (around : List ℕ) → AreClean known (uses context at around e) → has_variables state e ≡ true → has_variable known e ≡ true
    has-there (tree.reference place name suffix.None indices) context at around clean has =
        sym (kinds name (neither-first (has_no_declaration known.state name) (list_any (has_no_declaration known.state) (index_sets indices)) (clean.0 UnknownName))) ∙ has
    has-there (tree.fold_over place op control body) context at around clean has =
        has-there body (as_inner context) place (around ++ sets_of_control control) (clean-right known (control_uses place around control) (uses (as_inner context) place (around ++ sets_of_control control) body) clean.1) has
    has-there (tree.negated operand) context at around clean has = has-there operand (as_part context) at around clean has
    has-there (tree.sum parts) context at around clean has = some-there parts (as_part context) at around clean has
    has-there (tree.product parts) context at around clean has =
        some-there parts (as_part context) at around (clean-left known (part_uses (as_part context) at around parts) (steps context at parts) clean) has
    has-there (tree.guarded operand guards) context at around clean has =
        has-there operand (as_guarded context) at around (clean-left known (uses (as_guarded context) at around operand) (part_uses as_condition at around guards) clean) has
    has-there other context at around clean has = absurd (cc)

    some-there : (parts : tree.Parts F) (context : Context) (at : Place) (around : List ℕ) → AreClean known (part_uses context at around parts) → some_has_variables state parts ≡ true → have_variable known parts ≡ true
    some-there tree.no_part context at around clean has = absurd (cc)
    some-there (tree.part mark e rest) context at around clean has =
        either-part (has_variables state e) (some_has_variables state rest) (has_variable known e) (have_variable known rest)
        (λ own. has-there e context (place_by_mark mark at) around (clean-left known (uses context (place_by_mark mark at) around e) (part_uses context at around rest) clean) own)
        (λ later. some-there rest context at around (clean-right known (uses context (place_by_mark mark at) around e) (part_uses context at around rest) clean) later)
        has

  -- ---- factors

  module _ (context : Context) (variables : context.variables ≡ true) (at : Place) (around : List ℕ) where
    -- after a factor with variables the right operand of a step has none
    no-step : (operation : Operation) (earlier : List (Tree F)) (e : Tree F) → list_any (has_variable known) earlier ≡ true → nonlinear known (stepping context operation earlier e) ≡ false → has_variable known e ≡ false
    no-step multiplies earlier e some none =
        third-fails context.variables (list_any (has_variable known) earlier) (has_variable known e) variables some none
    no-step divides earlier e some none = second-fails context.variables (has_variable known e) variables none
    no-step raises earlier e some none =
        absurd (both_ways (list_any (has_variable known) earlier || has_variable known e) (second-fails context.variables (list_any (has_variable known) earlier || has_variable known e) variables none) (ap (λ (x : Bool). x || has_variable known e) some))

    abbrev own_uses : Mark → Tree F → Uses F
    own_uses mark e = uses (as_part context) (place_by_mark mark at) around e

    abbrev rest_uses : tree.Parts F → Uses F
    rest_uses rest = part_uses (as_part context) at around rest

    -- a part with variables, after which the check finds none
    not-there : (mark : Mark) (e : Tree F) → AreClean known (own_uses mark e) → has_variable known e ≡ false → has_variables state e ≡ false
    not-there mark e clean none =
        false_from_ne_true (has_variables state e) (λ has. both_ways (has_variable known e) none (has-there e (as_part context) (place_by_mark mark at) around clean has))

    some-more : (earlier : List (Tree F)) (e : Tree F) → list_any (has_variable known) earlier ≡ true → list_any (has_variable known) (earlier ++ e ∷ []) ≡ true
    some-more earlier e some =
        list_any-append (has_variable known) earlier (e ∷ []) ∙ ap (λ (x : Bool). x || list_any (has_variable known) (e ∷ [])) some

    some-last : (earlier : List (Tree F)) (e : Tree F) → has_variable known e ≡ true → list_any (has_variable known) (earlier ++ e ∷ []) ≡ true
    some-last earlier e has =
        list_any-append (has_variable known) earlier (e ∷ []) ∙ or_right (list_any (has_variable known) earlier) (has_variable known e || false) (ap (λ (x : Bool). x || false) has)

    -- after a factor with variables no other has some
    none-later : (earlier : List (Tree F)) (rest : tree.Parts F) → list_any (has_variable known) earlier ≡ true → AreClean known (later_steps context at earlier rest) → AreClean known (rest_uses rest) → some_has_variables state rest ≡ false
    none-later earlier tree.no_part some clean there = refl
    none-later earlier (tree.part mark e rest) some clean there =
        let here = not-there mark e (clean-left known (own_uses mark e) (rest_uses rest) there) (no-step (operation_of mark) earlier e some (clean.0 Nonlinear)) in
        let later = none-later (earlier ++ e ∷ []) rest (some-more earlier e some) clean.1 (clean-right known (own_uses mark e) (rest_uses rest) there) in
        ap (λ (x : Bool). x || some_has_variables state rest) here ∙ later

    -- what divides has none
    upright : (place : Place) (inverse : Bool) (earlier : List (Tree F)) (e : Tree F) → has_variable known e ≡ true → nonlinear known (stepping context (operation_of (signed place inverse)) earlier e) ≡ false → not inverse ≡ true
    upright place true earlier e has none =
        absurd (both_ways (has_variable known e) (second-fails context.variables (has_variable known e) variables none) has)
    upright place false earlier e has none = refl

    later-factors : (earlier : List (Tree F)) (rest : tree.Parts F) → AreMarked rest → AreClean known (later_steps context at earlier rest) → AreClean known (rest_uses rest) → are_later_factors state rest ≡ true
    later-factors earlier tree.no_part marked clean there = refl
    later-factors earlier (tree.part (signed place inverse) e rest) marked clean there =
        by (has_variables state e) refl (later-factors (earlier ++ e ∷ []) rest marked.1.1 clean.1 following)
      where
        following : AreClean known (rest_uses rest)
        following = clean-right known (own_uses (signed place inverse) e) (rest_uses rest) there

        by : (h : Bool) → has_variables state e ≡ h → are_later_factors state rest ≡ true → (if h then not inverse && not (some_has_variables state rest) else are_later_factors state rest) ≡ true
        by true has later =
            let own = has-there e (as_part context) place around (clean-left known (own_uses (signed place inverse) e) (rest_uses rest) there) has in
            and_from (not inverse) (not (some_has_variables state rest)) (upright place inverse earlier e own (clean.0 Nonlinear)) (ap not (none-later (earlier ++ e ∷ []) rest (some-last earlier e own) clean.1 following))
        by false has later = later
    later-factors earlier (tree.part mark e rest) marked clean there = absurd (let no = marked.0 in cc)

    all-factors : (parts : tree.Parts F) → AreMarked parts → AreClean known (steps context at parts) → AreClean known (rest_uses parts) → are_factors state parts ≡ true
    all-factors tree.no_part marked clean there = refl
    all-factors (tree.part mark e rest) marked clean there = by (has_variables state e) refl
      where
        following : AreClean known (rest_uses rest)
        following = clean-right known (own_uses mark e) (rest_uses rest) there

        by : (h : Bool) → has_variables state e ≡ h → (if h then not (some_has_variables state rest) else are_later_factors state rest) ≡ true
        by true has =
            let own = has-there e (as_part context) (place_by_mark mark at) around (clean-left known (own_uses mark e) (rest_uses rest) there) has in
            ap not (none-later (e ∷ []) rest (ap (λ (x : Bool). x || false) own) clean following)
        by false has = later-factors (e ∷ []) rest marked.1.1 clean following

  -- ---- expressions

  -- a fold whose body has variables is a sum
  is-sum : (context : Context) (op : FoldOp) (body : Tree F) → context.variables ≡ true → nonlinear known (folding context op body) ≡ false → has_variable known body ≡ true → is_sum_fold op ≡ true
  is-sum context op body variables none has =
      let both = second-fails context.variables (not (checking.is_sum op) && has_variable known body) variables none in
      sum-too op (not-false (checking.is_sum op) (first-fails (not (checking.is_sum op)) (has_variable known body) has both))
    where
      first-fails : (a b : Bool) → b ≡ true → (a && b) ≡ false → a ≡ false
      first-fails true b e none = absurd (both_ways b none e)
      first-fails false b e none = refl

  mutual
    pub tree-linear : (e : Tree F) (context : Context) (at : Place) (around : List ℕ) → context.variables ≡ true → IsMarked e → AreClean known (uses context at around e) → is_linear state e ≡ true
    tree-linear (tree.fold_over place op control body) context at around variables marked clean =
        let inside = clean-right known (control_uses place around control) (uses (as_inner context) place (around ++ sets_of_control control) body) clean.1 in
        summed (has_variables state body) (is_sum_fold op) (is_linear state body)
        (λ has. is-sum context op body variables (clean.0 Nonlinear) (has-there body (as_inner context) place (around ++ sets_of_control control) inside has))
        (tree-linear body (as_inner context) place (around ++ sets_of_control control) variables marked inside)
    tree-linear (tree.negated operand) context at around variables marked clean = tree-linear operand (as_part context) at around variables marked clean
    tree-linear (tree.sum parts) context at around variables marked clean = parts-linear parts (as_part context) at around variables marked clean
    tree-linear (tree.product parts) context at around variables marked clean =
        let there = clean-left known (part_uses (as_part context) at around parts) (steps context at parts) clean in
        and_from (are_linear state parts) (are_factors state parts) (parts-linear parts (as_part context) at around variables marked there) (all-factors context variables at around parts marked (clean-right known (part_uses (as_part context) at around parts) (steps context at parts) clean) there)
    tree-linear (tree.guarded operand guards) context at around variables marked clean =
        tree-linear operand (as_guarded context) at around variables marked (clean-left known (uses (as_guarded context) at around operand) (part_uses as_condition at around guards) clean)
    tree-linear other context at around variables marked clean = refl

    parts-linear : (parts : tree.Parts F) (context : Context) (at : Place) (around : List ℕ) → context.variables ≡ true → AreMarked parts → AreClean known (part_uses context at around parts) → are_linear state parts ≡ true
    parts-linear tree.no_part context at around variables marked clean = refl
    parts-linear (tree.part mark e rest) context at around variables marked clean =
        and_from (is_signed mark) (is_linear state e && are_linear state rest) marked.0
        (and_from (is_linear state e) (are_linear state rest)
        (tree-linear e context (place_by_mark mark at) around variables marked.1.0 (clean-left known (uses context (place_by_mark mark at) around e) (part_uses context at around rest) clean))
        (parts-linear rest context at around variables marked.1.1 (clean-right known (uses context (place_by_mark mark at) around e) (part_uses context at around rest) clean)))
