-- In states that agree on the names in an expression it has the same form.
use Rattle.std.proofs.Common.{◌≡◌, ℕ, ◌+◌, pos, Bool, false, ◌&&◌, ◌||◌, List, ◌∷◌, map, Option, Some, refl, ap, ◌∙◌, Ok}
use Rattle.std.specs.Prelude.{if◌then◌else◌}
use Rattle.std.proofs.Math.Path.{fun_ext}
use Rattle.gms_labels.specs.declared.place.Place.{Place}
use Rattle.gq_number.specs.Number.{Number, whole, neg_ℚ}
use Rattle.gq_extended.specs.Extended.{Extended}
use Rattle.gms_ast.specs.Trees.{Mark, signed}
use Rattle.gms_ast.specs.Trees as tree
use Rattle.gms_store.specs.State.{State, Symbol}
use Rattle.gms_eval.specs.Nodes.{Marked, ValueStep, unmarked, sum_step, product_step, in_order, each_holds}
use Rattle.gms_eval.specs.Bindings.{Pairs, controlled}
use Rattle.gms_eval.specs.Faults.{Answer, ◌and_then◌}
use Rattle.gms_eval.specs.References.{tuple_of}
use Rattle.gms_eval.specs.Value.{values, domain, sets_of}
use Rattle.gms_rows.specs.Affine.{has_variables, some_has_variables, values_first, is_variable_content, is_plain, form_of, part_place, Join, joined_forms, chained, plus, times, element_form, form_of_constant, linear, forms, affine}
use Rattle.gms_rows.specs.Forms.{Form, zero_form, scaled_form}
use Rattle.gms_run_laws.specs.Agreeing.{AgreeOn}
use Rattle.gms_run_laws.specs.Names.{Each, names_in_tree, part_names, control_names}
use Rattle.gms_run_laws.proofs.Eaches.{each-left, each-right}
use Rattle.gms_run_laws.proofs.Values.{value-same, values-same, indices-same, domain-same}

module _ (test : ℕ → Bool) (one other : State) (agree : AgreeOn test one other) {F : Type 0} where
  mutual
    pub has-same : (e : tree.Tree F) → Each test (names_in_tree e) → has_variables other e ≡ has_variables one e
    has-same (tree.reference at name suffix indices) all =
        ap (λ (s : Symbol). is_plain suffix && is_variable_content s.content) (agree.own name all.0)
    has-same (tree.fold_over at op control body) all = has-same body (each-right test (control_names control) (names_in_tree body) all)
    has-same (tree.negated operand) all = has-same operand all
    has-same (tree.sum parts) all = some-same parts all
    has-same (tree.product parts) all = some-same parts all
    has-same (tree.guarded operand guards) all = has-same operand (each-left test (names_in_tree operand) (part_names guards) all)
    has-same (tree.number n) all = refl
    has-same tree.plus_infinity all = refl
    has-same tree.not_available all = refl
    has-same tree.yes all = refl
    has-same tree.no all = refl
    has-same (tree.place_in_set at set) all = refl
    has-same (tree.size_of_set at set) all = refl
    has-same (tree.call at function args) all = refl
    has-same (tree.power parts) all = refl
    has-same (tree.relation parts) all = refl
    has-same (tree.not_so operand) all = refl
    has-same (tree.all_of parts) all = refl
    has-same (tree.one_of parts) all = refl

    some-same : (parts : tree.Parts F) → Each test (part_names parts) → some_has_variables other parts ≡ some_has_variables one parts
    some-same tree.no_part all = refl
    some-same (tree.part mark part rest) all =
        ap (λ (h : Bool). h || some_has_variables other rest) (has-same part (each-left test (names_in_tree part) (part_names rest) all))
        ∙ ap (λ (h : Bool). has_variables one part || h) (some-same rest (each-right test (names_in_tree part) (part_names rest) all))

  prefix-same : (parts : tree.Parts F) → Each test (part_names parts) → values_first other parts ≡ values_first one parts
  prefix-same tree.no_part all = refl
  prefix-same (tree.part mark part rest) all =
      ap (λ (h : Bool). if h then 0 else values_first other rest + 1) (has-same part (each-left test (names_in_tree part) (part_names rest) all))
      ∙ ap (λ (n : ℕ). if has_variables one part then 0 else n + 1) (prefix-same rest (each-right test (names_in_tree part) (part_names rest) all))

  module _ (v : F → Number) (limit : ℕ) where
    constant-same : (e : tree.Tree F) → Each test (names_in_tree e) → (at : Place) (binding : Pairs) → form_of_constant v limit other at binding e ≡ form_of_constant v limit one at binding e
    constant-same e all at binding = ap (λ (x : Answer Extended). x and_then form_of at binding) (value-same test one other agree v limit e all binding)

    chained-same : (parts : tree.Parts F) → Each test (part_names parts) → (binding : Pairs) (step : ValueStep) (join : Join) → forms v limit other binding parts ≡ forms v limit one binding parts →
        chained binding step join (values_first other parts) (values v limit other binding parts) (forms v limit other binding parts) ≡ chained binding step join (values_first one parts) (values v limit one binding parts) (forms v limit one binding parts)
    chained-same parts all binding step join same =
        ap (λ (n : ℕ). chained binding step join n (values v limit other binding parts) (forms v limit other binding parts)) (prefix-same parts all)
        ∙ ap (λ (xs : Marked). chained binding step join (values_first one parts) xs (forms v limit other binding parts)) (values-same test one other agree v limit parts all binding)
        ∙ ap (chained binding step join (values_first one parts) (values v limit one binding parts)) same

    mutual
      linear-same : (e : tree.Tree F) → Each test (names_in_tree e) → (at : Place) (binding : Pairs) → linear v limit other at binding e ≡ linear v limit one at binding e
      linear-same (tree.reference place name suffix indices) all at binding =
          ap (λ (ls : List (Answer (Option ℕ))). in_order ls and_then λ those. Ok (element_form name (tuple_of those))) (indices-same test one other agree v limit indices all.1 binding)
      linear-same (tree.fold_over place op control body) all at binding =
          ap (λ (elements : Answer (List (List ℕ))). elements and_then λ elements. joined_forms (plus limit binding) (Some zero_form) (map (λ element. (signed place false, linear v limit other place (controlled binding (sets_of control) element) body)) elements)) (domain-same test one other agree v limit control (each-left test (control_names control) (names_in_tree body) all) binding place)
          ∙ ap (λ (f : List ℕ → Answer Form). domain v limit one binding place control and_then λ elements. joined_forms (plus limit binding) (Some zero_form) (map (λ element. (signed place false, f element)) elements)) (fun_ext (λ element. linear-same body (each-right test (control_names control) (names_in_tree body) all) place (controlled binding (sets_of control) element)))
      linear-same (tree.negated operand) all at binding =
          ap (λ (form : Answer Form). form and_then λ form. scaled_form limit at binding false form (neg_ℚ (whole (pos 1)))) (linear-same operand all at binding)
      linear-same (tree.sum parts) all at binding =
          chained-same parts all binding (sum_step limit binding) (plus limit binding) (forms-same parts all binding)
      linear-same (tree.product parts) all at binding =
          chained-same parts all binding (product_step limit binding) (times limit binding) (forms-same parts all binding)
      linear-same (tree.guarded operand guards) all at binding =
          ap (λ (xs : Marked). each_holds (unmarked xs) and_then λ hold. if hold then linear v limit other at binding operand else Ok zero_form) (values-same test one other agree v limit guards (each-right test (names_in_tree operand) (part_names guards) all) binding)
          ∙ ap (λ (x : Answer Form). each_holds (unmarked (values v limit one binding guards)) and_then λ hold. if hold then x else Ok zero_form) (linear-same operand (each-left test (names_in_tree operand) (part_names guards) all) at binding)
      linear-same (tree.number n) all at binding = constant-same (tree.number n) all at binding
      linear-same tree.plus_infinity all at binding = constant-same tree.plus_infinity all at binding
      linear-same tree.not_available all at binding = constant-same tree.not_available all at binding
      linear-same tree.yes all at binding = constant-same tree.yes all at binding
      linear-same tree.no all at binding = constant-same tree.no all at binding
      linear-same (tree.place_in_set place set) all at binding = constant-same (tree.place_in_set place set) all at binding
      linear-same (tree.size_of_set place set) all at binding = constant-same (tree.size_of_set place set) all at binding
      linear-same (tree.call place function args) all at binding = constant-same (tree.call place function args) all at binding
      linear-same (tree.power parts) all at binding = constant-same (tree.power parts) all at binding
      linear-same (tree.relation parts) all at binding = constant-same (tree.relation parts) all at binding
      linear-same (tree.not_so operand) all at binding = constant-same (tree.not_so operand) all at binding
      linear-same (tree.all_of parts) all at binding = constant-same (tree.all_of parts) all at binding
      linear-same (tree.one_of parts) all at binding = constant-same (tree.one_of parts) all at binding

      forms-same : (parts : tree.Parts F) → Each test (part_names parts) → (binding : Pairs) → forms v limit other binding parts ≡ forms v limit one binding parts
      forms-same tree.no_part all binding = refl
      forms-same (tree.part mark part rest) all binding =
          let here = each-left test (names_in_tree part) (part_names rest) all in
          ap (λ (h : Bool). (mark, (if h then linear v limit other (part_place mark) binding part else form_of_constant v limit other (part_place mark) binding part)) ∷ forms v limit other binding rest) (has-same part here)
          ∙ ap (λ (x : Answer Form). (mark, (if has_variables one part then x else form_of_constant v limit other (part_place mark) binding part)) ∷ forms v limit other binding rest) (linear-same part here (part_place mark) binding)
          ∙ ap (λ (x : Answer Form). (mark, (if has_variables one part then linear v limit one (part_place mark) binding part else x)) ∷ forms v limit other binding rest) (constant-same part here (part_place mark) binding)
          ∙ ap (λ (xs : List (Mark × Answer Form)). (mark, (if has_variables one part then linear v limit one (part_place mark) binding part else form_of_constant v limit one (part_place mark) binding part)) ∷ xs) (forms-same rest (each-right test (names_in_tree part) (part_names rest) all) binding)

    pub affine-same : (e : tree.Tree F) → Each test (names_in_tree e) → (at : Place) (binding : Pairs) → affine v limit other at binding e ≡ affine v limit one at binding e
    affine-same e all at binding =
        ap (λ (h : Bool). if h then linear v limit other at binding e else form_of_constant v limit other at binding e) (has-same e all)
        ∙ ap (λ (x : Answer Form). if has_variables one e then x else form_of_constant v limit other at binding e) (linear-same e all at binding)
        ∙ ap (λ (x : Answer Form). if has_variables one e then linear v limit one at binding e else x) (constant-same e all at binding)
