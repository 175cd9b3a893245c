-- In states that agree on the names in an assignment it gives the same elements the same.
use Rattle.std.proofs.Common.{◌≡◌, ℕ, Bool, true, false, not, List, [], ◌∷◌, map, Option, Some, None, is_none, Ok, refl, ap, ◌∙◌}
use Rattle.std.specs.Prelude.{if◌then◌else◌}
use Rattle.std.proofs.Math.Path.{fun_ext}
use Rattle.gms_labels.specs.declared.place.Place.{Place}
use Rattle.gq_number.specs.Number.{Number}
use Rattle.gq_extended.specs.Extended.{Extended}
use Rattle.gms_ast.specs.StatementTrees.{Target}
use Rattle.gms_ast.specs.Trees.{Mark}
use Rattle.gms_ast.specs.Trees as tree
use Rattle.gms_store.specs.State.{State, Symbol, symbol_of}
use Rattle.gms_eval.specs.Nodes.{Marked, unmarked, in_order, each_holds}
use Rattle.gms_eval.specs.Bindings.{Pairs, label_of, controlled}
use Rattle.gms_eval.specs.Faults.{Answer, ◌and_then◌}
use Rattle.gms_eval.specs.References.{tuple_of}
use Rattle.gms_eval.specs.Value.{value, values, labels, domain, control_over}
use Rattle.gms_rows.specs.Rows.{distinct_numbers, sets_among}
use Rattle.gms_exec.specs.Assignment.{newly_controlled, where_taken, given_under, element_under, given_elements, given_by}
use Rattle.gms_exec.specs.Given.{Given, member, AllGiven}
use Rattle.gms_exec.specs.Membership.{joined_membership, in_sum, in_product, membership, memberships}
use Rattle.gms_run_laws.specs.Agreeing.{AgreeOn}
use Rattle.gms_run_laws.specs.Names.{Each, names_in_tree, part_names, index_names, condition_names}
use Rattle.gms_run_laws.proofs.Eaches.{each-left, each-right}
use Rattle.gms_run_laws.proofs.ModelRows.{filter-each, sets-each}
use Rattle.gms_run_laws.proofs.Values.{value-same, values-same, holds-same, indices-same, where-same}
use Rattle.gms_store.specs.Declarations.{is_set}

module _ (test : ℕ → Bool) (one other : State) (agree : AgreeOn test one other) {F : Type 0} (v : F → Number) (limit : ℕ) where
  mutual
    membership-same : (e : tree.Tree F) → Each test (names_in_tree e) → (binding : Pairs) → membership v limit other binding e ≡ membership v limit one binding e
    membership-same tree.yes all binding = refl
    membership-same tree.no all binding = refl
    membership-same (tree.negated operand) all binding = membership-same operand all binding
    membership-same (tree.not_so operand) all binding = ap (λ (x : Answer Bool). x and_then λ x. Ok (not x)) (membership-same operand all binding)
    membership-same (tree.sum parts) all binding = ap (joined_membership in_sum false) (memberships-same parts all binding)
    membership-same (tree.product parts) all binding = ap (joined_membership in_product true) (memberships-same parts all binding)
    membership-same (tree.guarded operand guards) all binding =
        ap (λ (xs : Marked). each_holds (unmarked xs) and_then λ hold. if hold then membership v limit other binding operand else Ok false) (values-same test one other agree v limit guards (each-right test (names_in_tree operand) (part_names guards) all) binding)
        ∙ ap (λ (x : Answer Bool). each_holds (unmarked (values v limit one binding guards)) and_then λ hold. if hold then x else Ok false) (membership-same operand (each-left test (names_in_tree operand) (part_names guards) all) binding)
    membership-same (tree.number n) all binding = refl
    membership-same tree.plus_infinity all binding = refl
    membership-same tree.not_available all binding = refl
    membership-same (tree.reference at name suffix indices) all binding = holds-same test one other agree v limit (tree.reference at name suffix indices) all binding
    membership-same (tree.place_in_set at set) all binding = holds-same test one other agree v limit (tree.place_in_set at set) all binding
    membership-same (tree.size_of_set at set) all binding = holds-same test one other agree v limit (tree.size_of_set at set) all binding
    membership-same (tree.call at function args) all binding = holds-same test one other agree v limit (tree.call at function args) all binding
    membership-same (tree.fold_over at op control body) all binding = holds-same test one other agree v limit (tree.fold_over at op control body) all binding
    membership-same (tree.power parts) all binding = holds-same test one other agree v limit (tree.power parts) all binding
    membership-same (tree.relation parts) all binding = holds-same test one other agree v limit (tree.relation parts) all binding
    membership-same (tree.all_of parts) all binding = holds-same test one other agree v limit (tree.all_of parts) all binding
    membership-same (tree.one_of parts) all binding = holds-same test one other agree v limit (tree.one_of parts) all binding

    memberships-same : (parts : tree.Parts F) → Each test (part_names parts) → (binding : Pairs) → memberships v limit other binding parts ≡ memberships v limit one binding parts
    memberships-same tree.no_part all binding = refl
    memberships-same (tree.part mark part rest) all binding =
        ap (λ (x : Answer Bool). (mark, x) ∷ memberships v limit other binding rest) (membership-same part (each-left test (names_in_tree part) (part_names rest) all) binding)
        ∙ ap (λ (xs : List (Mark × Answer Bool)). (mark, membership v limit one binding part) ∷ xs) (memberships-same rest (each-right test (names_in_tree part) (part_names rest) all) binding)

  module _ (target : Target F) (right_at : Place) (right : tree.Tree F) (is : test target.name ≡ true) (indices : Each test (index_names target.indices)) (rights : Each test (names_in_tree right)) where
    abbrev chosen : Symbol → Pairs → Answer Bool → Answer Extended → Answer Given
    chosen symbol binding so x =
        if is_set symbol.content then so and_then (λ x. Ok (member x)) else x and_then where_taken target.suffix right_at binding

    under-same : (binding : Pairs) → given_under v limit other target right_at right binding ≡ given_under v limit one target right_at right binding
    under-same binding =
        ap (λ (s : Symbol). chosen s binding (membership v limit other binding right) (value v limit other binding right)) (agree.occurs target.name is)
        ∙ ap (λ (so : Answer Bool). chosen (symbol_of one target.name) binding so (value v limit other binding right)) (membership-same right rights binding)
        ∙ ap (chosen (symbol_of one target.name) binding (membership v limit one binding right)) (value-same test one other agree v limit right rights binding)

    abbrev at_labels : Answer (List (Option ℕ)) → Answer Given → Answer (Option (List ℕ × Given))
    at_labels those given =
        those and_then λ those. elim (tuple_of those) [ None ↦ Ok None | Some t ↦ given and_then λ given. Ok (Some (t, given)) ]

    element-same : (binding : Pairs) → element_under v limit other target right_at right binding ≡ element_under v limit one target right_at right binding
    element-same binding =
        ap (λ (ls : List (Answer (Option ℕ))). at_labels (in_order ls) (given_under v limit other target right_at right binding)) (indices-same test one other agree v limit target.indices indices binding)
        ∙ ap (at_labels (in_order (labels v limit one binding target.indices))) (under-same binding)

    abbrev over_all : (List (Option (List ℕ × Given)) → AllGiven) → Answer (List (List ℕ)) → (List ℕ → Answer (Option (List ℕ × Given))) → Answer AllGiven
    over_all there elements element = elements and_then λ elements. in_order (map element elements) and_then λ given. Ok (there given)

    there-same : (given : List (Option (List ℕ × Given))) → given_elements v limit other given ≡ given_elements v limit one given
    there-same [] = refl
    there-same (None ∷ rest) = there-same rest
    there-same (Some one ∷ rest) = ap (λ (given : AllGiven). one ∷ given) (there-same rest)

    pub given-same : (at : Place) (binding : Pairs) (condition : Option (tree.Tree F)) → Each test (condition_names condition) → given_by v limit other at binding target condition right_at right ≡ given_by v limit one at binding target condition right_at right
    given-same at binding condition holds =
        let sets = newly_controlled binding target.indices in
        ap (λ (elements : Answer (List (List ℕ))). over_all (given_elements v limit other) elements (λ element. element_under v limit other target right_at right (controlled binding sets element))) (where-same test one other agree v limit sets condition (filter-each test (λ set. is_none (label_of binding set)) (distinct_numbers (sets_among target.indices)) (sets-each test target.indices indices)) holds binding at)
        ∙ ap (over_all (given_elements v limit other) (domain v limit one binding at (control_over sets condition))) (fun_ext (λ element. element-same (controlled binding sets element)))
        ∙ ap (λ there. over_all there (domain v limit one binding at (control_over sets condition)) (λ element. element_under v limit one target right_at right (controlled binding sets element))) (fun_ext there-same)
