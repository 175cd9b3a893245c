-- In states that agree on the names in an expression it has the same value.
use Rattle.std.proofs.Common.{◌≡◌, ℕ, ◌+◌, nat_le, Bool, true, not, List, [], ◌∷◌, map, length, Option, Some, None, option_map, unwrap_or, Ok, refl, ap, ◌∙◌}
use Rattle.std.specs.Prelude.{option_and_then, ok_or, if◌then◌else◌}
use Rattle.std.proofs.Math.Path.{fun_ext}
use Rattle.gms_labels.specs.declared.place.Place.{Place}
use Rattle.gq_number.specs.Number.{Number}
use Rattle.gq_extended.specs.Extended.{Extended, number, negated}
use Rattle.gms_ast.specs.declared.expression.LagOp.{LagOp}
use Rattle.gms_ast.specs.declared.expression.Suffix.{Suffix}
use Rattle.gms_ast.specs.declared.expression.Suffix.TheVariants as suffix
use Rattle.gms_ast.specs.Trees as tree
use Rattle.gms_tuple.specs.Products.{tuple_product}
use Rattle.gms_tuple.specs.TupleSet.{place_of_tuple}
use Rattle.gms_store.specs.State.{State, Symbol, Attributes, Content, undeclared, alias_of, set_of, parameter_of, variable_of, equation_of, model_with, symbol_of, members_in, members_of, value_in, attributes_in, attributes_of, statuses_in}
use Rattle.gms_eval.specs.Bindings.{Pairs, label_of, controlled}
use Rattle.gms_eval.specs.Domain.{labels_of, elements, sized, those_where}
use Rattle.gms_eval.specs.Faults.{Answer, nothing, faulted, ◌and_then◌}
use Rattle.gms_eval.specs.Holds.{holds}
use Rattle.gms_eval.specs.Lag.{label_of_element, lagged_label, whole_number}
use Rattle.gms_eval.specs.Nodes.{Marked, unmarked, is_so, truth, chain, sum_step, product_step, power_step, relation_step, all_step, one_step, called, count_value, folded, in_order, each_holds}
use Rattle.gms_eval.specs.References.{reached_label, tuple_of, place_in_set, plain_value, lower_value, upper_value, read_entry, entry_or_zero}
use Rattle.gms_eval.specs.Value.{value, values, labels, domain, sets_of, control_over, when_so}
use Rattle.gms_eval.specs.declared.stop.StopKind.TheVariants.{LagNotWhole}
use Rattle.gms_run_laws.specs.Agreeing.{AgreeOn}
use Rattle.gms_run_laws.specs.Names.{Each, names_in_tree, part_names, index_names, control_names, condition_names}
use Rattle.gms_run_laws.proofs.Eaches.{each-left, each-right, each-both}

module _ (test : ℕ → Bool) (one other : State) (agree : AgreeOn test one other) where
  -- ---- what is read of a name

  pub members-same : (n : ℕ) → test n ≡ true → members_of other n ≡ members_of one n
  members-same n is = ap (λ (s : Symbol). members_in s.content) (agree.occurs n is)

  pub attributes-same : (n : ℕ) → test n ≡ true → (t : List ℕ) → attributes_of other n t ≡ attributes_of one n t
  attributes-same n is t = ap (λ (s : Symbol). attributes_in s.content t) (agree.occurs n is)

  labels-same : (sets : List ℕ) → Each test sets → map (labels_of other) sets ≡ map (labels_of one) sets
  labels-same [] all = refl
  labels-same (set ∷ sets) all =
      ap (λ (ls : List ℕ). ls ∷ map (labels_of other) sets) (ap (map label_of_element) (members-same set all.0))
      ∙ ap (λ (lss : List (List ℕ)). labels_of one set ∷ lss) (labels-same sets all.1)

  pub elements-same : (sets : List ℕ) → Each test sets → elements other sets ≡ elements one sets
  elements-same sets all =
      ap (λ (lss : List (List ℕ)). if nat_le (length sets) 10 then tuple_product lss else []) (labels-same sets all)

  module _ (n : ℕ) (is : test n ≡ true) where
    value-there : (t : List ℕ) → value_in (symbol_of other n).content t ≡ value_in (symbol_of one n).content t
    value-there t = ap (λ (s : Symbol). value_in s.content t) (agree.occurs n is)

    plain-content : (content : Content) (t : List ℕ) → plain_value other n content t ≡ plain_value one n content t
    plain-content undeclared t = value-there t
    plain-content (alias_of base) t = value-there t
    plain-content (set_of members) t = refl
    plain-content (parameter_of entries) t = value-there t
    plain-content (variable_of type entries) t = value-there t
    plain-content (equation_of entries) t = value-there t
    plain-content (model_with model solver) t = value-there t

    plain-same : (t : List ℕ) → plain_value other n (symbol_of other n).content t ≡ plain_value one n (symbol_of one n).content t
    plain-same t =
        plain-content (symbol_of other n).content t ∙ ap (λ (s : Symbol). plain_value one n s.content t) (agree.occurs n is)

    module _ (limit : ℕ) (binding : Pairs) (at : Place) where
      entry-at : (suffix : Suffix) (t : List ℕ) → read_entry limit other binding at n suffix t ≡ read_entry limit one binding at n suffix t
      entry-at suffix.None t = ap {B = Answer Extended} Ok (plain-same t)
      entry-at suffix.Lo t = ap {B = Answer Extended} (λ (a : Attributes). Ok (lower_value a.lower)) (attributes-same n is t)
      entry-at suffix.Up t = ap {B = Answer Extended} (λ (a : Attributes). Ok (upper_value a.upper)) (attributes-same n is t)
      entry-at suffix.L t = ap {B = Answer Extended} (λ (a : Attributes). Ok (number a.level)) (attributes-same n is t)
      entry-at suffix.M t = ap {B = Answer Extended} (λ (a : Attributes). Ok (number a.marginal)) (attributes-same n is t)
      entry-at suffix.Fx t = refl
      entry-at suffix.ModelStat t = ap (λ (s : Symbol). count_value limit binding at (statuses_in s.content).0) (agree.occurs n is)
      entry-at suffix.SolveStat t = ap (λ (s : Symbol). count_value limit binding at (statuses_in s.content).1) (agree.occurs n is)

      entry-same : (suffix : Suffix) (t : Option (List ℕ)) → entry_or_zero limit other binding at n suffix t ≡ entry_or_zero limit one binding at n suffix t
      entry-same suffix None = refl
      entry-same suffix (Some t) = entry-at suffix t

    place-same : (binding : Pairs) → place_in_set other binding n ≡ place_in_set one binding n
    place-same binding =
        ap (λ (members : List (List ℕ)). unwrap_or (option_map (λ place. place + 1) (option_and_then (λ label. place_of_tuple members (label ∷ [])) (label_of binding n))) 0) (members-same n is)

    reached-same : (binding : Pairs) (op : LagOp) (at : Place) (amount : Extended) → reached_label other binding n op at amount ≡ reached_label one binding n op at amount
    reached-same binding op at amount =
        ap (λ (members : List (List ℕ)). ok_or (whole_number amount) (faulted LagNotWhole at binding amount nothing) and_then λ places. Ok (option_and_then (λ label. lagged_label members op places label) (label_of binding n))) (members-same n is)

  -- ---- expressions

  module _ {F : Type 0} (v : F → Number) (limit : ℕ) where
    mutual
      pub value-same : (e : tree.Tree F) → Each test (names_in_tree e) → (binding : Pairs) → value v limit other binding e ≡ value v limit one binding e
      value-same (tree.number n) all binding = refl
      value-same tree.plus_infinity all binding = refl
      value-same tree.not_available all binding = refl
      value-same tree.yes all binding = refl
      value-same tree.no all binding = refl
      value-same (tree.reference at name suffix indices) all binding =
          ap (λ (ls : List (Answer (Option ℕ))). in_order ls and_then λ those. entry_or_zero limit other binding at name suffix (tuple_of those)) (indices-same indices all.1 binding)
          ∙ ap (λ (f : Option (List ℕ) → Answer Extended). in_order (labels v limit one binding indices) and_then λ those. f (tuple_of those)) (fun_ext (λ t. entry-same name all.0 limit binding at suffix t))
      value-same (tree.place_in_set at set) all binding = ap (count_value limit binding at) (place-same set all.0 binding)
      value-same (tree.size_of_set at set) all binding =
          ap (λ (members : List (List ℕ)). count_value limit binding at (length members)) (members-same set all.0)
      value-same (tree.call at function args) all binding =
          ap (λ (xs : Marked). in_order (unmarked xs) and_then λ xs. called limit binding at function xs) (values-same args all binding)
      value-same (tree.fold_over at op control body) all binding =
          ap (λ (those : Answer (List (List ℕ))). those and_then λ those. folded limit binding op at (map (λ element. (tree.plain, value v limit other (controlled binding (sets_of control) element) body)) those)) (domain-same control (each-left test (control_names control) (names_in_tree body) all) binding at)
          ∙ ap (λ (f : List ℕ → Answer Extended). domain v limit one binding at control and_then λ those. folded limit binding op at (map (λ element. (tree.plain, f element)) those)) (fun_ext (λ element. value-same body (each-right test (control_names control) (names_in_tree body) all) (controlled binding (sets_of control) element)))
      value-same (tree.negated operand) all binding = ap (λ (x : Answer Extended). x and_then λ x. Ok (negated x)) (value-same operand all binding)
      value-same (tree.sum parts) all binding = ap (chain (sum_step limit binding)) (values-same parts all binding)
      value-same (tree.product parts) all binding = ap (chain (product_step limit binding)) (values-same parts all binding)
      value-same (tree.power parts) all binding = ap (chain (power_step limit binding)) (values-same parts all binding)
      value-same (tree.relation parts) all binding = ap (chain relation_step) (values-same parts all binding)
      value-same (tree.not_so operand) all binding = ap (λ (x : Answer Extended). x and_then λ x. Ok (truth (not (is_so x)))) (value-same operand all binding)
      value-same (tree.all_of parts) all binding = ap (chain all_step) (values-same parts all binding)
      value-same (tree.one_of parts) all binding = ap (chain one_step) (values-same parts all binding)
      value-same (tree.guarded operand guards) all binding =
          ap (λ (xs : Marked). each_holds (unmarked xs) and_then λ hold. if hold then value v limit other binding operand else Ok nothing) (values-same guards (each-right test (names_in_tree operand) (part_names guards) all) binding)
          ∙ ap (λ (x : Answer Extended). each_holds (unmarked (values v limit one binding guards)) and_then λ hold. if hold then x else Ok nothing) (value-same operand (each-left test (names_in_tree operand) (part_names guards) all) binding)

      pub values-same : (parts : tree.Parts F) → Each test (part_names parts) → (binding : Pairs) → values v limit other binding parts ≡ values v limit one binding parts
      values-same tree.no_part all binding = refl
      values-same (tree.part mark part rest) all binding =
          ap (λ (x : Answer Extended). (mark, x) ∷ values v limit other binding rest) (value-same part (each-left test (names_in_tree part) (part_names rest) all) binding)
          ∙ ap (λ (xs : Marked). (mark, value v limit one binding part) ∷ xs) (values-same rest (each-right test (names_in_tree part) (part_names rest) all) binding)

      pub indices-same : (indices : tree.Indices F) → Each test (index_names indices) → (binding : Pairs) → labels v limit other binding indices ≡ labels v limit one binding indices
      indices-same tree.no_index all binding = refl
      indices-same (tree.label label rest) all binding =
          ap (λ (ls : List (Answer (Option ℕ))). Ok (Some label) ∷ ls) (indices-same rest all binding)
      indices-same (tree.set set rest) all binding =
          ap (λ (ls : List (Answer (Option ℕ))). Ok (label_of binding set) ∷ ls) (indices-same rest all.1 binding)
      indices-same (tree.lagged set op at amount rest) all binding =
          ap (λ (x : Answer Extended). (x and_then λ x. reached_label other binding set op at x) ∷ labels v limit other binding rest) (value-same amount (each-left test (names_in_tree amount) (index_names rest) all.1) binding)
          ∙ ap (λ (f : Extended → Answer (Option ℕ)). (value v limit one binding amount and_then f) ∷ labels v limit other binding rest) (fun_ext (λ x. reached-same set all.0 binding op at x))
          ∙ ap (λ (ls : List (Answer (Option ℕ))). (value v limit one binding amount and_then λ x. reached_label one binding set op at x) ∷ ls) (indices-same rest (each-right test (names_in_tree amount) (index_names rest) all.1) binding)

      pub domain-same : (control : tree.Control F) → Each test (control_names control) → (binding : Pairs) (at : Place) → domain v limit other binding at control ≡ domain v limit one binding at control
      domain-same (tree.over sets) all binding at = ap (sized at binding) (elements-same sets all)
      domain-same (tree.over_where sets condition) all binding at =
          ap (λ (those : List (List ℕ)). sized at binding those and_then λ all. those_where (λ element. when_so (value v limit other (controlled binding sets element) condition)) all) (elements-same sets (each-left test sets (names_in_tree condition) all))
          ∙ ap (λ (f : List ℕ → Answer Extended). sized at binding (elements one sets) and_then λ all. those_where (λ element. when_so (f element)) all) (fun_ext (λ element. value-same condition (each-right test sets (names_in_tree condition) all) (controlled binding sets element)))

    pub holds-same : (e : tree.Tree F) → Each test (names_in_tree e) → (binding : Pairs) → holds v limit other binding e ≡ holds v limit one binding e
    holds-same e all binding = ap when_so (value-same e all binding)

    -- the domain of sets with a condition, if there is one
    pub where-same : (sets : List ℕ) (condition : Option (tree.Tree F)) → Each test sets → Each test (condition_names condition) → (binding : Pairs) (at : Place) → domain v limit other binding at (control_over sets condition) ≡ domain v limit one binding at (control_over sets condition)
    where-same sets None all holds binding at = domain-same (tree.over sets) all binding at
    where-same sets (Some condition) all holds binding at =
        domain-same (tree.over_where sets condition) (each-both test sets (names_in_tree condition) all holds) binding at
