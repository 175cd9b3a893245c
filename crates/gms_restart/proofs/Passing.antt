-- Under bindings that fit, the elements of references are in their domains, in expressions,
-- definitions and assignments without an error.
use Rattle.std.proofs.lemmas.Bool.{and_from}
use Rattle.std.proofs.Common.{◌≡◌, ℕ, nat_lt, nat_le, Bool, true, false, List, [], ◌∷◌, ◌++◌, map, length, get_or, Option, Some, None, is_none, Ok, Err, refl, sym, ap, ◌∙◌, subst}
use Rattle.std.specs.List.{All}
use Rattle.std.proofs.lemmas.List.Elements.{All-cons, All-head, All-tail, All-filter}
use Rattle.gms_labels.specs.declared.place.Place.{Place}
use Rattle.gq_number.specs.Number.{Number}
use Rattle.gms_ast.specs.StatementTrees.{Target}
use Rattle.gms_ast.specs.Trees as tree
use Rattle.gms_tuple.specs.TupleSet.{has}
use Rattle.gms_store.specs.State.{State, symbol_at, symbol_of, base_of}
use Rattle.gms_scope.specs.Names.{is_index_set, has_no_declaration, positions}
use Rattle.gms_check.specs.declared.contexts.Context.{Context as Standings}
use Rattle.gms_check.specs.Above.{directly_above}
use Rattle.gms_check.specs.Checked.{AreIndices}
use Rattle.gms_check.specs.IndexList.{have_unfit_set}
use Rattle.gms_check.specs.Past.{Known}
use Rattle.gms_check.specs.Contexts.{as_condition, as_part, as_inner, as_guarded}
use Rattle.gms_check.specs.Uses.{reading, controlling, place_by_mark, index_sets, uses, part_uses, control_uses, steps}
use Rattle.gms_check.specs.Uses as checking
use Rattle.gms_check.proofs.NoErrors.{AreClean, clean-left, clean-right}
use Rattle.gms_check.proofs.Soundness.{sound-use}
use Rattle.gms_eval.specs.Bindings.{Pairs, label_of, controlled}
use Rattle.gms_eval.specs.Domain.{elements, IsSimple}
use Rattle.gms_eval.specs.Faults.{Answer, ◌and_then◌}
use Rattle.gms_eval.specs.Nodes.{in_order}
use Rattle.gms_eval.specs.References.{tuple_of}
use Rattle.gms_eval.specs.Value.{labels, domain, sets_of, control_over}
use Rattle.lp_form.specs.declared.key.Key.{Key}
use Rattle.gms_rows.specs.Rows.{Definition}
use Rattle.gms_rows.specs.Rows as rows
use Rattle.gms_rows.proofs.Domains.{All-distinct_numbers}
use Rattle.gms_exec.specs.Assignment as assigning
use Rattle.gms_exec.specs.Given.{Given}
use Rattle.gms_run_laws.specs.Names.{Each}
use Rattle.gms_run_laws.proofs.Eaches.{each-left, each-right}
use Rattle.gms_run_laws.proofs.FormKeys.{OkHas, EachHas, then-has, after-has, in_order-has, IsElement, Passes, EachPasses}
use Rattle.gms_run_laws.proofs.ModelRows.{RowPasses, DefinitionPasses}
use Rattle.gms_run_laws.proofs.ElementLabels.{element-members}
use Rattle.gms_run_laws.specs.LastStates.{AreFixed}
use Rattle.gms_save_text.specs.Validity.{fits_domain}
use Rattle.gms_restart.specs.Labels.{tree_labels, part_labels, index_labels, control_labels}
use Rattle.gms_restart.proofs.Fitting.{Ground, Context, Fits, controlled-fits, domain-has, tuple-few, tuple-occurs}
use Rattle.gms_restart.proofs.Homes.{occurs_few}

pub ok-weaker : {A : Type 0} (P Q : A → Type 0) (a : Answer A) → OkHas P a → ((x : A) → P x → Q x) → OkHas Q a
ok-weaker P Q (Ok x) has each = each x has
ok-weaker P Q (Err fault) has each = tt

pub each-weaker : {A : Type 0} (P Q : A → Type 0) → ((x : A) → P x → Q x) → (xs : List A) → EachHas P xs → EachHas Q xs
each-weaker P Q each [] all = tt
each-weaker P Q each (x ∷ xs) all = (each x all.0, each-weaker P Q each xs all.1)

-- a key whose tuple is in the domain of its name
abbrev pub occurs_key : ℕ → State → Key → Bool
occurs_key count first key = occurs_few count first (symbol_of first key.symbol).domain key.tuple

module _ (count : ℕ) (first : State) (assigned : ℕ → Bool) {F : Type 0} (known : Known F) (above_is : known.above ≡ directly_above known.state known.declared) (ground : Ground count first assigned known.state) where
  abbrev ok : Key → Bool
  ok = occurs_key count first

  -- labels of the program
  abbrev pub Below : List ℕ → Type 0
  Below = Each (λ l. nat_lt l count)

  pub positions-same : (name : ℕ) → has_no_declaration known.state name ≡ false → positions known.state name ≡ (symbol_of first name).domain
  positions-same name there =
      sym (ap (λ n. (symbol_at first n).domain) ((ground.later name there).alike name) ∙ (ground.later (base_of known.state name) (ground.based name there)).domain)

  module _ (v : F → Number) (limit : ℕ) (state : State) (context : Context count first assigned state) where
    -- ---- references

    pub indices-pass : (name : ℕ) (indices : tree.Indices F) (binding : Pairs) → Fits count first assigned binding → has_no_declaration known.state name ≡ false → AreIndices known name indices → Below (index_labels indices) → OkHas (λ those. IsElement ok name (tuple_of those)) (in_order (labels v limit state binding indices))
    indices-pass name indices binding fits there are own = by (in_order (labels v limit state binding indices)) refl
      where
        same : positions known.state name ≡ (symbol_of first name).domain
        same = positions-same name there

        tuple : (those : List (Option ℕ)) → in_order (labels v limit state binding indices) ≡ Ok those → (o : Option (List ℕ)) → tuple_of those ≡ o → IsElement ok name o
        tuple those e None is = tt
        tuple those e (Some t) is =
            subst (λ (ds : List (Option ℕ)). occurs_few count first ds t ≡ true) same
            (and_from (fits_domain count first (positions known.state name) t) (nat_le (length t) 10)
            (tuple-occurs count first assigned known.state ground known.declared v limit state context binding fits name (positions known.state name) indices those t (subst (λ (ds : List (Option ℕ)). AreFixed assigned first ds) (sym same) (ground.fixed (base_of first name))) are.count are.sets
            (sym (ap (λ (above : ℕ → Option ℕ). have_unfit_set known.state known.declared above name (positions known.state name) indices) above_is) ∙ are.below) are.labels own e is)
            (tuple-few those t is))

        by : (a : Answer (List (Option ℕ))) → in_order (labels v limit state binding indices) ≡ a → OkHas (λ those. IsElement ok name (tuple_of those)) a
        by (Ok those) e = tuple those e (tuple_of those) refl
        by (Err fault) e = tt

    -- ---- elements of controls

    simple-all : (sets : List ℕ) → All (λ name. is_index_set known.state name ≡ true) sets → All (IsSimple state) sets
    simple-all sets all = λ k d below. ground.simple state context.stays (get_or sets k d) (all k d below)

    pub control-simple : (control : tree.Control F) (at : Place) (around : List ℕ) → AreClean known (control_uses at around control) → All (IsSimple state) (sets_of control)
    control-simple (tree.over sets) at around clean = simple-all sets (sound-use known (controlling around sets) clean.0).0
    control-simple (tree.over_where sets condition) at around clean = simple-all sets (sound-use known (controlling around sets) clean.0).0

    -- the binding with the labels of an element
    pub element-fits : (binding : Pairs) (sets element : List ℕ) → Fits count first assigned binding → All (IsSimple state) sets → has (elements state sets) element ≡ true → Fits count first assigned (controlled binding sets element)
    element-fits binding sets element fits simple there =
        controlled-fits count first assigned state context binding sets element fits (element-members state sets element simple there)

    -- what holds of each such binding holds of those of a domain
    pub over-domain : (P : List ℕ → Type 0) (binding : Pairs) (at : Place) (control : tree.Control F) → ((element : List ℕ) → has (elements state (sets_of control)) element ≡ true → P element) → OkHas (EachHas P) (domain v limit state binding at control)
    over-domain P binding at control each =
        ok-weaker (EachHas (λ element. has (elements state (sets_of control)) element ≡ true)) (EachHas P) (domain v limit state binding at control) (domain-has count first assigned state context v limit binding at control)
        (λ those all. each-weaker (λ element. has (elements state (sets_of control)) element ≡ true) P each those all)

    pub over-sets : (P : List ℕ → Type 0) (binding : Pairs) (at : Place) (sets : List ℕ) (condition : Option (tree.Tree F)) → ((element : List ℕ) → has (elements state sets) element ≡ true → P element) → OkHas (EachHas P) (domain v limit state binding at (control_over sets condition))
    over-sets P binding at sets None each = over-domain P binding at (tree.over sets) each
    over-sets P binding at sets (Some condition) each = over-domain P binding at (tree.over_where sets condition) each

    -- ---- expressions

    mutual
      pub tree-passes : (e : tree.Tree F) (standings : Standings) (at : Place) (around : List ℕ) (binding : Pairs) → AreClean known (uses standings at around e) → Below (tree_labels e) → Fits count first assigned binding → Passes ok v limit state binding e
      tree-passes (tree.reference place name suffix indices) standings at around binding clean own fits =
          let read = sound-use known (reading standings around name suffix indices) clean.0 in indices-pass name indices binding fits read.declared read.fitting own
      tree-passes (tree.fold_over place op control body) standings at around binding clean own fits =
          over-domain (λ element. Passes ok v limit state (controlled binding (sets_of control) element) body) binding place control (λ element there.
          tree-passes body (as_inner standings) place (around ++ checking.sets_of_control control) (controlled binding (sets_of control) element) (clean-right known (control_uses place around control) (uses (as_inner standings) place (around ++ checking.sets_of_control control) body) clean.1) (each-right (λ l. nat_lt l count) (control_labels control) (tree_labels body) own)
          (element-fits binding (sets_of control) element fits (control-simple control place around (clean-left known (control_uses place around control) (uses (as_inner standings) place (around ++ checking.sets_of_control control) body) clean.1)) there))
      tree-passes (tree.negated operand) standings at around binding clean own fits = tree-passes operand (as_part standings) at around binding clean own fits
      tree-passes (tree.sum parts) standings at around binding clean own fits = parts-pass parts (as_part standings) at around binding clean own fits
      tree-passes (tree.product parts) standings at around binding clean own fits =
          parts-pass parts (as_part standings) at around binding (clean-left known (part_uses (as_part standings) at around parts) (steps standings at parts) clean) own fits
      tree-passes (tree.guarded operand guards) standings at around binding clean own fits =
          tree-passes operand (as_guarded standings) at around binding (clean-left known (uses (as_guarded standings) at around operand) (part_uses as_condition at around guards) clean) (each-left (λ l. nat_lt l count) (tree_labels operand) (part_labels guards) own) fits
      tree-passes (tree.number n) standings at around binding clean own fits = tt
      tree-passes tree.plus_infinity standings at around binding clean own fits = tt
      tree-passes tree.not_available standings at around binding clean own fits = tt
      tree-passes tree.yes standings at around binding clean own fits = tt
      tree-passes tree.no standings at around binding clean own fits = tt
      tree-passes (tree.place_in_set place set) standings at around binding clean own fits = tt
      tree-passes (tree.size_of_set place set) standings at around binding clean own fits = tt
      tree-passes (tree.call place function args) standings at around binding clean own fits = tt
      tree-passes (tree.power parts) standings at around binding clean own fits = tt
      tree-passes (tree.relation parts) standings at around binding clean own fits = tt
      tree-passes (tree.not_so operand) standings at around binding clean own fits = tt
      tree-passes (tree.all_of parts) standings at around binding clean own fits = tt
      tree-passes (tree.one_of parts) standings at around binding clean own fits = tt

      parts-pass : (parts : tree.Parts F) (standings : Standings) (at : Place) (around : List ℕ) (binding : Pairs) → AreClean known (part_uses standings at around parts) → Below (part_labels parts) → Fits count first assigned binding → EachPasses ok v limit state binding parts
      parts-pass tree.no_part standings at around binding clean own fits = tt
      parts-pass (tree.part mark part rest) standings at around binding clean own fits = (
        tree-passes part standings (place_by_mark mark at) around binding (clean-left known (uses standings (place_by_mark mark at) around part) (part_uses standings at around rest) clean) (each-left (λ l. nat_lt l count) (tree_labels part) (part_labels rest) own) fits,
        parts-pass rest standings at around binding (clean-right known (uses standings (place_by_mark mark at) around part) (part_uses standings at around rest) clean) (each-right (λ l. nat_lt l count) (tree_labels part) (part_labels rest) own) fits,
      )

    -- ---- definitions

    row-sets : (P : ℕ → Type 0) (indices : tree.Indices F) → All P (index_sets indices) → All P (rows.sets_among indices)
    row-sets P tree.no_index all = all
    row-sets P (tree.label n rest) all = row-sets P rest all
    row-sets P (tree.set set rest) all = All-cons P set (rows.sets_among rest) (All-head P set (index_sets rest) all) (row-sets P rest (All-tail P set (index_sets rest) all))
    row-sets P (tree.lagged set op at amount rest) all =
        All-cons P set (rows.sets_among rest) (All-head P set (index_sets rest) all) (row-sets P rest (All-tail P set (index_sets rest) all))

    nothing-fits : Fits count first assigned []
    nothing-fits set label e = absurd (cc)

    -- a definition without an error
    pub definition-passes : (d : Definition F) → has_no_declaration known.state d.equation ≡ false → AreIndices known d.equation d.indices → Below (index_labels d.indices) →
        ((binding : Pairs) → Fits count first assigned binding → Passes ok v limit state binding d.left) → ((binding : Pairs) → Fits count first assigned binding → Passes ok v limit state binding d.right) → DefinitionPasses ok v limit state d
    definition-passes d there are own left right =
        let sets = rows.distinct_numbers (rows.sets_among d.indices) in
        over-sets (λ element. RowPasses ok v limit state d (controlled [] sets element)) [] d.at sets d.condition (λ element among.
        let fits = element-fits [] sets element nothing-fits (simple-all sets (All-distinct_numbers (λ name. is_index_set known.state name ≡ true) (rows.sets_among d.indices) (row-sets (λ name. is_index_set known.state name ≡ true) d.indices are.sets))) among in
        (indices-pass d.equation d.indices (controlled [] sets element) fits there are own, (left (controlled [] sets element) fits, right (controlled [] sets element) fits)))

    -- ---- assignments

    -- what is given is in the domain of its name
    abbrev pub GivenOccurs : ℕ → List ℕ × Given → Type 0
    GivenOccurs name given = ok (record { symbol = name; tuple = given.0 }) ≡ true

    abbrev MayOccurGiven : ℕ → Option (List ℕ × Given) → Type 0
    MayOccurGiven name None = Unit {0}
    MayOccurGiven name (Some given) = GivenOccurs name given

    there-occur : (name : ℕ) (given : List (Option (List ℕ × Given))) → EachHas (MayOccurGiven name) given → EachHas (GivenOccurs name) (assigning.given_elements v limit state given)
    there-occur name [] all = tt
    there-occur name (None ∷ given) all = there-occur name given all.1
    there-occur name (Some one ∷ given) all = (all.0, there-occur name given all.1)

    element-occurs : (target : Target F) (right_at : Place) (right : tree.Tree F) (binding : Pairs) → OkHas (λ those. IsElement ok target.name (tuple_of those)) (in_order (labels v limit state binding target.indices)) → OkHas (MayOccurGiven target.name) (assigning.element_under v limit state target right_at right binding)
    element-occurs target right_at right binding passes =
        then-has (λ those. IsElement ok target.name (tuple_of those)) (MayOccurGiven target.name) (in_order (labels v limit state binding target.indices)) (λ those. elim (tuple_of those) [ None ↦ Ok None | Some t ↦ assigning.given_under v limit state target right_at right binding and_then λ given. Ok (Some (t, given)) ]) passes (λ those is. by (tuple_of those) is)
      where
        by : (o : Option (List ℕ)) → IsElement ok target.name o → OkHas (MayOccurGiven target.name) (elim o [ None ↦ Ok None | Some t ↦ assigning.given_under v limit state target right_at right binding and_then λ given. Ok (Some (t, given)) ])
        by None is = tt
        by (Some t) is = after-has (MayOccurGiven target.name) (assigning.given_under v limit state target right_at right binding) (λ given. Ok (Some (t, given))) (λ given. is)

    each-element : (target : Target F) (right_at : Place) (right : tree.Tree F) (sets : List ℕ) (binding : Pairs) (those : List (List ℕ)) → EachHas (λ element. OkHas (λ those. IsElement ok target.name (tuple_of those)) (in_order (labels v limit state (controlled binding sets element) target.indices))) those →
        EachHas (OkHas (MayOccurGiven target.name)) (map (λ element. assigning.element_under v limit state target right_at right (controlled binding sets element)) those)
    each-element target right_at right sets binding [] all = tt
    each-element target right_at right sets binding (element ∷ those) all =
        (element-occurs target right_at right (controlled binding sets element) all.0, each-element target right_at right sets binding those all.1)

    pub given-occur : (target : Target F) (at : Place) (binding : Pairs) (condition : Option (tree.Tree F)) (right_at : Place) (right : tree.Tree F) → Fits count first assigned binding → has_no_declaration known.state target.name ≡ false → AreIndices known target.name target.indices → Below (index_labels target.indices) → OkHas (EachHas (GivenOccurs target.name)) (assigning.given_by v limit state at binding target condition right_at right)
    given-occur target at binding condition right_at right fits there are own =
        let sets = assigning.newly_controlled binding target.indices in
        let element : List ℕ → Answer (Option (List ℕ × Given)) = λ element. assigning.element_under v limit state target right_at right (controlled binding sets element) in
        let index_sets_are = All-filter (λ set. is_none (label_of binding set)) (λ name. is_index_set known.state name ≡ true) (rows.distinct_numbers (rows.sets_among target.indices)) (All-distinct_numbers (λ name. is_index_set known.state name ≡ true) (rows.sets_among target.indices) (row-sets (λ name. is_index_set known.state name ≡ true) target.indices are.sets)) in
        then-has (EachHas (λ element. OkHas (λ those. IsElement ok target.name (tuple_of those)) (in_order (labels v limit state (controlled binding sets element) target.indices)))) (EachHas (GivenOccurs target.name)) (domain v limit state binding at (control_over sets condition)) (λ those. in_order (map element those) and_then λ given. Ok (assigning.given_elements v limit state given))
        (over-sets (λ element. OkHas (λ those. IsElement ok target.name (tuple_of those)) (in_order (labels v limit state (controlled binding sets element) target.indices))) binding at sets condition (λ element among. indices-pass target.name target.indices (controlled binding sets element) (element-fits binding sets element fits (simple-all sets index_sets_are) among) there are own))
        (λ those all. then-has (EachHas (MayOccurGiven target.name)) (EachHas (GivenOccurs target.name)) (in_order (map element those)) (λ given. Ok (assigning.given_elements v limit state given)) (in_order-has (MayOccurGiven target.name) (map element those) (each-element target right_at right sets binding those all)) (λ given all. there-occur target.name given all))
