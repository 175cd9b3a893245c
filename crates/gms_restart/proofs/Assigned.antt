-- What an assignment of an accepted program gives elements has as many labels as its name has
-- positions.
use Rattle.std.proofs.Common.{◌≡◌, ℕ, nat_le, Bool, true, false, not, if◌then◌else◌, List, [], ◌∷◌, length, map, Option, Some, None, option_map, inl, inr, Ok, refl, sym, ap, ◌∙◌, subst, arith}
use Rattle.std.specs.List.{All, fold}
use Rattle.std.proofs.lemmas.Bool.{both_ways}
use Rattle.std.proofs.lemmas.List.{map-append}
use Rattle.std.proofs.lemmas.List.Elements.{All-nil, All-cons}
use Rattle.std.proofs.lemmas.List.Sums.{fold-append}
use Rattle.gq_number.specs.Number.{Number}
use Rattle.gms_labels.specs.declared.place.Place.{Place}
use Rattle.gms_ast.specs.declared.expression.Expr.{Expr}
use Rattle.gms_ast.specs.declared.program.Act.{Act}
use Rattle.gms_ast.specs.declared.program.Act.TheVariants.{Assign}
use Rattle.gms_ast.specs.declared.program.Program.{Program}
use Rattle.gms_ast.specs.declared.program.Right.TheVariants.{Value}
use Rattle.gms_ast.specs.declared.program.Stmt.{Stmt}
use Rattle.gms_ast.specs.declared.program.Target.{Target as TargetNode}
use Rattle.gms_ast.specs.StatementTrees.{Target}
use Rattle.gms_ast.specs.Trees as tree
use Rattle.gms_ast.specs.TreeView.{tree_of}
use Rattle.gms_store.specs.State.{State, symbol_at, symbol_of, base_of}
use Rattle.gms_store.specs.Declarations.{is_undeclared, blank_state}
use Rattle.gms_scope.specs.Names.{has_no_declaration, positions}
use Rattle.gms_check.specs.Checked.{FollowsIn}
use Rattle.gms_check.specs.CompileErrors.{known_after}
use Rattle.gms_check.specs.Domains as checking
use Rattle.gms_check.specs.Loaded.{IsAccepted, loaded, sound}
use Rattle.gms_check.specs.Past.{Known, after_statement, state_after}
use Rattle.gms_check.specs.InnerStatements.{act_uses}
use Rattle.gms_check.specs.StatementUses.{index_list}
use Rattle.gms_check.specs.Uses.{assigning}
use Rattle.gms_check.proofs.ActUses.{uses-act, uses-Assign}
use Rattle.gms_check.proofs.Growing.{IsFitting, IsAfter, IsLater, Grows, grows-past}
use Rattle.gms_check.proofs.IndexSetsStay.{blank-fits}
use Rattle.gms_check.proofs.LeftAmounts.{program-inner}
use Rattle.gms_check.proofs.NoErrors.{AreClean}
use Rattle.gms_check.proofs.Soundness.{sound-use}
use Rattle.gms_eval.specs.Bindings.{Pairs, controlled}
use Rattle.gms_eval.specs.Faults.{Answer, ◌and_then◌}
use Rattle.gms_eval.specs.Leaders.{number_of_indices}
use Rattle.gms_eval.specs.Nodes.{in_order}
use Rattle.gms_eval.specs.References.{all_there, tuple_of}
use Rattle.gms_eval.specs.Value.{labels, domain, control_over}
use Rattle.gms_rows.proofs.Domains.{given, only_value}
use Rattle.gms_exec.specs.Assignment.{newly_controlled, target_of, given_under, element_under, given_elements, given_by}
use Rattle.gms_exec.specs.Given.{Given, AllGiven}
use Rattle.gms_exec.proofs.Staying.{Stays, follows-of}
use Rattle.gms_run_laws.specs.Reached.{IsStatementOf}
use Rattle.gms_restart.proofs.Growth.{closed-after}

-- ---- the tuple of an element

-- both counts of indices are one
pub same-count : {F : Type 0} (indices : tree.Indices F) → number_of_indices indices ≡ checking.index_count indices
same-count tree.no_index = refl
same-count (tree.label label rest) = let e = same-count rest in omega (arith, e)
same-count (tree.set set rest) = let e = same-count rest in omega (arith, e)
same-count (tree.lagged set op at amount rest) = let e = same-count rest in omega (arith, e)

-- as many values as answers
in_order-long : {A : Type 0} (answers : List (Answer A)) (xs : List A) → in_order answers ≡ Ok xs → length xs ≡ length answers
in_order-long [] xs e = ap length (sym (only_value [] xs e))
in_order-long (answer ∷ answers) xs e =
    let one = given answer (λ x. in_order answers and_then λ xs. Ok (x ∷ xs)) xs e in
    let two = given (in_order answers) (λ xs. Ok (one.value ∷ xs)) xs one.next_is in
    let size = ap length (sym (only_value (one.value ∷ two.value) xs two.next_is)) in
    let rest = in_order-long answers two.value two.is in omega (arith, size, rest)

there-long : (those : List (Option ℕ)) (t : List ℕ) → all_there those ≡ Some t → length t ≡ length those
there-long [] t e = let is : [] ≡ t = cc in ap length (sym is)
there-long (None ∷ rest) t e = absurd (cc)
there-long (Some label ∷ rest) t e = by (all_there rest) refl (there-long rest) e
  where
    by : (o : Option (List ℕ)) → all_there rest ≡ o → ((u : List ℕ) → all_there rest ≡ Some u → length u ≡ length rest) → option_map (λ labels. label ∷ labels) o ≡ Some t → length t ≡ length (Some label ∷ rest)
    by None is long e = absurd (cc)
    by (Some u) is long e =
        let same : label ∷ u ≡ t = cc in
        let long_as = long u is in
        let size = ap length same in omega (arith, long_as, size)

tuple-long : (those : List (Option ℕ)) (t : List ℕ) → tuple_of those ≡ Some t → length t ≡ length those
tuple-long those t e = by (nat_le (length those) 10) e
  where
    by : (b : Bool) → (if b then all_there those else None) ≡ Some t → length t ≡ length those
    by true e = there-long those t e
    by false e = absurd (cc)

module _ {F : Type 0} (v : F → Number) (limit : ℕ) (state : State) where
  -- one label an index
  labels-long : (binding : Pairs) (indices : tree.Indices F) → length (labels v limit state binding indices) ≡ number_of_indices indices
  labels-long binding tree.no_index = refl
  labels-long binding (tree.label label rest) = let e = labels-long binding rest in omega (arith, e)
  labels-long binding (tree.set set rest) = let e = labels-long binding rest in omega (arith, e)
  labels-long binding (tree.lagged set op at amount rest) = let e = labels-long binding rest in omega (arith, e)

  module _ (target : Target F) (right_at : Place) (right : tree.Tree F) where
    -- an element has as many labels as the left side has indices
    abbrev IsLong : List ℕ × Given → Type 0
    IsLong given = length given.0 ≡ number_of_indices target.indices

    abbrev MayBeLong : Option (List ℕ × Given) → Type 0
    MayBeLong None = Unit {0}
    MayBeLong (Some given) = IsLong given

    element-long : (binding : Pairs) (made : Option (List ℕ × Given)) → element_under v limit state target right_at right binding ≡ Ok made → MayBeLong made
    element-long binding made e =
        let one = given (in_order (labels v limit state binding target.indices)) (λ those. elim (tuple_of those) [ None ↦ Ok None | Some t ↦ given_under v limit state target right_at right binding and_then λ given. Ok (Some (t, given)) ]) made e in
        by one.value (tuple_of one.value) refl (in_order-long (labels v limit state binding target.indices) one.value one.is) one.next_is
      where
        by : (those : List (Option ℕ)) (o : Option (List ℕ)) → tuple_of those ≡ o → length those ≡ length (labels v limit state binding target.indices) → elim o as (λ _. Answer (Option (List ℕ × Given))) [ None ↦ Ok None | Some t ↦ given_under v limit state target right_at right binding and_then λ given. Ok (Some (t, given)) ] ≡ Ok made → MayBeLong made
        by those None is long e = subst MayBeLong (only_value None made e) tt
        by those (Some t) is long e =
            let two = given (given_under v limit state target right_at right binding) (λ x. Ok (Some (t, x))) made e in
            let first = tuple-long those t is in
            let count = labels-long binding target.indices in
            let all : length t ≡ number_of_indices target.indices = omega (arith, first, long, count) in
            subst MayBeLong (only_value (Some (t, two.value)) made two.next_is) all

    there-all : (first : Option (List ℕ × Given)) (later : List (Option (List ℕ × Given))) → MayBeLong first → All IsLong (given_elements v limit state later) → All IsLong (given_elements v limit state (first ∷ later))
    there-all None later one rest = rest
    there-all (Some given) later one rest = All-cons IsLong given (given_elements v limit state later) one rest

    elements-long : (bindings : List Pairs) (made : List (Option (List ℕ × Given))) → in_order (map (element_under v limit state target right_at right) bindings) ≡ Ok made → All IsLong (given_elements v limit state made)
    elements-long [] made e = subst (λ ms. All IsLong (given_elements v limit state ms)) (only_value [] made e) (All-nil IsLong)
    elements-long (binding ∷ bindings) made e =
        let one = given (element_under v limit state target right_at right binding) (λ x. in_order (map (element_under v limit state target right_at right) bindings) and_then λ xs. Ok (x ∷ xs)) made e in
        let two = given (in_order (map (element_under v limit state target right_at right) bindings)) (λ xs. Ok (one.value ∷ xs)) made one.next_is in
        subst (λ ms. All IsLong (given_elements v limit state ms)) (only_value (one.value ∷ two.value) made two.next_is) (there-all one.value two.value (element-long binding one.value one.is) (elements-long bindings two.value two.is))

    -- what an assignment gives has as many labels as its left side has indices
    pub given-long : (at : Place) (binding : Pairs) (condition : Option (tree.Tree F)) (all : AllGiven) → given_by v limit state at binding target condition right_at right ≡ Ok all → All IsLong all
    given-long at binding condition all e =
        let sets = newly_controlled binding target.indices in
        let one = given (domain v limit state binding at (control_over sets condition)) (λ elements. in_order (map (λ element. element_under v limit state target right_at right (controlled binding sets element)) elements) and_then λ given. Ok (given_elements v limit state given)) all e in
        let two = given (in_order (map (λ element. element_under v limit state target right_at right (controlled binding sets element)) one.value)) (λ given. Ok (given_elements v limit state given)) all one.next_is in
        let bindings = map (controlled binding sets) one.value in
        subst (All IsLong) (only_value (given_elements v limit state two.value) all two.next_is) (elements-long bindings two.value (ap in_order (map-map (controlled binding sets) (element_under v limit state target right_at right) one.value) ∙ two.is))
      where
        map-map : {A B C : Type 0} (f : A → B) (g : B → C) (xs : List A) → map g (map f xs) ≡ map (λ x. g (f x)) xs
        map-map f g [] = refl
        map-map f g (x ∷ xs) = ap (λ ys. g (f x) ∷ ys) (map-map f g xs)

-- ---- the positions of the name

module _ {F : Type 0} (v : F → Number) (program : Program F) (before : List (Stmt F)) (statement : Stmt F) (occurs : FollowsIn program before statement) where
  abbrev then_state : State
  then_state = state_after v (length program.names) (sound before)

  grows-on : Grows then_state (loaded v program)
  grows-on =
      let rest : List (Stmt F) = statement ∷ occurs.0 in
      let blank = blank_state (length program.names) in
      subst (Grows then_state) (sym (ap (λ (all : List (Stmt F)). fold (after_statement v) blank (sound all)) occurs.1 ∙ ap (fold (after_statement v) blank) (map-append (λ (statement : Stmt F). (statement, true)) before rest) ∙ fold-append (after_statement v) blank (sound before) (sound rest))) (grows-past v (sound rest) then_state)

  fits-then : (n : ℕ) → IsFitting (symbol_at then_state n)
  fits-then n = (grows-past v (sound before) (blank_state (length program.names)) n (blank-fits (length program.names) n)).0

  after-itself : (name : ℕ) → is_undeclared (symbol_at then_state name).content ≡ false → IsAfter (symbol_at then_state name) (symbol_at (loaded v program) name)
  after-itself name declared = by (grows-on name (fits-then name)).1
    where
      by : IsLater (symbol_at then_state name) (symbol_at (loaded v program) name) → IsAfter (symbol_at then_state name) (symbol_at (loaded v program) name)
      by (inl none) = absurd (both_ways (is_undeclared (symbol_at then_state name).content) declared none)
      by (inr after) = after

  not-undeclared : (b : Bool) → not b ≡ true → b ≡ false
  not-undeclared true e = absurd (cc)
  not-undeclared false e = refl

  -- a declared name has the same positions when the program begins
  same-domain : (name : ℕ) → has_no_declaration then_state name ≡ false → (symbol_of (loaded v program) name).domain ≡ positions then_state name
  same-domain name declared =
      let base = base_of then_state name in
      let here = not-undeclared (is_undeclared (symbol_at then_state base).content) (closed-after v (length program.names) before name (ap not declared)) in
      ap (λ (n : ℕ). (symbol_at (loaded v program) n).domain) ((after-itself name declared).alike name) ∙ (after-itself base here).domain

module _ {F : Type 0} (v : F → Number) (limit : ℕ) (program : Program F) (accepted : IsAccepted v program) where
  -- In each state that keeps the names of the first one, what is assigned has as many labels as its
  -- name has positions.
  pub assigned-long : (statement : Stmt F) (target : TargetNode F) (condition : Option (Expr F)) (right_at : Place) (right : Expr F) (state : State) (binding : Pairs) (all : AllGiven) → IsStatementOf program statement → statement.act ≡ Assign target condition right_at (Value right) → Stays (loaded v program) state →
      given_by v limit state statement.at binding (target_of target) (option_map tree_of condition) right_at (tree_of right) ≡ Ok all → All (λ (given : List ℕ × Given). length given.0 ≡ length (symbol_of state target.name).domain) all
  assigned-long statement target condition right_at right state binding all of_program is stays e =
      let before = of_program.before in
      let known : Known F = known_after v program accepted.0 (sound before) in
      let inner = program-inner v program accepted.0 before of_program.outer statement of_program.depth accepted.1 of_program.occurs of_program.inside in
      let whole = subst (AreClean known) (uses-act statement known.state inner.0 ∙ ap (λ (act : Act F). act_uses act known.state statement.at inner.0) is ∙ uses-Assign known.state statement.at inner.0 target condition right_at right) inner.1 in
      let used = sound-use known (assigning target.name target.suffix (index_list target.indices)) whole.0 in
      let count = used.2.count in
      let same = same-count (index_list target.indices) in
      let domain_is = ap length ((follows-of (loaded v program) state stays target.name).domain ∙ same-domain v program before of_program.outer of_program.occurs target.name used.0) in
      let long : number_of_indices (index_list target.indices) ≡ length (symbol_of state target.name).domain = omega (arith, count, same, domain_is) in
      subst (λ (n : ℕ). All (λ (given : List ℕ × Given). length given.0 ≡ n) all) long (given-long v limit state (target_of target) right_at (tree_of right) statement.at binding (option_map tree_of condition) all e)
