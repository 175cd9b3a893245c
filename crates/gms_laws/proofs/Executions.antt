-- What an executed assignment of an accepted program gives, and where.
use Rattle.std.proofs.Common.{◌≡◌, ◌==◌, ◌∙◌, ◌<◌, ◌≤◌, ℕ, zero, suc, Bool, true, false, not, List, [], ◌∷◌, filter, length, None, Ok, Err, is_none, option_map, unwrap_or, slice_get, refl, sym, ap, subst, arith, true≢false}
use Rattle.std.specs.List.{All}
use Rattle.std.proofs.lemmas.List.Elements.{All-cons, All-filter, All-head, All-nil, All-tail, All-weaker}
use Rattle.std.proofs.lemmas.List.Sums.{count_by-le-length, length-filter}
use Rattle.gq_number.specs.Number.{Number}
use Rattle.gq_extended.specs.Extended.{Extended}
use Rattle.gms_ast.specs.declared.expression.Suffix.{Suffix}
use Rattle.gms_ast.specs.declared.expression.Suffix.TheVariants as suffix
use Rattle.gms_ast.specs.declared.program.Act.{Act}
use Rattle.gms_ast.specs.declared.program.Act.TheFolds.{fold-Act, fold-roll-Act, fold_out-Stmt}
use Rattle.gms_ast.specs.declared.program.Act.TheOpen.{Act-F}
use Rattle.gms_ast.specs.declared.program.Act.TheVariants.{rolls-Assign}
use Rattle.gms_ast.specs.declared.program.Right.TheVariants.{Value}
use Rattle.gms_ast.specs.Trees as tree
use Rattle.gms_ast.specs.TreeView.{tree_of}
use Rattle.gms_store.specs.declared.kind.SymbolKind.{SymbolKind}
use Rattle.gms_store.specs.State.{State, Content, Entries, Symbol, alias_of, base_of, alias_target, equation_of, has_attributes, model_with, no_symbol, parameter_of, set_of, symbol_at, symbol_of, undeclared, variable_of}
use Rattle.gms_store.specs.Declarations.{is_undeclared, kind_in}
use Rattle.gms_scope.specs.Names.{is_index_set, declared_kind}
use Rattle.gms_check.specs.CompileErrors.{known_after}
use Rattle.gms_check.specs.Domains as checking
use Rattle.gms_check.specs.Loaded.{sound}
use Rattle.gms_check.specs.Contexts.{may_be_assigned}
use Rattle.gms_check.specs.InnerStatements.{act_uses}
use Rattle.gms_check.specs.StatementUses.{index_list}
use Rattle.gms_check.specs.Uses.{assigning, index_sets}
use Rattle.gms_check.proofs.ActUses.{uses-act, uses-Assign}
use Rattle.gms_check.proofs.LeftAmounts.{program-inner}
use Rattle.gms_check.proofs.NoErrors.{AreClean}
use Rattle.gms_check.proofs.Soundness.{sound-use}
use Rattle.gms_eval.specs.Bindings.{Pairs, label_of}
use Rattle.gms_eval.specs.Faults.{Answer}
use Rattle.gms_eval.specs.Domain.{IsSimple}
use Rattle.gms_eval.specs.Value.{labels}
use Rattle.gms_rows.specs.Rows.{distinct_numbers, sets_among}
use Rattle.gms_rows.proofs.Domains.{given, only_value}
use Rattle.gms_exec.specs.Assignment.{after_assignment, given_by, target_of}
use Rattle.gms_exec.specs.Given.{Given, AllGiven, after_given}
use Rattle.gms_exec.specs.Once.{IsOnce}
use Rattle.gms_exec.specs.Run.{Course, OfAct, OfStatement, act_step, in_state, of_statement, statement_step, with_evaluated}
use Rattle.gms_run_laws.proofs.DeclaredKinds.{kind-now}
use Rattle.gms_run_laws.proofs.Lasting.{IsLasting, start-lasts}
use Rattle.gms_run_laws.proofs.OnceInRuns.{index-simple, run-once}
use Rattle.gms_run_laws.proofs.Starting.{begins-lasting}
use Rattle.gms_restart.proofs.Assigned.{assigned-long}
use Rattle.gms_laws.specs.Assignments.{Execution, IsCompleted, left_indices, left_sets, element_binding}
use Rattle.gms_laws.proofs.AssignedEntries.{GivenBy}

-- ---- names

declared-below : (symbols : List Symbol) (n : ℕ) → is_undeclared (unwrap_or (slice_get symbols n) no_symbol).content ≡ false → n < length symbols
declared-below [] n e = absurd (true≢false e)
declared-below (s ∷ symbols) zero e = omega arith
declared-below (s ∷ symbols) (suc n) e = let rest = declared-below symbols n e in omega (arith, rest)

-- a name with a content is one of the state
pub content-within : (state : State) (name : ℕ) → is_undeclared (symbol_of state name).content ≡ false → base_of state name < length state.symbols
content-within state name e = declared-below state.symbols (base_of state name) e

attributes-declared : (content : Content) → has_attributes content ≡ true → is_undeclared content ≡ false
attributes-declared undeclared e = absurd (true≢false (sym e))
attributes-declared (alias_of base) e = refl
attributes-declared (set_of members) e = refl
attributes-declared (parameter_of entries) e = refl
attributes-declared (variable_of type entries) e = refl
attributes-declared (equation_of entries) e = refl
attributes-declared (model_with model solver) e = refl

pub attributes-within : (state : State) (name : ℕ) → has_attributes (symbol_of state name).content ≡ true → base_of state name < length state.symbols
attributes-within state name has = content-within state name (attributes-declared (symbol_of state name).content has)

-- a parameter is assigned without a suffix
pub parameter-plain : (state : State) (name : ℕ) (kind : Suffix) (entries : Entries Extended) → (symbol_of state name).content ≡ parameter_of entries → may_be_assigned (declared_kind state name) kind ≡ true → kind ≡ suffix.None
parameter-plain state name kind entries is may = by (symbol_at state name).content refl kind is may
  where
    by : (content : Content) → (symbol_at state name).content ≡ content → (kind : Suffix) → (symbol_at state (alias_target name content)).content ≡ parameter_of entries → may_be_assigned (kind_in content) kind ≡ true → kind ≡ suffix.None
    by content same suffix.None is may = refl
    by undeclared same kind is may = absurd cc
    by (alias_of base) same kind is may = absurd cc
    by (set_of members) same kind is may = absurd cc
    by (parameter_of others) same kind is may = absurd cc
    by (variable_of type others) same kind is may = let differ : variable_of type others ≡ parameter_of entries = sym same ∙ is in absurd cc
    by (equation_of others) same kind is may = absurd cc
    by (model_with model solver) same kind is may = absurd cc

-- ---- the sets of a left side

module _ {F : Type 0} where
  same-sets : (indices : tree.Indices F) → index_sets indices ≡ sets_among indices
  same-sets tree.no_index = refl
  same-sets (tree.label label rest) = same-sets rest
  same-sets (tree.set set rest) = ap (λ (sets : List ℕ). set ∷ sets) (same-sets rest)
  same-sets (tree.lagged set op at amount rest) = ap (λ (sets : List ℕ). set ∷ sets) (same-sets rest)

  few-sets : (indices : tree.Indices F) → length (sets_among indices) ≤ checking.index_count indices
  few-sets tree.no_index = omega arith
  few-sets (tree.label label rest) = let e = few-sets rest in omega (arith, e)
  few-sets (tree.set set rest) = let e = few-sets rest in omega (arith, e)
  few-sets (tree.lagged set op at amount rest) = let e = few-sets rest in omega (arith, e)

  labels-count : (v : F → Number) (limit : ℕ) (state : State) (binding : Pairs) (indices : tree.Indices F) → length (labels v limit state binding indices) ≡ checking.index_count indices
  labels-count v limit state binding tree.no_index = refl
  labels-count v limit state binding (tree.label label rest) = let e = labels-count v limit state binding rest in omega (arith, e)
  labels-count v limit state binding (tree.set set rest) = let e = labels-count v limit state binding rest in omega (arith, e)
  labels-count v limit state binding (tree.lagged set op at amount rest) = let e = labels-count v limit state binding rest in omega (arith, e)

filter-fewer : (keep : ℕ → Bool) (ns : List ℕ) → length (filter keep ns) ≤ length ns
filter-fewer keep ns =
    let same = length-filter keep ns in
    let most = count_by-le-length keep ns in
    omega (arith, same, most)

once-fewer : (ns : List ℕ) → length (distinct_numbers ns) ≤ length ns
once-fewer [] = omega arith
once-fewer (n ∷ ns) =
    let less = filter-fewer (λ m. not (m == n)) (distinct_numbers ns) in
    let rest = once-fewer ns in
    omega (arith, less, rest)

once-all : (P : ℕ → Type 0) (ns : List ℕ) → All P ns → All P (distinct_numbers ns)
once-all P [] all = All-nil P
once-all P (n ∷ ns) all =
    All-cons P n (filter (λ m. not (m == n)) (distinct_numbers ns)) (All-head P n ns all) (All-filter (λ m. not (m == n)) P (distinct_numbers ns) (once-all P ns (All-tail P n ns all)))

-- ---- statements

module _ {F : Type 0} (v : F → Number) (limit : ℕ) (run : Execution F) (done : IsCompleted v limit run) where
  abbrev assigned : State → Answer State
  assigned state =
      after_assignment v limit state run.statement.at run.binding (target_of run.target) (option_map tree_of run.condition) run.right_at (tree_of run.right)

  abbrev of_act : Act F → OfAct
  of_act = fold-Act F OfAct OfStatement (act_step v limit run.world) (statement_step v limit)

  -- an assignment that is executed
  assigns : (course : Course) → of_statement v limit run.world run.statement run.binding course ≡ with_evaluated (assigned course.state) (in_state course) course
  assigns course =
      ap (λ (f : OfStatement). f run.binding course) (fold_out-Stmt F OfAct OfStatement (act_step v limit run.world) (statement_step v limit) run.statement)
      ∙ ap (λ (act : Act F). of_act act run.statement.at run.binding course) (done.act ∙ sym (rolls-Assign run.target run.condition run.right_at (Value run.right)))
      ∙ ap (λ (f : OfAct). f run.statement.at run.binding course) (fold-roll-Act F OfAct OfStatement (act_step v limit run.world) (statement_step v limit) (Act-F.Assign run.target run.condition run.right_at (Value run.right)))

  settled : (course : Course) (answer : Answer State) → (with_evaluated answer (in_state course) course).halted ≡ None → (with_evaluated answer (in_state course) course).state ≡ run.after → answer ≡ Ok run.after
  settled course (Ok state) none is = ap Ok is
  settled course (Err fault) none is = absurd cc

  after-is : assigned run.before ≡ Ok run.after
  after-is =
      let same = assigns done.course in
      ap assigned (sym done.before_is)
      ∙ settled done.course (assigned done.course.state) (sym (ap (λ (c : Course). c.halted) same) ∙ done.no_fault) (sym (ap (λ (c : Course). c.state) same) ∙ done.after_is)

  lasts : IsLasting v run.world.program run.before
  lasts =
      start-lasts v limit run.world done.first run.before (begins-lasting v run.world.program done.first done.may_begin) done.reached

  -- What is known of an executed assignment.
  pub record Settled : Type 0 where
    pub all : AllGiven
    pub gives : GivenBy v limit run all
    pub after_is : after_given run.target.suffix run.target.name all run.before ≡ run.after
    pub once : IsOnce all
    pub long : All (λ (g : List ℕ × Given). length g.0 ≡ length (symbol_of run.before run.target.name).domain) all
    pub simple : All (IsSimple run.before) (left_sets run)
    pub few : length (left_sets run) ≤ 10
    pub short : (element : List ℕ) → length (labels v limit run.before (element_binding run element) (left_indices run)) ≤ 10
    pub may : may_be_assigned (declared_kind run.before run.target.name) run.target.suffix ≡ true

  simple-sets : (indices : tree.Indices F) → All (λ (set : ℕ). is_index_set (known_after v run.world.program done.accepted.0 (sound done.of_program.before)).state set ≡ true) (index_sets indices) → All (IsSimple run.before) (distinct_numbers (sets_among indices))
  simple-sets indices one =
      let before = done.of_program.before in
      let known = known_after v run.world.program done.accepted.0 (sound before) in
      once-all (IsSimple run.before) (sets_among indices) (subst (All (IsSimple run.before)) (same-sets indices) (All-weaker (λ (set : ℕ). is_index_set known.state set ≡ true) (IsSimple run.before) (λ set is. index-simple v limit run.world before done.of_program.outer set run.before done.of_program.occurs is lasts) (index_sets indices) one))

  pub settle : Settled
  settle =
      let statement = run.statement in
      let indices = index_list run.target.indices in
      let before = done.of_program.before in
      let known = known_after v run.world.program done.accepted.0 (sound before) in
      let inner = program-inner v run.world.program done.accepted.0 before done.of_program.outer statement done.of_program.depth done.accepted.1 done.of_program.occurs done.of_program.inside in
      let whole = subst (AreClean known) (uses-act statement known.state inner.0 ∙ ap (λ (act : Act F). act_uses act known.state statement.at inner.0) done.act ∙ uses-Assign known.state statement.at inner.0 run.target run.condition run.right_at run.right) inner.1 in
      let used = sound-use known (assigning run.target.name run.target.suffix indices) whole.0 in
      let e = given (given_by v limit run.before statement.at run.binding (target_of run.target) (option_map tree_of run.condition) run.right_at (tree_of run.right)) (λ all. Ok (after_given run.target.suffix run.target.name all run.before)) run.after after-is in
      let count = used.2.few in
      let most = few-sets indices in
      let fewer = once-fewer (sets_among indices) in
      let least : length (left_sets run) ≤ length (distinct_numbers (sets_among indices)) = filter-fewer (λ (set : ℕ). is_none (label_of run.binding set)) (distinct_numbers (sets_among indices)) in
      record {
        all = e.value;
        gives = e.is;
        after_is = only_value (after_given run.target.suffix run.target.name e.value run.before) run.after e.next_is;
        once = run-once v limit run.world statement run.target run.condition run.right_at run.right run.before run.binding e.value done.accepted done.of_program done.act lasts e.is;
        long = assigned-long v limit run.world.program done.accepted statement run.target run.condition run.right_at run.right run.before run.binding e.value done.of_program done.act lasts.stays e.is;
        simple = All-filter (λ (set : ℕ). is_none (label_of run.binding set)) (IsSimple run.before) (distinct_numbers (sets_among indices)) (simple-sets indices used.2.sets);
        few = omega (arith, count, most, fewer, least);
        short = λ element. short-labels element count;
        may = ap (λ (kind : SymbolKind). may_be_assigned kind run.target.suffix) (kind-now v limit run.world run.before lasts before done.of_program.outer done.of_program.occurs run.target.name used.0) ∙ used.1;
      }
    where
      short-labels : (element : List ℕ) → checking.index_count (index_list run.target.indices) ≤ 10 → length (labels v limit run.before (element_binding run element) (left_indices run)) ≤ 10
      short-labels element count =
          let size = labels-count v limit run.before (element_binding run element) (left_indices run) in
          omega (arith, size, count)
