-- The names that a statement of a program assigns are assigned by the program, so that each reached
-- state is later than the first.
use Rattle.std.proofs.lemmas.Bool.{or_left, or_right}
use Rattle.std.proofs.Common.{◌≡◌, ℕ, zero, suc, Bool, true, ◌==◌, List, [], ◌∷◌, ◌++◌, map, Vec, refl, sym, ap, ◌∙◌, subst, eq-eqb}
use Rattle.std.specs.Prelude.{flat_map}
use Rattle.std.specs.declared.alloc.Global.{Global}
use Rattle.gq_number.specs.Number.{Number}
use Rattle.gms_ast.specs.declared.expression.Control.{Control}
use Rattle.gms_ast.specs.declared.program.Act.{Act, Loop}
use Rattle.gms_ast.specs.declared.program.Act.TheFolds.{fold-Act, fold-roll-Act, fold_out-Stmt}
use Rattle.gms_ast.specs.declared.program.Act.TheOpen.{Act-F}
use Rattle.gms_ast.specs.declared.program.Act.TheVariants.{rolls-Loop}
use Rattle.gms_ast.specs.declared.program.Program.{Program}
use Rattle.gms_ast.specs.declared.program.Stmt.{Stmt}
use Rattle.gms_store.specs.State.{State, base_of}
use Rattle.gms_scope.specs.DynamicSets.{assigned_names, assigned_step}
use Rattle.gms_save_text.specs.Validity.{are_in_range}
use Rattle.gms_check.specs.LeftSides.{IsNestedIn}
use Rattle.gms_check.specs.Loaded.{loaded}
use Rattle.gms_check.specs.Past.{is_among}
use Rattle.gms_exec.specs.Run.{World}
use Rattle.gms_run_laws.specs.LastStates.{names_assigned}
use Rattle.gms_run_laws.specs.Reached.{IsStatementOf, IsReached, at_first, after}
use Rattle.gms_run_laws.proofs.LastStates.{Lasts, MayBe, lasts-given, lasts-end, lasts-options, lasts-first}
use Rattle.gms_run_laws.proofs.Persisting.{AreAllowed, keeps-statement}
use Rattle.gms_run_laws.proofs.TidyLoaded.{loaded-well}

-- ---- names among those of a program

among-following : (xs ys : List ℕ) (n : ℕ) → is_among ys n ≡ true → is_among (xs ++ ys) n ≡ true
among-following [] ys n there = there
among-following (x ∷ xs) ys n there = or_right (x == n) (is_among (xs ++ ys) n) (among-following xs ys n there)

-- each of some names that hold something
abbrev Each : (ℕ → Type 0) → List ℕ → Type 0
Each P [] = Unit {0}
Each P (n ∷ ns) = P n × Each P ns

each-weaker : (P Q : ℕ → Type 0) → ((n : ℕ) → P n → Q n) → (ns : List ℕ) → Each P ns → Each Q ns
each-weaker P Q weaker [] all = tt
each-weaker P Q weaker (n ∷ ns) all = (weaker n all.0, each-weaker P Q weaker ns all.1)

each-left : (P : ℕ → Type 0) (ns ms : List ℕ) → Each P (ns ++ ms) → Each P ns
each-left P [] ms all = tt
each-left P (n ∷ ns) ms all = (all.0, each-left P ns ms all.1)

each-right : (P : ℕ → Type 0) (ns ms : List ℕ) → Each P (ns ++ ms) → Each P ms
each-right P [] ms all = all
each-right P (n ∷ ns) ms all = each-right P ns ms all.1

-- names are among what a function makes of them
among-made : (f : ℕ → ℕ) (ns : List ℕ) → Each (λ n. is_among (map f ns) (f n) ≡ true) ns
among-made f [] = tt
among-made f (n ∷ ns) =
    (or_left (f n == f n) (is_among (map f ns) (f n)) (eq-eqb (f n) (f n) refl), each-weaker (λ m. is_among (map f ns) (f m) ≡ true) (λ m. is_among (map f (n ∷ ns)) (f m) ≡ true) (λ m there. or_right (f n == f m) (is_among (map f ns) (f m)) there) ns (among-made f ns))

module _ {F : Type 0} (P : ℕ → Type 0) where
  -- one of some statements
  each-one_of : (before rest : List (Stmt F)) (s : Stmt F) → Each P (flat_map assigned_names (before ++ s ∷ rest)) → Each P (assigned_names s)
  each-one_of [] rest s all = each-left P (assigned_names s) (flat_map assigned_names rest) all
  each-one_of (first ∷ before) rest s all =
      each-one_of before rest s (each-right P (assigned_names first) (flat_map assigned_names (before ++ s ∷ rest)) all)

  abbrev names_in : Act F → List ℕ
  names_in = fold-Act F (List ℕ) (List ℕ) assigned_step (λ statement. statement.act)

  flat-assigned : (body : List (Stmt F)) → flat_map (λ (names : List ℕ). names) (map assigned_names body) ≡ flat_map assigned_names body
  flat-assigned [] = refl
  flat-assigned (s ∷ body) = ap (λ names. assigned_names s ++ names) (flat-assigned body)

  assigned-loop : (outer : Stmt F) (control : Control F) (body : Vec (Stmt F) Global) → outer.act ≡ Loop control body → assigned_names outer ≡ flat_map assigned_names body.items
  assigned-loop outer control body loop =
      fold_out-Stmt F (List ℕ) (List ℕ) assigned_step (λ statement. statement.act) outer
      ∙ ap names_in (loop ∙ sym (rolls-Loop control body))
      ∙ fold-roll-Act F (List ℕ) (List ℕ) assigned_step (λ statement. statement.act) (Act-F.Loop control body)
      ∙ flat-assigned body.items

  -- and of those in its loops
  each-inside : (depth : ℕ) (inner outer : Stmt F) → IsNestedIn depth inner outer → Each P (assigned_names outer) → Each P (assigned_names inner)
  each-inside zero inner outer same all = subst (λ s. Each P (assigned_names s)) same all
  each-inside (suc depth) inner outer inside all =
      let body = subst (Each P) (assigned-loop outer inside.control inside.body inside.loop) all in
      each-inside depth inner inside.next inside.holds (each-one_of inside.before inside.rest inside.next (subst (λ statements. Each P (flat_map assigned_names statements)) inside.occurs body))

-- ---- reached states

module _ {F : Type 0} (v : F → Number) (limit : ℕ) (world : World F) (first : State) where
  abbrev among : ℕ → Bool
  among = is_among (names_assigned first world.program)

  may-all : (s : Stmt F) → IsStatementOf world.program s → Each (MayBe first among) (assigned_names s)
  may-all s of_program =
      let all = among-made (base_of first) (flat_map assigned_names world.program.statements.items) in
      each-inside (MayBe first among) of_program.depth s of_program.outer of_program.inside (each-one_of (MayBe first among) of_program.before of_program.occurs.0 of_program.outer (subst (λ statements. Each (MayBe first among) (flat_map assigned_names statements)) of_program.occurs.1 all))

  allowed : (names : List ℕ) → Each (MayBe first among) names → AreAllowed v limit world (Lasts first among) (MayBe first among) (lasts-given first among) (lasts-end first among) (λ s options lasts. lasts-options first among v world.solvers s options lasts) names
  allowed [] all = tt
  allowed (n ∷ names) all = (all.0, allowed names all.1)

  -- what lasts where a run begins lasts in each state that it reaches
  pub reached-lasts : (start : State) → Lasts first among start → (state : State) → IsReached v limit world start state → Lasts first among state
  reached-lasts start begins state at_first = begins
  reached-lasts start begins state (after {state = before} s binding c of_program same reached) =
      keeps-statement v limit world (Lasts first among) (MayBe first among) (lasts-given first among) (lasts-end first among) (λ s options lasts. lasts-options first among v world.solvers s options lasts) s (allowed (assigned_names s) (may-all s of_program)) binding c (subst (Lasts first among) (sym same) (reached-lasts start begins before reached))

-- A state keeps what the state has in which a program's run begins.
abbrev pub IsLasting : {F : Type 0} → (F → Number) → Program F → State → Type 0
IsLasting v program state = Lasts (loaded v program) (is_among (names_assigned (loaded v program) program)) state

-- that state does
pub loaded-begins : {F : Type 0} (v : F → Number) (program : Program F) → IsLasting v program (loaded v program)
loaded-begins v program =
    let first = loaded v program in
    let well = loaded-well v program in
    lasts-first first (is_among (names_assigned first program)) well.tidy (ap are_in_range well.settings)

-- and each that is reached from one that does
pub start-lasts : {F : Type 0} (v : F → Number) (limit : ℕ) (world : World F) (start state : State) → IsLasting v world.program start → IsReached v limit world start state → IsLasting v world.program state
start-lasts v limit world start state begins reached = reached-lasts v limit world (loaded v world.program) start begins state reached
