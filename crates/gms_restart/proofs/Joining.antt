-- The run of a program whose first statements stand for those of a saved one: their run, followed
-- by that of the others from the saved state.
use Rattle.std.proofs.Common.{◌≡◌, ℕ, ◌+◌, ◌≤◌, List, [], ◌++◌, length, None, sym, ap, ap₂, ◌∙◌, arith}
use Rattle.gq_number.specs.Number.{Number}
use Rattle.gms_ast.specs.declared.program.Stmt.{Stmt}
use Rattle.gms_store.specs.Overlays.{overlaid}
use Rattle.gms_store.specs.State.{State}
use Rattle.gms_check.specs.Loaded.{IsAccepted, loaded, sound}
use Rattle.gms_check.specs.Past.{state_after}
use Rattle.gms_rows.specs.ModelPoints.{definitions_of_model}
use Rattle.gms_exec.specs.Run.{Course, World, run_from}
use Rattle.lp_core.specs.declared.answer.Answer.{Answer}
use Rattle.gms_run_laws.specs.Agreeing.{EndsAlike}
use Rattle.gms_run_laws.proofs.Running.{ends-alike}
use Rattle.gms_run_laws.proofs.Later.{joined}
use Rattle.gms_run_laws.specs.JointRun.{run_after}
use Rattle.gms_run_laws.specs.Extensions.{DeclaresItsOwn, TypesNone}
use Rattle.gms_run_laws.proofs.Begins.{begins-with}
use Rattle.gms_run_laws.proofs.Closing.{loaded-closed}
use Rattle.gms_run_laws.proofs.ProgramNames.{program-named}
use Rattle.gms_run_laws.proofs.SolvesAlike.{defined_in, solves-alike}

-- where no answer remains all were taken
all-taken : (left : List (Answer Number)) (taken count : ℕ) → left ≡ [] → taken + length left ≡ count → taken ≡ count
all-taken left taken count none total =
    let e : taken + 0 ≡ count = sym (ap (λ (ls : List (Answer Number)). taken + length ls) none) ∙ total in omega (arith, e)

-- Statements stand for others in a world: they lead to the same states, define the same equations
-- and models, and run alike.
pub record OccursFor {F : Type 0} (v : F → Number) (limit : ℕ) (world : World F) (firsts statements : List (Stmt F)) : Type 0 where
  pub states : (count : ℕ) → state_after v count (sound firsts) ≡ state_after v count (sound statements)
  pub define : (others : List (Stmt F)) (m : ℕ) → definitions_of_model (firsts ++ others) m ≡ definitions_of_model (statements ++ others) m
  pub defined : (q : ℕ) → defined_in firsts q ≡ defined_in statements q
  pub runs : (state : State) (answers : List (Answer Number)) → run_from v limit world state answers firsts ≡ run_from v limit world state answers statements

module _ {F : Type 0} (v : F → Number) (limit : ℕ) (saved joint : World F) (firsts others : List (Stmt F)) (answers further : List (Answer Number)) where
  abbrev base : Course
  base = run_from v limit saved (loaded v saved.program) answers saved.program.statements.items

  -- the joint program's own first statements
  abbrev first_run : Course
  first_run = run_from v limit joint (loaded v joint.program) (answers ++ further) firsts

  -- The run of the joint program is that of its first statements, followed by that of the others
  -- from the last state of the saved run.
  pub record Joins : Type 0 where
    pub is : run_from v limit joint (loaded v joint.program) (answers ++ further) joint.program.statements.items
        ≡ run_after first_run (run_from v limit joint (overlaid (loaded v joint.program) base.state) further others)
    pub taken : first_run.taken ≡ length answers

  -- a program whose first statements stand for those of the saved one
  pub joins : IsAccepted v saved.program → IsAccepted v joint.program → length saved.program.names ≤ length joint.program.names → DeclaresItsOwn saved.program → joint.program.statements.items ≡ firsts ++ others → OccursFor v limit joint firsts saved.program.statements.items → TypesNone (loaded v saved.program) others → joint.solvers ≡ saved.solvers →
      base.halted ≡ None → base.left ≡ [] → first_run.halted ≡ None → Joins
  joins accepted both few own statements occurs types solvers done none reached =
      let prefix : Course = run_from v limit joint (loaded v joint.program) (answers ++ further) saved.program.statements.items in
      let same : first_run ≡ prefix = occurs.runs (loaded v joint.program) (answers ++ further) in
      let there : prefix.halted ≡ None = sym (ap (λ (c : Course). c.halted) same) ∙ reached in
      let alike : EndsAlike (loaded v joint.program) further (length answers) base prefix = ends-alike v limit saved joint (loaded v saved.program) (loaded v joint.program) answers further saved.program.statements.items (solves-alike v saved joint others accepted both few own firsts statements (occurs.define others) occurs.defined solvers) (program-named v saved accepted) (loaded-closed v saved.program accepted) (begins-with v saved joint firsts others both few own statements occurs.states types) done there in
      record {
        is =
            ap (run_from v limit joint (loaded v joint.program) (answers ++ further)) statements
            ∙ joined v limit joint (loaded v joint.program) (answers ++ further) firsts others reached
            ∙ ap (λ (c : Course). run_after first_run (run_from v limit joint c.state c.left others)) same
            ∙ ap₂ (λ (s : State) (ls : List (Answer Number)). run_after first_run (run_from v limit joint s ls others)) alike.ends (alike.left ∙ ap (λ (ls : List (Answer Number)). ls ++ further) none);
        taken = ap (λ (c : Course). c.taken) same ∙ alike.taken ∙ all-taken base.left base.taken (length answers) none alike.total;
      }
