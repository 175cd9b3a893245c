-- The names that the program of a source declares are of its table.
use Rattle.std.proofs.Common.{ℕ, nat_lt, Bool, List, [], ◌∷◌, length, map, ap, subst}
use Rattle.std.specs.Prelude.{flat_map}
use Rattle.gq_number.specs.Number.{Number}
use Rattle.gq_frac.specs.declared.frac.Frac.{Frac}
use Rattle.gq_frac.specs.Frac.{frac_value}
use Rattle.gms_ast.specs.declared.declaration.Decl.{Decl}
use Rattle.gms_ast.specs.declared.declaration.ModelDecl.{ModelDecl}
use Rattle.gms_ast.specs.declared.program.Program.{Program}
use Rattle.gms_ast.specs.declared.program.Stmt.{Stmt}
use Rattle.gms_ast.specs.StatementTrees.{Act, declares, aliases, assigns, defines, declares_models, solves, displays, loops, sets_options, aborts}
use Rattle.gms_ast.specs.StatementView.{declared_in, statements_view}
use Rattle.gms_parse.specs.Outcomes.{IsProgram, program_view}
use Rattle.gms_parse.proofs.Looped.{view-Stmt}
use Rattle.gms_check.specs.Past.{names_declared}
use Rattle.gms_run_laws.specs.Names.{Each}
use Rattle.gms_run_laws.proofs.Eaches.{each-both}
use Rattle.gms_save.proofs.FromNumbers.{value_of}
use Rattle.gms_save.proofs.SeenActs.{Told, same-told, shown, told_by}
use Rattle.gms_restart.proofs.Padding.{HoldsOf, HoldsOfAct, HoldsOfAll, IsBelow, item_names, model_names}
use Rattle.gms_restart.proofs.ProgramNames.{program-own}
use Rattle.gms_run_laws.specs.Extensions.{DeclaresItsOwn}
use Rattle.gms_run_laws.proofs.Padding.{test-of}

module _ (count : ℕ) where
  abbrev is_own : ℕ → Bool
  is_own n = nat_lt n count

  items-pass : (items : List (Decl Number)) → HoldsOf (IsBelow count) (item_names items) → Each is_own (map (λ (item : Decl Frac). item.named.name) (map (declared_in value_of) items))
  items-pass [] all = tt
  items-pass (item ∷ items) all = (test-of item.named.name count all.0, items-pass items all.1)

  models-pass : (models : List ModelDecl) → HoldsOf (IsBelow count) (model_names models) → Each is_own (map (λ (model : ModelDecl). model.named.name) models)
  models-pass [] all = tt
  models-pass (model ∷ models) all = (test-of model.named.name count all.0, models-pass models all.1)

  act-passes : (act : Act Number) → HoldsOfAct (IsBelow count) act → Each is_own (told_by act).names
  act-passes (declares kind items) own = items-pass items own
  act-passes (aliases first second) own = (test-of first.name count own.0, (test-of second.name count own.1, tt))
  act-passes (declares_models models) own = models-pass models own
  act-passes (assigns target condition right_at right) own = tt
  act-passes (defines equation indices condition sides) own = tt
  act-passes (solves model method objective maximize) own = tt
  act-passes (displays items) own = tt
  act-passes (loops control body) own = tt
  act-passes (sets_options options) own = tt
  act-passes (aborts condition items) own = tt

  statements-pass : (items : List (Stmt Frac)) → HoldsOfAll (IsBelow count) (statements_view frac_value items) → Each is_own (flat_map (λ (s : Stmt Frac). names_declared s.act) items)
  statements-pass [] all = tt
  statements-pass (x ∷ items) all =
      let parts = subst (HoldsOfAll (IsBelow count)) (view-Stmt frac_value x (statements_view frac_value items)) all in
      let here : Each is_own (names_declared x.act) = subst (Each is_own) (ap (λ (t : Told). t.names) (same-told x.act)) (act-passes (shown x.act) parts.0) in
      each-both is_own (names_declared x.act) (flat_map (λ (s : Stmt Frac). names_declared s.act) items) here (statements-pass items parts.1)

pub declares-own : (limit : ℕ) (source : List ℕ) (program : Program Frac) → IsProgram limit source frac_value program → DeclaresItsOwn program
declares-own limit source program is =
    statements-pass (length program.names) program.statements.items (program-own limit source (program_view frac_value program) is)
