-- Joint programs with equal views have the same errors, and resume from the same state.
use Rattle.std.proofs.Common.{◌≡◌, ℕ, Bool, true, false, not, ◌&&◌, List, [], ◌∷◌, ◌++◌, length, map, Option, None, refl, sym, ap, ap₂, ◌∙◌}
use Rattle.std.specs.Prelude.{filter, flat_map, if◌then◌else◌, nat_lt, option_to_list}
use Rattle.gq_frac.specs.declared.frac.Frac.{Frac}
use Rattle.gq_frac.specs.Frac.{frac_value}
use Rattle.gms_labels.specs.declared.place.Place.{Place}
use Rattle.gms_ast.specs.declared.program.Program.{Program}
use Rattle.gms_ast.specs.declared.program.Stmt.{Stmt}
use Rattle.gms_parse.specs.Outcomes.{program_view}
use Rattle.gms_store.specs.State.{State, base_of, symbol_at}
use Rattle.gms_store.specs.Declarations.{blank_state, declared_state, is_set}
use Rattle.gms_store.specs.Overlays.{overlaid}
use Rattle.gms_scope.specs.DynamicSets.{dynamic_sets}
use Rattle.gms_check.specs.declared.error.CompileError.{CompileError}
use Rattle.gms_check.specs.CompileErrors.{statement_errors}
use Rattle.gms_check.specs.Errors.{first_error, sooner}
use Rattle.gms_check.specs.Names.{is_variable}
use Rattle.gms_check.specs.Past.{is_among}
use Rattle.gms_save.specs.JointErrors.{each_sooner, is_saved, joint_errors, restart_error, restarts_at, resumed, saved_assigned, saved_names, saved_statements}
use Rattle.gms_save.proofs.SeenActs.{Told, assigned_of, same-targets, same-told, targets_of, told_by}
use Rattle.gms_save.proofs.SeenPrograms.{Seen, assigned-are, declared-are, errors-are, same-assigned-sets, same-count, same-declared, same-loaded, same-seen, seen, seen_declared, seen_errors}

-- the views of the statements of the saved source
abbrev seen_saved : ℕ → List Seen → List Seen
seen_saved from vs = filter (λ (v : Seen). nat_lt v.0.line from) vs

saved-are : (from : ℕ) (xs : List (Stmt Frac)) → map seen (filter (is_saved from) xs) ≡ seen_saved from (map seen xs)
saved-are from [] = refl
saved-are from (x ∷ xs) = by (is_saved from x) (saved-are from xs)
  where
    by : (b : Bool) → map seen (filter (is_saved from) xs) ≡ seen_saved from (map seen xs) → map seen (if b then x ∷ filter (is_saved from) xs else filter (is_saved from) xs) ≡ (if b then seen x ∷ seen_saved from (map seen xs) else seen_saved from (map seen xs))
    by true rest = ap (λ (vs : List Seen). seen x ∷ vs) rest
    by false rest = rest

-- the first Restart of a statement, by what the saved source declares and assigns, and what is
-- declared in all
abbrev restart_from : ℕ → State → List ℕ → State → Place → List (Place × ℕ) → List (Place × ℕ) → Option CompileError
restart_from from saved assigned declared at typed targets =
    if nat_lt at.line from then None else first_error (restarts_at (λ name. is_variable (symbol_at saved name).content) typed ++ restarts_at (λ name. is_set (symbol_at saved (base_of declared name)).content && not (is_among assigned (base_of declared name))) targets)

abbrev seen_restart : ℕ → State → List ℕ → State → Seen → Option CompileError
seen_restart from saved assigned declared v = restart_from from saved assigned declared v.0 (told_by v.1).typed (targets_of v.1)

-- an error that may come first, by the views of statements
sooner-seen : (f : Stmt Frac → Option CompileError) (g : Seen → Option CompileError) → ((s : Stmt Frac) → f s ≡ g (seen s)) → (errors : List (Option CompileError)) (xs : List (Stmt Frac)) → each_sooner f errors xs ≡ each_sooner g errors (map seen xs)
sooner-seen f g same [] [] = refl
sooner-seen f g same [] (x ∷ xs) = refl
sooner-seen f g same (error ∷ errors) [] = refl
sooner-seen f g same (error ∷ errors) (x ∷ xs) =
    ap₂ (λ (o : Option CompileError) (os : List (Option CompileError)). sooner error o ∷ os) (same x) (sooner-seen f g same errors xs)

module _ (from : ℕ) (joint : Program Frac) where
  restart-is : (s : Stmt Frac) → restart_error from joint s ≡ seen_restart from (saved_names from joint) (saved_assigned from joint) (declared_state joint) (seen s)
  restart-is s =
      ap₂ (λ (t : Told) (targets : List (Place × ℕ)). restart_from from (saved_names from joint) (saved_assigned from joint) (declared_state joint) s.at t.typed targets) (sym (same-told s.act)) (sym (same-targets s))

  saved-names-are : saved_names from joint ≡ seen_declared (length joint.names) (seen_saved from (map seen joint.statements.items))
  saved-names-are =
      declared-are (saved_statements from joint) (blank_state (length joint.names)) ∙ ap (seen_declared (length joint.names)) (saved-are from joint.statements.items)

  saved-assigned-are : saved_assigned from joint ≡ map (base_of (declared_state joint)) (flat_map (λ (v : Seen). assigned_of v.1) (seen_saved from (map seen joint.statements.items)))
  saved-assigned-are =
      ap (map (base_of (declared_state joint))) (assigned-are (saved_statements from joint) ∙ ap (flat_map (λ (v : Seen). assigned_of v.1)) (saved-are from joint.statements.items))

module _ (one other : Program Frac) (alike : program_view frac_value one ≡ program_view frac_value other) where
  same-saved-names : (from : ℕ) → saved_names from one ≡ saved_names from other
  same-saved-names from =
      saved-names-are from one
      ∙ ap₂ (λ (count : ℕ) (vs : List Seen). seen_declared count (seen_saved from vs)) (same-count one other alike) (same-seen one other alike)
      ∙ sym (saved-names-are from other)

  same-saved-assigned : (from : ℕ) → saved_assigned from one ≡ saved_assigned from other
  same-saved-assigned from =
      saved-assigned-are from one
      ∙ ap₂ (λ (declared : State) (vs : List Seen). map (base_of declared) (flat_map (λ (v : Seen). assigned_of v.1) (seen_saved from vs))) (same-declared one other alike) (same-seen one other alike)
      ∙ sym (saved-assigned-are from other)

  same-each : (solvers : List (List ℕ)) → statement_errors frac_value one solvers ≡ statement_errors frac_value other solvers
  same-each solvers =
      errors-are one solvers [] one.statements.items
      ∙ ap₂ (λ (count : ℕ) (vs : List Seen). seen_errors count solvers (dynamic_sets one) [] vs) (same-count one other alike) (same-seen one other alike)
      ∙ ap (λ (dynamic : List ℕ). seen_errors (length other.names) solvers dynamic [] (map seen other.statements.items)) (same-assigned-sets one other alike)
      ∙ sym (errors-are other solvers [] other.statements.items)

  -- they have the same errors
  pub same-joint-errors : (from : ℕ) (solvers : List (List ℕ)) → joint_errors frac_value one from solvers ≡ joint_errors frac_value other from solvers
  same-joint-errors from solvers =
      ap (λ (errors : List (Option CompileError)). flat_map option_to_list errors)
      (sooner-seen (restart_error from one) (seen_restart from (saved_names from one) (saved_assigned from one) (declared_state one)) (restart-is from one) (statement_errors frac_value one solvers) one.statements.items
      ∙ ap₂ (λ (errors : List (Option CompileError)) (vs : List Seen). each_sooner (seen_restart from (saved_names from one) (saved_assigned from one) (declared_state one)) errors vs) (same-each solvers) (same-seen one other alike)
      ∙ ap₂ (λ (saved : State) (assigned : List ℕ). each_sooner (seen_restart from saved assigned (declared_state one)) (statement_errors frac_value other solvers) (map seen other.statements.items)) (same-saved-names from) (same-saved-assigned from)
      ∙ ap (λ (declared : State). each_sooner (seen_restart from (saved_names from other) (saved_assigned from other) declared) (statement_errors frac_value other solvers) (map seen other.statements.items)) (same-declared one other alike)
      ∙ sym (sooner-seen (restart_error from other) (seen_restart from (saved_names from other) (saved_assigned from other) (declared_state other)) (restart-is from other) (statement_errors frac_value other solvers) other.statements.items))

  -- and resume from the same state
  pub same-resumed : (saved : State) → resumed frac_value saved one ≡ resumed frac_value saved other
  same-resumed saved = ap (λ (state : State). overlaid state saved) (same-loaded one other alike)
