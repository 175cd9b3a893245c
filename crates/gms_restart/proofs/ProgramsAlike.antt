-- Programs with equal views run alike, from their first states and from a save.
use Rattle.std.proofs.Common.{◌≡◌, ℕ, Bool, true, false, List, [], ◌∷◌, drop, length, map, suc, refl, sym, ap, ap₂, ◌∙◌}
use Rattle.std.specs.Prelude.{filter, if◌then◌else◌, nat_lt}
use Rattle.std.proofs.lemmas.List.{drop-map}
use Rattle.gq_number.specs.Number.{Number}
use Rattle.gq_frac.specs.declared.frac.Frac.{Frac}
use Rattle.gq_frac.specs.Frac.{frac_value}
use Rattle.gms_ast.specs.declared.program.Stmt.{Stmt}
use Rattle.gms_parse.specs.Outcomes.{program_view}
use Rattle.gms_store.specs.State.{State}
use Rattle.gms_check.specs.Loaded.{loaded}
use Rattle.gms_exec.specs.Run.{World, labels_in, run_from}
use Rattle.gms_save.specs.JointErrors.{is_saved, resumed, saved_statements}
use Rattle.gms_save.proofs.SeenJoints.{same-resumed}
use Rattle.gms_save.proofs.SeenPrograms.{Seen, same-labels, same-loaded, same-seen, seen}
use Rattle.gms_restart.specs.Restarts.{restarted_run, whole_run}
use Rattle.gms_restart.proofs.SeenRuns.{seen-alike}
use Rattle.lp_core.specs.declared.answer.Answer.{Answer}

-- the views of statements determine how many begin above a line
abbrev seen_count : ℕ → List Seen → ℕ
seen_count from vs = length (filter (λ (v : Seen). nat_lt v.0.line from) vs)

count-is : (from : ℕ) (xs : List (Stmt Frac)) → length (filter (is_saved from) xs) ≡ seen_count from (map seen xs)
count-is from [] = refl
count-is from (x ∷ xs) =
    by (is_saved from x) (filter (λ (v : Seen). nat_lt v.0.line from) (map seen xs)) (count-is from xs)
  where
    by : (b : Bool) (early : List Seen) → length (filter (is_saved from) xs) ≡ length early → length (if b then x ∷ filter (is_saved from) xs else filter (is_saved from) xs) ≡ length (if b then seen x ∷ early else early)
    by true early rest = ap suc rest
    by false early rest = rest

module _ (limit : ℕ) (one other : World Frac) (alike : program_view frac_value one.program ≡ program_view frac_value other.program) (solvers : one.solvers ≡ other.solvers) where
  items-alike : map seen one.program.statements.items ≡ map seen other.program.statements.items
  items-alike = same-seen one.program other.program alike

  labels-alike : labels_in one ≡ labels_in other
  labels-alike = ap (λ (labels : List (List ℕ)). length labels) (same-labels one.program other.program alike)

  -- the runs of both from their first states
  pub whole-alike : (answers : List (Answer Number)) → whole_run frac_value limit one answers ≡ whole_run frac_value limit other answers
  whole-alike answers =
      ap (λ (state : State). run_from frac_value limit one state answers one.program.statements.items) (same-loaded one.program other.program alike)
      ∙ seen-alike limit one other (loaded frac_value other.program) answers one.program.statements.items other.program.statements.items labels-alike solvers items-alike items-alike

  -- as many statements begin above a line
  count-alike : (from : ℕ) → length (saved_statements from one.program) ≡ length (saved_statements from other.program)
  count-alike from =
      count-is from one.program.statements.items ∙ ap (seen_count from) items-alike ∙ sym (count-is from other.program.statements.items)

  -- the runs of both from a save
  pub restarted-alike : (from : ℕ) (state : State) (answers : List (Answer Number)) → restarted_run frac_value limit from one state answers ≡ restarted_run frac_value limit from other state answers
  restarted-alike from state answers =
      let n = length (saved_statements from other.program) in
      let xs = one.program.statements.items in
      let ys = other.program.statements.items in
      let others : map seen (drop n xs) ≡ map seen (drop n ys) = sym (drop-map seen n xs) ∙ ap (drop n) items-alike ∙ drop-map seen n ys in
      ap₂ (λ (first : State) (k : ℕ). run_from frac_value limit one first answers (drop k xs)) (same-resumed one.program other.program alike state) (count-alike from)
      ∙ seen-alike limit one other (resumed frac_value state other.program) answers (drop n xs) (drop n ys) labels-alike solvers items-alike others
