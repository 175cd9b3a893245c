use Rattle.std.proofs.lemmas.Bool.{both_ways}
use Rattle.std.proofs.Common.{◌≤◌, ◌^◌, ℕ, true, false, List, length, sym, subst, arith}
use Rattle.gq_frac.specs.Frac.{frac_value}
use Rattle.gms_store.specs.State.{State}
use Rattle.gms_scope.specs.DynamicSets.{dynamic_sets}
use Rattle.gms_check.specs.Loaded.{loaded}
use Rattle.gms_check.specs.Past.{is_among}
use Rattle.gms_save.specs.InnerRestoreSteps.{IsSavedIn}
use Rattle.gms_save.specs.Saves.{with_solver}
use Rattle.gms_save.proofs.Restored.{unread_state}
use Rattle.gms_save.proofs.SavedNames.{saved-placed}
use Rattle.gms_save.proofs.restoring.saved_state.Goals as goal

few_labels : (labels : ℕ) → labels ≤ 65536 → labels ≤ 2 ^ 32
few_labels labels few = omega (arith, few)

pub is_saved-requires-clause-accepted : goal.is_saved-requires-clause-accepted
is_saved-requires-clause-accepted c = c.requires

pub is_saved-requires-clause-declares : goal.is_saved-requires-clause-declares
is_saved-requires-clause-declares c = c.in_ok-store.ensures.declared

pub returns-in_err-store : goal.returns-in_err-store
returns-in_err-store c =
    let program = c.args.program.now in
    unread_state _ _ _ _ program c.args.text.now c.from_residual.ensures.1 (λ state solver saved is. c.in_err-store.ensures.state (length program.labels) (loaded frac_value program) (is_among (dynamic_sets program)) state solver (few_labels (length program.labels) c.len-labels.ensures.labels.few) saved is)

pub returns-then-not-branch : goal.returns-then-not-branch
returns-then-not-branch c =
    let program = c.args.program.now in
    λ state solver saved is.
    let found = c.in_ok-store.ensures.state (length program.labels) (loaded frac_value program) (is_among (dynamic_sets program)) state solver (few_labels (length program.labels) c.len-labels.ensures.labels.few) saved is in
    let placed = saved-placed program state 0 solver saved in
    let here : IsSavedIn program c.in_ok-store.store c.in_ok-store.solver.now = subst (λ (s : State). IsSavedIn program s c.in_ok-store.solver.now) (sym found.0) (subst (λ (n : List ℕ). IsSavedIn program (with_solver state 0) n) (sym found.1) placed) in
    both_ways c.in_ok-is_saved.field-0 c.if-not-branch.true (c.in_ok-is_saved.ensures.1 here)

pub returns : goal.returns
returns c =
    let program = c.args.program.now in
    let few = few_labels (length program.labels) c.len-labels.ensures.labels.few in
    record {
      is_saved = c.in_ok-is_saved.ensures.0 c.if-not-branch.false;
      same_state = λ other name saved is. (c.in_ok-store.ensures.state (length program.labels) (loaded frac_value program) (is_among (dynamic_sets program)) other name few saved is).0;
      same_solver = λ other name saved is. (c.in_ok-store.ensures.state (length program.labels) (loaded frac_value program) (is_among (dynamic_sets program)) other name few saved is).1;
    }
