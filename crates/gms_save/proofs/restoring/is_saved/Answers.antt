use Rattle.std.proofs.lemmas.Bool.{both_ways}
use Rattle.std.proofs.Common.{◌∙◌, true, false, refl, sym, ap}
use Rattle.gms_save_text.specs.Validity.{are_in_range}
use Rattle.std.proofs.lemmas.Result.{IfOk-weaker}
use Rattle.gms_save.proofs.SavedNames.{names-from-saved, same-declares, saved-from-names}
use Rattle.gms_save.proofs.restoring.is_saved.Goals as goal

pub returns-then-not-are_in_range : goal.returns-then-not-are_in_range
returns-then-not-are_in_range c =
    (λ e. absurd (both_ways false refl e), λ saved. absurd (both_ways c.are_in_range.result c.if-not-are_in_range.true (c.are_in_range.ensures ∙ ap are_in_range c.settings.ensures ∙ saved.ranges)))

pub returns-then-not-is_solver_name : goal.returns-then-not-is_solver_name
returns-then-not-is_solver_name c =
    (λ e. absurd (both_ways false refl e), λ saved. absurd (both_ways c.is_solver_name.result c.if-not-is_solver_name.true (c.is_solver_name.ensures ∙ saved.named)))

pub are_saved-requires : goal.are_saved-requires
are_saved-requires c =
    same-declares c.args.program.now c.args.store.now c.in_ok-first.first c.in_ok-assigned.assigned c.len.result c.len-2.result c.args.solver.now c.requires.declares c.in_ok-first.ensures c.in_ok-assigned.ensures c.len.ensures.len c.len-2.ensures.len

pub returns : goal.returns
returns c =
    let program = c.args.program.now in
    let store = c.args.store.now in
    let first = c.in_ok-first.first in
    let marks = c.in_ok-assigned.assigned in
    let solver = c.args.solver.now in
    let ranges = sym (c.are_in_range.ensures ∙ ap are_in_range c.settings.ensures) ∙ c.if-not-are_in_range.false in
    let named = sym c.is_solver_name.ensures ∙ c.if-not-is_solver_name.false in
    IfOk-weaker c.are_saved.result _ _ (λ all says. (
      λ e. saved-from-names program store first marks c.len.result c.len-2.result solver c.requires.declares c.in_ok-first.ensures c.in_ok-assigned.ensures c.len.ensures.len c.len-2.ensures.len (says.0 e) ranges named,
      λ saved. says.1 (names-from-saved program store first marks c.len.result c.len-2.result solver c.requires.declares c.in_ok-first.ensures c.in_ok-assigned.ensures c.len.ensures.len c.len-2.ensures.len saved),
    )) c.are_saved.ensures
