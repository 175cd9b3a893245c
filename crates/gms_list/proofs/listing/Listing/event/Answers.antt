use Rattle.gms_eval.proofs.Entries.{at-some}
use Rattle.std.proofs.Common.{◌≡◌, ◌≤◌, ◌<◌, ◌∙◌, ◌++◌, ◌-◌, ◌^◌, length, ap, sym, refl, map, subst, arith, slice_get, Some}
use Rattle.std.specs.List.{All}
use Rattle.std.proofs.lemmas.Bool.Decides.{nat_tests}
use Rattle.std.proofs.lemmas.List.{append-nil}
use Rattle.std.proofs.lemmas.Option.{slice_get_read, slice_get_past}
use Rattle.gq_frac.specs.declared.frac.Frac.{Frac}
use Rattle.gq_frac.specs.Frac.{frac_value}
use Rattle.lp_core.specs.declared.answer.Answer.{Answer}
use Rattle.lp_core.specs.Numbers.{answer_numbers}
use Rattle.gms_eval.specs.Gives.{fault_of_stop}
use Rattle.gms_event.specs.declared.event.Shown.{Shown}
use Rattle.gms_event.specs.EventView.{event_in, shown_in}
use Rattle.gms_list.specs.Conditions.{IsListable, IsListableSolve, HasProof}
use Rattle.gms_list.specs.ListingText.{event_text, items_text, stop_text}
use Rattle.gms_list.proofs.AppendedPieces.{reshaped}
use Rattle.gms_list.proofs.EventTexts.{solve_shown, solve_missing}
use Rattle.gms_list.proofs.listing.Listing.event.Goals as goal

pub push_items-requires : goal.push_items-requires
push_items-requires c =
    let few : All (λ (item : Shown Frac). item.decimals ≤ 8) c.in-Display.items = subst (IsListable frac_value c.args.answers.now) c.in-Display.is c.requires in
    subst (All (λ (item : Shown Frac). item.decimals ≤ 8)) (sym c.as_slice.ensures) few

pub push_items-requires-in-Abort : goal.push_items-requires-in-Abort
push_items-requires-in-Abort c =
    let few : All (λ (item : Shown Frac). item.decimals ≤ 8) c.in-Abort.items = subst (IsListable frac_value c.args.answers.now) c.in-Abort.is c.requires in
    subst (All (λ (item : Shown Frac). item.decimals ≤ 8)) (sym c.as_slice-in-Abort.ensures) few

pub push_solve-requires : goal.push_solve-requires
push_solve-requires c =
    let listable : IsListableSolve frac_value c.args.answers.now c.in-Solve.lp c.in-Solve.answer = subst (IsListable frac_value c.args.answers.now) c.in-Solve.is c.requires in
    let there : c.in-Solve.answer < length c.args.answers.now = grind (arith, nat_tests) in
    let found : slice_get c.args.answers.now c.in-Solve.answer ≡ Some c.in-Some.answer.now = slice_get_read c.args.answers.now (length c.args.answers.now) c.in-Solve.answer c.in-Some.answer.now refl there c.in-Some.ensures.lookup.1 in
    record {
      formed = listable.formed;
      proved = at-some (λ (a : Answer Frac). HasProof frac_value c.in-Solve.lp a.end) (slice_get c.args.answers.now c.in-Solve.answer) c.in-Some.answer.now found listable.occurs;
    }

pub returns-in-Display : goal.returns-in-Display
returns-in-Display c =
    reshaped _ _ _ _ c.push_items.result
    (ap (λ items. items_text c.args.p.now.names c.args.p.now.labels c.in-Display.line (map (shown_in frac_value) items)) c.as_slice.ensures
    ∙ ap (λ e. event_text c.args.p.now.names c.args.p.now.labels (2 ^ 127 - 1) (map (answer_numbers frac_value) c.args.answers.now) (event_in frac_value e)) (sym c.in-Display.is))
    c.push_items.ensures

pub returns-in-Abort : goal.returns-in-Abort
returns-in-Abort c =
    reshaped _ _ _ _ c.push_items-in-Abort.result
    (ap (λ items. items_text c.args.p.now.names c.args.p.now.labels c.in-Abort.line (map (shown_in frac_value) items)) c.as_slice-in-Abort.ensures
    ∙ ap (λ e. event_text c.args.p.now.names c.args.p.now.labels (2 ^ 127 - 1) (map (answer_numbers frac_value) c.args.answers.now) (event_in frac_value e)) (sym c.in-Abort.is))
    c.push_items-in-Abort.ensures

pub returns-in-Fault : goal.returns-in-Fault
returns-in-Fault c =
    reshaped _ _ _ _ c.push_stop.result
    (ap (λ stop. stop_text c.args.p.now.names c.args.p.now.labels (fault_of_stop frac_value stop)) c.deref.ensures
    ∙ ap (λ e. event_text c.args.p.now.names c.args.p.now.labels (2 ^ 127 - 1) (map (answer_numbers frac_value) c.args.answers.now) (event_in frac_value e)) (sym c.in-Fault.is))
    c.push_stop.ensures

pub returns-in-Some : goal.returns-in-Some
returns-in-Some c =
    let there : c.in-Solve.answer < length c.args.answers.now = grind (arith, nat_tests) in
    let found : slice_get c.args.answers.now c.in-Solve.answer ≡ Some c.in-Some.answer.now = slice_get_read c.args.answers.now (length c.args.answers.now) c.in-Solve.answer c.in-Some.answer.now refl there c.in-Some.ensures.lookup.1 in
    reshaped _ _ _ _ c.push_solve.result
    (solve_shown c.args.p.now.names c.args.p.now.labels (2 ^ 127 - 1) frac_value c.in-Solve.line c.in-Solve.model c.in-Solve.equations c.in-Solve.lp c.in-Solve.answer c.in-Solve.solver c.in-Solve.settings c.in-Solve.objective_level c.args.answers.now _ _ c.in-Some.answer.now c.as_slice-in-Solve.ensures c.as_slice-in-Solve-2.ensures found
    ∙ ap (λ e. event_text c.args.p.now.names c.args.p.now.labels (2 ^ 127 - 1) (map (answer_numbers frac_value) c.args.answers.now) (event_in frac_value e)) (sym c.in-Solve.is))
    (c.push_solve.ensures c.in-Solve.answer)

pub returns-in-None : goal.returns-in-None
returns-in-None c =
    let past : length c.args.answers.now ≤ c.in-Solve.answer = grind (arith, nat_tests) in
    sym (append-nil c.args.self.now)
    ∙ ap (λ t. c.args.self.now ++ t)
    (solve_missing c.args.p.now.names c.args.p.now.labels (2 ^ 127 - 1) frac_value c.in-Solve.line c.in-Solve.model c.in-Solve.equations c.in-Solve.lp c.in-Solve.answer c.in-Solve.solver c.in-Solve.settings c.in-Solve.objective_level c.args.answers.now (slice_get_past c.args.answers.now c.in-Solve.answer past)
    ∙ ap (λ e. event_text c.args.p.now.names c.args.p.now.labels (2 ^ 127 - 1) (map (answer_numbers frac_value) c.args.answers.now) (event_in frac_value e)) (sym c.in-Solve.is))
