-- An answer carries the certificate of its end, so a valid solve can be listed.
use Rattle.std.proofs.Common.{◌≡◌, ℕ, List, length, map, Option, Some, None, sym, ap, ◌∙◌, subst, inl, inr, arith}
use Rattle.std.specs.Prelude.{IfSome}
use Rattle.std.proofs.lemmas.List.{length-map}
use Rattle.gq_number.specs.Number.{Number}
use Rattle.gms_event.specs.declared.event.Event.{Event}
use Rattle.gms_event.specs.declared.event.Event.TheVariants as event
use Rattle.lp_core.specs.declared.answer.Answer.{Answer}
use Rattle.lp_core.specs.declared.answer.Rule.{Rule}
use Rattle.lp_core.specs.declared.answer.Rule.TheVariants.{Legal}
use Rattle.lp_core.specs.declared.answer.End.{End}
use Rattle.lp_core.specs.declared.answer.EndKind.{EndKind}
use Rattle.lp_core.specs.declared.answer.EndKind.TheVariants as kind
use Rattle.lp_core.specs.declared.answer.StepName.{StepName}
use Rattle.lp_core.specs.declared.answer.End.TheVariants.{Optimal, Infeasible, Unbounded, Interrupted, Refused}
use Rattle.lp_core.specs.declared.program.Lp.{Lp}
use Rattle.lp_core.specs.Dictionary.{Dictionary}
use Rattle.lp_core.specs.Feasible.{Feasible}
use Rattle.lp_core.specs.Proofs as core_proofs
use Rattle.lp_core.specs.StandardForm.{Last}
use Rattle.lp_core.specs.Pivots.{IsAllowed, IsChosen}
use Rattle.lp_core.specs.Ends.{LeadsTo, EndsSoBy, ends_by_kind, limit_is_met, step_stops}
use Rattle.lp_core.specs.Answers.{EndsCrossed, IsAnswer, bounds_cross, form_stops, search_ends}
use Rattle.lp_slot.specs.declared.solver.SolverRule.{SolverRule}
use Rattle.lp_slot.proofs.Under.{legal_under}
use Rattle.gms_exec.specs.ValidEvents.{IsValidEvent}
use Rattle.gms_list.specs.Conditions.{HasProof, IsListable}

module _ {F : Type 0} (value : F → Number) (limit : ℕ) (lp : Lp F) (iterlim : ℕ) (rule : Rule) where
  of_crossed : (end : End F) → EndsCrossed value lp end → HasProof value lp end
  of_crossed end (duals, j, is, h) = subst (HasProof value lp) (sym is) h

  of_refused : (end : End F) (step : StepName) → end ≡ Refused step → HasProof value lp end
  of_refused end step is = subst (HasProof value lp) (sym is) tt

  -- in phase 2 an interrupted search ends at a feasible point of the program
  of_interrupted : (phase : ℕ) (last : Last) (levels row_levels : List F) → LeadsTo value lp kind.Interrupted last (Interrupted phase levels row_levels) → Feasible value lp (map value levels) → (length levels ≡ length lp.columns) × (length row_levels ≡ length lp.rows)
  of_interrupted phase last levels row_levels told point =
      (sym (length-map levels value) ∙ point.sized, sym (length-map row_levels value) ∙ ap length told.2 ∙ length-map lp.rows _)

  of_told : (how : EndKind) (last : Last) (end : End F) → LeadsTo value lp how last end → core_proofs.IsProved value lp end → HasProof value lp end
  of_told how last (Optimal levels row_levels duals reduced) told h = h
  of_told how last (Infeasible duals None) told h = h
  of_told how last (Infeasible duals (Some j)) told h = h
  of_told how last (Unbounded levels row_levels ray) told h = h
  of_told kind.Interrupted last (Interrupted phase levels row_levels) told h = λ second. of_interrupted phase last levels row_levels told h
  of_told kind.Optimal last (Interrupted phase levels row_levels) told h = absurd told
  of_told kind.Infeasible last (Interrupted phase levels row_levels) told h = absurd told
  of_told kind.Unbounded last (Interrupted phase levels row_levels) told h = absurd told
  of_told how last (Refused step) told h = absurd h

  not_second : ◌≡◌ {A = ℕ} 1 2 → ⊥
  not_second e = omega (arith, e)

  of_end : (pivots : ℕ) (d : Dictionary) (end : End F) → EndsSoBy value limit lp iterlim (IsAllowed rule d) (IsChosen rule d) pivots d end → HasProof value lp end
  of_end pivots d end (ends_by_kind how last at (inl told)) = of_told how last end told.0 told.2
  of_end pivots d end (ends_by_kind how last at (inr refused)) = of_refused end refused.0 refused.1
  of_end pivots d end (limit_is_met most one goes is) = subst (HasProof value lp) (sym is) (λ second. absurd (not_second second))
  of_end pivots d end (step_stops less step is stops) = of_refused end step is

  -- what proves the end of an answer
  pub proved : (answer : Answer F) → IsAnswer value limit lp iterlim rule answer → HasProof value lp answer.end
  proved answer (bounds_cross none crossed) = of_crossed answer.end crossed
  proved answer (form_stops none stopped) = of_refused answer.end stopped.1.0 stopped.1.1
  proved answer (search_ends ordered fit few last way ends) = of_end (length answer.pivots) last answer.end ends

-- a valid event can be listed
pub listable : {F : Type 0} (value : F → Number) (limit : ℕ) (rules : List SolverRule) (answers : List (Answer F)) (e : Event F) → IsValidEvent value limit rules answers e → IsListable value answers e
listable value limit rules answers (event.Display line items) is = is
listable value limit rules answers (event.Abort line items) is = is
listable value limit rules answers (event.Fault stop) is = tt
listable {F} value limit rules answers (event.Solve line model equations lp answer solver settings level) is =
    record {
      formed = is.formed;
      occurs = subst (λ (o : Option (Answer F)). IfSome o (λ a. HasProof value lp a.end)) (sym is.occurs) (proved value limit lp settings.iterlim Legal is.given (legal_under value limit lp settings.iterlim is.rule is.given is.is_answer));
    }
