use Rattle.std.proofs.Common.{◌≡◌, ℕ, List, ◌∷◌, ◌++◌, [], ap, sym, subst, ◌∙◌}
use Rattle.std.specs.Prelude.{◌↔◌, codes}
use denote.Param.Object.{read_made}
use Rattle.lp_core.specs.declared.answer.Pivot.{Pivot}
use Rattle.lp_slot.specs.declared.solver.SolverRule.{SolverRule}
use Rattle.gms_run.specs.Solving.{Solvers}
use Rattle.gms_run.specs.Statuses.{CanRun, NamesProgram}
use Rattle.gms_run.specs.declared.status.Status.TheVariants.{Compile}
use Rattle.gms_command.specs.CommandLine.{texts}
use Rattle.gms25.proofs.Lent.{are_lent, names_lent}
use Rattle.gms25.proofs.run_with_solvers.OwnLists.{at-1-1, at-1-2, at-1-3, at-1-4, entry-1-1, entry-1-2, entry-1-3, entry-1-4, own-1, same-1-1, same-1-2, same-1-3, same-1-4}
use Rattle.gms25.proofs.run_with_solvers.Goals as goal

pub returns-clause-run : goal.returns-clause-run
returns-clause-run g c =
    let first = c.into_dyn_box.result in
    let second = c.into_dyn_box-in_ok-new-2.result in
    let third = c.into_dyn_box-in_ok-new-3.result in
    let fourth = c.into_dyn_box-in_ok-new-4.result in
    let lent = c.in_ok-push-4.ensures.items ∙ ap (λ xs. xs ++ fourth ∷ []) (c.in_ok-push-3.ensures.items ∙ ap (λ xs. xs ++ third ∷ []) (c.in_ok-push-2.ensures.items ∙ ap (λ xs. xs ++ second ∷ []) (c.in_ok-push.ensures.items ∙ ap (λ xs. xs ++ first ∷ []) c.new-solvers.ensures.items))) in
    let lends =
    are_lent (λ b. (own-1.entry b.vtable).1.name b.value) (λ b. (own-1.entry b.vtable).1.rule b.value) (λ b. (own-1.entry b.vtable).1.paths b.value) c.push-4.new.self.items first second third fourth lent
    (record {
      named = read_made own-1 entry-1-1 at-1-1 same-1-1 (List ℕ) (λ j w. j.1.name w) first.vtable first.value c.in_ok-new.field-0.value c.into_dyn_box.ensures.1;
      ruled = read_made own-1 entry-1-1 at-1-1 same-1-1 SolverRule (λ j w. j.1.rule w) first.vtable first.value c.in_ok-new.field-0.value c.into_dyn_box.ensures.1;
      unused = read_made own-1 entry-1-1 at-1-1 same-1-1 (List (List Pivot)) (λ j w. j.1.paths w) first.vtable first.value c.in_ok-new.field-0.value c.into_dyn_box.ensures.1 ∙ c.in_ok-new.ensures.ok ∙ c.new.ensures;
    })
    (record {
      named = read_made own-1 entry-1-2 at-1-2 same-1-2 (List ℕ) (λ j w. j.1.name w) second.vtable second.value c.in_ok-new-2.field-0.value c.into_dyn_box-in_ok-new-2.ensures.1;
      ruled = read_made own-1 entry-1-2 at-1-2 same-1-2 SolverRule (λ j w. j.1.rule w) second.vtable second.value c.in_ok-new-2.field-0.value c.into_dyn_box-in_ok-new-2.ensures.1;
      unused = read_made own-1 entry-1-2 at-1-2 same-1-2 (List (List Pivot)) (λ j w. j.1.paths w) second.vtable second.value c.in_ok-new-2.field-0.value c.into_dyn_box-in_ok-new-2.ensures.1 ∙ c.in_ok-new-2.ensures.ok ∙ c.new-3.ensures;
    })
    (record {
      named = read_made own-1 entry-1-3 at-1-3 same-1-3 (List ℕ) (λ j w. j.1.name w) third.vtable third.value c.in_ok-new-3.field-0.value c.into_dyn_box-in_ok-new-3.ensures.1;
      ruled = read_made own-1 entry-1-3 at-1-3 same-1-3 SolverRule (λ j w. j.1.rule w) third.vtable third.value c.in_ok-new-3.field-0.value c.into_dyn_box-in_ok-new-3.ensures.1;
      unused = read_made own-1 entry-1-3 at-1-3 same-1-3 (List (List Pivot)) (λ j w. j.1.paths w) third.vtable third.value c.in_ok-new-3.field-0.value c.into_dyn_box-in_ok-new-3.ensures.1 ∙ c.in_ok-new-3.ensures.ok ∙ c.new-5.ensures;
    })
    (record {
      named = read_made own-1 entry-1-4 at-1-4 same-1-4 (List ℕ) (λ j w. j.1.name w) fourth.vtable fourth.value c.in_ok-new-4.field-0.value c.into_dyn_box-in_ok-new-4.ensures.1;
      ruled = read_made own-1 entry-1-4 at-1-4 same-1-4 SolverRule (λ j w. j.1.rule w) fourth.vtable fourth.value c.in_ok-new-4.field-0.value c.into_dyn_box-in_ok-new-4.ensures.1;
      unused = read_made own-1 entry-1-4 at-1-4 same-1-4 (List (List Pivot)) (λ j w. j.1.paths w) fourth.vtable fourth.value c.in_ok-new-4.field-0.value c.into_dyn_box-in_ok-new-4.ensures.1 ∙ c.in_ok-new-4.ensures.ok ∙ c.new-7.ensures;
    }) in
    record {
      solving = _;
      lends = lends;
      headline = c.in_ok-ended.ensures.headline;
      run = c.in_ok-ended.ensures.run;
      answers = c.in_ok-ended.ensures.answers;
      compile = λ source none. subst (λ (names : List (List ℕ)). (c.in_ok-ended.ended.status ≡ Compile) ↔ ¬ (CanRun names source.taken)) (ap (λ (s : Solvers). s.names) lends) (c.in_ok-ended.ensures.compile source none);
      execution = c.in_ok-ended.ensures.execution;
    }

pub returns-clause-complete : goal.returns-clause-complete
returns-clause-complete g c = λ names none.
    let first = c.into_dyn_box.result in
    let second = c.into_dyn_box-in_ok-new-2.result in
    let third = c.into_dyn_box-in_ok-new-3.result in
    let fourth = c.into_dyn_box-in_ok-new-4.result in
    let lent = c.in_ok-push-4.ensures.items ∙ ap (λ xs. xs ++ fourth ∷ []) (c.in_ok-push-3.ensures.items ∙ ap (λ xs. xs ++ third ∷ []) (c.in_ok-push-2.ensures.items ∙ ap (λ xs. xs ++ second ∷ []) (c.in_ok-push.ensures.items ∙ ap (λ xs. xs ++ first ∷ []) c.new-solvers.ensures.items))) in
    let first_name : (own-1.entry first.vtable).1.name first.value ≡ codes "bland" = read_made own-1 entry-1-1 at-1-1 same-1-1 (List ℕ) (λ j w. j.1.name w) first.vtable first.value c.in_ok-new.field-0.value c.into_dyn_box.ensures.1 in
    let second_name : (own-1.entry second.vtable).1.name second.value ≡ codes "dantzig" = read_made own-1 entry-1-2 at-1-2 same-1-2 (List ℕ) (λ j w. j.1.name w) second.vtable second.value c.in_ok-new-2.field-0.value c.into_dyn_box-in_ok-new-2.ensures.1 in
    let third_name : (own-1.entry third.vtable).1.name third.value ≡ codes "steepest" = read_made own-1 entry-1-3 at-1-3 same-1-3 (List ℕ) (λ j w. j.1.name w) third.vtable third.value c.in_ok-new-3.field-0.value c.into_dyn_box-in_ok-new-3.ensures.1 in
    let fourth_name : (own-1.entry fourth.vtable).1.name fourth.value ≡ codes "any" = read_made own-1 entry-1-4 at-1-4 same-1-4 (List ℕ) (λ j w. j.1.name w) fourth.vtable fourth.value c.in_ok-new-4.field-0.value c.into_dyn_box-in_ok-new-4.ensures.1 in
    c.in_ok-ended.ensures.complete
    (subst (λ ns. NamesProgram ns (g.H.Host.meaning c.args.host.now).outside (texts c.args.words.now)) (sym (names_lent (λ b. (own-1.entry b.vtable).1.name b.value) c.push-4.new.self.items first second third fourth lent first_name second_name third_name fourth_name)) names) none
