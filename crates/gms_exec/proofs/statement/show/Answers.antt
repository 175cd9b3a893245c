use Rattle.std.proofs.Common.{◌∷◌, [], ap, refl, sym, append-nil}
use Rattle.gms_event.specs.Events.{displays}
use Rattle.gms_event.specs.declared.event.Event.TheVariants as event
use Rattle.gms_exec.specs.Run.{with_evaluated, with_event, display}
use Rattle.gms_exec.specs.Stepping.{course_from_view}
use Rattle.std.proofs.lemmas.Result.{err_from_is_err_and}
use Rattle.gms_exec.specs.Showing.{all_shown}
use Rattle.gms_exec.proofs.Arms.{runs-event, runs-value_stops, runs-memory, no-solve_nothing}
use Rattle.gms_exec.proofs.Decimals.{few-decimals}
use Rattle.gms_exec.proofs.ValidSequences.{valid-nothing, valid-display}
use Rattle.gms_exec.proofs.statement.show.Goals as goal

pub returns : goal.returns
returns g c =
    let v = g.F.ExactField.value in
    let old = c.args.events.now.items in
    let shown = event.Display c.args.at.line c.in_ok-items.items in
    record {
      runs = λ answers. runs-event v tt (display v g.F.ExactField.limit c.args.labels c.args.items.now c.args.at c.args.b.now) c.args.store.now old c.push.new.self.items shown answers c.in_ok-push.ensures.items (λ left.
          let course = course_from_view v (record { state = c.args.store.now; events = old; answers = answers }) left in
          ap (λ answer. with_evaluated answer (λ shown. with_event course (displays c.args.at.line shown)) course) c.in_ok-items.ensures);
      quiet = record { shown = shown ∷ []; events = c.in_ok-push.ensures.items; quiet = tt };
      valid = λ rules answers. valid-display v g.F.ExactField.limit rules answers old c.push.new.self.items c.args.at.line c.in_ok-items.items c.in_ok-push.ensures.items (few-decimals c.args.labels c.args.store.now c.args.b.now v c.args.items.now c.in_ok-items.items c.in_ok-items.ensures c.requires.decimals);
    }

pub returns-in_err-items : goal.returns-in_err-items
returns-in_err-items g c =
    let v = g.F.ExactField.value in
    let old = c.args.events.now.items in
    let p = err_from_is_err_and c.from_residual.result c.from_residual.ensures.1 in
    rw (p.1, p.2) (record {
      runs = λ answers. runs-value_stops v c.in_err-items.field-0.0 (display v g.F.ExactField.limit c.args.labels c.args.items.now c.args.at c.args.b.now) (record { state = c.args.store.now; events = old; answers = answers }) (all_shown c.args.labels c.args.store.now c.args.b.now c.args.items.now) (λ course shown. with_event course (displays c.args.at.line shown)) c.in_err-items.ensures (λ left. refl);
      quiet = no-solve_nothing old old refl;
      valid = λ rules answers. valid-nothing v g.F.ExactField.limit rules answers old old refl;
    })

pub returns-in_err-push : goal.returns-in_err-push
returns-in_err-push g c =
    let v = g.F.ExactField.value in
    let old = c.args.events.now.items in
    let p = err_from_is_err_and c.from_residual-in_err-push.result c.from_residual-in_err-push.ensures.1 in
    rw p.1 (record {
      runs = λ answers. runs-memory v p.0 (display v g.F.ExactField.limit c.args.labels c.args.items.now c.args.at c.args.b.now) (record { state = c.args.store.now; events = old; answers = answers }) (record { state = c.args.store.now; events = c.push.new.self.items; answers = answers }) [] p.2 c.in_err-push.ensures.items (sym (append-nil answers));
      quiet = no-solve_nothing old c.push.new.self.items c.in_err-push.ensures.items;
      valid = λ rules answers. valid-nothing v g.F.ExactField.limit rules answers old c.push.new.self.items c.in_err-push.ensures.items;
    })
