use Rattle.std.proofs.Common.{◌∙◌, ◌∷◌, ◌++◌, [], ℕ, List, length, ap, refl}
use Rattle.gms_event.specs.declared.event.Event.TheVariants as event
use Rattle.gms_store.specs.State.{attributes_of}
use Rattle.gms_rows.specs.Rows.{equations_of}
use Rattle.gms_exec.proofs.SolveRuns.{counted, extended-same, extended-one}
use Rattle.gms_exec.proofs.solving.show_solve.Goals as goal

pub returns-in_err-equations-clause-answers : goal.returns-in_err-equations-clause-answers
returns-in_err-equations-clause-answers g c = extended-same c.args.answers.now.items c.args.answers.now.items refl

pub returns-in_err-equations-clause-events : goal.returns-in_err-equations-clause-events
returns-in_err-equations-clause-events g c = extended-same c.args.events.now.items c.args.events.now.items refl

pub returns-in_err-push-clause-answers : goal.returns-in_err-push-clause-answers
returns-in_err-push-clause-answers g c = extended-same c.args.answers.now.items c.push.new.self.items c.in_err-push.ensures.items

pub returns-in_err-push-clause-events : goal.returns-in_err-push-clause-events
returns-in_err-push-clause-events g c = extended-same c.args.events.now.items c.args.events.now.items refl

pub returns-in_err-push-2-clause-answers : goal.returns-in_err-push-2-clause-answers
returns-in_err-push-2-clause-answers g c = extended-one c.args.answers.now.items c.push.new.self.items c.args.answer c.in_ok-push.ensures.items

pub returns-in_err-push-2-clause-events : goal.returns-in_err-push-2-clause-events
returns-in_err-push-2-clause-events g c = extended-same c.args.events.now.items c.push-2.new.self.items c.in_err-push-2.ensures.items

pub returns-clause-answers : goal.returns-clause-answers
returns-clause-answers g c = extended-one c.args.answers.now.items c.push.new.self.items c.args.answer c.in_ok-push.ensures.items

pub returns-clause-events : goal.returns-clause-events
returns-clause-events g c = extended-one c.args.events.now.items c.push-2.new.self.items _ c.in_ok-push-2.ensures.items

pub returns-clause-shows : goal.returns-clause-shows
returns-clause-shows g c =
    let s = c.args.s in
    let level = c.level-objective_level.result in
    let old = c.args.events.now.items in
    let equations = equations_of c.args.program.now.statements.items s.model in
    record {
      level = level;
      is_level = c.level-objective_level.ensures ∙ ap (λ (t : List ℕ). (attributes_of c.args.store.now s.objective t).level) c.new.ensures;
      answers = c.in_ok-push.ensures.items;
      events =
          c.in_ok-push-2.ensures.items
          ∙ ap (λ (ns : List ℕ). old ++ event.Solve s.at.line s.model ns c.args.lp c.len.result c.new-3.result c.args.settings level ∷ []) (c.new-2.ensures ∙ c.in_ok-equations.ensures)
          ∙ ap (λ (n : ℕ). old ++ event.Solve s.at.line s.model equations c.args.lp n c.new-3.result c.args.settings level ∷ []) (counted c.len.result c.args.answers.now c.len.ensures)
          ∙ ap (λ (name : List ℕ). old ++ event.Solve s.at.line s.model equations c.args.lp (length c.args.answers.now.items) name c.args.settings level ∷ []) c.new-3.ensures;
    }
