use Rattle.std.proofs.Common.{◌≡◌, ◌<◌, ℕ, List, length, length-set, Some, sym, ap, ◌∙◌, subst, arith}
use Rattle.std.specs.Prelude.{slice_get}
use Rattle.lp_integer_rows.specs.declared.line.Line.{Line}
use Rattle.lp_integer_rows.specs.Form.{IsPlan, AreLinesExchanged, AreTurned}
use Rattle.lp_integer_rows.proofs.Plans.{plan_put, turned_lines, set_other}
use Rattle.lp_integer_rows.proofs.exchange.exchange_lines.Goals as goal

pub apply_plans-requires-clause-planned : goal.apply_plans-requires-clause-planned
apply_plans-requires-clause-planned c =
    let bound : ℕ = c.requires.planned.0 in
    let pivot : Line = c.spare_zeros.new.line in
    let plan : IsPlan bound c.args.column c.args.place c.args.lines.now.items pivot c.args.plans.now = c.requires.planned.1 pivot (c.put_line-pivot.ensures.given ∙ ap (λ (l : Line). Some l) (sym c.in_ok-spare_zeros.ensures)) in
    (bound, c.args.column, plan_put bound c.args.column c.args.place c.args.lines.now.items c.put_line-pivot.new.lines.items pivot _ c.args.plans.now c.put_line-pivot.ensures.put plan)

pub put_line-requires : goal.put_line-requires
put_line-requires c =
    let bound : ℕ = c.requires.planned.0 in
    let pivot : Line = c.spare_zeros.new.line in
    let plan : IsPlan bound c.args.column c.args.place c.args.lines.now.items pivot c.args.plans.now = c.requires.planned.1 pivot (c.put_line-pivot.ensures.given ∙ ap (λ (l : Line). Some l) (sym c.in_ok-spare_zeros.ensures)) in
    let h = c.in_ok-apply_plans.ensures bound c.args.column (plan_put bound c.args.column c.args.place c.args.lines.now.items c.put_line-pivot.new.lines.items pivot _ c.args.plans.now c.put_line-pivot.ensures.put plan) in
    let sized = h.sized in
    let put : length c.put_line-pivot.new.lines.items ≡ length c.args.lines.now.items = ap length c.put_line-pivot.ensures.put ∙ length-set c.args.lines.now.items c.args.place _ in
    let within : c.args.place < length c.args.lines.now.items = c.requires.within in
    omega arith

pub returns : goal.returns
returns c =
    let bound : ℕ = c.requires.planned.0 in
    let items : List Line = c.args.lines.now.items in
    let pivot : Line = c.spare_zeros.new.line in
    let plan : IsPlan bound c.args.column c.args.place items pivot c.args.plans.now = c.requires.planned.1 pivot (c.put_line-pivot.ensures.given ∙ ap (λ (l : Line). Some l) (sym c.in_ok-spare_zeros.ensures)) in
    let h = c.in_ok-apply_plans.ensures bound c.args.column (plan_put bound c.args.column c.args.place items c.put_line-pivot.new.lines.items pivot _ c.args.plans.now c.put_line-pivot.ensures.put plan) in
    let put : length c.put_line-pivot.new.lines.items ≡ length items = ap length c.put_line-pivot.ensures.put ∙ length-set items c.args.place _ in
    subst (λ ls. AreTurned c.args.column c.args.place c.args.plans.now items ls) (sym c.put_line.ensures.put)
    (turned_lines c.args.column c.args.place c.args.plans.now items c.apply_plans.new.lines.items pivot _ c.turn_pivot.new.line (length c.put_line-pivot.new.lines.items) c.requires.within (c.put_line-pivot.ensures.given ∙ ap (λ (l : Line). Some l) (sym c.in_ok-spare_zeros.ensures)) put plan.planned.sized plan.planned.own
    (subst (λ ls. AreLinesExchanged c.args.column c.args.place pivot c.args.plans.now ls c.apply_plans.new.lines.items (length c.put_line-pivot.new.lines.items)) c.put_line-pivot.ensures.put h) c.in_ok-turn_pivot.ensures)

pub apply_plans-requires-clause-lines : goal.apply_plans-requires-clause-lines
apply_plans-requires-clause-lines c = (
  c.requires.lines.0,
  λ i l other at. c.requires.lines.1 i l (sym (set_other c.args.lines.now.items c.args.place i _ other) ∙ subst (λ ls. slice_get ls i ≡ Some l) c.put_line-pivot.ensures.put at),
  (c.requires.lines.1 c.args.place c.spare_zeros.new.line (c.put_line-pivot.ensures.given ∙ ap (λ (l : Line). Some l) (sym c.in_ok-spare_zeros.ensures))).1,
)

pub apply_plans-requires-clause-pivot : goal.apply_plans-requires-clause-pivot
apply_plans-requires-clause-pivot c = (c.requires.lines.1 c.args.place c.spare_zeros.new.line (c.put_line-pivot.ensures.given ∙ ap (λ (l : Line). Some l) (sym c.in_ok-spare_zeros.ensures))).0

pub turn_pivot-requires-clause-line : goal.turn_pivot-requires-clause-line
turn_pivot-requires-clause-line c = (c.requires.lines.1 c.args.place c.spare_zeros.new.line (c.put_line-pivot.ensures.given ∙ ap (λ (l : Line). Some l) (sym c.in_ok-spare_zeros.ensures))).0
