use Rattle.std.proofs.Common.{◌<◌, ◌^◌, ◌<ℤ◌, ℕ, pos, length, sym, ap, ◌∙◌, subst}
use Rattle.std.specs.Prelude.{IfOk}
use Rattle.lp_integers.specs.Lines.{whole_at}
use Rattle.lp_integer_rows.specs.declared.line.Line.{Line}
use Rattle.lp_integer_rows.specs.Form.{wholes, IsLine, IsPlanned, IsLessenedLine}
use Rattle.lp_integer_rows.proofs.line.lessen.Goals as goal

pub returns-then-lessen_quickly : goal.returns-then-lessen_quickly
returns-then-lessen_quickly c = c.lessen_quickly.ensures.lessened c.if-lessen_quickly.true

pub lessen_line-requires-clause-line : goal.lessen_line-requires-clause-line
lessen_line-requires-clause-line c = subst IsLine (sym (c.lessen_quickly.ensures.same c.if-lessen_quickly.false)) c.requires.line

pub lessen_line-requires-clause-sized : goal.lessen_line-requires-clause-sized
lessen_line-requires-clause-sized c = c.requires.sized ∙ ap (λ (l : Line). length (wholes l)) (sym (c.lessen_quickly.ensures.same c.if-lessen_quickly.false))

pub lessen_line-requires-clause-planned : goal.lessen_line-requires-clause-planned
lessen_line-requires-clause-planned c = (
  c.requires.planned.0,
  c.requires.planned.1,
  c.requires.planned.2,
  subst (λ (l : Line). IsPlanned c.requires.planned.0 c.requires.planned.1 l c.args.pivot.now c.args.factors) (sym (c.lessen_quickly.ensures.same c.if-lessen_quickly.false)) c.requires.planned.3,
  c.requires.planned.4,
)

pub returns : goal.returns
returns c =
    subst (λ (l : Line). IfOk c.lessen_line.result (λ _. (bound column : ℕ) → bound < 2 ^ 127 → pos 0 <ℤ whole_at (wholes c.args.pivot.now) column → IsPlanned bound column l c.args.pivot.now c.args.factors → IsLessenedLine column l c.args.pivot.now c.lessen_line.new.line c.args.factors))
    (c.lessen_quickly.ensures.same c.if-lessen_quickly.false) c.lessen_line.ensures
