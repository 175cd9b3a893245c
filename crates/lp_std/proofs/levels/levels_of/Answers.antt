use Rattle.std.proofs.Common.{◌≤◌, ◌+◌, ◌∙◌, ℕ, [], ◌∷◌, length, map, sym, ap, subst, arith}
use Rattle.std.specs.List.{enumerate_from}
use Rattle.std.proofs.lemmas.List.Elements.{All-get_or}
use Rattle.std.proofs.lemmas.Result.{err_from_is_err_and}
use Rattle.lp_core.specs.StandardForm as form
use Rattle.lp_core.specs.Steps.{level_step}
use Rattle.lp_std.specs.declared.types.Shift.{Shift}
use Rattle.lp_std.specs.Meaning.{shift_value}
use Rattle.lp_std.specs.InnerSteps.{first_stop, placed_value}
use Rattle.lp_std.proofs.EntryLists.{map-map, traversal_goes, traversal_stops, traversal_ends, traversal_single, made_more, made_all}
use Rattle.lp_std.proofs.levels.levels_of.Goals as goal

pub level_of-requires : goal.level_of-requires
level_of-requires g c =
    subst (λ (p : ℕ × Shift _). p.0 + form.width (shift_value g.F.ExactField.value p.1) ≤ length c.args.values.now) (sym c.index-columns-j.is) (All-get_or (λ (p : ℕ × Shift _). p.0 + form.width (shift_value g.F.ExactField.value p.1) ≤ length c.args.values.now) c.args.columns.now c.loop-j.j c.index-columns-j.result (omega arith) c.requires)

pub loop-j-init : goal.loop-j-init
loop-j-init g c =
    record {
      steps = ap first_stop (traversal_single (λ (p : ℕ × (ℕ × form.Shift)). level_step g.F.ExactField.limit p.0 p.1 (map g.F.ExactField.value c.args.values.now)) (enumerate_from 0 (placed_value g.F.ExactField.value c.args.columns.now)));
      made = ap (map g.F.ExactField.value) c.new-levels.ensures.items;
    }

pub loop-j-preserved : goal.loop-j-preserved
loop-j-preserved g c =
    record {
      steps = c.loop-j.invariant.steps ∙ traversal_goes (λ (p : ℕ × Shift _). (p.0, shift_value g.F.ExactField.value p.1)) (λ (p : ℕ × (ℕ × form.Shift)). level_step g.F.ExactField.limit p.0 p.1 (map g.F.ExactField.value c.args.values.now) ∷ []) c.args.columns.now c.loop-j.j c.index-columns-j.result (omega arith) c.index-columns-j.is c.in_ok-level.ensures.0;
      made = rw c.in_ok-push.ensures.items (made_more g.F.ExactField.value (λ (p : ℕ × Shift _). form.shifted_back (p.0, shift_value g.F.ExactField.value p.1) (map g.F.ExactField.value c.args.values.now)) c.args.columns.now c.loop-j.j c.index-columns-j.result c.loop-j.levels.items c.in_ok-level.level (omega arith) c.index-columns-j.is c.loop-j.invariant.made c.in_ok-level.ensures.1);
    }

pub returns-in_err-level : goal.returns-in_err-level
returns-in_err-level g c =
    let p = err_from_is_err_and c.from_residual.result c.from_residual.ensures.1 in
    rw (p.1, p.2) (c.loop-j.invariant.steps ∙ traversal_stops (λ (p : ℕ × Shift _). (p.0, shift_value g.F.ExactField.value p.1)) (λ (p : ℕ × (ℕ × form.Shift)). level_step g.F.ExactField.limit p.0 p.1 (map g.F.ExactField.value c.args.values.now) ∷ []) c.args.columns.now c.loop-j.j c.index-columns-j.result (omega arith) c.index-columns-j.is c.in_err-level.field-0.0 c.in_err-level.ensures)

pub returns : goal.returns
returns g c = (
  c.loop-j.invariant.steps ∙ traversal_ends (λ (p : ℕ × Shift _). (p.0, shift_value g.F.ExactField.value p.1)) (λ (p : ℕ × (ℕ × form.Shift)). level_step g.F.ExactField.limit p.0 p.1 (map g.F.ExactField.value c.args.values.now) ∷ []) c.args.columns.now c.loop-j.j (omega arith),
  made_all g.F.ExactField.value (λ (p : ℕ × Shift _). form.shifted_back (p.0, shift_value g.F.ExactField.value p.1) (map g.F.ExactField.value c.args.values.now)) c.args.columns.now c.loop-j.j c.loop-j.levels.items (omega arith) c.loop-j.invariant.made
      ∙ sym (map-map (λ (column : ℕ × form.Shift). form.shifted_back column (map g.F.ExactField.value c.args.values.now)) (λ (p : ℕ × Shift _). (p.0, shift_value g.F.ExactField.value p.1)) c.args.columns.now),
)
