use Rattle.std.proofs.Common.{◌≤◌, ◌+◌, ◌∙◌, ℕ, length, map, refl, sym, ap, subst, arith}
use Rattle.std.proofs.lemmas.List.Elements.{All-get_or}
use Rattle.std.proofs.lemmas.Result.{err_from_is_err_and}
use Rattle.lp_core.specs.StandardForm as form
use Rattle.lp_core.specs.Steps.{ray_step}
use Rattle.lp_std.specs.declared.types.Shift.{Shift}
use Rattle.lp_std.specs.Meaning.{shift_value}
use Rattle.lp_std.proofs.EntryLists.{map-map, traversal_goes, traversal_stops, traversal_ends, made_more, made_all}
use Rattle.lp_std.proofs.levels.ray_of.Goals as goal

pub change_of-requires : goal.change_of-requires
change_of-requires g c =
    subst (λ (p : ℕ × Shift _). p.0 + form.width (shift_value g.F.ExactField.value p.1) ≤ length c.args.changes.now) (sym c.index-columns-j.is) (All-get_or (λ (p : ℕ × Shift _). p.0 + form.width (shift_value g.F.ExactField.value p.1) ≤ length c.args.changes.now) c.args.columns.now c.loop-j.j c.index-columns-j.result (omega arith) c.requires)

pub loop-j-init : goal.loop-j-init
loop-j-init g c =
    record {
      steps = refl;
      made = ap (map g.F.ExactField.value) c.new-ray.ensures.items;
    }

pub loop-j-preserved : goal.loop-j-preserved
loop-j-preserved g c =
    record {
      steps = c.loop-j.invariant.steps ∙ traversal_goes (λ (p : ℕ × Shift _). (p.0, shift_value g.F.ExactField.value p.1)) (λ (p : ℕ × (ℕ × form.Shift)). ray_step g.F.ExactField.limit p.0 p.1 (map g.F.ExactField.value c.args.changes.now)) c.args.columns.now c.loop-j.j c.index-columns-j.result (omega arith) c.index-columns-j.is c.in_ok-change.ensures.0;
      made = rw c.in_ok-push.ensures.items (made_more g.F.ExactField.value (λ (p : ℕ × Shift _). form.changed_back (p.0, shift_value g.F.ExactField.value p.1) (map g.F.ExactField.value c.args.changes.now)) c.args.columns.now c.loop-j.j c.index-columns-j.result c.loop-j.ray.items c.in_ok-change.change (omega arith) c.index-columns-j.is c.loop-j.invariant.made c.in_ok-change.ensures.1);
    }

pub returns-in_err-change : goal.returns-in_err-change
returns-in_err-change g c =
    let p = err_from_is_err_and c.from_residual.result c.from_residual.ensures.1 in
    rw (p.1, p.2) (c.loop-j.invariant.steps ∙ traversal_stops (λ (p : ℕ × Shift _). (p.0, shift_value g.F.ExactField.value p.1)) (λ (p : ℕ × (ℕ × form.Shift)). ray_step g.F.ExactField.limit p.0 p.1 (map g.F.ExactField.value c.args.changes.now)) c.args.columns.now c.loop-j.j c.index-columns-j.result (omega arith) c.index-columns-j.is c.in_err-change.field-0.0 c.in_err-change.ensures)

pub returns : goal.returns
returns g c = (
  c.loop-j.invariant.steps ∙ traversal_ends (λ (p : ℕ × Shift _). (p.0, shift_value g.F.ExactField.value p.1)) (λ (p : ℕ × (ℕ × form.Shift)). ray_step g.F.ExactField.limit p.0 p.1 (map g.F.ExactField.value c.args.changes.now)) c.args.columns.now c.loop-j.j (omega arith),
  made_all g.F.ExactField.value (λ (p : ℕ × Shift _). form.changed_back (p.0, shift_value g.F.ExactField.value p.1) (map g.F.ExactField.value c.args.changes.now)) c.args.columns.now c.loop-j.j c.loop-j.ray.items (omega arith) c.loop-j.invariant.made
      ∙ sym (map-map (λ (column : ℕ × form.Shift). form.changed_back column (map g.F.ExactField.value c.args.changes.now)) (λ (p : ℕ × Shift _). (p.0, shift_value g.F.ExactField.value p.1)) c.args.columns.now),
)
