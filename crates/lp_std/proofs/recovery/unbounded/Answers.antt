use Rattle.std.proofs.Common.{◌≤◌, ◌+◌, ◌++◌, ◌∙◌, ℕ, length, map, sym, ap, ap₂, subst}
use Rattle.std.specs.Prelude.{flat_map}
use Rattle.std.specs.List.{All, enumerate_from}
use Rattle.std.proofs.lemmas.Result.{err_from_is_err_and}
use Rattle.lp_core.specs.StandardForm as form
use Rattle.lp_core.specs.Steps.{levels_steps, row_levels_steps, ray_step, ray_steps}
use Rattle.lp_std.specs.declared.types.Shift.{Shift}
use Rattle.lp_std.specs.Meaning.{shift_value}
use Rattle.lp_std.specs.InnerSteps.{first_stop, StopsAt}
use Rattle.lp_std.specs.Last.{last_value}
use Rattle.lp_std.proofs.Stops.{stop_after}
use Rattle.lp_std.proofs.RowSteps.{stops_on, stops_in_prefix}
use Rattle.lp_std.proofs.Recovers.{widths_within}
use Rattle.lp_std.proofs.recovery.unbounded.Goals as goal

pub ray_of-requires : goal.ray_of-requires
ray_of-requires g c =
    subst (λ n. All (λ (p : ℕ × Shift _). p.0 + form.width (shift_value g.F.ExactField.value p.1) ≤ n) c.args.columns.now) (sym (ap length c.as_slice.ensures)) (widths_within g.F.ExactField.value c.args.lp.now c.requires.well_formed c.args.columns.now c.requires.numbered (length c.args.dict.now.ray) c.requires.ray)

pub returns-in_err-point : goal.returns-in_err-point
returns-in_err-point g c =
    let p = err_from_is_err_and c.from_residual.result c.from_residual.ensures.1 in
    rw (p.1, p.2) (stops_in_prefix ((levels_steps g.F.ExactField.value g.F.ExactField.limit c.args.lp.now (last_value g.F.ExactField.value c.args.dict.now)) ++ (row_levels_steps g.F.ExactField.value g.F.ExactField.limit c.args.lp.now (last_value g.F.ExactField.value c.args.dict.now))) (ray_steps g.F.ExactField.value g.F.ExactField.limit c.args.lp.now (last_value g.F.ExactField.value c.args.dict.now)) c.in_err-point.field-0.0 c.in_err-point.ensures.err)

pub returns-in_err-ray : goal.returns-in_err-ray
returns-in_err-ray g c =
    let p = err_from_is_err_and c.from_residual-in_err-ray.result c.from_residual-in_err-ray.ensures.1 in
    rw (p.1, p.2) (stops_on (((levels_steps g.F.ExactField.value g.F.ExactField.limit c.args.lp.now (last_value g.F.ExactField.value c.args.dict.now)) ++ (row_levels_steps g.F.ExactField.value g.F.ExactField.limit c.args.lp.now (last_value g.F.ExactField.value c.args.dict.now))) ++ (ray_steps g.F.ExactField.value g.F.ExactField.limit c.args.lp.now (last_value g.F.ExactField.value c.args.dict.now))) (ray_steps g.F.ExactField.value g.F.ExactField.limit c.args.lp.now (last_value g.F.ExactField.value c.args.dict.now)) c.in_err-ray.field-0.0 (stop_after ((levels_steps g.F.ExactField.value g.F.ExactField.limit c.args.lp.now (last_value g.F.ExactField.value c.args.dict.now)) ++ (row_levels_steps g.F.ExactField.value g.F.ExactField.limit c.args.lp.now (last_value g.F.ExactField.value c.args.dict.now))) (ray_steps g.F.ExactField.value g.F.ExactField.limit c.args.lp.now (last_value g.F.ExactField.value c.args.dict.now)) c.in_ok-point.ensures.all_fit) (subst (λ steps. StopsAt steps c.in_err-ray.field-0.0) (ap₂ (λ vs cs. flat_map (λ (p : ℕ × (ℕ × form.Shift)). ray_step g.F.ExactField.limit p.0 p.1 (map g.F.ExactField.value vs)) (enumerate_from 0 cs)) c.as_slice.ensures c.requires.numbered) c.in_err-ray.ensures))

pub returns : goal.returns
returns g c = (
  stop_after ((levels_steps g.F.ExactField.value g.F.ExactField.limit c.args.lp.now (last_value g.F.ExactField.value c.args.dict.now)) ++ (row_levels_steps g.F.ExactField.value g.F.ExactField.limit c.args.lp.now (last_value g.F.ExactField.value c.args.dict.now))) (ray_steps g.F.ExactField.value g.F.ExactField.limit c.args.lp.now (last_value g.F.ExactField.value c.args.dict.now)) c.in_ok-point.ensures.all_fit ∙ sym (ap₂ (λ vs cs. first_stop (flat_map (λ (p : ℕ × (ℕ × form.Shift)). ray_step g.F.ExactField.limit p.0 p.1 (map g.F.ExactField.value vs)) (enumerate_from 0 cs))) c.as_slice.ensures c.requires.numbered) ∙ c.in_ok-ray.ensures.0,
  (ap (map g.F.ExactField.value) c.new.ensures ∙ c.in_ok-point.ensures.levels, ap (map g.F.ExactField.value) c.new-2.ensures ∙ c.in_ok-point.ensures.row_levels, ap (map g.F.ExactField.value) c.new-3.ensures ∙ c.in_ok-ray.ensures.1 ∙ ap₂ (λ vs cs. map (λ (c : ℕ × form.Shift). form.changed_back c (map g.F.ExactField.value vs)) cs) c.as_slice.ensures c.requires.numbered),
)
