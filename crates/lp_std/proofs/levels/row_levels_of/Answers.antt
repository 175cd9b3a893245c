use Rattle.std.proofs.Common.{◌<◌, ◌^◌, ◌∙◌, ℕ, pos, length, map, sym, ap, subst, arith}
use Rattle.std.specs.Prelude.{flat_map}
use Rattle.std.specs.List.{All, enumerate_from}
use Rattle.std.proofs.lemmas.List.{map-id}
use Rattle.std.proofs.lemmas.List.Elements.{All-get_or}
use Rattle.std.proofs.lemmas.Result.{err_from_is_err_and}
use Rattle.gq_number.specs.Number.{whole}
use Rattle.lp_core.specs.declared.program.Row.{Row}
use Rattle.lp_core.specs.Sums.{row_sum}
use Rattle.lp_core.specs.Steps.{row_level_steps}
use Rattle.lp_std.specs.InnerSteps.{first_stop}
use Rattle.lp_std.proofs.EntryLists.{traversal_goes, traversal_stops, traversal_ends, made_more, made_all}
use Rattle.lp_std.proofs.levels.row_levels_of.Goals as goal

pub row_level_of-requires-clause-there : goal.row_level_of-requires-clause-there
row_level_of-requires-clause-there g c =
    subst (λ entries. All (λ e. e.0 < length c.args.levels.now) entries) (sym (c.as_slice.ensures ∙ ap (λ (row : Row _). row.entries) c.index-rows-i.is)) (All-get_or (λ (row : Row _). All (λ e. e.0 < length c.args.levels.now) row.entries) c.args.rows.now c.loop-i.i c.index-rows-i.result (omega arith) c.requires.there)

pub row_level_of-requires-clause-few : goal.row_level_of-requires-clause-few
row_level_of-requires-clause-few g c =
    subst (λ entries. length entries < 2 ^ 32) (sym (c.as_slice.ensures ∙ ap (λ (row : Row _). row.entries) c.index-rows-i.is)) (All-get_or (λ (row : Row _). length row.entries < 2 ^ 32) c.args.rows.now c.loop-i.i c.index-rows-i.result (omega arith) c.requires.few)

pub loop-i-init : goal.loop-i-init
loop-i-init g c =
    record {
      steps = ap (λ rows. first_stop (flat_map (λ (p : ℕ × Row _). row_level_steps g.F.ExactField.value g.F.ExactField.limit p.0 0 (whole (pos 0)) p.1.entries (map g.F.ExactField.value c.args.levels.now)) (enumerate_from 0 rows))) (sym (map-id c.args.rows.now));
      made = ap (map g.F.ExactField.value) c.new-sums.ensures.items;
    }

pub loop-i-preserved : goal.loop-i-preserved
loop-i-preserved g c =
    record {
      steps = c.loop-i.invariant.steps ∙ traversal_goes (λ (row : Row _). row) (λ (p : ℕ × Row _). row_level_steps g.F.ExactField.value g.F.ExactField.limit p.0 0 (whole (pos 0)) p.1.entries (map g.F.ExactField.value c.args.levels.now)) c.args.rows.now c.loop-i.i c.index-rows-i.result (omega arith) c.index-rows-i.is (ap (λ entries. first_stop (row_level_steps g.F.ExactField.value g.F.ExactField.limit c.loop-i.i 0 (whole (pos 0)) entries (map g.F.ExactField.value c.args.levels.now))) (sym c.as_slice.ensures) ∙ c.in_ok-sum.ensures.0);
      made = rw c.in_ok-push.ensures.items (made_more g.F.ExactField.value (λ (row : Row _). row_sum g.F.ExactField.value row.entries (map g.F.ExactField.value c.args.levels.now)) c.args.rows.now c.loop-i.i c.index-rows-i.result c.loop-i.sums.items c.in_ok-sum.sum (omega arith) c.index-rows-i.is c.loop-i.invariant.made (c.in_ok-sum.ensures.1 ∙ ap (λ entries. row_sum g.F.ExactField.value entries (map g.F.ExactField.value c.args.levels.now)) c.as_slice.ensures));
    }

pub returns-in_err-sum : goal.returns-in_err-sum
returns-in_err-sum g c =
    let p = err_from_is_err_and c.from_residual.result c.from_residual.ensures.1 in
    rw (p.1, p.2) (c.loop-i.invariant.steps ∙ traversal_stops (λ (row : Row _). row) (λ (p : ℕ × Row _). row_level_steps g.F.ExactField.value g.F.ExactField.limit p.0 0 (whole (pos 0)) p.1.entries (map g.F.ExactField.value c.args.levels.now)) c.args.rows.now c.loop-i.i c.index-rows-i.result (omega arith) c.index-rows-i.is c.in_err-sum.field-0.0 (ap (λ entries. first_stop (row_level_steps g.F.ExactField.value g.F.ExactField.limit c.loop-i.i 0 (whole (pos 0)) entries (map g.F.ExactField.value c.args.levels.now))) (sym c.as_slice.ensures) ∙ c.in_err-sum.ensures))

pub returns : goal.returns
returns g c = (
  c.loop-i.invariant.steps ∙ traversal_ends (λ (row : Row _). row) (λ (p : ℕ × Row _). row_level_steps g.F.ExactField.value g.F.ExactField.limit p.0 0 (whole (pos 0)) p.1.entries (map g.F.ExactField.value c.args.levels.now)) c.args.rows.now c.loop-i.i (omega arith),
  made_all g.F.ExactField.value (λ (row : Row _). row_sum g.F.ExactField.value row.entries (map g.F.ExactField.value c.args.levels.now)) c.args.rows.now c.loop-i.i c.loop-i.sums.items (omega arith) c.loop-i.invariant.made,
)
