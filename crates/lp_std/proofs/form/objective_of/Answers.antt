use Rattle.std.proofs.Common.{◌≡◌, ℕ, ◌+◌, ◌-◌, ◌++◌, ◌∷◌, [], map, sym, ap, ap₂, ◌∙◌, arith}
use Rattle.std.specs.List.{range_with_len}
use Rattle.std.proofs.lemmas.List.{map-append}
use Rattle.std.proofs.lemmas.List.FromFn.{map-range_with_len_more}
use Rattle.gq_number.specs.Number.{Number}
use Rattle.gq_number.specs.Sums.{sum_by_ℚ}
use Rattle.lp_core.specs.StandardForm as form
use Rattle.lp_std.specs.Meaning.{shift_value}
use Rattle.lp_std.proofs.Picks.{picked}
use Rattle.lp_std.proofs.form.objective_of.Goals as goal

pub loop-variable-preserved : goal.loop-variable-preserved
loop-variable-preserved g c =
    let f : ℕ → Number = λ v. sum_by_ℚ (picked v) (form.spread c.args.first (shift_value g.F.ExactField.value c.args.shift) (g.F.ExactField.value c.args.factor)) in
    let next : c.loop-variable.variable - 1 + 1 ≡ c.loop-variable.variable + 1 - 1 = omega (arith, c.loop-variable.invariant.from_one) in
    record {
      from_one = omega arith;
      made = rw c.in_ok-push.ensures.items (map-append g.F.ExactField.value c.loop-variable.coefficients.items (c.coefficient_at.result ∷ []) ∙ ap₂ (λ xs x. xs ++ x ∷ []) c.loop-variable.invariant.made c.coefficient_at.ensures ∙ sym (map-range_with_len_more f 1 (c.loop-variable.variable - 1) c.loop-variable.variable (omega (arith, c.loop-variable.invariant.from_one))) ∙ ap (λ n. map f (range_with_len 1 n)) next);
    }
