-- What an end with a certificate says of its duals: how many there are, and that their bound
-- exists.
use Rattle.std.proofs.Common.{◌≡◌, ◌≢◌, ℕ, List, Option, Some, None, true, false, map, length, sym, ◌∙◌}
use Rattle.std.proofs.lemmas.List.{length-map}
use Rattle.gq_number.specs.Number.{Number}
use Rattle.lp_core.specs.declared.answer.End.TheVariants.{Optimal, Infeasible}
use Rattle.lp_core.specs.declared.program.Lp.{Lp}
use Rattle.lp_core.specs.Sums.{value_of_column}
use Rattle.lp_check.specs.BoundSteps.{objective_bound}
use Rattle.gms_list.specs.Conditions.{HasProof}

there : (o : Option Number) (bound : Number) → o ≡ Some bound → o ≢ None
there o bound e f = let g : Some bound ≡ None = sym e ∙ f in cc

module _ {F : Type 0} (value : F → Number) (lp : Lp F) where
  pub optimal_duals : (levels row_levels duals reduced : List F) → HasProof value lp (Optimal levels row_levels duals reduced) → (length duals ≡ length lp.rows) × (objective_bound value true lp (map value duals) ≢ None)
  optimal_duals levels row_levels duals reduced proved =
      (sym (length-map duals value) ∙ proved.sized, there (objective_bound value true lp (map value duals)) (value_of_column (map value levels) lp.objective) proved.bound)

  pub infeasible_duals : (duals : List F) (crossed : Option ℕ) → HasProof value lp (Infeasible duals crossed) → crossed ≡ None → (length duals ≡ length lp.rows) × (objective_bound value false lp (map value duals) ≢ None)
  infeasible_duals duals None proved e =
      (sym (length-map duals value) ∙ proved.sized, there (objective_bound value false lp (map value duals)) proved.above.0 proved.above.1)
  infeasible_duals duals (Some j) proved e = absurd (cc)
