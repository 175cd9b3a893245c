-- The certificate of an end, as its pieces are appended in sequence.
use Rattle.gms_list.proofs.Shapes.{three}
use Rattle.std.proofs.Common.{◌≡◌, ℕ, ◌++◌, List, [], ◌∷◌, Option, Some, None, true, false, codes, decimal, map, flat_map, sym, ap, ◌∙◌}
use Rattle.std.specs.Prelude.{slice_get, option_to_list, option_map}
use Rattle.std.proofs.lemmas.List.{append_assoc, append-nil}
use Rattle.std.proofs.lemmas.Option.{slice_get-map}
use Rattle.gq_number.specs.Number.{Number}
use Rattle.lp_core.specs.declared.answer.End.{End}
use Rattle.lp_core.specs.declared.answer.End.TheVariants.{Optimal, Infeasible, Unbounded, Interrupted, Refused}
use Rattle.lp_core.specs.declared.answer.StepName.{StepName}
use Rattle.lp_core.specs.declared.program.Column.{Column}
use Rattle.lp_core.specs.declared.program.Lp.{Lp}
use Rattle.lp_core.specs.Numbers.{lp_numbers, column_numbers, end_numbers}
use Rattle.gms_list.specs.Amounts.{line_of}
use Rattle.gms_list.specs.SolveText.{column_number_lines as column_texts, row_number_lines as row_texts, bound_lines, crossed_line, infeasible_text, step_text, proof_text}

-- four pieces after a line
four_after : (w a b c d : List ℕ) → w ++ (a ++ (b ++ (c ++ d))) ≡ w ++ a ++ b ++ c ++ d
four_after w a b c d = simp append_assoc

two_lines : (w x p y q n t : List ℕ) → ((w ++ x) ++ (p ++ (y ++ (q ++ n)))) ++ t ≡ w ++ (x ++ p ++ y ++ q ++ n) ++ t
two_lines w x p y q n t = simp append_assoc

module _ {F : Type 0} (value : F → Number) (names labels : List (List ℕ)) (limit : ℕ) (lp : Lp F) (pivots : ℕ) (end : End F) where
  pub optimal_ends : (levels row_levels duals reduced a b d : List F) → end ≡ Optimal levels row_levels duals reduced → a ≡ levels → b ≡ duals → d ≡ reduced →
      codes "PROOF Optimal\n" ++ (column_texts names labels limit (lp_numbers value lp) (codes "level") (map value a) ++ (row_texts names labels limit (lp_numbers value lp) (codes "marginal") (map value b) ++ (column_texts names labels limit (lp_numbers value lp) (codes "marginal") (map value d) ++ bound_lines limit (lp_numbers value lp) (map value b) true)))
      ≡ proof_text names labels limit (lp_numbers value lp) pivots (end_numbers value end)
  optimal_ends levels row_levels duals reduced a b d e f g h =
      four_after (codes "PROOF Optimal\n") (column_texts names labels limit (lp_numbers value lp) (codes "level") (map value a)) (row_texts names labels limit (lp_numbers value lp) (codes "marginal") (map value b)) (column_texts names labels limit (lp_numbers value lp) (codes "marginal") (map value d)) (bound_lines limit (lp_numbers value lp) (map value b) true)
      ∙ ap (λ (x : List F). proof_text names labels limit (lp_numbers value lp) pivots (end_numbers value (Optimal x row_levels b d))) f
      ∙ ap (λ (x : List F). proof_text names labels limit (lp_numbers value lp) pivots (end_numbers value (Optimal levels row_levels x d))) g
      ∙ ap (λ (x : List F). proof_text names labels limit (lp_numbers value lp) pivots (end_numbers value (Optimal levels row_levels duals x))) h
      ∙ ap (λ (x : End F). proof_text names labels limit (lp_numbers value lp) pivots (end_numbers value x)) (sym e)

  pub infeasible_ends : (duals a : List F) (crossed : Option ℕ) → end ≡ Infeasible duals crossed → a ≡ duals →
      codes "PROOF Infeasible\n" ++ infeasible_text names labels limit (lp_numbers value lp) (map value a) crossed ≡ proof_text names labels limit (lp_numbers value lp) pivots (end_numbers value end)
  infeasible_ends duals a crossed e f =
      ap (λ (x : List F). proof_text names labels limit (lp_numbers value lp) pivots (end_numbers value (Infeasible x crossed))) f
      ∙ ap (λ (x : End F). proof_text names labels limit (lp_numbers value lp) pivots (end_numbers value x)) (sym e)

  pub unbounded_ends : (levels row_levels ray a b : List F) → end ≡ Unbounded levels row_levels ray → a ≡ levels → b ≡ ray →
      codes "PROOF Unbounded\n" ++ (column_texts names labels limit (lp_numbers value lp) (codes "point") (map value a) ++ column_texts names labels limit (lp_numbers value lp) (codes "ray") (map value b)) ≡ proof_text names labels limit (lp_numbers value lp) pivots (end_numbers value end)
  unbounded_ends levels row_levels ray a b e f g =
      three (codes "PROOF Unbounded\n") (column_texts names labels limit (lp_numbers value lp) (codes "point") (map value a)) (column_texts names labels limit (lp_numbers value lp) (codes "ray") (map value b))
      ∙ ap (λ (x : List F). proof_text names labels limit (lp_numbers value lp) pivots (end_numbers value (Unbounded x row_levels b))) f
      ∙ ap (λ (x : List F). proof_text names labels limit (lp_numbers value lp) pivots (end_numbers value (Unbounded levels row_levels x))) g
      ∙ ap (λ (x : End F). proof_text names labels limit (lp_numbers value lp) pivots (end_numbers value x)) (sym e)

  pub interrupted_ends : (head : List ℕ) (phase : ℕ) (levels row_levels a : List F) → end ≡ Interrupted phase levels row_levels → a ≡ levels → head ≡ codes "PROOF Interrupted\n  phase " ++ (decimal phase ++ (codes " pivots " ++ (decimal pivots ++ codes "\n"))) →
      head ++ column_texts names labels limit (lp_numbers value lp) (codes "point") (map value a) ≡ proof_text names labels limit (lp_numbers value lp) pivots (end_numbers value end)
  interrupted_ends head phase levels row_levels a e f g =
      ap (λ h. h ++ column_texts names labels limit (lp_numbers value lp) (codes "point") (map value a)) g
      ∙ two_lines (codes "PROOF Interrupted\n") (codes "  phase ") (decimal phase) (codes " pivots ") (decimal pivots) (10 ∷ []) (column_texts names labels limit (lp_numbers value lp) (codes "point") (map value a))
      ∙ ap (λ (x : List F). proof_text names labels limit (lp_numbers value lp) pivots (end_numbers value (Interrupted phase x row_levels))) f
      ∙ ap (λ (x : End F). proof_text names labels limit (lp_numbers value lp) pivots (end_numbers value x)) (sym e)

  pub refused_ends : (text : List ℕ) (name : StepName) → end ≡ Refused name → text ≡ line_of (codes "  step " ++ step_text name) → codes "PROOF Refused\n" ++ text ≡ proof_text names labels limit (lp_numbers value lp) pivots (end_numbers value end)
  refused_ends text name e f =
      ap (λ t. codes "PROOF Refused\n" ++ t) f ∙ ap (λ (x : End F). proof_text names labels limit (lp_numbers value lp) pivots (end_numbers value x)) (sym e)

-- a combination of rows with its bound
pub rows_are : (names labels : List (List ℕ)) (limit : ℕ) (lp : Lp Number) (duals : List Number) (crossed : Option ℕ) → crossed ≡ None → row_texts names labels limit lp (codes "row") duals ++ bound_lines limit lp duals false ≡ infeasible_text names labels limit lp duals crossed
rows_are names labels limit lp duals crossed e = ap (infeasible_text names labels limit lp duals) (sym e)

module _ {F : Type 0} (value : F → Number) (names labels : List (List ℕ)) (limit : ℕ) (lp : Lp F) (duals : List Number) (crossed : Option ℕ) (j : ℕ) (is : crossed ≡ Some j) where
  -- the column whose bounds cross
  found : (at : Option (Column F)) → slice_get lp.columns j ≡ at → flat_map (crossed_line names labels) (option_to_list (option_map (column_numbers value) at)) ≡ infeasible_text names labels limit (lp_numbers value lp) duals crossed
  found at e =
      sym (ap (infeasible_text names labels limit (lp_numbers value lp) duals) is
      ∙ ap (λ o. flat_map (crossed_line names labels) (option_to_list o)) (slice_get-map (column_numbers value) lp.columns j ∙ ap (option_map (column_numbers value)) e))

  pub crossed_is : (column : Column F) → slice_get lp.columns j ≡ Some column → crossed_line names labels (column_numbers value column) ≡ infeasible_text names labels limit (lp_numbers value lp) duals crossed
  crossed_is column e = sym (append-nil (crossed_line names labels (column_numbers value column))) ∙ found (Some column) e

  pub crossed_nowhere : slice_get lp.columns j ≡ None → [] ≡ infeasible_text names labels limit (lp_numbers value lp) duals crossed
  crossed_nowhere e = found None e
