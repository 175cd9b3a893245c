-- Integer rows from rows of fractions.
use Rattle.std.proofs.Common.{◌≡◌, ℕ, ◌+◌, ◌<◌, ◌≤◌, ◌^◌, inl, inr, pos, List, [], ◌∷◌, ◌++◌, length, sym, ap, ◌∙◌, subst, arith}
use Rattle.std.specs.Prelude.{slice_index_or}
use Rattle.std.proofs.lemmas.Bool.{cases_lt}
use Rattle.std.proofs.lemmas.List.{length_push}
use mathlib.Core.Path.{fun_ext}
use Rattle.gq_number.specs.Number.{Number, whole}
use Rattle.lp_core.specs.Dictionary.{Dictionary}
use Rattle.lp_fraction_dict.specs.declared.row.Entry.{Entry}
use Rattle.lp_fraction_dict.specs.Rows.{IsRow, number_in}
use Rattle.lp_fraction_dict.specs.Lines.{line}
use Rattle.lp_fraction_dict.specs.First.{IsFilled}
use Rattle.lp_fraction_dict.specs.Pivots.{IsProper}
use Rattle.lp_fraction_dict.specs.Tableau.{FractionTableau, fraction_dictionary, IsTableau}
use Rattle.lp_fraction_dict.proofs.Kept.{index_default, index_past}
use Rattle.lp_fraction_dict.proofs.Filling.{filled_all, push_here, push_other}
use Rattle.lp_dict.specs.InnerConversions.{AreFilled}

module _ {F : Type 0} (value : F → Number) (d : Dictionary) (past : (k c : ℕ) → length d.basic ≤ k → d.numbers k c ≡ d.numbers (length d.basic) c) (outside : (k c : ℕ) → d.variables + 2 ≤ c → d.numbers k c ≡ whole (pos 0)) (t : FractionTableau F) (variables_are : t.variables ≡ d.variables) (basic_is : t.basic ≡ d.basic) (rows_are : AreFilled value d t.rows (length d.basic)) (objective_is : IsFilled value (d.numbers (length d.basic)) (d.variables + 2) t.objective) where
  numbers_are : (k c : ℕ) → number_in value (line t.rows t.objective k) c ≡ d.numbers k c
  numbers_are k c =
      let size = rows_are.sized in
      elim (cases_lt k (length d.basic)) [
        | inl less ↦
            ap (λ r. number_in value r c) (index_default t.rows k t.objective [] (omega arith)) ∙ filled_all value (d.numbers k) (slice_index_or t.rows k []) (d.variables + 2) c (rows_are.each k less) (λ j out. outside k j out)
        | inr more ↦
            ap (λ r. number_in value r c) (index_past t.rows k t.objective (omega arith)) ∙ filled_all value (d.numbers (length d.basic)) t.objective (d.variables + 2) c objective_is (λ j out. outside (length d.basic) j out)
            ∙ sym (past k c more)
      ]

  abbrev made_of : ℕ → List ℕ → (ℕ → ℕ → Number) → Dictionary
  made_of variables basic numbers = record { variables = variables; basic = basic; numbers = numbers }

  pub turned_is : fraction_dictionary value t ≡ d
  turned_is =
      ap (λ v. made_of v t.basic (λ i c. number_in value (line t.rows t.objective i) c)) variables_are
      ∙ ap (λ b. made_of d.variables b (λ i c. number_in value (line t.rows t.objective i) c)) basic_is
      ∙ ap (made_of d.variables d.basic) (fun_ext (λ i. fun_ext (λ c. numbers_are i c)))

  row_is : (k : ℕ) → IsRow value 0 (d.variables + 2) (slice_index_or t.rows k [])
  row_is k =
      let size = rows_are.sized in
      elim (cases_lt k (length d.basic)) [
        | inl less ↦ (rows_are.each k less).is_row
        | inr more ↦ subst (IsRow value 0 (d.variables + 2)) (sym (index_past t.rows k [] (omega arith))) tt
      ]

  pub turned_tableau : IsProper d → length d.basic ≤ d.variables → d.variables + 2 < 2 ^ 32 → IsTableau value t
  turned_tableau proper few sized =
      record {
        sized = subst (λ n. n + 2 < 2 ^ 32) (sym variables_are) sized;
        few = subst (λ (e : Dictionary). length e.basic ≤ e.variables) (sym turned_is) few;
        paired = rows_are.sized ∙ ap length (sym basic_is);
        rows = λ k. subst (λ n. IsRow value 0 (n + 2) (slice_index_or t.rows k [])) (sym variables_are) (row_is k);
        objective = subst (λ n. IsRow value 0 (n + 2) t.objective) (sym variables_are) objective_is.is_row;
        proper = subst IsProper (sym turned_is) proper;
      }

-- ---- row after row

module _ {F : Type 0} (value : F → Number) (d : Dictionary) where
  pub rows_begin : (made : List (List (Entry F))) → made ≡ [] → AreFilled value d made 0
  rows_begin made none = record { sized = ap length none; each = λ k less. absurd (omega arith) }

  pub rows_more : (made now : List (List (Entry F))) (n : ℕ) (new : List (Entry F)) → AreFilled value d made n → IsFilled value (d.numbers n) (d.variables + 2) new → now ≡ made ++ new ∷ [] → AreFilled value d now (n + 1)
  rows_more made now n new h filled now_is =
      let size = h.sized in
      record {
        sized = ap length now_is ∙ length_push made new ∙ ap (λ m. m + 1) h.sized;
        each = λ k less. elim (cases_lt k n) [
          | inl early ↦ subst (IsFilled value (d.numbers k) (d.variables + 2)) (sym (ap (λ l. slice_index_or l k []) now_is ∙ push_other made new [] k (omega arith))) (h.each k early)
          | inr late ↦
              let same : n ≡ k = omega arith in
              subst (λ j. IsFilled value (d.numbers j) (d.variables + 2) (slice_index_or now j [])) same (subst (IsFilled value (d.numbers n) (d.variables + 2)) (sym (ap (λ l. slice_index_or l n []) now_is ∙ push_here made new [] n h.sized)) filled)
        ];
      }
