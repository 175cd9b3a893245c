-- The numbers that a program's values mean determine its ranges.
use Rattle.std.proofs.Common.{◌≡◌, ℕ, ◌+◌, List, [], ◌∷◌, map, refl, sym, ap, subst, ◌∙◌, Option}
use Rattle.gq_number.specs.Number.{Number}
use Rattle.lp_core.specs.declared.answer.Pivot.{Pivot}
use Rattle.lp_core.specs.declared.answer.Rule.TheVariants.{Legal}
use Rattle.lp_core.specs.declared.program.Row.{Row}
use Rattle.lp_core.specs.declared.program.Lp.{Lp}
use Rattle.lp_core.specs.Pivots.{ByRule, LeadsWithin}
use Rattle.lp_core.specs.Dictionary.{Dictionary, first_dictionary}
use Rattle.lp_core.specs.Numbers.{lp_numbers, row_numbers}
use Rattle.lp_core.specs.StandardForm.{Standard, rows_of_sense, variables_of}
use Rattle.lp_nocycle.proofs.SameForm.{columns_same, form_same, variables_same}
use Rattle.lp_range.specs.Moved.{itself}
use Rattle.lp_range.specs.Ranges.{LeadTo, costs, cost_spans, right_gains, right_spans, rights}
use Rattle.lp_range.specs.Spans.{Span, span}

module _ {F : Type 0} (value : F → Number) (limit : ℕ) where
  spans_same : (d : Dictionary) (v : ℕ) (rows : List (Row F)) → right_spans limit d itself v (map (row_numbers value) rows) ≡ right_spans limit d value v rows
  spans_same d v [] = refl
  spans_same d v (row ∷ rows) = ap (λ (spans : List (Option Span)). span limit (value row.right) (right_gains limit d row.sense v) ∷ spans) (spans_same d (v + rows_of_sense row.sense) rows)

  pub rights_same : (lp : Lp F) (d : Dictionary) → rights itself limit (lp_numbers value lp) d ≡ rights value limit lp d
  rights_same lp d =
      ap (λ (n : ℕ). right_spans limit d itself (n + 1) (map (row_numbers value) lp.rows)) (variables_same value lp) ∙ spans_same d (variables_of value lp + 1) lp.rows

  pub costs_same : (lp : Lp F) (d : Dictionary) → costs itself limit (lp_numbers value lp) d ≡ costs value limit lp d
  costs_same lp d = ap (cost_spans limit d lp 0) (columns_same value lp)

  pub leads_same : (lp : Lp F) (pivots : List Pivot) (last : Dictionary) → LeadTo value limit lp pivots last → LeadTo itself limit (lp_numbers value lp) pivots last
  leads_same lp pivots last leads = subst (λ (s : Standard). LeadsWithin (ByRule Legal) limit 1 [] (first_dictionary s) pivots last) (sym (form_same value lp)) leads
