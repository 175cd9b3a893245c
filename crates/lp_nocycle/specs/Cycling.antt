-- No basis repeats under Bland's rule (Chvatal, Linear Programming, chapter 3).
use Rattle.std.specs.Prelude.{◌↔◌, ℕ, List, [], ◌∷◌, Contains}
use Rattle.gq_number.specs.Number.{Number}
use Rattle.lp_core.specs.declared.answer.Pivot.{Pivot}
use Rattle.lp_core.specs.Ends.{IsPhase}
use Rattle.lp_core.specs.declared.answer.Rule.TheVariants.{Bland, Legal}
use Rattle.lp_core.specs.declared.program.Lp.{Lp}
use Rattle.lp_core.specs.StandardForm.{standard_form}
use Rattle.lp_core.specs.Dictionary.{Dictionary, first_dictionary}
use Rattle.lp_core.specs.Pivots.{ByRule, Leads}
use Rattle.lp_core.specs.WellFormed.{IsWellFormed}

-- two dictionaries have the same basic variables, in whatever rows
abbrev pub SameBasic : Dictionary → Dictionary → Type 0
SameBasic d e = (v : ℕ) → Contains d.basic v ↔ Contains e.basic v

-- no basis repeats within a phase: if legal pivots lead from the first dictionary of a program to
-- d, one or more of Bland's pivots lead from d to e, and both are of one phase, then d and e differ
-- in their basic variables; the numbers have no limit here
abbrev pub NoneRepeats : {F : Type 0} → (F → Number) → Type 0
NoneRepeats {F} value =
    (lp : Lp F) (before between : List Pivot) (p : Pivot) (d e : Dictionary) (phase : ℕ) →
    IsWellFormed value lp → Leads (ByRule Legal) [] (first_dictionary (standard_form value lp)) before d → Leads (ByRule Bland) before d (p ∷ between) e →
    IsPhase d phase → IsPhase e phase → ¬ (SameBasic d e)
