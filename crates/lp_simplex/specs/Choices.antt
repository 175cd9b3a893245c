-- Choices of the entering variable that always find one (Chvatal, Linear Programming, chapters 2
-- and 3).
use Rattle.std.specs.Prelude.{ℕ, List, []}
use Rattle.lp_core.specs.declared.answer.Pivot.{Pivot}
use Rattle.lp_core.specs.declared.answer.Rule.TheVariants.{Legal}
use Rattle.lp_core.specs.Dictionary.{Dictionary, Improves, IsProper}
use Rattle.lp_core.specs.Pivots.{ByRule, Leads}

-- each variable q that the choice allows to enter at a dictionary d improves there, whatever the
-- first dictionary and the pivots so far are
abbrev pub ChoosesImproving : (Dictionary → List Pivot → Dictionary → ℕ → Type 0) → Type 0
ChoosesImproving choice = (first : Dictionary) (pivots : List Pivot) (d : Dictionary) (q : ℕ) → choice first pivots d q → Improves d q

-- the choice allows a variable to enter at each dictionary d at which some variable improves and to
-- which legal pivots lead from a dictionary `first`; no pivot is before `first` (`[]`), and it has
-- `IsProper`, the invariant of a program's dictionaries
abbrev pub AlwaysChooses : (Dictionary → List Pivot → Dictionary → ℕ → Type 0) → Type 0
AlwaysChooses choice =
    (first : Dictionary) (pivots : List Pivot) (d : Dictionary) → IsProper first → Leads (ByRule Legal) [] first pivots d → ((v : ℕ) × Improves d v) →
    (q : ℕ) × choice first pivots d q
