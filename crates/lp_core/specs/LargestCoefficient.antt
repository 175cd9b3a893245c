-- The rule of the largest coefficient, which turns to Bland's rule after a run of degenerate pivots
-- (Chvatal, Linear Programming, chapters 2 and 3).
use Rattle.std.specs.Prelude.{◌≡◌, ℕ, ◌+◌, ◌≤◌, ◌⊎◌, pos, List, ◌++◌, length}
use Rattle.gq_number.specs.Number.{Number, whole}
use Rattle.gq_number.specs.Order.{◌≤ℚ◌}
use Rattle.lp_core.specs.declared.answer.Pivot.{Pivot}
use Rattle.lp_core.specs.declared.answer.Rule.TheVariants.{Bland}
use Rattle.lp_core.specs.declared.answer.Answer.{Answer}
use Rattle.lp_core.specs.declared.program.Lp.{Lp}
use Rattle.lp_core.specs.Dictionary.{Dictionary, constant_at, entry_at, IsPriced, Improves}
use Rattle.lp_core.specs.Pivots.{IsChosen}
use Rattle.lp_core.specs.Ends.{IsPhase}
use Rattle.lp_core.specs.Answers.{IsAnswerByChoice}
use Rattle.lp_core.specs.Choices.{leaving_row, reached, AllAlong}

-- Variable q improves, no improving variable has a greater coefficient in the priced row (the row
-- of variable 0 while variable 0 is basic, else the objective), and q is the least of those with
-- this coefficient.
pub record HasGreatest (d : Dictionary) (q : ℕ) : Type 0 where
  pub improves : Improves d q
  pub greatest : (v k : ℕ) → Improves d v → IsPriced d k → entry_at d k v ≤ℚ entry_at d k q
  pub least : (v k : ℕ) → Improves d v → IsPriced d k → entry_at d k v ≡ entry_at d k q → q ≤ v

-- the dictionary d is of this phase, whatever pivot is made at it
abbrev pub IsOfPhase : ℕ → Dictionary → Pivot → Type 0
IsOfPhase phase d p = IsPhase d phase

-- p is a degenerate pivot in this phase: the constant of the leaving variable's row is 0
abbrev pub IsDegeneratePivot : ℕ → Dictionary → Pivot → Type 0
IsDegeneratePivot phase d p = IsPhase d phase × (constant_at d (leaving_row d p) ≡ whole (pos 0))

-- The search has turned to Bland's rule in the phase of the dictionary d. Among the pivots so far,
-- which start at `first`, those in `still` are successive degenerate pivots of this phase, as many
-- as there are variables, variable 0 included. All that follow them are of this phase too.
pub record HasTurned (first : Dictionary) (pivots : List Pivot) (d : Dictionary) : Type 0 where
  pub phase : ℕ
  pub before : List Pivot
  pub still : List Pivot
  pub following : List Pivot
  pub split : pivots ≡ before ++ still ++ following
  pub many : length still ≡ d.variables + 1
  pub gains_nothing : AllAlong (IsDegeneratePivot phase) (reached first before) still
  pub same_phase : AllAlong (IsOfPhase phase) (reached first (before ++ still)) following
  pub now : IsPhase d phase

-- variable q enters next, at the dictionary d, which the pivots so far reach from the dictionary
-- `first`: if the search has not turned to Bland's rule in the phase of d, q has the greatest
-- coefficient (`HasGreatest`); otherwise q is the improving variable with the least number
abbrev pub IsNext : Dictionary → List Pivot → Dictionary → ℕ → Type 0
IsNext first pivots d q = (¬ (HasTurned first pivots d) × HasGreatest d q) ⊎ (HasTurned first pivots d × IsChosen Bland d q)

-- an answer of a program by a search in which `IsNext` says which variable may enter: that with the
-- largest coefficient or, once the search has turned to Bland's rule, the one that this rule
-- chooses; `iterlim` is the limit of pivots, and `limit` bounds the numerators and denominators
-- that the solver computes with
abbrev pub IsLargestAnswer : {F : Type 0} → (F → Number) → ℕ → Lp F → ℕ → Answer F → Type 0
IsLargestAnswer value limit lp iterlim answer = IsAnswerByChoice value limit lp iterlim IsNext answer
