-- What the count of pivots without gain records (Chvatal, Linear Programming, chapter 3).
use Rattle.std.specs.Prelude.{◌≡◌, ◌⊎◌, ℕ, ◌+◌, ◌≤◌, nat_lt, Bool, List, ◌++◌, length, if◌then◌else◌}
use Rattle.lp_core.specs.declared.answer.Pivot.{Pivot}
use Rattle.lp_core.specs.Dictionary.{Dictionary}
use Rattle.lp_core.specs.Ends.{IsPhase}
use Rattle.lp_core.specs.Choices.{reached, AllAlong}
use Rattle.lp_core.specs.LargestCoefficient.{IsDegeneratePivot, HasTurned}
use Rattle.lp_simplex.specs.declared.turning.Count.{Count}
use Rattle.lp_simplex.specs.declared.turning.Count.TheVariants as counts

-- The pivots `still` end the list, gained nothing, and are all of the phase of the dictionary that
-- they lead to.
pub record EndsStill (first : Dictionary) (pivots : List Pivot) (d : Dictionary) (still : List Pivot) : Type 0 where
  pub phase : ℕ
  pub before : List Pivot
  pub split : pivots ≡ before ++ still
  pub gains_nothing : AllAlong (IsDegeneratePivot phase) (reached first before) still
  pub now : IsPhase d phase

-- The search has not turned, and `count` is the greatest number of pivots at the end that gained
-- nothing.
pub record IsCounting (first : Dictionary) (pivots : List Pivot) (d : Dictionary) (count : ℕ) : Type 0 where
  pub here : d ≡ reached first pivots
  pub few : count ≤ d.variables
  pub is_count : (count ≡ 0) ⊎ ((still : List Pivot) × EndsStill first pivots d still × (length still ≡ count))
  pub at_most : (still : List Pivot) → EndsStill first pivots d still → length still ≤ count
  pub not_turned : ¬ (HasTurned first pivots d)

-- what a count records is true
abbrev pub Remembers : Count → Dictionary → List Pivot → Dictionary → Type 0
Remembers (counts.Still count) first pivots d = IsCounting first pivots d count
Remembers counts.Turned first pivots d = (d ≡ reached first pivots) × HasTurned first pivots d

-- the count after one more pivot, which may end the phase, and may gain something
abbrev pub after : Count → Bool → Bool → ℕ → Count
after (counts.Still count) ends_phase gains variables =
    if ends_phase then counts.Still 0 else if gains then counts.Still 0 else if nat_lt count variables then counts.Still (count + 1) else counts.Turned
after counts.Turned ends_phase gains variables = if ends_phase then counts.Still 0 else counts.Turned
