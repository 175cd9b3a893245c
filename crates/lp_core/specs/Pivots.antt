-- What is read from a dictionary, and the pivots that lead from one to another (Chvatal, Linear
-- Programming, chapters 2 and 3).
use Rattle.std.specs.Prelude.{◌≡◌, ℕ, ◌+◌, ◌≤◌, pos, List, [], ◌∷◌, ◌++◌, length, map, Option, Some, None, if◌then◌else◌, ◌==◌, position, unwrap_or}
use Rattle.std.specs.List.{range_with_len}
use Rattle.gq_number.specs.Number.{Number, whole, neg_ℚ}
use Rattle.lp_core.specs.declared.answer.Pivot.{Pivot}
use Rattle.lp_core.specs.declared.answer.Rule.{Rule}
use Rattle.lp_core.specs.declared.answer.Rule.TheVariants.{Bland, Legal}
use Rattle.lp_core.specs.StandardForm.{Last}
use Rattle.lp_core.specs.Dictionary.{Dictionary, basic_at, constant_at, entry_at, OpeningIsRequired, Improves, Ties, IsLeast, IsLegal, exchanged}
use Rattle.lp_core.specs.Steps.{AllFit, ratio_steps, exchange_steps}

-- ---- what is read from a dictionary

-- the row in which variable v is basic; None if it is not basic
abbrev pub row_of_basic : Dictionary → ℕ → Option ℕ
row_of_basic d v = position (λ b. b == v) d.basic

-- the value of a variable if all that are not basic are 0, by the row in which it is basic: the
-- row's constant, or 0 without a row
abbrev pub value_by_row : Dictionary → Option ℕ → Number
value_by_row d None = whole (pos 0)
value_by_row d (Some k) = constant_at d k

-- the change of variable v if q, which is not basic, rises by 1, by the row in which v is basic:
-- the negated coefficient of q there; without a row 1 for q itself, else 0
abbrev pub change_by_row : Dictionary → ℕ → ℕ → Option ℕ → Number
change_by_row d q v None = if q == v then whole (pos 1) else whole (pos 0)
change_by_row d q v (Some k) = neg_ℚ (entry_at d k q)

-- the coefficient of variable v in the priced row k, or 0 if v is basic in some row
abbrev pub cost_by_row : Dictionary → ℕ → ℕ → Option ℕ → Number
cost_by_row d k v None = entry_at d k v
cost_by_row d k v (Some row) = whole (pos 0)

-- the number of the priced row: that of variable 0 while it is basic, else the objective
abbrev pub priced_row : Dictionary → ℕ
priced_row d = unwrap_or (row_of_basic d 0) (length d.basic)

-- the numbers of all variables, from 0
abbrev pub all_variables : Dictionary → List ℕ
all_variables d = range_with_len 0 (d.variables + 1)

-- what is read from a final dictionary without a ray: the value of each variable, and its
-- coefficient in the priced row
abbrev pub last_of : Dictionary → Last
last_of d =
    record {
      values = map (λ v. value_by_row d (row_of_basic d v)) (all_variables d);
      costs = map (λ v. cost_by_row d (priced_row d) v (row_of_basic d v)) (all_variables d);
      changes = [];
    }

-- what is read from a final dictionary with a ray: what is read without a ray (`last_of`), and the
-- change of each variable as q rises by 1
abbrev pub last_along : Dictionary → ℕ → Last
last_along d q = record (last_of d) { changes = map (λ v. change_by_row d q v (row_of_basic d v)) (all_variables d) }

-- ---- the rules

-- q is a variable that the rule may choose to enter: it improves, and under Bland no variable with
-- a lesser number does
abbrev pub IsChosen : Rule → Dictionary → ℕ → Type 0
IsChosen Bland d q = Improves d q × ((v : ℕ) → Improves d v → q ≤ v)
IsChosen Legal d q = Improves d q

-- the opening pivot is not required, and no variable improves
abbrev pub NothingImproves : Dictionary → Type 0
NothingImproves d = ¬ (OpeningIsRequired d) × ((v : ℕ) → ¬ (Improves d v))

-- all steps of the ratio test of p, the n-th pivot, fit: no numerator or denominator that they
-- compute exceeds `limit`; an opening pivot has no ratio test
abbrev pub TestFits : ℕ → ℕ → Dictionary → Pivot → Type 0
TestFits limit n d p = ¬ (OpeningIsRequired d) → AllFit (ratio_steps limit n d p.enter)

-- In the pivot p a chosen variable enters, unless p is the opening pivot. Of the variables whose
-- rows tie in the ratio test, the one with the least number leaves; at the opening, of those whose
-- rows have the least constant.
pub record IsTaken (Chosen : ℕ → Type 0) (d : Dictionary) (p : Pivot) : Type 0 where
  pub enters : ¬ (OpeningIsRequired d) → Chosen p.enter
  pub leaves : (i : ℕ) → ¬ (OpeningIsRequired d) → Ties d p.enter i → p.leave ≤ basic_at d i
  pub opens : (i : ℕ) → OpeningIsRequired d → IsLeast d i → p.leave ≤ basic_at d i

-- p is a legal pivot at the dictionary d: the opening one of phase 1, in which variable 0 enters,
-- or one in which a variable enters that improves the objective of the phase and is `Chosen`. Of
-- the variables that may leave, the one with the least number leaves: these variables tie in the
-- ratio test, or, at the opening, their rows have the least constant. k is the row of the variable
-- that leaves
abbrev pub IsAllowedBy : (ℕ → Type 0) → Dictionary → Pivot → ℕ → Type 0
IsAllowedBy Chosen d p k = IsLegal d p k × IsTaken Chosen d p

-- p is a pivot that the rule allows at the dictionary d; k is the row of the variable that leaves.
-- Legal: p is the opening pivot of phase 1, in which variable 0 enters; or an improving variable
-- enters, and one of those that tie in the ratio test leaves, variable 0 if it ties. Bland: such a
-- pivot in which the improving variable with the least number enters, unless p is the opening one,
-- and of those that may leave that with the least number leaves
abbrev pub IsAllowed : Rule → Dictionary → Pivot → ℕ → Type 0
IsAllowed Bland d p k = IsAllowedBy (IsChosen Bland d) d p k
IsAllowed Legal d p k = IsLegal d p k

-- ---- ways from one dictionary to another, over numbers without limit; and whether their steps fit

-- The pivots that a rule allows. This depends on the dictionary, the pivot and the row of the
-- leaving variable, but not on `done`, the pivots so far.
abbrev pub ByRule : Rule → List Pivot → Dictionary → Pivot → ℕ → Type 0
ByRule rule done d p k = IsAllowed rule d p k

-- the legal pivots p by a choice of the entering variable. k is the row of the leaving one, that
-- with the least number of those that may leave. An improving variable enters that `choice` allows,
-- and those may leave that tie in the ratio test. Or p is the opening pivot of phase 1: variable 0
-- enters, and those may leave whose rows have the least constant. `choice` depends on the
-- dictionary `first` at the start, the pivots `done` from there to d, d itself, and the variable
abbrev pub ByChoice : (Dictionary → List Pivot → Dictionary → ℕ → Type 0) → Dictionary → List Pivot → Dictionary → Pivot → ℕ → Type 0
ByChoice choice first done d p k = IsAllowedBy (choice first done d) d p k

module _ (Allowed : List Pivot → Dictionary → Pivot → ℕ → Type 0) where
  -- the pivots lead from d, to which the pivots `done` led, to the dictionary `last`: each is one
  -- that `Allowed` admits at the dictionary to which the pivots before it lead; k is the row of the
  -- variable that leaves in it
  abbrev pub Leads : List Pivot → Dictionary → List Pivot → Dictionary → Type 0
  Leads done d [] last = last ≡ d
  Leads done d (p ∷ pivots) last = (k : ℕ) × Allowed done d p k × Leads (done ++ p ∷ []) (exchanged d p.enter k) pivots last

  -- no step of these pivots, in a ratio test or an exchange, computes a numerator or denominator
  -- above `limit`. After the pivots `done` these pivots lead from d to `last` by `way`, which has
  -- the row of each one's leaving variable. The first of these pivots is the n-th of the search
  abbrev pub PivotsFit : ℕ → ℕ → (done : List Pivot) (d : Dictionary) (pivots : List Pivot) (last : Dictionary) → Leads done d pivots last → Type 0
  PivotsFit limit n done d [] last way = Unit {0}
  PivotsFit limit n done d (p ∷ pivots) last way =
      TestFits limit n d p × AllFit (exchange_steps limit n d p.enter way.0)
      × PivotsFit limit (n + 1) (done ++ p ∷ []) (exchanged d p.enter way.0) pivots last way.2

  -- the pivots lead, after the pivots `done`, from d to `last`, and each step of their arithmetic
  -- fits: no numerator or denominator that it computes exceeds the limit. The first of these pivots
  -- is the n-th pivot
  abbrev pub LeadsWithin : ℕ → ℕ → List Pivot → Dictionary → List Pivot → Dictionary → Type 0
  LeadsWithin limit n done d pivots last = (way : Leads done d pivots last) × PivotsFit limit n done d pivots last way
