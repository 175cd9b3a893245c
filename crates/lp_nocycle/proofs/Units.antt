-- The solutions of a dictionary with 1 at one nonbasic column: column 0 gives the negated basic
-- point, another column the direction along which its variable rises.
use Rattle.std.proofs.Common.{◌≡◌, ◌≢◌, ℕ, zero, suc, ◌+◌, ◌<◌, ◌⊎◌, inl, inr, pos, List, length, Some, refl, sym, ap, ap₂, ◌∙◌, arith}
use Rattle.std.specs.Prelude.{slice_get, Contains}
use Rattle.gq_number.specs.Number.{Number, whole, ◌+ℚ◌, ◌*ℚ◌, neg_ℚ}
use Rattle.gq_number.proofs.Field.{*ℚ-one}
use Rattle.gq_number.proofs.Ring.{ring_ℚ, zero-*ℚ, *ℚ-zero, one-*ℚ, neg_neg, neg_unique}
use Rattle.lp_core.specs.Dictionary.{Dictionary, basic_at, constant_at}
use Rattle.lp_fraction_dict.specs.Pivots.{IsProper}
use Rattle.lp_fraction_dict.proofs.Kept.{get_within, index_get, contains_get}
use Rattle.lp_fraction_dict.proofs.Improving.{same_or_not, found_or_not}
use Rattle.lp_nocycle.specs.Cycling.{SameBasic}
use Rattle.lp_nocycle.proofs.Sparse.{sum_one, sum_two}
use Rattle.lp_nocycle.proofs.Agreeing.{form, Solves, Agrees}

pub some_is : (x y : ℕ) → Some x ≡ Some y → x ≡ y
some_is x y h = cc

-- the row of a basic variable
pub place_of : (basic : List ℕ) (v : ℕ) → Contains basic v → (k : ℕ) × (slice_get basic k ≡ Some v)
place_of basic v h = (h.0, index_get basic h.0 v v h.1 h.2)

-- the row and the basic variable of a column
abbrev pub BasicAt : Dictionary → ℕ → Type 0
BasicAt d c = (k : ℕ) × (v : ℕ) × (slice_get d.basic k ≡ Some v) × (v + 1 ≡ c)

-- a column of no basic variable
abbrev pub IsFree : Dictionary → ℕ → Type 0
IsFree d c = (k v : ℕ) → slice_get d.basic k ≡ Some v → v + 1 ≢ c

pub basic_or_free : (d : Dictionary) (c : ℕ) → BasicAt d c ⊎ IsFree d c
basic_or_free d zero = inr (λ k v at same. absurd (omega arith))
basic_or_free d (suc v) =
    elim (found_or_not d.basic v) [
      | inl found ↦ inl (found.0, v, found.1, omega arith)
      | inr none ↦ inr (λ k w at same. none (contains_get d.basic k v (at ∙ ap Some (let h : w ≡ v = omega arith in h))))
    ]

pub free_of : (d : Dictionary) (v : ℕ) → ¬ (Contains d.basic v) → IsFree d (v + 1)
free_of d v none k w at same = none (contains_get d.basic k v (at ∙ ap Some (let h : w ≡ v = omega arith in h)))

pub free_zero : (d : Dictionary) → IsFree d 0
free_zero d k v at same = absurd (omega arith)

-- Values that are 1 at column q and 0 at each other column that is not basic.
pub record IsUnit (d : Dictionary) (q : ℕ) (x : ℕ → Number) : Type 0 where
  pub here : x q ≡ whole (pos 1)
  pub elsewhere : (c : ℕ) → IsFree d c → c ≢ q → x c ≡ whole (pos 0)

abbrev unit_elsewhere : (d : Dictionary) (q c : ℕ) → BasicAt d c ⊎ IsFree d c → Number
unit_elsewhere d q c (inl basic) = neg_ℚ (d.numbers basic.0 q)
unit_elsewhere d q c (inr free) = whole (pos 0)

abbrev unit_by : (d : Dictionary) (q c : ℕ) → (c ≡ q) ⊎ (c ≢ q) → BasicAt d c ⊎ IsFree d c → Number
unit_by d q c (inl same) r = whole (pos 1)
unit_by d q c (inr other) r = unit_elsewhere d q c r

-- the solution with 1 at column q
pub unit : Dictionary → ℕ → ℕ → Number
unit d q c = unit_by d q c (same_or_not c q) (basic_or_free d c)

pub unit_here : (d : Dictionary) (q : ℕ) → unit d q q ≡ whole (pos 1)
unfolding unit
unit_here d q = by (same_or_not q q) (basic_or_free d q)
  where
    by : (s : (q ≡ q) ⊎ (q ≢ q)) (r : BasicAt d q ⊎ IsFree d q) → unit_by d q q s r ≡ whole (pos 1)
    by (inl same) r = refl
    by (inr other) r = absurd (other refl)

pub unit_free : (d : Dictionary) (q c : ℕ) → IsFree d c → c ≢ q → unit d q c ≡ whole (pos 0)
unfolding unit
unit_free d q c free other = by (same_or_not c q) (basic_or_free d c)
  where
    by : (s : (c ≡ q) ⊎ (c ≢ q)) (r : BasicAt d c ⊎ IsFree d c) → unit_by d q c s r ≡ whole (pos 0)
    by (inl same) r = absurd (other same)
    by (inr apart) (inl basic) = absurd (free basic.0 basic.1 basic.2 basic.3)
    by (inr apart) (inr none) = refl

pub unit_basic : (d : Dictionary) → IsProper d → (q k v : ℕ) → IsFree d q → slice_get d.basic k ≡ Some v → unit d q (v + 1) ≡ neg_ℚ (d.numbers k q)
unfolding unit
unit_basic d proper q k v free at = by (same_or_not (v + 1) q) (basic_or_free d (v + 1))
  where
    by : (s : (v + 1 ≡ q) ⊎ (v + 1 ≢ q)) (r : BasicAt d (v + 1) ⊎ IsFree d (v + 1)) → unit_by d q (v + 1) s r ≡ neg_ℚ (d.numbers k q)
    by (inl same) r = absurd (free k v at same)
    by (inr other) (inl basic) =
        let same : basic.1 ≡ v = (let h = basic.3 in omega arith) in
        ap (λ i. neg_ℚ (d.numbers i q)) (proper.distinct basic.0 k v (basic.2 ∙ ap Some same) at)
    by (inr other) (inr none) = absurd (none k v at refl)

pub unit_is : (d : Dictionary) (q : ℕ) → IsUnit d q (unit d q)
unit_is d q = record { here = unit_here d q; elsewhere = unit_free d q }

times_nothing : (a x : Number) → x ≡ whole (pos 0) → a *ℚ x ≡ whole (pos 0)
times_nothing a x none = ap (λ y. a *ℚ y) none ∙ *ℚ-zero a

nothing_times : (a x : Number) → a ≡ whole (pos 0) → a *ℚ x ≡ whole (pos 0)
nothing_times a x none = ap (λ y. y *ℚ x) none ∙ zero-*ℚ x

times_one : (a x : Number) → x ≡ whole (pos 1) → a *ℚ x ≡ a
times_one a x one = ap (λ y. a *ℚ y) one ∙ *ℚ-one a

one_times : (a x : Number) → a ≡ whole (pos 1) → a *ℚ x ≡ x
one_times a x one = ap (λ y. y *ℚ x) one ∙ one-*ℚ x

module _ (d : Dictionary) (proper : IsProper d) (q : ℕ) (free : IsFree d q) (there : q < d.variables + 2) (x : ℕ → Number) (is_unit : IsUnit d q x) where
  -- a row at a unit: its number at the column, and the value of its basic variable
  pub row_of_unit : (k v : ℕ) → slice_get d.basic k ≡ Some v → form d k x ≡ d.numbers k q +ℚ x (v + 1)
  row_of_unit k v at =
      sum_two (λ c. d.numbers k c *ℚ x c) 0 (d.variables + 2) q (v + 1) (λ same. free k v at (sym same)) (omega arith) (omega arith) (omega arith) (let h = proper.there k v at in omega arith) none
      ∙ ap₂ (λ a b. a +ℚ b) (times_one (d.numbers k q) (x q) is_unit.here) (one_times (d.numbers k (v + 1)) (x (v + 1)) (proper.own k v at))
    where
      none : (c : ℕ) → c ≢ q → c ≢ v + 1 → d.numbers k c *ℚ x c ≡ whole (pos 0)
      none c other apart =
          elim (basic_or_free d c) [
            | inl basic ↦
                let column = basic.3 in
                nothing_times (d.numbers k c) (x c) (ap (d.numbers k) (sym column) ∙ proper.apart basic.0 k basic.1 basic.2 (λ same. apart (sym column ∙ ap (λ w. w + 1) (some_is basic.1 v (sym basic.2 ∙ ap (slice_get d.basic) (sym same) ∙ at)))))
            | inr unknown ↦ times_nothing (d.numbers k c) (x c) (is_unit.elsewhere c unknown other)
          ]

  -- the objective at a unit: its number at the column
  pub objective_of_unit : form d (length d.basic) x ≡ d.numbers (length d.basic) q
  objective_of_unit =
      sum_one (λ c. d.numbers (length d.basic) c *ℚ x c) 0 (d.variables + 2) q (omega arith) (omega arith) none
      ∙ times_one (d.numbers (length d.basic) q) (x q) is_unit.here
    where
      none : (c : ℕ) → c ≢ q → d.numbers (length d.basic) c *ℚ x c ≡ whole (pos 0)
      none c other =
          elim (basic_or_free d c) [
            | inl basic ↦ nothing_times (d.numbers (length d.basic) c) (x c) (ap (d.numbers (length d.basic)) (sym basic.3) ∙ proper.apart basic.0 (length d.basic) basic.1 basic.2 (λ same. let less = get_within d.basic basic.0 basic.1 basic.2 in absurd (omega arith)))
            | inr unknown ↦ times_nothing (d.numbers (length d.basic) c) (x c) (is_unit.elsewhere c unknown other)
          ]

  -- so a solution that is a unit has the negated numbers of the column at the basic variables
  pub value_of_unit : Solves d x → (k v : ℕ) → slice_get d.basic k ≡ Some v → x (v + 1) ≡ neg_ℚ (d.numbers k q)
  value_of_unit solves k v at = neg_unique (d.numbers k q) (x (v + 1)) (sym (row_of_unit k v at) ∙ solves k (get_within d.basic k v at))

less_itself : (a b : Number) → b ≡ neg_ℚ a → a +ℚ b ≡ whole (pos 0)
less_itself a b is = ap (λ y. a +ℚ y) is ∙ (let h : a +ℚ neg_ℚ a ≡ whole (pos 0) = simp ring_ℚ in h)

pub unit_solves : (d : Dictionary) → IsProper d → (q : ℕ) → IsFree d q → q < d.variables + 2 → Solves d (unit d q)
unit_solves d proper q free there k less =
    let at : slice_get d.basic k ≡ Some (basic_at d k) = index_get d.basic k (basic_at d k) 0 less refl in
    row_of_unit d proper q free there (unit d q) (unit_is d q) k (basic_at d k) at
    ∙ less_itself (d.numbers k q) (unit d q (basic_at d k + 1)) (unit_basic d proper q k (basic_at d k) free at)

-- ---- two dictionaries with the same basic variables

free_too : (d e : Dictionary) → SameBasic d e → (c : ℕ) → IsFree e c → IsFree d c
free_too d e same c free k v at column =
    let there = place_of e.basic v ((same v).0 (contains_get d.basic k v at)) in
    free there.0 v there.1 column

unit_too : (d e : Dictionary) → SameBasic d e → (q : ℕ) (x : ℕ → Number) → IsUnit d q x → IsUnit e q x
unit_too d e same q x u = record { here = u.here; elsewhere = λ c free other. u.elsewhere c (free_too d e same c free) other }

same_from_neg : (a b : Number) → neg_ℚ a ≡ neg_ℚ b → a ≡ b
same_from_neg a b same = sym (neg_neg a) ∙ ap neg_ℚ same ∙ neg_neg b

module _ (d e : Dictionary) (proper : IsProper d) (proper_too : IsProper e) (agrees : Agrees d e) (same : SameBasic d e) where
  point_solves : Solves d (unit d 0)
  point_solves = unit_solves d proper 0 (free_zero d) (omega arith)

  point_unit : IsUnit e 0 (unit d 0)
  point_unit = unit_too d e same 0 (unit d 0) (unit_is d 0)

  -- a variable that is basic in both has one constant
  pub same_constant : (k i v : ℕ) → slice_get d.basic k ≡ Some v → slice_get e.basic i ≡ Some v → constant_at d k ≡ constant_at e i
  same_constant k i v at there =
      same_from_neg (constant_at d k) (constant_at e i) (
      sym (unit_basic d proper 0 k v (free_zero d) at)
      ∙ value_of_unit e proper_too 0 (free_zero e) (omega arith) (unit d 0) point_unit (agrees.there (unit d 0) point_solves) i v there
      )

  -- and the objectives have one constant
  pub same_objective : constant_at d (length d.basic) ≡ constant_at e (length e.basic)
  same_objective =
      sym (objective_of_unit d proper 0 (free_zero d) (omega arith) (unit d 0) (unit_is d 0))
      ∙ agrees.objective (unit d 0) point_solves
      ∙ objective_of_unit e proper_too 0 (free_zero e) (omega arith) (unit d 0) point_unit
