-- Rows as linear forms of the columns: what an exchange makes of them, and dictionaries with the
-- same solutions.
use Rattle.std.proofs.Common.{◌≡◌, ◌≢◌, ℕ, ◌+◌, ◌<◌, inl, inr, pos, length, refl, sym, ap, ◌∙◌, subst, arith}
use Rattle.std.specs.List.{range_with_len}
use Rattle.gq_number.specs.Number.{Number, whole, ◌-ℚ◌, ◌*ℚ◌, ◌/ℚ◌}
use Rattle.gq_number.specs.Sums.{sum_by_ℚ}
use Rattle.gq_number.proofs.Field.{/ℚ_is}
use Rattle.gq_number.proofs.Ring.{ring_ℚ}
use Rattle.gq_number.proofs.Quotients.{zero-/ℚ}
use Rattle.gq_number.proofs.Sums.{sums_ℚ, sum_by_ℚ--ℚ, sum_by_ℚ-*ℚ}
use Rattle.lp_core.specs.declared.answer.Pivot.{Pivot}
use Rattle.lp_core.specs.Dictionary.{Dictionary, basic_at, entry_at, divided_entry, exchanged, IsLegal}
use Rattle.lp_fraction_dict.specs.Pivots.{IsProper}
use Rattle.lp_fraction_dict.proofs.Improving.{same_or_not}
use Rattle.lp_fraction_dict.proofs.Equations.{less_nothing, no_quotient}
use Rattle.lp_fraction_dict.proofs.Proper
use Rattle.lp_nocycle.proofs.Sparse.{same_sum}

-- the value of a linear form at values of the columns, of which there are `columns`
abbrev pub form_of : (ℕ → Number) → ℕ → (ℕ → Number) → Number
form_of numbers columns x = sum_by_ℚ (λ c. numbers c *ℚ x c) (range_with_len 0 columns)

-- the value of a row at values of all columns; column 0 is -1 at a point and 0 at a direction
abbrev pub form : Dictionary → ℕ → (ℕ → Number) → Number
form d k x = form_of (d.numbers k) (d.variables + 2) x

pub form_same : (f g : ℕ → Number) (columns : ℕ) (x : ℕ → Number) → ((c : ℕ) → f c ≡ g c) → form_of f columns x ≡ form_of g columns x
form_same f g columns x same = same_sum (λ c. f c *ℚ x c) (λ c. g c *ℚ x c) (λ c. ap (λ a. a *ℚ x c) (same c)) (range_with_len 0 columns)

-- a row over a number
form_divided : (numbers : ℕ → Number) (columns : ℕ) (x : ℕ → Number) (a : Number) → form_of (λ c. numbers c /ℚ a) columns x ≡ form_of numbers columns x /ℚ a
form_divided numbers columns x a = simp (/ℚ_is, sums_ℚ, ring_ℚ)

term_lessened : (a b f x : Number) → (a -ℚ f *ℚ b) *ℚ x ≡ a *ℚ x -ℚ f *ℚ (b *ℚ x)
term_lessened a b f x = simp ring_ℚ

-- a row less a multiple of another
form_lessened : (numbers others : ℕ → Number) (columns : ℕ) (x : ℕ → Number) (f : Number) → form_of (λ c. numbers c -ℚ f *ℚ others c) columns x ≡ form_of numbers columns x -ℚ f *ℚ form_of others columns x
form_lessened numbers others columns x f =
    same_sum (λ c. (numbers c -ℚ f *ℚ others c) *ℚ x c) (λ c. numbers c *ℚ x c -ℚ f *ℚ (others c *ℚ x c)) (λ c. term_lessened (numbers c) (others c) f (x c)) (range_with_len 0 columns)
    ∙ sum_by_ℚ--ℚ (λ c. numbers c *ℚ x c) (λ c. f *ℚ (others c *ℚ x c)) (range_with_len 0 columns)
    ∙ ap (λ y. form_of numbers columns x -ℚ y) (sum_by_ℚ-*ℚ f (λ c. others c *ℚ x c) (range_with_len 0 columns))

-- values of the columns at which every row is 0
abbrev pub Solves : Dictionary → (ℕ → Number) → Type 0
Solves d x = (k : ℕ) → k < length d.basic → form d k x ≡ whole (pos 0)

-- Two dictionaries agree: they have the same solutions, and the same objective at each.
pub record Agrees (d e : Dictionary) : Type 0 where
  pub variables : d.variables ≡ e.variables
  pub sized : length d.basic ≡ length e.basic
  pub there : (x : ℕ → Number) → Solves d x → Solves e x
  pub back : (x : ℕ → Number) → Solves e x → Solves d x
  pub objective : (x : ℕ → Number) → Solves d x → form d (length d.basic) x ≡ form e (length e.basic) x

pub agrees_itself : (d : Dictionary) → Agrees d d
agrees_itself d = record { variables = refl; sized = refl; there = λ x solves. solves; back = λ x solves. solves; objective = λ x solves. refl }

pub agrees_back : (d e : Dictionary) → Agrees d e → Agrees e d
agrees_back d e a = record { variables = sym a.variables; sized = sym a.sized; there = a.back; back = a.there; objective = λ x solves. sym (a.objective x (a.back x solves)) }

pub agrees_on : (d e f : Dictionary) → Agrees d e → Agrees e f → Agrees d f
agrees_on d e f a b =
    record {
      variables = a.variables ∙ b.variables;
      sized = a.sized ∙ b.sized;
      there = λ x solves. b.there x (a.there x solves);
      back = λ x solves. a.back x (b.back x solves);
      objective = λ x solves. a.objective x solves ∙ b.objective x (a.there x solves);
    }

module _ (d : Dictionary) (p : Pivot) (k : ℕ) (proper : IsProper d) (legal : IsLegal d p k) (stays : p.leave ≢ 0) where
  column_kept : (c : ℕ) → c ≡ 1 → basic_at d k ≢ 0
  column_kept c one none = stays (sym (Proper.leaves_is d p k proper legal) ∙ none)

  form_pivot : (x : ℕ → Number) → form (exchanged d p.enter k) k x ≡ form d k x /ℚ entry_at d k p.enter
  form_pivot x =
      form_same ((exchanged d p.enter k).numbers k) (λ c. d.numbers k c /ℚ entry_at d k p.enter) (d.variables + 2) x (λ c. Proper.kept_column d p k proper legal k c (column_kept c) ∙ Proper.pivot_numbers d p k proper legal c)
      ∙ form_divided (d.numbers k) (d.variables + 2) x (entry_at d k p.enter)

  form_other : (i : ℕ) → i ≢ k → (x : ℕ → Number) → form (exchanged d p.enter k) i x ≡ form d i x -ℚ entry_at d i p.enter *ℚ (form d k x /ℚ entry_at d k p.enter)
  form_other i other x =
      form_same ((exchanged d p.enter k).numbers i) (λ c. d.numbers i c -ℚ entry_at d i p.enter *ℚ divided_entry d p.enter k c) (d.variables + 2) x (λ c. Proper.kept_column d p k proper legal i c (column_kept c) ∙ Proper.other_numbers d p k proper legal i c other)
      ∙ form_lessened (d.numbers i) (divided_entry d p.enter k) (d.variables + 2) x (entry_at d i p.enter)
      ∙ ap (λ y. form d i x -ℚ entry_at d i p.enter *ℚ y) (form_divided (d.numbers k) (d.variables + 2) x (entry_at d k p.enter))

  form_kept : (i : ℕ) → i ≢ k → (x : ℕ → Number) → form d k x ≡ whole (pos 0) → form (exchanged d p.enter k) i x ≡ form d i x
  form_kept i other x none = form_other i other x ∙ less_nothing (form d i x) (entry_at d i p.enter) (entry_at d k p.enter) (form d k x) none

  within : k < length d.basic
  within = Proper.place_within d p k proper legal

  sized_after : length (exchanged d p.enter k).basic ≡ length d.basic
  sized_after = Proper.same_size d p k proper legal

  solves_after : (x : ℕ → Number) → Solves d x → Solves (exchanged d p.enter k) x
  solves_after x solves i less =
      elim (same_or_not i k) [
        | inl same ↦ subst (λ j. form (exchanged d p.enter k) j x ≡ whole (pos 0)) (sym same) (form_pivot x ∙ ap (λ y. y /ℚ entry_at d k p.enter) (solves k within) ∙ zero-/ℚ (entry_at d k p.enter))
        | inr other ↦ form_kept i other x (solves k within) ∙ solves i (subst (λ n. i < n) sized_after less)
      ]

  row_before : (x : ℕ → Number) → Solves (exchanged d p.enter k) x → form d k x ≡ whole (pos 0)
  row_before x solves =
      no_quotient (form d k x) (entry_at d k p.enter) (Proper.pivot_some d p k proper legal) (sym (form_pivot x) ∙ solves k (subst (λ n. k < n) (sym sized_after) within))

  solves_before : (x : ℕ → Number) → Solves (exchanged d p.enter k) x → Solves d x
  solves_before x solves i less =
      elim (same_or_not i k) [
        | inl same ↦ subst (λ j. form d j x ≡ whole (pos 0)) (sym same) (row_before x solves)
        | inr other ↦ sym (form_kept i other x (row_before x solves)) ∙ solves i (subst (λ n. i < n) (sym sized_after) less)
      ]

  objective_after : (x : ℕ → Number) → Solves d x → form (exchanged d p.enter k) (length d.basic) x ≡ form d (length d.basic) x
  objective_after x solves = form_kept (length d.basic) (λ same. let less = within in absurd (omega arith)) x (solves k within)

  -- an exchange by which variable 0 does not leave keeps the solutions and the objective
  pub agrees_after : Agrees d (exchanged d p.enter k)
  agrees_after =
      record {
        variables = refl;
        sized = sym sized_after;
        there = solves_after;
        back = solves_before;
        objective = λ x solves. sym (objective_after x solves) ∙ ap (λ n. form (exchanged d p.enter k) n x) (sym sized_after);
      }
