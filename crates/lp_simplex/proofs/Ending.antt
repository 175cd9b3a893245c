-- An end recovered from a final dictionary is the end of the search.
use Rattle.std.proofs.Common.{◌≡◌, ℕ, ◌+◌, inl, inr, length, Option, Some, None, refl, sym, ap, subst, arith}
use Rattle.std.proofs.lemmas.List.FromFn.{length-map-range_with_len}
use Rattle.gq_number.specs.Number.{Number}
use Rattle.lp_core.specs.declared.answer.Rule.TheVariants.{Legal}
use Rattle.lp_core.specs.declared.answer.End.{End}
use Rattle.lp_core.specs.declared.program.Lp.{Lp}
use Rattle.lp_core.specs.StandardForm.{Standard, Last}
use Rattle.lp_core.specs.Dictionary.{Dictionary, Improves}
use Rattle.lp_core.specs.Pivots.{row_of_basic, change_by_row, NothingImproves, last_of, last_along, IsAllowedBy}
use Rattle.lp_core.specs.Ends.{IsUnlimited, IsUnlimitedBy, IsUnfinishedBy, IsPhase, EndsSoBy, ends_by_kind, limit_is_met, step_stops, EndsWith}
use Rattle.lp_core.specs.declared.answer.EndKind.{EndKind}
use Rattle.lp_core.specs.declared.answer.EndKind.TheVariants as kind
use Rattle.lp_std.specs.Last.{IsDictionaryOf, IsReadAt}
use Rattle.lp_fraction_dict.specs.Reading.{IsDone}
use Rattle.lp_simplex.specs.declared.pivoting.Halt.{Halt}
use Rattle.lp_simplex.specs.declared.pivoting.Halt.TheVariants as halt
use Rattle.lp_simplex.specs.InnerStates.{NothingIsNext, HaltsAt}
use Rattle.lp_simplex.specs.InnerEnds.{MayContinue, CanEnd, IsLedBack, IsBrokenOff, EndsHalted}

-- ---- what the run requires of a dictionary

module _ (Chosen : ℕ → Type 0) (d : Dictionary) (improves : (q : ℕ) → Chosen q → Improves d q) where
  pub unlimited_legal : (q : ℕ) → IsUnlimitedBy Chosen d q → IsUnlimited Legal d q
  unlimited_legal q h = (h.0, improves q h.1, h.2)

  pub done_at : (enter : Option ℕ) → NothingIsNext Chosen d enter → IsDone d enter
  done_at None h = inl h
  done_at (Some q) h = (h.0, unlimited_legal q h.1)

  pub may_come_next : IsUnfinishedBy Chosen d → MayContinue d
  may_come_next goes = elim goes [ inl required ↦ inl required | inr more ↦ inr (more.1.0, improves more.1.0 more.1.2) ]

pub can_end : {F : Type 0} (value : F → Number) (limit : ℕ) (Chosen : ℕ → Type 0) (s : Standard) (iterlim pivots : ℕ) (last : Dictionary) (h : Halt F) → ((q : ℕ) → Chosen q → Improves last q) → IsDictionaryOf s last → HaltsAt limit value Chosen iterlim pivots last h → CanEnd value s h
can_end value limit Chosen s iterlim pivots last (halt.Ended d enter) improves of_form halts =
    (subst (IsDictionaryOf s) (sym halts.0) of_form, subst (λ e. IsDone e enter) (sym halts.0) (done_at Chosen last improves enter halts.1))
can_end value limit Chosen s iterlim pivots last (halt.Interrupted d) improves of_form halts =
    (subst (IsDictionaryOf s) (sym halts.0) of_form, subst MayContinue (sym halts.0) (may_come_next Chosen last improves halts.2))
can_end value limit Chosen s iterlim pivots last (halt.Refused step) improves of_form halts = tt

-- a run broken off in phase 2 is at a dictionary where something improves
pub broken_off_done : (d : Dictionary) → MayContinue d → IsPhase d 2 → IsDone d None
broken_off_done d goes phase =
    elim phase [
      | inl one ↦ absurd (let e = one.0 in cc)
      | inr two ↦ elim goes [ inl required ↦ absurd (two.1 required) | inr more ↦ inr (two.2, two.1, more) ]
    ]

-- ---- what the end says

-- along a ray a change is read for each variable, without one none
has_ray : (d : Dictionary) (q : ℕ) → last_of d ≡ last_along d q → ⊥
has_ray d q same =
    let some : length (last_along d q).changes ≡ d.variables + 1 =
    length-map-range_with_len (λ v. change_by_row d q v (row_of_basic d v)) 0 (d.variables + 1) in
    let none : 0 ≡ length (last_along d q).changes = ap (λ (l : Last). length l.changes) same in
    omega (arith, some, none)

module _ {F : Type 0} (value : F → Number) (limit : ℕ) (lp : Lp F) (iterlim : ℕ) (Chosen : ℕ → Type 0) (pivots : ℕ) (d : Dictionary) (improves : (q : ℕ) → Chosen q → Improves d q) where
  -- the end at a dictionary where no pivot is required
  pub ended_so : (enter : Option ℕ) (end : End F) → NothingIsNext Chosen d enter → IsLedBack value limit lp d enter end → EndsSoBy value limit lp iterlim (IsAllowedBy Chosen d) Chosen pivots d end
  ended_so None end none led = by_kind led.kind led.read led.gives
    where
      by_kind : (k : EndKind) → IsReadAt d k (last_of d) → EndsWith value limit lp k (last_of d) end → EndsSoBy value limit lp iterlim (IsAllowedBy Chosen d) Chosen pivots d end
      by_kind kind.Optimal read gives = ends_by_kind kind.Optimal (last_of d) read gives
      by_kind kind.Infeasible read gives = ends_by_kind kind.Infeasible (last_of d) read gives
      by_kind kind.Unbounded read gives = absurd (has_ray d read.1.0 read.1.2)
      by_kind kind.Interrupted read gives = absurd (none.1 read.2.0 read.2.1)
  ended_so (Some q) end required led = by_kind led.kind led.read led.gives
    where
      by_kind : (k : EndKind) → IsReadAt d k (last_along d q) → EndsWith value limit lp k (last_along d q) end → EndsSoBy value limit lp iterlim (IsAllowedBy Chosen d) Chosen pivots d end
      by_kind kind.Optimal read gives = absurd (has_ray d q (sym read.2))
      by_kind kind.Infeasible read gives = absurd (has_ray d q (sym read.2))
      by_kind kind.Unbounded read gives = ends_by_kind kind.Unbounded (last_along d q) (required.0, (q, required.1, refl)) gives
      by_kind kind.Interrupted read gives = absurd (has_ray d q (sym read.3))

  -- the end where the limit of pivots is met
  pub broken_off_so : (end : End F) → pivots ≡ iterlim → IsUnfinishedBy Chosen d → IsBrokenOff value limit lp d end → EndsSoBy value limit lp iterlim (IsAllowedBy Chosen d) Chosen pivots d end
  broken_off_so end most goes (inl one) = limit_is_met most one.0 goes one.1
  broken_off_so end most goes (inr two) = by_kind two.1.kind two.1.read two.1.gives
    where
      goes_or_not : NothingImproves d → ⊥
      goes_or_not none = elim goes [ inl required ↦ none.0 required | inr more ↦ none.1 more.1.0 (improves more.1.0 more.1.2) ]

      by_kind : (k : EndKind) → IsReadAt d k (last_of d) → EndsWith value limit lp k (last_of d) end → EndsSoBy value limit lp iterlim (IsAllowedBy Chosen d) Chosen pivots d end
      by_kind kind.Optimal read gives = absurd (goes_or_not read.1)
      by_kind kind.Infeasible read gives = absurd (goes_or_not read.1)
      by_kind kind.Unbounded read gives = absurd (has_ray d read.1.0 read.1.2)
      by_kind kind.Interrupted read gives = ends_by_kind kind.Interrupted (last_of d) (read.0, read.1, (most, goes), refl) gives

-- the end of a run that halts so
pub halted_so : {F : Type 0} (value : F → Number) (limit : ℕ) (lp : Lp F) (iterlim : ℕ) (Chosen : ℕ → Type 0) (pivots : ℕ) (last : Dictionary) (h : Halt F) (end : End F) → ((q : ℕ) → Chosen q → Improves last q) → HaltsAt limit value Chosen iterlim pivots last h → EndsHalted value limit lp h end → EndsSoBy value limit lp iterlim (IsAllowedBy Chosen last) Chosen pivots last end
halted_so value limit lp iterlim Chosen pivots last (halt.Ended d enter) end improves halts ends =
    ended_so value limit lp iterlim Chosen pivots last improves enter end halts.1 (subst (λ e. IsLedBack value limit lp e enter end) halts.0 ends)
halted_so value limit lp iterlim Chosen pivots last (halt.Interrupted d) end improves halts ends =
    broken_off_so value limit lp iterlim Chosen pivots last improves end halts.1 halts.2 (subst (λ e. IsBrokenOff value limit lp e end) halts.0 ends)
halted_so value limit lp iterlim Chosen pivots last (halt.Refused step) end improves halts ends = step_stops halts.0 step ends halts.1
