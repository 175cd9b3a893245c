-- What is remembered after a pivot more is so.
use Rattle.std.proofs.Common.{◌≡◌, ◌≢◌, ℕ, ◌+◌, ◌<◌, ◌≤◌, ◌⊎◌, inl, inr, Bool, true, false, pos, List, [], ◌∷◌, ◌++◌, length, Some, refl, sym, ap, ◌∙◌, subst, arith}
use Rattle.std.specs.Prelude.{slice_get, ◌==◌, ◌↔◌, IsTrue, not, cond}
use Rattle.std.proofs.lemmas.Bool.{cases_lt, eq-eqb, ne_eqb, lt-ltb, le-ltb}
use Rattle.std.proofs.lemmas.List.{length-append, append_assoc}
use Rattle.gq_number.specs.Number.{Number, whole}
use Rattle.lp_core.specs.declared.answer.Pivot.{Pivot}
use Rattle.lp_core.specs.Dictionary.{Dictionary, constant_at, IsLegal, exchanged}
use Rattle.lp_core.specs.Ends.{IsPhase}
use Rattle.lp_core.specs.Choices.{leaving_row, after_pivot, reached, AllAlong}
use Rattle.lp_core.specs.LargestCoefficient.{IsOfPhase, IsDegeneratePivot, HasTurned}
use Rattle.lp_fraction_dict.specs.Pivots.{IsProper}
use Rattle.lp_fraction_dict.proofs.Improving.{same_or_not}
use Rattle.lp_simplex.proofs.Lists.{split_more}
use Rattle.lp_simplex.proofs.PivotSteps.{leaves_row, row_is_leaving, after_is, reached_append}
use Rattle.lp_simplex.specs.declared.turning.Count.{Count}
use Rattle.lp_simplex.specs.declared.turning.Count.TheVariants as counts
use Rattle.lp_simplex.specs.InnerCounting.{EndsStill, IsCounting, Remembers, after}
use Rattle.lp_simplex.proofs.Along.{along_more, along_prefix, along_last}
use Rattle.lp_simplex.proofs.Phases.{phase_of, same_phase, other_phase}

abbrev Zero : Number
Zero = whole (pos 0)

nil_after : (l : List Pivot) → l ++ [] ≡ l
nil_after [] = refl
nil_after (x ∷ l) = ap (λ m. x ∷ m) (nil_after l)

-- ---- before any pivot

nothing_in : (before still following : List Pivot) → [] ≡ before ++ still ++ following → still ≡ []
nothing_in [] [] following e = refl
nothing_in [] (p ∷ still) following e = absurd (cc)
nothing_in (p ∷ before) still following e = absurd (cc)

none_still : (d : Dictionary) → ¬ (HasTurned d [] d)
none_still d turned = let none = ap length (nothing_in turned.before turned.still turned.following turned.split) in let many = turned.many in absurd (omega arith)

pub begins : (d : Dictionary) → Remembers (counts.Still 0) d [] d
begins d =
    record {
      here = refl;
      few = omega arith;
      is_count = inl refl;
      at_most = λ still ends. let none = ap length (nothing_in ends.before still [] (ends.split ∙ sym (nil_after (ends.before ++ still)))) in omega arith;
      not_turned = none_still d;
    }

-- ---- one pivot more

-- the last pivots gained nothing, and the one more is of this phase
record OneMore (first : Dictionary) (pivots : List Pivot) (d : Dictionary) (p : Pivot) (e : Dictionary) (still : List Pivot) : Type 0 where
  phase : ℕ
  prefix : List Pivot
  is : still ≡ prefix ++ p ∷ []
  ends : EndsStill first pivots d prefix
  gains_nothing : IsDegeneratePivot phase d p
  now : IsPhase e phase

module _ (first : Dictionary) (pivots : List Pivot) (d : Dictionary) (p : Pivot) (k : ℕ) (proper : IsProper d) (legal : IsLegal d p k) (here : d ≡ reached first pivots) where
  abbrev Next : Dictionary
  Next = exchanged d p.enter k

  abbrev All : List Pivot
  All = pivots ++ p ∷ []

  here_next : Next ≡ reached first All
  here_next = after_is d p k proper (leaves_row d p k legal) ∙ ap (λ x. after_pivot x p) here ∙ sym (reached_append first pivots (p ∷ []))

  reached_by : (before prefix : List Pivot) → pivots ≡ before ++ prefix → reached (reached first before) prefix ≡ d
  reached_by before prefix split = sym (reached_append first before prefix) ∙ ap (reached first) (sym split) ∙ sym here

  row_is : constant_at d (leaving_row d p) ≡ constant_at d k
  row_is = ap (constant_at d) (row_is_leaving d p k proper (leaves_row d p k legal))

  ends_before : (still prefix before : List Pivot) (phase : ℕ) → still ≡ prefix ++ p ∷ [] → pivots ≡ before ++ prefix → AllAlong (IsDegeneratePivot phase) (reached first before) still → IsPhase Next phase → OneMore first pivots d p Next still
  ends_before still prefix before phase is split nothing now =
      let all : AllAlong (IsDegeneratePivot phase) (reached first before) (prefix ++ p ∷ []) = subst (AllAlong (IsDegeneratePivot phase) (reached first before)) is nothing in
      let last : IsDegeneratePivot phase d p = subst (λ x. IsDegeneratePivot phase x p) (reached_by before prefix split) (along_last (IsDegeneratePivot phase) (reached first before) prefix p all) in
      record {
        phase = phase;
        prefix = prefix;
        is = is;
        ends = record { phase = phase; before = before; split = split; gains_nothing = along_prefix (IsDegeneratePivot phase) (reached first before) prefix p all; now = last.0 };
        gains_nothing = last;
        now = now;
      }

  ends_last : (still : List Pivot) → EndsStill first All Next still → (still ≡ []) ⊎ OneMore first pivots d p Next still
  ends_last still ends =
      elim (split_more pivots ends.before still p ends.split) [
        | inl none ↦ inl none
        | inr found ↦ inr (ends_before still found.0 ends.before ends.phase found.1 found.2 ends.gains_nothing ends.now)
      ]

  -- where the turn has come it had come before, or it comes by this pivot
  abbrev Earlier : Type 0
  Earlier = HasTurned first pivots d × ((n : ℕ) × IsPhase d n × IsPhase Next n)

  abbrev ByThis : Type 0
  ByThis = (still : List Pivot) × (length still ≡ d.variables + 1) × OneMore first pivots d p Next still

  earlier : (turned : HasTurned first All Next) (prefix : List Pivot) → turned.following ≡ prefix ++ p ∷ [] → pivots ≡ (turned.before ++ turned.still) ++ prefix → Earlier
  earlier turned prefix is split =
      let start = reached first (turned.before ++ turned.still) in
      let all : AllAlong (IsOfPhase turned.phase) start (prefix ++ p ∷ []) = subst (AllAlong (IsOfPhase turned.phase) start) is turned.same_phase in
      let last : IsPhase d turned.phase = subst (λ x. IsPhase x turned.phase) (reached_by (turned.before ++ turned.still) prefix split) (along_last (IsOfPhase turned.phase) start prefix p all) in (
        record {
          phase = turned.phase;
          before = turned.before;
          still = turned.still;
          following = prefix;
          split = split;
          many = turned.many;
          gains_nothing = turned.gains_nothing;
          same_phase = along_prefix (IsOfPhase turned.phase) start prefix p all;
          now = last;
        },
        (turned.phase, last, turned.now),
      )

  some_still : (still : List Pivot) (n : ℕ) → still ≡ [] → length still ≡ n + 1 → ⊥
  some_still still n none many = let zero = ap length none in absurd (omega arith)

  by_this : (turned : HasTurned first All Next) → turned.following ≡ [] → ByThis
  by_this turned none =
      let split : All ≡ turned.before ++ turned.still = turned.split ∙ ap (λ l. turned.before ++ turned.still ++ l) none ∙ nil_after (turned.before ++ turned.still) in
      elim (split_more pivots turned.before turned.still p split) [
        | inl empty ↦ absurd (some_still turned.still d.variables empty turned.many)
        | inr found ↦ (turned.still, turned.many, ends_before turned.still found.0 turned.before turned.phase found.1 found.2 turned.gains_nothing turned.now)
      ]

  turned_last : HasTurned first All Next → Earlier ⊎ ByThis
  turned_last turned =
      elim (split_more pivots (turned.before ++ turned.still) turned.following p turned.split) [
        | inl none ↦ inr (by_this turned none)
        | inr found ↦ inl (earlier turned found.0 found.1 found.2)
      ]

  -- ---- where the phase ends

  afresh : ((still : List Pivot) → OneMore first pivots d p Next still → ⊥) → ¬ (HasTurned first All Next) → IsCounting first All Next 0
  afresh none not_turned =
      record {
        here = here_next;
        few = omega arith;
        is_count = inl refl;
        at_most = λ still ends. elim (ends_last still ends) [ inl empty ↦ let zero = ap length empty in omega arith | inr more ↦ absurd (none still more) ];
        not_turned = not_turned;
      }

  pub phase_ends : p.leave ≡ 0 → IsCounting first All Next 0
  phase_ends zero =
      afresh (λ still more. other_phase d p k proper legal zero more.phase more.gains_nothing.0 more.now)
      (λ turned. elim (turned_last turned) [
        | inl before ↦ other_phase d p k proper legal zero before.1.0 before.1.1 before.1.2
        | inr now ↦ let more = now.2 in other_phase d p k proper legal zero more.phase more.gains_nothing.0 more.now
      ])

  -- ---- where it continues

  module _ (continues : p.leave ≢ 0) where
    pub stays_turned : HasTurned first pivots d → HasTurned first All Next
    stays_turned turned =
        record {
          phase = turned.phase;
          before = turned.before;
          still = turned.still;
          following = turned.following ++ p ∷ [];
          split = ap (λ l. l ++ p ∷ []) turned.split ∙ append_assoc (turned.before ++ turned.still) turned.following (p ∷ []);
          many = turned.many;
          gains_nothing = turned.gains_nothing;
          same_phase =
              along_more (IsOfPhase turned.phase) (reached first (turned.before ++ turned.still)) turned.following p turned.same_phase
              (subst (λ x. IsPhase x turned.phase) (sym (reached_by (turned.before ++ turned.still) turned.following turned.split)) turned.now);
          now = same_phase d p k proper legal continues turned.phase turned.now;
        }

    -- a pivot that gains
    pub gained : (count : ℕ) → IsCounting first pivots d count → constant_at d k ≢ Zero → IsCounting first All Next 0
    gained count h gains =
        afresh (λ still more. gains (sym row_is ∙ more.gains_nothing.1)) (λ turned. elim (turned_last turned) [
          | inl before ↦ h.not_turned before.0
          | inr now ↦ let more = now.2 in gains (sym row_is ∙ more.gains_nothing.1)
        ])

    -- one that does not
    module _ (count : ℕ) (h : IsCounting first pivots d count) (nothing : constant_at d k ≡ Zero) where
      here_still : (n : ℕ) → IsPhase d n → IsDegeneratePivot n d p
      here_still n phase = (phase, row_is ∙ nothing)

      ends_more : (prefix : List Pivot) → EndsStill first pivots d prefix → EndsStill first All Next (prefix ++ p ∷ [])
      ends_more prefix ends =
          record {
            phase = ends.phase;
            before = ends.before;
            split = ap (λ l. l ++ p ∷ []) ends.split ∙ append_assoc ends.before prefix (p ∷ []);
            gains_nothing =
                along_more (IsDegeneratePivot ends.phase) (reached first ends.before) prefix p ends.gains_nothing
                (subst (λ x. IsDegeneratePivot ends.phase x p) (sym (reached_by ends.before prefix ends.split)) (here_still ends.phase ends.now));
            now = same_phase d p k proper legal continues ends.phase ends.now;
          }

      no_pivots : EndsStill first pivots d []
      no_pivots =
          let phase = phase_of d p k proper legal in
          record { phase = phase.0; before = pivots; split = sym (nil_after pivots); gains_nothing = tt; now = phase.1 }

      -- the pivots at the end that gained nothing, and this one
      one_more : (still : List Pivot) × EndsStill first All Next still × (length still ≡ count + 1)
      one_more =
          elim h.is_count [
            | inl none ↦ (p ∷ [], ends_more [] no_pivots, ap (λ n. n + 1) (sym none))
            | inr found ↦ (found.0 ++ p ∷ [], ends_more found.0 found.1, length-append found.0 (p ∷ []) ∙ ap (λ n. n + 1) found.2)
          ]

      counted : (still : List Pivot) → OneMore first pivots d p Next still → length still ≤ count + 1
      counted still more =
          let most = h.at_most more.prefix more.ends in
          let long = ap length more.is ∙ length-append more.prefix (p ∷ []) in
          omega arith

      pub one_still : count < d.variables → IsCounting first All Next (count + 1)
      one_still less =
          record {
            here = here_next;
            few = omega arith;
            is_count = inr one_more;
            at_most = λ still ends. elim (ends_last still ends) [ inl empty ↦ let zero = ap length empty in omega arith | inr more ↦ counted still more ];
            not_turned = λ turned. elim (turned_last turned) [
              | inl before ↦ h.not_turned before.0
              | inr now ↦ let most = counted now.0 now.2 in let many = now.1 in absurd (omega arith)
            ];
          }

      pub turns : d.variables ≤ count → HasTurned first All Next
      turns enough =
          let few = h.few in
          let last = one_more.1 in
          let long = one_more.2 in
          record {
            phase = last.phase;
            before = last.before;
            still = one_more.0;
            following = [];
            split = last.split ∙ sym (nil_after (last.before ++ one_more.0));
            many = omega arith;
            gains_nothing = last.gains_nothing;
            same_phase = tt;
            now = last.now;
          }

  -- ---- the whole

  remembers_by : (s : Count) (ends gains : Bool) → (ends ≡ true → p.leave ≡ 0) → (ends ≡ false → p.leave ≢ 0) → (gains ≡ true → constant_at d k ≢ Zero) → (gains ≡ false → constant_at d k ≡ Zero) → Remembers s first pivots d → Remembers (after s ends gains d.variables) first All Next
  remembers_by (counts.Still count) true gains zero other some none h = phase_ends (zero refl)
  remembers_by counts.Turned true gains zero other some none h = phase_ends (zero refl)
  remembers_by counts.Turned false gains zero other some none h = (here_next, stays_turned (other refl) h.1)
  remembers_by (counts.Still count) false true zero other some none h = gained (other refl) count h (some refl)
  remembers_by (counts.Still count) false false zero other some none h =
      elim (cases_lt count d.variables) [
        | inl less ↦ subst (λ b. Remembers (cond b (counts.Still (count + 1)) counts.Turned) first All Next) (sym (lt-ltb count d.variables less)) (one_still (other refl) count h (none refl) less)
        | inr enough ↦ subst (λ b. Remembers (cond b (counts.Still (count + 1)) counts.Turned) first All Next) (sym (le-ltb count d.variables enough)) (here_next, turns (other refl) count h (none refl) enough)
      ]

  pub remembers_more : (s new : Count) (zero : Bool) (amount : Number) → new ≡ after s (p.leave == 0) (not zero) d.variables → IsTrue zero ↔ (amount ≡ Zero) → amount ≡ constant_at d k → Remembers s first pivots d → Remembers new first All Next
  remembers_more s new zero amount is tells amount_is h =
      subst (λ x. Remembers x first All Next) (sym is)
      (remembers_by s (p.leave == 0) (not zero) by_zero by_other some none h)
    where
      by_zero : (p.leave == 0) ≡ true → p.leave ≡ 0
      by_zero e = elim (same_or_not p.leave 0) [ inl same ↦ same | inr other ↦ absurd (let no = ne_eqb p.leave 0 other in cc) ]

      by_other : (p.leave == 0) ≡ false → p.leave ≢ 0
      by_other e same = absurd (let yes = eq-eqb p.leave 0 same in cc)

      of_zero : (b : Bool) → (IsTrue b ↔ (amount ≡ Zero)) → not b ≡ true → amount ≢ Zero
      of_zero true tells e none = absurd (cc)
      of_zero false tells e none = absurd (let yes = tells.1 none in cc)

      some : not zero ≡ true → constant_at d k ≢ Zero
      some e none = of_zero zero tells e (amount_is ∙ none)

      of_none : (b : Bool) → (IsTrue b ↔ (amount ≡ Zero)) → not b ≡ false → amount ≡ Zero
      of_none true tells e = tells.0 refl
      of_none false tells e = absurd (cc)

      none : not zero ≡ false → constant_at d k ≡ Zero
      none e = sym amount_is ∙ of_none zero tells e

here_of : (s : Count) (first : Dictionary) (pivots : List Pivot) (d : Dictionary) → Remembers s first pivots d → d ≡ reached first pivots
here_of (counts.Still count) first pivots d h = h.here
here_of counts.Turned first pivots d h = h.0

pub noted : (first : Dictionary) (pivots : List Pivot) (d : Dictionary) (p : Pivot) (k : ℕ) → IsProper d → ((j : ℕ) × IsLegal d p j) → slice_get d.basic k ≡ Some p.leave → (s new : Count) (zero : Bool) (amount : Number) → new ≡ after s (p.leave == 0) (not zero) d.variables → IsTrue zero ↔ (amount ≡ Zero) → amount ≡ constant_at d k → Remembers s first pivots d → Remembers new first (pivots ++ p ∷ []) (exchanged d p.enter k)
noted first pivots d p k proper legal leaves s new zero amount is tells amount_is h =
    let same : legal.0 ≡ k = proper.distinct legal.0 k p.leave (leaves_row d p legal.0 legal.1) leaves in
    remembers_more first pivots d p k proper (subst (IsLegal d p) same legal.1) (here_of s first pivots d h) s new zero amount is tells amount_is h
