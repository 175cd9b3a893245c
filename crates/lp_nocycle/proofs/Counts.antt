-- Pivots of a run that turns to Bland's rule after a number of successive pivots without gain.
use Rattle.std.proofs.Common.{◌≡◌, ◌≢◌, ℕ, zero, suc, ◌+◌, ◌-◌, ◌*◌, ◌<◌, ◌≤◌, ◌⊎◌, inl, inr, pos, List, [], ◌∷◌, ◌++◌, append_assoc, append-nil, length, Some, refl, sym, ap, ◌∙◌, subst, arith}
use Rattle.std.specs.Prelude.{slice_get, unwrap_or}
use Rattle.std.proofs.lemmas.Bool.{cases_lt}
use Rattle.std.proofs.lemmas.List.{length-append}
use Rattle.std.proofs.lemmas.Nat.{mul-add-lt}
use Rattle.gq_number.specs.Number.{Number, whole}
use Rattle.gq_number.proofs.Order.{≤ℚ_or_above, ≤ℚ_antisymm, not_above, ≤ℚ_from_≡}
use Rattle.lp_core.specs.declared.answer.Pivot.{Pivot}
use Rattle.lp_core.specs.declared.answer.Rule.TheVariants.{Bland}
use Rattle.lp_core.specs.Dictionary.{Dictionary, constant_at, exchanged}
use Rattle.lp_core.specs.Pivots.{IsChosen, IsTaken}
use Rattle.lp_core.specs.Ends.{IsPhase}
use Rattle.lp_core.specs.Choices.{leaving_row, after_pivot, reached, AllAlong}
use Rattle.lp_core.specs.LargestCoefficient.{IsOfPhase, IsDegeneratePivot, HasTurned}
use Rattle.lp_fraction_dict.specs.Pivots.{IsProper}
use Rattle.lp_fraction_dict.proofs.Improving.{same_or_not, found_or_not}
use Rattle.lp_fraction_dict.proofs.Kept.{contains_get}
use Rattle.lp_fraction_dict.proofs.Lists.{place_is}
use Rattle.lp_nocycle.specs.Cycling.{SameBasic}
use Rattle.lp_nocycle.specs.PivotCount.{twice_sets}
use Rattle.lp_nocycle.specs.Turns.{pivots_by_turn}
use Rattle.lp_nocycle.proofs.Runs.{IsRun, AreBlands, proper_at, none_required_at, leaving_at, in_at, out_at}
use Rattle.lp_nocycle.proofs.Level.{Returns, touched_before}
use Rattle.lp_nocycle.proofs.Fickle.{returns, no_return}
use Rattle.lp_nocycle.proofs.Pigeons.{SamePhase, at_most, code, code_within, first_or_second, phases_same, same_code}
use Rattle.lp_nocycle.proofs.Following.{moved}

abbrev Zero : Number
Zero = whole (pos 0)

-- ---- phases

phase_is : (d : Dictionary) (m n : ℕ) → IsPhase d m → IsPhase d n → m ≡ n
phase_is d m n (inl one) (inl too) = one.0 ∙ sym too.0
phase_is d m n (inl one) (inr two) = absurd (elim one.1 [ inl required ↦ two.1 required | inr here ↦ two.2 here ])
phase_is d m n (inr two) (inl one) = absurd (elim one.1 [ inl required ↦ two.1 required | inr here ↦ two.2 here ])
phase_is d m n (inr two) (inr too) = two.0 ∙ sym too.0

-- the phase of a dictionary
phase_of : (d : Dictionary) → (n : ℕ) × IsPhase d n
phase_of d = elim (first_or_second d) [ inl one ↦ (1, inl (refl, one)) | inr two ↦ (2, inr (refl, two.0, two.1)) ]

same_phase_or_not : (d e : Dictionary) → SamePhase d e ⊎ ¬ (SamePhase d e)
same_phase_or_not d e =
    let here = phase_of d in
    let there = phase_of e in
    elim (same_or_not here.0 there.0) [
      | inl same ↦ inl (there.0, subst (IsPhase d) same here.1, there.1)
      | inr other ↦ inr (λ both. other (phase_is d here.0 both.0 here.1 both.1 ∙ phase_is e both.0 there.0 both.2 there.1))
    ]

zero_or_not : (x : Number) → (x ≡ Zero) ⊎ (x ≢ Zero)
zero_or_not x =
    elim (≤ℚ_or_above x Zero) [
      | inr above ↦ inr (λ none. not_above x Zero (≤ℚ_from_≡ x Zero none) above)
      | inl most ↦ elim (≤ℚ_or_above Zero x) [
        | inl least ↦ inl (≤ℚ_antisymm x Zero most least)
        | inr below ↦ inr (λ none. not_above Zero x (≤ℚ_from_≡ Zero x (sym none)) below)
      ]
    ]

-- ---- where pivots lead

along_more : (At : Dictionary → Pivot → Type 0) (d : Dictionary) (ps : List Pivot) (p : Pivot) → AllAlong At d ps → At (reached d ps) p → AllAlong At d (ps ++ p ∷ [])
along_more At d [] p all here = (here, tt)
along_more At d (q ∷ ps) p all here = (all.0, along_more At (after_pivot d q) ps p all.1 here)

reached_append : (d : Dictionary) (ps qs : List Pivot) → reached d (ps ++ qs) ≡ reached (reached d ps) qs
reached_append d [] qs = refl
reached_append d (p ∷ ps) qs = reached_append (after_pivot d p) ps qs

-- the row of a pivot is that of the variable that leaves
row_is_leaving : (d : Dictionary) (p : Pivot) (k : ℕ) → IsProper d → slice_get d.basic k ≡ Some p.leave → leaving_row d p ≡ k
row_is_leaving d p k proper leaves = ap (λ r. unwrap_or r 0) (place_is d.basic k p.leave proper.distinct leaves)

-- ---- how many pivots on end gained nothing, and whether the turn has come

module _ (m w : ℕ) (at : ℕ → Dictionary) (pivot : ℕ → Pivot) (row : ℕ → ℕ) where
  -- a pivot within its phase that gains nothing
  abbrev pub IsStill : ℕ → Type 0
  IsStill j = SamePhase (at j) (at (suc j)) × (constant_at (at j) (row j) ≡ Zero)

  abbrev pub Gains : ℕ → Type 0
  Gains j = SamePhase (at j) (at (suc j)) × (constant_at (at j) (row j) ≢ Zero)

  -- The count of pivots without gain, after a pivot: 0 where another phase begins; unchanged after
  -- the turn; else 0 after a gain, and one more after a pivot without gain.
  pub data IsCounted (j c n : ℕ) : Type 0 where
    changes : ¬ (SamePhase (at j) (at (suc j))) → n ≡ 0 → IsCounted j c n
    gains : Gains j → c < w → n ≡ 0 → IsCounted j c n
    still : IsStill j → c < w → n ≡ suc c → IsCounted j c n
    turned : SamePhase (at j) (at (suc j)) → w ≤ c → n ≡ w → IsCounted j c n

  counts : (j c : ℕ) → (n : ℕ) × IsCounted j c n
  counts j c =
      elim (same_phase_or_not (at j) (at (suc j))) [
        | inr other ↦ (0, changes other refl)
        | inl same ↦ elim (cases_lt c w) [
          | inr past ↦ (w, turned same past refl)
          | inl less ↦ elim (zero_or_not (constant_at (at j) (row j))) [
            | inl none ↦ (suc c, still (same, none) less refl)
            | inr some ↦ (0, gains (same, some) less refl)
          ]
        ]
      ]

  pub count : ℕ → ℕ
  count zero = 0
  count (suc j) = (counts j (count j)).0

  pub counted : (j : ℕ) → IsCounted j (count j) (count (suc j))
  unfolding count
  counted j = (counts j (count j)).1

  count_first : count 0 ≡ 0
  unfolding count
  count_first = refl

  next_within : (j c n : ℕ) → IsCounted j c n → n ≤ w
  next_within j c n (changes other is) = omega arith
  next_within j c n (gains gained less is) = omega arith
  next_within j c n (still none less is) = omega arith
  next_within j c n (turned same past is) = omega arith

  pub count_within : (j : ℕ) → count j ≤ w
  count_within zero = let none = count_first in omega arith
  count_within (suc j) = next_within j (count j) (count (suc j)) (counted j)

  -- pivots that gain nothing raise the count
  rises : (b j c n : ℕ) → IsStill j → b < w → b ≤ c → IsCounted j c n → b < n
  rises b j c n here less more (changes other is) = absurd (other here.0)
  rises b j c n here less more (gains gained below is) = absurd (gained.1 here.1)
  rises b j c n here less more (still none below is) = omega arith
  rises b j c n here less more (turned same past is) = omega arith

  pub still_rises : (i j : ℕ) → i < j → ((l : ℕ) → i ≤ l → l < j → IsStill l) → count i < w → count i < count j
  still_rises i zero less all few = absurd (omega arith)
  still_rises i (suc j) less all few =
      elim (same_or_not i j) [
        | inl same ↦ let at_most_here : count i ≤ count j = (let e : count i ≡ count j = ap count same in omega arith) in rises (count i) j (count j) (count (suc j)) (all j (omega arith) (omega arith)) few at_most_here (counted j)
        | inr other ↦
            let before = still_rises i j (omega arith) (λ l from to. all l from (omega arith)) few in
            rises (count i) j (count j) (count (suc j)) (all j (omega arith) (omega arith)) few (omega arith) (counted j)
      ]

  -- where the turn has come it stays so within the phase
  keeps : (j c n : ℕ) → SamePhase (at j) (at (suc j)) → w ≤ c → IsCounted j c n → w ≤ n
  keeps j c n here past (changes other is) = absurd (other here)
  keeps j c n here past (gains gained less is) = absurd (omega arith)
  keeps j c n here past (still none less is) = absurd (omega arith)
  keeps j c n here past (turned same more is) = omega arith

  pub turn_stays : (i n : ℕ) → ((l : ℕ) → l < n → SamePhase (at (i + l)) (at (suc (i + l)))) → w ≤ count i → w ≤ count (i + n)
  turn_stays i zero all past = let e : count (i + 0) ≡ count i = ap count (omega arith) in omega arith
  turn_stays i (suc n) all past =
      let e : count (i + suc n) ≡ count (suc (i + n)) = ap count (omega arith) in
      let before = turn_stays i n (λ l less. all l (omega arith)) past in
      let here = keeps (i + n) (count (i + n)) (count (suc (i + n))) (all n (omega arith)) before (counted (i + n)) in
      omega arith

  -- ---- what the count tells

  module _ (runs : IsRun m at pivot row) (variables : (j : ℕ) → (at j).variables + 1 ≡ w) (first : Dictionary) (done : ℕ → List Pivot) (begins : at 0 ≡ reached first (done 0)) (more : (j : ℕ) → j < m → done (suc j) ≡ done j ++ pivot j ∷ []) where
    -- The last c pivots gained nothing, and all are of the phase of this dictionary.
    pub record IsStreak (j c : ℕ) : Type 0 where
      pub phase : ℕ
      pub before : List Pivot
      pub streak : List Pivot
      pub split : done j ≡ before ++ streak
      pub long : length streak ≡ c
      pub gains_nothing : AllAlong (IsDegeneratePivot phase) (reached first before) streak
      pub now : IsPhase (at j) phase

    leaving_is : (j : ℕ) → j < m → leaving_row (at j) (pivot j) ≡ row j
    leaving_is j less = row_is_leaving (at j) (pivot j) (row j) (proper_at m at pivot row runs j (omega arith)) (leaving_at m at pivot row runs j less)

    here : (j : ℕ) → j ≤ m → at j ≡ reached first (done j)
    here zero within = begins
    here (suc j) within =
        runs.next j (omega arith) ∙ ap (exchanged (at j) (pivot j).enter) (sym (leaving_is j (omega arith))) ∙ ap (λ d. after_pivot d (pivot j)) (here j (omega arith))
        ∙ sym (reached_append first (done j) (pivot j ∷ [])) ∙ ap (reached first) (sym (more j (omega arith)))

    reached_by : (j : ℕ) (before following : List Pivot) → j ≤ m → done j ≡ before ++ following → reached (reached first before) following ≡ at j
    reached_by j before following within split = sym (reached_append first before following) ∙ ap (reached first) (sym split) ∙ sym (here j within)

    done_more : (j : ℕ) (before following : List Pivot) → j < m → done j ≡ before ++ following → done (suc j) ≡ before ++ (following ++ pivot j ∷ [])
    done_more j before following less split = more j less ∙ ap (λ l. l ++ pivot j ∷ []) split ∙ append_assoc before following (pivot j ∷ [])

    no_streak : (j c : ℕ) → c ≡ 0 → IsStreak j c
    no_streak j c none =
        let phase = phase_of (at j) in
        record { phase = phase.0; before = done j; streak = []; split = sym (append-nil (done j)); long = sym none; gains_nothing = tt; now = phase.1 }

    next_phase : (j phase : ℕ) → SamePhase (at j) (at (suc j)) → IsPhase (at j) phase → IsPhase (at (suc j)) phase
    next_phase j phase same now = subst (IsPhase (at (suc j))) (phase_is (at j) same.0 phase same.1 now) same.2

    longer : (j c n : ℕ) → j < m → IsStill j → n ≡ suc c → IsStreak j c → IsStreak (suc j) n
    longer j c n less none is s =
        let size = length-append s.streak (pivot j ∷ []) in
        let long = s.long in
        let occurs : IsDegeneratePivot s.phase (at j) (pivot j) = (s.now, ap (constant_at (at j)) (leaving_is j less) ∙ none.1) in
        record {
          phase = s.phase;
          before = s.before;
          streak = s.streak ++ pivot j ∷ [];
          split = done_more j s.before s.streak less s.split;
          long = omega arith;
          gains_nothing =
              along_more (IsDegeneratePivot s.phase) (reached first s.before) s.streak (pivot j) s.gains_nothing
              (subst (λ d. IsDegeneratePivot s.phase d (pivot j)) (sym (reached_by j s.before s.streak (omega arith) s.split)) occurs);
          now = next_phase j s.phase none.0 s.now;
        }

    turns : (j c : ℕ) → c ≡ w → IsStreak j c → HasTurned first (done j) (at j)
    turns j c enough s =
        let long = s.long in
        let are = variables j in
        record {
          phase = s.phase;
          before = s.before;
          still = s.streak;
          following = [];
          split = s.split ∙ sym (append-nil (s.before ++ s.streak));
          many = omega arith;
          gains_nothing = s.gains_nothing;
          same_phase = tt;
          now = s.now;
        }

    stays_turned : (j : ℕ) → j < m → SamePhase (at j) (at (suc j)) → HasTurned first (done j) (at j) → HasTurned first (done (suc j)) (at (suc j))
    stays_turned j less same t =
        let split : done j ≡ (t.before ++ t.still) ++ t.following = t.split in
        let are = variables j in
        let too = variables (suc j) in
        let many = t.many in
        record {
          phase = t.phase;
          before = t.before;
          still = t.still;
          following = t.following ++ pivot j ∷ [];
          split = done_more j (t.before ++ t.still) t.following less split;
          many = omega arith;
          gains_nothing = t.gains_nothing;
          same_phase =
              along_more (IsOfPhase t.phase) (reached first (t.before ++ t.still)) t.following (pivot j) t.same_phase
              (subst (λ d. IsPhase d t.phase) (sym (reached_by j (t.before ++ t.still) t.following (omega arith) split)) t.now);
          now = next_phase j t.phase same t.now;
        }

    -- what is known where the count is this
    abbrev Knows : ℕ → ℕ → Type 0
    Knows j c = ((c < w) × IsStreak j c) ⊎ ((w ≤ c) × HasTurned first (done j) (at j))

    some_variables : 0 < w
    some_variables = let are = variables 0 in omega arith

    longer_or_turned : (j n : ℕ) → n ≤ w → IsStreak j n → Knows j n
    longer_or_turned j n within s =
        elim (cases_lt n w) [
          | inl less ↦ inl (less, s)
          | inr past ↦ inr (past, turns j n (omega arith) s)
        ]

    knows_more : (j c n : ℕ) → j < m → IsCounted j c n → Knows j c → Knows (suc j) n
    knows_more j c n less (changes other is) h = let some = some_variables in inl (omega arith, no_streak (suc j) n is)
    knows_more j c n less (gains gained below is) h = let some = some_variables in inl (omega arith, no_streak (suc j) n is)
    knows_more j c n less (still none below is) (inl h) = longer_or_turned (suc j) n (omega arith) (longer j c n less none is h.1)
    knows_more j c n less (still none below is) (inr h) = let past = h.0 in absurd (omega arith)
    knows_more j c n less (turned same past is) (inl h) = let below = h.0 in absurd (omega arith)
    knows_more j c n less (turned same past is) (inr h) = inr (omega arith, stays_turned j less same h.1)

    knows : (j : ℕ) → j ≤ m → Knows j (count j)
    knows zero within = let some = some_variables in let none = count_first in inl (omega arith, no_streak 0 (count 0) count_first)
    knows (suc j) within = knows_more j (count j) (count (suc j)) (omega arith) (counted j) (knows j (omega arith))

    pub turn_has_come : (j : ℕ) → j ≤ m → w ≤ count j → HasTurned first (done j) (at j)
    turn_has_come j within past = elim (knows j within) [ inl h ↦ (let less = h.0 in absurd (omega arith)) | inr h ↦ h.1 ]

-- ---- a run that comes back to its basic variables stays in its phase, and gains nothing

module _ (n : ℕ) (at : ℕ → Dictionary) (pivot : ℕ → Pivot) (row : ℕ → ℕ) (back : Returns n at pivot row) where
  phase_on : (j : ℕ) → j < n → SamePhase (at j) (at (suc j))
  phase_on j less =
      let none = (back.step j less).not_required in
      let none_after = none_required_at n at pivot row back.runs j less in
      elim (found_or_not (at j).basic 0) [
        | inl found ↦ phases_same (at j) (at (suc j)) (inl (inr (contains_get (at j).basic found.0 0 found.1), inr (in_at n at pivot row back.runs 0 j less (back.zero_stays j less) (contains_get (at j).basic found.0 0 found.1))))
        | inr out ↦ phases_same (at j) (at (suc j)) (inr ((none, out), (none_after, out_at n at pivot row back.runs 0 j less ((back.step j less).improves.other) out)))
      ]

  pub occurs_still : (j : ℕ) → j < n → SamePhase (at j) (at (suc j)) × (constant_at (at j) (row j) ≡ Zero)
  occurs_still j less = (phase_on j less, touched_before n at pivot row back j less)

-- ---- how many pivots there are

-- two numbers by place and rest
same_parts : (N x y r s : ℕ) → r < N → s < N → x * N + r ≡ y * N + s → (x ≡ y) × (r ≡ s)
same_parts N x y r s less_r less_s same =
    elim (cases_lt x y) [
      | inl less ↦ absurd (apart x y r s less_r less (omega arith))
      | inr most ↦ elim (cases_lt y x) [
        | inl less ↦ absurd (apart y x s r less_s less (omega arith))
        | inr too ↦
            let is : x ≡ y = omega arith in
            let e : x * N ≡ y * N = ap (λ z. z * N) is in
            (is, omega arith)
      ]
    ]
  where
    apart : (a b c e : ℕ) → c < N → a < b → a * N + c ≡ b * N + e → ⊥
    apart a zero c e less_c less is = absurd (omega arith)
    apart a (suc b) c e less_c less is =
        let low : a * N + c < N * suc b = mul-add-lt a N c (suc b) less less_c in
        absurd (omega arith)

module _ (m w : ℕ) (at : ℕ → Dictionary) (pivot : ℕ → Pivot) (row : ℕ → ℕ) (runs : IsRun m at pivot row) (variables : (j : ℕ) → (at j).variables + 1 ≡ w) (first : Dictionary) (done : ℕ → List Pivot) (begins : at 0 ≡ reached first (done 0)) (more : (j : ℕ) → j < m → done (suc j) ≡ done j ++ pivot j ∷ [])
    (taken : (j : ℕ) → j < m → HasTurned first (done j) (at j) → IsTaken (IsChosen Bland (at j)) (at j) (pivot j)) where
  abbrev counting : ℕ → ℕ
  counting = count m w at pivot row

  module _ (i n : ℕ) (within : i + suc n ≤ m) (same : counting i ≡ counting (i + suc n)) (alike : SamePhase (at i) (at (i + suc n))) (basic : SameBasic (at i) (at (i + suc n))) where
    abbrev later : ℕ → Dictionary
    later x = at (i + x)

    abbrev later_pivot : ℕ → Pivot
    later_pivot x = pivot (i + x)

    abbrev later_row : ℕ → ℕ
    later_row x = row (i + x)

    from : at i ≡ at (i + 0)
    from = ap at (omega arith)

    later_runs : IsRun (suc n) later later_pivot later_row
    later_runs = moved m i (suc n) at pivot row runs within

    begun : IsPhase (at (i + 0)) alike.0
    begun = subst (λ d. IsPhase d alike.0) from alike.1

    basic_again : SameBasic (at (i + 0)) (at (i + suc n))
    basic_again = subst (λ d. SameBasic d (at (i + suc n))) from basic

    comes_back : Returns (suc n) later later_pivot later_row
    comes_back = returns n later later_pivot later_row later_runs alike.0 begun alike.2 basic_again

    is_still : (x : ℕ) → x < suc n → IsStill m w at pivot row (i + x)
    is_still x less =
        let h = occurs_still (suc n) later later_pivot later_row comes_back x less in
        let e : at (i + suc x) ≡ at (suc (i + x)) = ap at (omega arith) in
        (subst (SamePhase (at (i + x))) e h.0, h.1)

    all_still : (l : ℕ) → i ≤ l → l < i + suc n → IsStill m w at pivot row l
    all_still l least less = let is : i + (l - i) ≡ l = omega arith in subst (IsStill m w at pivot row) is (is_still (l - i) (omega arith))

    are_blands : w ≤ counting i → AreBlands (suc n) later later_pivot
    are_blands past x less =
        let stays = turn_stays m w at pivot row i x (λ l below. (is_still l (omega arith)).0) past in
        taken (i + x) (omega arith) (turn_has_come m w at pivot row runs variables first done begins more (i + x) (omega arith) stays)

    never_again : ⊥
    never_again =
        elim (cases_lt (counting i) w) [
          | inl few ↦ let rises_there = still_rises m w at pivot row i (i + suc n) (omega arith) all_still few in absurd (omega arith)
          | inr past ↦ no_return n later later_pivot later_row later_runs alike.0 begun alike.2 basic_again (are_blands past)
        ]

  place : ℕ → ℕ
  place j = counting j * twice_sets w + code w (at j)

  later_differs : (i j : ℕ) → i < j → j ≤ m → place i ≢ place j
  unfolding place
  later_differs i j less within same =
      let parts = same_parts (twice_sets w) (counting i) (counting j) (code w (at i)) (code w (at j)) (code_within w (at i)) (code_within w (at j)) same in
      let alike = same_code w (at i) (at j) (proper_at m at pivot row runs i (omega arith)) (proper_at m at pivot row runs j within) (variables i) (variables j) parts.1 in
      let to : j ≡ i + suc (j - suc i) = omega arith in
      never_again i (j - suc i) (omega arith) (parts.0 ∙ ap counting to) (subst (λ l. SamePhase (at i) (at l)) to alike.0) (subst (λ l. SameBasic (at i) (at l)) to alike.1)

  places_apart : (i j : ℕ) → i < suc m → j < suc m → place i ≡ place j → i ≡ j
  places_apart i j less_i less_j same =
      elim (cases_lt i j) [
        | inl less ↦ absurd (later_differs i j less (omega arith) same)
        | inr most ↦ elim (cases_lt j i) [
          | inl less ↦ absurd (later_differs j i less (omega arith) (sym same))
          | inr too ↦ omega arith
        ]
      ]

  place_within : (j : ℕ) → place j < pivots_by_turn w
  unfolding place
  place_within j = let most = count_within m w at pivot row j in mul-add-lt (counting j) (twice_sets w) (code w (at j)) (w + 1) (omega arith) (code_within w (at j))

  pub few_by_turn : m < pivots_by_turn w
  few_by_turn =
      let all : suc m ≤ pivots_by_turn w = at_most (pivots_by_turn w) (suc m) place (λ j less. place_within j) places_apart in
      omega arith
