-- The place that comes first: step by step, and what it says of pivots.
use Rattle.std.proofs.Common.{◌≡◌, ℕ, ◌+◌, ◌<◌, ◌≤◌, inl, inr, true, false, pos, List, [], length, Option, Some, None, Result, Ok, Err, refl, sym, ap, ap₂, ◌∙◌, subst, subst₂, arith}
use Rattle.std.specs.Prelude.{slice_index_or}
use Rattle.std.specs.declared.cmp.Ordering.{Ordering}
use Rattle.std.specs.declared.cmp.Ordering.TheVariants.{Less, Equal, Greater}
use Rattle.std.proofs.lemmas.Bool.{cases_lt}
use Rattle.gq_number.specs.Number.{Number, whole, ◌/ℚ◌}
use Rattle.gq_number.specs.Order.{◌<ℚ◌, ◌≤ℚ◌, number_cmp}
use Rattle.gq_number.proofs.Order.{<ℚ_trans, <ℚ-≤ℚ_trans, ≤ℚ_from_<ℚ, ≤ℚ_from_≡, ≤ℚ_or_above, not_above, ≤ℚ-<ℚ_trans}
use Rattle.gq_number.proofs.Compares.{number_cmp_decides}
use Rattle.lp_core.specs.declared.answer.StepName.TheVariants.{Ratio}
use Rattle.lp_core.specs.Steps.{AllFit, FirstStop, quotient_fits, ratio_steps}
use Rattle.lp_core.specs.Dictionary.{Dictionary, basic_at, constant_at, entry_at, OpeningIsRequired, Improves, IsOpening, IsLegal, ratio_at, IsLeast}
use Rattle.lp_fraction_dict.specs.declared.row.Entry.{Entry}
use Rattle.lp_fraction_dict.specs.declared.choice.Candidate.{Candidate}
use Rattle.lp_fraction_dict.specs.Rows.{number_in}
use Rattle.lp_fraction_dict.specs.Lines.{line}
use Rattle.lp_fraction_dict.specs.InnerChoice.{ComesFirst, IsLesser, IsFirstOf, IsRated, IsLeastConstant, IsLeastRatio}
use Rattle.lp_fraction_dict.specs.Tableau.{FractionTableau, fraction_dictionary}
use Rattle.lp_fraction_dict.specs.Pivots.{IsLeaving}
use Rattle.lp_fraction_dict.proofs.Kept.{get_index, index_get, index_default}
use Rattle.lp_fraction_dict.proofs.Steps.{ratios_fit, ratios_stop}

comes_first_itself : (x : Number) (v : ℕ) → ComesFirst x v x v
comes_first_itself x v = inr (refl, omega arith)

comes_first_then : (x y z : Number) (v w u : ℕ) → ComesFirst x v y w → ComesFirst y w z u → ComesFirst x v z u
comes_first_then x y z v w u (inl less) (inl more) = inl (<ℚ_trans x y z less more)
comes_first_then x y z v w u (inl less) (inr same) = inl (subst (λ n. x <ℚ n) same.0 less)
comes_first_then x y z v w u (inr same) (inl more) = inl (subst (λ n. n <ℚ z) (sym same.0) more)
comes_first_then x y z v w u (inr same) (inr more) =
    let a = same.1 in
    let b = more.1 in
    inr (same.0 ∙ more.0, omega arith)

-- the first of two by a comparison
module _ {F : Type 0} (value : F → Number) (best other : Candidate F) (r : Ordering) (is : r ≡ number_cmp (value other.measure) (value best.measure)) where
  pub lesser_by_less : r ≡ Less → IsLesser value (Some best) other other
  lesser_by_less less = inl (refl, inl ((number_cmp_decides (value other.measure) (value best.measure)).0.0 (sym is ∙ less)))

  pub lesser_by_equal : r ≡ Equal → other.variable < best.variable → IsLesser value (Some best) other other
  lesser_by_equal same less = inl (refl, inr ((number_cmp_decides (value other.measure) (value best.measure)).1.0 (sym is ∙ same), omega arith))

  pub best_by_equal : r ≡ Equal → best.variable ≤ other.variable → IsLesser value (Some best) other best
  best_by_equal same most = inr (refl, inr (sym ((number_cmp_decides (value other.measure) (value best.measure)).1.0 (sym is ∙ same)), most))

  pub best_by_greater : r ≡ Greater → IsLesser value (Some best) other best
  best_by_greater more = inr (refl, inl ((number_cmp_decides (value other.measure) (value best.measure)).2.0 (sym is ∙ more)))

module _ {F : Type 0} (value : F → Number) (P : ℕ → Type 0) (number : ℕ → Number) (variable : ℕ → ℕ) where
  pub first_begins : IsFirstOf value P number variable 0 None
  first_begins i less = absurd (omega arith)

  pub first_skips : (n : ℕ) (best : Option (Candidate F)) → IsFirstOf value P number variable n best → ¬ (P n) → IsFirstOf value P number variable (n + 1) best
  first_skips n None h none =
      λ i less p. elim (cases_lt i n) [
        | inl before ↦ h i before p
        | inr here ↦ let same : i ≡ n = omega arith in none (subst P same p)
      ]
  first_skips n (Some c) h none =
      let within = h.1 in (
        h.0,
        omega arith,
        h.2,
        h.3,
        h.4,
        λ i less p. elim (cases_lt i n) [
          | inl before ↦ h.5 i before p
          | inr here ↦ let same : i ≡ n = omega arith in absurd (none (subst P same p))
        ],
      )

  pub first_takes : (n : ℕ) (best : Option (Candidate F)) (c r : Candidate F) → IsFirstOf value P number variable n best → P n → value c.measure ≡ number n → c.variable ≡ variable n → IsLesser value best c r → IsFirstOf value P number variable (n + 1) (Some r)
  first_takes n None c r h p is_number is_variable lesser = (
    n,
    omega arith,
    p,
    ap (λ (x : Candidate F). value x.measure) lesser ∙ is_number,
    ap (λ (x : Candidate F). x.variable) lesser ∙ is_variable,
    λ i less q. elim (cases_lt i n) [
      | inl before ↦ absurd (h i before q)
      | inr here ↦ let same : n ≡ i = omega arith in subst (λ j. ComesFirst (number n) (variable n) (number j) (variable j)) same (comes_first_itself (number n) (variable n))
    ],
  )
  first_takes n (Some b) c r h p is_number is_variable (inl new) =
      let over : ComesFirst (number n) (variable n) (number h.0) (variable h.0) =
      subst₂ (λ x v. ComesFirst x v (number h.0) (variable h.0)) is_number is_variable (subst₂ (λ x v. ComesFirst (value c.measure) c.variable x v) h.3 h.4 new.1) in (
        n,
        omega arith,
        p,
        ap (λ (x : Candidate F). value x.measure) new.0 ∙ is_number,
        ap (λ (x : Candidate F). x.variable) new.0 ∙ is_variable,
        λ i less q. elim (cases_lt i n) [
          | inl before ↦ comes_first_then (number n) (number h.0) (number i) (variable n) (variable h.0) (variable i) over (h.5 i before q)
          | inr here ↦ let same : n ≡ i = omega arith in subst (λ j. ComesFirst (number n) (variable n) (number j) (variable j)) same (comes_first_itself (number n) (variable n))
        ],
      )
  first_takes n (Some b) c r h p is_number is_variable (inr old) =
      let within = h.1 in
      let over : ComesFirst (number h.0) (variable h.0) (number n) (variable n) =
      subst₂ (λ x v. ComesFirst (number h.0) (variable h.0) x v) is_number is_variable (subst₂ (λ x v. ComesFirst x v (value c.measure) c.variable) h.3 h.4 old.1) in (
        h.0,
        omega arith,
        h.2,
        ap (λ (x : Candidate F). value x.measure) old.0 ∙ h.3,
        ap (λ (x : Candidate F). x.variable) old.0 ∙ h.4,
        λ i less q. elim (cases_lt i n) [
          | inl before ↦ h.5 i before q
          | inr here ↦ let same : n ≡ i = omega arith in subst (λ j. ComesFirst (number h.0) (variable h.0) (number j) (variable j)) same over
        ],
      )

least_or_equal : (x y : Number) (v w : ℕ) → ComesFirst x v y w → x ≤ℚ y
least_or_equal x y v w (inl less) = ≤ℚ_from_<ℚ x y less
least_or_equal x y v w (inr same) = ≤ℚ_from_≡ x y same.0

least_variable : (x y : Number) (v w : ℕ) → ComesFirst x v y w → y ≤ℚ x → v ≤ w
least_variable x y v w (inl less) most = absurd (not_above y x most less)
least_variable x y v w (inr same) most = same.1

-- ---- the opening pivot

module _ {F : Type 0} (value : F → Number) (d : Dictionary) where
  abbrev IsBelow : ℕ → Type 0
  IsBelow i = constant_at d i <ℚ whole (pos 0)

  pub no_opening : IsFirstOf value IsBelow (constant_at d) (basic_at d) (length d.basic) None → ¬ (OpeningIsRequired d)
  no_opening none required = none required.0 required.1 required.2

  module _ (c : Candidate F) (h : IsFirstOf value IsBelow (constant_at d) (basic_at d) (length d.basic) (Some c)) where
    least_constant_at : IsLeast d h.0
    least_constant_at = (
      h.1,
      λ i less. elim (≤ℚ_or_above (whole (pos 0)) (constant_at d i)) [
        | inl above ↦ ≤ℚ_from_<ℚ _ _ (<ℚ-≤ℚ_trans (constant_at d h.0) (whole (pos 0)) (constant_at d i) h.2 above)
        | inr below ↦ least_or_equal (constant_at d h.0) (constant_at d i) (basic_at d h.0) (basic_at d i) (h.5 i less below)
      ],
    )

    pub opening_there : (k : ℕ) × IsOpening d (record { enter = 0; leave = c.variable }) k
    opening_there = (
      h.0,
      record {
        required = (h.0, h.1, h.2);
        enters = refl;
        leaves = index_get d.basic h.0 c.variable 0 h.1 (sym h.4);
        least = least_constant_at;
      },
    )

    pub opening_least : (i : ℕ) → IsLeast d i → c.variable ≤ basic_at d i
    opening_least i least =
        subst (λ v. v ≤ basic_at d i) (sym h.4)
        (least_variable (constant_at d h.0) (constant_at d i) (basic_at d h.0) (basic_at d i) (h.5 i least.0 (≤ℚ-<ℚ_trans (constant_at d i) (constant_at d h.0) (whole (pos 0)) (least.1 h.0 h.1) h.2)) (least.1 h.0 h.1))

-- ---- the ratio test

module _ {F : Type 0} (value : F → Number) (limit : ℕ) (d : Dictionary) (q : ℕ) where
  abbrev pub Rated : Result (Option (Candidate F)) ℕ → Type 0
  Rated r = IsRated value limit (constant_at d) (λ i. entry_at d i q) (basic_at d) (length d.basic) r

  pub none_limits : Rated (Ok None) → IsLeaving d q None
  none_limits h k limits = h.1 k limits.0 limits.1

  pub least_leaves : (c : Candidate F) → Rated (Ok (Some c)) → IsLeaving d q (Some c.variable)
  least_leaves c rated =
      let h = rated.1 in (
        (
          h.0,
          index_get d.basic h.0 c.variable 0 h.1 (sym h.4),
          record {
            limits = (h.1, h.2);
            least = λ i limits. least_or_equal (ratio_at d q h.0) (ratio_at d q i) (basic_at d h.0) (basic_at d i) (h.5 i limits.0 limits.1);
          },
        ),
        λ i ties.
            subst (λ v. v ≤ basic_at d i) (sym h.4)
            (least_variable (ratio_at d q h.0) (ratio_at d q i) (basic_at d h.0) (basic_at d i) (h.5 i ties.limits.0 ties.limits.1) (ties.least h.0 (h.1, h.2))),
      )

module _ {F : Type 0} (value : F → Number) (limit n : ℕ) (d : Dictionary) (q : ℕ) where
  pub all_rated : (best : Option (Candidate F)) → Rated value limit d q (Ok best) → AllFit (ratio_steps limit n d q)
  all_rated best h = ratios_fit limit n d q h.0

  pub first_unrated : (i : ℕ) → Rated value limit d q (Err i) → FirstStop (ratio_steps limit n d q) (Ratio n (i + 1))
  first_unrated i h = ratios_stop limit n d q i h.0 h.1 h.2 h.3

-- the variable that improves and the one that leaves make a legal pivot
pub leaving_is_legal : (d : Dictionary) (q : ℕ) (leave : Option ℕ) (r : ℕ) → leave ≡ Some r → ¬ (OpeningIsRequired d) → Improves d q → IsLeaving d q leave → (k : ℕ) × IsLegal d (record { enter = q; leave = r }) k
leaving_is_legal d q None r is not_required improves h = absurd (cc)
leaving_is_legal d q (Some v) r is not_required improves h =
    let same : v ≡ r = some_is v r is in (
      h.0.0,
      inr (record {
        not_required = not_required;
        improves = improves;
        leaves = h.0.1 ∙ is;
        ties = h.0.2;
        zero_first = λ i at ties. let least = h.1 i ties in let zero_there = get_index d.basic i 0 0 at in omega arith;
      }),
    )
  where
    some_is : (a b : ℕ) → Some a ≡ Some b → a ≡ b
    some_is a b e = cc

-- ---- row by row

module _ {F : Type 0} (value : F → Number) (limit : ℕ) (rows : List (List (Entry F))) (basic : List ℕ) (column n : ℕ) (within : n < length rows) (constant number : F) (constant_is : value constant ≡ number_in value (slice_index_or rows n []) 0) (number_is : value number ≡ number_in value (slice_index_or rows n []) column) where
  constant_line : (o : List (Entry F)) → value constant ≡ number_in value (line rows o n) 0
  constant_line o = constant_is ∙ ap (λ r. number_in value r 0) (index_default rows n [] o within)

  number_line : (o : List (Entry F)) → value number ≡ number_in value (line rows o n) column
  number_line o = number_is ∙ ap (λ r. number_in value r column) (index_default rows n [] o within)

  pub ratio_takes : (best : Option (Candidate F)) (c r : Candidate F) → IsLeastRatio value limit rows basic column n (Ok best) → whole (pos 0) <ℚ value number → quotient_fits limit (value constant) (value number) ≡ true → value c.measure ≡ value constant /ℚ value number → c.variable ≡ slice_index_or basic n 0 → IsLesser value best c r → IsLeastRatio value limit rows basic column (n + 1) (Ok (Some r))
  ratio_takes best c r h above fits_here is variable lesser o =
      let before = h o in (
        λ i to over. elim (cases_lt i n) [
          | inl early ↦ before.0 i early over
          | inr here ↦
              let same : n ≡ i = omega arith in
              subst (λ j. quotient_fits limit (number_in value (line rows o j) 0) (number_in value (line rows o j) column) ≡ true) same (subst₂ (λ x y. quotient_fits limit x y ≡ true) (constant_line o) (number_line o) fits_here)
        ],
        first_takes value (λ i. whole (pos 0) <ℚ number_in value (line rows o i) column) (λ i. number_in value (line rows o i) 0 /ℚ number_in value (line rows o i) column) (λ i. slice_index_or basic i 0) n best c r before.1
            (subst (λ y. whole (pos 0) <ℚ y) (number_line o) above) (is ∙ ap₂ (λ x y. x /ℚ y) (constant_line o) (number_line o)) variable lesser,
      )

  pub ratio_stops : (best : Option (Candidate F)) → IsLeastRatio value limit rows basic column n (Ok best) → n < length basic → whole (pos 0) <ℚ value number → quotient_fits limit (value constant) (value number) ≡ false → IsLeastRatio value limit rows basic column (length basic) (Err n)
  ratio_stops best h less above is_false o =
      (less, subst (λ y. whole (pos 0) <ℚ y) (number_line o) above, subst₂ (λ x y. quotient_fits limit x y ≡ false) (constant_line o) (number_line o) is_false, (h o).0)

module _ {F : Type 0} (value : F → Number) (limit : ℕ) (rows : List (List (Entry F))) (basic : List ℕ) (column n : ℕ) (within : n < length rows) (number : F) (number_is : value number ≡ number_in value (slice_index_or rows n []) column) where
  at_line : (o : List (Entry F)) → number_in value (line rows o n) column ≡ value number
  at_line o = sym (number_is ∙ ap (λ r. number_in value r column) (index_default rows n [] o within))

  pub ratio_skips : (best : Option (Candidate F)) → IsLeastRatio value limit rows basic column n (Ok best) → ¬ (whole (pos 0) <ℚ value number) → IsLeastRatio value limit rows basic column (n + 1) (Ok best)
  ratio_skips best h none o =
      let before = h o in (
        λ i to over. elim (cases_lt i n) [
          | inl early ↦ before.0 i early over
          | inr here ↦ let same : i ≡ n = omega arith in absurd (none (subst (λ y. whole (pos 0) <ℚ y) (ap (λ j. number_in value (line rows o j) column) same ∙ at_line o) over))
        ],
        first_skips value (λ i. whole (pos 0) <ℚ number_in value (line rows o i) column) (λ i. number_in value (line rows o i) 0 /ℚ number_in value (line rows o i) column) (λ i. slice_index_or basic i 0) n best before.1 (λ over. none (subst (λ y. whole (pos 0) <ℚ y) (at_line o) over)),
      )

module _ {F : Type 0} (value : F → Number) (rows : List (List (Entry F))) (basic : List ℕ) (n : ℕ) (within : n < length rows) (number : F) (number_is : value number ≡ number_in value (slice_index_or rows n []) 0) where
  pub constant_skips : (best : Option (Candidate F)) → IsLeastConstant value rows basic n best → ¬ (value number <ℚ whole (pos 0)) → IsLeastConstant value rows basic (n + 1) best
  constant_skips best h none o =
      first_skips value (λ i. number_in value (line rows o i) 0 <ℚ whole (pos 0)) (λ i. number_in value (line rows o i) 0) (λ i. slice_index_or basic i 0) n best (h o) (λ under. none (subst (λ y. y <ℚ whole (pos 0)) (at_line value 0 rows basic 0 n within number number_is o) under))

  pub constant_takes : (best : Option (Candidate F)) (c r : Candidate F) → IsLeastConstant value rows basic n best → value number <ℚ whole (pos 0) → c.measure ≡ number → c.variable ≡ slice_index_or basic n 0 → IsLesser value best c r → IsLeastConstant value rows basic (n + 1) (Some r)
  constant_takes best c r h under is variable lesser o =
      let here = sym (at_line value 0 rows basic 0 n within number number_is o) in
      first_takes value (λ i. number_in value (line rows o i) 0 <ℚ whole (pos 0)) (λ i. number_in value (line rows o i) 0) (λ i. slice_index_or basic i 0) n best c r (h o) (subst (λ y. y <ℚ whole (pos 0)) here under) (ap value is ∙ here) variable lesser

pub constants_begin : {F : Type 0} (value : F → Number) (rows : List (List (Entry F))) (basic : List ℕ) → IsLeastConstant value rows basic 0 None
constants_begin value rows basic o i less = absurd (omega arith)

pub ratios_begin : {F : Type 0} (value : F → Number) (limit : ℕ) (rows : List (List (Entry F))) (basic : List ℕ) (column : ℕ) → IsLeastRatio value limit rows basic column 0 (Ok None)
ratios_begin value limit rows basic column o = (λ i less. absurd (omega arith), λ i less. absurd (omega arith))

-- ---- the same for a dictionary as it is kept

module _ {F : Type 0} (value : F → Number) (limit : ℕ) (t : FractionTableau F) (rows : List (List (Entry F))) (basic : List ℕ) (rows_are : rows ≡ t.rows) (basic_is : basic ≡ t.basic) where
  pub kept_first : (best : Option (Candidate F)) → IsLeastConstant value rows basic (length basic) best → IsFirstOf value (IsBelow value (fraction_dictionary value t)) (constant_at (fraction_dictionary value t)) (basic_at (fraction_dictionary value t)) (length t.basic) best
  kept_first best h =
      subst₂ (λ (rs : List (List (Entry F))) (b : List ℕ). IsLeastConstant value rs b (length b) best) rows_are basic_is h t.objective

  pub kept_rated : (q : ℕ) (r : Result (Option (Candidate F)) ℕ) → IsLeastRatio value limit rows basic (q + 1) (length basic) r → IsRated value limit (constant_at (fraction_dictionary value t)) (λ i. entry_at (fraction_dictionary value t) i q) (basic_at (fraction_dictionary value t)) (length t.basic) r
  kept_rated q r h =
      subst₂ (λ (rs : List (List (Entry F))) (b : List ℕ). IsLeastRatio value limit rs b (q + 1) (length b) r) rows_are basic_is h t.objective
