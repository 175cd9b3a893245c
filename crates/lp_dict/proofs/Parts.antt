-- The entries of rows as numerators and denominators, and as lines of whole numbers.
use Rattle.std.proofs.Common.{◌≡◌, ◌≢◌, ℕ, zero, suc, ◌+◌, ◌<◌, ◌≤◌, inl, inr, pos, List, [], ◌∷◌, ◌++◌, length, map, take, get_or, Option, Some, None, refl, sym, ap, ap₂, ◌∙◌, subst, arith}
use mathlib.Core.Path.{fun_ext}
use Rattle.std.specs.Prelude.{◌⊎◌, slice_get, slice_index_or, Result, Ok, Err, IfOk, IfSome, MatchOption, Vec}
use Rattle.std.specs.declared.alloc.Global.{Global}
use Rattle.std.proofs.lemmas.Bool.{cases_eq, cases_lt}
use Rattle.std.proofs.lemmas.List.{length_push, take_more, get_or-map}
use Rattle.gq_number.specs.Number.{Number, whole, ratio}
use Rattle.gq_number.proofs.Means.{ratio_itself}
use Rattle.lp_core.specs.Dictionary.{Dictionary}
use Rattle.lp_fraction_dict.specs.declared.row.Entry.{Entry}
use Rattle.lp_fraction_dict.specs.Rows.{IsRow, number_in}
use Rattle.lp_fraction_dict.specs.Lines.{line, entries_of_rows}
use Rattle.lp_fraction_dict.specs.Tableau.{FractionTableau, fraction_dictionary, IsTableau}
use Rattle.lp_fraction_dict.proofs.Rows.{number_first, number_later}
use Rattle.lp_fraction_dict.proofs.Kept.{index_default, index_past, length-rows}
use Rattle.lp_fraction_dict.proofs.Filling.{push_here, push_other}
use Rattle.lp_integer_rows.specs.declared.line.Line.{Line}
use Rattle.lp_integer_rows.specs.declared.parts.Part.{Part}
use Rattle.lp_integer_rows.specs.Form.{wholes, line_number, lines_number, IsLine, AreLines}
use Rattle.lp_integer_rows.specs.Parts.{AreWithinColumns, HaveDistinctColumns, AreParts}
use Rattle.lp_integer_dict.specs.Whole.{WholeTableau, row_of, whole_dictionary, integer_dictionary as dictionary_of}
use Rattle.lp_integer_rows.proofs.Plans.{some_at, same_some}
use Rattle.lp_integer_dict.proofs.Reading.{at_line}
use Rattle.lp_integer_dict.proofs.Wholes.{row_within, row_past}
use Rattle.lp_dict.specs.InnerConversions.{part_of, all_rows, IsLineOf, AreLinesOf}

none_later : (q : Part) (qs : List Part) (c : ℕ) → q.column ≢ c → ((i : ℕ) (p : Part) → slice_get qs i ≡ Some p → p.column ≢ c) → (i : ℕ) (p : Part) → slice_get (q ∷ qs) i ≡ Some p → p.column ≢ c
none_later q qs c other none zero p at = subst (λ (x : Part). x.column ≢ c) (same_some q p at) other
none_later q qs c other none (suc i) p at = none i p at

found_at : (parts : List Part) (c : ℕ) → ((i : ℕ) × (p : Part) × (slice_get parts i ≡ Some p) × (p.column ≡ c)) ⊎ ((i : ℕ) (p : Part) → slice_get parts i ≡ Some p → p.column ≢ c)
found_at [] c = inr (λ i p at. absurd (cc))
found_at (q ∷ qs) c =
    elim (cases_eq q.column c) [
      | inl same ↦ inl (0, q, refl, same)
      | inr other ↦ elim (found_at qs c) [
        | inl h ↦ inl (suc h.0, h.1, h.2, h.3)
        | inr none ↦ inr (none_later q qs c other none)
      ]
    ]

-- numbers with the same parts are the same
same_numbers : (parts : List Part) (f g : ℕ → Number) → AreParts parts f → AreParts parts g → (c : ℕ) → f c ≡ g c
same_numbers parts f g of_f of_g c =
    elim (found_at parts c) [
      | inl h ↦ subst (λ k. f k ≡ g k) h.3 (of_f.here h.0 h.1 h.2 ∙ sym (of_g.here h.0 h.1 h.2))
      | inr none ↦ of_f.elsewhere c none ∙ sym (of_g.elsewhere c none)
    ]

-- a place in a list with one more
get_pushed : {X : Type 0} (xs : List X) (x y : X) (i : ℕ) → slice_get (xs ++ x ∷ []) i ≡ Some y → ((slice_get xs i ≡ Some y) × (i < length xs)) ⊎ ((i ≡ length xs) × (x ≡ y))
get_pushed [] x y zero at = inr (refl, same_some x y at)
get_pushed [] x y (suc i) at = absurd (cc)
get_pushed (z ∷ zs) x y zero at = inl (at, omega arith)
get_pushed (z ∷ zs) x y (suc i) at =
    elim (get_pushed zs x y i at) [
      | inl old ↦ let less = old.1 in inl (old.0, omega arith)
      | inr new ↦ let same = new.0 in inr (omega arith, new.1)
    ]

module _ {F : Type 0} (value : F → Number) where
  part_from : (row : List (Entry F)) (low high i : ℕ) (p : Part) → IsRow value low high row → slice_get (map (part_of value) row) i ≡ Some p → low ≤ p.column
  part_from [] low high i p ordered at = absurd (cc)
  part_from (e ∷ es) low high zero p ordered at = subst (λ (q : Part). low ≤ q.column) (same_some (part_of value e) p at) ordered.0
  part_from (e ∷ es) low high (suc i) p ordered at =
      let first = ordered.0 in
      let rest = part_from es (e.column + 1) high i p ordered.3 at in
      omega arith

  part_there : (row : List (Entry F)) (low high i : ℕ) (p : Part) → IsRow value low high row → slice_get (map (part_of value) row) i ≡ Some p → (p.column < high) × (0 < p.denominator)
  part_there [] low high i p ordered at = absurd (cc)
  part_there (e ∷ es) low high zero p ordered at =
      subst (λ (q : Part). (q.column < high) × (0 < q.denominator)) (same_some (part_of value e) p at) (ordered.1, (value e.number).reduced.positive)
  part_there (e ∷ es) low high (suc i) p ordered at = part_there es (e.column + 1) high i p ordered.3 at

  parts_apart : (row : List (Entry F)) (low high i j : ℕ) (p q : Part) → IsRow value low high row → slice_get (map (part_of value) row) i ≡ Some p → slice_get (map (part_of value) row) j ≡ Some q → p.column ≡ q.column → i ≡ j
  parts_apart [] low high i j p q ordered at_i at_j same = absurd (cc)
  parts_apart (e ∷ es) low high zero zero p q ordered at_i at_j same = refl
  parts_apart (e ∷ es) low high zero (suc j) p q ordered at_i at_j same =
      let first : e.column ≡ p.column = ap (λ (x : Part). x.column) (same_some (part_of value e) p at_i) in
      let later = part_from es (e.column + 1) high j q ordered.3 at_j in
      absurd (omega arith)
  parts_apart (e ∷ es) low high (suc i) zero p q ordered at_i at_j same =
      let first : e.column ≡ q.column = ap (λ (x : Part). x.column) (same_some (part_of value e) q at_j) in
      let later = part_from es (e.column + 1) high i p ordered.3 at_i in
      absurd (omega arith)
  parts_apart (e ∷ es) low high (suc i) (suc j) p q ordered at_i at_j same = ap suc (parts_apart es (e.column + 1) high i j p q ordered.3 at_i at_j same)

  parts_here : (row : List (Entry F)) (low high i : ℕ) (p : Part) → IsRow value low high row → slice_get (map (part_of value) row) i ≡ Some p → number_in value row p.column ≡ ratio p.numerator p.denominator
  parts_here [] low high i p ordered at = absurd (cc)
  parts_here (e ∷ es) low high zero p ordered at =
      subst (λ (q : Part). number_in value (e ∷ es) q.column ≡ ratio q.numerator q.denominator) (same_some (part_of value e) p at) (number_first value e es e.column refl ∙ sym (ratio_itself (value e.number)))
  parts_here (e ∷ es) low high (suc i) p ordered at =
      let later = part_from es (e.column + 1) high i p ordered.3 at in
      number_later value e es p.column (λ same. absurd (omega arith)) ∙ parts_here es (e.column + 1) high i p ordered.3 at

  parts_elsewhere : (row : List (Entry F)) (c : ℕ) → ((i : ℕ) (p : Part) → slice_get (map (part_of value) row) i ≡ Some p → p.column ≢ c) → number_in value row c ≡ whole (pos 0)
  parts_elsewhere [] c none = refl
  parts_elsewhere (e ∷ es) c none = number_later value e es c (none 0 (part_of value e) refl) ∙ parts_elsewhere es c (λ i p at. none (suc i) p at)

  are_parts : (row : List (Entry F)) (high : ℕ) → IsRow value 0 high row → AreParts (map (part_of value) row) (number_in value row)
  are_parts row high ordered =
      record { here = λ i p at. parts_here row 0 high i p ordered at; elsewhere = λ c none. parts_elsewhere row c none }

  -- what a row's parts keep
  pub are_there : (row : List (Entry F)) (width : ℕ) (parts : List Part) → IsRow value 0 width row → parts ≡ map (part_of value) row → AreWithinColumns width parts
  are_there row width parts ordered is = subst (AreWithinColumns width) (sym is) (λ i p at. part_there row 0 width i p ordered at)

  pub are_apart : (row : List (Entry F)) (width : ℕ) (parts : List Part) → IsRow value 0 width row → parts ≡ map (part_of value) row → HaveDistinctColumns parts
  are_apart row width parts ordered is = subst HaveDistinctColumns (sym is) (λ i j p q at_i at_j same. parts_apart row 0 width i j p q ordered at_i at_j same)

  -- the line of a row
  is_line_of : (row : List (Entry F)) (width : ℕ) (parts : List Part) (l : Line) → IsRow value 0 width row → parts ≡ map (part_of value) row → IsLine l × (length (wholes l) ≡ width) → AreParts parts (line_number l) → IsLineOf value width row l
  is_line_of row width parts l ordered is of_line of_parts =
      record {
        is_line = of_line.0;
        sized = of_line.1;
        numbers = same_numbers (map (part_of value) row) (line_number l) (number_in value row) (subst (λ ps. AreParts ps (line_number l)) is of_parts) (are_parts row width ordered);
      }

  pub line_found : {E : Type 0} (row : List (Entry F)) (width : ℕ) (parts : List Part) (r : Result (Option Line) E) → IsRow value 0 width row → parts ≡ map (part_of value) row → IfOk r (λ o. MatchOption o (Unit {0}) (λ l. IsLine l × (length (wholes l) ≡ width))) → IfOk r (λ o. MatchOption o (Unit {0}) (λ l. AreParts parts (line_number l))) → IfOk r (λ o. IfSome o (IsLineOf value width row))
  line_found row width parts (Ok (Some l)) ordered is of_line of_parts = is_line_of row width parts l ordered is of_line of_parts
  line_found row width parts (Ok None) ordered is of_line of_parts = tt
  line_found row width parts (Err e) ordered is of_line of_parts = tt

  -- row after row
  pub lines_begin : (width : ℕ) (lines : List Line) → lines ≡ [] → AreLinesOf value width [] lines
  lines_begin width lines none =
      subst (AreLinesOf value width []) (sym none) (record { sized = refl; each = λ i l at. absurd (cc) })

  pub lines_go : (width : ℕ) (rows now : List (List (Entry F))) (row : List (Entry F)) (lines made : List Line) (l : Line) → AreLinesOf value width rows lines → IsLineOf value width row l → now ≡ rows ++ row ∷ [] → made ≡ lines ++ l ∷ [] → AreLinesOf value width now made
  lines_go width rows now row lines made l h of_row now_is made_is =
      subst (λ rs. AreLinesOf value width rs made) (sym now_is) (subst (AreLinesOf value width (rows ++ row ∷ [])) (sym made_is) (record {
        sized = length_push lines l ∙ ap (λ n. n + 1) h.sized ∙ sym (length_push rows row);
        each = λ i x at. elim (get_pushed lines l x i at) [
          | inl old ↦
              let size = h.sized in
              let less = old.1 in
              subst (λ r. IsLineOf value width r x) (sym (push_other rows row [] i (omega arith))) (h.each i x old.0)
          | inr new ↦ subst (λ r. IsLineOf value width r x) (sym (push_here rows row [] i (sym h.sized ∙ sym new.0))) (subst (IsLineOf value width row) new.1 of_row)
        ];
      }))

  pub rows_go : (rows : List (Vec (Entry F) Global)) (i : ℕ) (row : Vec (Entry F) Global) → i < length rows → row ≡ get_or rows i row → take (i + 1) (entries_of_rows rows) ≡ take i (entries_of_rows rows) ++ row.items ∷ []
  rows_go rows i row less is =
      let count = length-rows rows in
      take_more (entries_of_rows rows) i row.items (omega arith)
      ∙ ap (λ l. take i (entries_of_rows rows) ++ l ∷ []) (get_or-map (λ (r : Vec (Entry F) Global). r.items) rows i row row.items less ∙ ap (λ (r : Vec (Entry F) Global). r.items) (sym is))

  -- a row of those that there are
  pub row_ordered : (t : FractionTableau F) → IsTableau value t → (rows : List (Vec (Entry F) Global)) (i : ℕ) (row : Vec (Entry F) Global) → entries_of_rows rows ≡ t.rows → i < length rows → row ≡ get_or rows i row → IsRow value 0 (t.variables + 2) row.items
  row_ordered t inv rows i row rows_are less is =
      let count = length-rows rows in
      let here : slice_index_or t.rows i [] ≡ row.items =
      ap (λ rs. slice_index_or rs i []) (sym rows_are) ∙ index_default (entries_of_rows rows) i [] row.items (omega arith)
      ∙ get_or-map (λ (r : Vec (Entry F) Global). r.items) rows i row row.items less ∙ ap (λ (r : Vec (Entry F) Global). r.items) (sym is) in
      subst (IsRow value 0 (t.variables + 2)) here (inv.rows i)

  -- ---- the dictionary of the lines

  module _ (t : FractionTableau F) (inv : IsTableau value t) (lines : List Line) (of_rows : AreLinesOf value (t.variables + 2) (all_rows t) lines) where
    pub count_is : length lines ≡ length t.basic + 1
    count_is = of_rows.sized ∙ length_push t.rows t.objective ∙ ap (λ n. n + 1) inv.paired

    pub are_lines : AreLines (t.variables + 2) lines
    are_lines i l at = let h = of_rows.each i l at in (h.is_line, h.sized)

    row_at : (i : ℕ) → i ≤ length t.basic → slice_index_or (all_rows t) i [] ≡ line t.rows t.objective i
    row_at i most =
        let paired = inv.paired in
        elim (cases_lt i (length t.rows)) [
          | inl less ↦ push_other t.rows t.objective [] i less ∙ index_default t.rows i [] t.objective less
          | inr more ↦ push_here t.rows t.objective [] i (omega arith) ∙ sym (index_past t.rows i t.objective more)
        ]

    number_at : (i c : ℕ) → i ≤ length t.basic → lines_number lines i c ≡ number_in value (line t.rows t.objective i) c
    number_at i c most =
        let count = count_is in
        let found = some_at lines i (omega arith) in
        at_line lines i found.0 found.1 c ∙ (of_rows.each i found.0 found.1).numbers c ∙ ap (λ r. number_in value r c) (row_at i most)

    numbers_are : (i c : ℕ) → lines_number lines (row_of (length t.basic) i) c ≡ number_in value (line t.rows t.objective i) c
    numbers_are i c =
        let paired = inv.paired in
        elim (cases_lt i (length t.basic)) [
          | inl less ↦ ap (λ r. lines_number lines r c) (row_within (length t.basic) i less) ∙ number_at i c (omega arith)
          | inr more ↦
              ap (λ r. lines_number lines r c) (row_past (length t.basic) i more) ∙ number_at (length t.basic) c (omega arith)
              ∙ ap (λ r. number_in value r c) (index_past t.rows (length t.basic) t.objective (omega arith) ∙ sym (index_past t.rows i t.objective (omega arith)))
        ]

    abbrev made_of : (ℕ → ℕ → Number) → Dictionary
    made_of numbers = record { variables = t.variables; basic = t.basic; numbers = numbers }

    pub same_dictionary : (variables : ℕ) (basic : List ℕ) → variables ≡ t.variables → basic ≡ t.basic → whole_dictionary variables basic lines None ≡ fraction_dictionary value t
    same_dictionary variables basic variables_are basic_are =
        ap₂ (λ n b. whole_dictionary n b lines None) variables_are basic_are ∙ ap made_of (fun_ext (λ i. fun_ext (λ c. numbers_are i c)))

-- ---- what is found of them

pub found_same : (o : Option WholeTableau) (d e : Dictionary) → d ≡ e → MatchOption o (Unit {0}) (λ w. dictionary_of w ≡ d) → IfSome o (λ w. dictionary_of w ≡ e)
found_same (Some w) d e same is = is ∙ same
found_same None d e same is = tt

pub found_bounded : (o : Option WholeTableau) (bound limit : ℕ) → bound ≤ limit → MatchOption o (Unit {0}) (λ w. w.bound ≡ bound) → IfSome o (λ w. w.bound ≤ limit)
found_bounded (Some w) bound limit h same = subst (λ n. n ≤ limit) (sym same) h
found_bounded None bound limit h same = tt
