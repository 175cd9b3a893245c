-- The loop over the rows of an exchange, and the exchange put together.
use Rattle.std.proofs.Common.{◌≡◌, ◌≢◌, ℕ, zero, suc, ◌+◌, ◌<◌, ◌≤◌, inl, inr, true, pos, cond, List, [], ◌∷◌, length, map, refl, sym, ap, ap₂, ◌∙◌, subst, subst₂, arith}
use Rattle.std.specs.Prelude.{slice_set, slice_index_or, Vec}
use Rattle.std.specs.declared.alloc.Global.{Global}
use Rattle.std.proofs.lemmas.Bool.{cases_lt, cases_eq, both_ways, eq-eqb, ne_eqb}
use Rattle.gq_number.specs.Number.{Number, whole, ◌-ℚ◌, ◌*ℚ◌}
use Rattle.gq_number.proofs.Ring.{ring_ℚ}
use Rattle.gq_field.specs.Fits.{fits}
use Rattle.lp_form.proofs.Zeros.{fits-zero}
use Rattle.lp_fraction_dict.specs.declared.row.Entry.{Entry}
use Rattle.lp_fraction_dict.specs.declared.fault.Part.{Part}
use Rattle.lp_fraction_dict.specs.declared.fault.Part.TheVariants as part
use Rattle.lp_fraction_dict.specs.declared.fault.RowFault.{RowFault}
use Rattle.lp_fraction_dict.specs.declared.fault.RowFault.TheVariants as fault
use Rattle.lp_fraction_dict.specs.declared.fault.LineFault.{LineFault}
use Rattle.lp_fraction_dict.specs.declared.fault.LineFault.TheVariants as line_fault_of
use Rattle.lp_fraction_dict.specs.Rows.{InRow, IsRow, number_in, StepsFit, Misfits, IsLessened, IsFirstMisfit, IsDivided, IsFirstUndivided}
use Rattle.lp_fraction_dict.specs.Lines.{InLine, line_fault, entries_of_rows, line, LineFits, AreExchanged, IsFirstLine, IsTurned, IsFirstTurn, without, kept_after}
use Rattle.lp_fraction_dict.proofs.Kept.{index_default, index_past}
use Rattle.lp_fraction_dict.proofs.Rows.{number_first, number_later}
use Rattle.lp_fraction_dict.proofs.Turns.{zero_factor_fits}

-- ---- a row that is put at a place

pub put_here : {X : Type 0} (xs : List X) (k : ℕ) (x o : X) → k < length xs → slice_index_or (slice_set xs k x) k o ≡ x
put_here [] k x o less = absurd (omega arith)
put_here (y ∷ xs) zero x o less = refl
put_here (y ∷ xs) (suc k) x o less = put_here xs k x o (omega arith)

pub put_other : {X : Type 0} (xs : List X) (k i : ℕ) (x o : X) → i ≢ k → slice_index_or (slice_set xs k x) i o ≡ slice_index_or xs i o
put_other [] k i x o other = refl
put_other (y ∷ xs) zero zero x o other = absurd (other refl)
put_other (y ∷ xs) zero (suc i) x o other = refl
put_other (y ∷ xs) (suc k) zero x o other = refl
put_other (y ∷ xs) (suc k) (suc i) x o other = put_other xs k i x o (λ is. other (ap suc is))

pub length-put : {X : Type 0} (xs : List X) (k : ℕ) (x : X) → length (slice_set xs k x) ≡ length xs
length-put [] k x = refl
length-put (y ∷ xs) zero x = refl
length-put (y ∷ xs) (suc k) x = ap suc (length-put xs k x)

pub rows-put : {F : Type 0} (rows : List (Vec (Entry F) Global)) (k : ℕ) (row : Vec (Entry F) Global) → entries_of_rows (slice_set rows k row) ≡ slice_set (entries_of_rows rows) k row.items
rows-put [] k row = refl
rows-put (r ∷ rows) zero row = refl
rows-put (r ∷ rows) (suc k) row = ap (λ l. r.items ∷ l) (rows-put rows k row)

pub row_at_place : {F : Type 0} (rows : List (Vec (Entry F) Global)) (k : ℕ) (row : Vec (Entry F) Global) → k < length rows → row ≡ slice_index_or rows k row → (o : List (Entry F)) → row.items ≡ slice_index_or (entries_of_rows rows) k o
row_at_place [] k row less is o = absurd (omega arith)
row_at_place (r ∷ rows) zero row less is o = ap (λ (v : Vec _ Global). v.items) is
row_at_place (r ∷ rows) (suc k) row less is o = row_at_place rows k row (omega arith) is o

-- ---- row by row

-- The rows before a place are exchanged, those from it on are as before.
pub record SoFar {F : Type 0} (value : F → Number) (limit high column : ℕ) (pivot_row : List (Entry F)) (before now : List (List (Entry F))) (n : ℕ) : Type 0 where
  pub sized : length now ≡ length before
  pub done : (j : ℕ) → j < n → IsLessened value limit high (slice_index_or before j []) (number_in value (slice_index_or before j []) column) pivot_row (slice_index_or now j [])
  pub rest : (j : ℕ) → n ≤ j → slice_index_or now j [] ≡ slice_index_or before j []

module _ {F : Type 0} (value : F → Number) (limit high column : ℕ) (pivot_row : List (Entry F)) (before : List (List (Entry F))) where
  pub so_far_begins : SoFar value limit high column pivot_row before before 0
  so_far_begins = record { sized = refl; done = λ j less. absurd (omega arith); rest = λ j more. refl }

  pub so_far_goes : (now next : List (List (Entry F))) (n : ℕ) (row made : List (Entry F)) → SoFar value limit high column pivot_row before now n → n < length before → row ≡ slice_index_or now n [] → IsLessened value limit high row (number_in value row column) pivot_row made → next ≡ slice_set now n made → SoFar value limit high column pivot_row before next (n + 1)
  so_far_goes now next n row made s less row_is lessened next_is =
      let old : row ≡ slice_index_or before n [] = row_is ∙ s.rest n (omega arith) in
      let size = s.sized in
      record {
        sized = ap length next_is ∙ length-put now n made ∙ s.sized;
        done = λ j to. elim (cases_lt j n) [
          | inl earlier ↦ subst (λ r. IsLessened value limit high (slice_index_or before j []) (number_in value (slice_index_or before j []) column) pivot_row r) (sym (ap (λ l. slice_index_or l j []) next_is ∙ put_other now n j made [] (λ is. absurd (omega arith)))) (s.done j earlier)
          | inr here ↦
              let same : n ≡ j = omega arith in
              subst (λ i. IsLessened value limit high (slice_index_or before i []) (number_in value (slice_index_or before i []) column) pivot_row (slice_index_or next i [])) same
              (subst₂ (λ b r. IsLessened value limit high b (number_in value b column) pivot_row r) old (sym (ap (λ l. slice_index_or l n []) next_is ∙ put_here now n made [] (omega arith))) lessened)
        ];
        rest = λ j from. ap (λ l. slice_index_or l j []) next_is ∙ put_other now n j made [] (λ is. absurd (omega arith)) ∙ s.rest j (omega arith);
      }

  pub so_far_stops : (now : List (List (Entry F))) (n : ℕ) (row : List (Entry F)) (at : ℕ) (p : Part) → SoFar value limit high column pivot_row before now n → n < length before → row ≡ slice_index_or now n [] → IsFirstMisfit value limit high row (number_in value row column) pivot_row at p → IsFirstLine value limit high column pivot_row before n at p
  so_far_stops now n row at p s less row_is misfit =
      record {
        within = less;
        fit = λ j to c. (s.done j to).fit c;
        here = subst (λ r. IsFirstMisfit value limit high r (number_in value r column) pivot_row at p) (row_is ∙ s.rest n (omega arith)) misfit;
      }

  pub so_far_ends : (now : List (List (Entry F))) (n : ℕ) → SoFar value limit high column pivot_row before now n → length before ≤ n → AreExchanged value limit high column pivot_row before now
  so_far_ends now n s all = record { sized = s.sized; each = λ i less. s.done i (omega arith) }

-- a row without the column stays
number_fits : {F : Type 0} (value : F → Number) (limit : ℕ) → 1 ≤ limit → ((x : F) → fits limit (value x) ≡ true) → (row : List (Entry F)) (c : ℕ) → fits limit (number_in value row c) ≡ true
number_fits value limit some within [] c = fits-zero limit some
number_fits value limit some within (e ∷ es) c =
    elim (cases_eq e.column c) [
      | inl same ↦ subst (λ x. fits limit x ≡ true) (sym (number_first value e es c same)) (within e.number)
      | inr other ↦ subst (λ x. fits limit x ≡ true) (sym (number_later value e es c other)) (number_fits value limit some within es c)
    ]

less_no_multiple : (x y : Number) → x ≡ x -ℚ whole (pos 0) *ℚ y
less_no_multiple x y = simp ring_ℚ

pub stays_lessened : {F : Type 0} (value : F → Number) (limit high : ℕ) (row : List (Entry F)) (factor : Number) (other : List (Entry F)) → 1 ≤ limit → ((x : F) → fits limit (value x) ≡ true) → factor ≡ whole (pos 0) → IsRow value 0 high row → IsLessened value limit high row factor other row
stays_lessened value limit high row factor other some within none h =
    record {
      is_row = h;
      numbers = λ c. subst (λ f. number_in value row c ≡ number_in value row c -ℚ f *ℚ number_in value other c) (sym none) (less_no_multiple (number_in value row c) (number_in value other c));
      fit = λ c. subst (λ f. StepsFit limit (number_in value row c) f (number_in value other c)) (sym none) (zero_factor_fits limit (number_in value row c) (number_in value other c) some (number_fits value limit some within row c));
    }

-- an empty row has no step that does not fit
no_misfit : (limit : ℕ) (y : Number) (p : Part) → 1 ≤ limit → Misfits limit (whole (pos 0)) (whole (pos 0)) y p → ⊥
no_misfit limit y part.Product some h = both_ways _ h (zero_factor_fits limit (whole (pos 0)) y some (fits-zero limit some)).0
no_misfit limit y part.Difference some h = both_ways _ h.1 (zero_factor_fits limit (whole (pos 0)) y some (fits-zero limit some)).1

-- ---- the exchange put together

module _ {F : Type 0} (value : F → Number) (limit high column : ℕ) (rows : List (List (Entry F))) (objective : List (Entry F)) (k : ℕ) (within : k < length rows) (taken : List (List (Entry F))) (taken_is : taken ≡ slice_set rows k []) where
  line_here : line rows objective k ≡ slice_index_or rows k []
  line_here = index_default rows k objective [] within

  taken_here : slice_index_or taken k [] ≡ []
  taken_here = ap (λ l. slice_index_or l k []) taken_is ∙ put_here rows k [] [] within

  taken_other : (i : ℕ) → i < length rows → i ≢ k → slice_index_or taken i [] ≡ line rows objective i
  taken_other i less other = ap (λ l. slice_index_or l i []) taken_is ∙ put_other rows k i [] [] other ∙ sym (index_default rows i objective [] less)

  taken_size : length taken ≡ length rows
  taken_size = ap length taken_is ∙ length-put rows k []

  pub not_divided : (row : List (Entry F)) (at : ℕ) (p : Part) → row ≡ slice_index_or rows k [] → IsFirstUndivided value limit high row (number_in value row column) at p → (k ≤ length rows) × (at < high) × IsFirstTurn value limit high (line rows objective) k column k at p
  not_divided row at p row_is u =
      (omega arith, u.within, inl (refl, subst (λ r. IsFirstUndivided value limit high r (number_in value r column) at p) (row_is ∙ sym line_here) u))

  module _ (row pivot_row : List (Entry F)) (row_is : row ≡ slice_index_or rows k []) (divided : IsDivided value limit high row (number_in value row column) pivot_row) where
    divided_line : IsDivided value limit high (line rows objective k) (number_in value (line rows objective k) column) pivot_row
    divided_line = subst (λ r. IsDivided value limit high r (number_in value r column) pivot_row) (row_is ∙ sym line_here) divided

    pub stopped_in_rows : (i at : ℕ) (p : Part) → 1 ≤ limit → IsFirstLine value limit high column pivot_row taken i at p → (i ≤ length rows) × (at < high) × IsFirstTurn value limit high (line rows objective) k column i at p
    stopped_in_rows i at p some s =
        let less : i < length rows = subst (λ n. i < n) taken_size s.within in
        let other : i ≢ k = λ same. no_misfit limit (number_in value pivot_row at) p some (subst (λ r. Misfits limit (number_in value r at) (number_in value r column) (number_in value pivot_row at) p) (ap (λ j. slice_index_or taken j []) same ∙ taken_here) s.here.here) in (
          omega arith,
          s.here.within,
          inr (record {
            pivot_row = pivot_row;
            divided = divided_line;
            other = other;
            fit = λ j to apart. subst (λ r. LineFits value limit column pivot_row r) (taken_other j (omega arith) apart) (s.fit j to);
            here = subst (λ r. IsFirstMisfit value limit high r (number_in value r column) pivot_row at p) (taken_other i less other) s.here;
          }),
        )

    module _ (made : List (List (Entry F))) (exchanged : AreExchanged value limit high column pivot_row taken made) where
      each_line : (i : ℕ) → i < length rows → i ≢ k → IsLessened value limit high (line rows objective i) (number_in value (line rows objective i) column) pivot_row (slice_index_or made i [])
      each_line i less other = subst (λ r. IsLessened value limit high r (number_in value r column) pivot_row (slice_index_or made i [])) (taken_other i less other) (exchanged.each i (subst (λ n. i < n) (sym taken_size) less))

      made_size : length made ≡ length rows
      made_size = exchanged.sized ∙ taken_size

      pub stopped_in_objective : (at : ℕ) (p : Part) → IsFirstMisfit value limit high objective (number_in value objective column) pivot_row at p → (length made ≤ length rows) × (at < high) × IsFirstTurn value limit high (line rows objective) k column (length made) at p
      stopped_in_objective at p s =
          let size = made_size in (
            omega arith,
            s.within,
            inr (record {
              pivot_row = pivot_row;
              divided = divided_line;
              other = λ same. absurd (omega arith);
              fit = λ j to apart c. (each_line j (omega arith) apart).fit c;
              here = subst (λ r. IsFirstMisfit value limit high r (number_in value r column) pivot_row at p) (sym (index_past rows (length made) objective (omega arith))) s;
            }),
          )

      module _ (last : List (List (Entry F))) (last_is : last ≡ slice_set made k pivot_row) (objective_made : List (Entry F)) (lessened : IsLessened value limit high objective (number_in value objective column) pivot_row objective_made) where
        last_here : line last objective_made k ≡ pivot_row
        last_here = let size = made_size in ap (λ l. line l objective_made k) last_is ∙ put_here made k pivot_row objective_made (omega arith)

        last_other : (i : ℕ) → i ≢ k → line last objective_made i ≡ line made objective_made i
        last_other i other = ap (λ l. line l objective_made i) last_is ∙ put_other made k i pivot_row objective_made other

        turned_line : (i : ℕ) → i ≢ k → IsLessened value limit high (line rows objective i) (number_in value (line rows objective i) column) pivot_row (line made objective_made i)
        turned_line i other =
            let size = made_size in
            elim (cases_lt i (length rows)) [
              | inl less ↦ subst (λ r. IsLessened value limit high (line rows objective i) (number_in value (line rows objective i) column) pivot_row r) (index_default made i [] objective_made (omega arith)) (each_line i less other)
              | inr more ↦ subst₂ (λ b a. IsLessened value limit high b (number_in value b column) pivot_row a) (sym (index_past rows i objective more)) (sym (index_past made i objective_made (omega arith))) lessened
            ]

        pub all_turned : (length last ≡ length rows) × IsTurned value limit high (line rows objective) k column (line last objective_made)
        all_turned = (
          ap length last_is ∙ length-put made k pivot_row ∙ made_size,
          record {
            divided = subst (λ r. IsDivided value limit high (line rows objective k) (number_in value (line rows objective k) column) r) (sym last_here) divided_line;
            others = λ i other. subst₂ (λ pr a. IsLessened value limit high (line rows objective i) (number_in value (line rows objective i) column) pr a) (sym last_here) (sym (last_other i other)) (turned_line i other);
          },
        )

-- ---- the column of variable 0

-- The rows before a place are without the column, those from it on are as before.
pub record ForgottenTo {F : Type 0} (before now : List (List (Entry F))) (n : ℕ) : Type 0 where
  pub sized : length now ≡ length before
  pub done : (k : ℕ) → k < n → slice_index_or now k [] ≡ without 1 (slice_index_or before k [])
  pub rest : (k : ℕ) → n ≤ k → slice_index_or now k [] ≡ slice_index_or before k []

module _ {F : Type 0} (before : List (List (Entry F))) where
  pub forgotten_begins : ForgottenTo before before 0
  forgotten_begins = record { sized = refl; done = λ k less. absurd (omega arith); rest = λ k more. refl }

  pub forgotten_goes : (now next : List (List (Entry F))) (n : ℕ) (row made : List (Entry F)) → ForgottenTo before now n → n < length before → row ≡ slice_index_or now n [] → made ≡ without 1 row → next ≡ slice_set now n made → ForgottenTo before next (n + 1)
  forgotten_goes now next n row made h less row_is made_is next_is =
      let size = h.sized in
      record {
        sized = ap length next_is ∙ length-put now n made ∙ h.sized;
        done = λ k to. elim (cases_lt k n) [
          | inl early ↦ ap (λ l. slice_index_or l k []) next_is ∙ put_other now n k made [] (λ is. absurd (omega arith)) ∙ h.done k early
          | inr late ↦
              let same : n ≡ k = omega arith in
              subst (λ j. slice_index_or next j [] ≡ without 1 (slice_index_or before j [])) same (ap (λ l. slice_index_or l n []) next_is ∙ put_here now n made [] (omega arith) ∙ made_is ∙ ap (without 1) (row_is ∙ h.rest n (omega arith)))
        ];
        rest = λ k from. ap (λ l. slice_index_or l k []) next_is ∙ put_other now n k made [] (λ is. absurd (omega arith)) ∙ h.rest k (omega arith);
      }

  without_each : (xs ys : List (List (Entry F))) → length ys ≡ length xs → ((k : ℕ) → k < length xs → slice_index_or ys k [] ≡ without 1 (slice_index_or xs k [])) → ys ≡ map (without 1) xs
  without_each [] [] size each = refl
  without_each [] (y ∷ ys) size each = absurd (omega arith)
  without_each (x ∷ xs) [] size each = absurd (omega arith)
  without_each (x ∷ xs) (y ∷ ys) size each = ap₂ (λ a b. a ∷ b) (each 0 (omega arith)) (without_each xs ys (omega arith) (λ k less. each (suc k) (omega arith)))

  kept_leaving : (leave : ℕ) → leave ≡ 0 → (row : List (Entry F)) → without 1 row ≡ kept_after leave row
  kept_leaving leave gone row = sym (ap (λ b. cond b (without 1 row) row) (eq-eqb leave 0 gone))

  map_leaving : (leave : ℕ) → leave ≡ 0 → (rows : List (List (Entry F))) → map (without 1) rows ≡ map (kept_after leave) rows
  map_leaving leave gone [] = refl
  map_leaving leave gone (row ∷ rows) = ap₂ (λ a b. a ∷ b) (kept_leaving leave gone row) (map_leaving leave gone rows)

  pub forgotten_all : (leave : ℕ) (now : List (List (Entry F))) (n : ℕ) → leave ≡ 0 → ForgottenTo before now n → length before ≤ n → now ≡ map (kept_after leave) before
  forgotten_all leave now n gone h all = without_each before now h.sized (λ k less. h.done k (omega arith)) ∙ map_leaving leave gone before

  pub forgotten_one : (leave : ℕ) (row made : List (Entry F)) → leave ≡ 0 → made ≡ without 1 row → made ≡ kept_after leave row
  forgotten_one leave row made gone is = is ∙ kept_leaving leave gone row

kept_staying : {F : Type 0} (leave : ℕ) → leave ≢ 0 → (row : List (Entry F)) → row ≡ kept_after leave row
kept_staying leave stays row = sym (ap (λ b. cond b (without 1 row) row) (ne_eqb leave 0 stays))

pub all_stay : {F : Type 0} (leave : ℕ) → leave ≢ 0 → (rows : List (List (Entry F))) → rows ≡ map (kept_after leave) rows
all_stay leave stays [] = refl
all_stay leave stays (row ∷ rows) = ap₂ (λ a b. a ∷ b) (kept_staying leave stays row) (all_stay leave stays rows)

-- ---- the fault of a row, at its place

pub on_fault : (Q : ℕ → ℕ → Part → Type 0) (S : ℕ → Part → Type 0) (i : ℕ) (f : RowFault) (r : LineFault) → r ≡ line_fault i f → InRow S f → ((at : ℕ) (p : Part) → S at p → Q i at p) → InLine Q r
on_fault Q S i (fault.Limit at p) r is h go = subst (InLine Q) (sym is) (go at p h)
on_fault Q S i fault.Memory r is h go = subst (InLine Q) (sym is) tt

pub on_line : (Q S : ℕ → ℕ → Part → Type 0) (f : LineFault) → InLine S f → ((i at : ℕ) (p : Part) → S i at p → Q i at p) → InLine Q f
on_line Q S (line_fault_of.Limit i at p) h go = go i at p h
on_line Q S line_fault_of.Memory h go = tt

-- ---- the exchange as the code takes it: slices are the rows that they are taken of

module _ {F : Type 0} (value : F → Number) (limit : ℕ) (some : 1 ≤ limit) (column : ℕ) (rows : List (List (Entry F))) (objective : List (Entry F)) (k : ℕ) (within : k < length rows) (taken : List (List (Entry F))) (empty : List (Entry F)) (empty_is : empty ≡ []) (put : taken ≡ slice_set rows k empty) (row first second : List (Entry F)) (row_is : row ≡ slice_index_or rows k []) (first_is : first ≡ row) (second_is : second ≡ row) (divisor : F) (divisor_is : value divisor ≡ number_in value first column) where
  taken_put : taken ≡ slice_set rows k []
  taken_put = put ∙ ap (slice_set rows k) empty_is

  pub divisor_some : number_in value (slice_index_or rows k []) column ≢ whole (pos 0) → value divisor ≢ whole (pos 0)
  divisor_some other none = other (ap (λ r. number_in value r column) (sym row_is ∙ sym first_is) ∙ sym divisor_is ∙ none)

  module _ (high : ℕ) (ordered : (j : ℕ) → IsRow value 0 high (slice_index_or rows j [])) where
    pub row_ordered : IsRow value 0 high second
    row_ordered = subst (IsRow value 0 high) (sym row_is ∙ sym second_is) (ordered k)

    pub taken_ordered : (j : ℕ) → IsRow value 0 high (slice_index_or taken j [])
    taken_ordered j =
        elim (cases_eq j k) [
          | inl same ↦ subst (IsRow value 0 high) (sym (ap (λ i. slice_index_or taken i []) same ∙ taken_here value limit high column rows objective k within taken taken_put)) tt
          | inr other ↦ subst (IsRow value 0 high) (sym (ap (λ l. slice_index_or l j []) taken_put ∙ put_other rows k j [] [] other)) (ordered j)
        ]

    number_there : value divisor ≡ number_in value row column
    number_there = divisor_is ∙ ap (λ r. number_in value r column) first_is

    pub row_stops : (at : ℕ) (p : Part) → IsFirstUndivided value limit high second (value divisor) at p → (k ≤ length rows) × (at < high) × IsFirstTurn value limit high (line rows objective) k column k at p
    row_stops at p u = not_divided value limit high column rows objective k within taken taken_put row at p row_is (subst₂ (λ r x. IsFirstUndivided value limit high r x at p) second_is number_there u)

    module _ (pivot_row third : List (Entry F)) (third_is : third ≡ pivot_row) (divided : IsDivided value limit high second (value divisor) pivot_row) where
      divided_row : IsDivided value limit high row (number_in value row column) pivot_row
      divided_row = subst₂ (λ r x. IsDivided value limit high r x pivot_row) second_is number_there divided

      pub pivot_row_ordered : IsRow value 0 high third
      pivot_row_ordered = subst (IsRow value 0 high) (sym third_is) divided.is_row

      pub rows_stop : (i at : ℕ) (p : Part) → IsFirstLine value limit high column third taken i at p → (i ≤ length rows) × (at < high) × IsFirstTurn value limit high (line rows objective) k column i at p
      rows_stop i at p s = stopped_in_rows value limit high column rows objective k within taken taken_put row pivot_row row_is divided_row i at p some (subst (λ r. IsFirstLine value limit high column r taken i at p) third_is s)

      module _ (made : List (List (Entry F))) (exchanged : AreExchanged value limit high column third taken made) where
        made_of : AreExchanged value limit high column pivot_row taken made
        made_of = subst (λ r. AreExchanged value limit high column r taken made) third_is exchanged

        pub made_sized : length made ≡ length rows
        made_sized = made_size value limit high column rows objective k within taken taken_put row pivot_row row_is divided_row made made_of

        pub objective_stops : (fourth : List (Entry F)) → fourth ≡ pivot_row → (n : ℕ) → n ≡ length made → (at : ℕ) (p : Part) → IsFirstMisfit value limit high objective (number_in value objective column) fourth at p → (n ≤ length rows) × (at < high) × IsFirstTurn value limit high (line rows objective) k column n at p
        objective_stops fourth fourth_is n n_is at p s =
            subst (λ m. (m ≤ length rows) × (at < high) × IsFirstTurn value limit high (line rows objective) k column m at p) (sym n_is)
            (stopped_in_objective value limit high column rows objective k within taken taken_put row pivot_row row_is divided_row made made_of at p (subst (λ r. IsFirstMisfit value limit high objective (number_in value objective column) r at p) fourth_is s))

        pub lines_turned : (fourth : List (Entry F)) → fourth ≡ pivot_row → (last : List (List (Entry F))) → last ≡ slice_set made k pivot_row → (objective_made : List (Entry F)) → IsLessened value limit high objective (number_in value objective column) fourth objective_made → (length last ≡ length rows) × IsTurned value limit high (line rows objective) k column (line last objective_made)
        lines_turned fourth fourth_is last last_is objective_made lessened =
            all_turned value limit high column rows objective k within taken taken_put row pivot_row row_is divided_row made made_of last last_is objective_made (subst (λ r. IsLessened value limit high objective (number_in value objective column) r objective_made) fourth_is lessened)
