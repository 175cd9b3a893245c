-- A point satisfies the rows of a model exactly where it satisfies the definitions of the model's
-- equations.
use mathlib.Core.Bool.{or-true}
use Rattle.std.proofs.Common.{◌≡◌, ◌↔◌, ℕ, nat_lt, ◌+◌, ◌<◌, Bool, true, false, ◌||◌, cond, if◌then◌else◌, pos, List, [], ◌∷◌, ◌++◌, map, length, get_or, Option, Some, None, unwrap_or, is_some, Ok, Err, refl, sym, ap, ◌∙◌, subst, arith}
use Rattle.std.specs.Prelude.{flat_map}
use Rattle.std.specs.List.{All, enumerate_from}
use Rattle.std.specs.Map.{keys_of}
use Rattle.std.specs.FinMap as finite
use Rattle.std.specs.declared.cmp.Ordering.TheVariants.{Less}
use Rattle.std.proofs.lemmas.List.{length-map, get_or-map}
use Rattle.std.proofs.lemmas.List.FromFn.{length-enumerate_from, get_or-enumerate_from}
use Rattle.std.proofs.lemmas.List.Elements.{All-nil, All-cons, All-head, All-tail, All-append, All-map, All-weaker}
use Rattle.gms_labels.specs.declared.place.Place.{Place}
use Rattle.gq_number.specs.Number.{Number, whole, ◌+ℚ◌, ◌-ℚ◌, ◌*ℚ◌, neg_ℚ}
use Rattle.gq_number.specs.Sums.{sum_by_ℚ}
use Rattle.gq_number.proofs.Linear.{≤ℚ_from, ≡_from}
use Rattle.gq_number.proofs.Ring.{ring_ℚ}
use Rattle.gq_number.proofs.Sums.{sum_by_ℚ-map, sum_by_ℚ_same}
use Rattle.gq_extended.specs.Extended.{number}
use Rattle.gms_ast.specs.declared.program.Stmt.{Stmt}
use Rattle.gms_store.specs.State.{State}
use Rattle.gms_eval.specs.Nodes.{in_order}
use Rattle.gms_eval.specs.Bindings.{Pairs}
use Rattle.gms_eval.specs.Faults.{Answer, ◌and_then◌}
use Rattle.gms_eval.specs.References.{tuple_of}
use Rattle.gms_eval.specs.Value.{labels, domain}
use Rattle.lp_core.specs.Sums.{value_of_column, row_sum}
use Rattle.lp_core.specs.Feasible.{KeepsLower, KeepsUpper, KeepsBounds, KeepsSense, KeepsRow, bound_value, Feasible}
use Rattle.lp_core.specs.WellFormed.{standard_rows, standard_columns}
use Rattle.lp_core.specs.declared.program.Sense.{Sense}
use Rattle.lp_core.specs.declared.program.Sense.TheVariants as sense
use Rattle.lp_core.specs.declared.program.Column.{Column}
use Rattle.lp_core.specs.declared.program.Row.{Row}
use Rattle.lp_core.specs.declared.program.Lp.{Lp}
use Rattle.lp_form.specs.declared.key.Key.{Key}
use Rattle.lp_form.specs.Keys.{key_cmp, same_key, AreOrdered}
use Rattle.lp_form.proofs.KeyOrder.{same_key_refl, same_key-Less, first-before, rest-ordered}
use Rattle.gms_eval.specs.declared.stop.StopKind.TheVariants.{TooManyRows, TooManyColumns}
use Rattle.gms_rows.specs.Affine.{affine}
use Rattle.gms_rows.specs.ElementRows.{bound_to}
use Rattle.gms_rows.specs.Forms.{Form, number_of_key, sum_of_forms}
use Rattle.gms_rows.specs.InnerContracts.{is_among}
use Rattle.gms_rows.specs.ModelPoints.{definitions_of_model, IsLinearDefinition, Compare, is_there, SidesCompare, KeepsDefinition, KeepsModel, KeepsBoundsOf, column_elements}
use Rattle.gms_rows.specs.Points.{form_at}
use Rattle.gms_rows.specs.PointValues.{value_at}
use Rattle.gms_rows.specs.ProgramLp.{column_keys, place_of_key, column_of, placed, program_of, too_many, sized_program, program_lp}
use Rattle.gms_rows.specs.Rows.{Definition, FormRow, sense_of, present_rows, row_form, rows_of_definition, rows_of_model}
use Rattle.gms_rows.proofs.ColumnKeys.{among-ordered}
use Rattle.gms_rows.proofs.Domains.{given, only_value}
use Rattle.gms_rows.proofs.KeyLists.{tied-turned, keys-ordered}
use Rattle.gms_rows.proofs.OneRow.{row_at}
use Rattle.gms_rows.proofs.Placing.{occurs-in_place}
use Rattle.gms_rows.proofs.PointSums.{sum_of-at}
use Rattle.gms_rows.proofs.Programs.{all-of_map, map-keeps, map-itself, keys-there}
use Rattle.gms_rows.proofs.ReadAt.{affine-at}
use Rattle.gms_rows.proofs.RowKeys.{sourced}
use Rattle.gms_rows.proofs.RowSequences.{row_of}

-- ---- both ways

both_ways-through : {A B C : Type 0} → A ↔ B → B ↔ C → A ↔ C
both_ways-through p q = (λ a. q.0 (p.0 a), λ c. p.1 (q.1 c))

module _ {X : Type 0} (P : X → Type 0) where
  all-left : (xs ys : List X) → All P (xs ++ ys) → All P xs
  all-left [] ys all = All-nil P
  all-left (x ∷ xs) ys all =
      All-cons P x xs (All-head P x (xs ++ ys) all) (all-left xs ys (All-tail P x (xs ++ ys) all))

  all-right : (xs ys : List X) → All P (xs ++ ys) → All P ys
  all-right [] ys all = all
  all-right (x ∷ xs) ys all = all-right xs ys (All-tail P x (xs ++ ys) all)

-- ---- the sum of a row

-- an entry of entries in order is found by its key
own-entry : (es : List (Key × Number)) → AreOrdered (keys_of es) → All (λ e. finite.find key_cmp e.0 es ≡ Some e.1) es
own-entry [] up = All-nil (λ (e : Key × Number). finite.find key_cmp e.0 [] ≡ Some e.1)
own-entry (e ∷ es) up =
    let before = all-of_map (λ (x : Key × Number). x.0) (λ l. same_key e.0 l ≡ false) es (All-weaker (λ l. key_cmp e.0 l ≡ Less) (λ l. same_key e.0 l ≡ false) (λ l less. same_key-Less e.0 l less) (keys_of es) (first-before e.0 (keys_of es) up)) in
    let rest = own-entry es (rest-ordered e.0 (keys_of es) up) in
    All-cons (λ (x : Key × Number). finite.find key_cmp x.0 (e ∷ es) ≡ Some x.1) e es (ap (λ b. cond b (Some e.1) (finite.find key_cmp e.0 es)) (tied-turned e.0 e.0 ∙ same_key_refl e.0))
    (λ k d below. ap (λ b. cond b (Some e.1) (finite.find key_cmp (get_or es k d).0 es)) (tied-turned e.0 (get_or es k d).0 ∙ before k d below) ∙ rest k d below)

entry-number : (form : Form) → All (λ e. number_of_key form e.0 ≡ e.1) (finite.entries form.numbers)
entry-number form k d below =
    let es = finite.entries form.numbers in
    ap (λ o. unwrap_or o (whole (pos 0))) (finite.get-entries form.numbers (get_or es k d).0 ∙ own-entry es (keys-ordered form.numbers) k d below)

-- a form at a point, by its entries
form-entries : (point : Key → Number) (form : Form) → sum_by_ℚ (λ key. number_of_key form key *ℚ point key) (finite.keys form.numbers) ≡ sum_by_ℚ (λ (e : Key × Number). e.1 *ℚ point e.0) (finite.entries form.numbers)
form-entries point form =
    let es = finite.entries form.numbers in
    sum_by_ℚ-map (λ key. number_of_key form key *ℚ point key) (λ (e : Key × Number). e.0) es
    ∙ sum_by_ℚ_same (λ (e : Key × Number). number_of_key form e.0 *ℚ point e.0) (λ (e : Key × Number). e.1 *ℚ point e.0) es (λ k d below. ap (λ x. x *ℚ point (get_or es k d).0) (entry-number form k d below))

module _ (point : Key → Number) (keys : List Key) (up : AreOrdered keys) where
  -- the value of a column is that of its element
  value-there : (key : Key) → is_among keys key ≡ true → value_of_column (map point keys) (place_of_key keys key) ≡ point key
  value-there key there =
      let at = occurs-in_place keys up key there in
      get_or-map point keys (place_of_key keys key) key (whole (pos 0)) at.0 ∙ ap point (at.1 key)

  -- the sum of a placed row is that of its form's entries
  placed-sum : (form : Form) → All (λ key. is_among keys key ≡ true) (finite.keys form.numbers) → row_sum (λ (x : Number). x) (map {B = ℕ × Number} (λ entry. (place_of_key keys entry.0, entry.1)) (finite.entries form.numbers)) (map point keys) ≡ sum_by_ℚ (λ key. number_of_key form key *ℚ point key) (finite.keys form.numbers)
  placed-sum form there =
      let es = finite.entries form.numbers in
      let all = all-of_map (λ (e : Key × Number). e.0) (λ key. is_among keys key ≡ true) es there in
      sum_by_ℚ-map (λ (e : ℕ × Number). e.1 *ℚ value_of_column (map point keys) e.0) (λ (entry : Key × Number). (place_of_key keys entry.0, entry.1)) es
      ∙ sum_by_ℚ_same (λ (e : Key × Number). e.1 *ℚ value_of_column (map point keys) (place_of_key keys e.0)) (λ (e : Key × Number). e.1 *ℚ point e.0) es (λ k d below. ap (λ y. (get_or es k d).1 *ℚ y) (value-there (get_or es k d).0 (all k d below)))
      ∙ sym (form-entries point form)

-- ---- a right side, and the two sides of a definition

raised : (r c t : Number) → r +ℚ (c +ℚ t) +ℚ neg_ℚ c ≡ r +ℚ t
raised r c t = simp ring_ℚ

lowered : (r c t : Number) → t +ℚ r ≡ neg_ℚ c +ℚ (r +ℚ (c +ℚ t))
lowered r c t = simp ring_ℚ

moved : (l r : Number) → r +ℚ (l -ℚ r) ≡ l
moved l r = simp ring_ℚ

kept : (s : Sense) (r c t : Number) → KeepsSense s t (neg_ℚ c) ↔ KeepsSense s (r +ℚ (c +ℚ t)) r
kept sense.E r c t = (λ e. ≡_from e (raised r c t), λ e. ≡_from e (lowered r c t))
kept sense.L r c t = (λ e. ≤ℚ_from e (raised r c t), λ e. ≤ℚ_from e (lowered r c t))
kept sense.G r c t = (λ e. ≤ℚ_from e (sym (raised r c t)), λ e. ≤ℚ_from e (sym (lowered r c t)))
kept sense.N r c t = (λ e. tt, λ e. tt)

sides : (s : Sense) (l r c t : Number) → l -ℚ r ≡ c +ℚ t → KeepsSense s t (neg_ℚ c) ↔ KeepsSense s l r
sides s l r c t e =
    subst (λ x. KeepsSense s t (neg_ℚ c) ↔ KeepsSense s x r) (sym (ap (λ d. r +ℚ d) e) ∙ moved l r) (kept s r c t)

-- ---- rows

-- the keys of a row are among these
abbrev HasKeys : List Key → FormRow → Type 0
HasKeys keys row = All (λ key. is_among keys key ≡ true) (finite.keys row.form.numbers)

module _ {F : Type 0} (v : F → Number) (limit : ℕ) (state : State) (point : Key → Number) (keys : List Key) (up : AreOrdered keys) where
  -- the point satisfies a row
  abbrev Kept : FormRow → Type 0
  Kept row = KeepsRow (λ (x : Number). x) (placed keys row) (map point keys)

  module _ (d : Definition F) (linear : IsLinearDefinition state d) (b : Pairs) where
    form-kept : (form : Form) → row_form v limit state d b ≡ Ok form → All (λ key. is_among keys key ≡ true) (finite.keys form.numbers) → KeepsSense (sense_of d.side) (row_sum (λ (x : Number). x) (map {B = ℕ × Number} (λ entry. (place_of_key keys entry.0, entry.1)) (finite.entries form.numbers)) (map point keys)) (neg_ℚ form.constant) ↔ SidesCompare v limit state point d b
    form-kept form e there =
        let one = given (affine v limit state d.left_at b d.left) (λ left. affine v limit state d.right_at b d.right and_then λ right. sum_of_forms limit d.right_at b true left right) form e in
        let two = given (affine v limit state d.right_at b d.right) (λ right. sum_of_forms limit d.right_at b true one.value right) form one.next_is in
        let l = form_at point one.value in
        let r = form_at point two.value in
        let total = row_sum (λ (x : Number). x) (map {B = ℕ × Number} (λ entry. (place_of_key keys entry.0, entry.1)) (finite.entries form.numbers)) (map point keys) in
        let same : l -ℚ r ≡ form.constant +ℚ total = sym (sum_of-at point one.value two.value limit d.right_at b true form two.next_is) ∙ ap (λ s. form.constant +ℚ s) (sym (placed-sum point keys up form there)) in
        let left = affine-at v limit state point d.left_at b d.left one.value linear.0 one.is in
        let right = affine-at v limit state point d.right_at b d.right two.value linear.1 two.is in
        subst (λ a. KeepsSense (sense_of d.side) total (neg_ℚ form.constant) ↔ Compare d.side a (value_at v limit state point b d.right)) (sym left)
        (subst (λ a. KeepsSense (sense_of d.side) total (neg_ℚ form.constant) ↔ Compare d.side (Ok (number l)) a) (sym right) (sides (sense_of d.side) l r form.constant total same))

    -- the row that there may be
    abbrev KeptWhere : Option FormRow → Type 0
    KeptWhere None = Unit {0}
    KeptWhere (Some row) = Kept row

    abbrev HasWhere : Option FormRow → Type 0
    HasWhere None = Unit {0}
    HasWhere (Some row) = HasKeys keys row

    tuple-kept : (o : Option (List ℕ)) (made : Option FormRow) → row_at v limit state d b o ≡ Ok made → HasWhere made → KeptWhere made ↔ (is_some o ≡ true → SidesCompare v limit state point d b)
    tuple-kept None made e has =
        subst (λ m. KeptWhere m ↔ (false ≡ true → SidesCompare v limit state point d b)) (only_value None made e) (λ all none. absurd (cc), λ all. tt)
    tuple-kept (Some t) made e has =
        let one = given (row_form v limit state d b) (λ form. Ok (Some (record { key = record { symbol = d.equation; tuple = t }; sense = sense_of d.side; form = form }))) made e in
        let row : FormRow = record { key = record { symbol = d.equation; tuple = t }; sense = sense_of d.side; form = one.value } in
        let same : Some row ≡ made = only_value (Some row) made one.next_is in
        let both = form-kept one.value one.is (subst HasWhere (sym same) has) in
        subst (λ m. KeptWhere m ↔ (true ≡ true → SidesCompare v limit state point d b)) same (λ all is. both.0 all, λ all. both.1 (all refl))

    labels-kept : (a : Answer (List (Option ℕ))) (made : Option FormRow) → (a and_then λ those. row_at v limit state d b (tuple_of those)) ≡ Ok made → HasWhere made → KeptWhere made ↔ (is_there a ≡ true → SidesCompare v limit state point d b)
    labels-kept (Ok those) made e has = tuple-kept (tuple_of those) made e has
    labels-kept (Err fault) made e has = absurd (cc)

  module _ (d : Definition F) (linear : IsLinearDefinition state d) where
    -- the claim for an element
    abbrev Asked : List ℕ → Type 0
    Asked element = is_there (in_order (labels v limit state (bound_to d element) d.indices)) ≡ true → SidesCompare v limit state point d (bound_to d element)

    there-first : (first : Option FormRow) (later : List (Option FormRow)) → All (HasKeys keys) (present_rows (first ∷ later)) → HasWhere d linear [] first × All (HasKeys keys) (present_rows later)
    there-first None later all = (tt, all)
    there-first (Some row) later all =
        (All-head (HasKeys keys) row (present_rows later) all, All-tail (HasKeys keys) row (present_rows later) all)

    more-kept : (element : List ℕ) (elements : List (List ℕ)) (first : Option FormRow) (later : List (Option FormRow)) → KeptWhere d linear [] first ↔ Asked element → All Kept (present_rows later) ↔ All Asked elements → All Kept (present_rows (first ∷ later)) ↔ All Asked (element ∷ elements)
    more-kept element elements None later here rest = (
      λ all. All-cons Asked element elements (here.0 tt) (rest.0 all),
      λ all. rest.1 (All-tail Asked element elements all),
    )
    more-kept element elements (Some row) later here rest = (
      λ all. All-cons Asked element elements (here.0 (All-head Kept row (present_rows later) all)) (rest.0 (All-tail Kept row (present_rows later) all)),
      λ all. All-cons Kept row (present_rows later) (here.1 (All-head Asked element elements all)) (rest.1 (All-tail Asked element elements all)),
    )

    elements-kept : (elements : List (List ℕ)) (made : List (Option FormRow)) → in_order (map (row_of v limit state d) elements) ≡ Ok made → All (HasKeys keys) (present_rows made) → All Kept (present_rows made) ↔ All Asked elements
    elements-kept [] made e has =
        subst (λ m. All Kept (present_rows m) ↔ All Asked []) (only_value [] made e) (λ all. All-nil Asked, λ all. All-nil Kept)
    elements-kept (element ∷ elements) made e has =
        let one = given (row_of v limit state d element) (λ z. in_order (map (row_of v limit state d) elements) and_then λ zs. Ok (z ∷ zs)) made e in
        let two = given (in_order (map (row_of v limit state d) elements)) (λ zs. Ok (one.value ∷ zs)) made one.next_is in
        let same : one.value ∷ two.value ≡ made = only_value (one.value ∷ two.value) made two.next_is in
        let parts = there-first one.value two.value (subst (λ m. All (HasKeys keys) (present_rows m)) (sym same) has) in
        subst (λ m. All Kept (present_rows m) ↔ All Asked (element ∷ elements)) same
        (more-kept element elements one.value two.value (labels-kept d linear (bound_to d element) (in_order (labels v limit state (bound_to d element) d.indices)) one.value one.is parts.0) (elements-kept elements two.value two.is parts.1))

    definition-kept : (rows : List FormRow) → rows_of_definition v limit state d ≡ Ok rows → All (HasKeys keys) rows → All Kept rows ↔ KeepsDefinition v limit state point d
    definition-kept rows e has =
        let source = sourced v limit state d rows e in
        let all = elements-kept source.elements source.made source.answered (subst (All (HasKeys keys)) (sym source.is) has) in
        subst (λ those. All Kept those ↔ KeepsDefinition v limit state point d) source.is
        (λ those elements is. subst (All Asked) (only_value source.elements elements (sym source.domain ∙ is)) (all.0 those), λ keeps. all.1 (keeps source.elements source.domain))

  model-kept : (ds : List (Definition F)) (those : List (List FormRow)) → All (IsLinearDefinition state) ds → in_order (map (rows_of_definition v limit state) ds) ≡ Ok those → All (HasKeys keys) (flat_map (λ some. some) those) → All Kept (flat_map (λ some. some) those) ↔ All (KeepsDefinition v limit state point) ds
  model-kept [] those linear e has =
      subst (λ rows. All Kept (flat_map (λ some. some) rows) ↔ All (KeepsDefinition v limit state point) []) (only_value [] those e) (λ all. All-nil (KeepsDefinition v limit state point), λ all. All-nil Kept)
  model-kept (d ∷ ds) those linear e has =
      let one = given (rows_of_definition v limit state d) (λ z. in_order (map (rows_of_definition v limit state) ds) and_then λ zs. Ok (z ∷ zs)) those e in
      let two = given (in_order (map (rows_of_definition v limit state) ds)) (λ zs. Ok (one.value ∷ zs)) those one.next_is in
      let same : one.value ∷ two.value ≡ those = only_value (one.value ∷ two.value) those two.next_is in
      let later = flat_map (λ (some : List FormRow). some) two.value in
      let split : All (HasKeys keys) (one.value ++ later) = subst (λ rows. All (HasKeys keys) (flat_map (λ some. some) rows)) (sym same) has in
      let here = definition-kept d (All-head (IsLinearDefinition state) d ds linear) one.value one.is (all-left (HasKeys keys) one.value later split) in
      let rest = model-kept ds two.value (All-tail (IsLinearDefinition state) d ds linear) two.is (all-right (HasKeys keys) one.value later split) in
      subst (λ rows. All Kept (flat_map (λ some. some) rows) ↔ All (KeepsDefinition v limit state point) (d ∷ ds)) same (
        λ all. All-cons (KeepsDefinition v limit state point) d ds (here.0 (all-left Kept one.value later all)) (rest.0 (all-right Kept one.value later all)),
        λ all. All-append Kept one.value later (here.1 (All-head (KeepsDefinition v limit state point) d ds all)) (rest.1 (All-tail (KeepsDefinition v limit state point) d ds all)),
      )

-- ---- bounds

same-bound : (o : Option Number) → bound_value (λ (x : Number). x) o ≡ o
same-bound None = refl
same-bound (Some x) = refl

module _ (point : Key → Number) where
  -- the value of a column's element is within the column's bounds
  abbrev WithinColumn : Column Number → Type 0
  WithinColumn column = KeepsLower column.lower (point column.key) × KeepsUpper column.upper (point column.key)

  abbrev values_of : List (Column Number) → List Number
  values_of columns = map (λ (column : Column Number). point column.key) columns

  module _ (columns : List (Column Number)) where
    abbrev Bounded : ℕ × Column Number → Type 0
    Bounded p = KeepsBounds (λ (x : Number). x) p.1 (value_of_column (values_of columns) p.0)

    column-kept : (k : ℕ) (column : Column Number) → k < length columns → Bounded (0 + k, get_or columns k column) ↔ WithinColumn (get_or columns k column)
    column-kept k column below =
        let at = get_or columns k column in
        let place : 0 + k ≡ k = omega arith in
        let value : value_of_column (values_of columns) (0 + k) ≡ point at.key = ap (value_of_column (values_of columns)) place ∙ get_or-map (λ (column : Column Number). point column.key) columns k column (whole (pos 0)) below in
        subst (λ y. (KeepsLower (bound_value (λ (x : Number). x) at.lower) y × KeepsUpper (bound_value (λ (x : Number). x) at.upper) y) ↔ WithinColumn at) (sym value)
        (subst (λ l. (KeepsLower l (point at.key) × KeepsUpper (bound_value (λ (x : Number). x) at.upper) (point at.key)) ↔ WithinColumn at) (sym (same-bound at.lower))
        (subst (λ u. (KeepsLower at.lower (point at.key) × KeepsUpper u (point at.key)) ↔ WithinColumn at) (sym (same-bound at.upper)) (λ both. both, λ both. both)))

    bounds-kept : All Bounded (enumerate_from 0 columns) ↔ All WithinColumn columns
    bounds-kept = (
      λ all k column below. (column-kept k column below).0 (subst Bounded (get_or-enumerate_from 0 columns k (0, column) below) (all k (0, column) (omega (arith, below, length-enumerate_from 0 columns)))),
      λ all k d below.
          let within : k < length columns = omega (arith, below, length-enumerate_from 0 columns) in
          subst Bounded (sym (get_or-enumerate_from 0 columns k d within)) ((column-kept k d.1 within).1 (all k d.1 within)),
    )

-- ---- the program of a solve

-- the keys of rows are among those of the columns
rows-in : (rows : List FormRow) (objective : Key) → All (HasKeys (column_keys rows objective)) rows
rows-in rows objective =
    let keys_in : FormRow → List Key = λ row. finite.keys row.form.numbers in
    All-weaker (λ row. All (λ key. is_among (flat_map keys_in rows) key ≡ true) (keys_in row)) (HasKeys (column_keys rows objective)) (λ row all. All-weaker (λ key. is_among (flat_map keys_in rows) key ≡ true) (λ key. is_among (column_keys rows objective) key ≡ true) (λ key there. among-ordered (objective ∷ flat_map keys_in rows) key ∙ ap (λ b. same_key key objective || b) there ∙ or-true (same_key key objective)) (keys_in row) all) rows (keys-there keys_in rows)

sized-lp : (at : Place) (made lp : Lp Number) → sized_program at made ≡ Ok lp → made ≡ lp
sized-lp at made lp e = by (nat_lt 1500 (standard_rows made)) (nat_lt 3000 (standard_columns made)) e
  where
    by : (a b : Bool) → (if a then Err (too_many TooManyRows at (standard_rows made)) else if b then Err (too_many TooManyColumns at (standard_columns made)) else Ok made) ≡ Ok lp → made ≡ lp
    by true b e = absurd (cc)
    by false true e = absurd (cc)
    by false false e = only_value made lp e

module _ (state : State) (rows : List FormRow) (objective : Key) (maximize : Bool) (point : Key → Number) where
  abbrev keys : List Key
  keys = column_keys rows objective

  abbrev the_program : Lp Number
  the_program = program_of state rows objective maximize

  -- its columns' elements
  columns-keys : column_elements the_program ≡ keys
  columns-keys =
      map-keeps (column_of state) (λ (column : Column Number). column.key) (λ (key : Key). key) (λ key. refl) keys ∙ map-itself (λ (key : Key). key) (λ key. refl) keys

  columns-values : map (λ (column : Column Number). point column.key) the_program.columns ≡ map point keys
  columns-values = map-keeps (column_of state) (λ (column : Column Number). point column.key) point (λ key. refl) keys

  columns-bounded : All (WithinColumn point) the_program.columns ↔ KeepsBoundsOf state point (column_elements the_program)
  columns-bounded =
      subst (λ ks. All (WithinColumn point) the_program.columns ↔ KeepsBoundsOf state point ks) (sym columns-keys) (
        λ all. all-of_map (column_of state) (WithinColumn point) keys all,
        λ all. All-map (WithinColumn point) (column_of state) keys all,
      )

  program-feasible : (Asked : Type 0) → All (λ (row : FormRow). KeepsRow (λ (x : Number). x) (placed keys row) (map point keys)) rows ↔ Asked → (Asked × KeepsBoundsOf state point (column_elements the_program)) ↔ Feasible (λ (x : Number). x) the_program (map (λ (column : Column Number). point column.key) the_program.columns)
  program-feasible Asked asked = (
    λ both. record {
      sized = length-map the_program.columns (λ (column : Column Number). point column.key);
      bounds = (bounds-kept point the_program.columns).1 (columns-bounded.1 both.1);
      rows = subst (λ x. All (λ (row : Row Number). KeepsRow (λ (x : Number). x) row x) the_program.rows) (sym columns-values) (All-map (λ (row : Row Number). KeepsRow (λ (x : Number). x) row (map point keys)) (placed keys) rows (asked.1 both.0));
    },
    λ feasible. (
      asked.0 (all-of_map (placed keys) (λ (row : Row Number). KeepsRow (λ (x : Number). x) row (map point keys)) rows (subst (λ x. All (λ (row : Row Number). KeepsRow (λ (x : Number). x) row x) the_program.rows) columns-values feasible.rows)),
      columns-bounded.0 ((bounds-kept point the_program.columns).0 feasible.bounds),
    ),
  )

-- the points that keep a model are the feasible points of its program
pub lp-feasible : {F : Type 0} (v : F → Number) (limit : ℕ) (state : State) (statements : List (Stmt F)) (model objective : ℕ) (maximize : Bool) (at : Place) (lp : Lp Number) (point : Key → Number) → All (IsLinearDefinition state) (definitions_of_model statements model) → program_lp v limit state statements model objective maximize at ≡ Ok lp → (KeepsModel v limit state point statements model × KeepsBoundsOf state point (column_elements lp)) ↔ Feasible (λ (x : Number). x) lp (map (λ (column : Column Number). point column.key) lp.columns)
lp-feasible v limit state statements model objective maximize at lp point linear e =
    let key : Key = record { symbol = objective; tuple = [] } in
    let one = given (rows_of_model v limit state statements model) (λ rows. sized_program at (program_of state rows key maximize)) lp e in
    let two = given (in_order (map (rows_of_definition v limit state) (definitions_of_model statements model))) (λ rows. Ok (flat_map (λ some. some) rows)) one.value one.is in
    let rows : flat_map (λ some. some) two.value ≡ one.value = only_value (flat_map (λ some. some) two.value) one.value two.next_is in
    let up : AreOrdered (column_keys one.value key) = keys-ordered (finite.from_entries {R = key_cmp} (map (λ key. (key, true)) (key ∷ flat_map (λ row. finite.keys row.form.numbers) one.value))) in
    let has = subst (All (HasKeys (column_keys one.value key))) (sym rows) (rows-in one.value key) in
    let all = model-kept v limit state point (column_keys one.value key) up (definitions_of_model statements model) two.value linear two.is has in
    let these = subst (λ those. All (Kept v limit state point (column_keys one.value key) up) those ↔ KeepsModel v limit state point statements model) rows all in
    subst (λ (p : Lp Number). (KeepsModel v limit state point statements model × KeepsBoundsOf state point (column_elements p)) ↔ Feasible (λ (x : Number). x) p (map (λ (column : Column Number). point column.key) p.columns)) (sized-lp at (program_of state one.value key maximize) lp one.next_is)
    (program-feasible state one.value key maximize point (KeepsModel v limit state point statements model) these)
