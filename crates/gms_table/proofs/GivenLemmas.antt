-- Numbers of labels are the same just where the labels are, letter case ignored.
use Rattle.std.proofs.Common.{◌≡◌, inl, inr, ℕ, ◌&&◌, Bool, true, List, [], ◌∷◌, map, Some, position, refl, sym, ap, ◌∙◌, subst, arith}
use Rattle.std.specs.List.{Contains}
use Rattle.std.specs.Str.{bytes_eq}
use Rattle.std.proofs.lemmas.Slice.Eq.{bytes_eq-Decides}
use Rattle.std.proofs.lemmas.List.Elements.{Contains-append_left, Contains-append_right, Contains-append_cases, Contains-push_cases, Contains-push}
use Rattle.gms_grammar.proofs.LineLemmas.{true_or_false}
use Rattle.gq_number.specs.Number.{Number}
use Rattle.gms_labels.specs.Labels.{lower_case, is_same, place_of}
use Rattle.gms_labels.proofs.Places.{place_of-reads, is_same_sym, is_same_trans}
use Rattle.gms_table.specs.declared.entry.Entry.{Entry}
use Rattle.gms_table.specs.Words.{Word}
use Rattle.gms_table.specs.WordLabels.{labels_of_word, AreLabelNumbers}
use Rattle.gms_table.specs.InnerGiven.{same_numbers, is_given}
use Rattle.gms_table.specs.TableEntries.{TablePart, name, cell, met, key_of, keys_of, AreEntries}

-- two texts with one number are one label
same_at : (table : List (List ℕ)) (a b : List ℕ) (n : ℕ) → place_of table a ≡ Some n → place_of table b ≡ Some n → lower_case a ≡ lower_case b
same_at table a b n h k =
    let one = (place_of-reads table a n h).1 in
    let other = (place_of-reads table b n k).1 in
    let same : is_same a b ≡ true = is_same_trans a _ b one (is_same_sym b _ other) in
    (bytes_eq-Decides (lower_case a) (lower_case b)).0 same

-- labels with the same numbers are the same
pub same_labels : (table : List (List ℕ)) (numbers : List ℕ) (xs ys : List (List ℕ)) → AreLabelNumbers table numbers xs → AreLabelNumbers table numbers ys → map lower_case xs ≡ map lower_case ys
same_labels table [] [] [] h k = refl
same_labels table [] (x ∷ xs) ys h k = absurd (cc)
same_labels table [] [] (y ∷ ys) h k = absurd (cc)
same_labels table (n ∷ numbers) [] ys h k = absurd (cc)
same_labels table (n ∷ numbers) (x ∷ xs) [] h k = absurd (cc)
same_labels table (n ∷ numbers) (x ∷ xs) (y ∷ ys) h k =
    let one : Some n ≡ place_of table x = cc in
    let other : Some n ≡ place_of table y = cc in
    let here = same_at table x y n (sym one) (sym other) in
    let hs : AreLabelNumbers table numbers xs = cc in
    let ks : AreLabelNumbers table numbers ys = cc in
    let there = same_labels table numbers xs ys hs ks in
    cc

-- the same labels have the same places
same_places : (table : List (List ℕ)) (xs ys : List (List ℕ)) → map lower_case xs ≡ map lower_case ys → map (place_of table) xs ≡ map (place_of table) ys
same_places table [] [] h = refl
same_places table [] (y ∷ ys) h = absurd (cc)
same_places table (x ∷ xs) [] h = absurd (cc)
same_places table (x ∷ xs) (y ∷ ys) h =
    let here : lower_case x ≡ lower_case y = cc in
    let others : map lower_case xs ≡ map lower_case ys = cc in
    let first : place_of table x ≡ place_of table y = ap (λ (t : List ℕ). position (λ b. bytes_eq t (lower_case b)) table) here in
    let there = same_places table xs ys others in
    cc

Some-injective : (xs ys : List ℕ) → map Some xs ≡ map Some ys → xs ≡ ys
Some-injective [] [] h = refl
Some-injective [] (y ∷ ys) h = absurd (cc)
Some-injective (x ∷ xs) [] h = absurd (cc)
Some-injective (x ∷ xs) (y ∷ ys) h =
    let here : x ≡ y = cc in
    let others : map Some xs ≡ map Some ys = cc in
    let there = Some-injective xs ys others in
    cc

-- the same labels have the same numbers
pub same_numbers-labels : (table : List (List ℕ)) (ms ns : List ℕ) (xs ys : List (List ℕ)) → AreLabelNumbers table ms xs → AreLabelNumbers table ns ys → map lower_case xs ≡ map lower_case ys → ms ≡ ns
same_numbers-labels table ms ns xs ys h k same = Some-injective ms ns (h ∙ same_places table xs ys same ∙ sym k)

-- the labels of a row and of a heading have the numbers of an entry
abbrev pub AreKeyNumbers : List (List ℕ) → List ℕ → List ℕ → Word → Word → Type 0
AreKeyNumbers table row column label heading = AreLabelNumbers table row (labels_of_word label) × AreLabelNumbers table column (labels_of_word heading)

key-same : (table : List (List ℕ)) (row column other_row other_column : List ℕ) (label heading other_label other_heading : Word) → AreKeyNumbers table row column label heading → AreKeyNumbers table other_row other_column other_label other_heading → row ≡ other_row → column ≡ other_column → key_of label heading ≡ key_of other_label other_heading
key-same table row column other_row other_column label heading other_label other_heading are others rows columns =
    let r : map lower_case (labels_of_word label) ≡ map lower_case (labels_of_word other_label) = same_labels table row (labels_of_word label) (labels_of_word other_label) are.0 (subst (λ ns. AreLabelNumbers table ns (labels_of_word other_label)) (sym rows) others.0) in
    let c : map lower_case (labels_of_word heading) ≡ map lower_case (labels_of_word other_heading) = same_labels table column (labels_of_word heading) (labels_of_word other_heading) are.1 (subst (λ ns. AreLabelNumbers table ns (labels_of_word other_heading)) (sym columns) others.1) in
    (λ i. (r i, c i))

-- whether an entry has the numbers
abbrev has_numbers : {F : Type 0} → Entry F → List ℕ → List ℕ → Bool
has_numbers entry row column = same_numbers entry.row row && same_numbers entry.column column

has_numbers-true : {F : Type 0} (entry : Entry F) (row column : List ℕ) → has_numbers entry row column ≡ true → (entry.row ≡ row) × (entry.column ≡ column)
has_numbers-true entry row column h = elim (true_or_false (same_numbers entry.row row)) [
  | inl r ↦ ((bytes_eq-Decides entry.row row).0 r, (bytes_eq-Decides entry.column column).0 (rw r at h))
  | inr r ↦ absurd (let z = rw r at h in cc)
]

true-has_numbers : {F : Type 0} (entry : Entry F) (row column : List ℕ) → entry.row ≡ row → entry.column ≡ column → has_numbers entry row column ≡ true
true-has_numbers entry row column r c = rw ((bytes_eq-Decides entry.row row).1 r) ((bytes_eq-Decides entry.column column).1 c)

Contains-nothing : {X : Type 0} (x : X) → Contains [] x → ⊥
Contains-nothing x h = omega (arith, h.1)

Contains-one : {X : Type 0} (y x : X) → Contains (y ∷ []) x → y ≡ x
Contains-one y x h = elim (Contains-push_cases [] y x h) [ inl n ↦ absurd (Contains-nothing x n) | inr e ↦ e ]

module _ {F : Type 0} (limit : ℕ) (value : F → Number) (table : List (List ℕ)) (row column : List ℕ) (label heading : Word) (are : AreKeyNumbers table row column label heading) where
  -- an entry with the numbers is one of the row and the heading
  pub key-given : (parts : List TablePart) (entries : List (Entry F)) → AreEntries limit value table parts entries → is_given entries row column ≡ true → Contains (keys_of parts) (key_of label heading)
  key-given [] entries is given = absurd (let z = rw is at given in cc)
  key-given (name word ∷ parts) entries is given = key-given parts entries is given
  key-given (cell r hs word ∷ parts) [] is given = absurd is
  key-given (cell r hs word ∷ parts) (entry ∷ entries) is given = elim (true_or_false (has_numbers entry row column)) [
    | inl h ↦
        let same = has_numbers-true entry row column h in
        let key = key-same table entry.row entry.column row column r is.0.heading label heading (is.0.row_is, is.0.column_is) are same.0 same.1 in
        rw is.0.under_one (subst (λ k. Contains (key_of r is.0.heading ∷ keys_of parts) k) key (Contains-append_left (key_of r is.0.heading ∷ []) (keys_of parts) _ (Contains-push [] (key_of r is.0.heading))))
    | inr h ↦ Contains-append_right (map (key_of r) (met hs word)) (keys_of parts) _ (key-given parts entries is.1 (rw h at given))
  ]

  -- and if the row and the heading have one, it has the numbers
  pub given-key : (parts : List TablePart) (entries : List (Entry F)) → AreEntries limit value table parts entries → Contains (keys_of parts) (key_of label heading) → is_given entries row column ≡ true
  given-key [] entries is has = absurd (Contains-nothing _ has)
  given-key (name word ∷ parts) entries is has = given-key parts entries is has
  given-key (cell r hs word ∷ parts) [] is has = absurd is
  given-key (cell r hs word ∷ parts) (entry ∷ entries) is has = elim (Contains-append_cases (key_of r is.0.heading ∷ []) (keys_of parts) _ (rw is.0.under_one at has)) [
    | inl one ↦
        let key : key_of r is.0.heading ≡ key_of label heading = Contains-one _ _ one in
        let rows : entry.row ≡ row = same_numbers-labels table entry.row row (labels_of_word r) (labels_of_word label) is.0.row_is are.0 (ap (λ k. k.0) key) in
        let columns : entry.column ≡ column = same_numbers-labels table entry.column column (labels_of_word is.0.heading) (labels_of_word heading) is.0.column_is are.1 (ap (λ k. k.1) key) in
        rw (true-has_numbers entry row column rows columns) refl
    | inr others ↦ elim (true_or_false (has_numbers entry row column)) [
      | inl h ↦ rw h refl
      | inr h ↦ rw h (given-key parts entries is.1 others)
    ]
  ]
