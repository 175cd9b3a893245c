-- The numbers of a row at the places of their columns.
use Rattle.std.proofs.Common.{◌≡◌, ◌≢◌, ℕ, suc, ◌+◌, ◌<◌, Bool, true, false, ◌||◌, pos, List, [], ◌∷◌, ◌++◌, map, length, get_or, take, refl, sym, ap, ◌∙◌, subst, inl, inr, arith}
use Rattle.std.specs.List.{All}
use Rattle.std.specs.declared.cmp.Ordering.TheVariants.{Less, Equal, Greater}
use Rattle.std.specs.FinMap as finite
use Rattle.std.proofs.lemmas.Cmp.{tied_itself}
use Rattle.std.proofs.lemmas.Bool.{cases_lt, cases_eq}
use Rattle.std.proofs.lemmas.List.{take_more, map_push}
use Rattle.std.proofs.lemmas.List.Elements.{All-nil, All-cons, All-head, All-tail, All-append}
use Rattle.std.proofs.lemmas.List.Kept.{AllPairs-cons}
use Rattle.std.proofs.lemmas.Map.Keys.{Less-from_sorted}
use Rattle.gq_number.specs.Number.{Number, whole, neg_ℚ}
use Rattle.lp_form.specs.declared.key.Key.{Key}
use Rattle.lp_form.specs.Keys.{key_cmp, same_key, AreOrdered}
use Rattle.lp_form.specs.Affine.{Affine, IsForm}
use Rattle.lp_form.proofs.KeyOrder.{key_cmp-total, key_cmp-flip, same_key-is, first-before, rest-ordered}
use Rattle.lp_core.specs.WellFormed.{AreRowEntries}
use Rattle.lp_core.specs.declared.program.Row.{Row}
use Rattle.lp_core.specs.Numbers.{row_numbers}
use Rattle.gms_rows.specs.declared.form_row.FormRow.{FormRow as OwnRow}
use Rattle.gms_rows.specs.Forms.{keyed, form_in}
use Rattle.gms_rows.specs.ProgramLp.{place_of_key, placed}
use Rattle.gms_rows.specs.InnerContracts.{is_among, placed_numbers, form_row_in}
use Rattle.gms_rows.proofs.Places.{place-there}
use Rattle.gms_rows.proofs.ColumnKeys.{entries-form}

-- a key that is among others is at some place
pub occurs-at : (keys : List Key) (key : Key) → is_among keys key ≡ true → (i : ℕ) × (i < length keys) × ((d : Key) → get_or keys i d ≡ key)
occurs-at [] key there = absurd (cc)
occurs-at (k ∷ keys) key there = by (same_key key k) refl (occurs-at keys key)
  where
    by : (b : Bool) → same_key key k ≡ b → (is_among keys key ≡ true → (i : ℕ) × (i < length keys) × ((d : Key) → get_or keys i d ≡ key)) → (i : ℕ) × (i < suc (length keys)) × ((d : Key) → get_or (k ∷ keys) i d ≡ key)
    by true e rest = (0, omega arith, λ d. sym (same_key-is key k e))
    by false e rest =
        let later = rest (sym (ap (λ b. b || is_among keys key) e) ∙ there) in
        (suc later.0, omega (arith, later.1), λ d. later.2 d)

module _ (columns : List Key) (ordered : AreOrdered columns) where
  pub occurs-in_place : (key : Key) → is_among columns key ≡ true → (place_of_key columns key < length columns) × ((d : Key) → get_or columns (place_of_key columns key) d ≡ key)
  occurs-in_place key there =
      let some = occurs-at columns key there in
      let equal : key_cmp (get_or columns some.0 key) key ≡ Equal = ap (λ k. key_cmp k key) (some.2 key) ∙ tied_itself key_cmp-total key in
      let is = place-there columns key some.0 ordered some.1 equal in
      (omega (arith, some.1, is), λ d. subst (λ i. get_or columns i d ≡ key) is (some.2 d))

  -- the place of a key that is a column is one of their places
  pub place-within : (key : Key) → is_among columns key ≡ true → place_of_key columns key < length columns
  place-within key there = (occurs-in_place key there).0

  -- places rise with their keys
  place-rises : (k l : Key) → is_among columns k ≡ true → is_among columns l ≡ true → key_cmp k l ≡ Less → place_of_key columns k < place_of_key columns l
  place-rises k l here there less =
      let at = occurs-in_place k here in
      let following = occurs-in_place l there in
      elim (cases_lt (place_of_key columns k) (place_of_key columns l)) [
        | inl before ↦ before
        | inr after ↦ absurd (elim (cases_eq (place_of_key columns l) (place_of_key columns k)) [
          | inl same ↦
              let e : k ≡ l = sym (at.1 k) ∙ ap (λ i. get_or columns i k) (sym same) ∙ following.1 k in
              let tied : key_cmp k l ≡ Equal = ap (key_cmp k) (sym e) ∙ tied_itself key_cmp-total k in
              let both : Less ≡ Equal = sym less ∙ tied in cc
          | inr apart ↦
              let falls : key_cmp (get_or columns (place_of_key columns l) k) (get_or columns (place_of_key columns k) k) ≡ Less = Less-from_sorted key_cmp columns (place_of_key columns l) (place_of_key columns k) k ordered (omega (arith, after, apart)) at.0 in
              let turned : key_cmp l k ≡ Less = sym (ap (λ x. key_cmp x (get_or columns (place_of_key columns k) k)) (following.1 k) ∙ ap (key_cmp l) (at.1 k)) ∙ falls in
              let both : Greater ≡ Less = sym (key_cmp-flip k l Less less) ∙ turned in cc
        ])
      ]

  module _ {F : Type 0} (v : F → Number) where
    placed-above : (key : Key) (keys : List Key) (numbers : List F) → is_among columns key ≡ true → All (λ k. is_among columns k ≡ true) keys → All (λ k. key_cmp key k ≡ Less) keys → All (λ e. place_of_key columns key < e.0) (placed_numbers columns keys numbers)
    placed-above key [] numbers here all before = All-nil (λ (e : ℕ × F). place_of_key columns key < e.0)
    placed-above key (k ∷ keys) [] here all before = All-nil (λ (e : ℕ × F). place_of_key columns key < e.0)
    placed-above key (k ∷ keys) (x ∷ numbers) here all before =
        All-cons (λ (e : ℕ × F). place_of_key columns key < e.0) (place_of_key columns k, x) (placed_numbers columns keys numbers) (place-rises key k here (All-head (λ k. is_among columns k ≡ true) k keys all) (All-head (λ k. key_cmp key k ≡ Less) k keys before)) (placed-above key keys numbers here (All-tail (λ k. is_among columns k ≡ true) k keys all) (All-tail (λ k. key_cmp key k ≡ Less) k keys before))

    no_entries : AreRowEntries v (length columns) []
    no_entries =
        record {
          ascending = λ i j d less h. absurd (omega arith);
          there = All-nil (λ (e : ℕ × F). e.0 < length columns);
          not_zero = All-nil (λ (e : ℕ × F). v e.1 ≢ whole (pos 0));
        }

    -- numbers of keys in order, placed, are the entries of a row
    pub placed-AreEntries : (keys : List Key) (numbers : List F) → AreOrdered keys → All (λ x. v x ≢ whole (pos 0)) numbers → All (λ k. is_among columns k ≡ true) keys → AreRowEntries v (length columns) (placed_numbers columns keys numbers)
    placed-AreEntries [] numbers up some all = no_entries
    placed-AreEntries (k ∷ keys) [] up some all = no_entries
    placed-AreEntries (k ∷ keys) (x ∷ numbers) up some all =
        let here = All-head (λ k. is_among columns k ≡ true) k keys all in
        let later = All-tail (λ k. is_among columns k ≡ true) k keys all in
        let rest = placed-AreEntries keys numbers (rest-ordered k keys up) (All-tail (λ x. v x ≢ whole (pos 0)) x numbers some) later in
        record {
          ascending = AllPairs-cons (λ (a b : ℕ × F). a.0 < b.0) (place_of_key columns k, x) (placed_numbers columns keys numbers) (placed-above k keys numbers here later (first-before k keys up)) rest.ascending;
          there = All-cons (λ (e : ℕ × F). e.0 < length columns) (place_of_key columns k, x) (placed_numbers columns keys numbers) (place-within k here) rest.there;
          not_zero = All-cons (λ (e : ℕ × F). v e.1 ≢ whole (pos 0)) (place_of_key columns k, x) (placed_numbers columns keys numbers) (All-head (λ x. v x ≢ whole (pos 0)) x numbers some) rest.not_zero;
        }

-- the numbers that are placed are those that the form shows
module _ {F : Type 0} (v : F → Number) (columns : List Key) where
  placed-keyed : (keys : List Key) (numbers : List F) → map {B = ℕ × Number} (λ e. (e.0, v e.1)) (placed_numbers columns keys numbers) ≡ map {B = ℕ × Number} (λ entry. (place_of_key columns entry.0, entry.1)) (keyed v keys numbers)
  placed-keyed [] numbers = refl
  placed-keyed (k ∷ keys) [] = refl
  placed-keyed (k ∷ keys) (x ∷ numbers) = ap (λ rest. (place_of_key columns k, v x) ∷ rest) (placed-keyed keys numbers)

  pub placed-shows : (form : Affine F) → IsForm v form → map {B = ℕ × Number} (λ e. (e.0, v e.1)) (placed_numbers columns form.keys form.numbers) ≡ map {B = ℕ × Number} (λ entry. (place_of_key columns entry.0, entry.1)) (finite.entries (form_in v form).numbers)
  placed-shows form is =
      placed-keyed form.keys form.numbers ∙ ap (map {B = ℕ × Number} (λ (entry : Key × Number). (place_of_key columns entry.0, entry.1))) (sym (entries-form v form is))

-- one more element of a list, and of the mapped list
pub map-more : {X Y : Type 0} (f : X → Y) (xs : List X) (i : ℕ) (x : X) → i < length xs → x ≡ get_or xs i x → map f (take (i + 1) xs) ≡ map f (take i xs) ++ f x ∷ []
map-more f xs i x here is =
    ap (map f) (take_more xs i x here ∙ ap (λ y. take i xs ++ y ∷ []) (sym is)) ∙ map_push f (take i xs) x

-- all of some, and one more
pub All-push : {X : Type 0} (P : X → Type 0) (xs : List X) (x : X) → All P xs → P x → All P (xs ++ x ∷ [])
All-push P xs x all holds = All-append P xs (x ∷ []) all (All-cons P x [] holds (All-nil P))

module _ {F : Type 0} (v : F → Number) (columns : List Key) where
  -- the view of a row made of a form is the placed row
  pub placed-row : (row : OwnRow F) (made : Row F) → made.key ≡ row.key → made.sense ≡ row.sense → v made.right ≡ neg_ℚ (v row.form.constant) → made.entries ≡ placed_numbers columns row.form.keys row.form.numbers → IsForm v row.form → row_numbers v made ≡ placed columns (form_row_in v row)
  placed-row row made key sense right entries is =
      let those = ap (map {B = ℕ × Number} (λ e. (e.0, v e.1))) entries ∙ placed-shows v columns row.form is in
      λ i. record { key = key i; sense = sense i; right = right i; entries = those i }

  pub placed-more_rows : (rows : List (OwnRow F)) (i : ℕ) (row : OwnRow F) → i < length rows → row ≡ get_or rows i row → map (placed columns) (map (form_row_in v) (take (i + 1) rows)) ≡ map (placed columns) (map (form_row_in v) (take i rows)) ++ placed columns (form_row_in v row) ∷ []
  placed-more_rows rows i row here is =
      ap (map (placed columns)) (map-more (form_row_in v) rows i row here is) ∙ map_push (placed columns) (map (form_row_in v) (take i rows)) (form_row_in v row)
