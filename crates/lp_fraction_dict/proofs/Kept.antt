-- What is read from a dictionary as it is kept.
use Rattle.std.proofs.Common.{◌≡◌, ℕ, zero, suc, ◌+◌, ◌<◌, ◌≤◌, inl, inr, Bool, pos, List, [], ◌∷◌, length, Option, Some, None, refl, sym, ap, ◌∙◌, subst, arith}
use Rattle.std.specs.Prelude.{slice_get, slice_index_or, Contains, IsTrue, is_some, ◌↔◌, Vec}
use Rattle.std.specs.declared.alloc.Global.{Global}
use Rattle.std.proofs.lemmas.Bool.{cases_lt}
use Rattle.gq_number.specs.Number.{Number, whole}
use Rattle.lp_core.specs.Dictionary.{IsPriced}
use Rattle.lp_fraction_dict.specs.declared.row.Entry.{Entry}
use Rattle.lp_fraction_dict.specs.Rows.{IsRow, number_in}
use Rattle.lp_fraction_dict.specs.Lines.{entries_of_rows, line}
use Rattle.lp_fraction_dict.specs.Tableau.{FractionTableau, fraction_dictionary, IsTableau, IsPlace}
use Rattle.lp_fraction_dict.proofs.Rows.{number_above}

-- ---- places in lists

pub get_within : {X : Type 0} (xs : List X) (k : ℕ) (x : X) → slice_get xs k ≡ Some x → k < length xs
get_within [] k x is = absurd (cc)
get_within (y ∷ xs) zero x is = omega arith
get_within (y ∷ xs) (suc k) x is = let rest = get_within xs k x is in omega arith

pub get_index : {X : Type 0} (xs : List X) (k : ℕ) (x d : X) → slice_get xs k ≡ Some x → slice_index_or xs k d ≡ x
get_index [] k x d is = absurd (cc)
get_index (y ∷ xs) zero x d is = cc
get_index (y ∷ xs) (suc k) x d is = get_index xs k x d is

pub index_get : {X : Type 0} (xs : List X) (k : ℕ) (x d : X) → k < length xs → slice_index_or xs k d ≡ x → slice_get xs k ≡ Some x
index_get [] k x d less is = absurd (omega arith)
index_get (y ∷ xs) zero x d less is = cc
index_get (y ∷ xs) (suc k) x d less is = index_get xs k x d (omega arith) is

pub index_default : {X : Type 0} (xs : List X) (k : ℕ) (d e : X) → k < length xs → slice_index_or xs k d ≡ slice_index_or xs k e
index_default [] k d e less = absurd (omega arith)
index_default (y ∷ xs) zero d e less = refl
index_default (y ∷ xs) (suc k) d e less = index_default xs k d e (omega arith)

pub index_past : {X : Type 0} (xs : List X) (k : ℕ) (d : X) → length xs ≤ k → slice_index_or xs k d ≡ d
index_past [] k d more = refl
index_past (y ∷ xs) zero d more = absurd (omega arith)
index_past (y ∷ xs) (suc k) d more = index_past xs k d (omega arith)

pub contains_get : (xs : List ℕ) (k v : ℕ) → slice_get xs k ≡ Some v → Contains xs v
contains_get xs k v is = (k, get_within xs k v is, get_index xs k v v is)

-- ---- basic variables

pub place_tells : (basic : List ℕ) (v : ℕ) (r : Option ℕ) (b : Bool) → IsPlace basic v r → b ≡ is_some r → IsTrue b ↔ Contains basic v
place_tells basic v (Some k) b place is = (λ t. contains_get basic k v place, λ h. is)
place_tells basic v None b place is = (λ t. absurd (cc), λ h. absurd (place h))

-- ---- numbers of rows

pub length-rows : {F : Type 0} (rows : List (Vec (Entry F) Global)) → length (entries_of_rows rows) ≡ length rows
length-rows [] = refl
length-rows (row ∷ rows) = ap suc (length-rows rows)

module _ {F : Type 0} (value : F → Number) (t : FractionTableau F) (inv : IsTableau value t) where
  place_in_rows : (k v : ℕ) → slice_get t.basic k ≡ Some v → k < length t.rows
  place_in_rows k v is = let within = get_within t.basic k v is in let same = inv.paired in omega arith

  pub read_basic : (rows : List (List (Entry F))) (place v c : ℕ) (x : Number) → rows ≡ t.rows → slice_get t.basic place ≡ Some v → x ≡ number_in value (slice_index_or rows place []) c → (k : ℕ) → slice_get t.basic k ≡ Some v → x ≡ number_in value (slice_index_or t.rows k t.objective) c
  read_basic rows place v c x rows_are at is k there =
      let same : place ≡ k = inv.proper.distinct place k v at there in
      is ∙ ap (λ rs. number_in value (slice_index_or rs place []) c) rows_are
      ∙ ap (λ r. number_in value r c) (index_default t.rows place [] t.objective (place_in_rows place v at))
      ∙ ap (λ i. number_in value (slice_index_or t.rows i t.objective) c) same

  pub read_within : (rows : List (List (Entry F))) (place : ℕ) → rows ≡ t.rows → (high : ℕ) × IsRow value 0 high (slice_index_or rows place [])
  read_within rows place rows_are = (t.variables + 2, subst (λ rs. IsRow value 0 (t.variables + 2) (slice_index_or rs place [])) (sym rows_are) (inv.rows place))

  pub place_within : (rows : List (Vec (Entry F) Global)) (place v : ℕ) → entries_of_rows rows ≡ t.rows → slice_get t.basic place ≡ Some v → place < length rows
  place_within rows place v rows_are at =
      let within = place_in_rows place v at in
      let same : length (entries_of_rows rows) ≡ length t.rows = ap length rows_are in
      let mapped : length (entries_of_rows rows) ≡ length rows = length-rows rows in
      omega arith

  pub not_there : (k v : ℕ) → slice_get t.basic k ≡ Some v → ¬ (Contains t.basic v) → ⊥
  not_there k v is none = none (contains_get t.basic k v is)

  -- a number that is no variable has 0 in each row and in the objective
  pub read_past : (k v : ℕ) → t.variables < v → number_in value (slice_index_or t.rows k t.objective) (v + 1) ≡ whole (pos 0)
  read_past k v past =
      elim (cases_lt k (length t.rows)) [
        | inl less ↦ ap (λ r. number_in value r (v + 1)) (index_default t.rows k t.objective [] less) ∙ number_above value (slice_index_or t.rows k []) 0 (t.variables + 2) (v + 1) (inv.rows k) (omega arith)
        | inr more ↦ ap (λ r. number_in value r (v + 1)) (index_past t.rows k t.objective more) ∙ number_above value t.objective 0 (t.variables + 2) (v + 1) inv.objective (omega arith)
      ]

  -- the row by which pivots are chosen
  pub read_priced_row : (rows : List (List (Entry F))) (place c : ℕ) (x : Number) → rows ≡ t.rows → slice_get t.basic place ≡ Some 0 → x ≡ number_in value (slice_index_or rows place []) c → (k : ℕ) → IsPriced (fraction_dictionary value t) k → x ≡ number_in value (slice_index_or t.rows k t.objective) c
  read_priced_row rows place c x rows_are at is k priced =
      elim priced [
        | inl there ↦ read_basic rows place 0 c x rows_are at is k there
        | inr past ↦ absurd (past.0 (contains_get t.basic place 0 at))
      ]

  pub read_priced_objective : (objective : List (Entry F)) (c : ℕ) (x : Number) → objective ≡ t.objective → ¬ (Contains t.basic 0) → x ≡ number_in value objective c → (k : ℕ) → IsPriced (fraction_dictionary value t) k → x ≡ number_in value (slice_index_or t.rows k t.objective) c
  read_priced_objective objective c x objective_is none is k priced =
      elim priced [
        | inl there ↦ absurd (none (contains_get t.basic k 0 there))
        | inr past ↦ let same = inv.paired in is ∙ ap (λ r. number_in value r c) (objective_is ∙ sym (index_past t.rows k t.objective (let at = past.1 in omega arith)))
      ]

  -- the lines of the places
  pub objective_after : line t.rows t.objective (length t.basic) ≡ t.objective
  objective_after = let same = inv.paired in index_past t.rows (length t.basic) t.objective (omega arith)

  pub place_at_row : (rows : List (Vec (Entry F) Global)) (row : Vec (Entry F) Global) (place v : ℕ) → entries_of_rows rows ≡ t.rows → slice_get t.basic place ≡ Some v → row ≡ slice_index_or rows place row → row.items ≡ line t.rows t.objective place
  place_at_row rows row place v rows_are at is =
      items_at rows row place (place_within rows place v rows_are at) is t.objective ∙ ap (λ rs. line rs t.objective place) rows_are
    where
      items_at : (rows : List (Vec (Entry F) Global)) (row : Vec (Entry F) Global) (k : ℕ) → k < length rows → row ≡ slice_index_or rows k row → (o : List (Entry F)) → row.items ≡ slice_index_or (entries_of_rows rows) k o
      items_at [] row k less is o = absurd (omega arith)
      items_at (r ∷ rows) row zero less is o = ap (λ (v : Vec (Entry F) Global). v.items) is
      items_at (r ∷ rows) row (suc k) less is o = items_at rows row k (omega arith) is o

  pub some_rows : (rows : List (List (Entry F))) → rows ≡ t.rows → (high : ℕ) × ((k : ℕ) → IsRow value 0 high (slice_index_or rows k []))
  some_rows rows are = (t.variables + 2, λ k. subst (λ rs. IsRow value 0 (t.variables + 2) (slice_index_or rs k [])) (sym are) (inv.rows k))
