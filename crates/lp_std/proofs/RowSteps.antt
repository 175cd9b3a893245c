-- Rows of the standard form, as the code makes them one by one.
use Rattle.std.proofs.Common.{◌≡◌, ℕ, ◌+◌, ◌<◌, List, [], ◌∷◌, ◌++◌, length, map, get_or, drop, Some, None, refl, sym, ap, ap₂, ◌∙◌, subst, append_assoc}
use Rattle.std.proofs.lemmas.List.{length-map, length-append, get_or_default}
use Rattle.std.proofs.lemmas.List.Sums.{sum_by-cons}
use Rattle.std.proofs.lemmas.Option.{slice_get-get_or}
use Rattle.std.specs.Prelude.{slice_get}
use Rattle.std.specs.List.{AllWithin}
use Rattle.std.proofs.lemmas.List.Elements.{AllWithin-more}
use Rattle.gq_number.specs.Number.{Number, neg_ℚ}
use Rattle.lp_core.specs.declared.program.Sense.{Sense}
use Rattle.lp_core.specs.declared.program.Sense.TheVariants as sense
use Rattle.lp_core.specs.declared.program.Row.{Row}
use Rattle.lp_core.specs.StandardForm as form
use Rattle.lp_core.specs.Steps.{ExpectedStep, rows_steps, count_of_rows}
use Rattle.lp_form.proofs.LoopSteps.{drop_item}
use Rattle.lp_std.specs.declared.types.StdRow.{StdRow}
use Rattle.lp_std.specs.declared.types.Origin.TheVariants as origin
use Rattle.lp_std.specs.declared.stop.Stop.{Stop}
use Rattle.lp_std.specs.declared.stop.Stop.TheVariants as stop
use Rattle.lp_std.specs.Meaning.{entries_value, row_value}
use Rattle.lp_std.specs.InnerSteps.{first_stop, StopsAt, sense_steps, rows_over, right_after, spread_entries, shifted_over}
use Rattle.lp_std.proofs.Stops.{stop_after, stop_before}
use Rattle.lp_std.proofs.LoopSteps.{right_sum}

-- an element that is there, as the one that is read
pub slice_get_here : {X : Type 0} (xs : List X) (i : ℕ) (x : X) → i < length xs → x ≡ get_or xs i x → slice_get xs i ≡ Some x
slice_get_here xs i x here is = slice_get-get_or xs i x here ∙ ap Some (sym is)

-- one more that holds
pub within_more : {X : Type 0} (P : X → Type 0) (xs : List X) (i : ℕ) (x : X) → i < length xs → x ≡ get_or xs i x → AllWithin P xs 0 i → P x → AllWithin P xs 0 (i + 1)
within_more P xs i x here is all holds = AllWithin-more P xs 0 i all (λ d. subst P (is ∙ get_or_default xs i x d here) holds)

module _ {F : Type 0} (value : F → Number) where
  negated_map : (entries : List (ℕ × F)) → map {B = ℕ × Number} (λ (e : ℕ × F). (e.0, neg_ℚ (value e.1))) entries ≡ map {B = ℕ × Number} (λ (e : ℕ × Number). (e.0, neg_ℚ e.1)) (entries_value value entries)
  negated_map [] = refl
  negated_map (e ∷ entries) = ap (λ es. (e.0, neg_ℚ (value e.1)) ∷ es) (negated_map entries)

  pub negated_row_is : (row : StdRow F) (i : ℕ) (right : F) (entries : List (ℕ × F)) → value right ≡ neg_ℚ (value row.right) → entries_value value entries ≡ map {B = ℕ × Number} (λ (e : ℕ × F). (e.0, neg_ℚ (value e.1))) row.entries → row_value value (record { right = right; entries = entries; origin = origin.Negated i }) ≡ form.negated_row i (row_value value row)
  negated_row_is row i right entries h k = λ t. record { right = h t; entries = (k ∙ negated_map row.entries) t; origin = form.of_negated i }

  pub shifted_row_is : (columns : List (ℕ × form.Shift)) (i : ℕ) (row : Row F) (right : F) (entries : List (ℕ × F)) → value right ≡ right_after value columns (value row.right) row.entries → entries_value value entries ≡ spread_entries value columns row.entries → row_value value (record { right = right; entries = entries; origin = origin.Row i }) ≡ shifted_over value columns i row
  shifted_row_is columns i row right entries h k = λ t. record { right = (h ∙ right_sum value columns (value row.right) row.entries) t; entries = k t; origin = form.of_row i }

-- what stops in a part stops in the whole, where what came before fits
pub stops_on : (all rest : List ExpectedStep) (s : Stop) → first_stop all ≡ first_stop rest → StopsAt rest s → StopsAt all s
stops_on all rest (stop.Limit step) e h = e ∙ h
stops_on all rest (stop.Crossed j) e h = absurd h
stops_on all rest stop.Memory e h = h

pub stops_in_prefix : (a b : List ExpectedStep) (s : Stop) → StopsAt a s → StopsAt (a ++ b) s
stops_in_prefix a b (stop.Limit step) h = stop_before a b step h
stops_in_prefix a b (stop.Crossed j) h = absurd h
stops_in_prefix a b stop.Memory h = h

pub counted_by_sense : (s : Sense) (i : ℕ) (r : form.StandardRow) → length (form.rows_by_sense s i r) ≡ form.rows_of_sense s
counted_by_sense sense.E i r = refl
counted_by_sense sense.L i r = refl
counted_by_sense sense.G i r = refl
counted_by_sense sense.N i r = refl

module _ {F : Type 0} (value : F → Number) (limit : ℕ) (columns : List (ℕ × form.Shift)) (rows : List (Row F)) (i : ℕ) (row : Row F) (here : i < length rows) (is : row ≡ get_or rows i row) where
  pub rows_stop : (r : ℕ) (s : Stop) → StopsAt (sense_steps value limit columns r row) s → StopsAt (rows_steps value limit columns r (drop i rows)) s
  rows_stop r s h =
      subst (λ xs. StopsAt (rows_steps value limit columns r xs) s) (sym (drop_item rows i row here is)) (stops_in_prefix (sense_steps value limit columns r row) (rows_steps value limit columns (r + form.rows_of_sense row.sense) (drop (i + 1) rows)) s h)

  pub rows_go : (r : ℕ) → first_stop (sense_steps value limit columns r row) ≡ None → first_stop (rows_steps value limit columns r (drop i rows)) ≡ first_stop (rows_steps value limit columns (r + form.rows_of_sense row.sense) (drop (i + 1) rows))
  rows_go r h =
      ap (λ xs. first_stop (rows_steps value limit columns r xs)) (drop_item rows i row here is)
      ∙ stop_after (sense_steps value limit columns r row) (rows_steps value limit columns (r + form.rows_of_sense row.sense) (drop (i + 1) rows)) h

  pub count_here : count_of_rows (drop i rows) ≡ form.rows_of_sense row.sense + count_of_rows (drop (i + 1) rows)
  count_here = ap count_of_rows (drop_item rows i row here is) ∙ sum_by-cons (λ (row : Row F). form.rows_of_sense row.sense) row (drop (i + 1) rows)

  module _ (old new : List (StdRow F)) (h : map (row_value value) new ≡ map (row_value value) old ++ form.rows_by_sense row.sense i (shifted_over value columns i row)) where
    pub new_length : length new ≡ length old + form.rows_of_sense row.sense
    new_length =
        sym (length-map new (row_value value)) ∙ ap length h ∙ length-append (map (row_value value) old) (form.rows_by_sense row.sense i (shifted_over value columns i row))
        ∙ ap₂ (λ a b. a + b) (length-map old (row_value value)) (counted_by_sense row.sense i (shifted_over value columns i row))

    pub rows_made : map (row_value value) new ++ rows_over value columns (i + 1) (drop (i + 1) rows) ≡ map (row_value value) old ++ rows_over value columns i (drop i rows)
    rows_made =
        ap (λ ys. ys ++ rows_over value columns (i + 1) (drop (i + 1) rows)) h
        ∙ append_assoc (map (row_value value) old) (form.rows_by_sense row.sense i (shifted_over value columns i row)) (rows_over value columns (i + 1) (drop (i + 1) rows))
        ∙ sym (ap (λ xs. map (row_value value) old ++ rows_over value columns i xs) (drop_item rows i row here is))
