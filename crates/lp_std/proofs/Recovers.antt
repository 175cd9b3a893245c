-- The recovery put together: its steps in order, and the sizes of what is read.
use Rattle.std.proofs.Common.{◌≡◌, ℕ, ◌+◌, ◌^◌, ◌<◌, ◌≤◌, Bool, pos, List, [], ◌∷◌, ◌++◌, length, map, drop, None, sym, ap, ap₂, ◌∙◌, subst, arith}
use Rattle.std.specs.Prelude.{flat_map, Result, Vec}
use Rattle.std.specs.declared.alloc.Global.{Global}
use Rattle.std.specs.List.{All, AllPairs, enumerate_from}
use Rattle.std.proofs.lemmas.List.{length-map, get_or-drop, drop-map}
use Rattle.std.proofs.lemmas.List.Elements.{All-head, All-tail, All-weaker}
use Rattle.gq_number.specs.Number.{Number, whole, neg_ℚ}
use Rattle.lp_core.specs.declared.program.Column.{Column}
use Rattle.lp_core.specs.declared.program.Row.{Row}
use Rattle.lp_core.specs.declared.program.Lp.{Lp}
use Rattle.lp_core.specs.Sums.{value_of_column, row_sum}
use Rattle.lp_core.specs.WellFormed.{AreRowEntries, IsWellFormed}
use Rattle.lp_core.specs.Proofs.{row_sums}
use Rattle.lp_core.specs.StandardForm as form
use Rattle.lp_core.specs.Steps.{ExpectedStep, level_step, row_level_steps, dual_steps, reduced_steps, levels_steps, row_levels_steps, count_of_rows}
use Rattle.lp_core.proofs.Points.{AllPairs-first, AllPairs-rest, entries_within}
use Rattle.lp_std.specs.declared.types.Shift.{Shift}
use Rattle.lp_std.specs.declared.types.Final.{Final}
use Rattle.lp_std.specs.declared.stop.Stop.{Stop}
use Rattle.lp_std.specs.Meaning.{shift_value}
use Rattle.lp_std.specs.InnerSteps.{first_stop, StopsAt, placed_value, slack_multiplier, ComputesAll, IsSized}
use Rattle.lp_std.specs.Last.{last_value}
use Rattle.lp_std.proofs.Stops.{stop_after}
use Rattle.lp_std.proofs.RowSteps.{stops_on, stops_in_prefix}
use Rattle.lp_std.proofs.Shapes.{columns_few, placed_sized, placed_numbers}

-- ---- sizes

ascending_few : {F : Type 0} (low n : ℕ) (entries : List (ℕ × F)) → AllPairs (λ (a b : ℕ × F). a.0 < b.0) entries → All (λ (e : ℕ × F). (low ≤ e.0) × (e.0 < n)) entries → low ≤ n → low + length entries ≤ n
ascending_few low n [] ascending there h = omega arith
ascending_few {F} low n (e ∷ entries) ascending there h =
    let here = All-head (λ (e : ℕ × F). (low ≤ e.0) × (e.0 < n)) e entries there in
    let following = AllPairs-first (λ (a b : ℕ × F). a.0 < b.0) e entries ascending in
    let rest = All-tail (λ (e : ℕ × F). (low ≤ e.0) × (e.0 < n)) e entries there in
    let few = ascending_few (e.0 + 1) n entries (AllPairs-rest (λ (a b : ℕ × F). a.0 < b.0) e entries ascending) (λ k d less. (omega (arith, following k d less), (rest k d less).1)) (omega (arith, here.1)) in
    omega (arith, few, here.0)

module _ {F : Type 0} (value : F → Number) (lp : Lp F) (formed : IsWellFormed value lp) where
  pub entries_few : All (λ (row : Row F). length row.entries < 2 ^ 32) lp.rows
  entries_few =
      All-weaker (λ (row : Row F). AreRowEntries value (length lp.columns) row.entries) (λ (row : Row F). length row.entries < 2 ^ 32)
      (λ row entries. let few = ascending_few 0 (length lp.columns) row.entries entries.ascending (λ k d less. (omega arith, entries.there k d less)) (omega arith) in omega (arith, few, columns_few value lp formed)) lp.rows formed.entries

  module _ (columns : List (ℕ × Shift F)) (numbered : placed_value value columns ≡ form.columns_of value lp) (n : ℕ) (sized : IsSized value lp n) where
    -- the variables of columns are among those that were read
    pub widths_within : All (λ (p : ℕ × Shift F). p.0 + form.width (shift_value value p.1) ≤ n) columns
    widths_within =
        All-weaker (λ (p : ℕ × Shift F). (1 ≤ p.0) × (p.0 + form.width (shift_value value p.1) ≤ 1 + form.variables_of value lp)) (λ (p : ℕ × Shift F). p.0 + form.width (shift_value value p.1) ≤ n) (λ p h. omega (arith, h.1, sized)) columns (placed_numbers value lp columns numbered)

    width_above : (s : form.Shift) → 1 ≤ form.width s
    width_above (form.from_lower b) = omega arith
    width_above (form.from_upper b) = omega arith
    width_above form.free = omega arith

    pub numbers_within : All (λ (p : ℕ × Shift F). p.0 < n) columns
    numbers_within =
        All-weaker (λ (p : ℕ × Shift F). (1 ≤ p.0) × (p.0 + form.width (shift_value value p.1) ≤ 1 + form.variables_of value lp)) (λ (p : ℕ × Shift F). p.0 < n) (λ p h. omega (arith, h.1, sized, width_above (shift_value value p.1))) columns (placed_numbers value lp columns numbered)

-- ---- the point

module _ {F : Type 0} (value : F → Number) (limit : ℕ) (lp : Lp F) (columns : List (ℕ × Shift F)) (numbered : placed_value value columns ≡ form.columns_of value lp) (final : Final F) (values : List F) (values_are : values ≡ final.values) where
  abbrev pub level_dues : List ExpectedStep
  level_dues = map (λ (p : ℕ × (ℕ × form.Shift)). level_step limit p.0 p.1 (map value values)) (enumerate_from 0 (placed_value value columns))

  level_dues_are : level_dues ≡ levels_steps value limit lp (last_value value final)
  level_dues_are = ap₂ (λ vs cs. map (λ (p : ℕ × (ℕ × form.Shift)). level_step limit p.0 p.1 (map value vs)) (enumerate_from 0 cs)) values_are numbered

  pub levels_stopped : (s : Stop) → StopsAt (map (λ (p : ℕ × (ℕ × form.Shift)). level_step limit p.0 p.1 (map value values)) (enumerate_from 0 (placed_value value columns))) s → StopsAt (levels_steps value limit lp (last_value value final) ++ row_levels_steps value limit lp (last_value value final)) s
  levels_stopped s h =
      stops_in_prefix (levels_steps value limit lp (last_value value final)) (row_levels_steps value limit lp (last_value value final)) s (subst (λ steps. StopsAt steps s) level_dues_are h)

  module _ (levels : List F) (fit : first_stop (map (λ (p : ℕ × (ℕ × form.Shift)). level_step limit p.0 p.1 (map value values)) (enumerate_from 0 (placed_value value columns))) ≡ None) (are : map value levels ≡ map (λ (c : ℕ × form.Shift). form.shifted_back c (map value values)) (placed_value value columns)) where
    pub levels_are : map value levels ≡ form.levels_back value lp (last_value value final)
    levels_are = are ∙ ap₂ (λ vs cs. map (λ (c : ℕ × form.Shift). form.shifted_back c (map value vs)) cs) values_are numbered

    pub levels_sized : length levels ≡ length columns
    levels_sized =
        sym (length-map levels value) ∙ ap length are ∙ length-map (placed_value value columns) (λ (c : ℕ × form.Shift). form.shifted_back c (map value values)) ∙ length-map columns (λ (p : ℕ × Shift F). (p.0, shift_value value p.1))

    module _ (given : List F) (given_is : given ≡ levels) (rows : List (Row F)) (rows_are : rows ≡ lp.rows) where
      pub entries_there : IsWellFormed value lp → All (λ (row : Row F). All (λ (e : ℕ × F). e.0 < length given) row.entries) rows
      entries_there formed =
          subst (λ rs. All (λ (row : Row F). All (λ (e : ℕ × F). e.0 < length given) row.entries) rs) (sym rows_are) (entries_within value lp (length given) formed (ap length given_is ∙ levels_sized ∙ placed_sized value lp columns numbered))

      abbrev row_dues : List ExpectedStep
      row_dues = flat_map (λ (p : ℕ × Row F). row_level_steps value limit p.0 0 (whole (pos 0)) p.1.entries (map value given)) (enumerate_from 0 rows)

      row_dues_are : row_dues ≡ row_levels_steps value limit lp (last_value value final)
      row_dues_are =
          ap₂ (λ ls rs. flat_map (λ (p : ℕ × Row F). row_level_steps value limit p.0 0 (whole (pos 0)) p.1.entries ls) (enumerate_from 0 rs)) (ap (map value) given_is ∙ levels_are) rows_are

      whole_stop : first_stop (levels_steps value limit lp (last_value value final) ++ row_levels_steps value limit lp (last_value value final)) ≡ first_stop row_dues
      whole_stop =
          stop_after (levels_steps value limit lp (last_value value final)) (row_levels_steps value limit lp (last_value value final)) (ap first_stop (sym level_dues_are) ∙ fit) ∙ ap first_stop (sym row_dues_are)

      pub rows_stopped : (s : Stop) → StopsAt (flat_map (λ (p : ℕ × Row F). row_level_steps value limit p.0 0 (whole (pos 0)) p.1.entries (map value given)) (enumerate_from 0 rows)) s → StopsAt (levels_steps value limit lp (last_value value final) ++ row_levels_steps value limit lp (last_value value final)) s
      rows_stopped s h = stops_on (levels_steps value limit lp (last_value value final) ++ row_levels_steps value limit lp (last_value value final)) row_dues s whole_stop h

      pub point_fits : first_stop (flat_map (λ (p : ℕ × Row F). row_level_steps value limit p.0 0 (whole (pos 0)) p.1.entries (map value given)) (enumerate_from 0 rows)) ≡ None → first_stop (levels_steps value limit lp (last_value value final) ++ row_levels_steps value limit lp (last_value value final)) ≡ None
      point_fits h = whole_stop ∙ h

      pub sums_are : (sums : List F) → map value sums ≡ map (λ (row : Row F). row_sum value row.entries (map value given)) rows → map value sums ≡ row_sums value lp (form.levels_back value lp (last_value value final))
      sums_are sums h = h ∙ ap₂ (λ ls rs. map (λ (row : Row F). row_sum value row.entries ls) rs) (ap (map value) given_is ∙ levels_are) rows_are

-- ---- duals and reduced costs

slacks_are : {F : Type 0} (value : F → Number) (n : ℕ) (costs slacks : List F) → slacks ≡ drop (n + 1) costs → slack_multiplier value slacks ≡ form.multiplier n (map value costs)
slacks_are value n costs slacks is =
    λ t r. (ap neg_ℚ (ap (λ xs. value_of_column (map value xs) r) is ∙ ap (λ xs. value_of_column xs r) (sym (drop-map value (n + 1) costs)) ∙ get_or-drop (n + 1) (map value costs) r (whole (pos 0)))) t

pub duals_are : {F : Type 0} (value : F → Number) (limit : ℕ) (b : Bool) (n m : ℕ) (rows all : List (Row F)) (costs given slacks : List F) (r : Result (Vec F Global) Stop) → rows ≡ all → given ≡ costs → slacks ≡ drop (n + 1) given → n ≡ m → ComputesAll value (dual_steps limit (slack_multiplier value slacks) 0 0 rows) (map (form.directed b) (form.duals_from (slack_multiplier value slacks) 0 rows)) r → ComputesAll value (dual_steps limit (form.multiplier m (map value costs)) 0 0 all) (map (form.directed b) (form.duals_from (form.multiplier n (map value costs)) 0 all)) r
duals_are {F} value limit b n m rows all costs given slacks r rows_are given_is is same h =
    let p : slack_multiplier value slacks ≡ form.multiplier n (map value costs) = slacks_are value n given slacks is ∙ ap (λ xs. form.multiplier n (map value xs)) given_is in
    subst (λ k. ComputesAll value (dual_steps limit (form.multiplier k (map value costs)) 0 0 all) (map (form.directed b) (form.duals_from (form.multiplier n (map value costs)) 0 all)) r) same
    (subst (λ rs. ComputesAll value (dual_steps limit (form.multiplier n (map value costs)) 0 0 rs) (map (form.directed b) (form.duals_from (form.multiplier n (map value costs)) 0 rs)) r) rows_are
    (subst (λ q. ComputesAll value (dual_steps limit q 0 0 rows) (map (form.directed b) (form.duals_from q 0 rows)) r) p h))

pub reduced_are_back : {F : Type 0} (value : F → Number) (limit : ℕ) (lp : Lp F) (columns : List (ℕ × Shift F)) (numbered : placed_value value columns ≡ form.columns_of value lp) (n : ℕ) (bounded : List (Column F)) (costs given slacks : List F) (first : ℕ) (r : Result (Vec F Global) Stop) → bounded ≡ lp.columns → given ≡ costs → slacks ≡ drop (n + 1) given → n ≡ form.variables_of value lp → first ≡ count_of_rows lp.rows → ComputesAll value (reduced_steps limit (map value given) (slack_multiplier value slacks) 0 first (placed_value value columns) bounded) (map (form.directed lp.maximize) (form.reduced_from (map value given) (slack_multiplier value slacks) first (placed_value value columns) bounded)) r → ComputesAll value (reduced_steps limit (map value costs) (form.multiplier (form.variables_of value lp) (map value costs)) 0 (count_of_rows lp.rows) (form.columns_of value lp) lp.columns) (map (form.directed lp.maximize) (form.reduced_from (map value costs) (form.multiplier (form.variables_of value lp) (map value costs)) (count_of_rows lp.rows) (form.columns_of value lp) lp.columns)) r
reduced_are_back {F} value limit lp columns numbered n bounded costs given slacks first r bounded_are given_is is same first_is h =
    let p : slack_multiplier value slacks ≡ form.multiplier (form.variables_of value lp) (map value costs) = slacks_are value n given slacks is ∙ ap₂ (λ xs k. form.multiplier k (map value xs)) given_is same in
    subst (λ k. ComputesAll value (reduced_steps limit (map value costs) (form.multiplier (form.variables_of value lp) (map value costs)) 0 k (form.columns_of value lp) lp.columns) (map (form.directed lp.maximize) (form.reduced_from (map value costs) (form.multiplier (form.variables_of value lp) (map value costs)) k (form.columns_of value lp) lp.columns)) r) first_is
    (subst (λ bs. ComputesAll value (reduced_steps limit (map value costs) (form.multiplier (form.variables_of value lp) (map value costs)) 0 first (form.columns_of value lp) bs) (map (form.directed lp.maximize) (form.reduced_from (map value costs) (form.multiplier (form.variables_of value lp) (map value costs)) first (form.columns_of value lp) bs)) r) bounded_are
    (subst (λ cs. ComputesAll value (reduced_steps limit (map value costs) (form.multiplier (form.variables_of value lp) (map value costs)) 0 first cs bounded) (map (form.directed lp.maximize) (form.reduced_from (map value costs) (form.multiplier (form.variables_of value lp) (map value costs)) first cs bounded)) r) numbered
    (subst (λ q. ComputesAll value (reduced_steps limit (map value costs) q 0 first (placed_value value columns) bounded) (map (form.directed lp.maximize) (form.reduced_from (map value costs) q first (placed_value value columns) bounded)) r) p
    (subst (λ xs. ComputesAll value (reduced_steps limit (map value xs) (slack_multiplier value slacks) 0 first (placed_value value columns) bounded) (map (form.directed lp.maximize) (form.reduced_from (map value xs) (slack_multiplier value slacks) first (placed_value value columns) bounded)) r) given_is h))))
