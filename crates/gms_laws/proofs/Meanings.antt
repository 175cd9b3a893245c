-- What an end says is true of the plans that satisfy the equations of its model and the bounds of
-- its columns.
use Rattle.std.proofs.Common.{◌≡◌, ℕ, Bool, true, false, pos, List, [], ◌∷◌, length, map, get_or, Some, None, Ok, refl, sym, ap, ◌∙◌, subst}
use Rattle.std.specs.Prelude.{flat_map}
use Rattle.std.specs.List.{All}
use Rattle.std.proofs.lemmas.List.{length-map}
use Rattle.std.proofs.lemmas.List.Elements.{All-nil, All-cons}
use Rattle.gq_number.specs.Number.{Number, whole, ◌+ℚ◌, ◌-ℚ◌}
use Rattle.gq_number.specs.Order.{◌≤ℚ◌, ◌<ℚ◌}
use Rattle.gq_number.proofs.Linear.{<ℚ_from}
use Rattle.gq_number.proofs.Order
use Rattle.gq_number.proofs.Ring.{ring_ℚ}
use Rattle.gq_number.proofs.Signs.{zero-<ℚ-one}
use Rattle.gms_labels.specs.declared.place.Place.{Place}
use Rattle.gms_ast.specs.declared.program.Stmt.{Stmt}
use Rattle.gms_store.specs.State.{State}
use Rattle.gms_eval.specs.Faults.{◌and_then◌}
use Rattle.gms_eval.specs.Nodes.{in_order}
use Rattle.gms_eval.specs.Value.{domain, control_over}
use Rattle.lp_core.specs.declared.answer.End.{End}
use Rattle.lp_core.specs.declared.answer.End.TheVariants.{Optimal, Infeasible, Unbounded, Interrupted, Refused}
use Rattle.lp_core.specs.declared.program.Column.{Column}
use Rattle.lp_core.specs.declared.program.Lp.{Lp}
use Rattle.lp_core.specs.Feasible.{Feasible}
use Rattle.lp_core.specs.Numbers.{column_numbers, lp_numbers, end_numbers}
use Rattle.lp_core.specs.Proofs.{ProvesOptimal, ProvesUnbounded, further}
use Rattle.lp_core.specs.Sums.{value_of_column}
use Rattle.lp_core.proofs.Duality.{IsPlaced, above-placed, below-placed, none-placed}
use Rattle.lp_core.proofs.Rays.{further_feasible, passes_above, passes_below, none_between}
use Rattle.lp_form.specs.declared.key.Key.{Key}
use Rattle.gms_rows.specs.ElementRows.{sets_of_definition}
use Rattle.gms_rows.specs.ModelPoints.{IsLinearDefinition, KeepsDefinition, column_elements, definitions_of_model}
use Rattle.gms_rows.specs.ProgramLp.{program_lp, program_of, sized_program}
use Rattle.gms_rows.specs.Rows.{Definition, FormRow, rows_of_definition, rows_of_model}
use Rattle.gms_rows.proofs.Domains.{given}
use Rattle.gms_rows.proofs.RowKeys.{sourced}
use Rattle.gms_rows.proofs.RowsAtPoints.{lp-feasible}
use Rattle.gms_laws.specs.Plans.{Plan, Question, IsBetter, IsFeasible, IsOptimal, AreLevels, IsSo}
use Rattle.gms_laws.proofs.Answered.{Proves}
use Rattle.gms_laws.proofs.Carried.{itself, feasible-numbers, feasible-values, placed-values}
use Rattle.gms_laws.proofs.Instances.{IsShort, satisfied-keeps, keeps-satisfied}
use Rattle.gms_laws.proofs.Programs.{IsProgram, column-values, program-known, plan_at, plan-levels}

-- each definition of a program that was made has a domain
domains : {F : Type 0} (v : F → Number) (limit : ℕ) (state : State) (ds : List (Definition F)) (those : List (List FormRow)) → in_order (map (rows_of_definition v limit state) ds) ≡ Ok those →
    All (λ (d : Definition F). (found : List (List ℕ)) × (domain v limit state [] d.at (control_over (sets_of_definition d) d.condition) ≡ Ok found)) ds
domains {F} v limit state [] those e = All-nil (λ (d : Definition F). (found : List (List ℕ)) × (domain v limit state [] d.at (control_over (sets_of_definition d) d.condition) ≡ Ok found))
domains {F} v limit state (d ∷ ds) those e =
    let one = given (rows_of_definition v limit state d) (λ z. in_order (map (rows_of_definition v limit state) ds) and_then λ zs. Ok (z ∷ zs)) those e in
    let two = given (in_order (map (rows_of_definition v limit state) ds)) (λ zs. Ok (one.value ∷ zs)) those one.next_is in
    let source = sourced v limit state d one.value one.is in
    All-cons (λ (d : Definition F). (found : List (List ℕ)) × (domain v limit state [] d.at (control_over (sets_of_definition d) d.condition) ≡ Ok found)) d ds (source.elements, source.domain) (domains v limit state ds two.value two.is)

-- a number above another
one-above : (x : Number) → x <ℚ x +ℚ whole (pos 1)
one-above x = <ℚ_from zero-<ℚ-one (simp ring_ℚ)

one-below : (x : Number) → x -ℚ whole (pos 1) <ℚ x
one-below x = <ℚ_from zero-<ℚ-one (simp ring_ℚ)

module _ {F : Type 0} (v : F → Number) (limit : ℕ) (statements : List (Stmt F)) (state : State) (model objective : ℕ) (maximize : Bool) (at : Place) (lp : Lp Number)
    (short : All (IsShort {F = F}) (definitions_of_model statements model)) (linear : All (IsLinearDefinition state) (definitions_of_model statements model)) (is : program_lp v limit state statements model objective maximize at ≡ Ok lp) where
  abbrev listed : List Key
  listed = column_elements lp

  abbrev question : Question F
  question = record { statements = statements; state = state; model = model; objective = objective; maximize = maximize; listed = listed }

  abbrev goal : Key
  goal = record { symbol = objective; tuple = [] }

  known : IsProgram goal maximize lp
  known = program-known v limit state statements model objective maximize at lp is

  long : length listed ≡ length lp.columns
  long = length-map lp.columns (λ (column : Column Number). column.key)

  -- ---- feasible plans are feasible points

  feasible-point : (plan : Plan) → IsFeasible v limit question plan → Feasible itself lp (map plan listed)
  feasible-point plan feasible =
      let keeps : All (KeepsDefinition v limit state plan) (definitions_of_model statements model) = λ k d below. satisfied-keeps v limit state plan (get_or (definitions_of_model statements model) k d) (feasible.equations k d below) in
      subst (Feasible itself lp) (column-values plan lp.columns) ((lp-feasible v limit state statements model objective maximize at lp plan linear is).0 (keeps, feasible.bounds))

  feasible-plan : (plan : Plan) → Feasible itself lp (map plan listed) → IsFeasible v limit question plan
  feasible-plan plan feasible =
      let ds = definitions_of_model statements model in
      let keeps = (lp-feasible v limit state statements model objective maximize at lp plan linear is).1 (subst (Feasible itself lp) (sym (column-values plan lp.columns)) feasible) in
      let one = given (rows_of_model v limit state statements model) (λ rows. sized_program at (program_of state rows goal maximize)) lp is in
      let two = given (in_order (map (rows_of_definition v limit state) ds)) (λ rows. Ok (flat_map (λ some. some) rows)) one.value one.is in
      let all = domains v limit state ds two.value two.is in
      record {
        equations = λ k d below. keeps-satisfied v limit state plan (get_or ds k d) (short k d below) (all k d below).0 (all k d below).1 (keeps.0 k d below);
        bounds = keeps.1;
      }

  -- ---- the same over a field

  module _ (own : Lp F) (shows : lp_numbers v own ≡ lp) where
    there : (plan : Plan) → IsFeasible v limit question plan → Feasible v own (map plan listed)
    there plan feasible = feasible-values v (map plan listed) own (subst (λ (p : Lp Number). Feasible itself p (map plan listed)) (sym shows) (feasible-point plan feasible))

    back : (plan : Plan) → Feasible v own (map plan listed) → IsFeasible v limit question plan
    back plan feasible = feasible-plan plan (subst (λ (p : Lp Number). Feasible itself p (map plan listed)) shows (feasible-numbers v (map plan listed) own feasible))

    placed : IsPlaced own
    placed = placed-values v own (subst (λ (p : Lp Number). IsPlaced p) (sym shows) known.placed)

    direction : own.maximize ≡ maximize
    direction = ap (λ (p : Lp Number). p.maximize) shows ∙ known.direction

    -- the outcome of a plan is the value of the objective's column
    level : (plan : Plan) → value_of_column (map plan listed) own.objective ≡ plan goal
    level plan = ap (λ (p : Lp Number). value_of_column (map plan listed) p.objective) shows ∙ known.level plan

    level-of : (plan : Plan) (levels : List Number) → map plan listed ≡ levels → value_of_column levels own.objective ≡ plan goal
    level-of plan levels has = ap (λ (x : List Number). value_of_column x own.objective) (sym has) ∙ level plan

    -- as many levels as listed elements
    same-long : length listed ≡ length own.columns
    same-long =
        long ∙ ap (λ (p : Lp Number). length p.columns) (sym shows) ∙ length-map own.columns (column_numbers v)

    -- a feasible point is that of a plan
    plan-of : (x : List Number) → Feasible v own x → map (plan_at listed x) listed ≡ x
    plan-of x feasible = plan-levels listed x known.ordered (feasible.sized ∙ sym same-long)

    feasible-of : (x : List Number) → Feasible v own x → (plan : Plan) → map plan listed ≡ x → IsFeasible v limit question plan
    feasible-of x feasible plan has = back plan (subst (Feasible v own) (sym has) feasible)

    feasible-levels : (x : List Number) → Feasible v own x → AreLevels v limit question (IsFeasible v limit question) x
    feasible-levels x feasible = record { some = (plan_at listed x, plan-of x feasible); each = λ plan has. feasible-of x feasible plan has }

    -- ---- each end

    module _ (levels row_levels duals reduced : List Number) (proves : ProvesOptimal v own levels row_levels duals reduced) where
      none-better : (plan : Plan) → map plan listed ≡ levels → (other : Plan) → IsFeasible v limit question other → (b : Bool) → maximize ≡ b → IsBetter b (other goal) (plan goal) → ⊥
      none-better plan has other feasible true to better =
          let most = above-placed v own duals (map other listed) (value_of_column levels own.objective) placed (there other feasible) (direction ∙ to) proves.bound in
          Order.<ℚ_irrefl (plan goal) (Order.<ℚ-≤ℚ_trans (plan goal) (other goal) (plan goal) better (subst (λ (x : Number). other goal ≤ℚ x) (level-of plan levels has) (subst (λ (x : Number). x ≤ℚ value_of_column levels own.objective) (level other) most)))
      none-better plan has other feasible false to better =
          let least = below-placed v own duals (map other listed) (value_of_column levels own.objective) placed (there other feasible) (direction ∙ to) proves.bound in
          Order.<ℚ_irrefl (other goal) (Order.<ℚ-≤ℚ_trans (other goal) (plan goal) (other goal) better (subst (λ (x : Number). x ≤ℚ other goal) (level-of plan levels has) (subst (λ (x : Number). value_of_column levels own.objective ≤ℚ x) (level other) least)))

      optimal-levels : AreLevels v limit question (IsOptimal v limit question) levels
      optimal-levels = record {
        some = (plan_at listed levels, plan-of levels proves.feasible);
        each = λ plan has. record {
          feasible = feasible-of levels proves.feasible plan has;
          best = λ other feasible better. none-better plan has other feasible maximize refl better;
        };
      }

    module _ (levels row_levels ray : List Number) (proves : ProvesUnbounded v own levels row_levels ray) where
      same-sized : length ray ≡ length levels
      same-sized = proves.along.sized ∙ sym proves.feasible.sized

      passes : (number : Number) (b : Bool) → maximize ≡ b → (plan : Plan) × IsFeasible v limit question plan × IsBetter b (plan goal) number
      passes number true to =
          let far = passes_above v own levels ray (number +ℚ whole (pos 1)) same-sized proves.along (direction ∙ to) in
          let x = further levels far.0 ray in
          let feasible = further_feasible v own levels ray far.0 proves.feasible proves.along far.1 in
          let plan = plan_at listed x in
          (plan, feasible-of x feasible plan (plan-of x feasible), Order.<ℚ-≤ℚ_trans number (number +ℚ whole (pos 1)) (plan goal) (one-above number) (subst (λ (y : Number). number +ℚ whole (pos 1) ≤ℚ y) (level-of plan x (plan-of x feasible)) far.2))
      passes number false to =
          let far = passes_below v own levels ray (number -ℚ whole (pos 1)) same-sized proves.along (direction ∙ to) in
          let x = further levels far.0 ray in
          let feasible = further_feasible v own levels ray far.0 proves.feasible proves.along far.1 in
          let plan = plan_at listed x in
          (plan, feasible-of x feasible plan (plan-of x feasible), Order.≤ℚ-<ℚ_trans (plan goal) (number -ℚ whole (pos 1)) number (subst (λ (y : Number). y ≤ℚ number -ℚ whole (pos 1)) (level-of plan x (plan-of x feasible)) far.2) (one-below number))

    -- What an end proves is what it says.
    pub end-is-so : (end : End F) → Proves v own end → IsSo v limit question (end_numbers v end)
    end-is-so (Optimal levels row_levels duals reduced) proves = optimal-levels (map v levels) (map v row_levels) (map v duals) (map v reduced) proves
    end-is-so (Infeasible duals None) proves =
        λ plan feasible. none-placed v own (map v duals) (map plan listed) proves.above.0 placed proves.above.1 proves.above.2 (there plan feasible)
    end-is-so (Infeasible duals (Some j)) proves = λ plan feasible. none_between v own j (map v duals) (map plan listed) proves (there plan feasible)
    end-is-so (Unbounded levels row_levels ray) proves =
        (feasible-levels (map v levels) proves.feasible, λ number. passes (map v levels) (map v row_levels) (map v ray) proves number maximize refl)
    end-is-so (Interrupted phase levels row_levels) proves = λ two. feasible-levels (map v levels) (proves two)
    end-is-so (Refused step) proves = tt
