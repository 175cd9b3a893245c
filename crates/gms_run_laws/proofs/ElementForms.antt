-- The elements in the forms and rows of the definitions of an accepted program are elements of the
-- state: those of forms are of variables, those of rows of equations.
use Rattle.std.proofs.Common.{◌≡◌, ℕ, suc, pos, Bool, true, false, if◌then◌else◌, List, [], ◌∷◌, ◌++◌, length, map, Option, Some, None, option_map, Ok, Err, refl, sym, ap, ◌∙◌}
use Rattle.std.specs.Prelude.{nat_le, ◌==◌}
use Rattle.std.proofs.lemmas.Bool.{eq-eqb, and_from}
use Rattle.gq_number.specs.Number.{Number, whole, neg_ℚ}
use Rattle.gms_labels.specs.declared.place.Place.{Place}
use Rattle.gms_ast.specs.declared.expression.Suffix.TheVariants as suffix
use Rattle.gms_ast.specs.Trees.{Tree, signed}
use Rattle.gms_ast.specs.Trees as tree
use Rattle.gms_store.specs.State.{State, symbol_at}
use Rattle.gms_scope.specs.Names.{is_equation, has_no_declaration, declared_kind, positions}
use Rattle.gms_check.specs.declared.contexts.Context.{Context}
use Rattle.gms_check.specs.Domains.{index_count}
use Rattle.gms_check.specs.Kinds.{is_variable_kind}
use Rattle.gms_check.specs.Past.{Known}
use Rattle.gms_check.specs.Contexts.{as_condition, as_part, as_inner, as_guarded}
use Rattle.gms_check.specs.Uses.{reading, defining, steps, uses, part_uses, control_uses, place_by_mark as use_place, sets_of_control as sets_over}
use Rattle.gms_check.proofs.NoErrors.{AreClean, IsClean, clean-left, clean-right}
use Rattle.gms_check.proofs.Soundness.{sound-use}
use Rattle.gms_eval.specs.Bindings.{Pairs, controlled}
use Rattle.gms_eval.specs.Faults.{Answer, ◌and_then◌}
use Rattle.gms_eval.specs.Nodes.{unmarked, sum_step, product_step, in_order, each_holds}
use Rattle.gms_eval.specs.References.{all_there, tuple_of}
use Rattle.gms_eval.specs.Value.{values, labels, domain, sets_of}
use Rattle.lp_form.specs.declared.key.Key.{Key}
use Rattle.gms_rows.specs.Affine.{has_variables, is_variable_content, values_first, part_place, joined_forms, plus, times, element_form, form_of_constant, linear, forms, affine}
use Rattle.gms_rows.specs.Forms.{Form, zero_form, scaled_form, sum_of_forms}
use Rattle.gms_rows.specs.Rows.{Definition, sense_of, row_form}
use Rattle.gms_run_laws.proofs.FormKeys.{OkHas, EachHas, then-has, after-has, either-has, IsKeyed, IsElement as IsPassing, PartHas, constant-keyed, element-keyed, sum-keyed, scaled-keyed, plus-keyed, times-keyed, joined-keyed, chained-keyed, constant_at-keyed}
use Rattle.gms_run_laws.proofs.DeclaredKinds.{has_elements, variable-elements, equation-elements, variable-word, is-element, same-positions, of_variable, IsOfEquation}
use Rattle.gms_run_laws.proofs.KeyedRows.{MayHaveKeys, HasRows}
use Rattle.gms_run_laws.proofs.Labelled.{labels-count}

-- what holds of what an answer has, of which more is known
known-has : {A B : Type 0} (Q : B → Type 0) (a : Answer A) (next : A → Answer B) → ((x : A) → a ≡ Ok x → OkHas Q (next x)) → OkHas Q (a and_then next)
known-has Q (Ok x) next each = each x refl
known-has Q (Err fault) next each = tt

either-known : {A : Type 0} (P : A → Type 0) (b : Bool) (x y : A) → (b ≡ true → P x) → P y → P (if b then x else y)
either-known P true x y p q = p refl
either-known P false x y p q = q

-- a property of all images holds of each image
map-has : {A B : Type 0} (P : B → Type 0) (f : A → B) → ((x : A) → P (f x)) → (xs : List A) → EachHas P (map f xs)
map-has P f each [] = tt
map-has P f each (x ∷ xs) = (each x, map-has P f each xs)

-- a tuple has as many labels as there are indices
there-length : (those : List (Option ℕ)) (t : List ℕ) → all_there those ≡ Some t → length t ≡ length those
there-length [] [] e = refl
there-length [] (l ∷ t) e = absurd (cc)
there-length (None ∷ those) t e = absurd (cc)
there-length (Some label ∷ those) t e = by (there-length those) (all_there those) refl t e
  where
    by : ((t : List ℕ) → all_there those ≡ Some t → length t ≡ length those) → (o : Option (List ℕ)) → all_there those ≡ o → (t : List ℕ) → option_map (λ rest. label ∷ rest) o ≡ Some t → length t ≡ suc (length those)
    by same None q t e = absurd (cc)
    by same (Some rest) q t e = let is : label ∷ rest ≡ t = cc in sym (ap length is) ∙ ap suc (same rest q)

tuple-length : (those : List (Option ℕ)) (t : List ℕ) → tuple_of those ≡ Some t → length t ≡ length those
tuple-length those t e = by (nat_le (length those) 10) e
  where
    by : (b : Bool) → (if b then all_there those else None) ≡ Some t → length t ≡ length those
    by true e = there-length those t e
    by false e = absurd (cc)

module _ {F : Type 0} (v : F → Number) (limit : ℕ) (known : Known F) (state : State) (kinds : (n : ℕ) → has_no_declaration known.state n ≡ false → declared_kind state n ≡ declared_kind known.state n) (domains : (n : ℕ) → has_no_declaration known.state n ≡ false → (symbol_at state n).domain ≡ (symbol_at known.state n).domain) where
  abbrev Column : Key → Bool
  Column = of_variable state

  abbrev Row : Key → Type 0
  Row = IsOfEquation state

  abbrev Keyed : Form → Type 0
  Keyed = IsKeyed Column

  -- as many labels as a name had positions where it is declared are as many as it has
  as-long : (name : ℕ) (t : List ℕ) → has_no_declaration known.state name ≡ false → has_elements (declared_kind state name) ≡ true → length t ≡ length (positions known.state name) → length t ≡ length (symbol_at state name).domain
  as-long name t declared has long = long ∙ same-positions state known.state name has (kinds name declared) (domains name declared)

  column : (name : ℕ) (t : List ℕ) → has_no_declaration known.state name ≡ false → is_variable_content (symbol_at state name).content ≡ true → length t ≡ length (positions known.state name) → Column (record { symbol = name; tuple = t }) ≡ true
  column name t declared variable long =
      let is : is_variable_kind (declared_kind state name) ≡ true = sym (variable-word (symbol_at state name).content) ∙ variable in
      and_from (is_variable_kind (declared_kind state name)) (length t == length (symbol_at state name).domain) is
      (eq-eqb (length t) (length (symbol_at state name).domain) (as-long name t declared (variable-elements (declared_kind state name) is) long))

  passing : (name : ℕ) (o : Option (List ℕ)) → ((t : List ℕ) → o ≡ Some t → Column (record { symbol = name; tuple = t }) ≡ true) → IsPassing Column name o
  passing name None is = tt
  passing name (Some t) is = is t refl

  -- ---- forms

  mutual
    linear-elements : (e : Tree F) → has_variables state e ≡ true → (context : Context) (near : Place) (around : List ℕ) → AreClean known (uses context near around e) → (at : Place) (binding : Pairs) → OkHas Keyed (linear v limit state at binding e)
    linear-elements (tree.reference place name suffix.None indices) has context near around clean at binding =
        let sound = sound-use known (reading context around name suffix.None indices) clean.0 in
        known-has Keyed (in_order (labels v limit state binding indices)) (λ those. Ok (element_form name (tuple_of those)))
        (λ those e. element-keyed Column name (tuple_of those) (passing name (tuple_of those) (λ t there. column name t sound.declared has (tuple-length those t there ∙ labels-count v limit state binding indices those e ∙ sound.fitting.count))))
    linear-elements (tree.fold_over place op control body) has context near around clean at binding =
        let inside = clean-right known (control_uses place around control) (uses (as_inner context) place (around ++ sets_over control) body) clean.1 in
        after-has Keyed (domain v limit state binding place control) (λ elements. joined_forms (plus limit binding) (Some zero_form) (map (λ element. (signed place false, linear v limit state place (controlled binding (sets_of control) element) body)) elements))
        (λ elements. joined-keyed Column (plus limit binding) (plus-keyed Column limit binding) (Some zero_form) (map (λ element. (signed place false, linear v limit state place (controlled binding (sets_of control) element) body)) elements) (constant-keyed Column (whole (pos 0)))
        (map-has (PartHas Column) (λ element. (signed place false, linear v limit state place (controlled binding (sets_of control) element) body)) (λ element. linear-elements body has (as_inner context) place (around ++ sets_over control) inside place (controlled binding (sets_of control) element)) elements))
    linear-elements (tree.negated operand) has context near around clean at binding =
        then-has Keyed Keyed (linear v limit state at binding operand) (λ form. scaled_form limit at binding false form (neg_ℚ (whole (pos 1)))) (linear-elements operand has (as_part context) near around clean at binding) (λ form keyed. scaled-keyed Column limit at binding false form (neg_ℚ (whole (pos 1))) keyed)
    linear-elements (tree.sum parts) has context near around clean at binding =
        chained-keyed Column binding (sum_step limit binding) (plus limit binding) (plus-keyed Column limit binding) (values_first state parts) (values v limit state binding parts) (forms v limit state binding parts) (forms-elements parts (as_part context) near around clean binding)
    linear-elements (tree.product parts) has context near around clean at binding =
        let there = clean-left known (part_uses (as_part context) near around parts) (steps context near parts) clean in
        chained-keyed Column binding (product_step limit binding) (times limit binding) (times-keyed Column limit binding) (values_first state parts) (values v limit state binding parts) (forms v limit state binding parts) (forms-elements parts (as_part context) near around there binding)
    linear-elements (tree.guarded operand guards) has context near around clean at binding =
        let inside = clean-left known (uses (as_guarded context) near around operand) (part_uses as_condition near around guards) clean in
        after-has Keyed (each_holds (unmarked (values v limit state binding guards))) (λ hold. if hold then linear v limit state at binding operand else Ok zero_form)
        (λ hold. either-has (OkHas Keyed) hold (linear v limit state at binding operand) (Ok zero_form) (linear-elements operand has (as_guarded context) near around inside at binding) (constant-keyed Column (whole (pos 0))))
    linear-elements other has context near around clean at binding = absurd (cc)

    forms-elements : (parts : tree.Parts F) (context : Context) (near : Place) (around : List ℕ) → AreClean known (part_uses context near around parts) → (binding : Pairs) → EachHas (PartHas Column) (forms v limit state binding parts)
    forms-elements tree.no_part context near around clean binding = tt
    forms-elements (tree.part mark e rest) context near around clean binding = (
      either-known (OkHas Keyed) (has_variables state e) (linear v limit state (part_place mark) binding e) (form_of_constant v limit state (part_place mark) binding e)
          (λ has. linear-elements e has context (use_place mark near) around (clean-left known (uses context (use_place mark near) around e) (part_uses context near around rest) clean) (part_place mark) binding)
          (constant_at-keyed Column v limit state (part_place mark) binding e),
      forms-elements rest context near around (clean-right known (uses context (use_place mark near) around e) (part_uses context near around rest) clean) binding,
    )

  affine-elements : (e : Tree F) (context : Context) (near : Place) (around : List ℕ) → AreClean known (uses context near around e) → (at : Place) (binding : Pairs) → OkHas Keyed (affine v limit state at binding e)
  affine-elements e context near around clean at binding =
      either-known (OkHas Keyed) (has_variables state e) (linear v limit state at binding e) (form_of_constant v limit state at binding e)
      (λ has. linear-elements e has context near around clean at binding) (constant_at-keyed Column v limit state at binding e)

  -- ---- rows

  module _ (d : Definition F) (left_context right_context : Context) (around : List ℕ) (defined : IsClean known (defining d.equation d.indices)) (left : AreClean known (uses left_context d.left_at around d.left)) (right : AreClean known (uses right_context d.right_at around d.right)) where
    form-elements : (binding : Pairs) → OkHas Keyed (row_form v limit state d binding)
    form-elements binding =
        then-has Keyed Keyed (affine v limit state d.left_at binding d.left) (λ one. affine v limit state d.right_at binding d.right and_then λ other. sum_of_forms limit d.right_at binding true one other) (affine-elements d.left left_context d.left_at around left d.left_at binding)
        (λ one has. then-has Keyed Keyed (affine v limit state d.right_at binding d.right) (λ other. sum_of_forms limit d.right_at binding true one other) (affine-elements d.right right_context d.right_at around right d.right_at binding) (λ other too. sum-keyed Column limit d.right_at binding true one other has too))

    row : (t : List ℕ) → length t ≡ index_count d.indices → Row (record { symbol = d.equation; tuple = t })
    row t long =
        let sound = sound-use known (defining d.equation d.indices) defined in
        let is = ap is_equation (kinds d.equation sound.0) ∙ sound.1 in
        (is-element state (record { symbol = d.equation; tuple = t }) (equation-elements (declared_kind state d.equation) is) (as-long d.equation t sound.0 (equation-elements (declared_kind state d.equation) is) (long ∙ sound.2.count)), is)

    pub row-elements : HasRows Column Row v limit state d
    row-elements binding =
        known-has (MayHaveKeys Column Row) (in_order (labels v limit state binding d.indices)) (λ those. elim (tuple_of those) [
          | None ↦ Ok None
          | Some t ↦ row_form v limit state d binding and_then λ form. Ok (Some (record { key = record { symbol = d.equation; tuple = t }; sense = sense_of d.side; form = form }))
        ]) (λ those e. by (tuple_of those) (λ t there. row t (tuple-length those t there ∙ labels-count v limit state binding d.indices those e)))
      where
        by : (o : Option (List ℕ)) → ((t : List ℕ) → o ≡ Some t → Row (record { symbol = d.equation; tuple = t })) → OkHas (MayHaveKeys Column Row) (elim o [
          | None ↦ Ok None
          | Some t ↦ row_form v limit state d binding and_then λ form. Ok (Some (record { key = record { symbol = d.equation; tuple = t }; sense = sense_of d.side; form = form }))
        ])
        by None is = tt
        by (Some t) is =
            then-has Keyed (MayHaveKeys Column Row) (row_form v limit state d binding) (λ form. Ok (Some (record { key = record { symbol = d.equation; tuple = t }; sense = sense_of d.side; form = form }))) (form-elements binding) (λ form keyed. (is t refl, keyed))
