-- If the form of an expression that is linear in the variables is f, f at a point is the
-- expression's value there.
use Rattle.gms_eval.proofs.Zeros.{zero_from_test}
use Rattle.std.proofs.Common.{◌≡◌, ℕ, ◌+◌, suc, pos, Bool, true, false, not, ◌&&◌, ◌||◌, cond, ◌==◌, if◌then◌else◌, List, [], ◌∷◌, ◌++◌, map, take, drop, length, Option, Some, None, option_map, unwrap_or, Ok, Err, ◌⊎◌, inl, inr, refl, sym, ap, ◌∙◌, arith}
use Rattle.std.specs.Map.{keys_of}
use Rattle.std.specs.FinMap as finite
use Rattle.std.specs.FinMap.Entries.{put}
use Rattle.std.proofs.lemmas.Bool.{both_ways, and_parts, not-true}
use Rattle.gms_labels.specs.declared.place.Place.{Place}
use Rattle.gq_number.specs.Number.{Number, whole, neg_ℚ, ◌+ℚ◌, ◌*ℚ◌, ◌/ℚ◌}
use Rattle.gq_number.specs.Sums.{sum_by_ℚ}
use Rattle.gq_number.proofs.Field.{*ℚ-one}
use Rattle.gq_number.proofs.Ring.{ring_ℚ, *ℚ-neg}
use Rattle.gq_number.proofs.Sums.{sum_by_ℚ-nil, sum_by_ℚ-cons}
use Rattle.gq_extended.specs.Extended.{Extended, number, is_zero, negated}
use Rattle.gq_extended.specs.declared.fault.ExtendedFault.TheVariants as step
use Rattle.gms_ast.specs.declared.expression.FoldOp.{FoldOp}
use Rattle.gms_ast.specs.declared.expression.FoldOp.TheVariants.{Sum}
use Rattle.gms_ast.specs.Trees.{Mark, signed, plain}
use Rattle.gms_ast.specs.Trees as tree
use Rattle.gms_store.specs.State.{State}
use Rattle.gms_eval.specs.Nodes.{Marked, ValueStep, unmarked, chain, sum_step, product_step, in_order, each_holds}
use Rattle.gms_eval.specs.Nodes as nodes
use Rattle.gms_eval.specs.Bindings.{Pairs, controlled}
use Rattle.gms_eval.specs.Faults.{Answer, nothing, faulted, taken, ◌and_then◌}
use Rattle.gms_eval.specs.References.{tuple_of}
use Rattle.gms_eval.specs.Value.{value, values, labels, domain, sets_of}
use Rattle.gms_eval.specs.declared.stop.StopKind.TheVariants.{Divide, EmptyExtreme}
use Rattle.lp_form.specs.declared.key.Key.{Key}
use Rattle.lp_form.specs.Keys.{key_cmp}
use Rattle.lp_form.proofs.KeyOrder.{key_cmp-total, same_key_refl}
use Rattle.gms_rows.specs.Affine.{has_variables, some_has_variables, values_first, form_of, part_place, is_inverse, Join, joined_forms, prefix, chained, plus, times, element_form, form_of_constant, linear, forms, affine}
use Rattle.gms_rows.specs.Forms.{Form, constant_form, zero_form, column_form, number_of_key, is_number, is_not_zero, sum_of_forms, scaled_form, product_of_forms, quotient_of}
use Rattle.gms_rows.specs.Points.{form_at}
use Rattle.gms_rows.specs.PointValues.{exact_sum_step, exact_product_step, exact_fold_step, exact_quotient, element_at, read_at, values_at, value_at, is_signed, is_sum_fold, are_later_factors, are_factors, is_linear, are_linear}
use Rattle.gms_rows.proofs.ColumnKeys.{no_entries}
use Rattle.gms_rows.proofs.Domains.{given, only_value}
use Rattle.gms_rows.proofs.Entries.{not_zero-zero}
use Rattle.gms_rows.proofs.ExactSteps.{sum_step-exact, product_step-exact, chain-following}
use Rattle.gms_rows.proofs.KeyLists.{tied-turned}
use Rattle.gms_rows.proofs.PointSums.{number-at, sum_of-at, product_of-at, quotient_of-at, scaled-at}

-- ---- forms of numbers and of elements

-- a constant is a number
constant-number : (x : Number) → is_number (constant_form x) ≡ true
constant-number x = ap (λ (es : List (Key × Number)). length (keys_of es) == 0) no_entries

one_key : (key : Key) → finite.keys (column_form key).numbers ≡ key ∷ []
one_key key =
    ap keys_of (finite.entries-insert key_cmp-total (finite.empty {X = Number} {R = key_cmp}) key (whole (pos 1)) ∙ ap (put key_cmp key (whole (pos 1))) no_entries)

its_number : (key : Key) → number_of_key (column_form key) key ≡ whole (pos 1)
its_number key =
    ap (λ o. unwrap_or o (whole (pos 0))) (finite.get-insert key_cmp-total (finite.empty {X = Number} {R = key_cmp}) key (whole (pos 1)) key ∙ ap (λ b. cond b (Some (whole (pos 1))) (finite.get (finite.empty {X = Number} {R = key_cmp}) key)) (tied-turned key key ∙ same_key_refl key))

alone : (p : Number) → whole (pos 0) +ℚ (whole (pos 1) *ℚ p +ℚ whole (pos 0)) ≡ p
alone p = simp ring_ℚ

module _ (point : Key → Number) where
  constant-at : (x : Number) → form_at point (constant_form x) ≡ x
  constant-at x = number-at point (constant_form x) (constant-number x)

  column-at : (key : Key) → form_at point (column_form key) ≡ point key
  column-at key =
      let term : Key → Number = λ k. number_of_key (column_form key) k *ℚ point k in
      ap (λ keys. whole (pos 0) +ℚ sum_by_ℚ term keys) (one_key key)
      ∙ ap (λ s. whole (pos 0) +ℚ s) (sum_by_ℚ-cons term key [] ∙ ap (λ s. term key +ℚ s) (sum_by_ℚ-nil term))
      ∙ ap (λ n. whole (pos 0) +ℚ (n *ℚ point key +ℚ whole (pos 0))) (its_number key)
      ∙ alone (point key)

  -- the number that a form is at the point
  abbrev shown : Form → Extended
  shown form = number (form_at point form)

  element-shown : (name : ℕ) (t : Option (List ℕ)) → element_at point name t ≡ shown (element_form name t)
  element-shown name None = ap number (sym (constant-at (whole (pos 0))))
  element-shown name (Some t) = ap number (sym (column-at (record { symbol = name; tuple = t })))

  -- ---- steps

  module _ (limit : ℕ) (b : Pairs) where
    sum-shown : (at : Place) (subtracts : Bool) (left right next : Form) → sum_of_forms limit at b subtracts left right ≡ Ok next → exact_sum_step b (signed at subtracts) (shown left) (Ok (shown right)) ≡ Ok (shown next)
    sum-shown at true left right next e =
        ap {B = Answer Extended} (λ x. Ok (number x)) (sym (sum_of-at point left right limit at b true next e))
    sum-shown at false left right next e =
        ap {B = Answer Extended} (λ x. Ok (number x)) (sym (sum_of-at point left right limit at b false next e))

    -- what is divided by is not 0
    over-some : (at : Place) (left next : Form) (x : Number) → quotient_of limit at b left x ≡ Ok next → is_zero x ≡ false
    over-some at left next x e = by (is_not_zero x) refl (is_zero x) refl e
      where
        by : (so : Bool) → is_not_zero x ≡ so → (none : Bool) → is_zero x ≡ none → (if so then scaled_form limit at b true left x else Err (faulted Divide at b (number left.constant) (number x))) ≡ Ok next → none ≡ false
        by so some false none e = refl
        by true some true none e =
            absurd (both_ways (is_not_zero x) (ap is_not_zero (zero_from_test x none) ∙ not_zero-zero) some)
        by false some true none e = absurd (cc)

    quotient-shown : (at : Place) (left right next : Form) → is_number right ≡ true → quotient_of limit at b left right.constant ≡ Ok next → exact_product_step b (signed at true) (shown left) (Ok (shown right)) ≡ Ok (shown next)
    quotient-shown at left right next one e =
        let same : form_at point right ≡ right.constant = number-at point right one in
        ap (λ r. taken at b (shown left) (number r) (exact_quotient (shown left) (number r))) same
        ∙ ap (λ (none : Bool). taken at b (shown left) (number right.constant) (if none then Err step.Divide else Ok (number (form_at point left /ℚ right.constant)))) (over-some at left next right.constant e)
        ∙ ap {B = Answer Extended} (λ x. Ok (number x)) (sym (quotient_of-at point limit at b left next right.constant e))

    product-shown : (at : Place) (left right next : Form) → (is_number left || is_number right) ≡ true → product_of_forms limit at b left right ≡ Ok next → exact_product_step b (signed at false) (shown left) (Ok (shown right)) ≡ Ok (shown next)
    product-shown at left right next one e =
        ap {B = Answer Extended} (λ x. Ok (number x)) (sym (product_of-at point limit at b left right next one e))

    or_second : (a c : Bool) → c ≡ true → (a || c) ≡ true
    or_second true c e = refl
    or_second false c e = e

    -- the next factor is a number
    factor-shown : (at : Place) (divides : Bool) (left right next : Form) → is_number right ≡ true → times limit b (signed at divides) left right ≡ Ok next → exact_product_step b (signed at divides) (shown left) (Ok (shown right)) ≡ Ok (shown next)
    factor-shown at true left right next one e = quotient-shown at left right next one e
    factor-shown at false left right next one e =
        product-shown at left right next (or_second (is_number left) (is_number right) one) e

-- ---- the parts from the first with variables on

take-first : {X : Type 0} (n : ℕ) (x : X) (xs : List X) → take (n + 1) (x ∷ xs) ≡ x ∷ take n xs
take-first n x xs = let e : n + 1 ≡ suc n = omega arith in ap (λ k. take k (x ∷ xs)) e

drop-first : {X : Type 0} (n : ℕ) (x : X) (xs : List X) → drop (n + 1) (x ∷ xs) ≡ drop n xs
drop-first n x xs = let e : n + 1 ≡ suc n = omega arith in ap (λ k. drop k (x ∷ xs)) e

module _ {F : Type 0} (state : State) where
  -- the parts from the first with variables on
  abbrev following : tree.Parts F → tree.Parts F
  following tree.no_part = tree.no_part
  following (tree.part mark e rest) = if has_variables state e then tree.part mark e rest else following rest

  -- what holds of parts holds of the parts from the first with variables on
  following-keeps : (P : tree.Parts F → Type 0) → ((mark : Mark) (e : tree.Tree F) (rest : tree.Parts F) → has_variables state e ≡ false → P (tree.part mark e rest) → P rest) → (parts : tree.Parts F) → P parts → P (following parts)
  following-keeps P later tree.no_part holds = holds
  following-keeps P later (tree.part mark e rest) holds =
      by (has_variables state e) refl (following-keeps P later rest)
    where
      by : (h : Bool) → has_variables state e ≡ h → (P rest → P (following rest)) → P (if h then tree.part mark e rest else following rest)
      by true is next = holds
      by false is next = next (later mark e rest is holds)

  -- those after the first have no variables
  abbrev IsSingle : tree.Parts F → Type 0
  IsSingle tree.no_part = Unit {0}
  IsSingle (tree.part mark e rest) = some_has_variables state rest ≡ false

  -- the first does not divide
  abbrev IsUpright : tree.Parts F → Type 0
  IsUpright tree.no_part = Unit {0}
  IsUpright (tree.part mark e rest) = is_inverse mark ≡ false

  -- so are factors from the first with variables on
  following-later : (parts : tree.Parts F) → are_later_factors state parts ≡ true → IsSingle (following parts) × IsUpright (following parts)
  following-later tree.no_part so = (tt, tt)
  following-later (tree.part mark e rest) so = by (has_variables state e) (following-later rest) so
    where
      by : (h : Bool) → (are_later_factors state rest ≡ true → IsSingle (following rest) × IsUpright (following rest)) → (if h then not (is_inverse mark) && not (some_has_variables state rest) else are_later_factors state rest) ≡ true → IsSingle (if h then tree.part mark e rest else following rest) × IsUpright (if h then tree.part mark e rest else following rest)
      by true later so =
          let each = and_parts (not (is_inverse mark)) (not (some_has_variables state rest)) so in
          (not-true (some_has_variables state rest) each.1, not-true (is_inverse mark) each.0)
      by false later so = later so

  -- the factors from the first with variables on
  following-factors : (parts : tree.Parts F) → are_factors state parts ≡ true → ((values_first state parts ≡ 0) × IsSingle (following parts)) ⊎ (IsSingle (following parts) × IsUpright (following parts))
  following-factors tree.no_part so = inl (refl, tt)
  following-factors (tree.part mark e rest) so = by (has_variables state e) so
    where
      by : (h : Bool) → (if h then not (some_has_variables state rest) else are_later_factors state rest) ≡ true → (((if h then 0 else values_first state rest + 1) ≡ 0) × IsSingle (if h then tree.part mark e rest else following rest)) ⊎ (IsSingle (if h then tree.part mark e rest else following rest) × IsUpright (if h then tree.part mark e rest else following rest))
      by true so = inl (refl, not-true (some_has_variables state rest) so)
      by false so = inr (following-later rest so)

-- ---- values of parts and of expressions

module _ {F : Type 0} (v : F → Number) (limit : ℕ) (state : State) (point : Key → Number) where
  -- the claim for an expression with variables under a binding: its form at the point is its value
  -- there
  abbrev Holds : Pairs → tree.Tree F → Type 0
  Holds b e = (at : Place) (f : Form) → linear v limit state at b e ≡ Ok f → read_at v limit state point b e ≡ Ok (shown point f)

  -- the same of each part with variables
  abbrev Hold : Pairs → tree.Parts F → Type 0
  Hold b tree.no_part = Unit {0}
  Hold b (tree.part mark e rest) = (has_variables state e ≡ true → Holds b e) × Hold b rest

  number-known : (at : Place) (b : Pairs) (x : Extended) (f : Form) → form_of at b x ≡ Ok f → (n : Number) × (x ≡ number n) × (f ≡ constant_form n)
  number-known at b (number n) f e = (n, refl, sym (only_value (constant_form n) f e))
  number-known at b x f e = absurd (cc)

  -- what has no variables
  constant-known : (at : Place) (b : Pairs) (e : tree.Tree F) (f : Form) → form_of_constant v limit state at b e ≡ Ok f → (value v limit state b e ≡ Ok (shown point f)) × (is_number f ≡ true)
  constant-known at b e f is =
      let g = given (value v limit state b e) (form_of at b) f is in
      let k = number-known at b g.value f g.next_is in (
        g.is ∙ ap {B = Answer Extended} Ok (k.1 ∙ ap number (sym (ap (form_at point) k.2 ∙ constant-at point k.0))),
        ap is_number k.2 ∙ constant-number k.0,
      )

  -- the form of an expression, and its value
  abbrev form_answer : Place → Pairs → tree.Tree F → Answer Form
  form_answer at b e = if has_variables state e then linear v limit state at b e else form_of_constant v limit state at b e

  known : (at : Place) (b : Pairs) (e : tree.Tree F) (f : Form) → (has_variables state e ≡ true → Holds b e) → form_answer at b e ≡ Ok f → (value_at v limit state point b e ≡ Ok (shown point f)) × (has_variables state e ≡ false → is_number f ≡ true)
  known at b e f holds is = by (has_variables state e) refl is
    where
      by : (h : Bool) → has_variables state e ≡ h → (if h then linear v limit state at b e else form_of_constant v limit state at b e) ≡ Ok f → ((if h then read_at v limit state point b e else value v limit state b e) ≡ Ok (shown point f)) × (h ≡ false → is_number f ≡ true)
      by true has is = (holds has at f is, λ none. absurd (cc))
      by false has is = let c = constant-known at b e f is in (c.0, λ none. c.1)

  -- ---- parts before the first with variables

  values-split : (b : Pairs) (parts : tree.Parts F) → values_at v limit state point b parts ≡ take (values_first state parts) (values v limit state b parts) ++ values_at v limit state point b (following state parts)
  values-split b tree.no_part = refl
  values-split b (tree.part mark e rest) = by (has_variables state e) refl (values-split b rest)
    where
      by : (h : Bool) → has_variables state e ≡ h → values_at v limit state point b rest ≡ take (values_first state rest) (values v limit state b rest) ++ values_at v limit state point b (following state rest) → values_at v limit state point b (tree.part mark e rest) ≡ take (if h then 0 else values_first state rest + 1) (values v limit state b (tree.part mark e rest)) ++ values_at v limit state point b (if h then tree.part mark e rest else following state rest)
      by true is next = refl
      by false is next =
          ap (λ (h : Bool). (mark, (if h then read_at v limit state point b e else value v limit state b e)) ∷ values_at v limit state point b rest) is
          ∙ ap (λ (those : Marked). (mark, value v limit state b e) ∷ those) next
          ∙ sym (ap (λ (those : Marked). those ++ values_at v limit state point b (following state rest)) (take-first (values_first state rest) (mark, value v limit state b e) (values v limit state b rest)))

  forms-split : (b : Pairs) (parts : tree.Parts F) → drop (values_first state parts) (forms v limit state b parts) ≡ forms v limit state b (following state parts)
  forms-split b tree.no_part = refl
  forms-split b (tree.part mark e rest) = by (has_variables state e) refl (forms-split b rest)
    where
      by : (h : Bool) → has_variables state e ≡ h → drop (values_first state rest) (forms v limit state b rest) ≡ forms v limit state b (following state rest) → drop (if h then 0 else values_first state rest + 1) (forms v limit state b (tree.part mark e rest)) ≡ forms v limit state b (if h then tree.part mark e rest else following state rest)
      by true is next = refl
      by false is next =
          drop-first (values_first state rest) (mark, form_answer (part_place mark) b e) (forms v limit state b rest) ∙ next

  -- a sum or a product, where the parts from the first with variables on are right
  module _ (b : Pairs) (limited exact : ValueStep) (join : Join) (is : (mark : Mark) (x : Extended) (a : Answer Extended) (z : Extended) → limited mark x a ≡ Ok z → exact mark x a ≡ Ok z) where
    -- what is to be shown of these parts after a number, or after none
    abbrev Starts : Option Number → tree.Parts F → Form → Type 0
    Starts x parts f =
        joined_forms join (option_map constant_form x) (forms v limit state b parts) ≡ Ok f → nodes.joined exact (Ok nothing) (option_map number x) (values_at v limit state point b parts) ≡ Ok (shown point f)

    from_prefix : (parts : tree.Parts F) (f : Form) → ((x : Option Number) → Starts x parts f) → (xs : Marked) → (prefix b limited xs and_then λ so_far. joined_forms join so_far (forms v limit state b parts)) ≡ Ok f → chain exact (xs ++ values_at v limit state point b parts) ≡ Ok (shown point f)
    from_prefix parts f starts [] e = starts None e
    from_prefix parts f starts (p ∷ xs) e =
        let one = given (prefix b limited (p ∷ xs)) (λ so_far. joined_forms join so_far (forms v limit state b parts)) f e in
        let two = given (chain limited (p ∷ xs)) (λ x. form_of (part_place p.0) b x and_then λ form. Ok (Some form)) one.value one.is in
        let three = given (form_of (part_place p.0) b two.value) (λ form. Ok (Some form)) one.value two.next_is in
        let k = number-known (part_place p.0) b two.value three.value three.is in
        let so_far : one.value ≡ Some (constant_form k.0) = sym (only_value (Some three.value) one.value three.next_is) ∙ ap Some k.2 in
        chain-following limited exact is p xs (values_at v limit state point b parts) two.value two.is
        ∙ ap (λ x. nodes.joined exact (Ok nothing) (Some x) (values_at v limit state point b parts)) k.1
        ∙ starts (Some k.0) (ap (λ o. joined_forms join o (forms v limit state b parts)) (sym so_far) ∙ one.next_is)

    -- first the parts before the first with variables, and then the others
    split-forms : (parts : tree.Parts F) (f : Form) → chained b limited join (values_first state parts) (values v limit state b parts) (forms v limit state b parts) ≡ Ok f → (prefix b limited (take (values_first state parts) (values v limit state b parts)) and_then λ so_far. joined_forms join so_far (forms v limit state b (following state parts))) ≡ Ok f
    split-forms parts f e =
        ap (λ those. prefix b limited (take (values_first state parts) (values v limit state b parts)) and_then λ so_far. joined_forms join so_far those) (sym (forms-split b parts)) ∙ e

    chained-at : (parts : tree.Parts F) (f : Form) → ((x : Option Number) → Starts x (following state parts) f) → chained b limited join (values_first state parts) (values v limit state b parts) (forms v limit state b parts) ≡ Ok f → chain exact (values_at v limit state point b parts) ≡ Ok (shown point f)
    chained-at parts f starts e =
        ap (chain exact) (values-split b parts)
        ∙ from_prefix (following state parts) f starts (take (values_first state parts) (values v limit state b parts)) (split-forms parts f e)

    -- where no part comes before the first with variables
    chained-none : (parts : tree.Parts F) (f : Form) → values_first state parts ≡ 0 → Starts None (following state parts) f → chained b limited join (values_first state parts) (values v limit state b parts) (forms v limit state b parts) ≡ Ok f → chain exact (values_at v limit state point b parts) ≡ Ok (shown point f)
    chained-none parts f none start e =
        ap (chain exact) (values-split b parts ∙ ap (λ n. take n (values v limit state b parts) ++ values_at v limit state point b (following state parts)) none)
        ∙ start (sym (ap (λ n. prefix b limited (take n (values v limit state b parts)) and_then λ so_far. joined_forms join so_far (forms v limit state b (following state parts))) none) ∙ split-forms parts f e)

  -- ---- sums

  module _ (b : Pairs) where
    abbrev summed : Option Extended → Marked → Answer Extended
    summed o parts = nodes.joined (exact_sum_step b) (Ok nothing) o parts

    sum-following : (parts : tree.Parts F) (left f : Form) → Hold b parts → are_linear state parts ≡ true → joined_forms (plus limit b) (Some left) (forms v limit state b parts) ≡ Ok f → summed (Some (shown point left)) (values_at v limit state point b parts) ≡ Ok (shown point f)
    sum-following tree.no_part left f hold so e = ap {B = Answer Extended} (λ g. Ok (shown point g)) (only_value left f e)
    sum-following (tree.part (signed at inverse) t rest) left f hold so e =
        let one = given (form_answer at b t) (λ form. plus limit b (signed at inverse) left form and_then λ next. joined_forms (plus limit b) (Some next) (forms v limit state b rest)) f e in
        let two = given (plus limit b (signed at inverse) left one.value) (λ next. joined_forms (plus limit b) (Some next) (forms v limit state b rest)) f one.next_is in
        let k = known at b t one.value hold.0 one.is in
        ap (λ a. exact_sum_step b (signed at inverse) (shown point left) a and_then λ y. summed (Some y) (values_at v limit state point b rest)) k.0
        ∙ ap (λ a. a and_then λ y. summed (Some y) (values_at v limit state point b rest)) (sum-shown point limit b at inverse left one.value two.value two.is)
        ∙ sum-following rest two.value f hold.1 (and_parts (is_linear state t) (are_linear state rest) so).1 two.next_is
    sum-following (tree.part mark t rest) left f hold so e = absurd (cc)

    sum-starts : (parts : tree.Parts F) (f : Form) → Hold b parts → are_linear state parts ≡ true → (x : Option Number) → Starts b (sum_step limit b) (exact_sum_step b) (plus limit b) (sum_step-exact limit b) x parts f
    sum-starts parts f hold so (Some x) e =
        ap (λ y. summed (Some (number y)) (values_at v limit state point b parts)) (sym (constant-at point x)) ∙ sum-following parts (constant_form x) f hold so e
    sum-starts tree.no_part f hold so None e =
        ap {B = Answer Extended} Ok (ap number (sym (constant-at point (whole (pos 0)))) ∙ ap (shown point) (only_value zero_form f e))
    sum-starts (tree.part mark t rest) f hold so None e =
        let one = given (form_answer (part_place mark) b t) (λ form. joined_forms (plus limit b) (Some form) (forms v limit state b rest)) f e in
        let k = known (part_place mark) b t one.value hold.0 one.is in
        let later = and_parts (is_linear state t) (are_linear state rest) (and_parts (is_signed mark) (is_linear state t && are_linear state rest) so).1 in
        ap (λ a. a and_then λ y. summed (Some y) (values_at v limit state point b rest)) k.0
        ∙ sum-following rest one.value f hold.1 later.1 one.next_is

    -- ---- products

    abbrev multiplied : Option Extended → Marked → Answer Extended
    multiplied o parts = nodes.joined (exact_product_step b) (Ok nothing) o parts

    or_neither : (a c : Bool) → (a || c) ≡ false → (a ≡ false) × (c ≡ false)
    or_neither true c e = absurd (cc)
    or_neither false c e = (refl, e)

    -- factors without variables
    product-following : (parts : tree.Parts F) (left f : Form) → some_has_variables state parts ≡ false → are_linear state parts ≡ true → joined_forms (times limit b) (Some left) (forms v limit state b parts) ≡ Ok f → multiplied (Some (shown point left)) (values_at v limit state point b parts) ≡ Ok (shown point f)
    product-following tree.no_part left f none so e = ap {B = Answer Extended} (λ g. Ok (shown point g)) (only_value left f e)
    product-following (tree.part (signed at inverse) t rest) left f none so e =
        let neither = or_neither (has_variables state t) (some_has_variables state rest) none in
        let one = given (form_answer at b t) (λ form. times limit b (signed at inverse) left form and_then λ next. joined_forms (times limit b) (Some next) (forms v limit state b rest)) f e in
        let two = given (times limit b (signed at inverse) left one.value) (λ next. joined_forms (times limit b) (Some next) (forms v limit state b rest)) f one.next_is in
        let k = known at b t one.value (λ has. absurd (both_ways (has_variables state t) neither.0 has)) one.is in
        ap (λ a. exact_product_step b (signed at inverse) (shown point left) a and_then λ y. multiplied (Some y) (values_at v limit state point b rest)) k.0
        ∙ ap (λ a. a and_then λ y. multiplied (Some y) (values_at v limit state point b rest)) (factor-shown point limit b at inverse left one.value two.value (k.1 neither.0) two.is)
        ∙ product-following rest two.value f neither.1 (and_parts (is_linear state t) (are_linear state rest) so).1 two.next_is
    product-following (tree.part mark t rest) left f none so e = absurd (cc)

    or_first : (a c : Bool) → a ≡ true → (a || c) ≡ true
    or_first a c e = ap (λ (x : Bool). x || c) e

    -- a number times the factor with variables
    number-times : (at : Place) (inverse : Bool) (x : Number) (right next : Form) → inverse ≡ false → times limit b (signed at inverse) (constant_form x) right ≡ Ok next → exact_product_step b (signed at inverse) (shown point (constant_form x)) (Ok (shown point right)) ≡ Ok (shown point next)
    number-times at true x right next so e = absurd (cc)
    number-times at false x right next so e =
        product-shown point limit b at (constant_form x) right next (or_first (is_number (constant_form x)) (is_number right) (constant-number x)) e

    -- the one factor with variables comes first
    product-first : (parts : tree.Parts F) (f : Form) → Hold b parts → are_linear state parts ≡ true → IsSingle state parts → Starts b (product_step limit b) (exact_product_step b) (times limit b) (product_step-exact limit b) None parts f
    product-first tree.no_part f hold so single e =
        ap {B = Answer Extended} Ok (ap number (sym (constant-at point (whole (pos 0)))) ∙ ap (shown point) (only_value zero_form f e))
    product-first (tree.part mark t rest) f hold so single e =
        let one = given (form_answer (part_place mark) b t) (λ form. joined_forms (times limit b) (Some form) (forms v limit state b rest)) f e in
        let k = known (part_place mark) b t one.value hold.0 one.is in
        let later = and_parts (is_linear state t) (are_linear state rest) (and_parts (is_signed mark) (is_linear state t && are_linear state rest) so).1 in
        ap (λ a. a and_then λ y. multiplied (Some y) (values_at v limit state point b rest)) k.0
        ∙ product-following rest one.value f single later.1 one.next_is

    -- or after a number
    product-after : (parts : tree.Parts F) (f : Form) (x : Number) → Hold b parts → are_linear state parts ≡ true → IsSingle state parts → IsUpright state parts → Starts b (product_step limit b) (exact_product_step b) (times limit b) (product_step-exact limit b) (Some x) parts f
    product-after tree.no_part f x hold so single upright e =
        ap {B = Answer Extended} Ok (ap number (sym (constant-at point x)) ∙ ap (shown point) (only_value (constant_form x) f e))
    product-after (tree.part (signed at inverse) t rest) f x hold so single upright e =
        let one = given (form_answer at b t) (λ form. times limit b (signed at inverse) (constant_form x) form and_then λ next. joined_forms (times limit b) (Some next) (forms v limit state b rest)) f e in
        let two = given (times limit b (signed at inverse) (constant_form x) one.value) (λ next. joined_forms (times limit b) (Some next) (forms v limit state b rest)) f one.next_is in
        let k = known at b t one.value hold.0 one.is in
        ap (λ y. multiplied (Some (number y)) (values_at v limit state point b (tree.part (signed at inverse) t rest))) (sym (constant-at point x))
        ∙ ap (λ a. exact_product_step b (signed at inverse) (shown point (constant_form x)) a and_then λ y. multiplied (Some y) (values_at v limit state point b rest)) k.0
        ∙ ap (λ a. a and_then λ y. multiplied (Some y) (values_at v limit state point b rest)) (number-times at inverse x one.value two.value upright two.is)
        ∙ product-following rest two.value f single (and_parts (is_linear state t) (are_linear state rest) so).1 two.next_is
    product-after (tree.part mark t rest) f x hold so single upright e = absurd (cc)

    product-starts : (parts : tree.Parts F) (f : Form) → Hold b parts → are_linear state parts ≡ true → IsSingle state parts → IsUpright state parts → (x : Option Number) → Starts b (product_step limit b) (exact_product_step b) (times limit b) (product_step-exact limit b) x parts f
    product-starts parts f hold so single upright None = product-first parts f hold so single
    product-starts parts f hold so single upright (Some x) = product-after parts f x hold so single upright

  -- ---- the parts from the first with variables on

  following-holds : (b : Pairs) (parts : tree.Parts F) → Hold b parts → Hold b (following state parts)
  following-holds b parts hold = following-keeps state (Hold b) (λ mark e rest none holds. holds.1) parts hold

  following-linear : (parts : tree.Parts F) → are_linear state parts ≡ true → are_linear state (following state parts) ≡ true
  following-linear parts so =
      following-keeps state (λ those. are_linear state those ≡ true) (λ mark e rest none holds. (and_parts (is_linear state e) (are_linear state rest) (and_parts (is_signed mark) (is_linear state e && are_linear state rest) holds).1).1) parts so

  -- a product
  multiplied-at : (b : Pairs) (parts : tree.Parts F) (f : Form) → Hold b (following state parts) → are_linear state (following state parts) ≡ true → ((values_first state parts ≡ 0) × IsSingle state (following state parts)) ⊎ (IsSingle state (following state parts) × IsUpright state (following state parts)) → chained b (product_step limit b) (times limit b) (values_first state parts) (values v limit state b parts) (forms v limit state b parts) ≡ Ok f → chain (exact_product_step b) (values_at v limit state point b parts) ≡ Ok (shown point f)
  multiplied-at b parts f hold so (inl first) e =
      chained-none b (product_step limit b) (exact_product_step b) (times limit b) (product_step-exact limit b) parts f first.0 (product-first b (following state parts) f hold so first.1) e
  multiplied-at b parts f hold so (inr later) e =
      chained-at b (product_step limit b) (exact_product_step b) (times limit b) (product_step-exact limit b) parts f (product-starts b (following state parts) f hold so later.0 later.1) e

  -- ---- sums over a domain

  module _ (b : Pairs) (at : Place) (sets : List ℕ) (body : tree.Tree F) (empty : Answer Extended) (holds : (element : List ℕ) → Holds (controlled b sets element) body) where
    abbrev bodies : List (List ℕ) → Marked
    bodies elements = map (λ element. (plain, read_at v limit state point (controlled b sets element) body)) elements

    abbrev body_forms : List (List ℕ) → List (Mark × Answer Form)
    body_forms elements = map (λ element. (signed at false, linear v limit state at (controlled b sets element) body)) elements

    total-at : (elements : List (List ℕ)) (left f : Form) → joined_forms (plus limit b) (Some left) (body_forms elements) ≡ Ok f → nodes.joined (exact_fold_step b Sum at) empty (Some (shown point left)) (bodies elements) ≡ Ok (shown point f)
    total-at [] left f e = ap {B = Answer Extended} (λ g. Ok (shown point g)) (only_value left f e)
    total-at (element ∷ elements) left f e =
        let one = given (linear v limit state at (controlled b sets element) body) (λ form. plus limit b (signed at false) left form and_then λ next. joined_forms (plus limit b) (Some next) (body_forms elements)) f e in
        let two = given (plus limit b (signed at false) left one.value) (λ next. joined_forms (plus limit b) (Some next) (body_forms elements)) f one.next_is in
        ap (λ a. exact_fold_step b Sum at plain (shown point left) a and_then λ y. nodes.joined (exact_fold_step b Sum at) empty (Some y) (bodies elements)) (holds element at one.value one.is)
        ∙ ap (λ a. a and_then λ y. nodes.joined (exact_fold_step b Sum at) empty (Some y) (bodies elements)) (sum-shown point limit b at false left one.value two.value two.is)
        ∙ total-at elements two.value f two.next_is

  -- ---- expressions

  if_has : (h c : Bool) → h ≡ true → (not h || c) ≡ true → c ≡ true
  if_has true c has e = e
  if_has false c has e = absurd (cc)

  negated-number : (x : Number) → negated (number x) ≡ number (neg_ℚ x)
  unfolding negated
  negated-number x = refl

  negative : (x : Number) → x *ℚ neg_ℚ (whole (pos 1)) ≡ neg_ℚ x
  negative x = *ℚ-neg x (whole (pos 1)) ∙ ap neg_ℚ (*ℚ-one x)

  reference-at : (b : Pairs) (at place : Place) (name : ℕ) (indices : tree.Indices F) (f : Form) → (in_order (labels v limit state b indices) and_then λ those. Ok (element_form name (tuple_of those))) ≡ Ok f → (in_order (labels v limit state b indices) and_then λ those. Ok (element_at point name (tuple_of those))) ≡ Ok (shown point f)
  reference-at b at place name indices f e =
      let one = given (in_order (labels v limit state b indices)) (λ those. Ok (element_form name (tuple_of those))) f e in
      ap (λ a. a and_then λ those. Ok (element_at point name (tuple_of those))) one.is
      ∙ ap {B = Answer Extended} Ok (element-shown point name (tuple_of one.value) ∙ ap (shown point) (only_value (element_form name (tuple_of one.value)) f one.next_is))

  negated-at : (b : Pairs) (at : Place) (operand : tree.Tree F) (f : Form) → Holds b operand → (linear v limit state at b operand and_then λ form. scaled_form limit at b false form (neg_ℚ (whole (pos 1)))) ≡ Ok f → (read_at v limit state point b operand and_then λ x. Ok (negated x)) ≡ Ok (shown point f)
  negated-at b at operand f holds e =
      let one = given (linear v limit state at b operand) (λ form. scaled_form limit at b false form (neg_ℚ (whole (pos 1)))) f e in
      ap (λ a. a and_then λ x. Ok (negated x)) (holds at one.value one.is)
      ∙ ap {B = Answer Extended} Ok (negated-number (form_at point one.value) ∙ ap number (sym (scaled-at point limit at b one.value f (neg_ℚ (whole (pos 1))) one.next_is ∙ negative (form_at point one.value))))

  guarded-at : (b : Pairs) (at : Place) (operand : tree.Tree F) (guards : tree.Parts F) (f : Form) → Holds b operand → (each_holds (unmarked (values v limit state b guards)) and_then λ hold. if hold then linear v limit state at b operand else Ok zero_form) ≡ Ok f → (each_holds (unmarked (values v limit state b guards)) and_then λ hold. if hold then read_at v limit state point b operand else Ok nothing) ≡ Ok (shown point f)
  guarded-at b at operand guards f holds e =
      let one = given (each_holds (unmarked (values v limit state b guards))) (λ hold. if hold then linear v limit state at b operand else Ok zero_form) f e in
      ap (λ a. a and_then λ (hold : Bool). if hold then read_at v limit state point b operand else Ok nothing) one.is ∙ by one.value one.next_is
    where
      by : (hold : Bool) → (if hold then linear v limit state at b operand else Ok zero_form) ≡ Ok f → (if hold then read_at v limit state point b operand else Ok nothing) ≡ Ok (shown point f)
      by true e = holds at f e
      by false e =
          ap {B = Answer Extended} Ok (ap number (sym (constant-at point (whole (pos 0)))) ∙ ap (shown point) (only_value zero_form f e))

  folded-at : (b : Pairs) (place : Place) (op : FoldOp) (control : tree.Control F) (body : tree.Tree F) → is_sum_fold op ≡ true → ((element : List ℕ) → Holds (controlled b (sets_of control) element) body) → Holds b (tree.fold_over place op control body)
  folded-at b place Sum control body so holds at f e =
      let one = given (domain v limit state b place control) (λ elements. joined_forms (plus limit b) (Some zero_form) (body_forms b place (sets_of control) body (Err (faulted EmptyExtreme place b nothing nothing)) holds elements)) f e in
      ap (λ a. a and_then λ elements. nodes.joined (exact_fold_step b Sum place) (Err (faulted EmptyExtreme place b nothing nothing)) (Some (number (whole (pos 0)))) (bodies b place (sets_of control) body (Err (faulted EmptyExtreme place b nothing nothing)) holds elements)) one.is
      ∙ ap (λ x. nodes.joined (exact_fold_step b Sum place) (Err (faulted EmptyExtreme place b nothing nothing)) (Some (number x)) (bodies b place (sets_of control) body (Err (faulted EmptyExtreme place b nothing nothing)) holds one.value)) (sym (constant-at point (whole (pos 0))))
      ∙ total-at b place (sets_of control) body (Err (faulted EmptyExtreme place b nothing nothing)) holds one.value zero_form f one.next_is
  folded-at b place op control body so holds at f e = absurd (cc)

  mutual
    -- the form of an expression that has variables and is linear in them
    linear-at : (e : tree.Tree F) (b : Pairs) → has_variables state e ≡ true → is_linear state e ≡ true → Holds b e
    linear-at (tree.reference place name suffix indices) b has so at f e = reference-at b at place name indices f e
    linear-at (tree.fold_over place op control body) b has so at f e =
        let two = and_parts (is_sum_fold op) (is_linear state body) (if_has (has_variables state body) (is_sum_fold op && is_linear state body) has so) in
        folded-at b place op control body two.0 (λ element. linear-at body (controlled b (sets_of control) element) has two.1) at f e
    linear-at (tree.negated operand) b has so at f e = negated-at b at operand f (linear-at operand b has so) e
    linear-at (tree.sum parts) b has so at f e =
        chained-at b (sum_step limit b) (exact_sum_step b) (plus limit b) (sum_step-exact limit b) parts f (sum-starts b (following state parts) f (following-holds b parts (parts-at parts b so)) (following-linear parts so)) e
    linear-at (tree.product parts) b has so at f e =
        let two = and_parts (are_linear state parts) (are_factors state parts) so in
        multiplied-at b parts f (following-holds b parts (parts-at parts b two.0)) (following-linear parts two.0) (following-factors state parts two.1) e
    linear-at (tree.guarded operand guards) b has so at f e = guarded-at b at operand guards f (linear-at operand b has so) e
    linear-at other b has so at f e = absurd (cc)

    parts-at : (parts : tree.Parts F) (b : Pairs) → are_linear state parts ≡ true → Hold b parts
    parts-at tree.no_part b so = tt
    parts-at (tree.part mark e rest) b so =
        let two = and_parts (is_linear state e) (are_linear state rest) (and_parts (is_signed mark) (is_linear state e && are_linear state rest) so).1 in
        (λ has. linear-at e b has two.0, parts-at rest b two.1)

  -- the form of an expression that is linear in the variables
  pub affine-at : (at : Place) (b : Pairs) (e : tree.Tree F) (f : Form) → is_linear state e ≡ true → affine v limit state at b e ≡ Ok f → value_at v limit state point b e ≡ Ok (shown point f)
  affine-at at b e f so is = (known at b e f (λ has. linear-at e b has so) is).0
