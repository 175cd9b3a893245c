-- The elements in the form of an expression pass a test where those of its references do.
use Rattle.std.proofs.lemmas.Bool.{or_left, or_right}
use Rattle.std.proofs.Common.{◌≡◌, ℕ, pos, zero, suc, Bool, true, false, not, ◌||◌, cond, List, [], ◌∷◌, ◌++◌, map, take, drop, Option, Some, None, is_some, Result, Ok, Err, refl, sym, ap, ◌∙◌}
use Rattle.std.specs.Prelude.{if◌then◌else◌}
use Rattle.std.specs.FinMap as finite
use Rattle.std.specs.FinMap.Entries.{is_some-find}
use Rattle.std.specs.List.{find}
use Rattle.std.specs.Map.{keys_of}
use Rattle.std.specs.Ordering.{eq_by_cmp, is_eq}
use Rattle.std.proofs.lemmas.List.{map-append}
use Rattle.std.proofs.lemmas.List.Folds.{list_any-append}
use Rattle.gms_labels.specs.declared.place.Place.{Place}
use Rattle.gq_number.specs.Number.{Number, whole, neg_ℚ}
use Rattle.gq_extended.specs.Extended.{Extended, number, plus_infinity, minus_infinity, na}
use Rattle.gms_ast.specs.Trees.{Mark, signed}
use Rattle.gms_ast.specs.Trees as tree
use Rattle.gms_store.specs.State.{State}
use Rattle.gms_eval.specs.Nodes.{Marked, ValueStep, unmarked, chain, sum_step, product_step, in_order, each_holds}
use Rattle.gms_eval.specs.Bindings.{Pairs, controlled}
use Rattle.gms_eval.specs.Faults.{Answer, faulted, ◌and_then◌}
use Rattle.gms_eval.specs.References.{tuple_of}
use Rattle.gms_eval.specs.Value.{value, values, labels, domain, sets_of}
use Rattle.gms_eval.specs.declared.stop.StopKind.TheVariants.{Divide}
use Rattle.lp_form.specs.declared.key.Key.{Key}
use Rattle.lp_form.specs.Forms as steps
use Rattle.lp_form.specs.Keys.{key_cmp, same_key}
use Rattle.lp_form.proofs.KeyOrder.{key_cmp-total, same_key-is, same_key_refl}
use Rattle.gms_rows.specs.Affine.{has_variables, values_first, form_of, part_place, is_inverse, Join, with_next, joined_forms, prefix, chained, plus, times, element_form, form_of_constant, linear, forms, affine}
use Rattle.gms_rows.specs.Forms.{Form, constant_form, zero_form, column_form, number_of_key, is_number, is_not_zero, numbers_at, keys_of_two, entrywise, entries_of_two, entries_by, number_in_form, where_fits, sum_of_forms, scaled_form, multiple, product_of_forms, quotient_of}
use Rattle.gms_rows.specs.InnerContracts.{is_among}
use Rattle.gms_run_laws.specs.Names.{Each, names_in_tree, part_names, control_names}
use Rattle.gms_run_laws.proofs.Eaches.{each-left, each-right}

-- ---- answers of which something holds

-- something holds of what an answer has
abbrev pub OkHas : {A : Type 0} → (A → Type 0) → Answer A → Type 0
OkHas P (Ok x) = P x
OkHas P (Err fault) = Unit {0}

pub then-has : {A B : Type 0} (P : A → Type 0) (Q : B → Type 0) (a : Answer A) (next : A → Answer B) → OkHas P a → ((x : A) → P x → OkHas Q (next x)) → OkHas Q (a and_then next)
then-has P Q (Ok x) next has each = each x has
then-has P Q (Err fault) next has each = tt

pub after-has : {A B : Type 0} (Q : B → Type 0) (a : Answer A) (next : A → Answer B) → ((x : A) → OkHas Q (next x)) → OkHas Q (a and_then next)
after-has Q (Ok x) next each = each x
after-has Q (Err fault) next each = tt

pub either-has : {A : Type 0} (P : A → Type 0) (b : Bool) (x y : A) → P x → P y → P (if b then x else y)
either-has P true x y p q = p
either-has P false x y p q = q

-- something holds of each element of a list
abbrev pub EachHas : {A : Type 0} → (A → Type 0) → List A → Type 0
EachHas P [] = Unit {0}
EachHas P (x ∷ xs) = P x × EachHas P xs

drop-has : {A : Type 0} (P : A → Type 0) (n : ℕ) (xs : List A) → EachHas P xs → EachHas P (drop n xs)
drop-has P zero xs all = all
drop-has P (suc n) [] all = tt
drop-has P (suc n) (x ∷ xs) all = drop-has P n xs all.1

pub in_order-has : {A : Type 0} (P : A → Type 0) (answers : List (Answer A)) → EachHas (OkHas P) answers → OkHas (EachHas P) (in_order answers)
in_order-has P [] all = tt
in_order-has P (a ∷ answers) all =
    then-has P (EachHas P) a (λ x. in_order answers and_then λ xs. Ok (x ∷ xs)) all.0
    (λ x p. then-has (EachHas P) (EachHas P) (in_order answers) (λ xs. Ok (x ∷ xs)) (in_order-has P answers all.1) (λ xs ps. (p, ps)))

-- where it holds of all it holds of these
pub ok-any : {A : Type 0} (P : A → Type 0) (a : Answer A) → ((x : A) → P x) → OkHas P a
ok-any P (Ok x) each = each x
ok-any P (Err fault) each = tt

pub each-any : {A : Type 0} (P : A → Type 0) → ((x : A) → P x) → (xs : List A) → EachHas P xs
each-any P each [] = tt
each-any P each (x ∷ xs) = (each x, each-any P each xs)

or-either : (a b c : Bool) → (a ≡ true → c ≡ true) → (b ≡ true → c ≡ true) → (a || b) ≡ true → c ≡ true
or-either true b c left right e = left refl
or-either false b c left right e = right e

module _ (test : Key → Bool) where
  -- ---- keys that pass the test

  abbrev pub AreKeys : List Key → Type 0
  AreKeys = EachHas (λ (key : Key). test key ≡ true)

  pub among-key : (keys : List Key) → AreKeys keys → (q : Key) → is_among keys q ≡ true → test q ≡ true
  among-key [] all q there = absurd (cc)
  among-key (key ∷ keys) all q there =
      or-either (same_key q key) (is_among keys q) (test q) (λ same. ap test (same_key-is q key same) ∙ all.0) (among-key keys all.1 q) there

  pub keys-from_among : (keys : List Key) → ((q : Key) → is_among keys q ≡ true → test q ≡ true) → AreKeys keys
  keys-from_among [] each = tt
  keys-from_among (key ∷ keys) each =
      (each key (or_left (same_key key key) (is_among keys key) (same_key_refl key)), keys-from_among keys (λ q there. each q (or_right (same_key q key) (is_among keys q) there)))

  -- the elements of a form pass it
  abbrev pub IsKeyed : Form → Type 0
  IsKeyed form = AreKeys (finite.keys form.numbers)

  -- whether a key is one of a map is whether the map has it
  among-get : {X : Type 0} (m : finite.FinMap key_cmp X) (q : Key) → is_among (finite.keys m) q ≡ is_some (finite.get m q)
  among-get m q = sym (finite.contains_key-keys m q)

  keyed-from_get : (form : Form) → ((q : Key) → is_some (finite.get form.numbers q) ≡ true → test q ≡ true) → IsKeyed form
  keyed-from_get form each = keys-from_among (finite.keys form.numbers) (λ q there. each q (sym (among-get form.numbers q) ∙ there))

  pub constant-keyed : (x : Number) → IsKeyed (constant_form x)
  constant-keyed x = keyed-from_get (constant_form x) (λ q there. absurd (none q there))
    where
      none : (q : Key) → is_some (finite.get (constant_form x).numbers q) ≡ true → ⊥
      none q there = let e : false ≡ true = sym (ap is_some (finite.get-empty {X = Number} key_cmp q)) ∙ there in cc

  column-keyed : (key : Key) → test key ≡ true → IsKeyed (column_form key)
  column-keyed key is =
      keyed-from_get (column_form key) (λ q there. by q (eq_by_cmp key_cmp q key) refl (sym (ap is_some (finite.get-insert key_cmp-total (finite.empty {X = Number} {R = key_cmp}) key (whole (pos 1)) q)) ∙ there))
    where
      by : (q : Key) (b : Bool) → same_key q key ≡ b → is_some (cond b (Some (whole (pos 1))) (finite.get (finite.empty {X = Number} {R = key_cmp}) q)) ≡ true → test q ≡ true
      by q true same there = ap test (same_key-is q key same) ∙ is
      by q false same there = let e : false ≡ true = sym (ap is_some (finite.get-empty {X = Number} key_cmp q)) ∙ there in absurd (cc)

  -- the element of a name at a tuple, if there is one
  abbrev pub IsElement : ℕ → Option (List ℕ) → Type 0
  IsElement name None = Unit {0}
  IsElement name (Some t) = test (record { symbol = name; tuple = t }) ≡ true

  pub element-keyed : (name : ℕ) (t : Option (List ℕ)) → IsElement name t → IsKeyed (element_form name t)
  element-keyed name None is = constant-keyed (whole (pos 0))
  element-keyed name (Some t) is = column-keyed (record { symbol = name; tuple = t }) is

  -- ---- steps on forms

  numbered : {X : Type 0} (f : Key → X) (keys : List Key) → keys_of (map (λ key. (key, f key)) keys) ≡ keys
  numbered f [] = refl
  numbered f (key ∷ keys) = ap (λ (ks : List Key). key ∷ ks) (numbered f keys)

  made-among : {X : Type 0} (es : List (Key × X)) (q : Key) → is_some (finite.get (finite.from_entries {R = key_cmp} es) q) ≡ is_among (keys_of es) q
  made-among es q = ap is_some (finite.get-from_entries key_cmp-total es q) ∙ is_some-find key_cmp q es

  numbers-keyed : (constant : Number) (number_at : Key → Number) (keys : List Key) → AreKeys keys → IsKeyed (record { constant = constant; numbers = numbers_at number_at keys })
  numbers-keyed constant number_at keys all =
      keyed-from_get (record { constant = constant; numbers = numbers_at number_at keys }) (λ q there. among-key keys all q (kept q there))
    where
      all_of : finite.FinMap key_cmp Number
      all_of = finite.from_entries {R = key_cmp} (map (λ key. (key, number_at key)) keys)

      kept : (q : Key) → is_some (finite.get (numbers_at number_at keys) q) ≡ true → is_among keys q ≡ true
      kept q there =
          by (is_not_zero (number_at q)) (sym (ap is_some (finite.get-retain_keys all_of (λ key. is_not_zero (number_at key)) q (λ x tied. ap (λ key. is_not_zero (number_at key)) (sym (same_key-is q x (ap is_eq tied)))))) ∙ there)
        where
          by : (b : Bool) → is_some (cond b (finite.get all_of q) None) ≡ true → is_among keys q ≡ true
          by true there =
              sym (made-among (map (λ key. (key, number_at key)) keys) q ∙ ap (λ ks. is_among ks q) (numbered number_at keys)) ∙ there
          by false there = absurd (cc)

  -- a result of steps has keys that pass
  abbrev StepsHave : Result Form (Option Key) → Type 0
  StepsHave (Ok form) = IsKeyed form
  StepsHave (Err key) = Unit {0}

  entrywise-keyed : (constant : steps.Step) (at : Key → steps.Step) (keys : List Key) → AreKeys keys → StepsHave (entrywise constant at keys)
  entrywise-keyed constant at keys all = by constant.fits (find (λ key. not (at key).fits) keys)
    where
      by : (b : Bool) (o : Option Key) → StepsHave (if not b then Err None else elim o [ Some key ↦ Err (Some key) | None ↦ Ok (record { constant = constant.number; numbers = numbers_at (λ key. (at key).number) keys }) ])
      by true (Some key) = tt
      by true None = numbers-keyed constant.number (λ key. (at key).number) keys all
      by false o = tt

  two-keys : (a b : Form) → IsKeyed a → IsKeyed b → AreKeys (keys_of_two a b)
  two-keys a b one other =
      keys-from_among (keys_of_two a b) (λ q there. or-either (is_among (finite.keys a.numbers) q) (is_among (finite.keys b.numbers) q) (test q) (among-key (finite.keys a.numbers) one q) (among-key (finite.keys b.numbers) other q) (sym (parts q) ∙ there))
    where
      parts : (q : Key) → is_among (keys_of_two a b) q ≡ (is_among (finite.keys a.numbers) q || is_among (finite.keys b.numbers) q)
      parts q =
          among-get (finite.from_entries {R = key_cmp} (finite.entries a.numbers ++ finite.entries b.numbers)) q
          ∙ made-among (finite.entries a.numbers ++ finite.entries b.numbers) q
          ∙ ap (λ ks. is_among ks q) (map-append (λ (e : Key × Number). e.0) (finite.entries a.numbers) (finite.entries b.numbers))
          ∙ list_any-append (same_key q) (finite.keys a.numbers) (finite.keys b.numbers)

  of_two-keyed : (step : Number → Number → steps.Step) (a b : Form) → IsKeyed a → IsKeyed b → StepsHave (entries_of_two step a b)
  of_two-keyed step a b one other =
      entrywise-keyed (step a.constant b.constant) (λ key. step (number_of_key a key) (number_of_key b key)) (keys_of_two a b) (two-keys a b one other)

  by-keyed : (step : Number → Number → steps.Step) (a : Form) (x : Number) → IsKeyed a → StepsHave (entries_by step a x)
  by-keyed step a x one = entrywise-keyed (step a.constant x) (λ key. step (number_of_key a key) x) (finite.keys a.numbers) one

  fits-keyed : (at : Place) (binding : Pairs) (left right : Option Key → Extended) (r : Result Form (Option Key)) → StepsHave r → OkHas IsKeyed (where_fits at binding left right r)
  fits-keyed at binding left right (Ok form) has = has
  fits-keyed at binding left right (Err key) has = tt

  module _ (limit : ℕ) (at : Place) (binding : Pairs) where
    pub sum-keyed : (subtracts : Bool) (a b : Form) → IsKeyed a → IsKeyed b → OkHas IsKeyed (sum_of_forms limit at binding subtracts a b)
    sum-keyed subtracts a b one other =
        fits-keyed at binding (number_in_form a) (number_in_form b) (entries_of_two (if subtracts then steps.difference_step limit else steps.sum_form_step limit) a b) (of_two-keyed (if subtracts then steps.difference_step limit else steps.sum_form_step limit) a b one other)

    pub scaled-keyed : (divides : Bool) (a : Form) (x : Number) → IsKeyed a → OkHas IsKeyed (scaled_form limit at binding divides a x)
    scaled-keyed divides a x one =
        fits-keyed at binding (number_in_form a) (λ key. number x) (entries_by (if divides then steps.quotient_step limit else steps.product_form_step limit) a x) (by-keyed (if divides then steps.quotient_step limit else steps.product_form_step limit) a x one)

    multiple-keyed : (x : Number) (a : Form) → IsKeyed a → OkHas IsKeyed (multiple limit at binding x a)
    multiple-keyed x a one =
        fits-keyed at binding (λ key. number x) (number_in_form a) (entries_by (steps.product_form_step limit) a x) (by-keyed (steps.product_form_step limit) a x one)

    product-keyed : (a b : Form) → IsKeyed a → IsKeyed b → OkHas IsKeyed (product_of_forms limit at binding a b)
    product-keyed a b one other =
        either-has (OkHas IsKeyed) (is_number b) (scaled_form limit at binding false a b.constant) (multiple limit at binding a.constant b) (scaled-keyed false a b.constant one) (multiple-keyed a.constant b other)

    quotient-keyed : (a : Form) (x : Number) → IsKeyed a → OkHas IsKeyed (quotient_of limit at binding a x)
    quotient-keyed a x one =
        either-has (OkHas IsKeyed) (is_not_zero x) (scaled_form limit at binding true a x) (Err (faulted Divide at binding (number a.constant) (number x))) (scaled-keyed true a x one) tt

  -- ---- parts joined

  of-keyed : (at : Place) (binding : Pairs) (x : Extended) → OkHas IsKeyed (form_of at binding x)
  of-keyed at binding (number x) = constant-keyed x
  of-keyed at binding plus_infinity = tt
  of-keyed at binding minus_infinity = tt
  of-keyed at binding na = tt

  abbrev pub JoinsKeyed : Join → Type 0
  JoinsKeyed join = (mark : Mark) (a b : Form) → IsKeyed a → IsKeyed b → OkHas IsKeyed (join mark a b)

  pub plus-keyed : (limit : ℕ) (binding : Pairs) → JoinsKeyed (plus limit binding)
  plus-keyed limit binding mark a b one other = sum-keyed limit (part_place mark) binding (is_inverse mark) a b one other

  pub times-keyed : (limit : ℕ) (binding : Pairs) → JoinsKeyed (times limit binding)
  times-keyed limit binding mark a b one other =
      either-has (OkHas IsKeyed) (is_inverse mark) (quotient_of limit (part_place mark) binding a b.constant) (product_of_forms limit (part_place mark) binding a b) (quotient-keyed limit (part_place mark) binding a b.constant one) (product-keyed limit (part_place mark) binding a b one other)

  -- the form so far, if there is one
  abbrev pub SoFar : Option Form → Type 0
  SoFar None = Unit {0}
  SoFar (Some form) = IsKeyed form

  abbrev pub PartHas : Mark × Answer Form → Type 0
  PartHas part = OkHas IsKeyed part.1

  next-keyed : (join : Join) → JoinsKeyed join → (mark : Mark) (so_far : Option Form) (form : Form) → SoFar so_far → IsKeyed form → OkHas IsKeyed (with_next join mark so_far form)
  next-keyed join keyed mark None form so has = has
  next-keyed join keyed mark (Some left) form so has = keyed mark left form so has

  pub joined-keyed : (join : Join) → JoinsKeyed join → (so_far : Option Form) (parts : List (Mark × Answer Form)) → SoFar so_far → EachHas PartHas parts → OkHas IsKeyed (joined_forms join so_far parts)
  joined-keyed join keyed None [] so all = constant-keyed (whole (pos 0))
  joined-keyed join keyed (Some form) [] so all = so
  joined-keyed join keyed so_far (part ∷ parts) so all =
      then-has IsKeyed IsKeyed part.1 (λ form. with_next join part.0 so_far form and_then λ next. joined_forms join (Some next) parts) all.0
      (λ form has. then-has IsKeyed IsKeyed (with_next join part.0 so_far form) (λ next. joined_forms join (Some next) parts) (next-keyed join keyed part.0 so_far form so has) (λ next has. joined-keyed join keyed (Some next) parts has all.1))

  prefix-keyed : (binding : Pairs) (step : ValueStep) (values : Marked) → OkHas SoFar (prefix binding step values)
  prefix-keyed binding step [] = tt
  prefix-keyed binding step (first ∷ rest) =
      after-has SoFar (chain step (first ∷ rest)) (λ x. form_of (part_place first.0) binding x and_then λ form. Ok (Some form))
      (λ x. then-has IsKeyed SoFar (form_of (part_place first.0) binding x) (λ form. Ok (Some form)) (of-keyed (part_place first.0) binding x) (λ form has. has))

  pub chained-keyed : (binding : Pairs) (step : ValueStep) (join : Join) → JoinsKeyed join → (count : ℕ) (values : Marked) (forms : List (Mark × Answer Form)) → EachHas PartHas forms → OkHas IsKeyed (chained binding step join count values forms)
  chained-keyed binding step join keyed count values forms all =
      then-has SoFar IsKeyed (prefix binding step (take count values)) (λ so_far. joined_forms join so_far (drop count forms)) (prefix-keyed binding step (take count values))
      (λ so_far so. joined-keyed join keyed so_far (drop count forms) so (drop-has PartHas count forms all))

  -- ---- expressions

  module _ {F : Type 0} (v : F → Number) (limit : ℕ) (state : State) where
    pub constant_at-keyed : (at : Place) (binding : Pairs) (e : tree.Tree F) → OkHas IsKeyed (form_of_constant v limit state at binding e)
    constant_at-keyed at binding e = after-has IsKeyed (value v limit state binding e) (form_of at binding) (of-keyed at binding)

    abbrev mutual
      -- under a binding the elements of the references pass, also under the labels of the elements
      -- of folds
      pub Passes : Pairs → tree.Tree F → Type 0
      Passes binding (tree.reference place name suffix indices) =
          OkHas (λ those. IsElement name (tuple_of those)) (in_order (labels v limit state binding indices))
      Passes binding (tree.fold_over place op control body) =
          OkHas (EachHas (λ element. Passes (controlled binding (sets_of control) element) body)) (domain v limit state binding place control)
      Passes binding (tree.negated operand) = Passes binding operand
      Passes binding (tree.sum parts) = EachPasses binding parts
      Passes binding (tree.product parts) = EachPasses binding parts
      Passes binding (tree.guarded operand guards) = Passes binding operand
      Passes binding e = Unit {0}

      pub EachPasses : Pairs → tree.Parts F → Type 0
      EachPasses binding tree.no_part = Unit {0}
      EachPasses binding (tree.part mark part rest) = Passes binding part × EachPasses binding rest

    elements-keyed : (place : Place) (op_sets : List ℕ) (binding : Pairs) (body : tree.Tree F) → ((element : List ℕ) → Passes (controlled binding op_sets element) body → OkHas IsKeyed (linear v limit state place (controlled binding op_sets element) body)) → (elements : List (List ℕ)) → EachHas (λ element. Passes (controlled binding op_sets element) body) elements → EachHas PartHas (map (λ element. (signed place false, linear v limit state place (controlled binding op_sets element) body)) elements)
    elements-keyed place sets binding body each [] all = tt
    elements-keyed place sets binding body each (element ∷ elements) all = (each element all.0, elements-keyed place sets binding body each elements all.1)

    mutual
      linear-keyed : (e : tree.Tree F) (at : Place) (binding : Pairs) → Passes binding e → OkHas IsKeyed (linear v limit state at binding e)
      linear-keyed (tree.reference place name suffix indices) at binding passes =
          then-has (λ those. IsElement name (tuple_of those)) IsKeyed (in_order (labels v limit state binding indices)) (λ those. Ok (element_form name (tuple_of those))) passes (λ those is. element-keyed name (tuple_of those) is)
      linear-keyed (tree.fold_over place op control body) at binding passes =
          let form : List ℕ → Mark × Answer Form = λ element. (signed place false, linear v limit state place (controlled binding (sets_of control) element) body) in
          then-has (EachHas (λ element. Passes (controlled binding (sets_of control) element) body)) IsKeyed (domain v limit state binding place control) (λ elements. joined_forms (plus limit binding) (Some zero_form) (map form elements)) passes
          (λ elements all. joined-keyed (plus limit binding) (plus-keyed limit binding) (Some zero_form) (map form elements) (constant-keyed (whole (pos 0)))
          (elements-keyed place (sets_of control) binding body (λ element has. linear-keyed body place (controlled binding (sets_of control) element) has) elements all))
      linear-keyed (tree.negated operand) at binding passes =
          then-has IsKeyed IsKeyed (linear v limit state at binding operand) (λ form. scaled_form limit at binding false form (neg_ℚ (whole (pos 1)))) (linear-keyed operand at binding passes) (λ form has. scaled-keyed limit at binding false form (neg_ℚ (whole (pos 1))) has)
      linear-keyed (tree.sum parts) at binding passes =
          chained-keyed binding (sum_step limit binding) (plus limit binding) (plus-keyed limit binding) (values_first state parts) (values v limit state binding parts) (forms v limit state binding parts) (forms-keyed parts binding passes)
      linear-keyed (tree.product parts) at binding passes =
          chained-keyed binding (product_step limit binding) (times limit binding) (times-keyed limit binding) (values_first state parts) (values v limit state binding parts) (forms v limit state binding parts) (forms-keyed parts binding passes)
      linear-keyed (tree.guarded operand guards) at binding passes =
          after-has IsKeyed (each_holds (unmarked (values v limit state binding guards))) (λ hold. if hold then linear v limit state at binding operand else Ok zero_form)
          (λ hold. either-has (OkHas IsKeyed) hold (linear v limit state at binding operand) (Ok zero_form) (linear-keyed operand at binding passes) (constant-keyed (whole (pos 0))))
      linear-keyed (tree.number n) at binding passes = constant_at-keyed at binding (tree.number n)
      linear-keyed tree.plus_infinity at binding passes = constant_at-keyed at binding tree.plus_infinity
      linear-keyed tree.not_available at binding passes = constant_at-keyed at binding tree.not_available
      linear-keyed tree.yes at binding passes = constant_at-keyed at binding tree.yes
      linear-keyed tree.no at binding passes = constant_at-keyed at binding tree.no
      linear-keyed (tree.place_in_set place set) at binding passes = constant_at-keyed at binding (tree.place_in_set place set)
      linear-keyed (tree.size_of_set place set) at binding passes = constant_at-keyed at binding (tree.size_of_set place set)
      linear-keyed (tree.call place function args) at binding passes = constant_at-keyed at binding (tree.call place function args)
      linear-keyed (tree.power parts) at binding passes = constant_at-keyed at binding (tree.power parts)
      linear-keyed (tree.relation parts) at binding passes = constant_at-keyed at binding (tree.relation parts)
      linear-keyed (tree.not_so operand) at binding passes = constant_at-keyed at binding (tree.not_so operand)
      linear-keyed (tree.all_of parts) at binding passes = constant_at-keyed at binding (tree.all_of parts)
      linear-keyed (tree.one_of parts) at binding passes = constant_at-keyed at binding (tree.one_of parts)

      forms-keyed : (parts : tree.Parts F) (binding : Pairs) → EachPasses binding parts → EachHas PartHas (forms v limit state binding parts)
      forms-keyed tree.no_part binding passes = tt
      forms-keyed (tree.part mark part rest) binding passes = (
        either-has (OkHas IsKeyed) (has_variables state part) (linear v limit state (part_place mark) binding part) (form_of_constant v limit state (part_place mark) binding part)
            (linear-keyed part (part_place mark) binding passes.0) (constant_at-keyed (part_place mark) binding part),
        forms-keyed rest binding passes.1,
      )

    pub affine-keyed : (e : tree.Tree F) (at : Place) (binding : Pairs) → Passes binding e → OkHas IsKeyed (affine v limit state at binding e)
    affine-keyed e at binding passes =
        either-has (OkHas IsKeyed) (has_variables state e) (linear v limit state at binding e) (form_of_constant v limit state at binding e) (linear-keyed e at binding passes) (constant_at-keyed at binding e)

-- ---- keys of names that pass a test

-- a key of a name that does
abbrev pub of_name : (ℕ → Bool) → Key → Bool
of_name test key = test key.symbol

module _ (test : ℕ → Bool) {F : Type 0} (v : F → Number) (limit : ℕ) (state : State) where
  pub element-named : (name : ℕ) (t : Option (List ℕ)) → test name ≡ true → IsElement (of_name test) name t
  element-named name None is = tt
  element-named name (Some t) is = is

  mutual
    -- where the names in an expression pass, the elements of its references do
    pub names-pass : (e : tree.Tree F) → Each test (names_in_tree e) → (binding : Pairs) → Passes (of_name test) v limit state binding e
    names-pass (tree.reference place name suffix indices) all binding =
        ok-any (λ those. IsElement (of_name test) name (tuple_of those)) (in_order (labels v limit state binding indices)) (λ those. element-named name (tuple_of those) all.0)
    names-pass (tree.fold_over place op control body) all binding =
        ok-any (EachHas (λ element. Passes (of_name test) v limit state (controlled binding (sets_of control) element) body)) (domain v limit state binding place control)
        (each-any (λ element. Passes (of_name test) v limit state (controlled binding (sets_of control) element) body) (λ element. names-pass body (each-right test (control_names control) (names_in_tree body) all) (controlled binding (sets_of control) element)))
    names-pass (tree.negated operand) all binding = names-pass operand all binding
    names-pass (tree.sum parts) all binding = parts-pass parts all binding
    names-pass (tree.product parts) all binding = parts-pass parts all binding
    names-pass (tree.guarded operand guards) all binding = names-pass operand (each-left test (names_in_tree operand) (part_names guards) all) binding
    names-pass (tree.number n) all binding = tt
    names-pass tree.plus_infinity all binding = tt
    names-pass tree.not_available all binding = tt
    names-pass tree.yes all binding = tt
    names-pass tree.no all binding = tt
    names-pass (tree.place_in_set place set) all binding = tt
    names-pass (tree.size_of_set place set) all binding = tt
    names-pass (tree.call place function args) all binding = tt
    names-pass (tree.power parts) all binding = tt
    names-pass (tree.relation parts) all binding = tt
    names-pass (tree.not_so operand) all binding = tt
    names-pass (tree.all_of parts) all binding = tt
    names-pass (tree.one_of parts) all binding = tt

    parts-pass : (parts : tree.Parts F) → Each test (part_names parts) → (binding : Pairs) → EachPasses (of_name test) v limit state binding parts
    parts-pass tree.no_part all binding = tt
    parts-pass (tree.part mark part rest) all binding =
        (names-pass part (each-left test (names_in_tree part) (part_names rest) all) binding, parts-pass rest (each-right test (names_in_tree part) (part_names rest) all) binding)
