-- The affine form of an expression, by those of its parts.
use Rattle.std.proofs.Common.{◌≡◌, ℕ, pos, Bool, true, false, if◌then◌else◌, List, [], ◌∷◌, map, take, drop, length, Option, Some, None, option_map, Ok, Vec, Box, refl, sym, ap, ◌∙◌, arith}
use Rattle.std.specs.declared.alloc.Global.{Global}
use Rattle.std.specs.FinMap as finite
use Rattle.std.proofs.lemmas.List.{take-map, drop-map}
use Rattle.gms_labels.specs.declared.place.Place.{Place}
use Rattle.gq_number.specs.Number.{Number, whole, neg_ℚ}
use Rattle.gq_extended.specs.Extended.{Extended}
use Rattle.gms_ast.specs.declared.expression.Suffix.{Suffix}
use Rattle.gms_ast.specs.declared.expression.FoldOp.{FoldOp}
use Rattle.gms_ast.specs.declared.expression.Index.{Index}
use Rattle.gms_ast.specs.declared.expression.Control.{Control as ControlNode}
use Rattle.gms_ast.specs.declared.expression.Expr.{Expr, Ref, Fold, Neg, Plus, Times, Guard}
use Rattle.gms_ast.specs.Trees as tree
use Rattle.gms_ast.specs.TreeView.{tree_of, control_tree, index_tree, indices_of}
use Rattle.gms_ast.proofs.TreeEquations.{tree_of-Ref, tree_of-Fold, tree_of-Neg, tree_of-Plus, tree_of-Times, tree_of-Guard}
use Rattle.gms_store.specs.State.{State}
use Rattle.gms_eval.specs.declared.steps.Signed.{Signed}
use Rattle.gms_eval.specs.declared.steps.Signed.TheVariants as signs
use Rattle.gms_eval.specs.Nodes.{chain, in_order, each_holds, signed_step}
use Rattle.gms_eval.specs.Bindings.{Pairs, controlled}
use Rattle.gms_eval.specs.Faults.{Answer, ◌and_then◌}
use Rattle.gms_eval.specs.References.{tuple_of}
use Rattle.gms_eval.specs.Value.{value, values, labels, domain, sets_of, label_answer}
use Rattle.gms_eval.proofs.Answering.{and_then_assoc}
use Rattle.gms_eval.proofs.NodeValues.{of_expr}
use Rattle.gms_eval.proofs.TreeValues.{values-parts_of, unmarked-parts_of, labels-indices_of}
use Rattle.lp_form.specs.declared.key.Key.{Key}
use Rattle.lp_form.specs.Keys.{key_cmp}
use Rattle.lp_form.specs.Affine.{Affine as OwnForm}
use Rattle.gms_rows.specs.Affine.{has_variables, values_first, form_of, prefix, plus, with_next, joined_forms, chained, element_form, form_of_constant, linear, forms, affine}
use Rattle.gms_rows.specs.Forms.{Form, form_in, keyed, constant_form, zero_form, column_form, scaled_form, sum_of_forms, product_of_forms, quotient_of}
use Rattle.gms_rows.specs.InnerContracts.{parts_in, signed_join, chain_form, total_form}
use Rattle.gms_rows.proofs.Joins.{from_here}

-- ---- kinds of nodes

module _ {F : Type 0} (v : F → Number) (limit : ℕ) (state : State) where
  -- the form of an expression with variables, and of one without
  pub affine-has : (at : Place) (b : Pairs) (e : tree.Tree F) → has_variables state e ≡ true → affine v limit state at b e ≡ linear v limit state at b e
  affine-has at b e has = ap (λ h. if h then linear v limit state at b e else form_of_constant v limit state at b e) has

  pub affine-none : (at : Place) (b : Pairs) (e : tree.Tree F) → has_variables state e ≡ false → affine v limit state at b e ≡ form_of_constant v limit state at b e
  affine-none at b e has = ap (λ h. if h then linear v limit state at b e else form_of_constant v limit state at b e) has

  -- the form of an element of a variable
  abbrev pub variable_answer : Pairs → ℕ → tree.Indices F → Answer Form
  variable_answer b name indices = in_order (labels v limit state b indices) and_then λ those. Ok (element_form name (tuple_of those))

  -- the form of a node of the program, where it has variables
  module _ (at : Place) (b : Pairs) (e : Expr F) (has : has_variables state (tree_of e) ≡ true) where
    meaning : (t : tree.Tree F) → tree_of e ≡ t → affine v limit state at b (tree_of e) ≡ linear v limit state at b t
    meaning t is = affine-has at b (tree_of e) has ∙ ap (linear v limit state at b) is

    pub form-Ref : (place : Place) (name : ℕ) (suffix : Suffix) (indices : Vec (Index F) Global) → e ≡ Ref place name suffix indices → affine v limit state at b (tree_of e) ≡ variable_answer b name (indices_of (map index_tree indices.items))
    form-Ref place name suffix indices is =
        meaning (tree.reference place name suffix (indices_of (map index_tree indices.items))) (ap tree_of is ∙ tree_of-Ref place name suffix indices)

    pub form-Fold : (place : Place) (op : FoldOp) (control : ControlNode F) (body : Box (Expr F) Global) → e ≡ Fold place op control body → affine v limit state at b (tree_of e) ≡ total_form v limit state place b (control_tree control) (tree_of body.value)
    form-Fold place op control body is =
        let tree-is = ap tree_of is ∙ tree_of-Fold place op control body in
        let body-has : has_variables state (tree_of body.value) ≡ true = sym (ap (has_variables state) tree-is) ∙ has in
        meaning (tree.fold_over place op (control_tree control) (tree_of body.value)) tree-is
        ∙ ap (λ (answer : List ℕ → Answer Form). domain v limit state b place (control_tree control) and_then λ elements. joined_forms (plus limit b) (Some zero_form) (map (λ element. (tree.signed place false, answer element)) elements)) (λ i element. sym (affine-has place (controlled b (sets_of (control_tree control)) element) (tree_of body.value) body-has) i)

    pub form-Neg : (inner : Box (Expr F) Global) → e ≡ Neg inner → affine v limit state at b (tree_of e) ≡ (affine v limit state at b (tree_of inner.value) and_then λ form. scaled_form limit at b false form (neg_ℚ (whole (pos 1))))
    form-Neg inner is =
        let tree-is = ap tree_of is ∙ tree_of-Neg inner in
        let inner-has : has_variables state (tree_of inner.value) ≡ true = sym (ap (has_variables state) tree-is) ∙ has in
        meaning (tree.negated (tree_of inner.value)) tree-is
        ∙ ap (λ a. a and_then λ form. scaled_form limit at b false form (neg_ℚ (whole (pos 1)))) (sym (affine-has at b (tree_of inner.value) inner-has))

    pub form-Plus : (parts : Vec (Place × Bool × Expr F) Global) → e ≡ Plus parts → affine v limit state at b (tree_of e) ≡ chain_form v limit state b signs.Sum (parts_in parts.items)
    form-Plus parts is = meaning (tree.sum (parts_in parts.items)) (ap tree_of is ∙ tree_of-Plus parts)

    pub form-Times : (parts : Vec (Place × Bool × Expr F) Global) → e ≡ Times parts → affine v limit state at b (tree_of e) ≡ chain_form v limit state b signs.Product (parts_in parts.items)
    form-Times parts is = meaning (tree.product (parts_in parts.items)) (ap tree_of is ∙ tree_of-Times parts)

    pub form-Guard : (inner : Box (Expr F) Global) (guards : Vec (Expr F) Global) → e ≡ Guard inner guards → affine v limit state at b (tree_of e) ≡ (each_holds (map (of_expr v limit state b) guards.items) and_then λ hold. if hold then affine v limit state at b (tree_of inner.value) else Ok zero_form)
    form-Guard inner guards is =
        let tree-is = ap tree_of is ∙ tree_of-Guard inner guards in
        let inner-has : has_variables state (tree_of inner.value) ≡ true = sym (ap (has_variables state) tree-is) ∙ has in
        meaning _ tree-is
        ∙ ap (λ answers. each_holds answers and_then λ hold. if hold then linear v limit state at b (tree_of inner.value) else Ok zero_form) (unmarked-parts_of v limit state b (λ _. tree.plain) tree_of guards.items)
        ∙ ap (λ a. each_holds (map (of_expr v limit state b) guards.items) and_then λ hold. if hold then a else Ok zero_form) (sym (affine-has at b (tree_of inner.value) inner-has))

-- ---- sums and products

-- the mark of a part
abbrev pub part_mark : {F : Type 0} → Place × Bool × Expr F → tree.Mark
part_mark p = tree.signed p.0 p.1

module _ {F : Type 0} (v : F → Number) (limit : ℕ) (state : State) (b : Pairs) where
  -- the form of a part, and its value
  abbrev pub part_form : Place × Bool × Expr F → Answer Form
  part_form p = affine v limit state p.0 b (tree_of p.2)

  abbrev pub part_value : Place × Bool × Expr F → Answer Extended
  part_value p = value v limit state b (tree_of p.2)

  forms-parts : (parts : List (Place × Bool × Expr F)) → forms v limit state b (parts_in parts) ≡ map (λ p. (part_mark p, part_form p)) parts
  forms-parts [] = refl
  forms-parts (p ∷ parts) = ap (λ those. (part_mark p, part_form p) ∷ those) (forms-parts parts)

  -- the form of the parts from here on, joined to the form so far
  abbrev pub following : Signed → List (Place × Bool × Expr F) → Option Form → Answer Form
  following kind rest so_far = from_here (signed_join limit b kind) part_mark part_form so_far rest

  abbrev pub prefix_form : Signed → List (Place × Bool × Expr F) → Answer (Option Form)
  prefix_form kind parts = prefix b (signed_step limit b kind) (map (λ p. (part_mark p, part_value p)) parts)

  -- a sum or a product by its parts before the first with variables, and the others
  pub chain-is : (kind : Signed) (parts before rest : List (Place × Bool × Expr F)) (n : ℕ) → n ≡ values_first state (parts_in parts) → before ≡ take n parts → rest ≡ drop n parts → chain_form v limit state b kind (parts_in parts) ≡ (prefix_form kind before and_then following kind rest)
  chain-is kind parts before rest n count before-is rest-is =
      ap (λ k. chained b (signed_step limit b kind) (signed_join limit b kind) k (values v limit state b (parts_in parts)) (forms v limit state b (parts_in parts))) (sym count)
      ∙ ap (λ vs. chained b (signed_step limit b kind) (signed_join limit b kind) n vs (forms v limit state b (parts_in parts))) (values-parts_of v limit state b (λ (p : Place × Bool × Expr F). tree.signed p.0 p.1) (λ p. tree_of p.2) parts)
      ∙ ap (λ fs. chained b (signed_step limit b kind) (signed_join limit b kind) n (map (λ p. (part_mark p, part_value p)) parts) fs) (forms-parts parts)
      ∙ ap (λ vs. prefix b (signed_step limit b kind) vs and_then λ so_far. joined_forms (signed_join limit b kind) so_far (drop n (map (λ p. (part_mark p, part_form p)) parts))) (take-map (λ p. (part_mark p, part_value p)) n parts)
      ∙ ap (λ fs. prefix_form kind (take n parts) and_then λ so_far. joined_forms (signed_join limit b kind) so_far fs) (drop-map (λ p. (part_mark p, part_form p)) n parts)
      ∙ ap (λ ps. prefix_form kind ps and_then following kind (drop n parts)) (sym before-is)
      ∙ ap (λ ps. prefix_form kind before and_then following kind ps) (sym rest-is)

  -- no parts before the first with variables
  pub prefix-none : (kind : Signed) (parts : List (Place × Bool × Expr F)) → length parts ≡ 0 → prefix_form kind parts ≡ Ok None
  prefix-none kind [] none = refl
  prefix-none kind (p ∷ parts) none = absurd (omega arith)

  -- some parts before the first with variables
  abbrev pub numbered : Place → Extended → Answer (Option Form)
  numbered place x = form_of place b x and_then λ form. Ok (Some form)

  pub prefix-some : (kind : Signed) (parts rest : List (Place × Bool × Expr F)) (p : Place × Bool × Expr F) → parts ≡ p ∷ rest → prefix_form kind parts ≡ (chain (signed_step limit b kind) (map (λ q. (part_mark q, part_value q)) parts) and_then numbered p.0)
  prefix-some kind parts rest p is =
      ap (prefix_form kind) is
      ∙ ap (λ ps. chain (signed_step limit b kind) (map (λ q. (part_mark q, part_value q)) ps) and_then numbered p.0) (sym is)

module _ {F : Type 0} (v : F → Number) (limit : ℕ) (b : Pairs) (kind : Signed) (so_far : Option (OwnForm F)) (left : OwnForm F) (form : Form) (at : Place) (inverse : Bool) (some : so_far ≡ Some left) where
  -- the next part by its step
  abbrev pub next_answer : Answer Form
  next_answer = with_next (signed_join limit b kind) (tree.signed at inverse) (option_map (form_in v) so_far) form

  joins : next_answer ≡ signed_join limit b kind (tree.signed at inverse) (form_in v left) form
  joins = ap (λ o. with_next (signed_join limit b kind) (tree.signed at inverse) (option_map (form_in v) o) form) some

  pub next-sum : kind ≡ signs.Sum → next_answer ≡ sum_of_forms limit at b inverse (form_in v left) form
  next-sum is = joins ∙ ap (λ k. signed_join limit b k (tree.signed at inverse) (form_in v left) form) is

  pub next-over : kind ≡ signs.Product → inverse ≡ true → next_answer ≡ quotient_of limit at b (form_in v left) form.constant
  next-over is over =
      joins
      ∙ ap (λ k. signed_join limit b k (tree.signed at inverse) (form_in v left) form) is
      ∙ ap (λ d. if d then quotient_of limit at b (form_in v left) form.constant else product_of_forms limit at b (form_in v left) form) over

  pub next-times : kind ≡ signs.Product → inverse ≡ false → next_answer ≡ product_of_forms limit at b (form_in v left) form
  next-times is over =
      joins
      ∙ ap (λ k. signed_join limit b k (tree.signed at inverse) (form_in v left) form) is
      ∙ ap (λ d. if d then quotient_of limit at b (form_in v left) form.constant else product_of_forms limit at b (form_in v left) form) over

-- ---- elements of variables

module _ {F : Type 0} (v : F → Number) where
  -- the form of one key shows the form of an element
  pub column-shows : (form : OwnForm F) (key : Key) → v form.constant ≡ whole (pos 0) → form.keys ≡ key ∷ [] → map v form.numbers ≡ whole (pos 1) ∷ [] → column_form key ≡ form_in v form
  column-shows form key constant keys numbers =
      let those = one form.numbers numbers ∙ ap (λ ks. finite.from_entries {R = key_cmp} (keyed v ks form.numbers)) (sym keys) in
      λ i. record { constant = sym constant i; numbers = those i }
    where
      one : (numbers : List F) → map v numbers ≡ whole (pos 1) ∷ [] → finite.insert {R = key_cmp} finite.empty key (whole (pos 1)) ≡ finite.from_entries {R = key_cmp} (keyed v (key ∷ []) numbers)
      one [] e = absurd (cc)
      one (x ∷ xs) e = let is : whole (pos 1) ≡ v x = cc in ap (finite.insert {R = key_cmp} finite.empty key) is

  -- the form of a number alone shows a constant
  pub constant-shows : (form : OwnForm F) (x : Number) → v form.constant ≡ x → form.keys ≡ [] → constant_form x ≡ form_in v form
  constant-shows form x constant keys =
      let those = ap (λ ks. finite.from_entries {R = key_cmp} (keyed v ks form.numbers)) (sym keys) in
      λ i. record { constant = sym constant i; numbers = those i }

module _ {F : Type 0} (v : F → Number) (limit : ℕ) (state : State) (b : Pairs) (name : ℕ) (indices : List (Index F)) where
  abbrev pub tuple_answer : Answer (Option (List ℕ))
  tuple_answer = in_order (map (label_answer v limit state b) indices) and_then λ those. Ok (tuple_of those)

  -- the element of a variable, by its tuple
  pub variable-is : variable_answer v limit state b name (indices_of (map index_tree indices)) ≡ (tuple_answer and_then λ t. Ok (element_form name t))
  variable-is =
      ap (λ those. in_order those and_then λ labels. Ok (element_form name (tuple_of labels))) (labels-indices_of v limit state b indices)
      ∙ sym (and_then_assoc (in_order (map (label_answer v limit state b) indices)) (λ those. Ok (tuple_of those)) (λ t. Ok (element_form name t)))

-- a choice by a condition that is given
pub chosen-so : {A : Type 0} (a : Answer Bool) (hold : Bool) (x y : Answer A) → a ≡ Ok hold → hold ≡ true → (a and_then λ h. if h then x else y) ≡ x
chosen-so a hold x y e so = ap (λ b. b and_then λ h. if h then x else y) e ∙ ap (λ h. if h then x else y) so

pub chosen-not : {A : Type 0} (a : Answer Bool) (hold : Bool) (x y : Answer A) → a ≡ Ok hold → hold ≡ false → (a and_then λ h. if h then x else y) ≡ y
chosen-not a hold x y e so = ap (λ b. b and_then λ h. if h then x else y) e ∙ ap (λ h. if h then x else y) so
