-- The numbers that values mean determine the values, and so what is made of values: trees of
-- expressions, data, and what options are set to.
use Rattle.std.proofs.Common.{◌≡◌, Bool, true, false, List, [], ◌∷◌, map, Option, Some, None, option_map, refl, ap, ap₂}
use Rattle.std.specs.Prelude.{pos}
use Rattle.gq_number.specs.Number.{Number, whole}
use Rattle.gq_field.specs.Fits.{fits}
use Rattle.gq_frac.specs.declared.frac.Frac.{Frac}
use Rattle.gq_frac.specs.Frac.{frac_value, frac_within, frac_same_value, frac_each_number, frac_limit}
use Rattle.gq_extended.specs.declared.extended.Ext.{Ext}
use Rattle.gq_extended.specs.declared.extended.Ext.TheVariants as extended
use Rattle.gms_ast.specs.declared.declaration.Decl.{Decl}
use Rattle.gms_ast.specs.declared.declaration.Item.{Item}
use Rattle.gms_ast.specs.declared.expression.Expr.{Expr}
use Rattle.gms_ast.specs.declared.program.Setting.{Setting}
use Rattle.gms_ast.specs.declared.program.Setting.TheVariants as setting
use Rattle.gms_ast.specs.declared.word.Word.{Word}
use Rattle.gms_ast.specs.Numbers.{in_numbers, parts_in_numbers, indices_in_numbers, control_in_numbers}
use Rattle.gms_ast.specs.StatementView.{extended_in, item_in, declared_in, setting_in, shown_tree}
use Rattle.gms_ast.specs.Trees.{Tree, number, plus_infinity, not_available, yes, no, reference, place_in_set, size_of_set, call, fold_over, negated, sum, product, power, relation, not_so, all_of, one_of, guarded, Parts, no_part, part, Indices, no_index, label, set, lagged, Control, over, over_where}
use Rattle.gms_ast.specs.TreeView.{tree_of}

-- ---- values

-- 0 is the number of a value
pub zero_fits : fits frac_limit (whole (pos 0)) ≡ true
unfolding whole
zero_fits = refl

-- the value that means a number, where the number fits
abbrev value_where : (x : Number) (b : Bool) → fits frac_limit x ≡ b → Frac
value_where x true e = (frac_each_number x e).0
value_where x false e = (frac_each_number (whole (pos 0)) zero_fits).0

abbrev pub value_of : Number → Frac
value_of x = value_where x (fits frac_limit x) refl

pub value_back : (v : Frac) → value_of (frac_value v) ≡ v
value_back v = by (fits frac_limit (frac_value v)) refl
  where
    by : (b : Bool) (e : fits frac_limit (frac_value v) ≡ b) → value_where (frac_value v) b e ≡ v
    by true e = frac_same_value (value_where (frac_value v) true e) v (frac_each_number (frac_value v) e).1
    by false e = let within : fits frac_limit (frac_value v) ≡ true = frac_within v in absurd cc

-- ---- trees

mutual
  pub tree_back : (t : Tree Frac) → in_numbers value_of (in_numbers frac_value t) ≡ t
  tree_back (number v) = ap (λ (x : Frac). number x) (value_back v)
  tree_back plus_infinity = refl
  tree_back not_available = refl
  tree_back yes = refl
  tree_back no = refl
  tree_back (reference at name suffix indices) = ap (λ (is : Indices Frac). reference at name suffix is) (indices_back indices)
  tree_back (place_in_set at name) = refl
  tree_back (size_of_set at name) = refl
  tree_back (call at function args) = ap (λ (ps : Parts Frac). call at function ps) (parts_back args)
  tree_back (fold_over at op control body) = ap₂ (λ (c : Control Frac) (t : Tree Frac). fold_over at op c t) (control_back control) (tree_back body)
  tree_back (negated operand) = ap (λ (t : Tree Frac). negated t) (tree_back operand)
  tree_back (sum parts) = ap (λ (ps : Parts Frac). sum ps) (parts_back parts)
  tree_back (product parts) = ap (λ (ps : Parts Frac). product ps) (parts_back parts)
  tree_back (power parts) = ap (λ (ps : Parts Frac). power ps) (parts_back parts)
  tree_back (relation parts) = ap (λ (ps : Parts Frac). relation ps) (parts_back parts)
  tree_back (not_so operand) = ap (λ (t : Tree Frac). not_so t) (tree_back operand)
  tree_back (all_of parts) = ap (λ (ps : Parts Frac). all_of ps) (parts_back parts)
  tree_back (one_of parts) = ap (λ (ps : Parts Frac). one_of ps) (parts_back parts)
  tree_back (guarded operand guards) = ap₂ (λ (t : Tree Frac) (ps : Parts Frac). guarded t ps) (tree_back operand) (parts_back guards)

  pub parts_back : (parts : Parts Frac) → parts_in_numbers value_of (parts_in_numbers frac_value parts) ≡ parts
  parts_back no_part = refl
  parts_back (part mark tree rest) = ap₂ (λ (t : Tree Frac) (ps : Parts Frac). part mark t ps) (tree_back tree) (parts_back rest)

  pub indices_back : (indices : Indices Frac) → indices_in_numbers value_of (indices_in_numbers frac_value indices) ≡ indices
  indices_back no_index = refl
  indices_back (label n rest) = ap (λ (is : Indices Frac). label n is) (indices_back rest)
  indices_back (set name rest) = ap (λ (is : Indices Frac). set name is) (indices_back rest)
  indices_back (lagged name op at amount rest) = ap₂ (λ (t : Tree Frac) (is : Indices Frac). lagged name op at t is) (tree_back amount) (indices_back rest)

  pub control_back : (control : Control Frac) → control_in_numbers value_of (control_in_numbers frac_value control) ≡ control
  control_back (over sets) = refl
  control_back (over_where sets condition) = ap (λ (t : Tree Frac). over_where sets t) (tree_back condition)

-- a condition, if there is one
pub condition_back : (condition : Option (Expr Frac)) → option_map (in_numbers value_of) (option_map (shown_tree frac_value) condition) ≡ option_map tree_of condition
condition_back None = refl
condition_back (Some e) = ap (λ (t : Tree Frac). Some t) (tree_back (tree_of e))

-- ---- data and options

each_back : {A B : Type 0} (there : A → B) (back : B → A) → ((x : A) → back (there x) ≡ x) → (xs : List A) → map back (map there xs) ≡ xs
each_back there back same [] = refl
each_back {A} there back same (x ∷ xs) = ap₂ (λ (y : A) (ys : List A). y ∷ ys) (same x) (each_back there back same xs)

extended_back : (x : Ext Frac) → extended_in value_of (extended_in frac_value x) ≡ x
extended_back (extended.Number v) = ap (λ (x : Frac). extended.Number x) (value_back v)
extended_back extended.PlusInf = refl
extended_back extended.MinusInf = refl
extended_back extended.Na = refl

datum_back : (x : Option (Ext Frac)) → option_map (extended_in value_of) (option_map (extended_in frac_value) x) ≡ x
datum_back None = refl
datum_back (Some x) = ap (λ (y : Ext Frac). Some y) (extended_back x)

item_back : (item : Item Frac) → item_in value_of (item_in frac_value item) ≡ item
item_back item =
    ap (λ (x : Option (Ext Frac)). record { at = item.at; parts = item.parts; value = x; bad_range = item.bad_range }) (datum_back item.value)

declared_back : (item : Decl Frac) → declared_in value_of (declared_in frac_value item) ≡ item
declared_back item =
    ap (λ (items : List (Item Frac)). record { named = item.named; domain = item.domain; items = items }) (each_back (item_in frac_value) (item_in value_of) item_back item.items)

-- names that are declared
pub declarations_back : (items : List (Decl Frac)) → map (declared_in value_of) (map (declared_in frac_value) items) ≡ items
declarations_back = each_back (declared_in frac_value) (declared_in value_of) declared_back

-- an option, over what numbers mean
abbrev pub option_in : {A B : Type 0} → (A → B) → Word × Setting A → Word × Setting B
option_in value option = (option.0, setting_in value option.1)

option_back : (option : Word × Setting Frac) → option_in value_of (option_in frac_value option) ≡ option
option_back (word, setting.Number at v) = ap (λ (x : Frac). (word, setting.Number at x)) (value_back v)
option_back (word, setting.Name name) = refl

-- options
pub options_back : (options : List (Word × Setting Frac)) → map (option_in value_of) (map (option_in frac_value) options) ≡ options
options_back = each_back (option_in frac_value) (option_in value_of) option_back
