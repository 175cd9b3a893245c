-- The labels of a reference's tuple, and that a traversal of its stored tuples finds its elements.
use Rattle.std.proofs.Common.{◌≡◌, ℕ, ◌<◌, ◌≤◌, zero, suc, Bool, true, false, not, ◌&&◌, ◌||◌, List, [], ◌∷◌, ◌++◌, map, take, get_or, length, slice_range, nat_le, nat_eq, pos, ◌==◌, Option, Some, None, option_map, Ok, Err, Box, IsOk, IfSome, is_some, if◌then◌else◌, refl, sym, ap, subst, ◌∙◌, eq-eqb, arith}
use Rattle.std.specs.List.{All, list_any, flat_map}
use Rattle.std.proofs.lemmas.List.Folds.{list_any-append}
use Rattle.std.proofs.lemmas.List.Elements.{All-head, All-tail}
use Rattle.std.specs.Ordering.{is_eq}
use Rattle.std.specs.declared.cmp.Ordering.{Ordering}
use Rattle.std.specs.declared.cmp.Ordering.TheVariants.{Less, Equal, Greater}
use Rattle.std.proofs.lemmas.Bool.{both_ways, or_parts}
use Rattle.std.proofs.lemmas.List.{get_or-map, length-map}
use Rattle.gq_number.specs.Number.{Number, whole}
use Rattle.gq_number.specs.Order.{number_cmp}
use Rattle.gq_number.proofs.Compares.{number_cmp_decides}
use Rattle.gq_extended.specs.Extended.{Extended, number, plus_infinity, minus_infinity, na, is_zero}
use Rattle.std.specs.declared.alloc.Global.{Global}
use Rattle.gms_labels.specs.declared.place.Place.{Place}
use Rattle.gms_ast.specs.declared.expression.LagOp.{LagOp}
use Rattle.gms_ast.specs.declared.expression.Expr.{Expr}
use Rattle.gms_ast.specs.declared.expression.Index.{Index, Set}
use Rattle.gms_tuple.specs.TupleOrder.{same_tuple, begins_with}
use Rattle.gms_tuple.specs.TupleSet.{has, those_with}
use Rattle.gms_tuple.proofs.Ordered.{same_tuple-Decides, same_tuple_refl}
use Rattle.gms_tuple.proofs.Members.{has-filter}
use Rattle.gms_store.specs.State.{State, Content, undeclared, alias_of, set_of, parameter_of, variable_of, equation_of, model_with, symbol_of, given_of, value_in, is_given, same_number, differs_in}
use Rattle.gms_eval.specs.Nodes.{in_order, is_so, truth}
use Rattle.gms_eval.specs.Bindings.{Pairs, label_of, paired, controlled}
use Rattle.gms_eval.specs.Domain.{elements}
use Rattle.gms_eval.specs.Faults.{Answer, nothing, ◌and_then◌}
use Rattle.gms_eval.specs.References.{all_there, tuple_of, plain_value}
use Rattle.gms_eval.specs.InnerLeading.{traversed, spread_over, plain_so, Leads, tuple_answer, entry_holds}
use Rattle.gms_eval.specs.Value.{label_answer}
use Rattle.gms_eval.specs.declared.traversals.Traversal.{Traversal}
use Rattle.gms_eval.proofs.Scanning.{nothing_not_so}
use Rattle.gms_eval.proofs.Shapes.{label-alone}
use Rattle.gms_eval.proofs.Zeros.{whole_zero}

-- ---- labels that are all there

-- a label that exists
abbrev pub there : ℕ → Answer (Option ℕ)
there label = Ok (Some label)

some-labels : (labels : List (Option ℕ)) (t : List ℕ) → all_there labels ≡ Some t → labels ≡ map Some t
some-labels [] [] e = refl
some-labels [] (l ∷ t) e = absurd cc
some-labels (None ∷ labels) t e = absurd cc
some-labels (Some label ∷ labels) t e = by (some-labels labels) (all_there labels) refl t e
  where
    by : ((t : List ℕ) → all_there labels ≡ Some t → labels ≡ map Some t) → (o : Option (List ℕ)) → all_there labels ≡ o → (t : List ℕ) → option_map (λ rest. label ∷ rest) o ≡ Some t → Some label ∷ labels ≡ map Some t
    by same None q t e = absurd cc
    by same (Some rest) q [] e = absurd cc
    by same (Some rest) q (l ∷ t) e =
        let first : label ≡ l = cc in
        let others : rest ≡ t = cc in
        ap (λ k. Some k ∷ labels) first ∙ ap (λ ls. Some l ∷ ls) (same t (q ∙ ap Some others))

few-labels : (labels : List (Option ℕ)) (t : List ℕ) → tuple_of labels ≡ Some t → labels ≡ map Some t
few-labels labels t e = by (nat_le (length labels) 10) e
  where
    by : (b : Bool) → (if b then all_there labels else None) ≡ Some t → labels ≡ map Some t
    by true e = some-labels labels t e
    by false e = absurd cc

all-ok : (answers : List (Answer (Option ℕ))) (t : List ℕ) → (in_order answers and_then λ those. Ok (tuple_of those)) ≡ Ok (Some t) → in_order answers ≡ Ok (map Some t)
all-ok answers t e = by (in_order answers) e
  where
    by : (a : Answer (List (Option ℕ))) → (a and_then λ those. Ok (tuple_of those)) ≡ Ok (Some t) → a ≡ Ok (map Some t)
    by (Ok those) e = let f : tuple_of those ≡ Some t = cc in ap Ok (few-labels those t f)
    by (Err fault) e = absurd cc

each-ok : (answers : List (Answer (Option ℕ))) (t : List ℕ) → in_order answers ≡ Ok (map Some t) → answers ≡ map there t
each-ok [] [] e = refl
each-ok [] (l ∷ t) e = absurd cc
each-ok (Err fault ∷ answers) t e = absurd cc
each-ok (Ok x ∷ answers) t e = by (each-ok answers) (in_order answers) refl t e
  where
    by : ((t : List ℕ) → in_order answers ≡ Ok (map Some t) → answers ≡ map there t) → (a : Answer (List (Option ℕ))) → in_order answers ≡ a → (t : List ℕ) → (a and_then λ xs. Ok (x ∷ xs)) ≡ Ok (map Some t) → Ok x ∷ answers ≡ map there t
    by same (Err fault) q t e = absurd cc
    by same (Ok xs) q [] e = absurd cc
    by same (Ok xs) q (l ∷ t) e =
        let first : x ≡ Some l = cc in
        let others : xs ≡ map Some t = cc in
        ap (λ y. Ok y ∷ answers) first ∙ ap (λ rest. there l ∷ rest) (same t (q ∙ ap Ok others))

-- if indices have a tuple, each of its labels exists
pub tuple-labels : (answers : List (Answer (Option ℕ))) (t : List ℕ) → (in_order answers and_then λ those. Ok (tuple_of those)) ≡ Ok (Some t) → answers ≡ map there t
tuple-labels answers t e = each-ok answers t (all-ok answers t e)

-- the label at a place of it
pub tuple-label : (answers : List (Answer (Option ℕ))) (t : List ℕ) (place label : ℕ) → place < length answers → (in_order answers and_then λ those. Ok (tuple_of those)) ≡ Ok (Some t) → get_or answers place (Ok None) ≡ there label → get_or t place 0 ≡ label
tuple-label answers t place label l e at =
    let same : answers ≡ map there t = tuple-labels answers t e in
    let long : length answers ≡ length t = ap length same ∙ length-map t there in
    let g : there (get_or t place 0) ≡ there label = sym (get_or-map there t place 0 (Ok None) (omega arith)) ∙ ap (λ xs. get_or xs place (Ok None)) (sym same) ∙ at in
    cc

pub tuple-length : (answers : List (Answer (Option ℕ))) (t : List ℕ) → (in_order answers and_then λ those. Ok (tuple_of those)) ≡ Ok (Some t) → length answers ≡ length t
tuple-length answers t e = ap length (tuple-labels answers t e) ∙ length-map t there

-- ---- the labels of a controlled binding

pub label-outside : (b more : Pairs) (set label : ℕ) → label_of b set ≡ Some label → label_of (b ++ more) set ≡ Some label
label-outside [] more set label e = absurd cc
label-outside (p ∷ b) more set label e = by (label-outside b more set label) (p.0 == set) e
  where
    by : (label_of b set ≡ Some label → label_of (b ++ more) set ≡ Some label) → (here : Bool) → (if here then Some p.1 else label_of b set) ≡ Some label → (if here then Some p.1 else label_of (b ++ more) set) ≡ Some label
    by rest true e = e
    by rest false e = rest e

pub label-inside : (b more : Pairs) (set : ℕ) → label_of b set ≡ None → label_of (b ++ more) set ≡ label_of more set
label-inside [] more set e = refl
label-inside (p ∷ b) more set e = by (label-inside b more set) (p.0 == set) e
  where
    by : (label_of b set ≡ None → label_of (b ++ more) set ≡ label_of more set) → (here : Bool) → (if here then Some p.1 else label_of b set) ≡ None → (if here then Some p.1 else label_of (b ++ more) set) ≡ label_of more set
    by rest true e = absurd cc
    by rest false e = rest e

-- the label of the first occurrence of a set
pub label-paired : (sets x : List ℕ) (k set : ℕ) → length x ≡ length sets → k < length sets → set ≡ get_or sets k 0 → list_any (λ y. nat_eq y set) (take k sets) ≡ false → label_of (paired sets x) set ≡ Some (get_or x k 0)
label-paired [] x k set long l at first = absurd (omega arith)
label-paired (s ∷ sets) [] k set long l at first = absurd (omega arith)
label-paired (s ∷ sets) (y ∷ x) zero set long l at first =
    ap (λ b. if b then Some y else label_of (paired sets x) set) (eq-eqb s set (sym at))
label-paired (s ∷ sets) (y ∷ x) (suc k) set long l at first =
    let parts = or_parts (nat_eq s set) (list_any (λ y. nat_eq y set) (take k sets)) first in
    ap (λ b. if b then Some y else label_of (paired sets x) set) parts.0
    ∙ label-paired sets x k set (omega arith) (omega arith) at parts.1

-- the label of a set without a lag that stands for one outside
pub constant-set : {F : Type 0} (v : F → Number) (limit : ℕ) (b : Pairs) (name : ℕ) (label : Option ℕ) (lag : Option (LagOp × Place × Box (Expr F) Global)) (index : Index F) → label ≡ label_of b name → index ≡ Set name lag → lag ≡ None → IfSome label (λ l. (state : State) (more : Pairs) → label_answer v limit state (b ++ more) index ≡ Ok (Some l))
constant-set v limit b name None lag index at is none = tt
constant-set v limit b name (Some l) lag index at is none =
    λ state more. ap (label_answer v limit state (b ++ more)) (is ∙ ap (Set name) none)
    ∙ label-alone v limit state (b ++ more) name
    ∙ ap Ok (label-outside b more name l (sym at))

-- ---- indices of which each has a label or none

labels-ok : {X Y : Type 0} (answer : X → Answer Y) (xs : List X) → All (λ x. IsOk (answer x)) xs → IsOk (in_order (map answer xs))
labels-ok answer [] all = refl
labels-ok {X} {Y} answer (x ∷ xs) all =
    by (answer x) (All-head (λ x. IsOk (answer x)) x xs all) (in_order (map answer xs)) (labels-ok answer xs (All-tail (λ x. IsOk (answer x)) x xs all))
  where
    by : (a : Answer Y) → IsOk a → (rest : Answer (List Y)) → IsOk rest → IsOk (a and_then λ y. rest and_then λ ys. Ok (y ∷ ys))
    by (Ok y) ok (Ok ys) others = refl
    by (Ok y) ok (Err fault) others = absurd cc
    by (Err fault) ok rest others = absurd cc

-- where each index has one, they have a tuple or none
pub plain-indices : {F : Type 0} (v : F → Number) (limit : ℕ) (state : State) (b : Pairs) (indices : List (Index F)) → All (λ index. IsOk (label_answer v limit state b index)) indices → IsOk (tuple_answer v limit state indices b)
plain-indices v limit state b indices all =
    by (in_order (map (label_answer v limit state b) indices)) (labels-ok (label_answer v limit state b) indices all)
  where
    by : (a : Answer (List (Option ℕ))) → IsOk a → IsOk (a and_then λ those. Ok (tuple_of those))
    by (Ok those) ok = refl
    by (Err fault) ok = absurd cc

-- the label of an index, where they have a tuple
pub index-label : {F : Type 0} (v : F → Number) (limit : ℕ) (state : State) (b : Pairs) (indices : List (Index F)) (place label : ℕ) (index : Index F) (t : List ℕ) → place < length indices → index ≡ get_or indices place index → label_answer v limit state b index ≡ Ok (Some label) → tuple_answer v limit state indices b ≡ Ok (Some t) → get_or t place 0 ≡ label
index-label v limit state b indices place label index t l at is e =
    let long = length-map indices (label_answer v limit state b) in
    tuple-label (map (label_answer v limit state b) indices) t place label (omega arith) e (get_or-map (label_answer v limit state b) indices place index (Ok None) l ∙ ap (label_answer v limit state b) (sym at) ∙ is)

-- their tuple has as many labels
pub indices-length : {F : Type 0} (v : F → Number) (limit : ℕ) (state : State) (b : Pairs) (indices : List (Index F)) (t : List ℕ) → tuple_answer v limit state indices b ≡ Ok (Some t) → length indices ≡ length t
indices-length v limit state b indices t e =
    sym (length-map indices (label_answer v limit state b)) ∙ tuple-length (map (label_answer v limit state b) indices) t e

no-some : {X : Type 0} (o : Option X) → is_some o ≡ false → o ≡ None
no-some None e = refl
no-some (Some x) e = absurd cc

-- the index whose label is that of the set at a position: the set has no label outside, and this is
-- its first occurrence
pub place-picks : {F : Type 0} (v : F → Number) (limit : ℕ) (b : Pairs) (sets : List ℕ) (indices : List (Index F)) (position : ℕ) (outside : Option ℕ) (place : Option ℕ) → position < length sets → outside ≡ label_of b (get_or sets position 0) → is_some outside ≡ false → list_any (λ y. nat_eq y (get_or sets position 0)) (take position sets) ≡ false → IfSome place (λ n. n < length indices) → IfSome place (λ n. (state : State) (binding : Pairs) → get_or (map (label_answer v limit state binding) indices) n (Ok None) ≡ Ok (label_of binding (get_or sets position 0))) → IfSome place (λ n. (state : State) (element tuple : List ℕ) → length element ≡ length sets → tuple_answer v limit state indices (controlled b sets element) ≡ Ok (Some tuple) → get_or tuple n 0 ≡ get_or element position 0)
place-picks v limit b sets indices position outside None l is none first within label = tt
place-picks v limit b sets indices position outside (Some n) l is none first within label =
    λ state element tuple long e. tuple-label (map (label_answer v limit state (controlled b sets element)) indices) tuple n (get_or element position 0) (let m = length-map indices (label_answer v limit state (controlled b sets element)) in omega arith) e (label state (controlled b sets element) ∙ ap Ok (label-inside b (paired sets element) (get_or sets position 0) (sym is ∙ no-some outside none) ∙ label-paired sets element position (get_or sets position 0) long l refl first))

-- from a fact about an option that has a value, the fact about the value
pub at-some : {X : Type 0} (P : X → Type 0) (o : Option X) (x : X) → o ≡ Some x → IfSome o P → P x
at-some P o x e h = subst (λ o. IfSome o P) e h

-- ---- prefixes

pub begins-taken : (t p : List ℕ) → p ≡ take (length p) t → begins_with t p ≡ true
begins-taken t p e = ap (same_tuple p) (sym e) ∙ same_tuple_refl p

-- ---- what is stored

number_equal : (o : Ordering) → is_eq o ≡ true → o ≡ Equal
number_equal Less e = absurd cc
number_equal Equal e = refl
number_equal Greater e = absurd cc

not-not : (b : Bool) → not b ≡ true → b ≡ true → ⊥
not-not true e f = absurd cc
not-not false e f = absurd cc

-- a value that is not 0 differs from an absent one
so-given : (x : Extended) → is_so x ≡ true → is_given x ≡ true
so-given (number x) so = by (same_number x (whole (pos 0))) refl
  where
    by : (b : Bool) → same_number x (whole (pos 0)) ≡ b → not b ≡ true
    by false e = refl
    by true e =
        let same : x ≡ whole (pos 0) = (number_cmp_decides x (whole (pos 0))).1.0 (number_equal (number_cmp x (whole (pos 0))) e) in
        absurd (not-not (is_zero x) so (ap is_zero same ∙ whole_zero))
so-given plus_infinity so = refl
so-given minus_infinity so = refl
so-given na so = refl

truth-so : (b : Bool) → is_so (truth b) ≡ true → b ≡ true
truth-so true e = refl
truth-so false e = absurd (both_ways (is_so nothing) nothing_not_so e)

-- where what a name has at a tuple is not 0 its entry is stored
pub so-differs : (state : State) (name : ℕ) (t : List ℕ) (content : Content) → (symbol_of state name).content ≡ content → is_so (plain_value state name content t) ≡ true → differs_in content t ≡ true
so-differs state name t (set_of members) is so = truth-so (has members t) so
so-differs state name t (parameter_of entries) is so =
    so-given (value_in (parameter_of entries) t) (ap (λ c. is_so (value_in c t)) (sym is) ∙ so)
so-differs state name t undeclared is so =
    absurd (both_ways (is_so nothing) nothing_not_so (ap (λ c. is_so (value_in c t)) (sym is) ∙ so))
so-differs state name t (alias_of base) is so =
    absurd (both_ways (is_so nothing) nothing_not_so (ap (λ c. is_so (value_in c t)) (sym is) ∙ so))
so-differs state name t (variable_of type entries) is so =
    absurd (both_ways (is_so nothing) nothing_not_so (ap (λ c. is_so (value_in c t)) (sym is) ∙ so))
so-differs state name t (equation_of entries) is so =
    absurd (both_ways (is_so nothing) nothing_not_so (ap (λ c. is_so (value_in c t)) (sym is) ∙ so))
so-differs state name t (model_with model solver) is so =
    absurd (both_ways (is_so nothing) nothing_not_so (ap (λ c. is_so (value_in c t)) (sym is) ∙ so))

-- ---- traversals

-- what one of them makes is among what all make
pub has-flat_map : (f : List ℕ → List (List ℕ)) (xs : List (List ℕ)) (x t : List ℕ) → has xs x ≡ true → has (f x) t ≡ true → has (flat_map f xs) t ≡ true
has-flat_map f [] x t e there = absurd cc
has-flat_map f (y ∷ xs) x t e there =
    list_any-append (λ member. same_tuple member t) (f y) (flat_map f xs) ∙ by (has-flat_map f xs x t) (same_tuple y x) refl e
  where
    or-true : (b : Bool) → (b || true) ≡ true
    or-true true = refl
    or-true false = refl

    by : (has xs x ≡ true → has (f x) t ≡ true → has (flat_map f xs) t ≡ true) → (b : Bool) → same_tuple y x ≡ b → (b || has xs x) ≡ true → (has (f y) t || has (flat_map f xs) t) ≡ true
    by rest true same _ =
        ap (λ z. has (f z) t || has (flat_map f xs) t) ((same_tuple-Decides y x).0 same)
        ∙ ap (λ b. b || has (flat_map f xs) t) there
    by rest false other later = ap (λ b. has (f y) t || b) (rest later there) ∙ or-true (has (f y) t)

module _ {F : Type 0} (v : F → Number) (limit : ℕ) (state : State) (b : Pairs) (sets : List ℕ) (name : ℕ) (indices : List (Index F)) where
  -- a traversal of the stored tuples that begin with the labels from outside, where each tuple
  -- gives the elements with its labels
  pub leads-by : (traversal : Traversal) (prefix : List ℕ) (given : List (List ℕ)) → traversal.name ≡ name → given ≡ given_of state name → ((t : List ℕ) → has given t ≡ differs_in (symbol_of state name).content t) → traversal.from ≤ traversal.upto → traversal.upto ≤ length given → slice_range given traversal.from traversal.upto ≡ those_with given prefix → length traversal.places.items ≡ length sets → length sets ≤ 10 → traversal.spread ≡ length (elements state traversal.free.items) → ((binding : Pairs) → IsOk (tuple_answer v limit state indices binding)) → ((more : Pairs) (t : List ℕ) → tuple_answer v limit state indices (b ++ more) ≡ Ok (Some t) → begins_with t prefix ≡ true) → ((x t : List ℕ) → has (elements state sets) x ≡ true → tuple_answer v limit state indices (controlled b sets x) ≡ Ok (Some t) → has (spread_over state traversal.free.items traversal.places.items t) x ≡ true) → Leads state b sets (entry_holds v limit state name indices) traversal
  leads-by traversal prefix given same_name same_given differs from_upto within range covers few counted ok begins spreads =
      record {
        few = omega arith;
        range = from_upto;
        within = rw (same_name, ← same_given) within;
        counted = counted;
        needed = λ x there out. by x there out (tuple_answer v limit state indices (controlled b sets x)) refl (ok (controlled b sets x));
      }
    where
      stored : (x t : List ℕ) → has (elements state sets) x ≡ true → tuple_answer v limit state indices (controlled b sets x) ≡ Ok (Some t) → is_so (plain_value state name (symbol_of state name).content t) ≡ true → has (traversed state traversal) x ≡ true
      stored x t there e so =
          let kept : has given t ≡ true = differs t ∙ so-differs state name t (symbol_of state name).content refl so in
          let first : begins_with t prefix ≡ true = begins (paired sets x) t e in
          let with_prefix : has (those_with given prefix) t ≡ true = has-filter (λ member. begins_with member prefix) given t ∙ ap (λ c. c && begins_with t prefix) kept ∙ first in
          let in_range : has (slice_range given traversal.from traversal.upto) t ≡ true = ap (λ ts. has ts t) range ∙ with_prefix in
          let at_traversal : has (slice_range (given_of state traversal.name) traversal.from traversal.upto) t ≡ true = ap (λ n. has (slice_range (given_of state n) traversal.from traversal.upto) t) same_name ∙ ap (λ ts. has (slice_range ts traversal.from traversal.upto) t) (sym same_given) ∙ in_range in
          has-flat_map (spread_over state traversal.free.items traversal.places.items) (slice_range (given_of state traversal.name) traversal.from traversal.upto) t x at_traversal (spreads x t there e)

      at_tuple : (x t : List ℕ) → has (elements state sets) x ≡ true → tuple_answer v limit state indices (controlled b sets x) ≡ Ok (Some t) → has (traversed state traversal) x ≡ false → (so : Bool) → is_so (plain_value state name (symbol_of state name).content t) ≡ so → so ≡ false
      at_tuple x t there e out true so = absurd (both_ways (has (traversed state traversal) x) out (stored x t there e so))
      at_tuple x t there e out false so = refl

      by : (x : List ℕ) → has (elements state sets) x ≡ true → has (traversed state traversal) x ≡ false → (a : Answer (Option (List ℕ))) → tuple_answer v limit state indices (controlled b sets x) ≡ a → IsOk a → (tuple_answer v limit state indices (controlled b sets x) and_then λ tuple. Ok (plain_so state name tuple)) ≡ Ok false
      by x there out (Err fault) e ok = absurd cc
      by x there out (Ok None) e ok = ap (λ a. a and_then λ tuple. Ok (plain_so state name tuple)) e ∙ ap Ok nothing_not_so
      by x there out (Ok (Some t)) e ok =
          ap (λ a. a and_then λ tuple. Ok (plain_so state name tuple)) e
          ∙ ap Ok (at_tuple x t there e out (is_so (plain_value state name (symbol_of state name).content t)) refl)
