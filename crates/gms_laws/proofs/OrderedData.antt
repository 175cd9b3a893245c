-- Data whose tuples ascend and are within their domains have no error: no tuple is given twice.
use Rattle.std.proofs.lemmas.Bool.{and_parts, not-true}
use Rattle.std.proofs.Common.{◌≡◌, ℕ, ◌+◌, ◌≤◌, ◌&&◌, ◌||◌, Bool, true, false, not, nat_lt, nat_le, List, [], ◌∷◌, ◌++◌, length, Option, Some, None, Ok, if◌then◌else◌, refl, sym, ap, ap₂, ◌∙◌, subst, arith, append-nil, append_assoc, ltb-true, leb-true, length-append}
use Rattle.std.specs.declared.cmp.Ordering.{Ordering}
use Rattle.std.specs.declared.cmp.Ordering.TheVariants.{Less, Equal, Greater}
use Rattle.std.specs.Ordering.{is_lt}
use Rattle.std.specs.List.{All, list_all}
use Rattle.std.proofs.lemmas.List.{map-append}
use Rattle.std.proofs.lemmas.List.Elements.{All-cons, All-head, All-nil, All-tail, All-weaker}
use Rattle.gq_extended.specs.declared.extended.Ext.{Ext}
use Rattle.gms_ast.specs.declared.declaration.Item.{Item}
use Rattle.gms_tuple.specs.OrderLaws.{tuple_cmp-total}
use Rattle.gms_tuple.specs.Products.{tuple_product}
use Rattle.gms_tuple.specs.TupleOrder.{IsOrdered, tuple_cmp}
use Rattle.gms_tuple.specs.TupleSet.{has}
use Rattle.gms_tuple.proofs.Lines.{first-ordered}
use Rattle.gms_tuple.proofs.Ordered.{first-before, ordered-cons, ordered-nil, rest-ordered, same_tuple-Greater, tuple_cmp-flip}
use Rattle.gms_store.specs.State.{State}
use Rattle.gms_set.specs.declared.fault.SetError.{SetError}
use Rattle.gms_set.specs.declared.fault.SetError.TheVariants.{BadRange, Full, Outside, Repeated}
use Rattle.gms_set.specs.Expansion.{ExpandedData, error_of, expanded, has_outside, has_repeat, tuples_of, tuples_with_value, unless, with_items}

-- ---- ordered tuples

-- each tuple comes before the next
abbrev pub ascend_from : List ℕ → List (List ℕ) → Bool
ascend_from x [] = true
ascend_from x (y ∷ ys) = is_lt (tuple_cmp x y) && ascend_from y ys

abbrev pub ascend : List (List ℕ) → Bool
ascend [] = true
ascend (x ∷ xs) = ascend_from x xs

second_of : (a b : Bool) → (a && b) ≡ true → b ≡ true
second_of true b h = h
second_of false b h = absurd (cc)

less_by : (o : Ordering) → is_lt o ≡ true → o ≡ Less
less_by Less h = refl
less_by Equal h = absurd (cc)
less_by Greater h = absurd (cc)

ordered_from : (x : List ℕ) (xs : List (List ℕ)) → ascend_from x xs ≡ true → IsOrdered (x ∷ xs)
ordered_from x [] h = ordered-cons x [] (All-nil (λ y. tuple_cmp x y ≡ Less)) ordered-nil
ordered_from x (y ∷ ys) h =
    let less : tuple_cmp x y ≡ Less = less_by (tuple_cmp x y) ((and_parts (is_lt (tuple_cmp x y)) (ascend_from y ys) h).0) in
    let others : IsOrdered (y ∷ ys) = ordered_from y ys (second_of (is_lt (tuple_cmp x y)) (ascend_from y ys) h) in
    ordered-cons x (y ∷ ys)
    (All-cons (λ z. tuple_cmp x z ≡ Less) y ys less (All-weaker (λ z. tuple_cmp y z ≡ Less) (λ z. tuple_cmp x z ≡ Less) (λ z later. tuple_cmp-total.trans x y z less later) ys (first-before y ys others)))
    others

pub ordered_by : (xs : List (List ℕ)) → ascend xs ≡ true → IsOrdered xs
ordered_by [] h = ordered-nil
ordered_by (x ∷ xs) h = ordered_from x xs h

not_among : (x : List ℕ) (xs : List (List ℕ)) → All (λ y. tuple_cmp x y ≡ Less) xs → has xs x ≡ false
not_among x [] all = refl
not_among x (y ∷ ys) all =
    ap₂ (λ (a b : Bool). a || b) (same_tuple-Greater y x (tuple_cmp-flip x y Less (All-head (λ z. tuple_cmp x z ≡ Less) y ys all))) (not_among x ys (All-tail (λ z. tuple_cmp x z ≡ Less) y ys all))

no_repeat : (xs : List (List ℕ)) → IsOrdered xs → has_repeat xs ≡ false
no_repeat [] ordered = refl
no_repeat (x ∷ xs) ordered = ap₂ (λ (a b : Bool). a || b) (not_among x xs (first-before x xs ordered)) (no_repeat xs (rest-ordered x xs ordered))

-- ---- items

not_below : (a b : ℕ) → b ≤ a → nat_lt a b ≡ false
not_below a b h = by (nat_lt a b) refl
  where
    by : (t : Bool) → nat_lt a b ≡ t → nat_lt a b ≡ false
    by true e = absurd (omega (arith, h, ltb-true a b e))
    by false e = e

module _ {F : Type 0} where
  -- the tuples of items, and what they give
  abbrev pub all_tuples : List (Item F) → List (List ℕ)
  all_tuples [] = []
  all_tuples (item ∷ items) = tuple_product item.parts ++ all_tuples items

  abbrev pub all_data : List (Item F) → ExpandedData F
  all_data [] = []
  all_data (item ∷ items) = tuples_with_value item.value (tuple_product item.parts) ++ all_data items

  -- an item has no label outside its position's set, and no bad range
  abbrev pub is_within : State → List (Option ℕ) → Item F → Bool
  is_within state domain item = not (has_outside state domain item.parts) && not item.bad_range

  -- the tests that items pass
  abbrev pub are_fine : State → List (Option ℕ) → List (Item F) → Bool
  are_fine state domain items =
      list_all (is_within state domain) items && (nat_le (length (all_tuples items)) 1048576 && ascend (all_tuples items))

  same_tuples : (value : Option (Ext F)) (ts : List (List ℕ)) → tuples_of (tuples_with_value value ts) ≡ ts
  same_tuples value [] = refl
  same_tuples value (t ∷ ts) = ap (λ (us : List (List ℕ)). t ∷ us) (same_tuples value ts)

  no_fault : (state : State) (domain : List (Option ℕ)) (before : List (List ℕ)) (item : Item F) → has_outside state domain item.parts ≡ false → item.bad_range ≡ false → nat_lt 1048576 (length before + length (tuple_product item.parts)) ≡ false → has_repeat (before ++ tuple_product item.parts) ≡ false → error_of state domain before item ≡ None
  no_fault state domain before item inside range within_bound once =
      by (has_outside state domain item.parts) item.bad_range (nat_lt 1048576 (length before + length (tuple_product item.parts))) (has_repeat (before ++ tuple_product item.parts)) inside range within_bound once
    where
      by : (a b c d : Bool) → a ≡ false → b ≡ false → c ≡ false → d ≡ false → (if a then Some Outside else if b then Some BadRange else if c then Some Full else if d then Some Repeated else None) ≡ None
      by true b c d p q r s = absurd (cc)
      by false true c d p q r s = absurd (cc)
      by false false true d p q r s = absurd (cc)
      by false false false true p q r s = absurd (cc)
      by false false false false p q r s = refl

  module _ (state : State) (domain : List (Option ℕ)) where
    given_on : (given : ExpandedData F) (items : List (Item F)) → IsOrdered (tuples_of given ++ all_tuples items) → length (tuples_of given) + length (all_tuples items) ≤ 1048576 → list_all (is_within state domain) items ≡ true → with_items state domain given items ≡ Ok (given ++ all_data items)
    given_on given [] ordered within_bound within = ap (λ (ds : ExpandedData F). Ok ds) (sym (append-nil given))
    given_on given (item ∷ items) ordered within_bound within =
        let ts = tuple_product item.parts in
        let own = tuples_with_value item.value ts in
        let here = (and_parts (is_within state domain item) (list_all (is_within state domain) items) within).0 in
        let others = second_of (is_within state domain item) (list_all (is_within state domain) items) within in
        let inside = not-true (has_outside state domain item.parts) ((and_parts (not (has_outside state domain item.parts)) (not item.bad_range) here).0) in
        let range = not-true item.bad_range (second_of (not (has_outside state domain item.parts)) (not item.bad_range) here) in
        let apart : IsOrdered ((tuples_of given ++ ts) ++ all_tuples items) = subst IsOrdered (sym (append_assoc (tuples_of given) ts (all_tuples items))) ordered in
        let next : tuples_of (given ++ own) ≡ tuples_of given ++ ts = map-append _ given own ∙ ap (λ (us : List (List ℕ)). tuples_of given ++ us) (same_tuples item.value ts) in
        let many : length (ts ++ all_tuples items) ≡ length ts + length (all_tuples items) = length-append ts (all_tuples items) in
        let long : length (tuples_of given ++ ts) ≡ length (tuples_of given) + length ts = length-append (tuples_of given) ts in
        let few : nat_lt 1048576 (length (tuples_of given) + length ts) ≡ false = not_below 1048576 (length (tuples_of given) + length ts) (omega (arith, within_bound, many)) in
        let none = no_fault state domain (tuples_of given) item inside range few (no_repeat (tuples_of given ++ ts) (first-ordered (tuples_of given ++ ts) (all_tuples items) apart)) in
        let fits : length (tuples_of (given ++ own)) + length (all_tuples items) ≤ 1048576 = subst (λ (us : List (List ℕ)). length us + length (all_tuples items) ≤ 1048576) (sym next) (omega (arith, within_bound, many, long)) in
        ap (λ (e : Option SetError). unless e item.at (with_items state domain (given ++ own) items)) none
        ∙ given_on (given ++ own) items (subst (λ (us : List (List ℕ)). IsOrdered (us ++ all_tuples items)) (sym next) apart) fits others
        ∙ ap (λ (ds : ExpandedData F). Ok ds) (append_assoc given own (all_data items))

    -- items that pass the tests give all their tuples
    pub given_all : (items : List (Item F)) → are_fine state domain items ≡ true → expanded state domain items ≡ Ok (all_data items)
    given_all items fine =
        let within = list_all (is_within state domain) items in
        let tests = nat_le (length (all_tuples items)) 1048576 && ascend (all_tuples items) in
        let more = second_of within tests fine in
        let within_bound : length (all_tuples items) ≤ 1048576 = leb-true (length (all_tuples items)) 1048576 ((and_parts (nat_le (length (all_tuples items)) 1048576) (ascend (all_tuples items)) more).0) in
        given_on [] items (ordered_by (all_tuples items) (second_of (nat_le (length (all_tuples items)) 1048576) (ascend (all_tuples items)) more)) (omega (arith, within_bound)) ((and_parts within tests fine).0)
