-- Bindings whose labels may stand for their sets. Under them, the labels of indices and of the
-- elements of a domain fit their positions.
use Rattle.std.proofs.Common.{◌≡◌, ◌⊎◌, ℕ, zero, suc, ℤ, pos, negsuc, nat_lt, nat_le, Bool, true, false, not, ◌&&◌, ◌||◌, ◌==◌, if◌then◌else◌, List, [], ◌∷◌, ◌++◌, length, slice_get, Option, Some, None, option_map, Ok, Err, refl, sym, ap, ◌∙◌, subst, inl, inr, arith}
use Rattle.std.specs.Prelude.{◌+ℤ◌, neg_ℤ, option_and_then, ok_or}
use Rattle.std.specs.List.{All}
use Rattle.std.proofs.lemmas.Bool.{eqb-true, and_from, and_parts, or_right}
use Rattle.std.proofs.lemmas.List.Elements.{All-head, All-tail}
use Rattle.gms_labels.specs.declared.place.Place.{Place}
use Rattle.gq_number.specs.Number.{Number}
use Rattle.gq_extended.specs.Extended.{Extended}
use Rattle.gms_ast.specs.declared.expression.LagOp.{LagOp}
use Rattle.gms_ast.specs.declared.expression.LagOp.TheVariants.{Lead, Lag, CircularLead, CircularLag}
use Rattle.gms_ast.specs.Trees as tree
use Rattle.gms_tuple.specs.TupleOrder.{same_tuple}
use Rattle.gms_tuple.specs.TupleSet.{has, place_of_tuple}
use Rattle.gms_tuple.proofs.Ordered.{same_tuple_refl}
use Rattle.gms_store.specs.State.{State, symbol_at, base_of, given_in, members_in, members_of}
use Rattle.gms_scope.specs.Below.{set_fits_position, label_fits_position}
use Rattle.gms_scope.specs.Names.{is_index_set, has_no_declaration}
use Rattle.gms_check.specs.Above.{directly_above}
use Rattle.gms_check.specs.Domains.{index_count}
use Rattle.gms_check.specs.IndexList.{have_unfit_set, have_unfit_label}
use Rattle.gms_check.specs.Uses.{index_sets}
use Rattle.gms_check.proofs.Growing.{IsAfter}
use Rattle.gms_eval.specs.Bindings.{Pairs, label_of, paired, controlled}
use Rattle.gms_eval.specs.Domain.{elements, most_elements, too_large, sized, those_where, IsSimple}
use Rattle.gms_eval.specs.Faults.{Answer, nothing, faulted, ◌and_then◌}
use Rattle.gms_eval.specs.Lag.{around, label_of_element, label_at, moved, lagged_label, whole_number}
use Rattle.gms_eval.specs.Nodes.{in_order}
use Rattle.gms_eval.specs.References.{reached_label, all_there, tuple_of}
use Rattle.gms_eval.specs.Value.{value, labels, domain, sets_of, when_so}
use Rattle.gms_eval.specs.declared.stop.StopKind.TheVariants.{LagNotWhole}
use Rattle.gms_exec.proofs.Staying.{Stays}
use Rattle.gms_run_laws.proofs.Eaches.{each-right}
use Rattle.gms_run_laws.proofs.FormKeys.{OkHas, EachHas, then-has, after-has, either-has}
use Rattle.gms_run_laws.specs.Labels.{AreMembers}
use Rattle.gms_run_laws.specs.LastStates.{AreFixed}
use Rattle.gms_rows.proofs.Domains.{given, only_value}
use Rattle.gms_save_text.specs.Validity.{fits_position, fits_domain}
use Rattle.gms_run_laws.specs.Names.{Each}
use Rattle.gms_restart.specs.Labels.{tree_labels, index_labels}
use Rattle.gms_restart.proofs.Homes.{occurs_few, members-given, index-known, DataOccur, IsFixedAt, MayOccur, is-label, set-occurs, label-occurs}

-- ---- lags

only-label : (t : List ℕ) → length t ≡ 1 → label_of_element t ∷ [] ≡ t
only-label [] e = absurd (omega arith)
only-label (l ∷ []) e = refl
only-label (l ∷ m ∷ t) e = absurd (omega arith)

read-there : (members : List (List ℕ)) (k : ℕ) (t : List ℕ) → slice_get members k ≡ Some t → has members t ≡ true
read-there [] k t e = absurd (cc)
read-there (u ∷ members) zero t e =
    let same : u ≡ t = cc in ap (λ (b : Bool). b || has members t) (subst (λ x. same_tuple x t ≡ true) (sym same) (same_tuple_refl t))
read-there (u ∷ members) (suc k) t e = or_right (same_tuple u t) (has members t) (read-there members k t e)

module _ (members : List (List ℕ)) (single : (t : List ℕ) → has members t ≡ true → length t ≡ 1) where
  place-there : (k : ℤ) (label : ℕ) → label_at members k ≡ Some label → has members (label ∷ []) ≡ true
  place-there (negsuc n) label e = absurd (cc)
  place-there (pos k) label e = by (slice_get members k) refl e
    where
      by : (o : Option (List ℕ)) → slice_get members k ≡ o → option_map label_of_element o ≡ Some label → has members (label ∷ []) ≡ true
      by None is e = absurd (cc)
      by (Some t) is e =
          let there = read-there members k t is in
          let same : label_of_element t ≡ label = cc in
          subst (λ u. has members u ≡ true) (sym (only-label t (single t there)) ∙ ap (λ (l : ℕ). l ∷ []) same) there

  moved-there : (op : LagOp) (amount place : ℤ) (label : ℕ) → moved members op amount place ≡ Some label → has members (label ∷ []) ≡ true
  moved-there Lead amount place label e = place-there (place +ℤ amount) label e
  moved-there Lag amount place label e = place-there (place +ℤ neg_ℤ amount) label e
  moved-there CircularLead amount place label e = place-there (around members (place +ℤ amount)) label e
  moved-there CircularLag amount place label e = place-there (around members (place +ℤ neg_ℤ amount)) label e

  -- the label that a lag reaches is a member
  lagged-there : (op : LagOp) (amount : ℤ) (from label : ℕ) → lagged_label members op amount from ≡ Some label → has members (label ∷ []) ≡ true
  lagged-there op amount from label e = by (place_of_tuple members (from ∷ [])) e
    where
      by : (o : Option ℕ) → option_and_then (λ place. moved members op amount (pos place)) o ≡ Some label → has members (label ∷ []) ≡ true
      by None e = absurd (cc)
      by (Some place) e = moved-there op amount (pos place) label e

-- ---- tuples of labels

there-long : (xs : List (Option ℕ)) (t : List ℕ) → all_there xs ≡ Some t → length t ≡ length xs
there-long [] t e = let same : ◌≡◌ {A = List ℕ} [] t = cc in sym (ap (λ (u : List ℕ). length u) same)
there-long (None ∷ xs) t e = absurd (cc)
there-long (Some l ∷ xs) t e = by (all_there xs) (there-long xs) e
  where
    by : (o : Option (List ℕ)) → ((u : List ℕ) → o ≡ Some u → length u ≡ length xs) → option_map (λ (those : List ℕ). l ∷ those) o ≡ Some t → length t ≡ suc (length xs)
    by None rest e = absurd (cc)
    by (Some u) rest e =
        let same : l ∷ u ≡ t = cc in sym (ap (λ (w : List ℕ). length w) same) ∙ ap suc (rest u refl)

-- a tuple has at most 10 labels
pub tuple-few : (those : List (Option ℕ)) (t : List ℕ) → tuple_of those ≡ Some t → nat_le (length t) 10 ≡ true
tuple-few those t e = by (nat_le (length those) 10) refl e
  where
    by : (b : Bool) → nat_le (length those) 10 ≡ b → (if b then all_there those else None) ≡ Some t → nat_le (length t) 10 ≡ true
    by true few e = ap (λ (n : ℕ). nat_le n 10) (there-long those t e) ∙ few
    by false few e = absurd (cc)

-- a label of two bindings is one of the first or of the second
either-label : (binding more : Pairs) (set label : ℕ) → label_of (binding ++ more) set ≡ Some label → (label_of binding set ≡ Some label) ⊎ (label_of more set ≡ Some label)
either-label [] more set label e = inr e
either-label (p ∷ binding) more set label e = by (p.0 == set) (λ e. either-label binding more set label e) e
  where
    by : (b : Bool) → (label_of (binding ++ more) set ≡ Some label → (label_of binding set ≡ Some label) ⊎ (label_of more set ≡ Some label)) → (if b then Some p.1 else label_of (binding ++ more) set) ≡ Some label → ((if b then Some p.1 else label_of binding set) ≡ Some label) ⊎ (label_of more set ≡ Some label)
    by true rest e = inl e
    by false rest e = rest e

-- ---- what is known of states

-- The state in which a run begins, and the state before a statement. Data are in their domains. The
-- sets of positions are not assigned. What is declared before the statement is the same in the
-- first state, with no member removed. An index set has members of single labels in each later
-- state.
pub record Ground (count : ℕ) (first : State) (assigned : ℕ → Bool) (s : State) : Type 0 where
  pub starts : DataOccur count first
  pub fixed : (n : ℕ) → AreFixed assigned first (symbol_at first n).domain
  pub later : (n : ℕ) → has_no_declaration s n ≡ false → IsAfter (symbol_at s n) (symbol_at first n)
  pub based : (n : ℕ) → has_no_declaration s n ≡ false → has_no_declaration s (base_of s n) ≡ false
  pub more : (d : ℕ) (t : List ℕ) → has_no_declaration s d ≡ false → has (members_of s d) t ≡ true → has (members_of first d) t ≡ true
  pub simple : (state : State) → Stays first state → (set : ℕ) → is_index_set s set ≡ true → IsSimple state set

-- A state of the run: names stand for what they stood for at first, their data are in their
-- domains, and a set that is not assigned has the members of the first state.
pub record Context (count : ℕ) (first : State) (assigned : ℕ → Bool) (state : State) : Type 0 where
  pub stays : Stays first state
  pub occur : (n : ℕ) (t : List ℕ) → has (given_in (symbol_at state n).content) t ≡ true → occurs_few count first (symbol_at first n).domain t ≡ true
  pub static : (n : ℕ) → assigned n ≡ false → members_in (symbol_at state n).content ≡ members_in (symbol_at first n).content

module _ (count : ℕ) (first : State) (assigned : ℕ → Bool) where
  abbrev May : ℕ → ℕ → Type 0
  May set label = MayOccur count first assigned (base_of first set) label

  -- the labels of a binding may stand for their sets
  abbrev pub Fits : Pairs → Type 0
  Fits binding = (set label : ℕ) → label_of binding set ≡ Some label → May set label

  module _ (state : State) (context : Context count first assigned state) where
    -- a member of a set may stand for it
    pub member-may : (set label : ℕ) → has (members_of state set) (label ∷ []) ≡ true → May set label
    member-may set label there =
        let base = base_of state set in
        subst (λ n. MayOccur count first assigned n label) ((context.stays set).alike set) (record {
          domain = (and_parts (fits_domain count first (symbol_at first base).domain (label ∷ [])) true (context.occur base (label ∷ []) (members-given (symbol_at state base).content (label ∷ []) there))).0;
          member = λ none. sym (ap (λ (members : List (List ℕ)). has members (label ∷ [])) (context.static base none)) ∙ there;
        })

    -- ---- elements

    paired-may : (sets element : List ℕ) → AreMembers state sets element → (set label : ℕ) → label_of (paired sets element) set ≡ Some label → May set label
    paired-may [] [] are set label e = absurd (cc)
    paired-may [] (l ∷ element) are set label e = absurd (cc)
    paired-may (s ∷ sets) [] are set label e = absurd (cc)
    paired-may (s ∷ sets) (l ∷ element) are set label e =
        by (s == set) refl e (paired-may sets element are.1 set label)
      where
        by : (b : Bool) → (s == set) ≡ b → (if b then Some l else label_of (paired sets element) set) ≡ Some label → (label_of (paired sets element) set ≡ Some label → May set label) → May set label
        by true same e next =
            let is : l ≡ label = cc in
            subst (λ n. May n label) (eqb-true s set same) (subst (λ m. May s m) is (member-may s l are.0))
        by false same e next = next e

    -- a binding that also has the labels of an element
    pub controlled-fits : (binding : Pairs) (sets element : List ℕ) → Fits binding → AreMembers state sets element → Fits (controlled binding sets element)
    controlled-fits binding sets element fits are set label e = elim (either-label binding (paired sets element) set label e) [
      | inl own ↦ fits set label own
      | inr more ↦ paired-may sets element are set label more
    ]

    -- the elements of a domain are of the product of its sets
    all-there : (all xs : List (List ℕ)) → ((t : List ℕ) → has xs t ≡ true → has all t ≡ true) → EachHas (λ t. has all t ≡ true) xs
    all-there all [] among = tt
    all-there all (x ∷ xs) among =
        (among x (ap (λ (b : Bool). b || has xs x) (same_tuple_refl x)), all-there all xs (λ t there. among t (or_right (same_tuple x t) (has xs t) there)))

    those-has : (P : List ℕ → Type 0) (test : List ℕ → Answer Bool) (xs : List (List ℕ)) → EachHas P xs → OkHas (EachHas P) (those_where test xs)
    those-has P test [] all = tt
    those-has P test (x ∷ xs) all =
        after-has (EachHas P) (test x) (λ holds. those_where test xs and_then λ others. Ok (if holds then x ∷ others else others))
        (λ holds. then-has (EachHas P) (EachHas P) (those_where test xs) (λ others. Ok (if holds then x ∷ others else others)) (those-has P test xs all.1) (λ others rest. either-has (EachHas P) holds (x ∷ others) others (all.0, rest) rest))

    sized-has : (P : List (List ℕ) → Type 0) (at : Place) (binding : Pairs) (those : List (List ℕ)) → P those → OkHas P (sized at binding those)
    sized-has P at binding those p = by (nat_lt most_elements (length those))
      where
        by : (b : Bool) → OkHas P (if b then Err (too_large at binding (length those)) else Ok those)
        by true = tt
        by false = p

    pub domain-has : {F : Type 0} (v : F → Number) (limit : ℕ) (binding : Pairs) (at : Place) (control : tree.Control F) → OkHas (EachHas (λ element. has (elements state (sets_of control)) element ≡ true)) (domain v limit state binding at control)
    domain-has v limit binding at (tree.over sets) =
        sized-has (EachHas (λ element. has (elements state sets) element ≡ true)) at binding (elements state sets) (all-there (elements state sets) (elements state sets) (λ t there. there))
    domain-has v limit binding at (tree.over_where sets condition) =
        let P : List ℕ → Type 0 = λ element. has (elements state sets) element ≡ true in
        then-has (EachHas P) (EachHas P) (sized at binding (elements state sets)) (λ all. those_where (λ element. when_so (value v limit state (controlled binding sets element) condition)) all)
        (sized-has (EachHas P) at binding (elements state sets) (all-there (elements state sets) (elements state sets) (λ t there. there)))
        (λ all each. those-has P (λ element. when_so (value v limit state (controlled binding sets element) condition)) all each)

  -- ---- the labels of indices

  fixed-head : (position : Option ℕ) (domain : List (Option ℕ)) → AreFixed assigned first (position ∷ domain) → IsFixedAt count first assigned position × AreFixed assigned first domain
  fixed-head None domain fixed = (tt, fixed)
  fixed-head (Some d) domain fixed = (fixed.0, fixed.1)

  split : (l : ℕ) (o : Option (List ℕ)) (t : List ℕ) → option_map (λ (those : List ℕ). l ∷ those) o ≡ Some t → (u : List ℕ) × (o ≡ Some u) × (t ≡ l ∷ u)
  split l None t e = absurd (cc)
  split l (Some u) t e = let same : l ∷ u ≡ t = cc in (u, refl, sym same)

  -- an index whose label fits its position, before others
  one-more : (position : Option ℕ) (domain : List (Option ℕ)) (o : Option ℕ) (xs : List (Option ℕ)) (t : List ℕ) → ((l : ℕ) → o ≡ Some l → (nat_lt l count ≡ true) × (fits_position first position l ≡ true)) → ((u : List ℕ) → all_there xs ≡ Some u → fits_domain count first domain u ≡ true) → all_there (o ∷ xs) ≡ Some t → fits_domain count first (position ∷ domain) t ≡ true
  one-more position domain None xs t here rest e = absurd (cc)
  one-more position domain (Some l) xs t here rest e =
      let parts = split l (all_there xs) t e in
      let own = here l refl in
      subst (λ u. fits_domain count first (position ∷ domain) u ≡ true) (sym parts.2)
      (and_from (nat_lt l count) (fits_position first position l && fits_domain count first domain parts.0) own.0 (and_from (fits_position first position l) (fits_domain count first domain parts.0) own.1 (rest parts.0 parts.1)))

  not-not : (b c : Bool) → (not b || c) ≡ false → (b ≡ true) × (c ≡ false)
  not-not true c e = (refl, e)
  not-not false c e = absurd (cc)

  module _ (s : State) (ground : Ground count first assigned s) (declared : List ℕ) {F : Type 0} (v : F → Number) (limit : ℕ) (state : State) (context : Context count first assigned state) (binding : Pairs) (fits_all : Fits binding) where
    -- the label that a lag reaches may stand for its set
    reached-may : (set : ℕ) (op : LagOp) (at : Place) (x : Extended) (l : ℕ) → is_index_set s set ≡ true → reached_label state binding set op at x ≡ Ok (Some l) → May set l
    reached-may set op at x l index e = by (whole_number x) (label_of binding set) e
      where
        by : (w : Option ℤ) (o : Option ℕ) → (ok_or w (faulted LagNotWhole at binding x nothing) and_then λ places. Ok (option_and_then (λ label. lagged_label (members_of state set) op places label) o)) ≡ Ok (Some l) → May set l
        by None o e = absurd (cc)
        by (Some places) None e = absurd (let none : ◌≡◌ {A = Option ℕ} None (Some l) = only_value None (Some l) e in let z : ⊥ = cc in z)
        by (Some places) (Some from) e =
            member-may state context set l (lagged-there (members_of state set) (ground.simple state context.stays set index).1 op places from l (only_value (lagged_label (members_of state set) op places from) (Some l) e))

    -- a set's label fits a position that the set fits
    set-at : (name : ℕ) (position : Option ℕ) (set l : ℕ) → IsFixedAt count first assigned position → is_index_set s set ≡ true → set_fits_position s declared (directly_above s declared) name position set ≡ true → May set l → (nat_lt l count ≡ true) × (fits_position first position l ≡ true)
    set-at name position set l fixed index fit may =
        (is-label count first assigned (base_of first set) l may, set-occurs count first assigned ground.starts s declared ground.later name position set l fixed (index-known s set index) fit may)

    pub labels-occur : (name : ℕ) (domain : List (Option ℕ)) (indices : tree.Indices F) (those : List (Option ℕ)) (t : List ℕ) → AreFixed assigned first domain → index_count indices ≡ length domain → All (λ index. is_index_set s index ≡ true) (index_sets indices) →
        have_unfit_set s declared (directly_above s declared) name domain indices ≡ false → have_unfit_label s declared name domain indices ≡ false → Each (λ l. nat_lt l count) (index_labels indices) →
        in_order (labels v limit state binding indices) ≡ Ok those → all_there those ≡ Some t → fits_domain count first domain t ≡ true
    labels-occur name [] tree.no_index those t fixed long sets below named own e is =
        let same : ◌≡◌ {A = Option (List ℕ)} (Some []) (Some t) = ap all_there (only_value [] those e) ∙ is in
        let none : ◌≡◌ {A = List ℕ} [] t = cc in
        subst (λ u. fits_domain count first [] u ≡ true) none refl
    labels-occur name (position ∷ domain) tree.no_index those t fixed long sets below named own e is = absurd (omega (arith, long))
    labels-occur name [] (tree.label n rest) those t fixed long sets below named own e is = absurd (omega (arith, long))
    labels-occur name [] (tree.set set rest) those t fixed long sets below named own e is = absurd (omega (arith, long))
    labels-occur name [] (tree.lagged set op at amount rest) those t fixed long sets below named own e is = absurd (omega (arith, long))
    labels-occur name (position ∷ domain) (tree.label n rest) those t fixed long sets below named own e is =
        let one = given (in_order (labels v limit state binding rest)) (λ xs. Ok (Some n ∷ xs)) those e in
        let fixes = fixed-head position domain fixed in
        let fit = not-not (label_fits_position s declared name position n) (have_unfit_label s declared name domain rest) named in
        one-more position domain (Some n) one.value t (λ l same. let at : n ≡ l = cc in subst (λ m. (nat_lt m count ≡ true) × (fits_position first position m ≡ true)) at (own.0, label-occurs count first assigned ground.starts s declared ground.later ground.more name position n fit.0))
        (λ u there. labels-occur name domain rest one.value u fixes.1 (omega (arith, long)) sets below fit.1 own.1 one.is there)
        (ap all_there (only_value (Some n ∷ one.value) those one.next_is) ∙ is)
    labels-occur name (position ∷ domain) (tree.set set rest) those t fixed long sets below named own e is =
        let one = given (in_order (labels v limit state binding rest)) (λ xs. Ok (label_of binding set ∷ xs)) those e in
        let fixes = fixed-head position domain fixed in
        let fit = not-not (set_fits_position s declared (directly_above s declared) name position set) (have_unfit_set s declared (directly_above s declared) name domain rest) below in
        one-more position domain (label_of binding set) one.value t (λ l there. set-at name position set l fixes.0 (All-head (λ index. is_index_set s index ≡ true) set (index_sets rest) sets) fit.0 (fits_all set l there))
        (λ u there. labels-occur name domain rest one.value u fixes.1 (omega (arith, long)) (All-tail (λ index. is_index_set s index ≡ true) set (index_sets rest) sets) fit.1 named own one.is there)
        (ap all_there (only_value (label_of binding set ∷ one.value) those one.next_is) ∙ is)
    labels-occur name (position ∷ domain) (tree.lagged set op at amount rest) those t fixed long sets below named own e is =
        let first_one = given (value v limit state binding amount and_then reached_label state binding set op at) (λ o. in_order (labels v limit state binding rest) and_then λ xs. Ok (o ∷ xs)) those e in
        let amounts = given (value v limit state binding amount) (reached_label state binding set op at) first_one.value first_one.is in
        let one = given (in_order (labels v limit state binding rest)) (λ xs. Ok (first_one.value ∷ xs)) those first_one.next_is in
        let fixes = fixed-head position domain fixed in
        let fit = not-not (set_fits_position s declared (directly_above s declared) name position set) (have_unfit_set s declared (directly_above s declared) name domain rest) below in
        let index = All-head (λ index. is_index_set s index ≡ true) set (index_sets rest) sets in
        one-more position domain first_one.value one.value t (λ l there. set-at name position set l fixes.0 index fit.0 (reached-may set op at amounts.value l index (amounts.next_is ∙ ap {B = Answer (Option ℕ)} Ok there)))
        (λ u there. labels-occur name domain rest one.value u fixes.1 (omega (arith, long)) (All-tail (λ index. is_index_set s index ≡ true) set (index_sets rest) sets) fit.1 named (each-right (λ l. nat_lt l count) (tree_labels amount) (index_labels rest) own) one.is there)
        (ap all_there (only_value (first_one.value ∷ one.value) those one.next_is) ∙ is)

    -- the tuple of indices
    pub tuple-occurs : (name : ℕ) (domain : List (Option ℕ)) (indices : tree.Indices F) (those : List (Option ℕ)) (t : List ℕ) → AreFixed assigned first domain → index_count indices ≡ length domain → All (λ index. is_index_set s index ≡ true) (index_sets indices) →
        have_unfit_set s declared (directly_above s declared) name domain indices ≡ false → have_unfit_label s declared name domain indices ≡ false → Each (λ l. nat_lt l count) (index_labels indices) →
        in_order (labels v limit state binding indices) ≡ Ok those → tuple_of those ≡ Some t → fits_domain count first domain t ≡ true
    tuple-occurs name domain indices those t fixed long sets below named own e is = by (nat_le (length those) 10) is
      where
        by : (b : Bool) → (if b then all_there those else None) ≡ Some t → fits_domain count first domain t ≡ true
        by true is = labels-occur name domain indices those t fixed long sets below named own e is
        by false is = absurd (cc)
