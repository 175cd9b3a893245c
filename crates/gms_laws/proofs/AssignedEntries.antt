-- The entries after an assignment.
use Rattle.std.proofs.Common.{◌≡◌, ◌∙◌, ◌<◌, ◌≤◌, ◌||◌, ◌↔◌, ℕ, Bool, true, false, List, [], ◌∷◌, map, length, Option, Some, None, Ok, Err, if◌then◌else◌, option_map, refl, sym, ap, subst, inl, inr, unwrap_or, true≢false, arith}
use Rattle.std.specs.List.{All, IsDistinct}
use Rattle.std.proofs.lemmas.Bool.{le-leb}
use Rattle.std.proofs.lemmas.List.{length-map}
use Rattle.gq_number.specs.Number.{Number}
use Rattle.gq_extended.specs.Extended.{Extended}
use Rattle.gms_labels.specs.declared.place.Place.{Place}
use Rattle.gms_ast.specs.declared.expression.Suffix.{Suffix}
use Rattle.gms_ast.specs.declared.expression.Suffix.TheVariants as suffix
use Rattle.gms_ast.specs.Trees.{Tree, over, over_where}
use Rattle.gms_ast.specs.TreeView.{tree_of}
use Rattle.gms_tuple.specs.TupleOrder.{same_tuple}
use Rattle.gms_tuple.specs.TupleSet.{has}
use Rattle.gms_tuple.proofs.Ordered.{same_tuple-Decides, same_tuple_refl}
use Rattle.gms_store.specs.State.{State, Content, Entries, alias_of, attributes_of, base_of, equation_of, has_attributes, members_of, model_with, parameter_of, set_of, symbol_of, undeclared, value_of, variable_of}
use Rattle.gms_eval.specs.Bindings.{Pairs}
use Rattle.gms_eval.specs.Faults.{Answer, faulted, nothing, ◌and_then◌}
use Rattle.gms_eval.specs.Domain.{IsSimple}
use Rattle.gms_eval.specs.Nodes.{in_order}
use Rattle.gms_eval.specs.References.{all_there, tuple_of}
use Rattle.gms_eval.specs.Value.{labels, domain, control_over, value}
use Rattle.gms_eval.specs.declared.stop.StopKind.TheVariants.{Undefined}
use Rattle.gms_eval.proofs.Entries.{there, tuple-labels}
use Rattle.gms_rows.proofs.Domains.{given, only_value}
use Rattle.gms_exec.specs.Assignment.{element_under, given_under, given_by, takes_value, target_of, given_elements, where_taken}
use Rattle.gms_exec.specs.Membership.{membership}
use Rattle.gms_exec.specs.Given.{Given, member, value_is, AllGiven, after_given, with_attribute}
use Rattle.gms_exec.specs.Once.{IsOnce}
use Rattle.gms_exec.specs.Reads.{attributes_with, given_value}
use Rattle.gms_exec.proofs.Assigned.{attributes-after, members-after, values-after}
use Rattle.gms_laws.specs.Assignments.{Execution, IsRight, TakesTo, left_indices, left_sets, element_binding}
use Rattle.gms_laws.specs.Domains.{HasItsMembers, IsWhereItHolds}
use Rattle.gms_laws.proofs.ChosenElements.{exact}
use Rattle.gms_laws.proofs.LastGiven.{In, member-once, once-apart, value-once}
use Rattle.gms_store.specs.Declarations.{is_set}

-- ---- labels that are all there

in_order-there : (t : List ℕ) → in_order (map there t) ≡ Ok (map Some t)
in_order-there [] = refl
in_order-there (label ∷ t) = ap (λ (answer : Answer (List (Option ℕ))). answer and_then λ rest. Ok (Some label ∷ rest)) (in_order-there t)

all_there-Some : (t : List ℕ) → all_there (map Some t) ≡ Some t
all_there-Some [] = refl
all_there-Some (label ∷ t) = ap (λ (o : Option (List ℕ)). option_map (λ rest. label ∷ rest) o) (all_there-Some t)

tuple_of-Some : (t : List ℕ) → length t ≤ 10 → tuple_of (map Some t) ≡ Some t
tuple_of-Some t few =
    let same : length (map (λ (label : ℕ). Some label) t) ≡ length t = length-map t (λ (label : ℕ). Some label) in
    ap (λ (b : Bool). if b then all_there (map Some t) else None) (le-leb (length (map (λ (label : ℕ). Some label) t)) 10 (omega (arith, same, few))) ∙ all_there-Some t

-- ---- what is given

-- what is not a set, by its content
not-set : (content : Content) → has_attributes content ≡ true → is_set content ≡ false
not-set undeclared e = refl
not-set (alias_of base) e = absurd (true≢false (sym e))
not-set (set_of members) e = absurd (true≢false (sym e))
not-set (parameter_of entries) e = refl
not-set (variable_of type entries) e = refl
not-set (equation_of entries) e = refl
not-set (model_with model solver) e = refl

taken-value : (kind : Suffix) (at : Place) (b : Pairs) (x : Extended) (what : Given) → where_taken kind at b x ≡ Ok what → what ≡ value_is x
taken-value kind at b x what e = by (takes_value kind x) e
  where
    by : (c : Bool) → (if c then Ok (value_is x) else Err (faulted Undefined at b x nothing)) ≡ Ok what → what ≡ value_is x
    by true e = sym (only_value (value_is x) what e)
    by false e = absurd cc

module _ {F : Type 0} (v : F → Number) (limit : ℕ) (run : Execution F) where
  -- what an element is given under a binding
  abbrev given_in : Pairs → Answer Given
  given_in b = given_under v limit run.before (target_of run.target) run.right_at (tree_of run.right) b

  -- what it is given where the left side takes it to a tuple
  abbrev where_tuple : Pairs → Option (List ℕ) → Answer (Option (List ℕ × Given))
  where_tuple b None = Ok None
  where_tuple b (Some t) = given_in b and_then λ what. Ok (Some (t, what))

  -- what the left side makes of an element of its domain
  abbrev made : List ℕ → Answer (Option (List ℕ × Given))
  made element = element_under v limit run.before (target_of run.target) run.right_at (tree_of run.right) (element_binding run element)

  -- the domain of the left side
  abbrev the_domain : Answer (List (List ℕ))
  the_domain = domain v limit run.before run.binding run.statement.at (control_over (left_sets run) (option_map tree_of run.condition))

  -- the labels of the indices under an element
  abbrev labels_under : List ℕ → List (Answer (Option ℕ))
  labels_under element = labels v limit run.before (element_binding run element) (left_indices run)

  -- what the assignment gives
  abbrev pub GivenBy : AllGiven → Type 0
  GivenBy all =
      given_by v limit run.before run.statement.at run.binding (target_of run.target) (option_map tree_of run.condition) run.right_at (tree_of run.right) ≡ Ok all

  -- the result of an assignment without fault
  record Parts (all : AllGiven) : Type 0 where
    elements : List (List ℕ)
    domain_is : the_domain ≡ Ok elements
    results : List (Option (List ℕ × Given))
    results_are : in_order (map made elements) ≡ Ok results
    all_is : given_elements v limit run.before results ≡ all

  parts_of : (all : AllGiven) → GivenBy all → Parts all
  parts_of all e =
      let one = given the_domain (λ elements. in_order (map made elements) and_then λ results. Ok (given_elements v limit run.before results)) all e in
      let two = given (in_order (map made one.value)) (λ results. Ok (given_elements v limit run.before results)) all one.next_is in
      record { elements = one.value; domain_is = one.is; results = two.value; results_are = two.is; all_is = only_value (given_elements v limit run.before two.value) all two.next_is }

  -- ---- elements and results

  record Made (element : List ℕ) (results : List (Option (List ℕ × Given))) : Type 0 where
    result : Option (List ℕ × Given)
    is : made element ≡ Ok result
    among : In result results

  element-made : (elements : List (List ℕ)) (results : List (Option (List ℕ × Given))) → in_order (map made elements) ≡ Ok results → (element : List ℕ) → has elements element ≡ true → Made element results
  element-made [] results e element there = absurd (true≢false (sym there))
  element-made (x ∷ elements) results e element there =
      let one = given (made x) (λ r. in_order (map made elements) and_then λ rs. Ok (r ∷ rs)) results e in
      let two = given (in_order (map made elements)) (λ rs. Ok (one.value ∷ rs)) results one.next_is in
      by one.value one.is two.value (only_value (one.value ∷ two.value) results two.next_is) (element-made elements two.value two.is element) (same_tuple x element) refl there
    where
      by : (r : Option (List ℕ × Given)) → made x ≡ Ok r → (rs : List (Option (List ℕ × Given))) → r ∷ rs ≡ results → (has elements element ≡ true → Made element rs) → (b : Bool) → same_tuple x element ≡ b → (b || has elements element) ≡ true → Made element results
      by r is rs are later true same there =
          record { result = r; is = ap made (sym ((same_tuple-Decides x element).0 same)) ∙ is; among = subst (In r) are (inl refl) }
      by r is rs are later false other there =
          let m = later there in
          record { result = m.result; is = m.is; among = subst (In m.result) are (inr m.among) }

  record Maker (result : Option (List ℕ × Given)) (elements : List (List ℕ)) : Type 0 where
    element : List ℕ
    is : made element ≡ Ok result
    among : has elements element ≡ true

  or-true : (b : Bool) → (b || true) ≡ true
  or-true true = refl
  or-true false = refl

  made-element : (elements : List (List ℕ)) (results : List (Option (List ℕ × Given))) → in_order (map made elements) ≡ Ok results → (result : Option (List ℕ × Given)) → In result results → Maker result elements
  made-element [] results e result there = absurd (subst (In result) (sym (only_value [] results e)) there)
  made-element (x ∷ elements) results e result there =
      let one = given (made x) (λ r. in_order (map made elements) and_then λ rs. Ok (r ∷ rs)) results e in
      let two = given (in_order (map made elements)) (λ rs. Ok (one.value ∷ rs)) results one.next_is in
      by one.value one.is two.value (made-element elements two.value two.is result) (subst (In result) (sym (only_value (one.value ∷ two.value) results two.next_is)) there)
    where
      by : (r : Option (List ℕ × Given)) → made x ≡ Ok r → (rs : List (Option (List ℕ × Given))) → (In result rs → Maker result elements) → In result (r ∷ rs) → Maker result (x ∷ elements)
      by r is rs later (inl same) =
          record { element = x; is = is ∙ ap Ok same; among = ap (λ b. b || has elements x) (same_tuple_refl x) }
      by r is rs later (inr there) =
          let m = later there in
          record { element = m.element; is = m.is; among = ap (λ b. same_tuple x m.element || b) m.among ∙ or-true (same_tuple x m.element) }

  -- ---- those that are there

  some_same : (a b : List ℕ × Given) → ◌≡◌ {A = Option (List ℕ × Given)} (Some a) (Some b) → a ≡ b
  some_same a b e = cc

  in-those : (results : List (Option (List ℕ × Given))) (g : List ℕ × Given) → In (Some g) results → In g (given_elements v limit run.before results)
  in-those [] g there = there
  in-those (None ∷ results) g (inl e) = absurd cc
  in-those (None ∷ results) g (inr there) = in-those results g there
  in-those (Some h ∷ results) g (inl e) = inl (some_same h g e)
  in-those (Some h ∷ results) g (inr there) = inr (in-those results g there)

  of-those : (results : List (Option (List ℕ × Given))) (g : List ℕ × Given) → In g (given_elements v limit run.before results) → In (Some g) results
  of-those [] g there = there
  of-those (None ∷ results) g there = inr (of-those results g there)
  of-those (Some h ∷ results) g (inl e) = inl (ap (λ (x : List ℕ × Given). Some x) e)
  of-those (Some h ∷ results) g (inr there) = inr (of-those results g there)

  -- ---- one element

  -- what an element that is taken to a tuple is given
  record Gives (element t : List ℕ) : Type 0 where
    what : Given
    is : given_in (element_binding run element) ≡ Ok what
    made_is : made element ≡ Ok (Some (t, what))

  taken-gives : (element t : List ℕ) (results : List (Option (List ℕ × Given))) → length t ≤ 10 → labels_under element ≡ map there t → Made element results → Gives element t
  taken-gives element t results few are m =
      let those : in_order (labels_under element) ≡ Ok (map Some t) = ap in_order are ∙ in_order-there t in
      let whole : where_tuple (element_binding run element) (Some t) ≡ Ok m.result =
      sym (ap (λ (answer : Answer (List (Option ℕ))). answer and_then λ labels. where_tuple (element_binding run element) (tuple_of labels)) those ∙ ap (where_tuple (element_binding run element)) (tuple_of-Some t few)) ∙ m.is in
      let one = given (given_in (element_binding run element)) (λ what. Ok (Some (t, what))) m.result whole in
      record { what = one.value; is = one.is; made_is = m.is ∙ ap Ok (sym (only_value (Some (t, one.value)) m.result one.next_is)) }

  -- the labels under an element that is given something at a tuple
  labels-made : (element t : List ℕ) (what : Given) → made element ≡ Ok (Some (t, what)) → labels_under element ≡ map there t
  labels-made element t what e =
      let one = given (in_order (labels_under element)) (λ labels. where_tuple (element_binding run element) (tuple_of labels)) (Some (t, what)) e in
      tuple-labels (labels_under element) t (ap (λ (answer : Answer (List (Option ℕ))). answer and_then λ labels. Ok (tuple_of labels)) one.is ∙ ap Ok (by (tuple_of one.value) one.next_is))
    where
      by : (o : Option (List ℕ)) → where_tuple (element_binding run element) o ≡ Ok (Some (t, what)) → o ≡ Some t
      by None f = absurd cc
      by (Some u) f =
          let two = given (given_in (element_binding run element)) (λ g. Ok (Some (u, g))) (Some (t, what)) f in
          ap (λ (g : List ℕ × Given). Some g.0) (some_same (u, two.value) (t, what) (only_value (Some (u, two.value)) (Some (t, what)) two.next_is))

  -- what a set is given is whether the right side is in it
  member-given : (b : Pairs) (what : Given) → is_set (symbol_of run.before run.target.name).content ≡ true → given_in b ≡ Ok what → (on : Bool) × (what ≡ member on) × (membership v limit run.before b (tree_of run.right) ≡ Ok on)
  member-given b what is e =
      let one = given (membership v limit run.before b (tree_of run.right)) (λ on. Ok (member on)) what (sym (ap (λ (c : Bool). if c then membership v limit run.before b (tree_of run.right) and_then (λ on. Ok (member on)) else value v limit run.before b (tree_of run.right) and_then where_taken run.target.suffix run.right_at b) is) ∙ e) in
      (one.value, sym (only_value (member one.value) what one.next_is), one.is)

  -- what another name is given is the value of the right side
  value-given : (b : Pairs) (what : Given) → is_set (symbol_of run.before run.target.name).content ≡ false → given_in b ≡ Ok what → (x : Extended) × (what ≡ value_is x) × (value v limit run.before b (tree_of run.right) ≡ Ok x)
  value-given b what is e =
      let one = given (value v limit run.before b (tree_of run.right)) (where_taken run.target.suffix run.right_at b) what (sym (ap (λ (c : Bool). if c then membership v limit run.before b (tree_of run.right) and_then (λ on. Ok (member on)) else value v limit run.before b (tree_of run.right) and_then where_taken run.target.suffix run.right_at b) is) ∙ e) in
      (one.value, taken-value run.target.suffix run.right_at b one.value what one.next_is, one.is)

  -- ---- one element at a tuple

  once_after : (r : Option (List ℕ × Given)) (rs : List (Option (List ℕ × Given))) → IsOnce (given_elements v limit run.before (r ∷ rs)) → IsOnce (given_elements v limit run.before rs)
  unfolding IsDistinct
  once_after None rs once = once
  once_after (Some g) rs once = once.1

  module _ (t : List ℕ) where
    -- an element among others is given something at a tuple that the first one has already
    twice : (elements : List (List ℕ)) (rs : List (Option (List ℕ × Given))) (r : Option (List ℕ × Given)) (element : List ℕ) (a b : Given) → in_order (map made elements) ≡ Ok rs → r ≡ Some (t, a) → IsOnce (given_elements v limit run.before (r ∷ rs)) → has elements element ≡ true → made element ≡ Ok (Some (t, b)) → ⊥
    twice elements rs r element a b e is once there made_is =
        let m = element-made elements rs e element there in
        let same : m.result ≡ Some (t, b) = only_value m.result (Some (t, b)) (sym m.is ∙ made_is) in
        once-apart (t, a) (given_elements v limit run.before rs) (subst (λ (o : Option (List ℕ × Given)). IsOnce (given_elements v limit run.before (o ∷ rs))) is once) b (in-those rs (t, b) (subst (λ (o : Option (List ℕ × Given)). In o rs) same m.among))

    one-element : (elements : List (List ℕ)) (results : List (Option (List ℕ × Given))) → in_order (map made elements) ≡ Ok results → IsOnce (given_elements v limit run.before results) → (element other : List ℕ) (a b : Given) → has elements element ≡ true → has elements other ≡ true → made element ≡ Ok (Some (t, a)) → made other ≡ Ok (Some (t, b)) → element ≡ other
    one-element [] results e once element other a b there beside made_one made_other = absurd (true≢false (sym there))
    one-element (x ∷ elements) results e once element other a b there beside made_one made_other =
        let one = given (made x) (λ r. in_order (map made elements) and_then λ rs. Ok (r ∷ rs)) results e in
        let two = given (in_order (map made elements)) (λ rs. Ok (one.value ∷ rs)) results one.next_is in
        let are : one.value ∷ two.value ≡ results = only_value (one.value ∷ two.value) results two.next_is in
        let once_here : IsOnce (given_elements v limit run.before (one.value ∷ two.value)) = subst (λ (rs : List (Option (List ℕ × Given))). IsOnce (given_elements v limit run.before rs)) (sym are) once in
        by one.value one.is two.value two.is once_here (λ h k. one-element elements two.value two.is (once_after one.value two.value once_here) element other a b h k made_one made_other) (same_tuple x element) refl (same_tuple x other) refl there beside
      where
        by : (r : Option (List ℕ × Given)) → made x ≡ Ok r → (rs : List (Option (List ℕ × Given))) → in_order (map made elements) ≡ Ok rs → IsOnce (given_elements v limit run.before (r ∷ rs)) → (has elements element ≡ true → has elements other ≡ true → element ≡ other)
            → (c : Bool) → same_tuple x element ≡ c → (d : Bool) → same_tuple x other ≡ d → (c || has elements element) ≡ true → (d || has elements other) ≡ true → element ≡ other
        by r is rs e once later true same true also h k = sym ((same_tuple-Decides x element).0 same) ∙ (same_tuple-Decides x other).0 also
        by r is rs e once later true same false apart h k =
            absurd (twice elements rs r other a b e (only_value r (Some (t, a)) (sym is ∙ ap made ((same_tuple-Decides x element).0 same) ∙ made_one)) once k made_other)
        by r is rs e once later false apart true same h k =
            absurd (twice elements rs r element b a e (only_value r (Some (t, b)) (sym is ∙ ap made ((same_tuple-Decides x other).0 same) ∙ made_other)) once h made_one)
        by r is rs e once later false apart false away h k = later h k

  -- ---- what is read after the assignment

  module _ (simple : All (IsSimple run.before) (left_sets run)) (few : length (left_sets run) ≤ 10) (short : (element : List ℕ) → length (labels_under element) ≤ 10) (all : AllGiven) (e : GivenBy all) (once : IsOnce all) where
    -- an element is of the domain just where it has its members and the condition holds
    chosen : (elements : List (List ℕ)) (element : List ℕ) → the_domain ≡ Ok elements → (has elements element ≡ true) ↔ (HasItsMembers run.before (left_sets run) element × IsWhereItHolds v limit run.before run.binding (control_over (left_sets run) (option_map tree_of run.condition)) element)
    chosen elements element = by (option_map tree_of run.condition)
      where
        by : (condition : Option (Tree F)) → domain v limit run.before run.binding run.statement.at (control_over (left_sets run) condition) ≡ Ok elements → (has elements element ≡ true) ↔ (HasItsMembers run.before (left_sets run) element × IsWhereItHolds v limit run.before run.binding (control_over (left_sets run) condition) element)
        by None is = exact run.before v limit run.binding run.statement.at (over (left_sets run)) elements element simple few is
        by (Some condition) is = exact run.before v limit run.binding run.statement.at (over_where (left_sets run) condition) elements element simple few is

    here : (element t : List ℕ) → TakesTo v limit run element t → has (parts_of all e).elements element ≡ true
    here element t k = (chosen (parts_of all e).elements element (parts_of all e).domain_is).1 (k.members, k.holds)

    few-labels : (element t : List ℕ) → labels_under element ≡ map there t → length t ≤ 10
    few-labels element t are =
        let long : length (labels_under element) ≡ length t = ap length are ∙ length-map t there in
        let most = short element in
        omega (arith, long, most)

    made-there : (element t : List ℕ) → TakesTo v limit run element t → Made element (parts_of all e).results
    made-there element t k =
        let p = parts_of all e in
        element-made p.elements p.results p.results_are element (here element t k)

    gives : (element t : List ℕ) → TakesTo v limit run element t → Gives element t
    gives element t k =
        taken-gives element t (parts_of all e).results (few-labels element t k.labels_are) k.labels_are (made-there element t k)

    pub one-taken : (element other t : List ℕ) → TakesTo v limit run element t → TakesTo v limit run other t → element ≡ other
    one-taken element other t k l =
        let p = parts_of all e in
        let g = gives element t k in
        let h = gives other t l in
        one-element t p.elements p.results p.results_are (subst IsOnce (sym p.all_is) once) element other g.what h.what (here element t k) (here other t l) g.made_is h.made_is

    given-there : (element t : List ℕ) (k : TakesTo v limit run element t) → In (t, (gives element t k).what) all
    given-there element t k =
        let p = parts_of all e in
        let g = gives element t k in
        let m = made-there element t k in
        subst (In (t, g.what)) p.all_is (in-those p.results (t, g.what) (subst (λ (o : Option (List ℕ × Given)). In o p.results) (only_value m.result (Some (t, g.what)) (sym m.is ∙ g.made_is)) m.among))

    -- what is given is given to an element that is taken there
    pub taken-for : (t : List ℕ) (what : Given) → In (t, what) all → (element : List ℕ) × TakesTo v limit run element t
    taken-for t what there =
        let p = parts_of all e in
        let m = made-element p.elements p.results p.results_are (Some (t, what)) (of-those p.results (t, what) (subst (In (t, what)) (sym p.all_is) there)) in
        let two = (chosen p.elements m.element p.domain_is).0 m.among in
        (m.element, record { members = two.0; holds = two.1; labels_are = labels-made m.element t what m.is })

    -- where no element is taken to a tuple, nothing is given there
    pub nothing-given : (t : List ℕ) → ((element : List ℕ) → TakesTo v limit run element t → ⊥) → (what : Given) → In (t, what) all → ⊥
    nothing-given t nothing what there =
        let taken = taken-for t what there in
        nothing taken.0 taken.1

    module _ (within : base_of run.before run.target.name < length run.before.symbols) (long : All (λ (g : List ℕ × Given). length g.0 ≡ length (symbol_of run.before run.target.name).domain) all) (element t : List ℕ) (k : TakesTo v limit run element t) where
      abbrev pub then_state : State
      then_state = after_given run.target.suffix run.target.name all run.before

      pub value-taken : (entries : Entries Extended) → (symbol_of run.before run.target.name).content ≡ parameter_of entries → run.target.suffix ≡ suffix.None → IsRight v limit run element (value_of then_state run.target.name t)
      value-taken entries is none =
          let g = gives element t k in
          let x = value-given (element_binding run element) g.what (ap is_set is) g.is in
          let at : In (t, value_is x.0) all = subst (λ (what : Given). In (t, what) all) x.1 (given-there element t k) in
          let after : value_of (after_given suffix.None run.target.name all run.before) run.target.name t ≡ unwrap_or (given_value all t) (value_of run.before run.target.name t) = values-after run.before run.target.name all entries t within is long in
          let read : value_of then_state run.target.name t ≡ x.0 =
          ap (λ (s : Suffix). value_of (after_given s run.target.name all run.before) run.target.name t) none
          ∙ after
          ∙ ap (λ (o : Option Extended). unwrap_or o (value_of run.before run.target.name t)) (value-once all t x.0 once at) in
          x.2 ∙ ap Ok (sym read)

      pub member-taken : (members : List (List ℕ)) → (symbol_of run.before run.target.name).content ≡ set_of members → membership v limit run.before (element_binding run element) (tree_of run.right) ≡ Ok (has (members_of then_state run.target.name) t)
      member-taken members is =
          let g = gives element t k in
          let on = member-given (element_binding run element) g.what (ap is_set is) g.is in
          let at : In (t, member on.0) all = subst (λ (what : Given). In (t, what) all) on.1 (given-there element t k) in
          let read : has (members_of then_state run.target.name) t ≡ on.0 =
          members-after run.before run.target.name run.target.suffix all within long members t is
          ∙ ap (λ (o : Option Bool). unwrap_or o (has (members_of run.before run.target.name) t)) (member-once all t on.0 once at) in
          on.2 ∙ ap Ok (sym read)

      pub attribute-taken : has_attributes (symbol_of run.before run.target.name).content ≡ true → (x : Extended) × IsRight v limit run element x × (attributes_of then_state run.target.name t ≡ with_attribute run.target.suffix (attributes_of run.before run.target.name t) x)
      attribute-taken has =
          let g = gives element t k in
          let x = value-given (element_binding run element) g.what (not-set (symbol_of run.before run.target.name).content has) g.is in
          let at : In (t, value_is x.0) all = subst (λ (what : Given). In (t, what) all) x.1 (given-there element t k) in
          (x.0, x.2, attributes-after run.before run.target.name run.target.suffix all within long t has ∙ ap (attributes_with run.target.suffix (attributes_of run.before run.target.name t)) (value-once all t x.0 once at))
