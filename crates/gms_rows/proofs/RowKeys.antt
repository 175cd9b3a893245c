-- The keys of rows: each element has another key, and so has each equation.
use Rattle.std.proofs.Common.{◌≡◌, ◌≢◌, ℕ, nat_le, Bool, true, false, not, ◌==◌, cond, if◌then◌else◌, List, [], ◌∷◌, ◌++◌, map, length, get_or, filter, Option, Some, None, option_map, Ok, refl, sym, ap, ◌∙◌, subst, arith}
use Rattle.std.specs.List.{All, AllPairs}
use Rattle.std.proofs.lemmas.Bool.{both_ways, eq-eqb, eqb-false, ne_eqb, not-true}
use Rattle.std.proofs.lemmas.List.Elements.{All-nil, All-cons, All-head, All-tail, All-append, All-weaker, All-filter, filter_passes}
use Rattle.std.proofs.lemmas.List.Kept.{AllPairs-cons}
use Rattle.std.specs.declared.cmp.Ordering.TheVariants.{Less, Equal}
use Rattle.std.proofs.lemmas.Cmp.{tied_itself}
use Rattle.gq_number.specs.Number.{Number}
use Rattle.gms_ast.specs.Trees as tree
use Rattle.gms_tuple.specs.TupleOrder.{tuple_cmp, IsOrdered}
use Rattle.gms_tuple.specs.OrderLaws.{tuple_cmp-total}
use Rattle.gms_tuple.proofs.Ordered.{first-before, rest-ordered}
use Rattle.gms_store.specs.State.{State}
use Rattle.gms_eval.specs.Nodes.{in_order}
use Rattle.gms_eval.specs.Bindings.{Pairs, label_of, paired}
use Rattle.gms_eval.specs.Faults.{Answer, ◌and_then◌}
use Rattle.gms_eval.specs.References.{all_there, tuple_of}
use Rattle.gms_eval.specs.Value.{labels}
use Rattle.lp_core.proofs.Points.{AllPairs-first, AllPairs-rest}
use Rattle.lp_form.specs.declared.key.Key.{Key}
use Rattle.gms_rows.specs.ElementRows.{sets_of_definition, bound_to, tuple_at, AreInOrder}
use Rattle.gms_rows.specs.Plain.{ArePlain}
use Rattle.gms_rows.specs.Rows.{Definition, FormRow, distinct_numbers, sets_among, sense_of, present_rows, row_form, rows_of_definition}
use Rattle.gms_rows.specs.InnerContracts.{HaveOrder}
use Rattle.gms_rows.proofs.Domains.{given, only_value, All-distinct_numbers, plain-simple, domain-known}
use Rattle.gms_rows.proofs.OneRow.{row_at}
use Rattle.gms_rows.proofs.RowSequences.{row_of, domain_of, joined_rows}

-- two lists, each of which differs in itself and from the other
AllPairs-append : {X : Type 0} (R : X → X → Type 0) (xs ys : List X) → AllPairs R xs → AllPairs R ys → All (λ x. All (R x) ys) xs → AllPairs R (xs ++ ys)
AllPairs-append R [] ys own rest across = rest
AllPairs-append R (x ∷ xs) ys own rest across =
    AllPairs-cons R x (xs ++ ys) (All-append (R x) xs ys (AllPairs-first R x xs own) (All-head (λ x. All (R x) ys) x xs across))
    (AllPairs-append R xs ys (AllPairs-rest R x xs own) rest (All-tail (λ x. All (R x) ys) x xs across))

-- ---- distinct names

-- distinct names
abbrev pub AreApart : List ℕ → Type 0
AreApart [] = Unit {0}
AreApart (n ∷ ns) = All (λ m. (n == m) ≡ false) ns × AreApart ns

apart-filter : (p : ℕ → Bool) (ns : List ℕ) → AreApart ns → AreApart (filter p ns)
apart-filter p [] apart = tt
apart-filter p (n ∷ ns) apart = by (p n) (apart-filter p ns apart.1)
  where
    by : (b : Bool) → AreApart (filter p ns) → AreApart (cond b (n ∷ filter p ns) (filter p ns))
    by true rest = (All-filter p (λ m. (n == m) ≡ false) ns apart.0, rest)
    by false rest = rest

others : (n m : ℕ) → not (m == n) ≡ true → (n == m) ≡ false
others n m e = ne_eqb n m (λ same. eqb-false m n (not-true (m == n) e) (sym same))

all_filtered : (n : ℕ) (ns : List ℕ) → All (λ m. (n == m) ≡ false) (filter (λ m. not (m == n)) ns)
all_filtered n ns =
    All-weaker (λ m. not (m == n) ≡ true) (λ m. (n == m) ≡ false) (others n) (filter (λ m. not (m == n)) ns) (filter_passes (λ m. not (m == n)) ns)

pub distinct_numbers-apart : (ns : List ℕ) → AreApart (distinct_numbers ns)
distinct_numbers-apart [] = tt
distinct_numbers-apart (n ∷ ns) =
    (all_filtered n (distinct_numbers ns), apart-filter (λ m. not (m == n)) (distinct_numbers ns) (distinct_numbers-apart ns))

-- ---- elements and their labels

same_head : {X : Type 0} (x y : X) (xs ys : List X) → x ∷ xs ≡ y ∷ ys → x ≡ y
same_head x y xs ys e = cc

same_tail : {X : Type 0} (x y : X) (xs ys : List X) → x ∷ xs ≡ y ∷ ys → xs ≡ ys
same_tail x y xs ys e = cc

pub the_same : {X : Type 0} (x y : X) → ◌≡◌ {A = Option X} (Some x) (Some y) → x ≡ y
the_same x y e = cc

-- elements with the same label for each set are the same
pub paired-same : (sets x y : List ℕ) → AreApart sets → length x ≡ length sets → length y ≡ length sets → All (λ set. label_of (paired sets x) set ≡ label_of (paired sets y) set) sets → x ≡ y
paired-same [] [] [] apart l m same = refl
paired-same [] [] (b ∷ y) apart l m same = absurd (omega (arith, m))
paired-same [] (a ∷ x) y apart l m same = absurd (omega (arith, l))
paired-same (s ∷ sets) [] y apart l m same = absurd (omega (arith, l))
paired-same (s ∷ sets) (a ∷ x) [] apart l m same = absurd (omega (arith, m))
paired-same (s ∷ sets) (a ∷ x) (b ∷ y) apart l m same =
    let itself : (s == s) ≡ true = eq-eqb s s refl in
    let at = All-head (λ set. label_of (paired (s ∷ sets) (a ∷ x)) set ≡ label_of (paired (s ∷ sets) (b ∷ y)) set) s sets same in
    let label : a ≡ b = the_same a b (sym (ap (λ c. if c then Some a else label_of (paired sets x) s) itself) ∙ at ∙ ap (λ c. if c then Some b else label_of (paired sets y) s) itself) in
    let later = All-tail (λ set. label_of (paired (s ∷ sets) (a ∷ x)) set ≡ label_of (paired (s ∷ sets) (b ∷ y)) set) s sets same in
    let rest : x ≡ y = paired-same sets x y apart.1 (omega (arith, l)) (omega (arith, m)) (λ k d below. sym (ap (λ c. if c then Some a else label_of (paired sets x) (get_or sets k d)) (apart.0 k d below)) ∙ later k d below ∙ ap (λ c. if c then Some b else label_of (paired sets y) (get_or sets k d)) (apart.0 k d below)) in
    λ i. label i ∷ rest i

-- labels that are all there are those of the tuple
there-are : (ls : List (Option ℕ)) (t : List ℕ) → all_there ls ≡ Some t → ls ≡ map Some t
there-are [] t e = ap (map Some) (the_same [] t e)
there-are (None ∷ ls) t e = absurd (cc)
there-are (Some l ∷ ls) t e = by (there-are ls) (all_there ls) refl e
  where
    by : ((rest : List ℕ) → all_there ls ≡ Some rest → ls ≡ map Some rest) → (o : Option (List ℕ)) → all_there ls ≡ o → option_map (λ rest. l ∷ rest) o ≡ Some t → Some l ∷ ls ≡ map Some t
    by later None is e = absurd (cc)
    by later (Some rest) is e = ap (λ those. Some l ∷ those) (later rest is) ∙ ap (map Some) (the_same (l ∷ rest) t e)

tuple-labels : (ls : List (Option ℕ)) (t : List ℕ) → tuple_of ls ≡ Some t → ls ≡ map Some t
tuple-labels ls t e = by (nat_le (length ls) 10) e
  where
    by : (b : Bool) → (if b then all_there ls else None) ≡ Some t → ls ≡ map Some t
    by true e = there-are ls t e
    by false e = absurd (cc)

module _ {F : Type 0} where
  -- the labels of plain indices
  abbrev plain_labels : Pairs → tree.Indices F → List (Option ℕ)
  plain_labels b tree.no_index = []
  plain_labels b (tree.label n rest) = Some n ∷ plain_labels b rest
  plain_labels b (tree.set set rest) = label_of b set ∷ plain_labels b rest
  plain_labels b (tree.lagged set op at amount rest) = plain_labels b rest

  -- two bindings that give plain indices the same labels give their sets the same
  labels-decide : (state : State) (b c : Pairs) (indices : tree.Indices F) → ArePlain state indices → plain_labels b indices ≡ plain_labels c indices → All (λ set. label_of b set ≡ label_of c set) (sets_among indices)
  labels-decide state b c tree.no_index plain e = All-nil (λ set. label_of b set ≡ label_of c set)
  labels-decide state b c (tree.label n rest) plain e =
      labels-decide state b c rest plain (same_tail (Some n) (Some n) (plain_labels b rest) (plain_labels c rest) e)
  labels-decide state b c (tree.set set rest) plain e =
      All-cons (λ set. label_of b set ≡ label_of c set) set (sets_among rest) (same_head (label_of b set) (label_of c set) (plain_labels b rest) (plain_labels c rest) e)
      (labels-decide state b c rest plain.1 (same_tail (label_of b set) (label_of c set) (plain_labels b rest) (plain_labels c rest) e))
  labels-decide state b c (tree.lagged set op at amount rest) plain e = absurd plain

module _ {F : Type 0} (v : F → Number) (limit : ℕ) (state : State) where
  plain-labels : (b : Pairs) (indices : tree.Indices F) → ArePlain state indices → in_order (labels v limit state b indices) ≡ Ok (plain_labels b indices)
  plain-labels b tree.no_index plain = refl
  plain-labels b (tree.label n rest) plain = ap (λ a. a and_then λ those. Ok (Some n ∷ those)) (plain-labels b rest plain)
  plain-labels b (tree.set set rest) plain = ap (λ a. a and_then λ those. Ok (label_of b set ∷ those)) (plain-labels b rest plain.1)
  plain-labels b (tree.lagged set op at amount rest) plain = absurd plain

  module _ (d : Definition F) (plain : ArePlain state d.indices) where
    labels-at : (element t : List ℕ) → tuple_at v limit state d element ≡ Ok (Some t) → plain_labels (bound_to d element) d.indices ≡ map Some t
    labels-at element t e =
        tuple-labels (plain_labels (bound_to d element) d.indices) t (only_value _ _ (sym (ap (λ a. a and_then λ those. Ok (tuple_of those)) (plain-labels (bound_to d element) d.indices plain)) ∙ e))

    -- elements whose rows have the same tuple are the same
    pub tuple-decides : (x y t : List ℕ) → length x ≡ length (sets_of_definition d) → length y ≡ length (sets_of_definition d) → tuple_at v limit state d x ≡ Ok (Some t) → tuple_at v limit state d y ≡ Ok (Some t) → x ≡ y
    tuple-decides x y t l m e f =
        paired-same (sets_of_definition d) x y (distinct_numbers-apart (sets_among d.indices)) l m
        (All-distinct_numbers (λ set. label_of (bound_to d x) set ≡ label_of (bound_to d y) set) (sets_among d.indices) (labels-decide state (bound_to d x) (bound_to d y) d.indices plain (labels-at x t e ∙ sym (labels-at y t f))))

    -- What is known of the row of an element.
    pub record IsMade (row : FormRow) (element : List ℕ) : Type 0 where
      pub equation : row.key.symbol ≡ d.equation
      pub tuple : tuple_at v limit state d element ≡ Ok (Some row.key.tuple)
      pub sense : row.sense ≡ sense_of d.side
      pub form : row_form v limit state d (bound_to d element) ≡ Ok row.form

    pub row-known : (element : List ℕ) (row : FormRow) → row_of v limit state d element ≡ Ok (Some row) → IsMade row element
    row-known element row e =
        let those = given (in_order (labels v limit state (bound_to d element) d.indices)) _ (Some row) e in
        by those.value those.is (tuple_of those.value) refl those.next_is
      where
        by : (those : List (Option ℕ)) → in_order (labels v limit state (bound_to d element) d.indices) ≡ Ok those → (o : Option (List ℕ)) → tuple_of those ≡ o → row_at v limit state d (bound_to d element) o ≡ Ok (Some row) → IsMade row element
        by those is None tuple e = absurd (cc)
        by those is (Some t) tuple e =
            let form = given (row_form v limit state d (bound_to d element)) (λ form. Ok (Some (record { key = record { symbol = d.equation; tuple = t }; sense = sense_of d.side; form = form }))) (Some row) e in
            let made : record { key = record { symbol = d.equation; tuple = t }; sense = sense_of d.side; form = form.value } ≡ row = the_same _ _ (only_value _ _ form.next_is) in
            record {
              equation = sym (ap (λ (r : FormRow). r.key.symbol) made);
              tuple = ap (λ a. a and_then λ those. Ok (tuple_of those)) is ∙ ap Ok (tuple ∙ ap (λ (r : FormRow). Some r.key.tuple) made);
              sense = sym (ap (λ (r : FormRow). r.sense) made);
              form = form.is ∙ ap (λ (r : FormRow). Ok r.form) made;
            }

    -- an element without a row has no tuple
    pub row-absent : (element : List ℕ) → row_of v limit state d element ≡ Ok None → tuple_at v limit state d element ≡ Ok None
    row-absent element e =
        let those = given (in_order (labels v limit state (bound_to d element) d.indices)) (λ those. row_at v limit state d (bound_to d element) (tuple_of those)) None e in
        ap (λ a. a and_then λ those. Ok (tuple_of those)) those.is ∙ ap Ok (by (tuple_of those.value) those.next_is)
      where
        by : (o : Option (List ℕ)) → row_at v limit state d (bound_to d element) o ≡ Ok None → o ≡ None
        by None e = refl
        by (Some t) e =
            let form = given (row_form v limit state d (bound_to d element)) (λ form. Ok (Some (record { key = record { symbol = d.equation; tuple = t }; sense = sense_of d.side; form = form }))) None e in
            let both : ◌≡◌ {A = Answer (Option FormRow)} (Ok (Some (record { key = record { symbol = d.equation; tuple = t }; sense = sense_of d.side; form = form.value }))) (Ok None) = form.next_is in
            absurd (cc)

    -- What the answers of elements are, where the first and the others are known.
    pub record Rows (x : List ℕ) (xs : List (List ℕ)) (made : List (Option FormRow)) : Type 0 where
      pub row : Option FormRow
      pub later : List (Option FormRow)
      pub first : row_of v limit state d x ≡ Ok row
      pub rest : in_order (map (row_of v limit state d) xs) ≡ Ok later
      pub is : made ≡ row ∷ later

    pub rows-parts : (x : List ℕ) (xs : List (List ℕ)) (made : List (Option FormRow)) → in_order (map (row_of v limit state d) (x ∷ xs)) ≡ Ok made → Rows x xs made
    rows-parts x xs made e =
        let one = given (row_of v limit state d x) (λ row. in_order (map (row_of v limit state d) xs) and_then λ later. Ok (row ∷ later)) made e in
        let two = given (in_order (map (row_of v limit state d) xs)) (λ later. Ok (one.value ∷ later)) made one.next_is in
        record { row = one.value; later = two.value; first = one.is; rest = two.is; is = sym (only_value _ _ two.next_is) }

    -- each row is that of an element of which something holds
    pub rows-All : (P : List ℕ → Type 0) (xs : List (List ℕ)) (made : List (Option FormRow)) → All P xs → in_order (map (row_of v limit state d) xs) ≡ Ok made → All (λ row. (element : List ℕ) × P element × IsMade row element) (present_rows made)
    rows-All P [] made all e =
        subst (λ those. All (λ row. (element : List ℕ) × P element × IsMade row element) (present_rows those)) (only_value _ _ e) (All-nil (λ (row : FormRow). (element : List ℕ) × P element × IsMade row element))
    rows-All P (x ∷ xs) made all e =
        let parts = rows-parts x xs made e in
        let rest = rows-All P xs parts.later (All-tail P x xs all) parts.rest in
        subst (λ those. All (λ row. (element : List ℕ) × P element × IsMade row element) (present_rows those)) (sym parts.is) (by parts.row parts.later parts.first rest)
      where
        by : (row : Option FormRow) (later : List (Option FormRow)) → row_of v limit state d x ≡ Ok row → All (λ row. (element : List ℕ) × P element × IsMade row element) (present_rows later) → All (λ row. (element : List ℕ) × P element × IsMade row element) (present_rows (row ∷ later))
        by None later is rest = rest
        by (Some row) later is rest =
            All-cons (λ (row : FormRow). (element : List ℕ) × P element × IsMade row element) row (present_rows later) (x, All-head P x xs all, row-known x row is) rest

    -- the rows of elements in order differ
    pub rows-apart : (xs : List (List ℕ)) (made : List (Option FormRow)) → IsOrdered xs → All (λ t. length t ≡ length (sets_of_definition d)) xs → in_order (map (row_of v limit state d) xs) ≡ Ok made → AllPairs (λ a b. a.key ≢ b.key) (present_rows made)
    rows-apart [] made ordered long e =
        subst (λ those. AllPairs (λ (a b : FormRow). a.key ≢ b.key) (present_rows those)) (only_value _ _ e) (λ i j d less below. absurd (omega (arith, less, below)))
    rows-apart (x ∷ xs) made ordered long e =
        let parts = rows-parts x xs made e in
        let rest = rows-apart xs parts.later (rest-ordered x xs ordered) (All-tail (λ t. length t ≡ length (sets_of_definition d)) x xs long) parts.rest in
        let following = rows-All (λ y. (tuple_cmp x y ≡ Less) × (length y ≡ length (sets_of_definition d))) xs parts.later (λ k z below. (first-before x xs ordered k z below, All-tail (λ t. length t ≡ length (sets_of_definition d)) x xs long k z below)) parts.rest in
        subst (λ those. AllPairs (λ (a b : FormRow). a.key ≢ b.key) (present_rows those)) (sym parts.is) (by parts.row parts.later parts.first rest following)
      where
        unlike : (row other : FormRow) (y : List ℕ) → IsMade row x → IsMade other y → tuple_cmp x y ≡ Less → length y ≡ length (sets_of_definition d) → row.key ≢ other.key
        unlike row other y here there less m same =
            let e : x ≡ y = tuple-decides x y other.key.tuple (All-head (λ t. length t ≡ length (sets_of_definition d)) x xs long) m (here.tuple ∙ ap (λ (k : Key). Ok (Some k.tuple)) same) there.tuple in
            let tied : tuple_cmp x y ≡ Equal = ap (tuple_cmp x) (sym e) ∙ tied_itself tuple_cmp-total x in
            let both : Less ≡ Equal = sym less ∙ tied in cc

        by : (row : Option FormRow) (later : List (Option FormRow)) → row_of v limit state d x ≡ Ok row → AllPairs (λ a b. a.key ≢ b.key) (present_rows later) → All (λ row. (y : List ℕ) × ((tuple_cmp x y ≡ Less) × (length y ≡ length (sets_of_definition d))) × IsMade row y) (present_rows later) → AllPairs (λ a b. a.key ≢ b.key) (present_rows (row ∷ later))
        by None later is rest following = rest
        by (Some row) later is rest following =
            AllPairs-cons (λ (a b : FormRow). a.key ≢ b.key) row (present_rows later) (λ k d below. let other = following k d below in unlike row (get_or (present_rows later) k d) other.0 (row-known x row is) other.2 other.1.0 other.1.1) rest

  -- ---- the rows of a definition

  -- What is known of the rows of a definition.
  pub record Sourced (d : Definition F) (rows : List FormRow) : Type 0 where
    pub elements : List (List ℕ)
    pub made : List (Option FormRow)
    pub domain : domain_of v limit state d ≡ Ok elements
    pub answered : in_order (map (row_of v limit state d) elements) ≡ Ok made
    pub is : present_rows made ≡ rows

  pub sourced : (d : Definition F) (rows : List FormRow) → rows_of_definition v limit state d ≡ Ok rows → Sourced d rows
  sourced d rows e =
      let one = given (domain_of v limit state d) (λ elements. in_order (map (row_of v limit state d) elements) and_then λ rows. Ok (present_rows rows)) rows e in
      let two = given (in_order (map (row_of v limit state d) one.value)) (λ made. Ok (present_rows made)) rows one.next_is in
      record { elements = one.value; made = two.value; domain = one.is; answered = two.is; is = only_value _ _ two.next_is }

  pub definition-apart : (d : Definition F) (rows : List FormRow) → ArePlain state d.indices → AreInOrder state (sets_of_definition d) → rows_of_definition v limit state d ≡ Ok rows → AllPairs (λ a b. a.key ≢ b.key) rows
  definition-apart d rows plain kept e =
      let source = sourced d rows e in
      let known = domain-known v limit state d.at (sets_of_definition d) (plain-simple state d.indices plain kept) d.condition source.elements source.domain in
      subst (AllPairs (λ (a b : FormRow). a.key ≢ b.key)) source.is (rows-apart d plain source.elements source.made known.ordered known.long source.answered)

  every : {X : Type 0} (xs : List X) → All (λ (x : X). Unit {0}) xs
  every xs k d below = tt

  pub definition-named : (d : Definition F) (rows : List FormRow) → ArePlain state d.indices → rows_of_definition v limit state d ≡ Ok rows → All (λ row. row.key.symbol ≡ d.equation) rows
  definition-named d rows plain e =
      let source = sourced d rows e in
      let all = rows-All d plain (λ element. Unit {0}) source.elements source.made (every source.elements) source.answered in
      subst (All (λ (row : FormRow). row.key.symbol ≡ d.equation)) source.is (λ k d below. (all k d below).2.equation)

  -- ---- the rows of definitions

  -- definitions of different equations
  abbrev pub HaveApart : List (Definition F) → Type 0
  HaveApart [] = Unit {0}
  HaveApart (d ∷ ds) = All (λ (e : Definition F). (d.equation == e.equation) ≡ false) ds × HaveApart ds

  -- What the rows of definitions are, where those of the first and of the others are known.
  record Definitions (d : Definition F) (ds : List (Definition F)) (those : List (List FormRow)) : Type 0 where
    rows : List FormRow
    later : List (List FormRow)
    first : rows_of_definition v limit state d ≡ Ok rows
    rest : in_order (map (rows_of_definition v limit state) ds) ≡ Ok later
    is : those ≡ rows ∷ later

  definitions-parts : (d : Definition F) (ds : List (Definition F)) (those : List (List FormRow)) → in_order (map (rows_of_definition v limit state) (d ∷ ds)) ≡ Ok those → Definitions d ds those
  definitions-parts d ds those e =
      let one = given (rows_of_definition v limit state d) (λ rows. in_order (map (rows_of_definition v limit state) ds) and_then λ later. Ok (rows ∷ later)) those e in
      let two = given (in_order (map (rows_of_definition v limit state) ds)) (λ later. Ok (one.value ∷ later)) those one.next_is in
      record { rows = one.value; later = two.value; first = one.is; rest = two.is; is = sym (only_value _ _ two.next_is) }

  -- what holds of the equations of definitions holds of those of their rows
  all-named : (Q : ℕ → Type 0) (ds : List (Definition F)) (those : List (List FormRow)) → All (λ (d : Definition F). ArePlain state d.indices) ds → All (λ (d : Definition F). Q d.equation) ds → in_order (map (rows_of_definition v limit state) ds) ≡ Ok those → All (λ row. Q row.key.symbol) (joined_rows those)
  all-named Q [] those plain all e =
      subst (λ those. All (λ (row : FormRow). Q row.key.symbol) (joined_rows those)) (only_value _ _ e) (All-nil (λ (row : FormRow). Q row.key.symbol))
  all-named Q (d ∷ ds) those plain all e =
      let parts = definitions-parts d ds those e in
      let named = definition-named d parts.rows (All-head (λ (d : Definition F). ArePlain state d.indices) d ds plain) parts.first in
      subst (λ those. All (λ (row : FormRow). Q row.key.symbol) (joined_rows those)) (sym parts.is)
      (All-append (λ (row : FormRow). Q row.key.symbol) parts.rows (joined_rows parts.later) (λ k e below. subst Q (sym (named k e below)) (All-head (λ (d : Definition F). Q d.equation) d ds all))
      (all-named Q ds parts.later (All-tail (λ (d : Definition F). ArePlain state d.indices) d ds plain) (All-tail (λ (d : Definition F). Q d.equation) d ds all) parts.rest))

  -- the rows of definitions of different equations differ
  pub definitions-apart : (ds : List (Definition F)) (those : List (List FormRow)) → HaveApart ds → All (λ (d : Definition F). ArePlain state d.indices) ds → HaveOrder state ds → in_order (map (rows_of_definition v limit state) ds) ≡ Ok those → AllPairs (λ a b. a.key ≢ b.key) (joined_rows those)
  definitions-apart [] those apart plain kept e =
      subst (λ those. AllPairs (λ (a b : FormRow). a.key ≢ b.key) (joined_rows those)) (only_value _ _ e) (λ i j d less below. absurd (omega (arith, less, below)))
  definitions-apart (d ∷ ds) those apart plain kept e =
      let parts = definitions-parts d ds those e in
      let here = All-head (λ (d : Definition F). ArePlain state d.indices) d ds plain in
      let there = All-tail (λ (d : Definition F). ArePlain state d.indices) d ds plain in
      let own = definition-apart d parts.rows here (All-head (λ (d : Definition F). AreInOrder state (sets_of_definition d)) d ds kept) parts.first in
      let named = definition-named d parts.rows here parts.first in
      let rest = definitions-apart ds parts.later apart.1 there (All-tail (λ (d : Definition F). AreInOrder state (sets_of_definition d)) d ds kept) parts.rest in
      let unlike = all-named (λ name. (d.equation == name) ≡ false) ds parts.later there apart.0 parts.rest in
      subst (λ those. AllPairs (λ (a b : FormRow). a.key ≢ b.key) (joined_rows those)) (sym parts.is)
      (AllPairs-append (λ (a b : FormRow). a.key ≢ b.key) parts.rows (joined_rows parts.later) own rest (λ k e below l f under same. differ (get_or parts.rows k e).key (get_or (joined_rows parts.later) l f).key (named k e below) (unlike l f under) same))
    where
      differ : (a b : Key) → a.symbol ≡ d.equation → (d.equation == b.symbol) ≡ false → a ≢ b
      differ a b is other same =
          both_ways (d.equation == b.symbol) other (eq-eqb d.equation b.symbol (sym is ∙ ap (λ (k : Key). k.symbol) same))
