-- The rows of elements, and those of equations, in sequence.
use Rattle.std.proofs.Common.{◌≡◌, ℕ, ◌+◌, ◌<◌, ◌≤◌, List, [], ◌∷◌, ◌++◌, map, drop, length, get_or, Option, Some, None, option_map, Ok, Err, refl, sym, ap, ◌∙◌, append-nil, append_assoc, Bor}
use Rattle.std.specs.Prelude.{flat_map}
use Rattle.std.specs.Option.{option_copied}
use Rattle.std.proofs.lemmas.List.{at_drop_more, at_drop_all, map-append}
use Rattle.std.proofs.lemmas.List.Elements.{All-nil, All-cons}
use Rattle.std.proofs.lemmas.List.Concat.{flat_map-append}
use Rattle.gq_number.specs.Number.{Number}
use Rattle.gms_ast.specs.declared.expression.Expr.{Expr}
use Rattle.gms_ast.specs.TreeView.{tree_of}
use Rattle.gms_ast.specs.Trees.{Tree}
use Rattle.gms_store.specs.State.{State}
use Rattle.gms_eval.specs.declared.stop.ExecStopOrMemory.{ExecStopOrMemory}
use Rattle.gms_eval.specs.Nodes.{in_order}
use Rattle.gms_eval.specs.Bindings.{Pairs, controlled}
use Rattle.gms_eval.specs.Faults.{Answer, ◌and_then◌}
use Rattle.gms_eval.specs.Gives.{ShowsStop}
use Rattle.gms_eval.specs.Value.{domain, control_over}
use Rattle.gms_eval.proofs.Answering.{and_then_assoc, stops-along, stops-then, stops-same}
use Rattle.gms_rows.specs.InnerContracts.{HaveOrder}
use Rattle.gms_rows.specs.ElementRows.{AreInOrder}
use Rattle.gms_rows.specs.Rows.{Definition, FormRow, distinct_numbers, sets_among, definition_of, present_rows, row_under, rows_of_definition}

-- ---- elements

there-first : (row : Option FormRow) (rest : List (Option FormRow)) → present_rows (row ∷ rest) ≡ present_rows (row ∷ []) ++ present_rows rest
there-first None rest = refl
there-first (Some row) rest = refl

module _ {X : Type 0} (answer : X → Answer (Option FormRow)) where
  -- the rows that are made, and those of the elements from here on
  abbrev pub rows_from : List FormRow → List X → Answer (List FormRow)
  rows_from done xs = in_order (map answer xs) and_then λ rest. Ok (done ++ present_rows rest)

  next_row : (done : List FormRow) (x : X) (xs : List X) (row : Option FormRow) → answer x ≡ Ok row → rows_from done (x ∷ xs) ≡ rows_from (done ++ present_rows (row ∷ [])) xs
  next_row done x xs row e =
      ap (λ a. (a and_then λ z. in_order (map answer xs) and_then λ zs. Ok (z ∷ zs)) and_then λ rest. Ok (done ++ present_rows rest)) e
      ∙ and_then_assoc (in_order (map answer xs)) (λ zs. Ok (row ∷ zs)) (λ rest. Ok (done ++ present_rows rest))
      ∙ shifted (in_order (map answer xs))
    where
      shifted : (a : Answer (List (Option FormRow))) → (a and_then λ zs. Ok (done ++ present_rows (row ∷ zs))) ≡ (a and_then λ zs. Ok ((done ++ present_rows (row ∷ [])) ++ present_rows zs))
      shifted (Ok zs) = ap Ok (ap (λ more. done ++ more) (there-first row zs) ∙ sym (append_assoc done (present_rows (row ∷ [])) (present_rows zs)))
      shifted (Err fault) = refl

  at_element : (done : List FormRow) (xs : List X) (i : ℕ) (x : X) → i < length xs → x ≡ get_or xs i x → rows_from done (drop i xs) ≡ rows_from done (x ∷ drop (i + 1) xs)
  at_element done xs i x here is =
      at_drop_more (rows_from done) xs i x here ∙ ap (λ z. rows_from done (z ∷ drop (i + 1) xs)) (sym is)

  -- the row of one more element is made
  pub rows_from-more : (done after : List FormRow) (xs : List X) (i : ℕ) (x : X) (row : Option FormRow) → i < length xs → x ≡ get_or xs i x → answer x ≡ Ok row → after ≡ done ++ present_rows (row ∷ []) → rows_from done (drop i xs) ≡ rows_from after (drop (i + 1) xs)
  rows_from-more done after xs i x row here is e made =
      at_element done xs i x here is
      ∙ next_row done x (drop (i + 1) xs) row e
      ∙ ap (λ those. rows_from those (drop (i + 1) xs)) (sym made)

  -- one more element stops
  pub rows_from-stops : {F : Type 0} (v : F → Number) (stop : ExecStopOrMemory F) (whole : Answer (List FormRow)) (done : List FormRow) (xs : List X) (i : ℕ) (x : X) → whole ≡ rows_from done (drop i xs) → i < length xs → x ≡ get_or xs i x → ShowsStop v stop (answer x) → ShowsStop v stop whole
  rows_from-stops v stop whole done xs i x is-whole here is stops =
      stops-along v stop (answer x) whole (λ fault e. is-whole ∙ at_element done xs i x here is ∙ ap (λ a. (a and_then λ z. in_order (map answer (drop (i + 1) xs)) and_then λ zs. Ok (z ∷ zs)) and_then λ rest. Ok (done ++ present_rows rest)) e) stops

  -- no element is left
  pub rows_from-end : (done : List FormRow) (xs : List X) (i : ℕ) → length xs ≤ i → rows_from done (drop i xs) ≡ Ok done
  rows_from-end done xs i all = at_drop_all (rows_from done) xs i all ∙ ap Ok (append-nil done)

-- a condition that is lent is the condition
pub lent-condition : {F : Type 0} (o : Option (Bor (Expr F))) → option_map tree_of (option_copied o) ≡ option_map (λ e. tree_of e.now) o
lent-condition None = refl
lent-condition (Some e) = refl

module _ {F : Type 0} (v : F → Number) (limit : ℕ) (state : State) (d : Definition F) where
  -- the row of an element
  abbrev pub row_of : List ℕ → Answer (Option FormRow)
  row_of element = row_under v limit state d (controlled [] (distinct_numbers (sets_among d.indices)) element)

  abbrev pub domain_of : Answer (List (List ℕ))
  domain_of = domain v limit state [] d.at (control_over (distinct_numbers (sets_among d.indices)) d.condition)

  pub rows_of-start : (done : List FormRow) (elements : List (List ℕ)) → domain_of ≡ Ok elements → (rows_of_definition v limit state d and_then λ those. Ok (done ++ those)) ≡ rows_from row_of done elements
  rows_of-start done elements e =
      ap (λ a. (a and_then λ elements. in_order (map row_of elements) and_then λ rows. Ok (present_rows rows)) and_then λ those. Ok (done ++ those)) e
      ∙ and_then_assoc (in_order (map row_of elements)) (λ rows. Ok (present_rows rows)) (λ those. Ok (done ++ those))

  -- the domain over sets and a condition that are those of the definition
  module _ (b : Pairs) (sets : List ℕ) (condition : Option (Tree F)) (none : b ≡ []) (same : sets ≡ distinct_numbers (sets_among d.indices)) (is : condition ≡ d.condition) where
    pub domain_of-same : domain v limit state b d.at (control_over sets condition) ≡ domain_of
    domain_of-same = λ i. domain v limit state (none i) d.at (control_over (same i) (is i))

    pub rows_of-given : (done : List FormRow) (elements : List (List ℕ)) → domain v limit state b d.at (control_over sets condition) ≡ Ok elements → (rows_of_definition v limit state d and_then λ those. Ok (done ++ those)) ≡ rows_from row_of done elements
    rows_of-given done elements e = rows_of-start done elements (sym domain_of-same ∙ e)

    pub rows_of-stops : (done : List FormRow) (stop : ExecStopOrMemory F) → ShowsStop v stop (domain v limit state b d.at (control_over sets condition)) → ShowsStop v stop (rows_of_definition v limit state d and_then λ those. Ok (done ++ those))
    rows_of-stops done stop s =
        stops-then v stop (rows_of_definition v limit state d) (λ those. Ok (done ++ those)) (stops-then v stop domain_of (λ elements. in_order (map row_of elements) and_then λ rows. Ok (present_rows rows)) (stops-same v stop domain_of (domain v limit state b d.at (control_over sets condition)) (sym domain_of-same) s))

-- sets in order are those of one definition
pub order-of_one : {F : Type 0} (state : State) (d : Definition F) → AreInOrder state (distinct_numbers (sets_among d.indices)) → HaveOrder state (d ∷ [])
order-of_one {F} state d kept = All-cons (λ (d : Definition F). AreInOrder state (distinct_numbers (sets_among d.indices))) d [] kept (All-nil (λ (d : Definition F). AreInOrder state (distinct_numbers (sets_among d.indices))))

-- ---- equations

-- the answers of two lists in order are those of the first and then those of the second
pub in_order-append : {A : Type 0} (xs ys : List (Answer A)) → in_order (xs ++ ys) ≡ (in_order xs and_then λ a. in_order ys and_then λ b. Ok (a ++ b))
in_order-append {A} [] ys = alone (in_order ys)
  where
    alone : (a : Answer (List A)) → a ≡ (a and_then λ b. Ok ([] ++ b))
    alone (Ok b) = refl
    alone (Err fault) = refl
in_order-append {A} (x ∷ xs) ys =
    ap (λ r. x and_then λ z. r and_then λ zs. Ok (z ∷ zs)) (in_order-append xs ys) ∙ by x (in_order xs) (in_order ys)
  where
    by : (a : Answer A) (p q : Answer (List A)) → (a and_then λ z. (p and_then λ s. q and_then λ b. Ok (s ++ b)) and_then λ zs. Ok (z ∷ zs)) ≡ ((a and_then λ z. p and_then λ zs. Ok (z ∷ zs)) and_then λ s. q and_then λ b. Ok (s ++ b))
    by (Ok z) (Ok s) (Ok b) = refl
    by (Ok z) (Ok s) (Err fault) = refl
    by (Ok z) (Err fault) q = refl
    by (Err fault) p q = refl

-- lists in sequence
abbrev pub joined_rows : List (List FormRow) → List FormRow
joined_rows those = flat_map (λ some. some) those

module _ {F : Type 0} (v : F → Number) (limit : ℕ) (state : State) (ds : List (Definition F)) where
  -- the rows that are made, and those of an equation
  abbrev pub equation_rows : List FormRow → ℕ → Answer (List FormRow)
  equation_rows done name = in_order (map (rows_of_definition v limit state) (definition_of ds name)) and_then λ those. Ok (done ++ joined_rows those)

  -- the rows that are made, and those of the equations from here on
  abbrev pub model_from : List FormRow → List ℕ → Answer (List FormRow)
  model_from done names = in_order (map (rows_of_definition v limit state) (flat_map (definition_of ds) names)) and_then λ those. Ok (done ++ joined_rows those)

  model-next : (done : List FormRow) (name : ℕ) (names : List ℕ) → model_from done (name ∷ names) ≡ (equation_rows done name and_then λ after. model_from after names)
  model-next done name names =
      ap (λ xs. in_order xs and_then λ those. Ok (done ++ joined_rows those)) (map-append (rows_of_definition v limit state) (definition_of ds name) (flat_map (definition_of ds) names))
      ∙ ap (λ a. a and_then λ those. Ok (done ++ joined_rows those)) (in_order-append (map (rows_of_definition v limit state) (definition_of ds name)) (map (rows_of_definition v limit state) (flat_map (definition_of ds) names)))
      ∙ by (in_order (map (rows_of_definition v limit state) (definition_of ds name))) (in_order (map (rows_of_definition v limit state) (flat_map (definition_of ds) names)))
    where
      by : (p q : Answer (List (List FormRow))) → ((p and_then λ a. q and_then λ b. Ok (a ++ b)) and_then λ those. Ok (done ++ joined_rows those)) ≡ ((p and_then λ those. Ok (done ++ joined_rows those)) and_then λ after. q and_then λ those. Ok (after ++ joined_rows those))
      by (Ok a) (Ok b) = ap Ok (ap (λ more. done ++ more) (flat_map-append (λ (some : List FormRow). some) a b) ∙ sym (append_assoc done (joined_rows a) (joined_rows b)))
      by (Ok a) (Err fault) = refl
      by (Err fault) q = refl

  at_equation : (done : List FormRow) (names : List ℕ) (i z : ℕ) → i < length names → model_from done (drop i names) ≡ (equation_rows done (get_or names i z) and_then λ after. model_from after (drop (i + 1) names))
  at_equation done names i z here =
      at_drop_more (model_from done) names i z here ∙ model-next done (get_or names i z) (drop (i + 1) names)

  -- the rows of one more equation are made
  pub model-more : (done after : List FormRow) (names : List ℕ) (i z : ℕ) → i < length names → equation_rows done (get_or names i z) ≡ Ok after → model_from done (drop i names) ≡ model_from after (drop (i + 1) names)
  model-more done after names i z here e =
      at_equation done names i z here ∙ ap (λ a. a and_then λ after. model_from after (drop (i + 1) names)) e

  -- one more equation stops
  pub model-stops : (stop : ExecStopOrMemory F) (whole : Answer (List FormRow)) (done : List FormRow) (names : List ℕ) (i z : ℕ) → whole ≡ model_from done (drop i names) → i < length names → ShowsStop v stop (equation_rows done (get_or names i z)) → ShowsStop v stop whole
  model-stops stop whole done names i z is-whole here stops =
      stops-same v stop whole _ (is-whole ∙ at_equation done names i z here) (stops-then v stop (equation_rows done (get_or names i z)) (λ after. model_from after (drop (i + 1) names)) stops)

  -- no equation is left
  pub model-end : (done : List FormRow) (names : List ℕ) (i : ℕ) → length names ≤ i → model_from done (drop i names) ≡ Ok done
  model-end done names i all = at_drop_all (model_from done) names i all ∙ ap Ok (append-nil done)

  -- the rows of the one definition of an equation
  pub equation-defined : (done : List FormRow) (name : ℕ) (d : Definition F) → definition_of ds name ≡ d ∷ [] → equation_rows done name ≡ (rows_of_definition v limit state d and_then λ those. Ok (done ++ those))
  equation-defined done name d e =
      ap (λ those. in_order (map (rows_of_definition v limit state) those) and_then λ those. Ok (done ++ joined_rows those)) e
      ∙ by (rows_of_definition v limit state d)
    where
      by : (a : Answer (List FormRow)) → ((a and_then λ z. Ok ([]) and_then λ zs. Ok (z ∷ zs)) and_then λ those. Ok (done ++ joined_rows those)) ≡ (a and_then λ those. Ok (done ++ those))
      by (Ok those) = ap (λ more. Ok (done ++ more)) (append-nil those)
      by (Err fault) = refl

  -- an equation without a definition has none
  pub equation-undefined : (done : List FormRow) (name : ℕ) → definition_of ds name ≡ [] → equation_rows done name ≡ Ok done
  equation-undefined done name e =
      ap (λ those. in_order (map (rows_of_definition v limit state) those) and_then λ those. Ok (done ++ joined_rows those)) e ∙ ap Ok (append-nil done)
