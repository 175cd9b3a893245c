-- The equations of a model differ, and so do all its rows.
use Rattle.std.proofs.Common.{◌≡◌, ◌≢◌, ℕ, Bool, true, false, ◌==◌, if◌then◌else◌, List, [], ◌∷◌, ◌++◌, map, Option, Some, None, Ok, refl, sym, subst}
use Rattle.std.specs.Prelude.{flat_map}
use Rattle.std.specs.List.{All, AllPairs}
use Rattle.std.proofs.lemmas.Bool.{eqb-true}
use Rattle.std.proofs.lemmas.List.Elements.{All-nil, All-cons, All-head, All-tail, All-append}
use Rattle.gq_number.specs.Number.{Number}
use Rattle.gms_ast.specs.declared.declaration.ModelDecl.{ModelDecl}
use Rattle.gms_ast.specs.declared.program.Stmt.{Stmt}
use Rattle.gms_store.specs.State.{State}
use Rattle.gms_eval.specs.Nodes.{in_order}
use Rattle.gms_rows.specs.Plain.{ArePlain, HasPlainDefinitions}
use Rattle.gms_rows.specs.Rows.{Definition, FormRow, distinct_numbers, sets_among, definitions, definition_of, listed_equations, found, equations_declared_by, models_of, equations_from, equations_of, rows_of_definition, rows_of_model}
use Rattle.gms_rows.specs.InnerContracts.{HaveOrder}
use Rattle.gms_rows.specs.ElementRows.{AreInOrder}
use Rattle.gms_rows.proofs.Domains.{given, only_value}
use Rattle.gms_rows.proofs.RowKeys.{AreApart, distinct_numbers-apart, HaveApart, definitions-apart}
use Rattle.gms_rows.proofs.RowSequences.{joined_rows}

-- ---- equations

listed-apart : (declared : List ℕ) (model : ModelDecl) → AreApart declared → AreApart (listed_equations declared model)
listed-apart declared model apart = by model.all
  where
    by : (b : Bool) → AreApart (if b then declared else distinct_numbers (map (λ equation. equation.name) model.equations))
    by true = apart
    by false = distinct_numbers-apart (map (λ equation. equation.name) model.equations)

found-apart : (declared : List ℕ) (name : ℕ) (models : List ModelDecl) (equations : List ℕ) → AreApart declared → found declared name models ≡ Some equations → AreApart equations
found-apart declared name [] equations apart e = absurd (cc)
found-apart declared name (model ∷ models) equations apart e =
    by (model.named.name == name) e (found-apart declared name models equations apart)
  where
    by : (b : Bool) → (if b then Some (listed_equations declared model) else found declared name models) ≡ Some equations → (found declared name models ≡ Some equations → AreApart equations) → AreApart equations
    by true e rest = let is : listed_equations declared model ≡ equations = cc in subst AreApart is (listed-apart declared model apart)
    by false e rest = rest e

module _ {F : Type 0} where
  from-apart : (declared : List ℕ) (name : ℕ) (statements : List (Stmt F)) → AreApart (equations_from declared name statements)
  from-apart declared name [] = tt
  from-apart declared name (s ∷ statements) =
      by (found (distinct_numbers declared) name (models_of s.act)) refl (from-apart (declared ++ equations_declared_by s.act) name statements)
    where
      by : (o : Option (List ℕ)) → found (distinct_numbers declared) name (models_of s.act) ≡ o → AreApart (equations_from (declared ++ equations_declared_by s.act) name statements) → AreApart (elim o [ Some equations ↦ equations | None ↦ equations_from (declared ++ equations_declared_by s.act) name statements ])
      by (Some equations) e rest = found-apart (distinct_numbers declared) name (models_of s.act) equations (distinct_numbers-apart declared) e
      by None e rest = rest

  -- no equation of a model occurs twice
  pub equations-apart : (statements : List (Stmt F)) (name : ℕ) → AreApart (equations_of statements name)
  equations-apart statements name = from-apart [] name statements

  -- ---- their definitions

  -- what holds of all definitions holds of that of an equation
  found-All : (P : Definition F → Type 0) (ds : List (Definition F)) (name : ℕ) → All P ds → All P (definition_of ds name)
  found-All P [] name all = All-nil P
  found-All P (d ∷ ds) name all = by (d.equation == name) (found-All P ds name (All-tail P d ds all))
    where
      by : (b : Bool) → All P (definition_of ds name) → All P (if b then d ∷ [] else definition_of ds name)
      by true rest = All-cons P d [] (All-head P d ds all) (All-nil P)
      by false rest = rest

  -- the definition of an equation is of that equation
  found-named : (Q : ℕ → Type 0) (ds : List (Definition F)) (name : ℕ) → Q name → All (λ (d : Definition F). Q d.equation) (definition_of ds name)
  found-named Q [] name holds = All-nil (λ (d : Definition F). Q d.equation)
  found-named Q (d ∷ ds) name holds = by (d.equation == name) refl (found-named Q ds name holds)
    where
      by : (b : Bool) → (d.equation == name) ≡ b → All (λ (d : Definition F). Q d.equation) (definition_of ds name) → All (λ (d : Definition F). Q d.equation) (if b then d ∷ [] else definition_of ds name)
      by true e rest =
          All-cons (λ (d : Definition F). Q d.equation) d [] (subst Q (sym (eqb-true d.equation name e)) holds) (All-nil (λ (d : Definition F). Q d.equation))
      by false e rest = rest

  -- what holds of the definition of each equation holds of them all
  pub each-All : (P : Definition F → Type 0) (ds : List (Definition F)) (names : List ℕ) → All (λ name. All P (definition_of ds name)) names → All P (flat_map (definition_of ds) names)
  each-All P ds [] all = All-nil P
  each-All P ds (name ∷ names) all =
      All-append P (definition_of ds name) (flat_map (definition_of ds) names) (All-head (λ name. All P (definition_of ds name)) name names all) (each-All P ds names (All-tail (λ name. All P (definition_of ds name)) name names all))

  module _ (v : F → Number) (limit : ℕ) (state : State) where
    one-apart : (ds : List (Definition F)) (name : ℕ) (others : List (Definition F)) → All (λ (d : Definition F). (name == d.equation) ≡ false) others → HaveApart v limit state others → HaveApart v limit state (definition_of ds name ++ others)
    one-apart [] name others unlike apart = apart
    one-apart (d ∷ ds) name others unlike apart = by (d.equation == name) refl (one-apart ds name others unlike apart)
      where
        by : (b : Bool) → (d.equation == name) ≡ b → HaveApart v limit state (definition_of ds name ++ others) → HaveApart v limit state ((if b then d ∷ [] else definition_of ds name) ++ others)
        by true e rest =
            (subst (λ n. All (λ (x : Definition F). (n == x.equation) ≡ false) others) (sym (eqb-true d.equation name e)) unlike, apart)
        by false e rest = rest

    -- the definitions of equations that differ are of different equations
    each-apart : (ds : List (Definition F)) (names : List ℕ) → AreApart names → HaveApart v limit state (flat_map (definition_of ds) names)
    each-apart ds [] apart = tt
    each-apart ds (name ∷ names) apart =
        one-apart ds name (flat_map (definition_of ds) names) (each-All (λ (d : Definition F). (name == d.equation) ≡ false) ds names (λ k d below. found-named (λ other. (name == other) ≡ false) ds _ (apart.0 k d below))) (each-apart ds names apart.1)

    -- the rows of a model differ
    pub model-apart : (statements : List (Stmt F)) (model : ℕ) (rows : List FormRow) → HasPlainDefinitions state statements → All (λ equation. HaveOrder state (definition_of (definitions statements) equation)) (equations_of statements model) → rows_of_model v limit state statements model ≡ Ok rows → AllPairs (λ a b. a.key ≢ b.key) rows
    model-apart statements model rows plain kept e =
        let ds = definitions statements in
        let names = equations_of statements model in
        let those = given (in_order (map (rows_of_definition v limit state) (flat_map (definition_of ds) names))) (λ rows. Ok (joined_rows rows)) rows e in
        subst (AllPairs (λ (a b : FormRow). a.key ≢ b.key)) (only_value _ _ those.next_is)
        (definitions-apart v limit state (flat_map (definition_of ds) names) those.value (each-apart ds names (equations-apart statements model)) (each-All (λ (d : Definition F). ArePlain state d.indices) ds names (λ k d below. found-All (λ (d : Definition F). ArePlain state d.indices) ds _ plain)) (each-All (λ (d : Definition F). AreInOrder state (distinct_numbers (sets_among d.indices))) ds names kept) those.is)
