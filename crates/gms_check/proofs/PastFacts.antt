-- What is known before a statement, as a function of the statements before it.
use mathlib.Core.Bool.{and-false, or-false, or-true}
use Rattle.std.proofs.Common.{◌≡◌, ◌≤◌, ℕ, Bool, true, false, not, ◌==◌, ◌&&◌, ◌||◌, List, [], ◌∷◌, ◌++◌, length, get_or, map, set, replicate, refl, sym, ap, ◌∙◌, subst, append_assoc, Option, None, if◌then◌else◌, arith, eq-eqb}
use Rattle.std.specs.Prelude.{filter, flat_map, nat_lt, slice_set}
use Rattle.std.proofs.lemmas.Bool.{ltb-true, eqb-true}
use Rattle.std.proofs.lemmas.Bool.Decides.{nat_tests}
use Rattle.std.proofs.lemmas.List.{append-nil, map-append, length-map, length-replicate, length-set, set_past, get_or_past, get_or-replicate, get_or-set_same, get_or-set_other}
use Rattle.std.proofs.lemmas.List.Elements.{filter-append}
use Rattle.std.proofs.lemmas.List.Folds.{list_any-append}
use Rattle.std.proofs.lemmas.List.Sums.{fold-append}
use Rattle.std.proofs.lemmas.Grind.{flat_map-append}
use Rattle.gq_number.specs.Number.{Number}
use Rattle.gms_ast.specs.declared.declaration.DeclKind.{DeclKind}
use Rattle.gms_ast.specs.declared.declaration.DeclKind.TheVariants as declaring
use Rattle.gms_ast.specs.declared.program.Stmt.{Stmt}
use Rattle.gms_ast.specs.declared.program.Program.{Program}
use Rattle.gms_store.specs.State.{Symbol, State, no_symbol, symbol_at, base_of}
use Rattle.gms_store.specs.Declarations.{blank_state, is_set, is_undeclared}
use Rattle.gms_scope.specs.Below.{superset_in}
use Rattle.gms_scope.specs.DynamicSets.{dynamic_sets}
use Rattle.gms_scope.specs.Facts.{Facts, first_facts, marked, names, with_marks}
use Rattle.gms_scope.specs.Names.{has_one_position, positions}
use Rattle.gms_check.specs.CompileErrors.{names_before, of_program}
use Rattle.gms_check.specs.Past.{Past, after_statement, declared_names, defines, equations_declared, gives_unordered, is_among, is_defined, is_unordered, models_after, models_declared_by, names_declared, state_after}
use Rattle.gms_check.proofs.Outlines.{at-drawn, drawn, outline, read-at}
use Rattle.gms_check.proofs.KnownNames.{IsKnown}
use Rattle.gms_check.proofs.KnownFacts.{AreSettled, FactsGo, Grows, in_table, is_equation_in, kept-equations, settled-append, settled-grows}

-- ---- marks

or_assoc : (a b c : Bool) → ((a || b) || c) ≡ (a || (b || c))
or_assoc true b c = refl
or_assoc false b c = refl

and-or : (a b c : Bool) → ((a && b) || (a && c)) ≡ (a && (b || c))
and-or true b c = refl
and-or false b c = refl

-- one name more that is marked
pub mark-one : (marks : List Bool) (name n : ℕ) → marked (slice_set marks name true) n ≡ (marked marks n || (nat_lt n (length marks) && (name == n)))
mark-one marks name n = by (name == n) refl (nat_lt n (length marks)) refl
  where
    by : (s : Bool) → (name == n) ≡ s → (t : Bool) → nat_lt n (length marks) ≡ t → marked (slice_set marks name true) n ≡ (marked marks n || (t && s))
    by true q true r =
        let less = ltb-true n (length marks) r in
        ap (λ (k : ℕ). get_or (set marks k true) n false) (eqb-true name n q) ∙ get_or-set_same marks n true false less ∙ sym (or-true (marked marks n))
    by true q false r =
        let same = eqb-true name n q in
        let past : length marks ≤ name = grind (arith, nat_tests) in
        ap (λ (ms : List Bool). get_or ms n false) (set_past marks name true past) ∙ sym (or-false (marked marks n))
    by false q t r =
        get_or-set_other marks name n true false (λ e. absurd (let f = eq-eqb name n (sym e) in cc)) ∙ sym (ap (λ b. marked marks n || b) (and-false t) ∙ or-false (marked marks n))

-- names that are marked
mark-all : (names : List ℕ) (marks : List Bool) (n : ℕ) → marked (with_marks marks names) n ≡ (marked marks n || (nat_lt n (length marks) && is_among names n))
mark-all [] marks n = sym (ap (λ b. marked marks n || b) (and-false (nat_lt n (length marks))) ∙ or-false (marked marks n))
mark-all (name ∷ names) marks n =
    mark-all names (slice_set marks name true) n
    ∙ ap (λ (k : ℕ). marked (slice_set marks name true) n || (nat_lt n k && is_among names n)) (length-set marks name true)
    ∙ ap (λ b. b || (nat_lt n (length marks) && is_among names n)) (mark-one marks name n)
    ∙ or_assoc (marked marks n) (nat_lt n (length marks) && (name == n)) (nat_lt n (length marks) && is_among names n)
    ∙ ap (λ b. marked marks n || b) (and-or (nat_lt n (length marks)) (name == n) (is_among names n))

default-replicate : {X : Type 0} (count n : ℕ) (x : X) → get_or (replicate count x) n x ≡ x
default-replicate count n x = by (nat_lt n count) refl
  where
    by : (b : Bool) → nat_lt n count ≡ b → get_or (replicate count x) n x ≡ x
    by true q = get_or-replicate count n x x (ltb-true n count q)
    by false q =
        let size = length-replicate count x in
        let past : length (replicate count x) ≤ n = grind (arith, nat_tests) in
        get_or_past (replicate count x) n x past

-- ---- models

-- models with those of their equations that are equations in a state, where the table has `count`
-- names
abbrev pub listed_in : ℕ → State → List (ℕ × List ℕ) → List (ℕ × List ℕ)
listed_in count state models =
    map {B = ℕ × List ℕ} (λ (model : ℕ × List ℕ). (model.0, filter (is_equation_in state) model.1)) (filter (λ (model : ℕ × List ℕ). in_table count model.0) models)

-- models whose equations are settled
abbrev pub AreFixed : ℕ → State → List (ℕ × List ℕ) → Type 0
AreFixed count state [] = Unit {0}
AreFixed count state (model ∷ models) = AreSettled count state model.1 × AreFixed count state models

fixed-append : (count : ℕ) (t : State) (xs ys : List (ℕ × List ℕ)) → AreFixed count t xs → AreFixed count t ys → AreFixed count t (xs ++ ys)
fixed-append count t [] ys f g = g
fixed-append count t (x ∷ xs) ys f g = (f.0, fixed-append count t xs ys f.1 g)

fixed-grows : (count : ℕ) (a b : State) → Grows a b → (ms : List (ℕ × List ℕ)) → AreFixed count a ms → AreFixed count b ms
fixed-grows count a b f [] s = tt
fixed-grows count a b f (m ∷ ms) s = (settled-grows count a b f m.1 s.0, fixed-grows count a b f ms s.1)

listed-append : (count : ℕ) (t : State) (xs ys : List (ℕ × List ℕ)) → listed_in count t (xs ++ ys) ≡ listed_in count t xs ++ listed_in count t ys
listed-append count t xs ys =
    ap (map {B = ℕ × List ℕ} (λ (model : ℕ × List ℕ). (model.0, filter (is_equation_in t) model.1))) (filter-append (λ (model : ℕ × List ℕ). in_table count model.0) xs ys) ∙ map-append (λ (model : ℕ × List ℕ). (model.0, filter (is_equation_in t) model.1)) (filter (λ (model : ℕ × List ℕ). in_table count model.0) xs) (filter (λ (model : ℕ × List ℕ). in_table count model.0) ys)

module _ {F : Type 0} where
  -- the names that the statements before declare as equations
  abbrev pub equations_before : Past F → List ℕ
  equations_before past = flat_map (λ (p : Stmt F × Bool). equations_declared p.0.act) past

  models-push : (declared : List ℕ) (past : Past F) (p : Stmt F × Bool) → models_after declared (past ++ p ∷ []) ≡ models_after declared past ++ models_declared_by (declared ++ equations_before past) p.1 p.0.act
  models-push declared [] p =
      append-nil (models_declared_by declared p.1 p.0.act) ∙ ap (λ (es : List ℕ). models_declared_by es p.1 p.0.act) (sym (append-nil declared))
  models-push declared (q ∷ past) p =
      ap (λ ms. models_declared_by declared q.1 q.0.act ++ ms) (models-push (declared ++ equations_declared q.0.act) past p ∙ ap (λ (es : List ℕ). models_after (declared ++ equations_declared q.0.act) past ++ models_declared_by es p.1 p.0.act) (append_assoc declared (equations_declared q.0.act) (equations_before past))) ∙ sym (append_assoc (models_declared_by declared q.1 q.0.act) (models_after (declared ++ equations_declared q.0.act) past) (models_declared_by (declared ++ equations_before (q ∷ past)) p.1 p.0.act))

-- what of models is listed stays
listed-grows : (count : ℕ) (a b : State) (keep : (ns : List ℕ) → AreSettled count a ns → filter (is_equation_in b) ns ≡ filter (is_equation_in a) ns) (ms : List (ℕ × List ℕ)) → AreFixed count a ms → listed_in count b ms ≡ listed_in count a ms
listed-grows count a b keep [] s = refl
listed-grows count a b keep (m ∷ ms) s = by (in_table count m.0) (listed-grows count a b keep ms s.1)
  where
    by : (t : Bool) → listed_in count b ms ≡ listed_in count a ms → map {B = ℕ × List ℕ} (λ (model : ℕ × List ℕ). (model.0, filter (is_equation_in b) model.1)) (if t then m ∷ filter (λ (model : ℕ × List ℕ). in_table count model.0) ms else filter (λ (model : ℕ × List ℕ). in_table count model.0) ms) ≡ map {B = ℕ × List ℕ} (λ (model : ℕ × List ℕ). (model.0, filter (is_equation_in a) model.1)) (if t then m ∷ filter (λ (model : ℕ × List ℕ). in_table count model.0) ms else filter (λ (model : ℕ × List ℕ). in_table count model.0) ms)
    by true e =
        ap (λ (es : List ℕ). (m.0, es) ∷ listed_in count b ms) (keep m.1 s.0) ∙ ap (λ (rest : List (ℕ × List ℕ)). (m.0, filter (is_equation_in a) m.1) ∷ rest) e
    by false e = e

-- ---- facts and statements

module _ {F : Type 0} (value : F → Number) (program : Program F) where
  -- What is known is what these statements of a program make.
  pub record Occurs (facts : Facts) (past : Past F) : Type 0 where
    pub state : facts.state ≡ state_after value (length program.names) past
    pub known : IsKnown (length program.names) (drawn facts.state) facts.declared
    pub named : names facts ≡ names_before program past
    pub dynamic : (n : ℕ) → marked facts.dynamic n ≡ of_program program (is_among (dynamic_sets program)) n
    pub unordered_size : length facts.unordered ≡ length program.names
    pub unordered : (n : ℕ) → marked facts.unordered n ≡ of_program program (is_unordered past) n
    pub defined_size : length facts.defined ≡ length program.names
    pub defined : (n : ℕ) → marked facts.defined n ≡ of_program program (is_defined past) n
    pub equations : facts.equations ≡ filter (is_equation_in (drawn facts.state)) (equations_before past)
    pub settled : AreSettled (length program.names) (drawn facts.state) (equations_before past)
    pub models : facts.models ≡ listed_in (length program.names) (drawn facts.state) (models_after [] past)
    pub fixed : AreFixed (length program.names) (drawn facts.state) (models_after [] past)

  blank_at : (n : ℕ) → symbol_at (drawn (blank_state (length program.names))) n ≡ no_symbol
  blank_at n =
      at-drawn (blank_state (length program.names)) n ∙ ap outline (read-at (replicate (length program.names) no_symbol) n ∙ default-replicate (length program.names) n no_symbol)

  -- before the first statement
  pub occurs-first : Occurs (first_facts program) []
  occurs-first = record {
    state = refl;
    known = record {
      size = length-map (replicate (length program.names) no_symbol) outline ∙ length-replicate (length program.names) no_symbol;
      entered = λ n. sym (ap (λ (s : Symbol). not (is_undeclared s.content)) (blank_at n));
      aliases = λ n b e. absurd (let f = ap (λ (s : Symbol). s.content) (blank_at n) in cc);
      above = λ n. sym (ap (λ (o : Option ℕ). if base_of (drawn (blank_state (length program.names))) n == n then o else None) (ap (λ (s : Symbol). if is_set s.content && has_one_position (drawn (blank_state (length program.names))) n then superset_in (drawn (blank_state (length program.names))) [] n (positions (drawn (blank_state (length program.names))) n) else None) (blank_at n)) ∙ nothing (base_of (drawn (blank_state (length program.names))) n == n));
    };
    named = refl;
    dynamic = λ n. mark-all (dynamic_sets program) (replicate (length program.names) false) n ∙ ap (λ b. b || (nat_lt n (length (replicate (length program.names) false)) && is_among (dynamic_sets program) n)) (default-replicate (length program.names) n false) ∙ ap (λ (k : ℕ). nat_lt n k && is_among (dynamic_sets program) n) (length-replicate (length program.names) false);
    unordered_size = length-replicate (length program.names) false;
    unordered = λ n. default-replicate (length program.names) n false ∙ sym (and-false (nat_lt n (length program.names)));
    defined_size = length-replicate (length program.names) false;
    defined = λ n. default-replicate (length program.names) n false ∙ sym (and-false (nat_lt n (length program.names)));
    equations = refl;
    settled = tt;
    models = refl;
    fixed = tt;
  }
    where
      nothing : (b : Bool) → ◌≡◌ {A = Option ℕ} (if b then None else None) None
      nothing true = refl
      nothing false = refl

  -- one statement more
  module _ (facts after : Facts) (past : Past F) (occurs : Occurs facts past) (p : Stmt F × Bool) where
    pub occurs-more : after.state ≡ after_statement value facts.state p → FactsGo (length program.names) facts after (names_declared p.0.act) (equations_declared p.0.act) → after.dynamic ≡ facts.dynamic → length after.unordered ≡ length program.names → ((n : ℕ) → marked after.unordered n ≡ (marked facts.unordered n || (nat_lt n (length program.names) && (p.1 && gives_unordered n p.0.act)))) → length after.defined ≡ length program.names → ((n : ℕ) → marked after.defined n ≡ (marked facts.defined n || (nat_lt n (length program.names) && defines n p.0.act))) → after.models ≡ facts.models ++ listed_in (length program.names) (drawn after.state) (models_declared_by (equations_before past) p.1 p.0.act) → AreFixed (length program.names) (drawn after.state) (models_declared_by (equations_before past) p.1 p.0.act) → Occurs after (past ++ p ∷ [])
    occurs-more state go dynamic unordered_size unordered defined_size defined models fixed = record {
      state = state ∙ ap (λ (s : State). after_statement value s p) occurs.state ∙ sym (fold-append (after_statement value) (blank_state (length program.names)) past (p ∷ []));
      known = go.known;
      named = go.named ∙ ap (λ ns. ns ++ filter (in_table (length program.names)) (names_declared p.0.act)) occurs.named ∙ sym (ap (filter (in_table (length program.names))) (flat_map-append (λ (p : Stmt F × Bool). names_declared p.0.act) past (p ∷ []) ∙ ap (λ ns. declared_names past ++ ns) (append-nil (names_declared p.0.act))) ∙ filter-append (in_table (length program.names)) (declared_names past) (names_declared p.0.act));
      dynamic = λ n. ap (λ (ms : List Bool). marked ms n) dynamic ∙ occurs.dynamic n;
      unordered_size = unordered_size;
      unordered = λ n. unordered n ∙ ap (λ b. b || (nat_lt n (length program.names) && (p.1 && gives_unordered n p.0.act))) (occurs.unordered n) ∙ and-or (nat_lt n (length program.names)) (is_unordered past n) (p.1 && gives_unordered n p.0.act) ∙ ap (λ b. nat_lt n (length program.names) && b) (sym (list_any-append (λ (p : Stmt F × Bool). p.1 && gives_unordered n p.0.act) past (p ∷ []) ∙ ap (λ b. is_unordered past n || b) (or-false (p.1 && gives_unordered n p.0.act))));
      defined_size = defined_size;
      defined = λ n. defined n ∙ ap (λ b. b || (nat_lt n (length program.names) && defines n p.0.act)) (occurs.defined n) ∙ and-or (nat_lt n (length program.names)) (is_defined past n) (defines n p.0.act) ∙ ap (λ b. nat_lt n (length program.names) && b) (sym (list_any-append (λ (p : Stmt F × Bool). defines n p.0.act) past (p ∷ []) ∙ ap (λ b. is_defined past n || b) (or-false (defines n p.0.act))));
      equations = go.equated ∙ ap (λ es. es ++ filter (is_equation_in (drawn after.state)) (equations_declared p.0.act)) (occurs.equations ∙ sym (keep (equations_before past) occurs.settled)) ∙ sym (ap (filter (is_equation_in (drawn after.state))) equations ∙ filter-append (is_equation_in (drawn after.state)) (equations_before past) (equations_declared p.0.act));
      settled = subst (AreSettled (length program.names) (drawn after.state)) (sym equations) (settled-append (length program.names) (drawn after.state) (equations_before past) (equations_declared p.0.act) (settled-grows (length program.names) (drawn facts.state) (drawn after.state) go.grows (equations_before past) occurs.settled) go.settled);
      models = models ∙ ap (λ ms. ms ++ listed_in (length program.names) (drawn after.state) (models_declared_by (equations_before past) p.1 p.0.act)) (occurs.models ∙ sym (listed-grows (length program.names) (drawn facts.state) (drawn after.state) keep (models_after [] past) occurs.fixed)) ∙ sym (ap (listed_in (length program.names) (drawn after.state)) (models-push [] past p) ∙ listed-append (length program.names) (drawn after.state) (models_after [] past) (models_declared_by (equations_before past) p.1 p.0.act));
      fixed = subst (AreFixed (length program.names) (drawn after.state)) (sym (models-push [] past p)) (fixed-append (length program.names) (drawn after.state) (models_after [] past) (models_declared_by (equations_before past) p.1 p.0.act) (fixed-grows (length program.names) (drawn facts.state) (drawn after.state) go.grows (models_after [] past) occurs.fixed) fixed);
    }
      where
        keep : (ns : List ℕ) → AreSettled (length program.names) (drawn facts.state) ns → filter (is_equation_in (drawn after.state)) ns ≡ filter (is_equation_in (drawn facts.state)) ns
        keep ns s = kept-equations (length program.names) (drawn facts.state) (drawn after.state) facts.declared after.declared occurs.known go.known go.grows ns s

        equations : equations_before (past ++ p ∷ []) ≡ equations_before past ++ equations_declared p.0.act
        equations = flat_map-append (λ (p : Stmt F × Bool). equations_declared p.0.act) past (p ∷ []) ∙ ap (λ ns. equations_before past ++ ns) (append-nil (equations_declared p.0.act))
