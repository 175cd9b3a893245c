-- The statements of a program declare names of the program's table. If that is empty, its
-- derivation means the same by any table, also by one in which each part of the source comes after
-- another text. By that table no name has the number 0, and by its own each has: so it declares
-- none.
use Rattle.std.proofs.Common.{◌≡◌, ℕ, zero, suc, ◌-◌, ◌<◌, ◌≤◌, Bool, true, false, List, [], ◌∷◌, ◌++◌, length, map, take, drop, get_or, Option, Some, None, refl, sym, ap, ◌∙◌, subst, arith, ◌⊎◌, inl, inr, length-append}
use Rattle.std.specs.Prelude.{flat_map}
use Rattle.std.proofs.lemmas.List.{length-map}
use Rattle.std.proofs.lemmas.Slice.Eq.{bytes_eq-Decides}
use Rattle.gq_number.specs.Number.{Number}
use Rattle.gms_labels.specs.Labels.{lower_case, is_same, place_of}
use Rattle.gms_labels.proofs.Places.{is_same_refl, place_of-reads, position_misses}
use Rattle.gms_lex.specs.TokenTexts.{token_text}
use Rattle.gms_ast.specs.StatementTrees.{Act, declares, aliases, declares_models, Statements, no_statement, statement}
use Rattle.gms_grammar.specs.Grammar.{yield}
use Rattle.gms_expressions.specs.ExpressionTrees.{name_in, or_0, token_of}
use Rattle.gms_parse.specs.Outcomes.{ProgramView, HasProgram}
use Rattle.gms_parse.specs.Programs.{statements_of}
use Rattle.gms_parse.specs.InnerReadings.{Derivation}
use Rattle.gms_parse.specs.ReadStates.{KindedToken}
use Rattle.gms_joint_source.proofs.StatePrefixes.{AreAlike}
use Rattle.gms_joint_source.proofs.Kinships.{program_kin}
use Rattle.gms_joint_source.proofs.KinPrograms.{statements_same}
use Rattle.gms_restart.proofs.OwnNames.{statements-own}
use Rattle.gms_restart.proofs.Padding.{HoldsOf, HoldsOfAct, HoldsOfAll, IsBelow}

-- ---- the texts of a source

-- the prefixes of bytes
prefixes : List ℕ → List (List ℕ)
prefixes [] = [] ∷ []
prefixes (b ∷ bytes) = [] ∷ map (λ (text : List ℕ). b ∷ text) (prefixes bytes)

-- all parts of bytes
pub parts : List ℕ → List (List ℕ)
parts [] = prefixes []
parts (b ∷ bytes) = prefixes (b ∷ bytes) ++ parts bytes

-- a text is one of some
abbrev pub Has : List (List ℕ) → List ℕ → Type 0
Has [] text = ⊥
Has (first ∷ texts) text = (first ≡ text) ⊎ Has texts text

has-longer : (b : ℕ) (texts : List (List ℕ)) (text : List ℕ) → Has texts text → Has (map (λ (text : List ℕ). b ∷ text) texts) (b ∷ text)
has-longer b [] text h = absurd h
has-longer b (first ∷ texts) text (inl e) = inl (ap (λ (t : List ℕ). b ∷ t) e)
has-longer b (first ∷ texts) text (inr h) = inr (has-longer b texts text h)

pub has-left : (texts others : List (List ℕ)) (text : List ℕ) → Has texts text → Has (texts ++ others) text
has-left [] others text h = absurd h
has-left (first ∷ texts) others text (inl e) = inl e
has-left (first ∷ texts) others text (inr h) = inr (has-left texts others text h)

pub has-right : (texts others : List (List ℕ)) (text : List ℕ) → Has others text → Has (texts ++ others) text
has-right [] others text h = h
has-right (first ∷ texts) others text h = inr (has-right texts others text h)

prefixes-have : (bytes : List ℕ) (k : ℕ) → Has (prefixes bytes) (take k bytes)
unfolding prefixes
prefixes-have [] zero = inl refl
prefixes-have [] (suc k) = inl refl
prefixes-have (b ∷ bytes) zero = inl refl
prefixes-have (b ∷ bytes) (suc k) = inr (has-longer b (prefixes bytes) (take k bytes) (prefixes-have bytes k))

pub parts-have : (bytes : List ℕ) (i k : ℕ) → Has (parts bytes) (take k (drop i bytes))
unfolding parts
parts-have [] zero k = prefixes-have [] k
parts-have [] (suc i) k = prefixes-have [] k
parts-have (b ∷ bytes) zero k = has-left (prefixes (b ∷ bytes)) (parts bytes) (take k (b ∷ bytes)) (prefixes-have (b ∷ bytes) k)
parts-have (b ∷ bytes) (suc i) k = has-right (prefixes (b ∷ bytes)) (parts bytes) (take k (drop i bytes)) (parts-have bytes i k)

-- the place at which it is among them
has-at : (texts : List (List ℕ)) (text : List ℕ) → Has texts text → (k : ℕ) × (k < length texts) × (get_or texts k [] ≡ text)
has-at [] text h = absurd h
has-at (first ∷ texts) text (inl e) = (0, omega arith, e)
has-at (first ∷ texts) text (inr h) = let at = has-at texts text h in (suc at.0, omega (arith, at.1), at.2)

-- ---- a table of them

-- texts of one label are equally long
same-long : (a b : List ℕ) → is_same a b ≡ true → length a ≡ length b
same-long a b e =
    let long : length (lower_case a) ≡ length (lower_case b) = ap (λ (t : List ℕ). length t) ((bytes_eq-Decides (lower_case a) (lower_case b)).0 e) in
    sym (length-map a _) ∙ long ∙ length-map b _

-- the texts after one that is longer than each
abbrev pub after_longer : List (List ℕ) → List (List ℕ)
after_longer texts = (0 ∷ flat_map (λ (text : List ℕ). text) texts) ∷ texts

not-longer : (texts : List (List ℕ)) (text : List ℕ) → Has texts text → length text ≤ length (flat_map (λ (text : List ℕ). text) texts)
not-longer [] text there = absurd there
not-longer (first ∷ texts) text (inl same) =
    let long : length first ≡ length text = ap (λ (t : List ℕ). length t) same in
    let all = length-append first (flat_map (λ (text : List ℕ). text) texts) in
    omega (arith, long, all)
not-longer (first ∷ texts) text (inr there) =
    let few = not-longer texts text there in
    let all = length-append first (flat_map (λ (text : List ℕ). text) texts) in
    omega (arith, few, all)

-- each of them has a place after the first
pub placed-following : (texts : List (List ℕ)) (text : List ℕ) → Has texts text → (o : Option ℕ) → place_of (after_longer texts) text ≡ o → 0 < or_0 o
placed-following texts text there None e =
    let at = has-at texts text there in
    let missed : is_same text (get_or (after_longer texts) (suc at.0) []) ≡ false = position_misses (is_same text) (after_longer texts) e (suc at.0) [] (omega (arith, at.1)) in
    let found : is_same text (get_or texts at.0 []) ≡ true = subst (λ (t : List ℕ). is_same text t ≡ true) (sym at.2) (is_same_refl text) in
    absurd (let z : ◌≡◌ {A = Bool} true false = sym found ∙ missed in cc)
placed-following texts text there (Some zero) e =
    let long : length text ≡ length (0 ∷ flat_map (λ (text : List ℕ). text) texts) = same-long text (0 ∷ flat_map (λ (text : List ℕ). text) texts) (place_of-reads (after_longer texts) text 0 e).1 in
    let few = not-longer texts text there in
    absurd (omega (arith, long, few))
placed-following texts text there (Some (suc n)) e = omega arith

module _ (source : List ℕ) where
  -- the parts of a source after a text that is none of them
  abbrev table : List (List ℕ)
  table = after_longer (parts source)

  -- each name that it gives has a number
  named : (labels : List (List ℕ)) (tree : Derivation) → 0 < name_in source table labels tree
  named labels tree =
      let token = token_of tree in
      let text : List ℕ = token_text source token in
      placed-following (parts source) text (parts-have source token.start (token.end - token.start)) (place_of table text) refl

-- ---- programs

-- what holds of all in two ways
both-hold : (P Q R : ℕ → Type 0) → ((n : ℕ) → P n → Q n → R n) → (ns : List ℕ) → HoldsOf P ns → HoldsOf Q ns → HoldsOf R ns
both-hold P Q R f [] one other = tt
both-hold P Q R f (n ∷ ns) one other = (f n one.0 other.0, both-hold P Q R f ns one.1 other.1)

act-both : (P Q R : ℕ → Type 0) → ((n : ℕ) → P n → Q n → R n) → (act : Act Number) → HoldsOfAct P act → HoldsOfAct Q act → HoldsOfAct R act
act-both P Q R f (declares kind items) one other = both-hold P Q R f _ one other
act-both P Q R f (aliases first second) one other = (f first.name one.0 other.0, f second.name one.1 other.1)
act-both P Q R f (declares_models models) one other = both-hold P Q R f _ one other
act-both P Q R f _ one other = tt

all-both : (P Q R : ℕ → Type 0) → ((n : ℕ) → P n → Q n → R n) → (statements : Statements Number) → HoldsOfAll P statements → HoldsOfAll Q statements → HoldsOfAll R statements
all-both P Q R f no_statement one other = tt
all-both P Q R f (statement at act rest) one other = (act-both P Q R f act one.0 other.0, all-both P Q R f rest one.1 other.1)

pub alike-itself : (source : List ℕ) (tokens : List KindedToken) → AreAlike source source tokens
alike-itself source [] = tt
alike-itself source (token ∷ tokens) = (refl, alike-itself source tokens)

module _ (limit : ℕ) (source : List ℕ) (view : ProgramView) (has : HasProgram limit source view) where
  -- a number of a table that has a name
  some-below : (o : Option ℕ) (text : List ℕ) → 0 < length view.names → place_of view.names text ≡ o → or_0 o < length view.names
  some-below None text some e = some
  some-below (Some n) text some e = (place_of-reads view.names text n e).0

  -- where the table has no name, nothing is declared
  none-declared : view.names ≡ [] → HoldsOfAll (IsBelow (length view.names)) view.statements
  none-declared none =
      let meant : view.statements ≡ statements_of source view.names view.labels has.is.tree = has.is.statements_are in
      let keep : (text : List ℕ) (n : ℕ) → place_of view.names text ≡ Some n → place_of (table source) text ≡ Some n = λ text n e. absurd (let z : ◌≡◌ {A = Option ℕ} None (Some n) = sym (ap (λ (ns : List (List ℕ)). place_of ns text) none) ∙ e in cc) in
      let kin = program_kin limit source source view.names (table source) view.labels view.labels keep (λ text n e. e) has.is.tree has.is.is_tree has.is.tables (record { names_are = has.is.names_are; labels_are = has.is.labels_are; parts = refl; alike = alike-itself source (yield has.is.tree) }) in
      let same : statements_of source view.names view.labels has.is.tree ≡ statements_of source (table source) view.labels has.is.tree = statements_same source source view.names (table source) view.labels view.labels kin in
      let numbered : HoldsOfAll (λ n. 0 < n) view.statements = subst (HoldsOfAll (λ n. 0 < n)) (sym (meant ∙ same)) (statements-own source (table source) view.labels (λ n. 0 < n) (named source view.labels) has.is.tree) in
      let unnumbered : HoldsOfAll (λ n. n ≡ 0) view.statements = subst (HoldsOfAll (λ n. n ≡ 0)) (sym meant) (statements-own source view.names view.labels (λ n. n ≡ 0) (λ tree. ap (λ (ns : List (List ℕ)). name_in source ns view.labels tree) none) has.is.tree) in
      all-both (λ n. 0 < n) (λ n. n ≡ 0) (IsBelow (length view.names)) (λ n more zero. absurd (omega (arith, more, zero))) view.statements numbered unnumbered

  -- The names that a program declares are those of its table.
  pub program-own : HoldsOfAll (IsBelow (length view.names)) view.statements
  program-own = by view.names refl
    where
      by : (names : List (List ℕ)) → view.names ≡ names → HoldsOfAll (IsBelow (length view.names)) view.statements
      by [] none = none-declared none
      by (name ∷ names) some =
          let size : length view.names ≡ suc (length names) = ap (λ (ns : List (List ℕ)). length ns) some in
          let there : 0 < length view.names = omega (arith, size) in
          subst (HoldsOfAll (IsBelow (length view.names))) (sym has.is.statements_are)
          (statements-own source view.names view.labels (IsBelow (length view.names)) (λ tree. some-below (place_of view.names (token_text source (token_of tree))) (token_text source (token_of tree)) there refl) has.is.tree)
