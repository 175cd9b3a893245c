-- Declarations of names of a table of `count` names declare the same if more names follow in the
-- table.
use Rattle.std.proofs.Common.{◌≡◌, ℕ, zero, suc, ◌<◌, Bool, true, false, ◌&&◌, cond, List, [], ◌∷◌, ◌++◌, length, map, set, slice_get, Option, unwrap_or, refl, sym, ap, ap₂, ◌∙◌, subst, arith}
use Rattle.std.specs.Prelude.{replicate}
use Rattle.std.specs.List.{fold}
use Rattle.std.proofs.lemmas.List.{length-set}
use Rattle.gq_number.specs.Number.{Number}
use Rattle.gq_frac.specs.declared.frac.Frac.{Frac}
use Rattle.gms_ast.specs.declared.declaration.Decl.{Decl}
use Rattle.gms_ast.specs.declared.declaration.DeclKind.{DeclKind}
use Rattle.gms_ast.specs.declared.declaration.DeclKind.TheVariants as kind
use Rattle.gms_ast.specs.declared.declaration.ModelDecl.{ModelDecl}
use Rattle.gms_ast.specs.StatementTrees.{Act, declares, aliases, assigns, defines, declares_models, solves, displays, loops, sets_options, aborts, Statements, no_statement, statement}
use Rattle.gms_ast.specs.StatementView.{declared_in}
use Rattle.gms_store.specs.Declarations.{names_of, is_set, is_undeclared, declared_again, put_at, declare, alias_symbol, can_join, join_name, declare_alias, model_symbol, declare_model}
use Rattle.gms_store.specs.State.{State, Symbol, no_symbol, symbol_at, alias_target, base_of}
use Rattle.gms_check.proofs.IndexSetsStay.{none-declared}
use Rattle.gms_save.proofs.FromNumbers.{value_of}
use Rattle.gms_save.proofs.SeenActs.{told_by}
use Rattle.gms_save.proofs.SeenPrograms.{Seen}

-- ---- names that are declared

-- something holds of all of some names
abbrev pub HoldsOf : (ℕ → Type 0) → List ℕ → Type 0
HoldsOf P [] = Unit {0}
HoldsOf P (n ∷ ns) = P n × HoldsOf P ns

-- the names of declarations, and of models
abbrev pub item_names : List (Decl Number) → List ℕ
item_names items = map (λ (item : Decl Number). item.named.name) items

abbrev pub model_names : List ModelDecl → List ℕ
model_names models = map (λ (model : ModelDecl). model.named.name) models

-- it holds of the names that an act declares
abbrev pub HoldsOfAct : (ℕ → Type 0) → Act Number → Type 0
HoldsOfAct P (declares kind items) = HoldsOf P (item_names items)
HoldsOfAct P (aliases first second) = P first.name × P second.name
HoldsOfAct P (declares_models models) = HoldsOf P (model_names models)
HoldsOfAct P act = Unit {0}

-- and of the names that statements declare
abbrev pub HoldsOfAll : (ℕ → Type 0) → Statements Number → Type 0
HoldsOfAll P no_statement = Unit {0}
HoldsOfAll P (statement at act rest) = HoldsOfAct P act × HoldsOfAll P rest

-- a name is in a table of `count` names
abbrev pub IsBelow : ℕ → ℕ → Type 0
IsBelow count n = n < count

-- acts in order declare names of a table of `count` names
abbrev pub EachOwn : ℕ → List Seen → Type 0
EachOwn count [] = Unit {0}
EachOwn count (v ∷ vs) = HoldsOfAct (IsBelow count) v.1 × EachOwn count vs

-- ---- more names at the end

-- one of the states that an alias leads to, and that a model does
abbrev joined_or_set : ℕ → ℕ → Bool → Bool → State → State
joined_or_set first second a b t =
    cond a (join_name t first second) (cond b (join_name t second first) (declare kind.Set [] (declare kind.Set [] t first) second))

abbrev model_or_none : ℕ → Bool → State → State
model_or_none name a t = cond a (put_at t name model_symbol) t

module _ (more : ℕ) where
  abbrev pub padded : State → State
  padded s = record { symbols = s.symbols ++ replicate more no_symbol; settings = s.settings }

  read-padded : (xs : List Symbol) (n : ℕ) → unwrap_or (slice_get (xs ++ replicate more no_symbol) n) no_symbol ≡ unwrap_or (slice_get xs n) no_symbol
  read-padded [] n = none-declared more n
  read-padded (x ∷ xs) zero = refl
  read-padded (x ∷ xs) (suc n) = read-padded xs n

  -- a name has what it has without them
  pub at-padded : (s : State) (n : ℕ) → symbol_at (padded s) n ≡ symbol_at s n
  at-padded s n = read-padded s.symbols n

  set-padded : (xs others : List Symbol) (i : ℕ) (v : Symbol) → i < length xs → set (xs ++ others) i v ≡ set xs i v ++ others
  set-padded [] others i v within = absurd (omega arith)
  set-padded (x ∷ xs) others zero v within = refl
  set-padded (x ∷ xs) others (suc i) v within = ap (λ (ys : List Symbol). x ∷ ys) (set-padded xs others i v (omega arith))

  put-padded : (s : State) (i : ℕ) (v : Symbol) → i < length s.symbols → put_at (padded s) i v ≡ padded (put_at s i v)
  put-padded s i v within = ap (λ (xs : List Symbol). (let r : State = record { symbols = xs; settings = s.settings } in r)) (set-padded s.symbols (replicate more no_symbol) i v within)

  -- changing a symbol keeps the number of symbols
  put-count : (count : ℕ) (s : State) (i : ℕ) (v : Symbol) → length s.symbols ≡ count → length (put_at s i v).symbols ≡ count
  put-count count s i v size = length-set s.symbols i v ∙ size

  -- The result of a step is the same with more names at the end, and has as many names.
  record IsSame (count : ℕ) (step : State → State) (s : State) : Type 0 where
    same : step (padded s) ≡ padded (step s)
    size : length (step s).symbols ≡ count

  both-same : (count : ℕ) (f g : State → State) (s : State) → IsSame count f s → IsSame count g (f s) → IsSame count (λ t. g (f t)) s
  both-same count f g s first second = record { same = ap g first.same ∙ second.same; size = second.size }

  module _ (count : ℕ) where
    put-same : (s : State) (i : ℕ) (change : Symbol → Symbol) → i < count → length s.symbols ≡ count → IsSame count (λ t. put_at t i (change (symbol_at t i))) s
    put-same s i change within size = record {
      same = ap (λ (x : Symbol). put_at (padded s) i (change x)) (at-padded s i) ∙ put-padded s i (change (symbol_at s i)) (subst (λ n. i < n) (sym size) within);
      size = put-count count s i (change (symbol_at s i)) size;
    }

    declare-same : (k : DeclKind) (domain : List (Option ℕ)) (s : State) (name : ℕ) → name < count → length s.symbols ≡ count → IsSame count (λ t. declare k domain t name) s
    declare-same k domain s name within size = put-same s name (declared_again k domain) within size

    join-same : (s : State) (old new : ℕ) → new < count → length s.symbols ≡ count → IsSame count (λ t. join_name t old new) s
    join-same s old new within size = record {
      same = ap (λ (x : Symbol). put_at (padded s) new (alias_symbol (alias_target old x.content))) (at-padded s old) ∙ put-padded s new (alias_symbol (base_of s old)) (subst (λ n. new < n) (sym size) within);
      size = put-count count s new (alias_symbol (base_of s old)) size;
    }

    can-same : (s : State) (old new : ℕ) → can_join (padded s) old new ≡ can_join s old new
    can-same s old new = ap₂ (λ (a b : Symbol). is_set a.content && is_undeclared b.content) (at-padded s old) (at-padded s new)

    sets-same : (s : State) (first second : ℕ) → first < count → second < count → length s.symbols ≡ count → IsSame count (λ t. declare kind.Set [] (declare kind.Set [] t first) second) s
    sets-same s first second one two size =
        let h = declare-same kind.Set [] s first one size in
        both-same count (λ t. declare kind.Set [] t first) (λ t. declare kind.Set [] t second) s h (declare-same kind.Set [] (declare kind.Set [] s first) second two h.size)

    alias-same : (s : State) (first second : ℕ) → first < count → second < count → length s.symbols ≡ count → IsSame count (λ t. declare_alias t first second) s
    alias-same s first second one two size =
        let chosen = by (can_join s first second) (can_join s second first) in
        record {
          same = ap₂ (λ (a b : Bool). joined_or_set first second a b (padded s)) (can-same s first second) (can-same s second first) ∙ chosen.same;
          size = chosen.size;
        }
      where
        by : (a b : Bool) → IsSame count (λ t. joined_or_set first second a b t) s
        by true b = join-same s first second two size
        by false true = join-same s second first one size
        by false false = sets-same s first second one two size

    model-same : (s : State) (name : ℕ) → name < count → length s.symbols ≡ count → IsSame count (λ t. declare_model t name) s
    model-same s name within size =
        let chosen = by (is_undeclared (symbol_at s name).content) in
        record {
          same = ap (λ (x : Symbol). model_or_none name (is_undeclared x.content) (padded s)) (at-padded s name) ∙ chosen.same;
          size = chosen.size;
        }
      where
        by : (a : Bool) → IsSame count (λ t. model_or_none name a t) s
        by true = put-same s name (λ x. model_symbol) within size
        by false = record { same = refl; size = size }

    models-same : (models : List ModelDecl) (s : State) → HoldsOf (IsBelow count) (model_names models) → length s.symbols ≡ count → IsSame count (λ t. fold (λ state (model : ModelDecl). declare_model state model.named.name) t models) s
    models-same [] s all size = record { same = refl; size = size }
    models-same (model ∷ models) s all size =
        let h = model-same s model.named.name all.0 size in
        both-same count (λ t. declare_model t model.named.name) (λ t. fold (λ state (model : ModelDecl). declare_model state model.named.name) t models) s h (models-same models (declare_model s model.named.name) all.1 h.size)

    items-same : (k : DeclKind) (items : List (Decl Frac)) (s : State) → HoldsOf (IsBelow count) (map (λ (item : Decl Frac). item.named.name) items) → length s.symbols ≡ count → IsSame count (λ t. fold (λ state (item : Decl Frac). declare k (names_of item.domain) state item.named.name) t items) s
    items-same k [] s all size = record { same = refl; size = size }
    items-same k (item ∷ items) s all size =
        let h = declare-same k (names_of item.domain) s item.named.name all.0 size in
        both-same count (λ t. declare k (names_of item.domain) t item.named.name) (λ t. fold (λ state (item : Decl Frac). declare k (names_of item.domain) state item.named.name) t items) s h (items-same k items (declare k (names_of item.domain) s item.named.name) all.1 h.size)

    -- the names of declarations over other numbers
    names-back : (items : List (Decl Number)) → map (λ (item : Decl Frac). item.named.name) (map (declared_in value_of) items) ≡ item_names items
    names-back [] = refl
    names-back (item ∷ items) = ap (λ ns. item.named.name ∷ ns) (names-back items)

    act-same : (act : Act Number) (s : State) → HoldsOfAct (IsBelow count) act → length s.symbols ≡ count → IsSame count (λ t. (told_by act).declared t) s
    act-same (declares k items) s own size = items-same k (map (declared_in value_of) items) s (subst (HoldsOf (IsBelow count)) (sym (names-back items)) own) size
    act-same (aliases first second) s own size = alias-same s first.name second.name own.0 own.1 size
    act-same (declares_models models) s own size = models-same models s own size
    act-same (assigns target condition right_at right) s own size = record { same = refl; size = size }
    act-same (defines equation indices condition sides) s own size = record { same = refl; size = size }
    act-same (solves model word objective maximize) s own size = record { same = refl; size = size }
    act-same (displays items) s own size = record { same = refl; size = size }
    act-same (loops control body) s own size = record { same = refl; size = size }
    act-same (sets_options options) s own size = record { same = refl; size = size }
    act-same (aborts condition items) s own size = record { same = refl; size = size }

    -- Acts that declare names of a table of `count` names have the same result with more names at
    -- its end.
    pub acts-same : (vs : List Seen) (s : State) → EachOwn count vs → length s.symbols ≡ count → fold (λ (s : State) (v : Seen). (told_by v.1).declared s) (padded s) vs ≡ padded (fold (λ (s : State) (v : Seen). (told_by v.1).declared s) s vs)
    acts-same [] s own size = refl
    acts-same (v ∷ vs) s own size =
        let h = act-same v.1 s own.0 size in
        ap (λ (t : State). fold (λ (s : State) (v : Seen). (told_by v.1).declared s) t vs) h.same ∙ acts-same vs ((told_by v.1).declared s) own.1 h.size
