-- What declarations add to what is known: names, and equations among them.
use Rattle.std.proofs.Common.{◌≡◌, ◌<◌, ◌≤◌, ◌⊎◌, ℕ, suc, Bool, true, false, ◌==◌, ◌&&◌, List, [], ◌∷◌, ◌++◌, length, map, set, refl, sym, ap, ◌∙◌, subst, append_assoc, Option, None, Result, Ok, Err, if◌then◌else◌, arith, inl, inr}
use Rattle.std.specs.Prelude.{filter, nat_lt}
use Rattle.std.proofs.lemmas.Bool.{ltb-true, eqb-true, and_parts}
use Rattle.std.proofs.lemmas.Bool.Decides.{nat_tests}
use Rattle.std.proofs.lemmas.List.{append-nil, map-append, set_past, get_or_past, get_or-set_same, get_or-set_other}
use Rattle.std.proofs.lemmas.List.Elements.{filter-append}
use Rattle.gq_number.specs.Number.{Number}
use Rattle.gms_ast.specs.declared.declaration.DeclKind.{DeclKind}
use Rattle.gms_ast.specs.declared.declaration.DeclKind.TheVariants as declaring
use Rattle.gms_ast.specs.declared.declaration.Decl.{Decl}
use Rattle.gms_ast.specs.declared.declaration.ModelDecl.{ModelDecl}
use Rattle.gms_store.specs.State.{Content, undeclared, alias_of, set_of, parameter_of, variable_of, equation_of, model_with, Symbol, State, no_symbol, symbol_at, alias_target, base_of}
use Rattle.gms_store.specs.Declarations.{alias_symbol, can_join, content_of, declare, declare_alias, declare_model, is_set, is_undeclared, join_name, kind_in, model_symbol, names_of, positions_of, put_at, symbol_of_kind}
use Rattle.gms_set.specs.declared.fault.SetFault.{SetFault}
use Rattle.gms_set.specs.Expansion.{ExpandedData, expanded}
use Rattle.gms_scope.specs.Below.{base_above, superset, superset_in}
use Rattle.gms_scope.specs.Entries.{DeclarationList, among, entry, names_of_entries}
use Rattle.gms_scope.specs.Facts.{Facts, above_new, equation_in, with_alias, with_declared, with_model_name}
use Rattle.gms_scope.specs.Names.{is_equation, is_index_set, is_set_name, has_no_declaration, declared_kind, positions}
use Rattle.gms_check.specs.Above.{directly_above}
use Rattle.gms_check.specs.InnerChanges.{after_item, after_items, with_given, with_model_names}
use Rattle.gms_check.proofs.Outlines.{base-drawn, base_above-drawn, drawn, drawn-declare_again, drawn-declare_new, drawn-given, drawn-put, kind-drawn, outline, read-at, set-drawn, shape, unknown-drawn}
use Rattle.gms_check.proofs.KnownNames.{IsKnown, is_plain, known-again, known-new, new-above}

-- whether a name is in a table of `count` names
abbrev pub in_table : ℕ → ℕ → Bool
in_table count name = nat_lt name count && true

-- whether a name is an equation in a state
abbrev pub is_equation_in : State → ℕ → Bool
is_equation_in state name = is_equation (declared_kind state name)

-- what is declared stays
abbrev pub Grows : State → State → Type 0
Grows a b = (n : ℕ) → has_no_declaration a n ≡ false → symbol_at b n ≡ symbol_at a n

-- a name that is declared, or that the table does not have
abbrev pub IsSettled : ℕ → State → ℕ → Type 0
IsSettled count state n = (has_no_declaration state n ≡ false) ⊎ (count ≤ n)

-- the same of names
abbrev pub AreSettled : ℕ → State → List ℕ → Type 0
AreSettled count state [] = Unit {0}
AreSettled count state (n ∷ ns) = IsSettled count state n × AreSettled count state ns

-- What is known before and after the declaration of some names, with these equations among them.
pub record Goes (count : ℕ) (before after : State) (ds es : DeclarationList) (had has : List ℕ) (names equations : List ℕ) : Type 0 where
  pub known : IsKnown count after es
  pub grows : Grows before after
  pub named : names_of_entries es ≡ names_of_entries ds ++ filter (in_table count) names
  pub equated : has ≡ had ++ filter (is_equation_in after) equations
  pub settled : AreSettled count after equations

-- the same of facts
abbrev pub FactsGo : ℕ → Facts → Facts → List ℕ → List ℕ → Type 0
FactsGo count facts after names equations =
    Goes count (drawn facts.state) (drawn after.state) facts.declared after.declared facts.equations after.equations names equations

pub grows-then : (a b c : State) → Grows a b → Grows b c → Grows a c
grows-then a b c f g n old =
    g n (ap (λ (s : Symbol). is_undeclared s.content) (f n old) ∙ old) ∙ f n old

settled-one : (count : ℕ) (a b : State) → Grows a b → (n : ℕ) → IsSettled count a n → IsSettled count b n
settled-one count a b f n (inl old) = inl (ap (λ (s : Symbol). is_undeclared s.content) (f n old) ∙ old)
settled-one count a b f n (inr past) = inr past

pub settled-grows : (count : ℕ) (a b : State) → Grows a b → (ns : List ℕ) → AreSettled count a ns → AreSettled count b ns
settled-grows count a b f [] s = tt
settled-grows count a b f (n ∷ ns) s = (settled-one count a b f n s.0, settled-grows count a b f ns s.1)

pub settled-append : (count : ℕ) (a : State) (ns ms : List ℕ) → AreSettled count a ns → AreSettled count a ms → AreSettled count a (ns ++ ms)
settled-append count a [] ms s t = t
settled-append count a (n ∷ ns) ms s t = (s.0, settled-append count a ns ms s.1 t)

-- whether a symbol is that of an equation
abbrev pub equation_symbol : Symbol → Bool
equation_symbol symbol = is_equation (kind_in symbol.content)

-- a name that the table does not have is not declared
pub past-table : (count : ℕ) (state : State) (es : DeclarationList) → IsKnown count state es → (n : ℕ) → count ≤ n → symbol_at state n ≡ no_symbol
past-table count state es known n past =
    let size = known.size in
    read-at state.symbols n ∙ get_or_past state.symbols n no_symbol (omega arith)

module _ (count : ℕ) (a b : State) (ds es : DeclarationList) (first : IsKnown count a ds) (second : IsKnown count b es) (f : Grows a b) where
  kept-one : (n : ℕ) → IsSettled count a n → is_equation_in b n ≡ is_equation_in a n
  kept-one n (inl old) = ap equation_symbol (f n old)
  kept-one n (inr past) =
      ap equation_symbol (past-table count b es second n past ∙ sym (past-table count a ds first n past))

  -- which of settled names are equations stays
  pub kept-equations : (ns : List ℕ) → AreSettled count a ns → filter (is_equation_in b) ns ≡ filter (is_equation_in a) ns
  kept-equations [] s = refl
  kept-equations (n ∷ ns) s =
      ap (λ (t : Bool). if t then n ∷ filter (is_equation_in b) ns else filter (is_equation_in b) ns) (kept-one n s.0) ∙ ap (λ (ms : List ℕ). if is_equation_in a n then n ∷ ms else ms) (kept-equations ns s.1)

-- names, and then others
pub goes-then : (count : ℕ) (a b c : State) (ds es fs : DeclarationList) (p q r ns ms qs rs : List ℕ) → Goes count a b ds es p q ns qs → Goes count b c es fs q r ms rs → Goes count a c ds fs p r (ns ++ ms) (qs ++ rs)
goes-then count a b c ds es fs p q r ns ms qs rs g h = record {
  known = h.known;
  grows = grows-then a b c g.grows h.grows;
  named = h.named ∙ ap (λ names. names ++ filter (in_table count) ms) g.named ∙ append_assoc (names_of_entries ds) (filter (in_table count) ns) (filter (in_table count) ms) ∙ ap (λ names. names_of_entries ds ++ names) (sym (filter-append (in_table count) ns ms));
  equated = h.equated ∙ ap (λ names. names ++ filter (is_equation_in c) rs) (g.equated ∙ ap (λ names. p ++ names) (sym (kept-equations count b c es fs g.known h.known h.grows qs g.settled))) ∙ append_assoc p (filter (is_equation_in c) qs) (filter (is_equation_in c) rs) ∙ ap (λ names. p ++ names) (sym (filter-append (is_equation_in c) qs rs));
  settled = settled-append count c qs rs (settled-grows count b c h.grows qs g.settled) h.settled;
}

-- nothing
pub goes-none : (count : ℕ) (a : State) (ds : DeclarationList) (p : List ℕ) → IsKnown count a ds → Goes count a a ds ds p p [] []
goes-none count a ds p known = record {
  known = known;
  grows = λ n old. refl;
  named = sym (append-nil (names_of_entries ds));
  equated = sym (append-nil p);
  settled = tt;
}

-- ---- one name

entry-names : (count : ℕ) (ds : DeclarationList) (name : ℕ) (above : Option ℕ) → names_of_entries (ds ++ entry count ds name above) ≡ names_of_entries ds ++ filter (in_table count) (name ∷ [])
entry-names count ds name above =
    map-append (λ (e : ℕ × Option ℕ). e.0) ds (entry count ds name above) ∙ ap (λ ns. names_of_entries ds ++ ns) (by (nat_lt name count))
  where
    by : (b : Bool) → map (λ (e : ℕ × Option ℕ). e.0) (if b then (name, among ds above) ∷ [] else []) ≡ (if b && true then name ∷ [] else [])
    by true = refl
    by false = refl

-- a name that is declared already
pub name-again : (count : ℕ) (a : State) (ds : DeclarationList) (p : List ℕ) (name : ℕ) (above : Option ℕ) → IsKnown count a ds → has_no_declaration a name ≡ false → Goes count a a ds (ds ++ entry count ds name above) p p (name ∷ []) []
name-again count a ds p name above known old = record {
  known = by (nat_lt name count);
  grows = λ n old. refl;
  named = entry-names count ds name above;
  equated = sym (append-nil p);
  settled = tt;
}
  where
    by : (b : Bool) → IsKnown count a (ds ++ (if b then (name, among ds above) ∷ [] else []))
    by true = known-again count a ds known name (among ds above) old
    by false = subst (IsKnown count a) (sym (append-nil ds)) known

-- a new name, which stands for a symbol then
pub name-new : (count : ℕ) (a : State) (ds : DeclarationList) (p : List ℕ) (name : ℕ) (above : Option ℕ) (symbol : Symbol) → IsKnown count a ds → has_no_declaration a name ≡ true → is_undeclared symbol.content ≡ false → ((b : ℕ) → symbol.content ≡ alias_of b → is_plain (symbol_at a b).content ≡ true) → (name < count → among ds above ≡ directly_above (put_at a name symbol) (names_of_entries ds ++ name ∷ []) name) → Goes count a (put_at a name symbol) ds (ds ++ entry count ds name above) p p (name ∷ []) []
name-new count a ds p name above symbol known new declared alias right = record {
  known = by (nat_lt name count) refl;
  grows = λ n old. read-at (set a.symbols name symbol) n ∙ get_or-set_other a.symbols name n symbol no_symbol (λ e. absurd (let f = sym old ∙ ap (has_no_declaration a) e ∙ new in cc)) ∙ sym (read-at a.symbols n);
  named = entry-names count ds name above;
  equated = sym (append-nil p);
  settled = tt;
}
  where
    by : (b : Bool) → nat_lt name count ≡ b → IsKnown count (put_at a name symbol) (ds ++ (if b then (name, among ds above) ∷ [] else []))
    by true q = known-new count a ds known name new symbol (among ds above) (ltb-true name count q) declared alias (right (ltb-true name count q))
    by false q =
        let size = known.size in
        let past : length a.symbols ≤ name = grind (arith, nat_tests) in
        subst (λ (t : State). IsKnown count t (ds ++ [])) (sym (ap (λ (symbols : List Symbol). record { symbols = symbols; settings = a.settings }) (set_past a.symbols name symbol past))) (subst (IsKnown count a) (sym (append-nil ds)) known)

-- ---- a declaration of a name

kind-declared : (kind : DeclKind) → is_undeclared (shape (content_of kind)) ≡ false
kind-declared declaring.Set = refl
kind-declared declaring.Parameter = refl
kind-declared declaring.Scalar = refl
kind-declared declaring.Table = refl
kind-declared declaring.Free = refl
kind-declared declaring.Positive = refl
kind-declared declaring.Negative = refl
kind-declared declaring.Discrete = refl
kind-declared declaring.Equation = refl

kind-itself : (name : ℕ) (kind : DeclKind) → alias_target name (shape (content_of kind)) ≡ name
kind-itself name declaring.Set = refl
kind-itself name declaring.Parameter = refl
kind-itself name declaring.Scalar = refl
kind-itself name declaring.Table = refl
kind-itself name declaring.Free = refl
kind-itself name declaring.Positive = refl
kind-itself name declaring.Negative = refl
kind-itself name declaring.Discrete = refl
kind-itself name declaring.Equation = refl

-- a content for which each name stands for itself is no alias
no-alias : (c : Content) → ((n : ℕ) → alias_target n c ≡ n) → (b : ℕ) → c ≡ alias_of b → ⊥
no-alias c itself b is =
    let e : b ≡ suc b = sym (ap (alias_target (suc b)) is) ∙ itself (suc b) in
    omega arith

-- the equation that a name of a kind is
abbrev pub equation_names : DeclKind → List ℕ → List ℕ
equation_names declaring.Equation names = names
equation_names kind names = []

pub equation_names-none : (kind : DeclKind) → equation_names kind [] ≡ []
equation_names-none declaring.Set = refl
equation_names-none declaring.Parameter = refl
equation_names-none declaring.Scalar = refl
equation_names-none declaring.Table = refl
equation_names-none declaring.Free = refl
equation_names-none declaring.Positive = refl
equation_names-none declaring.Negative = refl
equation_names-none declaring.Discrete = refl
equation_names-none declaring.Equation = refl

pub equation_names-cons : (kind : DeclKind) (n : ℕ) (ns : List ℕ) → equation_names kind (n ∷ ns) ≡ equation_names kind (n ∷ []) ++ equation_names kind ns
equation_names-cons declaring.Set n ns = refl
equation_names-cons declaring.Parameter n ns = refl
equation_names-cons declaring.Scalar n ns = refl
equation_names-cons declaring.Table n ns = refl
equation_names-cons declaring.Free n ns = refl
equation_names-cons declaring.Positive n ns = refl
equation_names-cons declaring.Negative n ns = refl
equation_names-cons declaring.Discrete n ns = refl
equation_names-cons declaring.Equation n ns = refl

-- the equations of a name that is declared
with-equation : (count : ℕ) (a b : State) (ds es : DeclarationList) (p : List ℕ) (kind : DeclKind) (state : State) (name : ℕ) → drawn state ≡ b → IsSettled count b name → Goes count a b ds es p p (name ∷ []) [] → Goes count a b ds es p (p ++ equation_in kind state name) (name ∷ []) (equation_names kind (name ∷ []))
with-equation count a b ds es p kind state name is settled g = by kind
  where
    none : Goes count a b ds es p (p ++ []) (name ∷ []) []
    none = record { known = g.known; grows = g.grows; named = g.named; equated = refl; settled = tt }

    one : Goes count a b ds es p (p ++ (if is_equation (declared_kind state name) then name ∷ [] else [])) (name ∷ []) (name ∷ [])
    one = record {
      known = g.known;
      grows = g.grows;
      named = g.named;
      equated = ap (λ (t : Bool). p ++ (if t then name ∷ [] else [])) (sym (ap (λ (t : State). is_equation_in t name) (sym is) ∙ ap is_equation (kind-drawn state name)));
      settled = (settled, tt);
    }

    by : (kind : DeclKind) → Goes count a b ds es p (p ++ equation_in kind state name) (name ∷ []) (equation_names kind (name ∷ []))
    by declaring.Set = none
    by declaring.Parameter = none
    by declaring.Scalar = none
    by declaring.Table = none
    by declaring.Free = none
    by declaring.Positive = none
    by declaring.Negative = none
    by declaring.Discrete = none
    by declaring.Equation = one

-- whether a name is declared after a symbol was put at it
put-settled : (count : ℕ) (a : State) (ds : DeclarationList) → IsKnown count a ds → (name : ℕ) (symbol : Symbol) → is_undeclared symbol.content ≡ false → IsSettled count (put_at a name symbol) name
put-settled count a ds known name symbol declared = by (nat_lt name count) refl
  where
    by : (b : Bool) → nat_lt name count ≡ b → IsSettled count (put_at a name symbol) name
    by true q =
        let size = known.size in
        let less = ltb-true name count q in
        let within : name < length a.symbols = omega arith in
        inl (ap (λ (s : Symbol). is_undeclared s.content) (read-at (set a.symbols name symbol) name ∙ get_or-set_same a.symbols name symbol no_symbol within) ∙ declared)
    by false q = inr (grind (arith, nat_tests))

-- the state after a declaration, where a name may be directly below this
module _ (count : ℕ) (kind : DeclKind) (domain : List (Option ℕ)) (state : State) (ds : DeclarationList) (p : List ℕ) (name : ℕ) (above : Option ℕ) (known : IsKnown count (drawn state) ds) where
  pub declare-goes : (has_no_declaration state name ≡ true → name < count → among ds above ≡ directly_above (put_at (drawn state) name (outline (symbol_of_kind kind domain))) (names_of_entries ds ++ name ∷ []) name) → Goes count (drawn state) (drawn (declare kind domain state name)) ds (ds ++ entry count ds name above) p p (name ∷ []) [] × IsSettled count (drawn (declare kind domain state name)) name
  declare-goes right = by (has_no_declaration state name) refl
    where
      by : (b : Bool) → has_no_declaration state name ≡ b → Goes count (drawn state) (drawn (declare kind domain state name)) ds (ds ++ entry count ds name above) p p (name ∷ []) [] × IsSettled count (drawn (declare kind domain state name)) name
      by true q =
          let e = sym (drawn-declare_new kind domain state name q) in
          let symbol = outline (symbol_of_kind kind domain) in
          (subst (λ (t : State). Goes count (drawn state) t ds (ds ++ entry count ds name above) p p (name ∷ []) []) e (name-new count (drawn state) ds p name above symbol known (unknown-drawn state name ∙ q) (kind-declared kind) (λ b is. absurd (no-alias (shape (content_of kind)) (λ n. kind-itself n kind) b is)) (right q)), subst (λ (t : State). IsSettled count t name) e (put-settled count (drawn state) ds known name symbol (kind-declared kind)))
      by false q =
          let e = sym (drawn-declare_again kind domain state name q) in
          let old : has_no_declaration (drawn state) name ≡ false = unknown-drawn state name ∙ q in
          (subst (λ (t : State). Goes count (drawn state) t ds (ds ++ entry count ds name above) p p (name ∷ []) []) e (name-again count (drawn state) ds p name above known old), subst (λ (t : State). IsSettled count t name) e (inl old))

-- a name that is declared by its kind
pub declared-goes : (count : ℕ) (kind : DeclKind) (domain : List (Option ℕ)) (facts : Facts) (name : ℕ) → IsKnown count (drawn facts.state) facts.declared → length facts.defined ≡ count → FactsGo count facts (with_declared kind domain facts name) (name ∷ []) (equation_names kind (name ∷ []))
declared-goes count kind domain facts name known size =
    let new = declare kind domain facts.state name in
    let above = above_new (has_no_declaration facts.state name) new name in
    let step = declare-goes count kind domain facts.state facts.declared facts.equations name above known right in
    subst (λ (k : ℕ). Goes count (drawn facts.state) (drawn new) facts.declared (facts.declared ++ entry k facts.declared name above) facts.equations (facts.equations ++ equation_in kind new name) (name ∷ []) (equation_names kind (name ∷ []))) (sym size) (with-equation count (drawn facts.state) (drawn new) facts.declared (facts.declared ++ entry count facts.declared name above) facts.equations kind new name refl step.1 step.0)
  where
    right : has_no_declaration facts.state name ≡ true → name < count → among facts.declared (above_new (has_no_declaration facts.state name) (declare kind domain facts.state name) name) ≡ directly_above (put_at (drawn facts.state) name (outline (symbol_of_kind kind domain))) (names_of_entries facts.declared ++ name ∷ []) name
    right q there =
        ap (λ (b : Bool). among facts.declared (above_new b (declare kind domain facts.state name) name)) q
        ∙ ap (among facts.declared) (sym (base_above-drawn (declare kind domain facts.state name) name) ∙ ap (λ (t : State). base_above t name) (drawn-declare_new kind domain facts.state name q))
        ∙ new-above count (drawn facts.state) facts.declared known name (unknown-drawn facts.state name ∙ q) (outline (symbol_of_kind kind domain)) there (kind-itself name kind)

-- What of facts stays: marks and models.
pub record Keeps (facts after : Facts) : Type 0 where
  pub dynamic : after.dynamic ≡ facts.dynamic
  pub unordered : after.unordered ≡ facts.unordered
  pub defined : after.defined ≡ facts.defined
  pub models : after.models ≡ facts.models

pub keeps-same : (facts : Facts) → Keeps facts facts
keeps-same facts = record { dynamic = refl; unordered = refl; defined = refl; models = refl }

pub keeps-then : (a b c : Facts) → Keeps a b → Keeps b c → Keeps a c
keeps-then a b c f g = record {
  dynamic = g.dynamic ∙ f.dynamic;
  unordered = g.unordered ∙ f.unordered;
  defined = g.defined ∙ f.defined;
  models = g.models ∙ f.models;
}

module _ {F : Type 0} (value : F → Number) where
  given-goes : (count : ℕ) (facts : Facts) (g : Facts) (name : ℕ) (r : Result (ExpandedData F) SetFault) (ns es : List ℕ) → FactsGo count facts g ns es → FactsGo count facts (with_given value g name r) ns es
  given-goes count facts g name (Ok given) ns es go =
      subst (λ (t : State). Goes count (drawn facts.state) t facts.declared g.declared facts.equations g.equations ns es) (sym (drawn-given value name given g.state)) go
  given-goes count facts g name (Err fault) ns es go = go

  given-keeps : (facts : Facts) (name : ℕ) (r : Result (ExpandedData F) SetFault) → Keeps facts (with_given value facts name r)
  given-keeps facts name (Ok given) = record { dynamic = refl; unordered = refl; defined = refl; models = refl }
  given-keeps facts name (Err fault) = record { dynamic = refl; unordered = refl; defined = refl; models = refl }

  item-goes : (count : ℕ) (kind : DeclKind) (sound : Bool) (facts : Facts) (item : Decl F) → IsKnown count (drawn facts.state) facts.declared → length facts.defined ≡ count → FactsGo count facts (after_item value kind sound facts item) (item.named.name ∷ []) (equation_names kind (item.named.name ∷ []))
  item-goes count kind false facts item known size =
      declared-goes count kind (names_of item.domain) facts item.named.name known size
  item-goes count kind true facts item known size =
      given-goes count facts (with_declared kind (names_of item.domain) facts item.named.name) item.named.name (expanded facts.state (positions_of kind (names_of item.domain)) item.items) (item.named.name ∷ []) (equation_names kind (item.named.name ∷ [])) (declared-goes count kind (names_of item.domain) facts item.named.name known size)

  pub item-keeps : (kind : DeclKind) (sound : Bool) (facts : Facts) (item : Decl F) → Keeps facts (after_item value kind sound facts item)
  item-keeps kind false facts item = record { dynamic = refl; unordered = refl; defined = refl; models = refl }
  item-keeps kind true facts item =
      keeps-then facts (with_declared kind (names_of item.domain) facts item.named.name) (with_given value (with_declared kind (names_of item.domain) facts item.named.name) item.named.name (expanded facts.state (positions_of kind (names_of item.domain)) item.items)) (record { dynamic = refl; unordered = refl; defined = refl; models = refl }) (given-keeps (with_declared kind (names_of item.domain) facts item.named.name) item.named.name (expanded facts.state (positions_of kind (names_of item.domain)) item.items))

  -- the names of declarations
  abbrev pub item_names : List (Decl F) → List ℕ
  item_names items = map (λ (item : Decl F). item.named.name) items

  pub items-keeps : (kind : DeclKind) (sound : Bool) (items : List (Decl F)) (facts : Facts) → Keeps facts (after_items value kind sound facts items)
  items-keeps kind sound [] facts = keeps-same facts
  items-keeps kind sound (item ∷ items) facts =
      keeps-then facts (after_item value kind sound facts item) (after_items value kind sound (after_item value kind sound facts item) items) (item-keeps kind sound facts item) (items-keeps kind sound items (after_item value kind sound facts item))

  -- names that are declared in sequence
  pub items-go : (count : ℕ) (kind : DeclKind) (sound : Bool) (items : List (Decl F)) (facts : Facts) → IsKnown count (drawn facts.state) facts.declared → length facts.defined ≡ count → FactsGo count facts (after_items value kind sound facts items) (item_names items) (equation_names kind (item_names items))
  items-go count kind sound [] facts known size =
      subst (λ (es : List ℕ). FactsGo count facts facts [] es) (sym (equation_names-none kind)) (goes-none count (drawn facts.state) facts.declared facts.equations known)
  items-go count kind sound (item ∷ items) facts known size =
      let next = after_item value kind sound facts item in
      let last = after_items value kind sound next items in
      let one = item-goes count kind sound facts item known size in
      let more = items-go count kind sound items next one.known (ap length (item-keeps kind sound facts item).defined ∙ size) in
      subst (λ (es : List ℕ). FactsGo count facts last (item_names (item ∷ items)) es) (sym (equation_names-cons kind item.named.name (item_names items))) (goes-then count (drawn facts.state) (drawn next.state) (drawn last.state) facts.declared next.declared last.declared facts.equations next.equations last.equations (item.named.name ∷ []) (item_names items) (equation_names kind (item.named.name ∷ [])) (equation_names kind (item_names items)) one more)

-- ---- models

model-goes : (count : ℕ) (facts : Facts) (name : ℕ) → IsKnown count (drawn facts.state) facts.declared → length facts.defined ≡ count → FactsGo count facts (with_model_name facts name) (name ∷ []) []
model-goes count facts name known size =
    subst (λ (k : ℕ). Goes count (drawn facts.state) (drawn (declare_model facts.state name)) facts.declared (facts.declared ++ entry k facts.declared name None) facts.equations facts.equations (name ∷ []) []) (sym size) (by (has_no_declaration facts.state name) refl)
  where
    right : has_no_declaration facts.state name ≡ true → name < count → None ≡ directly_above (put_at (drawn facts.state) name model_symbol) (names_of_entries facts.declared ++ name ∷ []) name
    right q there =
        let size = known.size in
        let within : name < length (drawn facts.state).symbols = omega arith in
        let here : symbol_at (put_at (drawn facts.state) name model_symbol) name ≡ model_symbol = read-at (set (drawn facts.state).symbols name model_symbol) name ∙ get_or-set_same (drawn facts.state).symbols name model_symbol no_symbol within in
        sym (ap (λ (o : Option ℕ). if base_of (put_at (drawn facts.state) name model_symbol) name == name then o else None) (ap (λ (s : Symbol). if is_set s.content && (length (positions (put_at (drawn facts.state) name model_symbol) name) == 1) then superset_in (put_at (drawn facts.state) name model_symbol) (names_of_entries facts.declared ++ name ∷ []) name (positions (put_at (drawn facts.state) name model_symbol) name) else None) here) ∙ nothing (base_of (put_at (drawn facts.state) name model_symbol) name == name))
      where
        nothing : (b : Bool) → ◌≡◌ {A = Option ℕ} (if b then None else None) None
        nothing true = refl
        nothing false = refl

    by : (b : Bool) → has_no_declaration facts.state name ≡ b → Goes count (drawn facts.state) (drawn (if b then put_at facts.state name model_symbol else facts.state)) facts.declared (facts.declared ++ entry count facts.declared name None) facts.equations facts.equations (name ∷ []) []
    by true q =
        subst (λ (t : State). Goes count (drawn facts.state) t facts.declared (facts.declared ++ entry count facts.declared name None) facts.equations facts.equations (name ∷ []) []) (sym (drawn-put facts.state name model_symbol)) (name-new count (drawn facts.state) facts.declared facts.equations name None model_symbol known (unknown-drawn facts.state name ∙ q) refl (λ b is. absurd cc) (right q))
    by false q =
        name-again count (drawn facts.state) facts.declared facts.equations name None known (unknown-drawn facts.state name ∙ q)

pub model_names-keeps : (models : List ModelDecl) (facts : Facts) → Keeps facts (with_model_names facts models)
model_names-keeps [] facts = keeps-same facts
model_names-keeps (model ∷ models) facts =
    keeps-then facts (with_model_name facts model.named.name) (with_model_names (with_model_name facts model.named.name) models) (record { dynamic = refl; unordered = refl; defined = refl; models = refl }) (model_names-keeps models (with_model_name facts model.named.name))

-- models that are declared in sequence
pub models-go : (count : ℕ) (models : List ModelDecl) (facts : Facts) → IsKnown count (drawn facts.state) facts.declared → length facts.defined ≡ count → FactsGo count facts (with_model_names facts models) (map (λ (model : ModelDecl). model.named.name) models) []
models-go count [] facts known size = goes-none count (drawn facts.state) facts.declared facts.equations known
models-go count (model ∷ models) facts known size =
    let next = with_model_name facts model.named.name in
    let last = with_model_names next models in
    let one = model-goes count facts model.named.name known size in
    goes-then count (drawn facts.state) (drawn next.state) (drawn last.state) facts.declared next.declared last.declared facts.equations next.equations last.equations (model.named.name ∷ []) (map (λ (model : ModelDecl). model.named.name) models) [] [] one (models-go count models next one.known size)

-- ---- aliases

set-plain : (count : ℕ) (t : State) (ds : DeclarationList) → IsKnown count t ds → (n : ℕ) → is_set_name t n ≡ true → is_plain (symbol_at t (base_of t n)).content ≡ true
set-plain count t ds known n q = by (symbol_at t n).content refl q
  where
    by : (c : Content) → (symbol_at t n).content ≡ c → is_set c ≡ true → is_plain (symbol_at t (base_of t n)).content ≡ true
    by undeclared is r = absurd cc
    by (alias_of b) is r = ap (λ (c : Content). is_plain (symbol_at t (alias_target n c)).content) is ∙ known.aliases n b is
    by (set_of members) is r = ap (λ (c : Content). is_plain (symbol_at t (alias_target n c)).content) is ∙ ap is_plain is
    by (parameter_of entries) is r = absurd cc
    by (variable_of type entries) is r = absurd cc
    by (equation_of entries) is r = absurd cc
    by (model_with model solver) is r = absurd cc

plain-not : (c : Content) → is_plain c ≡ true → is_undeclared c ≡ true → ⊥
plain-not undeclared p q = absurd cc
plain-not (alias_of base) p q = absurd cc
plain-not (set_of members) p q = absurd cc
plain-not (parameter_of entries) p q = absurd cc
plain-not (variable_of type entries) p q = absurd cc
plain-not (equation_of entries) p q = absurd cc
plain-not (model_with model solver) p q = absurd cc

set-not : (c : Content) → is_set c ≡ true → is_undeclared c ≡ false
set-not undeclared p = absurd cc
set-not (alias_of base) p = refl
set-not (set_of members) p = refl
set-not (parameter_of entries) p = refl
set-not (variable_of type entries) p = refl
set-not (equation_of entries) p = refl
set-not (model_with model solver) p = refl

second-true : (a b : Bool) → (a && b) ≡ true → b ≡ true
second-true true b e = e
second-true false b e = absurd cc

no_set : (b : Bool) → ◌≡◌ {A = Option ℕ} (if b then None else None) None
no_set true = refl
no_set false = refl

-- a new name of a set
join-goes : (count : ℕ) (t : State) (ds : DeclarationList) (p : List ℕ) (old new : ℕ) → IsKnown count t ds → is_set_name t old ≡ true → has_no_declaration t new ≡ true → Goes count t (put_at t new (alias_symbol (base_of t old))) ds (ds ++ entry count ds new None) p p (new ∷ []) []
join-goes count t ds p old new known is_old is_new =
    name-new count t ds p new None (alias_symbol (base_of t old)) known is_new refl (λ b is. ap (λ (k : ℕ). is_plain (symbol_at t k).content) (sym (ap (alias_target 0) is)) ∙ plain) right
  where
    plain : is_plain (symbol_at t (base_of t old)).content ≡ true
    plain = set-plain count t ds known old is_old

    apart : (base_of t old == new) ≡ false
    apart = by (base_of t old == new) refl
      where
        by : (b : Bool) → (base_of t old == new) ≡ b → b ≡ false
        by true q = absurd (plain-not (symbol_at t new).content (ap (λ (k : ℕ). is_plain (symbol_at t k).content) (sym (eqb-true (base_of t old) new q)) ∙ plain) is_new)
        by false q = refl

    right : new < count → None ≡ directly_above (put_at t new (alias_symbol (base_of t old))) (names_of_entries ds ++ new ∷ []) new
    right there =
        let size = known.size in
        let within : new < length t.symbols = omega arith in
        let here : symbol_at (put_at t new (alias_symbol (base_of t old))) new ≡ alias_symbol (base_of t old) = read-at (set t.symbols new (alias_symbol (base_of t old))) new ∙ get_or-set_same t.symbols new (alias_symbol (base_of t old)) no_symbol within in
        sym (ap (λ (b : Bool). if b then superset (put_at t new (alias_symbol (base_of t old))) (names_of_entries ds ++ new ∷ []) new else None) (ap (λ (s : Symbol). alias_target new s.content == new) here ∙ apart))

-- a new set of any labels is below nothing
free-above : (count : ℕ) (t : State) (ds : DeclarationList) → IsKnown count t ds → (name : ℕ) (names : List ℕ) → name < count → None ≡ directly_above (put_at t name (outline (symbol_of_kind declaring.Set []))) names name
free-above count t ds known name names there =
    let after = put_at t name (outline (symbol_of_kind declaring.Set [])) in
    sym (ap (λ (o : Option ℕ). if base_of after name == name then o else None) (ap (λ (ps : List (Option ℕ)). if is_index_set after name then superset_in after names name ps else None) free ∙ no_set (is_index_set after name)) ∙ no_set (base_of after name == name))
  where
    here : symbol_at (put_at t name (outline (symbol_of_kind declaring.Set []))) name ≡ outline (symbol_of_kind declaring.Set [])
    here =
        let size = known.size in
        let within : name < length t.symbols = omega arith in
        read-at (set t.symbols name (outline (symbol_of_kind declaring.Set []))) name ∙ get_or-set_same t.symbols name (outline (symbol_of_kind declaring.Set [])) no_symbol within

    free : positions (put_at t name (outline (symbol_of_kind declaring.Set []))) name ≡ None ∷ []
    free = ap (λ (s : Symbol). (symbol_at (put_at t name (outline (symbol_of_kind declaring.Set []))) (alias_target name s.content)).domain) here ∙ ap (λ (s : Symbol). s.domain) here

pub alias-keeps : (facts : Facts) (first second : ℕ) → Keeps facts (with_alias facts first second)
alias-keeps facts first second = record { dynamic = refl; unordered = refl; defined = refl; models = refl }

-- an alias
pub alias-goes : (count : ℕ) (facts : Facts) (first second : ℕ) → IsKnown count (drawn facts.state) facts.declared → length facts.defined ≡ count → FactsGo count facts (with_alias facts first second) (first ∷ second ∷ []) []
alias-goes count facts first second known size =
    subst (λ (k : ℕ). Goes count (drawn facts.state) (drawn (declare_alias facts.state first second)) facts.declared ((facts.declared ++ entry k facts.declared first None) ++ entry k facts.declared second None) facts.equations facts.equations (first ∷ second ∷ []) []) (sym size) (by (can_join facts.state first second) refl (can_join facts.state second first) refl)
  where
    joined : (old new : ℕ) → put_at (drawn facts.state) new (alias_symbol (base_of (drawn facts.state) old)) ≡ drawn (join_name facts.state old new)
    joined old new = ap (λ (b : ℕ). put_at (drawn facts.state) new (alias_symbol b)) (base-drawn facts.state old) ∙ sym (drawn-put facts.state new (alias_symbol (base_of facts.state old)))

    forward : can_join facts.state first second ≡ true → Goes count (drawn facts.state) (drawn (join_name facts.state first second)) facts.declared ((facts.declared ++ entry count facts.declared first None) ++ entry count facts.declared second None) facts.equations facts.equations (first ∷ second ∷ []) []
    forward q =
        let old : is_set_name (drawn facts.state) first ≡ true = set-drawn facts.state first ∙ (and_parts (is_set_name facts.state first) (has_no_declaration facts.state second) q).0 in
        let new : has_no_declaration (drawn facts.state) second ≡ true = unknown-drawn facts.state second ∙ second-true (is_set_name facts.state first) (has_no_declaration facts.state second) q in
        let one = name-again count (drawn facts.state) facts.declared facts.equations first None known (set-not (symbol_at (drawn facts.state) first).content old) in
        subst (λ (after : State). Goes count (drawn facts.state) after facts.declared ((facts.declared ++ entry count facts.declared first None) ++ entry count facts.declared second None) facts.equations facts.equations (first ∷ second ∷ []) []) (joined first second)
        (goes-then count (drawn facts.state) (drawn facts.state) (put_at (drawn facts.state) second (alias_symbol (base_of (drawn facts.state) first))) facts.declared (facts.declared ++ entry count facts.declared first None) ((facts.declared ++ entry count facts.declared first None) ++ entry count facts.declared second None) facts.equations facts.equations facts.equations (first ∷ []) (second ∷ []) [] [] one (join-goes count (drawn facts.state) (facts.declared ++ entry count facts.declared first None) facts.equations first second one.known old new))

    backward : can_join facts.state second first ≡ true → Goes count (drawn facts.state) (drawn (join_name facts.state second first)) facts.declared ((facts.declared ++ entry count facts.declared first None) ++ entry count facts.declared second None) facts.equations facts.equations (first ∷ second ∷ []) []
    backward q =
        let old : is_set_name (drawn facts.state) second ≡ true = set-drawn facts.state second ∙ (and_parts (is_set_name facts.state second) (has_no_declaration facts.state first) q).0 in
        let new : has_no_declaration (drawn facts.state) first ≡ true = unknown-drawn facts.state first ∙ second-true (is_set_name facts.state second) (has_no_declaration facts.state first) q in
        let after = put_at (drawn facts.state) first (alias_symbol (base_of (drawn facts.state) second)) in
        let one = join-goes count (drawn facts.state) facts.declared facts.equations second first known old new in
        let there : has_no_declaration (drawn facts.state) second ≡ false = set-not (symbol_at (drawn facts.state) second).content old in
        subst (λ (after : State). Goes count (drawn facts.state) after facts.declared ((facts.declared ++ entry count facts.declared first None) ++ entry count facts.declared second None) facts.equations facts.equations (first ∷ second ∷ []) []) (joined second first)
        (goes-then count (drawn facts.state) after after facts.declared (facts.declared ++ entry count facts.declared first None) ((facts.declared ++ entry count facts.declared first None) ++ entry count facts.declared second None) facts.equations facts.equations facts.equations (first ∷ []) (second ∷ []) [] [] one (name-again count after (facts.declared ++ entry count facts.declared first None) facts.equations second None one.known (ap (λ (s : Symbol). is_undeclared s.content) (one.grows second there) ∙ there)))

    neither : Goes count (drawn facts.state) (drawn (declare declaring.Set [] (declare declaring.Set [] facts.state first) second)) facts.declared ((facts.declared ++ entry count facts.declared first None) ++ entry count facts.declared second None) facts.equations facts.equations (first ∷ second ∷ []) []
    neither =
        let next = declare declaring.Set [] facts.state first in
        let one = (declare-goes count declaring.Set [] facts.state facts.declared facts.equations first None known (λ _ there. free-above count (drawn facts.state) facts.declared known first (names_of_entries facts.declared ++ first ∷ []) there)).0 in
        let two = (declare-goes count declaring.Set [] next (facts.declared ++ entry count facts.declared first None) facts.equations second None one.known (λ _ there. free-above count (drawn next) (facts.declared ++ entry count facts.declared first None) one.known second (names_of_entries (facts.declared ++ entry count facts.declared first None) ++ second ∷ []) there)).0 in
        goes-then count (drawn facts.state) (drawn next) (drawn (declare declaring.Set [] next second)) facts.declared (facts.declared ++ entry count facts.declared first None) ((facts.declared ++ entry count facts.declared first None) ++ entry count facts.declared second None) facts.equations facts.equations facts.equations (first ∷ []) (second ∷ []) [] [] one two

    by : (b : Bool) → can_join facts.state first second ≡ b → (d : Bool) → can_join facts.state second first ≡ d → Goes count (drawn facts.state) (drawn (if b then join_name facts.state first second else if d then join_name facts.state second first else declare declaring.Set [] (declare declaring.Set [] facts.state first) second)) facts.declared ((facts.declared ++ entry count facts.declared first None) ++ entry count facts.declared second None) facts.equations facts.equations (first ∷ second ∷ []) []
    by true q d r = forward q
    by false q true r = backward r
    by false q false r = neither
