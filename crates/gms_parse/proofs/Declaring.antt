-- Names that are declared, with their domains and data.
use Rattle.std.proofs.Common.{◌≡◌, ℕ, List, [], map, Option as Maybe, Vec, refl, sym, ap, ap₂, ◌∙◌, subst, arith}
use Rattle.std.specs.declared.alloc.Global.{Global}
use Rattle.gq_number.specs.Number.{Number as Rational}
use Rattle.gms_ast.specs.declared.word.Named.{Named}
use Rattle.gms_ast.specs.declared.declaration.Decl.{Decl}
use Rattle.gms_ast.specs.declared.declaration.Item.{Item}
use Rattle.gms_ast.specs.StatementView.{item_in, declared_in}
use Rattle.gms_grammar.specs.declared.terminal.Terminal.TheVariants.{Slash}
use Rattle.gms_grammar.specs.Grammar.{the, ◌·◌, opt, pair, node}
use Rattle.gms_grammar.specs.GamsGrammar.{Domain, Value, ScalarItem, PlainItem, productions, token, name}
use Rattle.gms_parse.specs.declared.data.ListOf.{ListOf}
use Rattle.gms_parse.specs.declared.data.ListOf.TheVariants as list_of_kind
use Rattle.gms_parse.specs.declared.declaration.Form.TheVariants as form
use Rattle.gms_parse.specs.declared.fault.SourceFaultOrMemory.{SourceFaultOrMemory}
use Rattle.gms_parse.specs.declared.reader.Reader.{Reader}
use Rattle.gms_parse.specs.declared.reader.Tables.{Tables}
use Rattle.gms_parse.specs.DataLists.{optional_in, between}
use Rattle.gms_parse.specs.Declarations.{named_in, optional_domain}
use Rattle.gms_parse.specs.ReadStates.{KindedToken, ReaderState}
use Rattle.gms_parse.specs.InnerReadings.{Derivation, GamsPart, Gives, Refuses, IsGot, Stays}
use Rattle.gms_parse.specs.InnerMeanings.{IsNamed, IsOptionalDomain, AreListed, IsScalarValue, IsDeclared, form_of, item_part, item_meaning, list_part, list_meaning}
use Rattle.gms_parse.proofs.Steps.{got_by, gives_both, gives_the, refuses_the}
use Rattle.gms_parse.proofs.Nexts.{stays_then, earlier}

-- ---- sets and parameters

abbrev data_part : ListOf → GamsPart
data_part list = name · opt (the Domain) · opt (token Slash · the (list_part list) · token Slash)

data_production : (list : ListOf) → productions (item_part (form_of list)) ≡ data_part list
data_production list_of_kind.Elements = refl
data_production list_of_kind.Entries = refl

data_meant : (list : ListOf) (source : List ℕ) (names labels : List (List ℕ)) (a b d : Derivation) →
    record { named = named_in source names labels a; domain = optional_domain source names labels b; items = optional_in [] (λ tree. list_meaning list source labels (between tree)) d } ≡ item_meaning (form_of list) source names labels (node (pair a (pair b d)))
data_meant list_of_kind.Elements source names labels a b d = refl
data_meant list_of_kind.Entries source names labels a b d = refl

pub refuses_data : (list : ListOf) {limit : ℕ} {source : List ℕ} {w : ReaderState} {ts : List KindedToken} {e : SourceFaultOrMemory} → Refuses limit source (data_part list) w ts e → Refuses limit source (the (item_part (form_of list))) w ts e
refuses_data list {limit} {source} {w} {ts} {e} r = refuses_the (item_part (form_of list)) (subst (λ (p : GamsPart). Refuses limit source p w ts e) (sym (data_production list)) r)

gives_data : (list : ListOf) {limit : ℕ} {source : List ℕ} {w v : ReaderState} {ts rest : List KindedToken} {tree : Derivation} → Gives limit source (data_part list) w ts tree v rest → Gives limit source (the (item_part (form_of list))) w ts (node tree) v rest
gives_data list {limit} {source} {w} {v} {ts} {rest} {tree} g = gives_the (item_part (form_of list)) (subst (λ (p : GamsPart). Gives limit source p w ts tree v rest) (sym (data_production list)) g)

pub data_got : {F : Type 0} (value : F → Rational) (list : ListOf) {limit : ℕ} {reader : Reader} {at middle further next : ℕ} {first second new : Tables} {w : ReaderState} {named : Named} {domain : Vec (Maybe Named) Global} {items : Vec (Item F) Global} (decl : Decl F) →
    declared_in value decl ≡ record { named = named; domain = domain.items; items = map (item_in value) items.items } →
    (n : IsGot limit (IsNamed reader.source.now) (Stays reader first w) name reader at first w named middle) → (d : IsGot limit (IsOptionalDomain reader.source.now) (Stays reader second n.following) (opt (the Domain)) reader middle second n.following domain further) →
    IsGot limit (AreListed value reader.source.now list) (Stays reader new d.following) (opt (token Slash · the (list_part list) · token Slash)) reader further new d.following items next → IsGot limit (IsDeclared value reader.source.now (form_of list)) (Stays reader new w) (the (item_part (form_of list))) reader at new w decl next
data_got value list {reader = reader} {items = items} decl shown n d l = got_by (gives_data list (gives_both n.gives (gives_both d.gives l.gives))) (stays_then n.leaves (stays_then d.leaves l.leaves))
    (λ sense s.
    let s2 = earlier l.gives d.leaves.has.holds l.leaves.has.holds s in
    let s1 = earlier d.gives n.leaves.has.holds d.leaves.has.holds s2 in
    shown ∙ ap (λ (x : Named × List (Maybe Named)). record { named = x.0; domain = x.1; items = map (item_in value) items.items }) (ap₂ (λ a b. (a, b)) (n.means sense s1) (d.means sense s2)) ∙ ap (λ (ys : List (Item Rational)). record { named = named_in reader.source.now sense.names sense.labels n.tree; domain = optional_domain reader.source.now sense.names sense.labels d.tree; items = ys }) (l.means sense s)
    ∙ data_meant list reader.source.now sense.names sense.labels n.tree d.tree l.tree)
    (let a = n.further in let b = d.further in let c = l.further in omega arith)

-- ---- scalars

pub scalar_got : {F : Type 0} (value : F → Rational) {limit : ℕ} {reader : Reader} {at middle next : ℕ} {new : Tables} {w : ReaderState} {named : Named} {items : Vec (Item F) Global} (decl : Decl F) → declared_in value decl ≡ record { named = named; domain = []; items = map (item_in value) items.items } →
    (n : IsGot limit (IsNamed reader.source.now) (Stays reader new w) name reader at new w named middle) → IsGot limit (IsScalarValue value reader.source.now) (Stays reader new n.following) (opt (token Slash · the Value · token Slash)) reader middle new n.following items next →
    IsGot limit (IsDeclared value reader.source.now form.Scalar) (Stays reader new w) (the ScalarItem) reader at new w decl next
scalar_got value decl shown n l = got_by (gives_the ScalarItem (gives_both n.gives l.gives)) (stays_then n.leaves l.leaves)
    (λ sense s. shown ∙ ap₂ (λ (x : Named) (y : List (Item Rational)). record { named = x; domain = []; items = y }) (n.means sense s) (l.means sense s)) (let a = n.further in let c = l.further in omega arith)

-- ---- variables and equations

pub plain_got : {F : Type 0} (value : F → Rational) {limit : ℕ} {reader : Reader} {at middle next : ℕ} {first new : Tables} {w : ReaderState} {named : Named} {domain : Vec (Maybe Named) Global} (decl : Decl F) → declared_in value decl ≡ record { named = named; domain = domain.items; items = [] } →
    (n : IsGot limit (IsNamed reader.source.now) (Stays reader first w) name reader at first w named middle) → IsGot limit (IsOptionalDomain reader.source.now) (Stays reader new n.following) (opt (the Domain)) reader middle new n.following domain next →
    IsGot limit (IsDeclared value reader.source.now form.Plain) (Stays reader new w) (the PlainItem) reader at new w decl next
plain_got value decl shown n d = got_by (gives_the PlainItem (gives_both n.gives d.gives)) (stays_then n.leaves d.leaves)
    (λ sense s.
    let s1 = earlier d.gives n.leaves.has.holds d.leaves.has.holds s in
    shown ∙ ap₂ (λ (x : Named) (y : List (Maybe Named)). record { named = x; domain = y; items = [] }) (n.means sense s1) (d.means sense s))
    (let a = n.further in let b = d.further in omega arith)
