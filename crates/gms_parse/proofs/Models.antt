-- Models with their equations.
use Rattle.std.proofs.Common.{◌≡◌, ℕ, Bool, true, false, List, [], ◌∷◌, Vec, refl, sym, ap, ap₂, ◌∙◌, arith}
use Rattle.std.specs.declared.alloc.Global.{Global}
use Rattle.std.proofs.lemmas.List.{map-id}
use Rattle.gq_number.specs.Number.{Number as Rational}
use Rattle.gms_lex.specs.declared.token.Token.{Token}
use Rattle.gms_ast.specs.declared.word.Named.{Named}
use Rattle.gms_ast.specs.declared.declaration.ModelDecl.{ModelDecl}
use Rattle.gms_ast.specs.declared.program.Act.TheVariants as act
use Rattle.gms_ast.specs.StatementTrees.{declares_models}
use Rattle.gms_grammar.specs.declared.terminal.Terminal.TheVariants.{Model, Table, Name, Suffix, All, Slash, Comma, Break}
use Rattle.gms_grammar.specs.Grammar.{the, ◌·◌, opt, many}
use Rattle.gms_grammar.specs.LookAhead.{may_begin}
use Rattle.gms_grammar.specs.Reading.{leads}
use Rattle.gms_grammar.specs.Terminals.{is, is_terminal_among}
use Rattle.gms_grammar.specs.GamsGrammar.{ModelStatement, ModelItems, ModelItem, ModelList, productions, token, any_of, name, separated}
use Rattle.gms_grammar.specs.GamsLookAhead.{look_ahead}
use Rattle.gms_expressions.proofs.TokenKinds.{same_test}
use Rattle.gms_parse.specs.declared.fault.SourceFaultOrMemory.{SourceFaultOrMemory}
use Rattle.gms_parse.specs.declared.reader.Reader.{Reader}
use Rattle.gms_parse.specs.declared.reader.Tables.{Tables}
use Rattle.gms_parse.specs.Declarations.{named_in, model_in, model_act}
use Rattle.gms_parse.specs.ReadStates.{ReaderState}
use Rattle.gms_parse.specs.InnerReadings.{Derivation, GamsPart, Gives, Refuses, Sense, Has, Starts, Stays, Ends, Optionless, IsNext, IsLacking, IsGot, seen_from}
use Rattle.gms_parse.specs.InnerMeanings.{IsNamed, AreEquations, IsModelList, IsModel, IsAct}
use Rattle.gms_parse.proofs.TokenKinds.{leads_alike, unled_next}
use Rattle.gms_parse.proofs.Steps.{got_by, within_the, gives_both, gives_the, gives_left, gives_right, gives_none, gives_some, refuses_first, refuses_second, refuses_the, refuses_some}
use Rattle.gms_parse.proofs.Nexts.{past, led_next, leads_next, refuses_lacking, gives_exact, plain_stays, plain_starts, stays_same, stays_then, earlier}
use Rattle.gms_parse.proofs.Listing.{AreAll, all_meant, list_of}
use Rattle.gms_parse.proofs.Acts.{led_both, refuses_more, view-Model}
use Rattle.gms_parse.proofs.Itemized.{ItemPart, AreItems}

-- ---- equations

pub equations_got : {limit : ℕ} {reader : Reader} {at next : ℕ} {new : Tables} {w : ReaderState} {equations : Vec Named Global} → IsGot limit (AreAll (IsNamed reader.source.now)) (Stays reader new w) (list_of (is_terminal_among (Comma ∷ Break ∷ [])) name) reader at new w equations.items next →
    IsGot limit (AreEquations reader.source.now) (Stays reader new w) (separated name) reader at new w equations next
equations_got {reader = reader} {equations = equations} got = got_by got.gives got.leaves (λ sense m. sym (map-id equations.items) ∙ all_meant (IsNamed reader.source.now) (λ x. x) (named_in reader.source.now sense.names sense.labels) sense (λ t x k. k) got.tree equations.items (got.means sense m)) got.further

-- ---- the list of a model

-- a list between slashes, if any
abbrev pub model_lists : GamsPart
model_lists = opt (token Slash · the ModelList · token Slash)

pub list_none : {limit : ℕ} {reader : Reader} {at : ℕ} {tables : Tables} {w : ReaderState} (none_there : Vec Named Global) → none_there.items ≡ [] → leads productions look_ahead (token Slash) (seen_from reader at) ≡ false → Has reader tables w →
    IsGot limit (IsModelList reader.source.now) (Stays reader tables w) model_lists reader at tables w (false, none_there) at
list_none {reader = reader} {at = at} {w = w} none_there are unled h = got_by (gives_none (unled_next (is Slash) (the ModelList · token Slash) (seen_from reader at) unled)) (stays_same h) (λ sense m. (refl, are)) (omega arith)

list_led : {reader : Reader} {at start : ℕ} {t : Token} → IsNext (is Slash) reader at t start → leads productions look_ahead (token Slash · the ModelList · token Slash) (seen_from reader at) ≡ true
list_led n = leads_next (the ModelList · token Slash) n

module _ {reader : Reader} {at start : ℕ} {t : Token} {w : ReaderState} (n : IsNext (is Slash) reader at t start) where
  module _ {old : Tables} (h : Has reader old w) where
    -- all equations
    pub list_all : {limit : ℕ} (none_there : Vec Named Global) → none_there.items ≡ [] → {middle next : ℕ} {a e : Token} → IsNext (is All) reader start a middle → IsNext (is Slash) reader middle e next →
        IsGot limit (IsModelList reader.source.now) (Stays reader old w) model_lists reader at old w (true, none_there) next
    list_all {limit} none_there are {middle} {next} {a} {e} all close =
        let s = plain_stays reader w Slash t start refl h in
        let v = past reader w Slash t start in
        let k = plain_stays reader v All a middle refl s.has in
        let x = past reader v All a middle in
        got_by (gives_some (list_led n) (gives_both (gives_exact n refl) (gives_both (gives_the ModelList (gives_left (led_next all) (gives_exact all refl))) (gives_exact close refl))))
        (stays_then s (stays_then k (plain_stays reader x Slash e next refl k.has))) (λ sense m. (refl, are)) (let a = n.further in let b = all.further in let c = close.further in omega arith)

    pub list_starts : Optionless w → Starts reader old (past reader w Slash t start)
    list_starts o = plain_starts reader w Slash t start refl refl h o

    -- equations that are named
    pub list_named : {limit : ℕ} {new : Tables} {equations : Vec Named Global} {middle next : ℕ} {e : Token} → leads productions look_ahead (token All) (seen_from reader start) ≡ false →
        IsGot limit (AreEquations reader.source.now) (Stays reader new (past reader w Slash t start)) (separated name) reader start new (past reader w Slash t start) equations middle → IsNext (is Slash) reader middle e next →
        IsGot limit (IsModelList reader.source.now) (Stays reader new w) model_lists reader at new w (false, equations) next
    list_named {limit} {new} {equations} {middle} {next} {e} unled got close =
        let s = plain_stays reader w Slash t start refl h in
        got_by (gives_some (list_led n) (gives_both (gives_exact n refl) (gives_both (gives_the ModelList (gives_right unled (led_both (many (any_of (Comma ∷ Break ∷ []) · name)) got.gives.reads) got.gives)) (gives_exact close refl))))
        (stays_then s (stays_then got.leaves (plain_stays reader got.following Slash e next refl got.leaves.has))) (λ sense m. (refl, got.means sense m)) (let a = n.further in let b = got.further in let c = close.further in omega arith)

  module _ {limit : ℕ} where
    list_refused : {e : SourceFaultOrMemory} → Refuses limit reader.source.now (the ModelList · token Slash) (past reader w Slash t start) (seen_from reader start) e → Refuses limit reader.source.now model_lists w (seen_from reader at) e
    list_refused r = refuses_some (list_led n) (refuses_second (gives_exact n refl) r)

    pub list_all_open : {middle : ℕ} {a : Token} {e : SourceFaultOrMemory} → IsNext (is All) reader start a middle → IsLacking (is Slash) reader middle e → Refuses limit reader.source.now model_lists w (seen_from reader at) e
    list_all_open all l = list_refused (refuses_second (gives_the ModelList (gives_left {q = separated name} (led_next all) (gives_exact {kind = All} all refl))) (refuses_lacking l))

    pub list_unnamed : {e : SourceFaultOrMemory} → leads productions look_ahead (token All) (seen_from reader start) ≡ false → Refuses limit reader.source.now (separated name) (past reader w Slash t start) (seen_from reader start) e → Refuses limit reader.source.now model_lists w (seen_from reader at) e
    list_unnamed unled r = list_refused (refuses_first (refuses_the ModelList (refuses_more unled r)))

    pub list_named_open : {v : ReaderState} {tree : Derivation} {middle : ℕ} {e : SourceFaultOrMemory} → leads productions look_ahead (token All) (seen_from reader start) ≡ false →
        Gives limit reader.source.now (separated name) (past reader w Slash t start) (seen_from reader start) tree v (seen_from reader middle) → IsLacking (is Slash) reader middle e → Refuses limit reader.source.now model_lists w (seen_from reader at) e
    list_named_open unled g l = list_refused (refuses_second (gives_the ModelList (gives_right unled (led_both (many (any_of (Comma ∷ Break ∷ []) · name)) g.reads) g)) (refuses_lacking l))

-- ---- a model

pub model_got : {limit : ℕ} {reader : Reader} {at middle next : ℕ} {mid new : Tables} {w : ReaderState} {named : Named} {all : Bool} {equations : Vec Named Global} (n : IsGot limit (IsNamed reader.source.now) (Stays reader mid w) name reader at mid w named middle) →
    IsGot limit (IsModelList reader.source.now) (Stays reader new n.following) model_lists reader middle new n.following (all, equations) next →
    IsGot limit (IsModel reader.source.now) (Stays reader new w) (the ModelItem) reader at new w (record { named = named; all = all; equations = equations.items }) next
model_got n l = got_by (gives_the ModelItem (gives_both n.gives l.gives)) (stays_then n.leaves l.leaves)
    (λ sense m.
    let list = l.means sense m in
    ap₂ (λ (a : Named) (b : Bool × List Named). record { named = a; all = b.0; equations = b.1 }) (n.means sense (earlier l.gives n.leaves.has.holds l.leaves.has.holds m)) (ap₂ (λ (a : Bool) (b : List Named). (a, b)) list.0 list.1))
    (let a = n.further in let b = l.further in omega arith)

-- ---- models

pub model_items : ItemPart ModelItem ModelItems
model_items = record {
  enters = λ limit source v ts. within_the ModelItems;
  led = λ ts. leads_alike (the ModelItems) name ts refl refl (same_test (may_begin look_ahead (the ModelItems)) (is_terminal_among (Name ∷ Suffix ∷ [])) refl);
}

-- a model as it is meant
abbrev pub model_meaning : List ℕ → Sense → Derivation → ModelDecl
model_meaning source sense = model_in source sense.names sense.labels

pub models_got : {F : Type 0} (value : F → Rational) {limit : ℕ} {reader : Reader} {at start next : ℕ} {t : Token} {new : Tables} {w : ReaderState} {models : List ModelDecl} → IsNext (is Model) reader at t start →
    IsGot limit (AreItems (λ x. x) (model_meaning reader.source.now)) (Stays reader new (past reader w Model t start)) (the ModelItems) reader start new (past reader w Model t start) models next →
    IsGot limit (IsAct value reader.source.now model_act) (Ends reader new) (the ModelStatement) reader at new w (act.Model models) next
models_got value {t = t} {models = models} n got = got_by (gives_the ModelStatement (gives_both (gives_exact n refl) got.gives)) (record { holds = got.leaves.has.holds; tableless = ap (is Table) got.leaves.keyword })
    (λ sense m. view-Model value models ∙ ap declares_models (sym (map-id models) ∙ got.means sense m)) (let a = n.further in let b = got.further in omega arith)
