-- Statements that declare names.
use Rattle.std.proofs.Common.{◌≡◌, ℕ, Bool, true, false, not, List, [], ◌∷◌, map, refl, ap, ◌∙◌, subst, arith}
use Rattle.std.proofs.lemmas.Bool.{not-true}
use Rattle.gq_number.specs.Number.{Number as Rational}
use Rattle.gms_ast.specs.declared.declaration.Decl.{Decl}
use Rattle.gms_ast.specs.declared.declaration.DeclKind.{DeclKind}
use Rattle.gms_ast.specs.declared.declaration.DeclKind.TheVariants as decl_kind
use Rattle.gms_ast.specs.declared.program.Act.{Act as ActNode}
use Rattle.gms_ast.specs.StatementTrees.{declares}
use Rattle.gms_ast.specs.StatementView.{declared_in}
use Rattle.gms_lex.specs.declared.token.Token.{Token}
use Rattle.gms_lex.specs.TokenTexts.{token_text}
use Rattle.gms_grammar.specs.declared.terminal.Terminal.{Terminal}
use Rattle.gms_grammar.specs.declared.terminal.Terminal.TheVariants.{Set, Parameter, Scalar, Variable, Equation, VariableType, Option, Table, Dot, Using, Name, Suffix}
use Rattle.gms_grammar.specs.Grammar.{the, ◌·◌, opt, leaf, node}
use Rattle.gms_grammar.specs.LookAhead.{may_begin}
use Rattle.gms_grammar.specs.Reading.{leads}
use Rattle.gms_grammar.specs.Terminals.{is, is_terminal_among}
use Rattle.gms_grammar.specs.GamsGrammar.{SetItems, ParameterItems, ScalarItems, PlainItems, VariableStatement, productions, token, name, items}
use Rattle.gms_grammar.specs.GamsLookAhead.{look_ahead}
use Rattle.gms_expressions.proofs.TokenKinds.{also, same_test}
use Rattle.gms_expressions.specs.ExpressionTrees.{second_in}
use Rattle.gms_parse.specs.declared.declaration.Form.{Form}
use Rattle.gms_parse.specs.declared.declaration.Form.TheVariants as form
use Rattle.gms_parse.specs.declared.fault.SourceFaultOrMemory.{SourceFaultOrMemory}
use Rattle.gms_parse.specs.declared.reader.Reader.{Reader}
use Rattle.gms_parse.specs.declared.reader.Tables.{Tables}
use Rattle.gms_parse.specs.Declarations.{items_in, variable_kind, variable_act}
use Rattle.gms_parse.specs.ReadStates.{KindedToken, ReaderState}
use Rattle.gms_parse.specs.InnerReadings.{Derivation, GamsPart, Gives, Refuses, IsGot, Holds, Starts, Stays, Ends, Tableless, IsNext, seen_from}
use Rattle.gms_parse.specs.InnerMeanings.{AreDeclared, IsDeclaration, IsVariableType, IsAct, item_part, items_part, item_meaning, act_view}
use Rattle.gms_parse.proofs.TokenKinds.{begins, is_quiet, leads_alike}
use Rattle.gms_parse.proofs.Steps.{got_by, Within, within_the, gives_both, gives_the, gives_none, gives_some, refuses_the, refuses_second}
use Rattle.gms_parse.proofs.Nexts.{past, led_next, gives_exact, begun_starts, begun_keyword, quiet_holds, earlier}
use Rattle.gms_parse.proofs.Itemized.{ItemPart}

-- the items of each form
pub items_production : (form : Form) → productions (items_part form) ≡ items (item_part form) (items_part form)
items_production form.Set = refl
items_production form.Parameter = refl
items_production form.Scalar = refl
items_production form.Plain = refl

pub items_heads : (form : Form) (ts : List KindedToken) → leads productions look_ahead (the (items_part form)) ts ≡ leads productions look_ahead name ts
items_heads form.Set ts = leads_alike (the SetItems) name ts refl refl (same_test (may_begin look_ahead (the SetItems)) (is_terminal_among (Name ∷ Suffix ∷ [])) refl)
items_heads form.Parameter ts = leads_alike (the ParameterItems) name ts refl refl (same_test (may_begin look_ahead (the ParameterItems)) (is_terminal_among (Name ∷ Suffix ∷ [])) refl)
items_heads form.Scalar ts = leads_alike (the ScalarItems) name ts refl refl (same_test (may_begin look_ahead (the ScalarItems)) (is_terminal_among (Name ∷ Suffix ∷ [])) refl)
items_heads form.Plain ts = leads_alike (the PlainItems) name ts refl refl (same_test (may_begin look_ahead (the PlainItems)) (is_terminal_among (Name ∷ Suffix ∷ [])) refl)

pub form_items : (form : Form) → ItemPart (item_part form) (items_part form)
form_items form = record {
  enters = λ limit source v ts. subst (λ (p : GamsPart). Within limit source (the (items_part form)) v ts p v ts node) (items_production form) (within_the (items_part form));
  led = items_heads form;
}

-- ---- keywords of declarations

abbrev pub is_declaring : Terminal → Bool
is_declaring = is_terminal_among (Set ∷ Parameter ∷ Scalar ∷ Variable ∷ Equation ∷ [])

module _ (keyword : Terminal) {reader : Reader} {at following : ℕ} {t : Token} {old : Tables} {w : ReaderState} (declaring : is_declaring keyword ≡ true) (h : Holds reader old w) (n : IsNext (is keyword) reader at t following) where
  pub keyword_starts : Starts reader old (past reader w keyword t following)
  keyword_starts = begun_starts reader w keyword t following (also is_declaring is_quiet refl keyword declaring) (also is_declaring begins refl keyword declaring)
      (not-true _ (also is_declaring (λ k. not (is Option k)) refl keyword declaring)) (not-true _ (also is_declaring (λ k. not (is_terminal_among (Dot ∷ Using ∷ []) k)) refl keyword declaring)) h

  pub keyword_tableless : Tableless (past reader w keyword t following)
  keyword_tableless = ap (is Table) (begun_keyword reader w keyword t following (also is_declaring begins refl keyword declaring)) ∙ not-true _ (also is_declaring (λ k. not (is Table k)) refl keyword declaring)

  keyword_gives : {limit : ℕ} → Gives limit reader.source.now (token keyword) w (seen_from reader at) (leaf (keyword, t)) (past reader w keyword t following) (seen_from reader following)
  keyword_gives = gives_exact {kind = keyword} n (also is_declaring is_quiet refl keyword declaring)

  pub declaration_refused : {limit : ℕ} {p : GamsPart} {e : SourceFaultOrMemory} → Refuses limit reader.source.now p (past reader w keyword t following) (seen_from reader following) e → Refuses limit reader.source.now (token keyword · p) w (seen_from reader at) e
  declaration_refused r = refuses_second keyword_gives r

  pub declaration_got : {F : Type 0} (value : F → Rational) (kind : DeclKind) (form : Form) {limit : ℕ} {new : Tables} {xs : List (Decl F)} {next : ℕ} (act : ActNode F) → act_view value act ≡ declares kind (map (declared_in value) xs) →
      IsGot limit (AreDeclared value reader.source.now form) (Stays reader new (past reader w keyword t following)) (the (items_part form)) reader following new (past reader w keyword t following) xs next →
      IsGot limit (IsDeclaration value reader.source.now kind form) (Ends reader new) (token keyword · the (items_part form)) reader at new w act next
  declaration_got value kind form act shown got = got_by (gives_both keyword_gives got.gives) (record { holds = got.leaves.has.holds; tableless = ap (is Table) got.leaves.keyword ∙ keyword_tableless })
      (λ sense s. shown ∙ ap (declares kind) (got.means sense s)) (let a = n.further in let b = got.further in omega arith)

-- ---- variables

pub type_got : {limit : ℕ} {reader : Reader} {at following : ℕ} {t : Token} {tables : Tables} {w : ReaderState} (kind : DeclKind) → IsNext (is VariableType) reader at t following → kind ≡ variable_kind (token_text reader.source.now t) → Holds reader tables w →
    IsGot limit (IsVariableType reader.source.now) (Holds reader tables) (opt (token VariableType)) reader at tables w kind following
type_got {reader = reader} {following = following} {t = t} {w = w} kind n told h = got_by (gives_some (led_next n) (gives_exact {kind = VariableType} n refl)) (quiet_holds reader w VariableType t following refl h) (λ sense s. told)
    (let g = n.further in omega arith)

pub type_none : {limit : ℕ} {reader : Reader} {at : ℕ} {tables : Tables} {w : ReaderState} → leads productions look_ahead (token VariableType) (seen_from reader at) ≡ false → Holds reader tables w →
    IsGot limit (IsVariableType reader.source.now) (Holds reader tables) (opt (token VariableType)) reader at tables w decl_kind.Free at
type_none {w = w} unled h = got_by (gives_none unled) h (λ sense s. refl) (omega arith)

pub variables_got : {F : Type 0} (value : F → Rational) {limit : ℕ} {reader : Reader} {at middle next : ℕ} {old new : Tables} {w : ReaderState} {kind : DeclKind} {act : ActNode F} →
    (k : IsGot limit (IsVariableType reader.source.now) (Holds reader old) (opt (token VariableType)) reader at old w kind middle) → IsGot limit (IsDeclaration value reader.source.now kind form.Plain) (Ends reader new) (token Variable · the PlainItems) reader middle new k.following act next →
    IsGot limit (IsAct value reader.source.now variable_act) (Ends reader new) (the VariableStatement) reader at new w act next
variables_got value {reader = reader} k got = got_by (gives_the VariableStatement (gives_both k.gives got.gives)) got.leaves
    (λ sense s. got.means sense s ∙ ap (λ kind. declares kind (items_in (item_meaning form.Plain reader.source.now sense.names sense.labels) (second_in got.tree))) (k.means sense (earlier got.gives k.leaves got.leaves.holds s)))
    (let a = k.further in let b = got.further in omega arith)

pub variables_refused : {limit : ℕ} {source : List ℕ} {w v : ReaderState} {ts between : List KindedToken} {a : Derivation} {e : SourceFaultOrMemory} → Gives limit source (opt (token VariableType)) w ts a v between → Refuses limit source (token Variable · the PlainItems) v between e → Refuses limit source (the VariableStatement) w ts e
variables_refused g r = refuses_the VariableStatement (refuses_second g r)
