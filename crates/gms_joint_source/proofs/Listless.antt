-- After the tokens of a program no list of data is open.
use Rattle.std.proofs.lemmas.Bool.{false_from_ne_true}
use Rattle.std.proofs.Common.{◌≡◌, ℕ, zero, suc, true, false, List, [], ◌∷◌, length, get_or, ◌<◌, ltb, refl, sym, ap, ◌∙◌, subst, arith, ltb-true, inl, inr}
use Rattle.gms_lex.specs.declared.mode.Mode.{Mode}
use Rattle.gms_lex.specs.declared.mode.Mode.TheVariants as mode
use Rattle.gms_lex.specs.declared.token.Token.{Token}
use Rattle.gms_lex.specs.Tokens.{tokens_of, IsTokens}
use Rattle.gms_grammar.specs.declared.terminal.Terminal.{Terminal}
use Rattle.gms_grammar.specs.declared.terminal.Terminal.TheVariants.{Abort}
use Rattle.gms_grammar.specs.Terminals.{terminal_number, terminals}
use Rattle.gms_grammar.specs.Grammar.{the, DerivationTree, yield, IsTree}
use Rattle.gms_grammar.specs.GamsGrammar.{Nonterminal, Expression, Program, Segment, KeywordStatement, SetStatement, ParameterStatement, ScalarStatement, TableStatement, VariableStatement, EquationStatement, ModelStatement, AliasStatement, DisplayStatement, OptionStatement, SolveStatement, AbortStatement, LoopStatement, SetItems, SetItem, ParameterItems, ParameterItem, ScalarItems, ScalarItem, PlainItems, PlainItem, ModelItems, ModelItem, SetList, Element, ElementPart, Range, RangeList, ParameterList, Entry, Value, ModelList, Domain, DomainList, DomainPosition, productions}
use Rattle.gms_expressions.specs.Outcomes.{kinded_tokens}
use Rattle.gms_joint_source.proofs.Flows.{In, has, is_right, Leads, flows}
use Rattle.gms_joint_source.proofs.Spaces.{in_list_now}
use Rattle.gms_joint_source.proofs.Spots.{Spot, out, item, named, domain, bare, rest, list, same, same_is, spot_of, sort_of, step, list_occurs}
use Rattle.gms_joint_source.proofs.ModePlaces.{LeadTo, pieces_lead}

-- the places between statements
abbrev between : List Spot
between = out ∷ item ∷ named ∷ bare ∷ rest ∷ []

-- the places in which what a nonterminal derives begins
abbrev entry : Nonterminal → List Spot
entry KeywordStatement = between
entry SetStatement = between
entry ParameterStatement = between
entry ScalarStatement = between
entry TableStatement = between
entry VariableStatement = between
entry EquationStatement = between
entry ModelStatement = between
entry AliasStatement = between
entry DisplayStatement = between
entry OptionStatement = between
entry SolveStatement = between
entry AbortStatement = between
entry LoopStatement = between
entry SetItems = out ∷ item ∷ []
entry SetItem = out ∷ item ∷ []
entry ParameterItems = out ∷ item ∷ []
entry ParameterItem = out ∷ item ∷ []
entry ScalarItems = out ∷ item ∷ []
entry ScalarItem = out ∷ item ∷ []
entry PlainItems = out ∷ item ∷ []
entry PlainItem = out ∷ item ∷ []
entry ModelItems = out ∷ item ∷ []
entry ModelItem = out ∷ item ∷ []
entry SetList = out ∷ item ∷ list ∷ []
entry Element = out ∷ item ∷ list ∷ []
entry ElementPart = out ∷ item ∷ list ∷ []
entry Range = out ∷ item ∷ list ∷ []
entry RangeList = out ∷ item ∷ list ∷ []
entry ParameterList = out ∷ item ∷ list ∷ []
entry Entry = out ∷ item ∷ list ∷ []
entry Value = out ∷ list ∷ []
entry ModelList = out ∷ list ∷ []
entry Domain = out ∷ named ∷ []
entry DomainList = out ∷ domain ∷ rest ∷ []
entry DomainPosition = out ∷ domain ∷ rest ∷ item ∷ []
entry _ = out ∷ []

-- and those in which it ends
abbrev exit : Nonterminal → List Spot
exit Program = between
exit Segment = between
exit KeywordStatement = between
exit SetStatement = between
exit ParameterStatement = between
exit ScalarStatement = between
exit TableStatement = between
exit VariableStatement = between
exit EquationStatement = between
exit ModelStatement = between
exit SetItems = between
exit SetItem = between
exit ParameterItems = between
exit ParameterItem = between
exit ScalarItems = between
exit ScalarItem = between
exit PlainItems = between
exit PlainItem = between
exit ModelItems = between
exit ModelItem = between
exit SetList = out ∷ list ∷ []
exit Element = out ∷ list ∷ []
exit ElementPart = out ∷ list ∷ []
exit Range = out ∷ list ∷ []
exit RangeList = out ∷ list ∷ []
exit ParameterList = out ∷ list ∷ []
exit Entry = out ∷ list ∷ []
exit Value = out ∷ list ∷ []
exit ModelList = out ∷ list ∷ []
exit Domain = between
exit DomainList = out ∷ domain ∷ rest ∷ named ∷ item ∷ []
exit DomainPosition = out ∷ domain ∷ rest ∷ named ∷ item ∷ []
exit _ = out ∷ []

-- ---- all kinds

occurs_at : (kind : Terminal) → get_or terminals (terminal_number kind) Abort ≡ kind
occurs_at Abort = refl
occurs_at _ = refl

is_below : (kind : Terminal) → ltb (terminal_number kind) (length terminals) ≡ true
is_below Abort = refl
is_below _ = refl

in_at : {C : Type 0} (xs : List C) (k : ℕ) (d : C) → k < length xs → In (get_or xs k d) xs
in_at [] k d h = absurd (omega arith)
in_at (x ∷ xs) zero d h = inl refl
in_at (x ∷ xs) (suc k) d h = inr (in_at xs k d (omega arith))

every_kind : (kind : Terminal) → In kind terminals
every_kind kind = subst (λ (k : Terminal). In k terminals) (occurs_at kind) (in_at terminals (terminal_number kind) Abort (ltb-true (terminal_number kind) (length terminals) (is_below kind)))

abbrev next : Spot → Terminal → List Spot
next spot kind = step spot (sort_of kind)

-- what is claimed is so
all_right : (n : Nonterminal) → is_right same same_is productions terminals every_kind next entry exit n ≡ true
all_right Expression = refl
all_right _ = refl

-- ---- programs

same_leads : (tokens : List (Terminal × Token)) (s end : Spot) → LeadTo s tokens end → Leads same same_is productions terminals every_kind next entry exit all_right s tokens end
same_leads [] s end l = l
same_leads (token ∷ tokens) s end l = (l.0, l.1, same_leads tokens l.0 end l.2)

-- a mode in a list is at that place
list_place : (current : Mode) → in_list_now current ≡ true → spot_of current ≡ list
list_place (mode.Element s depth stage) h = refl
list_place (mode.Value s) h = refl
list_place (mode.Tail s) h = refl
list_place mode.Code h = absurd (let z : false ≡ true = h in cc)
list_place _ h = absurd (let z : false ≡ true = h in cc)

pub no_list : (source : List ℕ) (tokens : List Token) (is : IsTokens source tokens) (tree : DerivationTree (Terminal × Token)) → IsTree productions (the Program) tree → kinded_tokens source (tokens_of source 0 is.has.pieces) ≡ yield tree → in_list_now is.has.last ≡ false
no_list source tokens is tree is_tree yields =
    let lead = pieces_lead source 0 mode.Code is.has.pieces is.has.last out (omega arith) is.has.made (inl refl) in
    let there : LeadTo out (yield tree) lead.0 = subst (λ ts. LeadTo out ts lead.0) yields lead.1 in
    let found : has same same_is between lead.0 ≡ true = flows same same_is productions terminals every_kind next entry exit all_right (the Program) tree is_tree (out ∷ []) refl out lead.0 refl (same_leads (yield tree) out lead.0 there) in
    false_from_ne_true (in_list_now is.has.last)
    (λ h. let at_list : lead.0 ≡ list = list_occurs lead.0 is.has.last lead.2 (list_place is.has.last h) in
    let wrong : false ≡ true = ap (has same same_is between) (sym at_list) ∙ found in
    cc)
