-- The position of the next token in a declaration, as far as lists of data go: the mode after
-- tokens of some kinds.
use Rattle.std.proofs.Common.{◌≡◌, ℕ, ◌==◌, Bool, true, false, nat_lt, if◌then◌else◌, List, [], ◌∷◌, length, Option, Some, None, option_map, refl, sym, ap, ◌∙◌, subst, ◌⊎◌, inl, inr}
use Rattle.gms_grammar.specs.ControlWords.{is_word_among}
use Rattle.gms_grammar.specs.declared.kind.Sym.{Sym}
use Rattle.gms_grammar.specs.declared.kind.Sym.TheVariants.{EqE, Slash as SlashSymbol, RightParen as Close, Comma as CommaSymbol, Semicolon as SemicolonSymbol, Dot as DotSymbol, DotDot as DotDotSymbol, Star as StarSymbol, Power as PowerSymbol}
use Rattle.gms_grammar.specs.declared.kind.Kind.{Kind}
use Rattle.gms_grammar.specs.declared.kind.Kind.TheVariants as kind
use Rattle.gms_lex.specs.declared.keyword.Shape.{Shape}
use Rattle.gms_lex.specs.declared.keyword.Shape.TheVariants as shape
use Rattle.gms_lex.specs.declared.keyword.Keyword.{Keyword}
use Rattle.gms_lex.specs.declared.keyword.Keyword.TheVariants as keyword
use Rattle.gms_lex.specs.declared.mode.Stage.TheVariants.{Fresh, Expected, After, Spaced}
use Rattle.gms_lex.specs.declared.mode.Mode.{Mode}
use Rattle.gms_lex.specs.declared.mode.Mode.TheVariants as mode
use Rattle.gms_lex.specs.Keywords.{keyword_as, keyword_of}
use Rattle.gms_lex.specs.Modes.{list_start, begun_by, after_element, after_word, after_comma, after_stray_paren, after_token, after_gap, after_line, after_remark}
use Rattle.gms_grammar.specs.declared.terminal.Terminal.{Terminal}
use Rattle.gms_grammar.specs.declared.terminal.Terminal.TheVariants as terminal
use Rattle.gms_grammar.specs.Keywords.{Words, statement_words, kind_among}
use Rattle.gms_expressions.specs.Words.{expression_words, other_words, or_name, or_else, terminal_of_word, terminal_of_symbol, terminal_of_text, terminal_of}
use Rattle.gms_joint_source.proofs.Flows.{has, within, within_has}

-- ---- places and sorts

-- Outside declarations and in tables; where an item is expected; after its name; in its domain;
-- after that; after its text or list; in its list.
pub data Spot : Type 0 where
  out item named domain bare rest list : Spot

-- two places are the same
abbrev pub same : Spot → Spot → Bool
same out out = true
same item item = true
same named named = true
same domain domain = true
same bare bare = true
same rest rest = true
same list list = true
same _ _ = false

pub same_is : (a b : Spot) → same a b ≡ true → a ≡ b
same_is out out h = refl
same_is item item h = refl
same_is named named h = refl
same_is domain domain h = refl
same_is bare bare h = refl
same_is rest rest h = refl
same_is list list h = refl
same_is _ _ h = absurd (let e : false ≡ true = h in cc)

pub same_self : (a : Spot) → same a a ≡ true
same_self out = refl
same_self _ = refl

-- the place of a mode
abbrev pub spot_of : Mode → Spot
spot_of (mode.Item shape) = item
spot_of (mode.Named shape) = named
spot_of (mode.Domain shape) = domain
spot_of (mode.Bare shape) = bare
spot_of (mode.Rest shape) = rest
spot_of (mode.Element shape depth stage) = list
spot_of (mode.Value shape) = list
spot_of (mode.Tail shape) = list
spot_of _ = out

-- What a token does to a place.
pub data Sort : Type 0 where
  declarer leaving word label slash opening closing comma semicolon ending other : Sort

abbrev pub sort_of : Terminal → Sort
sort_of terminal.Set = declarer
sort_of terminal.Parameter = declarer
sort_of terminal.Scalar = declarer
sort_of terminal.Variable = declarer
sort_of terminal.Equation = declarer
sort_of terminal.Model = declarer
sort_of terminal.Table = leaving
sort_of terminal.Abort = leaving
sort_of terminal.Alias = leaving
sort_of terminal.Display = leaving
sort_of terminal.Loop = leaving
sort_of terminal.Option = leaving
sort_of terminal.Solve = leaving
sort_of terminal.VariableType = leaving
sort_of terminal.Name = word
sort_of terminal.Suffix = word
sort_of terminal.Function = word
sort_of terminal.OrdCard = word
sort_of terminal.FoldOp = word
sort_of terminal.Infinity = word
sort_of terminal.NotAvailable = word
sort_of terminal.YesNo = word
sort_of terminal.Not = word
sort_of terminal.And = word
sort_of terminal.Or = word
sort_of terminal.RelationWord = word
sort_of terminal.All = word
sort_of terminal.Using = word
sort_of terminal.Direction = word
sort_of terminal.Reserved = word
sort_of terminal.NotInProfile = word
sort_of terminal.Label = label
sort_of terminal.Slash = slash
sort_of terminal.LeftParen = opening
sort_of terminal.RightParen = closing
sort_of terminal.Comma = comma
sort_of terminal.Semicolon = semicolon
sort_of terminal.Break = ending
sort_of _ = other

-- the places to which a token of a sort may lead from a place
abbrev pub step : Spot → Sort → List Spot
step out declarer = item ∷ out ∷ []
step out sort = out ∷ []
step item declarer = item ∷ []
step item leaving = out ∷ []
step item word = named ∷ []
step item label = []
step item semicolon = out ∷ []
step item sort = item ∷ []
step named declarer = item ∷ []
step named leaving = out ∷ []
step named word = rest ∷ []
step named slash = list ∷ []
step named opening = domain ∷ rest ∷ []
step named comma = item ∷ []
step named ending = item ∷ []
step named semicolon = out ∷ []
step named sort = named ∷ rest ∷ []
step domain closing = bare ∷ []
step domain semicolon = out ∷ []
step domain sort = domain ∷ []
step bare declarer = item ∷ []
step bare leaving = out ∷ []
step bare word = rest ∷ []
step bare slash = list ∷ []
step bare comma = item ∷ []
step bare ending = item ∷ []
step bare semicolon = out ∷ []
step bare sort = bare ∷ rest ∷ []
step rest declarer = item ∷ []
step rest leaving = out ∷ []
step rest slash = list ∷ []
step rest comma = item ∷ []
step rest ending = item ∷ []
step rest semicolon = out ∷ []
step rest sort = rest ∷ []
step list slash = rest ∷ []
step list semicolon = out ∷ []
step list sort = list ∷ []

-- a place is one of some
abbrev pub Leads : Spot → Sort → Mode → Type 0
Leads spot sort current = has same same_is (step spot sort) (spot_of current) ≡ true

-- ---- symbols

start_in_list : (s : Shape) → spot_of (list_start s) ≡ list
start_in_list shape.Set = refl
start_in_list shape.Parameter = refl
start_in_list shape.Scalar = refl
start_in_list shape.Model = refl

either_in_list : (b : Bool) (x y : Mode) → spot_of x ≡ list → spot_of y ≡ list → spot_of (if b then x else y) ≡ list
either_in_list true x y h k = h
either_in_list false x y h k = k

element_in_list : (s : Shape) (depth : ℕ) → spot_of (after_element s depth) ≡ list
element_in_list s depth = either_in_list (depth == 0) (mode.Tail s) (mode.Element s depth After) refl refl

comma_in_list : (s : Shape) (depth : ℕ) → spot_of (after_comma s depth) ≡ list
comma_in_list s depth = either_in_list (depth == 0) (list_start s) (mode.Element s depth Expected) (start_in_list s) refl

stray_in_list : (s : Shape) → spot_of (after_stray_paren s) ≡ list
stray_in_list shape.Set = refl
stray_in_list shape.Parameter = refl
stray_in_list shape.Scalar = refl
stray_in_list shape.Model = refl

-- what leads to a list from a place
to_list : (spot : Spot) (sort : Sort) (m : Mode) → has same same_is (step spot sort) list ≡ true → spot_of m ≡ list → Leads spot sort m
to_list spot sort m h e = ap (has same same_is (step spot sort)) e ∙ h

symbol_leads : (m : Mode) (s : Sym) (text : List ℕ) → Leads (spot_of m) (sort_of (terminal_of_symbol s)) (after_token m (kind.Symbol s) text)
symbol_leads mode.Code EqE text = refl
symbol_leads mode.Code _ text = refl
symbol_leads (mode.Item s) EqE text = refl
symbol_leads (mode.Item s) _ text = refl
symbol_leads (mode.Named s) SlashSymbol text = to_list named slash (list_start s) refl (start_in_list s)
symbol_leads (mode.Named s) _ text = refl
symbol_leads (mode.Domain s) EqE text = refl
symbol_leads (mode.Domain s) _ text = refl
symbol_leads (mode.Bare s) SlashSymbol text = to_list bare slash (list_start s) refl (start_in_list s)
symbol_leads (mode.Bare s) _ text = refl
symbol_leads (mode.Rest s) SlashSymbol text = to_list rest slash (list_start s) refl (start_in_list s)
symbol_leads (mode.Rest s) _ text = refl
symbol_leads (mode.Element s depth Fresh) CommaSymbol text = to_list list comma (after_comma s depth) refl (comma_in_list s depth)
symbol_leads (mode.Element s depth Fresh) _ text = refl
symbol_leads (mode.Element s depth Expected) CommaSymbol text = to_list list comma (after_comma s depth) refl (comma_in_list s depth)
symbol_leads (mode.Element s depth Expected) _ text = refl
symbol_leads (mode.Element s depth After) CommaSymbol text = to_list list comma (after_comma s depth) refl (comma_in_list s depth)
symbol_leads (mode.Element s depth After) Close text = refl
symbol_leads (mode.Element s depth After) SlashSymbol text = refl
symbol_leads (mode.Element s depth After) SemicolonSymbol text = refl
symbol_leads (mode.Element s depth After) DotSymbol text = refl
symbol_leads (mode.Element s depth After) DotDotSymbol text = refl
symbol_leads (mode.Element s depth After) StarSymbol text = refl
symbol_leads (mode.Element s depth After) PowerSymbol text = refl
symbol_leads (mode.Element s depth After) _ text = to_list list other (after_element s depth) refl (element_in_list s depth)
symbol_leads (mode.Element s depth Spaced) CommaSymbol text = to_list list comma (after_comma s depth) refl (comma_in_list s depth)
symbol_leads (mode.Element s depth Spaced) Close text = refl
symbol_leads (mode.Element s depth Spaced) SlashSymbol text = refl
symbol_leads (mode.Element s depth Spaced) SemicolonSymbol text = refl
symbol_leads (mode.Element s depth Spaced) DotSymbol text = refl
symbol_leads (mode.Element s depth Spaced) DotDotSymbol text = refl
symbol_leads (mode.Element s depth Spaced) StarSymbol text = refl
symbol_leads (mode.Element s depth Spaced) PowerSymbol text = refl
symbol_leads (mode.Element s depth Spaced) _ text = to_list list other (after_element s depth) refl (element_in_list s depth)
symbol_leads (mode.Value s) CommaSymbol text = to_list list comma (list_start s) refl (start_in_list s)
symbol_leads (mode.Value s) Close text = to_list list closing (after_stray_paren s) refl (stray_in_list s)
symbol_leads (mode.Value s) _ text = refl
symbol_leads (mode.Tail s) CommaSymbol text = to_list list comma (list_start s) refl (start_in_list s)
symbol_leads (mode.Tail s) Close text = to_list list closing (after_stray_paren s) refl (stray_in_list s)
symbol_leads (mode.Tail s) _ text = refl
symbol_leads mode.TableName EqE text = refl
symbol_leads mode.TableName _ text = refl
symbol_leads mode.TableNamed EqE text = refl
symbol_leads mode.TableNamed _ text = refl
symbol_leads mode.TableDomain EqE text = refl
symbol_leads mode.TableDomain _ text = refl
symbol_leads mode.TableBare EqE text = refl
symbol_leads mode.TableBare _ text = refl
symbol_leads mode.TableTexted EqE text = refl
symbol_leads mode.TableTexted _ text = refl
symbol_leads mode.TableLines EqE text = refl
symbol_leads mode.TableLines _ text = refl

-- ---- words

-- the sort of a word, by the statement that it begins
abbrev key_sort : Option Keyword → Sort
key_sort None = word
key_sort (Some (keyword.Declarer s)) = declarer
key_sort (Some keyword.Table) = leaving
key_sort (Some keyword.Other) = leaving

-- groups of words of one sort
abbrev AreWords : List Words → Type 0
AreWords [] = Unit {0}
AreWords (g ∷ groups) = (sort_of g.0 ≡ word) × AreWords groups

word_kind : (text : List ℕ) (groups : List Words) (following : Option Terminal) → AreWords groups → sort_of (or_name following) ≡ word → sort_of (or_name (or_else (kind_among text groups) following)) ≡ word
word_kind text [] following a h = h
word_kind text (g ∷ groups) following a h = by (is_word_among text g.1) (word_kind text groups following a.1 h)
  where
    by : (b : Bool) → sort_of (or_name (or_else (kind_among text groups) following)) ≡ word → sort_of (or_name (or_else (if b then Some g.0 else kind_among text groups) following)) ≡ word
    by true k = a.0
    by false k = k

else_none : (o : Option Terminal) → or_else o None ≡ o
else_none None = refl
else_none (Some t) = refl

-- groups of words that begin statements: each is of the sort of its statement
abbrev AreHeads : List Words → Type 0
AreHeads [] = Unit {0}
AreHeads (g ∷ groups) = (sort_of g.0 ≡ key_sort (Some (keyword_as g.0))) × AreHeads groups

head_kind : (text : List ℕ) (groups : List Words) (following : Option Terminal) → AreHeads groups → sort_of (or_name following) ≡ word → sort_of (or_name (or_else (kind_among text groups) following)) ≡ key_sort (option_map keyword_as (kind_among text groups))
head_kind text [] following a h = h
head_kind text (g ∷ groups) following a h = by (is_word_among text g.1) (head_kind text groups following a.1 h)
  where
    by : (b : Bool) → sort_of (or_name (or_else (kind_among text groups) following)) ≡ key_sort (option_map keyword_as (kind_among text groups)) → sort_of (or_name (or_else (if b then Some g.0 else kind_among text groups) following)) ≡ key_sort (option_map keyword_as (if b then Some g.0 else kind_among text groups))
    by true k = a.0
    by false k = k

-- a word is of the sort of the statement that it begins
word_sort : (text : List ℕ) → sort_of (terminal_of_word text) ≡ key_sort (keyword_of text)
unfolding terminal_of_word keyword_of
word_sort text =
    head_kind text statement_words (or_else (kind_among text expression_words) (kind_among text other_words)) (refl, (refl, (refl, (refl, (refl, (refl, (refl, (refl, (refl, (refl, (refl, (refl, (refl, (refl, tt))))))))))))))
    (word_kind text expression_words (kind_among text other_words) (refl, (refl, (refl, (refl, (refl, (refl, (refl, (refl, (refl, (refl, (refl, tt)))))))))))
    (ap (λ (o : Option Terminal). sort_of (or_name o)) (sym (else_none (kind_among text other_words))) ∙ word_kind text other_words None (refl, (refl, (refl, (refl, (refl, tt))))) refl))

begun_leads : (spot : Spot) (current : Mode) (k : Option Keyword) → has same same_is (step spot declarer) item ≡ true → has same same_is (step spot leaving) out ≡ true → Leads spot word current → Leads spot (key_sort k) (begun_by k current)
begun_leads spot current None h l w = w
begun_leads spot current (Some (keyword.Declarer s)) h l w = h
begun_leads spot current (Some keyword.Table) h l w = l
begun_leads spot current (Some keyword.Other) h l w = l

-- which tokens do not occur in a mode
abbrev pub CanOccur : Mode → Kind → Type 0
CanOccur (mode.Item s) kind.Label = ⊥
CanOccur (mode.Named s) kind.Word = ⊥
CanOccur (mode.Bare s) kind.Word = ⊥
CanOccur _ _ = Unit {0}

key_leads : (m : Mode) (k : Option Keyword) (sort : Sort) → spot_of m ≡ out → Leads out (key_sort k) (begun_by k m)
key_leads m None sort e = ap (has same same_is (out ∷ [])) e
key_leads m (Some (keyword.Declarer s)) sort e = refl
key_leads m (Some keyword.Table) sort e = refl
key_leads m (Some keyword.Other) sort e = refl

stay_out : (k : Option Keyword) → has same same_is (step out (key_sort k)) out ≡ true
stay_out None = refl
stay_out (Some (keyword.Declarer s)) = refl
stay_out (Some keyword.Table) = refl
stay_out (Some keyword.Other) = refl

stay_domain : (k : Option Keyword) → has same same_is (step domain (key_sort k)) domain ≡ true
stay_domain None = refl
stay_domain (Some (keyword.Declarer s)) = refl
stay_domain (Some keyword.Table) = refl
stay_domain (Some keyword.Other) = refl

stay_list : (k : Option Keyword) → has same same_is (step list (key_sort k)) list ≡ true
stay_list None = refl
stay_list (Some (keyword.Declarer s)) = refl
stay_list (Some keyword.Table) = refl
stay_list (Some keyword.Other) = refl

key_table : (m : Mode) (k : Option Keyword) → spot_of m ≡ out → Leads out (key_sort k) (begun_by k m)
key_table m k e = key_leads m k word e

word_leads : (m : Mode) (text : List ℕ) (k : Option Keyword) → k ≡ keyword_of text → CanOccur m kind.Word → Leads (spot_of m) (key_sort k) (after_word m text)
word_leads m text k e can = subst (λ (j : Option Keyword). Leads (spot_of m) (key_sort j) (after_word m text)) (sym e) (by m can)
  where
    by : (m : Mode) → CanOccur m kind.Word → Leads (spot_of m) (key_sort (keyword_of text)) (after_word m text)
    by mode.Code can = key_table mode.Code (keyword_of text) refl
    by (mode.Item s) can = begun_leads item (mode.Named s) (keyword_of text) refl refl refl
    by (mode.Named s) can = absurd can
    by (mode.Domain s) can = stay_domain (keyword_of text)
    by (mode.Bare s) can = absurd can
    by (mode.Rest s) can = begun_leads rest (mode.Rest s) (keyword_of text) refl refl refl
    by (mode.Element s depth Fresh) can = stay_list (keyword_of text)
    by (mode.Element s depth Expected) can = stay_list (keyword_of text)
    by (mode.Element s depth After) can = ap (has same same_is (step list (key_sort (keyword_of text)))) (element_in_list s depth) ∙ stay_list (keyword_of text)
    by (mode.Element s depth Spaced) can = ap (has same same_is (step list (key_sort (keyword_of text)))) (element_in_list s depth) ∙ stay_list (keyword_of text)
    by (mode.Value s) can = stay_list (keyword_of text)
    by (mode.Tail s) can = stay_list (keyword_of text)
    by mode.TableName can = key_table mode.TableNamed (keyword_of text) refl
    by mode.TableNamed can = stay_out (keyword_of text)
    by mode.TableDomain can = stay_out (keyword_of text)
    by mode.TableBare can = stay_out (keyword_of text)
    by mode.TableTexted can = key_table mode.Code (keyword_of text) refl
    by mode.TableLines can = key_table mode.Code (keyword_of text) refl

-- ---- other tokens

text_sort : (text : List ℕ) → sort_of (terminal_of_text text) ≡ other
text_sort text = by (nat_lt 65 (length text))
  where
    by : (b : Bool) → sort_of (if b then terminal.LongText else terminal.Text) ≡ other
    by true = refl
    by false = refl

label_leads : (m : Mode) (text : List ℕ) → CanOccur m kind.Label → Leads (spot_of m) label (after_token m kind.Label text)
label_leads (mode.Item s) text can = absurd can
label_leads (mode.Element s depth After) text can = to_list list label (after_element s depth) refl (element_in_list s depth)
label_leads (mode.Element s depth Spaced) text can = to_list list label (after_element s depth) refl (element_in_list s depth)
label_leads (mode.Element s depth Fresh) text can = refl
label_leads (mode.Element s depth Expected) text can = refl
label_leads mode.Code text can = refl
label_leads _ text can = refl

number_leads : (m : Mode) (text : List ℕ) → Leads (spot_of m) other (after_token m kind.Number text)
number_leads (mode.Element s depth After) text = to_list list other (after_element s depth) refl (element_in_list s depth)
number_leads (mode.Element s depth Spaced) text = to_list list other (after_element s depth) refl (element_in_list s depth)
number_leads (mode.Element s depth Fresh) text = refl
number_leads (mode.Element s depth Expected) text = refl
number_leads mode.Code text = refl
number_leads _ text = refl

break_leads : (m : Mode) (text : List ℕ) → Leads (spot_of m) ending (after_token m kind.Break text)
break_leads (mode.Element s depth stage) text = to_list list ending (list_start s) refl (start_in_list s)
break_leads (mode.Tail s) text = to_list list ending (list_start s) refl (start_in_list s)
break_leads mode.Code text = refl
break_leads _ text = refl

line_leads : (m : Mode) (text : List ℕ) → Leads (spot_of m) other (after_token m kind.TableLine text)
line_leads (mode.Element s depth stage) text = refl
line_leads mode.Code text = refl
line_leads _ text = refl

-- a token leads from the position of a mode to that of the mode after it; `text` is the token in
-- the code, and `bytes` in the source
pub token_leads : (m : Mode) (k : Kind) (text bytes : List ℕ) → CanOccur m k → (k ≡ kind.Word → text ≡ bytes) → Leads (spot_of m) (sort_of (terminal_of k bytes)) (after_token m k text)
token_leads m kind.Word text bytes can same =
    subst (λ (s : Sort). Leads (spot_of m) s (after_word m text)) (sym (ap (λ t. sort_of (terminal_of_word t)) (sym (same refl)) ∙ word_sort text)) (word_leads m text (keyword_of text) refl can)
token_leads m kind.Label text bytes can same = label_leads m text can
token_leads m kind.Number text bytes can same = number_leads m text
token_leads m kind.Text text bytes can same = subst (λ (s : Sort). Leads (spot_of m) s (after_token m kind.Text text)) (sym (text_sort bytes)) (number_leads m text)
token_leads m (kind.Symbol s) text bytes can same = symbol_leads m s text
token_leads m kind.Break text bytes can same = break_leads m text
token_leads m kind.TableLine text bytes can same = line_leads m text
token_leads m kind.End text bytes can same = number_leads m text

-- ---- places that stand for modes

-- after a name or a domain a descriptive text may have been passed
abbrev IsMild : Spot → Type 0
IsMild named = Unit {0}
IsMild bare = Unit {0}
IsMild _ = ⊥

-- a position means a mode: it is its position, or the mode is that after a descriptive text
abbrev pub OccursFor : Spot → Mode → Type 0
OccursFor spot m = (spot ≡ spot_of m) ⊎ (IsMild spot × (spot_of m ≡ rest))

mild_more : (spot : Spot) (sort : Sort) → IsMild spot → within same same_is (step rest sort) (step spot sort) ≡ true
mild_more named declarer h = refl
mild_more named _ h = refl
mild_more bare declarer h = refl
mild_more bare _ h = refl
mild_more _ _ h = absurd h

-- what a token leads to from a place that stands for a mode
pub occurs_leads : (spot : Spot) (m following : Mode) (sort : Sort) → OccursFor spot m → Leads (spot_of m) sort following → Leads spot sort following
occurs_leads spot m following sort (inl e) l = subst (λ (s : Spot). Leads s sort following) (sym e) l
occurs_leads spot m following sort (inr e) l =
    within_has same same_is (step rest sort) (step spot sort) (spot_of following) (mild_more spot sort e.0) (subst (λ (s : Spot). Leads s sort following) e.1 l)

-- what is no token leaves it
pub occurs_gap : (spot : Spot) (m : Mode) → OccursFor spot m → OccursFor spot (after_gap m)
occurs_gap spot (mode.Element s depth After) h = h
occurs_gap spot (mode.Element s depth Fresh) h = h
occurs_gap spot (mode.Element s depth Expected) h = h
occurs_gap spot (mode.Element s depth Spaced) h = h
occurs_gap spot mode.Code h = h
occurs_gap spot _ h = h

pub occurs_line : (spot : Spot) (m : Mode) → OccursFor spot m → OccursFor spot (after_line m)
occurs_line spot mode.Code h = h
occurs_line spot _ h = h

pub occurs_remark : (spot : Spot) (m : Mode) → OccursFor spot m → OccursFor spot (after_remark m)
occurs_remark spot (mode.Named s) (inl e) = inr (subst IsMild (sym e) tt, refl)
occurs_remark spot (mode.Named s) (inr e) = absurd (let z : ◌≡◌ {A = Spot} named rest = e.1 in cc)
occurs_remark spot (mode.Bare s) (inl e) = inr (subst IsMild (sym e) tt, refl)
occurs_remark spot (mode.Bare s) (inr e) = absurd (let z : ◌≡◌ {A = Spot} bare rest = e.1 in cc)
occurs_remark spot (mode.Element s depth stage) h = h
occurs_remark spot mode.Code h = h
occurs_remark spot _ h = h

-- a place that stands for a list is that of a list
pub list_occurs : (spot : Spot) (m : Mode) → OccursFor spot m → spot_of m ≡ list → spot ≡ list
list_occurs spot m (inl e) h = e ∙ h
list_occurs spot m (inr e) h = absurd (let z : ◌≡◌ {A = Spot} rest list = sym e.1 ∙ h in cc)
