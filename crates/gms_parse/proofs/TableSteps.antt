-- Tables: their lines, the entries that these give, and the statement.
use Rattle.std.proofs.lemmas.Bool.{not-true}
use Rattle.std.proofs.Common.{◌≡◌, ℕ, suc, ◌+◌, ◌≤◌, Bool, true, false, not, ◌&&◌, ◌||◌, cond, List, [], ◌∷◌, ◌++◌, map, reverse, take, take_while, length, string_bytes, string_len, All, Option as Maybe, Vec, refl, sym, ap, ap₂, ◌∙◌, subst, arith, append_assoc, inl, inr, ◌⊎◌}
use Rattle.std.specs.Str.{IsAscii}
use Rattle.std.specs.List.{prefix_len}
use Rattle.std.specs.declared.alloc.Global.{Global}
use Rattle.std.proofs.lemmas.List.{map-append, reverse-append}
use Rattle.std.proofs.lemmas.List.Elements.{All-nil, All-cons, All-head, All-tail, All-append}
use Rattle.gq_number.specs.Number.{Number as Rational}
use Rattle.gms_labels.specs.declared.place.Place.{Place}
use Rattle.gms_grammar.specs.declared.kind.Kind.{Kind}
use Rattle.gms_lex.specs.declared.token.Token.{Token}
use Rattle.gms_lex.specs.TokenTexts.{token_text, IsSpelled}
use Rattle.gms_ast.specs.declared.word.Named.{Named}
use Rattle.gms_ast.specs.declared.declaration.Item.{Item}
use Rattle.gms_ast.specs.declared.declaration.DeclKind.TheVariants as kind
use Rattle.gms_ast.specs.declared.program.Act.TheVariants as act
use Rattle.gms_ast.specs.StatementTrees.{declares}
use Rattle.gms_ast.specs.StatementView.{item_in}
use Rattle.gms_table.specs.declared.entry.Entry.{Entry}
use Rattle.gms_table.specs.declared.entry.TableLine.{TableLine as Line}
use Rattle.gms_table.specs.declared.fault.TableError.{TableError}
use Rattle.gms_table.specs.declared.fault.TableError.TheVariants as error
use Rattle.gms_table.specs.declared.fault.TableFault.{TableFault}
use Rattle.gms_table.specs.declared.fault.TableFaultOrMemory.{TableFaultOrMemory}
use Rattle.gms_table.specs.declared.fault.TableFaultOrMemory.TheVariants as answer
use Rattle.gms_table.specs.Words.{Word, words_of}
use Rattle.gms_table.specs.TableEntries as entries
use Rattle.gms_table.specs.TableEntries.{TablePart, name as name_part, cell, table_of, table_parts, IsPartFault, IsFirstPartFault, IsTable, IsTableRefusal}
use Rattle.gms_grammar.specs.declared.terminal.Terminal.{Terminal}
use Rattle.gms_grammar.specs.declared.terminal.Terminal.TheVariants.{Table, Name, Suffix, TableLine}
use Rattle.gms_grammar.specs.Grammar.{the, ◌·◌, many, leaf, pair, none, more, node, yield}
use Rattle.gms_grammar.specs.Reading.{read, leads, Reads, taken, takes_one}
use Rattle.gms_grammar.specs.Terminals.{is, is_terminal_among}
use Rattle.gms_grammar.specs.GamsGrammar.{Nonterminal, Expression, Domain, DomainList, DomainPosition, TableStatement, productions, token, name}
use Rattle.gms_grammar.specs.GamsLookAhead.{look_ahead}
use Rattle.gms_grammar.proofs.Sound.{sound}
use Rattle.gms_expressions.specs.Outcomes.{next_place}
use Rattle.gms_expressions.proofs.TokenKinds.{also}
use Rattle.gms_parse.specs.declared.fault.SourceError.TheVariants as source_error
use Rattle.gms_table.specs.declared.fault.TableError.TheVariants.{NoHeading}
use Rattle.gms_parse.specs.declared.fault.SourceFault.{SourceFault}
use Rattle.gms_parse.specs.declared.fault.SourceFaultOrMemory.{SourceFaultOrMemory}
use Rattle.gms_parse.specs.declared.fault.SourceFaultOrMemory.TheVariants.{Fault}
use Rattle.gms_parse.specs.declared.reader.Reader.{Reader}
use Rattle.gms_parse.specs.declared.reader.Tables.{Tables}
use Rattle.gms_parse.specs.Faults.{error_of_table, fault_at, table_fault_at, fault_of_table}
use Rattle.gms_parse.specs.Tables.{parts_of_tokens, labels_of_lines, IsTableLineFault, item_of_entry, entries_in, items_given}
use Rattle.gms_parse.specs.InnerTables.{IsTableRead, IsTableRefused}
use Rattle.gms_parse.specs.Declarations.{table_act}
use Rattle.gms_table.specs.WordLabels.{all_entered}
use Rattle.gms_parse.specs.ReadStates.{KindedToken, ReaderState, kind_ahead, last_kind, ends_statement, table_name, lines_with, reader_after, reader_after_all, IsFaulty, deep, out_of_range, many_names, many_labels, in_table, without_lines}
use Rattle.gms_parse.specs.InnerReadings.{Derivation, Gives, Refuses, Sense, IsSense, Holds, Starts, Stays, IsNext, IsGot, IsLines, ends_head, seen_from, kind_of}
use Rattle.gms_parse.specs.InnerMeanings.{IsNamed, IsDomain, IsAct}
use Rattle.gms_parse.proofs.TokenKinds.{same_kind}
use Rattle.gms_parse.proofs.Alphabet.{AllPass, only, all_pass}
use Rattle.gms_parse.proofs.Spelled.{lone_as}
use Rattle.gms_parse.proofs.TableItems.{items_only}
use Rattle.gms_parse.proofs.TableFaults.{occurs_not}
use Rattle.gms_grammar.proofs.Orders.{some_there}
use Rattle.gms_parse.proofs.Steps.{got_by, gives_one, gives_both, gives_the, gives_no_more, gives_again, refuses_first, refuses_second, refuses_the, refuses_again, refuses_later, refuses_token, refuses_memory}
use Rattle.gms_parse.proofs.Nexts.{past, exact, gives_exact, begun_starts, earlier}
use Rattle.gms_parse.proofs.Domains.{name_pushed, name_kept}
use Rattle.gms_parse.proofs.Views.{view-Declare}

-- ---- how lines are spelled

-- a line is of ASCII, and short
pub line_spelled : {reader : Reader} {at following : ℕ} {t : Token} → IsNext (is TableLine) reader at t following → IsAscii (token_text reader.source.now t) × (length (token_text reader.source.now t) ≤ 32768)
line_spelled {reader = reader} {t = t} n =
    let text = token_text reader.source.now t in
    let k = lone_as TableLine refl t.kind text (sym n.kind_is ∙ sym (same_kind TableLine n.kind n.passes)) in
    subst (λ (kind : Kind). IsSpelled kind text) k n.placed.spelled

-- ---- lines that were read so far

pub record SomeLines (reader : Reader) (at : ℕ) (lines : List Line) (next : ℕ) : Type 0 where
  pub seen_lines : List KindedToken
  pub are_lines : All (λ line. line.0 ≡ TableLine) seen_lines
  pub is : seen_from reader at ≡ seen_lines ++ seen_from reader next
  pub texts : map {B = ℕ × List ℕ} (λ line. (line.line, string_bytes line.text)) lines ≡ map {B = ℕ × List ℕ} (λ line. (line.1.at.line, token_text reader.source.now line.1)) seen_lines
  pub short : All (λ line. string_len line.text ≤ 32768) lines
  pub further : at ≤ next

pub lines_start : (reader : Reader) (at : ℕ) (lines : List Line) → lines ≡ [] → SomeLines reader at lines at
lines_start reader at lines e = record {
  seen_lines = [];
  are_lines = All-nil (λ line. line.0 ≡ TableLine);
  is = refl;
  texts = ap (map {B = ℕ × List ℕ} (λ line. (line.line, string_bytes line.text))) e;
  short = subst (λ (ls : List Line). All (λ line. string_len line.text ≤ 32768) ls) (sym e) (All-nil (λ line. string_len line.text ≤ 32768));
  further = omega arith;
}

pub lines_more : {reader : Reader} {at next following : ℕ} {t : Token} {lines : List Line} → SomeLines reader at lines next → IsNext (is TableLine) reader next t following → (line : Line) → line.line ≡ t.at.line → string_bytes line.text ≡ token_text reader.source.now t → string_len line.text ≤ 32768 →
    (now : List Line) → now ≡ lines ++ line ∷ [] → SomeLines reader at now following
lines_more {reader} {at} {next} {following} {t} {lines} s n line number bytes few now is = record {
  seen_lines = s.seen_lines ++ (TableLine, t) ∷ [];
  are_lines = All-append (λ line. line.0 ≡ TableLine) s.seen_lines ((TableLine, t) ∷ []) s.are_lines (All-cons (λ line. line.0 ≡ TableLine) (TableLine, t) [] refl (All-nil (λ line. line.0 ≡ TableLine)));
  is = s.is ∙ ap (λ us. s.seen_lines ++ us) (exact {kind = TableLine} n) ∙ sym (append_assoc s.seen_lines ((TableLine, t) ∷ []) (seen_from reader following));
  texts =
      let shown : Line → ℕ × List ℕ = (λ line. (line.line, string_bytes line.text)) in
      let seen : KindedToken → ℕ × List ℕ = (λ line. (line.1.at.line, token_text reader.source.now line.1)) in
      ap (map shown) is ∙ map-append shown lines (line ∷ []) ∙ ap₂ (λ us vs. us ++ vs) s.texts (ap₂ (λ (a : ℕ) (b : List ℕ). (a, b) ∷ []) number bytes) ∙ sym (map-append seen s.seen_lines ((TableLine, t) ∷ []));
  short = subst (λ (ls : List Line). All (λ line. string_len line.text ≤ 32768) ls) (sym is) (All-append (λ line. string_len line.text ≤ 32768) lines (line ∷ []) s.short (All-cons (λ line. string_len line.text ≤ 32768) line [] few (All-nil (λ line. string_len line.text ≤ 32768))));
  further = (let a = s.further in let b = n.further in omega arith);
}

pub lines_end : {reader : Reader} {at next : ℕ} {lines : List Line} → SomeLines reader at lines next → leads productions look_ahead (token TableLine) (seen_from reader next) ≡ false → IsLines reader at lines next
lines_end s unled = record { seen_lines = s.seen_lines; are_lines = s.are_lines; is = s.is; none_after = unled; texts = s.texts; short = s.short; further = s.further }

-- ---- lines as tokens

abbrev pub lined : Token → KindedToken
lined t = (TableLine, t)

-- tokens that are all lines
record AreLined (ls : List KindedToken) : Type 0 where
  tokens : List Token
  are : ls ≡ map lined tokens

lined_all : (ls : List KindedToken) → All (λ line. line.0 ≡ TableLine) ls → AreLined ls
lined_all [] h = record { tokens = []; are = refl }
lined_all (l ∷ ls) h =
    let others = lined_all ls (All-tail (λ (line : KindedToken). line.0 ≡ TableLine) l ls h) in
    let k : l.0 ≡ TableLine = All-head (λ (line : KindedToken). line.0 ≡ TableLine) l ls h in
    record { tokens = l.1 ∷ others.tokens; are = ap₂ (λ (kind : Terminal) (us : List KindedToken). (kind, l.1) ∷ us) k others.are }

-- the tree of lines
abbrev lines_tree : List Token → Derivation
lines_tree [] = none
lines_tree (t ∷ ts) = more (leaf (lined t)) (lines_tree ts)

lines_yield : (ts : List Token) → yield (lines_tree ts) ≡ map lined ts
lines_yield [] = refl
lines_yield (t ∷ ts) = ap (λ us. lined t ∷ us) (lines_yield ts)

-- the lines that tokens end in, the last first
abbrev pub run_of : List KindedToken → List KindedToken
run_of before = take_while (λ token. is TableLine token.0) before

pub run_one : (u : KindedToken) (before : List KindedToken) → is TableLine u.0 ≡ true → run_of (u ∷ before) ≡ u ∷ run_of before
run_one u before h =
    let n = prefix_len (λ (token : KindedToken). is TableLine token.0) before in
    ap (λ b. take (cond b (1 + n) 0) (u ∷ before)) h ∙ ap (λ k. take k (u ∷ before)) (let e : 1 + n ≡ suc n = omega arith in e)

pub run_other : (x : KindedToken) (before : List KindedToken) → is TableLine x.0 ≡ false → run_of (x ∷ before) ≡ []
run_other x before h = ap (λ b. take (cond b (1 + prefix_len (λ (token : KindedToken). is TableLine token.0) before) 0) (x ∷ before)) h

-- within the lines of a table, of which these were read, and whose name has this place
record AtLines (w : ReaderState) (run : List KindedToken) (at : Place) : Type 0 where
  run_is : run_of w.before ≡ run
  named : table_name w.before ≡ at
  following : is Table (last_kind w.before) ≡ false

lines_on : (source : List ℕ) {w : ReaderState} (t : Token) {run : List KindedToken} {at : Place} → AtLines w run at → AtLines (reader_after source w (lined t) TableLine) (lined t ∷ run) at
lines_on source {w} t a = record { run_is = run_one (lined t) w.before refl ∙ ap (λ us. lined t ∷ us) a.run_is; named = name_pushed (lined t) w.before a.following ∙ a.named; following = refl }

-- a line has no fault but the last one that of the table
line_sound : (limit : ℕ) (source : List ℕ) (w : ReaderState) (t : Token) (ahead : Terminal) → (is TableLine ahead ≡ false → (fault : SourceFault) → IsTableLineFault limit source (table_name w.before) w.labels (lines_with source w.before (lined t)) fault → ⊥) → (fault : SourceFault) → IsFaulty limit source w (lined t) ahead fault → ⊥
line_sound limit source w t ahead none_there fault (deep e d) = cc
line_sound limit source w t ahead none_there fault (out_of_range e d) = cc
line_sound limit source w t ahead none_there fault (many_names e d) = cc
line_sound limit source w t ahead none_there fault (many_labels e d) = cc
line_sound limit source w t ahead none_there fault (in_table e d f) = none_there d fault f
line_sound limit source w t ahead none_there fault (without_lines e d f) = cc

ahead_other : (rest : List KindedToken) → leads productions look_ahead (token TableLine) rest ≡ false → is TableLine (kind_of rest) ≡ false
ahead_other [] h = refl
ahead_other (t ∷ rest) h = h

last_lines : (source : List ℕ) (w : ReaderState) (run : List KindedToken) (t : Token) → run_of w.before ≡ run → lines_with source w.before (lined t) ≡ reverse run ++ lined t ∷ []
last_lines source w run t e = ap (λ us. reverse (lined t ∷ us)) e ∙ reverse-append (lined t ∷ []) run

-- tokens in the other order
pub turned : (u : KindedToken) (us before : List KindedToken) → reverse (u ∷ us) ++ before ≡ reverse us ++ (u ∷ before)
turned u us before = ap (λ (ws : List KindedToken). ws ++ before) (reverse-append (u ∷ []) us) ∙ append_assoc (reverse us) (u ∷ []) before

-- the fault of all lines is that of the last one
told_at : (limit : ℕ) (source : List ℕ) (labels : List (List ℕ)) (fault : SourceFault) {p q : Place} {ls ms : List KindedToken} → p ≡ q → ls ≡ ms → IsTableLineFault limit source p labels ls fault → IsTableLineFault limit source q labels ms fault
told_at limit source labels fault {p} {q} {ls} e k f = subst (λ (us : List KindedToken). IsTableLineFault limit source q labels us fault) k (subst (λ (x : Place). IsTableLineFault limit source x labels ls fault) e f)

-- what lines leave
record LinesGive (limit : ℕ) (source : List ℕ) (w : ReaderState) (ts : List Token) (rest lines : List KindedToken) : Type 0 where
  following : ReaderState
  gives : Gives limit source (many (token TableLine)) w (map lined ts ++ rest) (lines_tree ts) following rest
  open_count : following.open_count ≡ w.open_count
  names : following.names ≡ w.names
  labels : following.labels ≡ all_entered w.labels (labels_of_lines source lines)

module _ (limit : ℕ) (source : List ℕ) (rest : List KindedToken) (unled : leads productions look_ahead (token TableLine) rest ≡ false) where
  lines_give : (t : Token) (ts : List Token) (w : ReaderState) (run : List KindedToken) (at : Place) → AtLines w run at → ((fault : SourceFault) → IsTableLineFault limit source at w.labels (reverse run ++ map lined (t ∷ ts)) fault → ⊥) → LinesGive limit source w (t ∷ ts) rest (reverse run ++ map lined (t ∷ ts))
  lines_give t [] w run at a none_there = record {
    following = reader_after source w (lined t) (kind_of rest);
    gives = gives_again refl (gives_one refl refl (line_sound limit source w t (kind_of rest) (λ d fault f. none_there fault (told_at limit source w.labels fault a.named (last_lines source w run t a.run_is) f))) refl) (gives_no_more unled);
    open_count = refl;
    names = refl;
    labels = ap (λ b. all_entered w.labels (cond (not b) (labels_of_lines source (lines_with source w.before (lined t))) [])) (ahead_other rest unled) ∙ ap (λ ls. all_entered w.labels (labels_of_lines source ls)) (last_lines source w run t a.run_is);
  }
  lines_give t (u ∷ ts) w run at a none_there =
      let v = reader_after source w (lined t) TableLine in
      let again = turned (lined t) run (map lined (u ∷ ts)) in
      let g = lines_give u ts v (lined t ∷ run) at (lines_on source t a) (λ fault f. none_there fault (subst (λ (ls : List KindedToken). IsTableLineFault limit source at w.labels ls fault) again f)) in
      record {
        following = g.following;
        gives = gives_again refl (gives_one refl refl (line_sound limit source w t TableLine (λ d fault f. cc)) refl) g.gives;
        open_count = g.open_count;
        names = g.names;
        labels = g.labels ∙ ap (λ ls. all_entered w.labels (labels_of_lines source ls)) again;
      }

  lines_wrong : (t : Token) (ts : List Token) (w : ReaderState) (run : List KindedToken) (at : Place) → AtLines w run at → (fault : SourceFault) → IsTableLineFault limit source at w.labels (reverse run ++ map lined (t ∷ ts)) fault → (e : SourceFaultOrMemory) → e ≡ Fault fault →
      Refuses limit source (many (token TableLine)) w (map lined (t ∷ ts) ++ rest) e
  lines_wrong t [] w run at a fault f e is = refuses_again refl (refuses_token (takes_one refl) (in_table refl (ahead_other rest unled) (told_at limit source w.labels fault (sym a.named) (sym (last_lines source w run t a.run_is)) f)) is)
  lines_wrong t (u ∷ ts) w run at a fault f e is =
      refuses_later refl (gives_one refl refl (line_sound limit source w t TableLine (λ d fault f. cc)) refl)
      (lines_wrong u ts (reader_after source w (lined t) TableLine) (lined t ∷ run) at (lines_on source t a) fault (subst (λ (ls : List KindedToken). IsTableLineFault limit source at w.labels ls fault) (sym (turned (lined t) run (map lined (u ∷ ts)))) f) e is)

-- ---- kinds

abbrev no_line : Terminal → Bool
no_line kind = not (is TableLine kind)

abbrev no_table : Terminal → Bool
no_table kind = not (is Table kind)

-- ---- the words of the lines

map_map : {A B C : Type 0} (f : B → C) (g : A → B) (xs : List A) → map f (map g xs) ≡ map (λ x. f (g x)) xs
map_map f g [] = refl
map_map f g (x ∷ xs) = ap (λ us. f (g x) ∷ us) (map_map f g xs)

same_parts : {reader : Reader} {at next : ℕ} {lines : List Line} (k : IsLines reader at lines next) → table_parts lines ≡ parts_of_tokens reader.source.now k.seen_lines
same_parts {reader} {lines = lines} k =
    let words : ℕ × List ℕ → List Word = (λ p. words_of p.0 p.1) in
    let shown : Line → ℕ × List ℕ = (λ line. (line.line, string_bytes line.text)) in
    let seen : KindedToken → ℕ × List ℕ = (λ line. (line.1.at.line, token_text reader.source.now line.1)) in
    ap table_of (sym (map_map words shown lines) ∙ ap (map words) k.texts ∙ map_map words seen k.seen_lines)

-- lines that are there, and none
no_texts : (reader : Reader) (lines : List Line) → map {B = ℕ × List ℕ} (λ line. (line.line, string_bytes line.text)) lines ≡ [] → lines ≡ []
no_texts reader [] h = refl
no_texts reader (l ∷ ls) h = let bad : (l.line, string_bytes l.text) ∷ map {B = ℕ × List ℕ} (λ line. (line.line, string_bytes line.text)) ls ≡ [] = h in cc

some_texts : (source : List ℕ) (lines : List Line) (u : Token) (us : List Token) → lines ≡ [] → map {B = ℕ × List ℕ} (λ line. (line.line, string_bytes line.text)) lines ≡ map {B = ℕ × List ℕ} (λ line. (line.1.at.line, token_text source line.1)) (map lined (u ∷ us)) → ⊥
some_texts source lines u us none_there e =
    let bad : [] ≡ (u.at.line, token_text source u) ∷ map {B = ℕ × List ℕ} (λ line. (line.1.at.line, token_text source line.1)) (map lined us) = sym (ap (map {B = ℕ × List ℕ} (λ line. (line.line, string_bytes line.text))) none_there) ∙ e in
    cc

-- ---- faults

told : (limit : ℕ) (labels : List (List ℕ)) (found : TableError) (at place : Place) (before : List TablePart) (part : TablePart) → IsPartFault limit labels before part found → table_fault_at found at place ≡ fault_at (error_of_table found) at
told limit labels error.NoHeading at place before (name_part word) h = absurd h
told limit labels error.NoHeading at place before (cell row headings word) h = absurd h
told limit labels error.NoColumn at place before part h = refl
told limit labels error.TwoColumns at place before part h = refl
told limit labels error.RepeatedEntry at place before part h = refl
told limit labels error.BadRow at place before part h = refl
told limit labels error.Labels at place before part h = refl

-- ---- what precedes the lines

-- a name is no table and no line
named_other : (kind : Terminal) → is_terminal_among (Name ∷ Suffix ∷ []) kind ≡ true → (is Table kind ≡ false) × (is TableLine kind ≡ false)
named_other kind h = (not-true _ (also (is_terminal_among (Name ∷ Suffix ∷ [])) no_table refl kind h), not-true _ (also (is_terminal_among (Name ∷ Suffix ∷ [])) no_line refl kind h))

abbrev in_domain : Nonterminal → Bool
in_domain Domain = true
in_domain DomainList = true
in_domain DomainPosition = true
in_domain _ = false

domains_no_line : (n : Nonterminal) → (not (in_domain n) || only in_domain no_line (productions n)) ≡ true
domains_no_line Expression = refl
domains_no_line _ = refl

domains_no_table : (n : Nonterminal) → (not (in_domain n) || only in_domain no_table (productions n)) ≡ true
domains_no_table Expression = refl
domains_no_table _ = refl

no_run : (source : List ℕ) (w : ReaderState) (u : List KindedToken) (ahead : Terminal) → AllPass no_line u → run_of w.before ≡ [] → run_of (reader_after_all source w u ahead).before ≡ []
no_run source w [] ahead h k = k
no_run source w (t ∷ u) ahead h k = no_run source (reader_after source w t (kind_ahead u ahead)) u ahead h.1 (run_other t w.before (not-true (is TableLine t.0) h.0))

last_kept : (source : List ℕ) (w : ReaderState) (u : List KindedToken) (ahead : Terminal) → AllPass no_table u → is Table (last_kind w.before) ≡ false → is Table (last_kind (reader_after_all source w u ahead).before) ≡ false
last_kept source w [] ahead h k = k
last_kept source w (t ∷ u) ahead h k = last_kept source (reader_after source w t (kind_ahead u ahead)) u ahead h.1 (not-true (is Table t.0) h.0)

-- the name, which is one token
record NameThere (reader : Reader) (start : ℕ) (before : List KindedToken) (v : ReaderState) : Type 0 where
  token : KindedToken
  named : is_terminal_among (Name ∷ Suffix ∷ []) token.0 ≡ true
  before_is : v.before ≡ token ∷ before
  place : next_place reader.source.now (seen_from reader start) ≡ token.1.at

name_read : (reader : Reader) (start : ℕ) (v x : ReaderState) (rest : List KindedToken) {ts : List KindedToken} {tree : Derivation} → seen_from reader start ≡ ts → Reads productions look_ahead name ts (read tree rest) → x ≡ reader_after_all reader.source.now v (yield tree) (kind_of rest) → NameThere reader start v.before x
name_read reader start v x rest e (taken {token = token} h) l = record { token = token; named = h; before_is = ap (λ (y : ReaderState). y.before) l; place = ap (next_place reader.source.now) e }

module _ {reader : Reader} {at start : ℕ} {t : Token} {old : Tables} {w : ReaderState} (n : IsNext (is Table) reader at t start) (h : Holds reader old w) where
  pub table_starts : Starts reader old (past reader w Table t start)
  table_starts = begun_starts reader w Table t start refl refl refl refl h

-- what an answer of a domain is
abbrev DomainAnswer : ℕ → Reader → Tables → ReaderState → ℕ → Vec (Maybe Named) Global → ℕ → Type 0
DomainAnswer limit reader new read_state at domain after =
    (ends_head read_state (seen_from reader after) ≡ false → IsGot limit (IsDomain reader.source.now) (Stays reader new read_state) (the Domain) reader at new read_state domain after) × (ends_head read_state (seen_from reader after) ≡ true → is Table (last_kind read_state.before) ≡ false → Refuses limit reader.source.now (the Domain) read_state (seen_from reader at) (Fault (record { error = source_error.Table NoHeading; at = table_name read_state.before })))

module _ {limit : ℕ} {reader : Reader} {at start : ℕ} {t : Token} (w : ReaderState) (n : IsNext (is Table) reader at t start) {mid : Tables} {named : Named} {middle : ℕ} (m : IsGot limit (IsNamed reader.source.now) (Stays reader mid (past reader w Table t start)) name reader start mid (past reader w Table t start) named middle) where
  pub table_refused : {e : SourceFaultOrMemory} → Refuses limit reader.source.now (the Domain · many (token TableLine)) m.following (seen_from reader middle) e → Refuses limit reader.source.now (the TableStatement) w (seen_from reader at) e
  table_refused r = refuses_the TableStatement (refuses_second (gives_exact n refl) (refuses_second m.gives r))

  there : NameThere reader start ((Table, t) ∷ w.before) m.following
  there = name_read reader start (past reader w Table t start) m.following (seen_from reader middle) refl m.gives.reads m.gives.leaves

  not_table : is Table (last_kind m.following.before) ≡ false
  not_table = ap (λ us. is Table (last_kind us)) there.before_is ∙ (named_other there.token.0 there.named).0

  named_at : table_name m.following.before ≡ next_place reader.source.now (seen_from reader start)
  named_at = ap table_name there.before_is ∙ sym there.place

  ends_is : (rest : List KindedToken) → ends_head m.following rest ≡ ends_statement (kind_of rest)
  ends_is rest = ap (λ k. is Table k && ends_statement (kind_of rest)) m.leaves.keyword

  module _ {after : ℕ} {new : Tables} {domain : Vec (Maybe Named) Global} (d : IsGot limit (IsDomain reader.source.now) (Stays reader new m.following) (the Domain) reader middle new m.following domain after) where
    domain_lineless : AllPass no_line (yield d.tree)
    domain_lineless = all_pass in_domain no_line domains_no_line (the Domain) d.tree (sound productions look_ahead d.gives.reads).0 refl

    domain_tableless : AllPass no_table (yield d.tree)
    domain_tableless = all_pass in_domain no_table domains_no_table (the Domain) d.tree (sound productions look_ahead d.gives.reads).0 refl

    at_lines : AtLines d.following [] (next_place reader.source.now (seen_from reader start))
    at_lines = record {
      run_is = ap (λ (x : ReaderState). run_of x.before) d.gives.leaves ∙ no_run reader.source.now m.following (yield d.tree) (kind_of (seen_from reader after)) domain_lineless
          (ap run_of there.before_is ∙ run_other there.token ((Table, t) ∷ w.before) (named_other there.token.0 there.named).1);
      named = ap (λ (x : ReaderState). table_name x.before) d.gives.leaves ∙ name_kept reader.source.now m.following (yield d.tree) (kind_of (seen_from reader after)) domain_tableless not_table ∙ named_at;
      following = ap (λ (x : ReaderState). is Table (last_kind x.before)) d.gives.leaves ∙ last_kept reader.source.now m.following (yield d.tree) (kind_of (seen_from reader after)) domain_tableless not_table;
    }

    abbrev statement_tree : List Token → Derivation
    statement_tree ts = node (pair (leaf (Table, t)) (pair m.tree (pair d.tree (lines_tree ts))))

    module _ {F : Type 0} (value : F → Rational) where
      -- the statement, by what its lines give
      table_got : (ts : List Token) {v : ReaderState} {next : ℕ} → Gives limit reader.source.now (many (token TableLine)) d.following (seen_from reader after) (lines_tree ts) v (seen_from reader next) → {last : Tables} → Holds reader last v → after ≤ next → (items : List (Item F)) →
          ((sense : Sense) → IsSense last sense → map (item_in value) items ≡ items_given reader.source.now sense.labels (map lined ts)) →
          IsGot limit (IsAct value reader.source.now table_act) (Holds reader last) (the TableStatement) reader at last w (act.Declare kind.Table (record { named = named; domain = domain.items; items = items } ∷ [])) next
      table_got ts {v} {next} g {last} holds ahead items shown = got_by (gives_the TableStatement (gives_both (gives_exact n refl) (gives_both m.gives (gives_both d.gives g)))) holds
          (λ sense s.
          let s2 = earlier g d.leaves.has.holds holds s in
          let s1 = earlier d.gives m.leaves.has.holds d.leaves.has.holds s2 in
          view-Declare value kind.Table (record { named = named; domain = domain.items; items = items } ∷ [])
          ∙ ap₂ (λ (a : Named × List (Maybe Named)) (b : List (Item Rational)). declares kind.Table (record { named = a.0; domain = a.1; items = b } ∷ []))
          (ap₂ (λ (a : Named) (b : List (Maybe Named)). (a, b)) (m.means sense s1) (d.means sense s2)) (shown sense s ∙ ap (items_given reader.source.now sense.labels) (sym (lines_yield ts))))
          (let a = n.further in let b = m.further in let c = d.further in let e = ahead in omega arith)

      -- none where it has no lines
      table_empty : {next : ℕ} → seen_from reader after ≡ seen_from reader next → leads productions look_ahead (token TableLine) (seen_from reader next) ≡ false → after ≤ next → {last : Tables} → last.names ≡ new.names → last.labels ≡ new.labels → (items : List (Item F)) → items ≡ [] →
          IsGot limit (IsAct value reader.source.now table_act) (Holds reader last) (the TableStatement) reader at last w (act.Declare kind.Table (record { named = named; domain = domain.items; items = items } ∷ [])) next
      table_empty {next} same unled ahead {last} names labels items none_there =
          let holds = d.leaves.has.holds in
          table_got [] (subst (λ (us : List KindedToken). Gives limit reader.source.now (many (token TableLine)) d.following us none d.following (seen_from reader next)) (sym same) (gives_no_more unled)) (record { open_count = holds.open_count; names = holds.names ∙ sym names; labels = holds.labels ∙ sym labels }) ahead items
          (λ sense s. ap (map (item_in value)) none_there)

      -- the items that its lines give
      table_full : {next : ℕ} {lines : List Line} (k : IsLines reader after lines next) (u : Token) (us : List Token) → k.seen_lines ≡ map lined (u ∷ us) → {last : Tables} → last.names ≡ new.names → (es : List (Entry F)) → IsTable limit value lines new.labels last.labels es → (items : List (Item F)) → items ≡ map item_of_entry es →
          IsGot limit (IsAct value reader.source.now table_act) (Holds reader last) (the TableStatement) reader at last w (act.Declare kind.Table (record { named = named; domain = domain.items; items = items } ∷ [])) next
      table_full {next} {lines} k u us are {last} names es tb items items_are =
          let source = reader.source.now in
          let holds = d.leaves.has.holds in
          let ls = map lined (u ∷ us) in
          let parts : table_parts lines ≡ parts_of_tokens source ls = same_parts k ∙ ap (parts_of_tokens source) are in
          let same : seen_from reader after ≡ ls ++ seen_from reader next = k.is ∙ ap (λ vs. vs ++ seen_from reader next) are in
          let g = lines_give limit source (seen_from reader next) k.none_after u us d.following [] (next_place source (seen_from reader start)) at_lines (λ fault f. fault_none parts holds.labels tb.headed tb.sound fault f) in
          let labels : g.following.labels ≡ last.labels = g.labels ∙ ap₂ (λ a b. all_entered a (entries.label_texts b)) holds.labels (sym parts) ∙ sym tb.labels_are in
          table_got (u ∷ us) (subst (λ (vs : List KindedToken). Gives limit source (many (token TableLine)) d.following vs (lines_tree (u ∷ us)) g.following (seen_from reader next)) (sym same) g.gives)
          (record { open_count = g.open_count ∙ holds.open_count; names = g.names ∙ holds.names ∙ sym names; labels = labels }) k.further items
          (λ sense s.
          ap (map (item_in value)) items_are ∙ items_only limit value last.labels sense.labels (λ text i p. s.labels text i p) (table_parts lines) es tb.entries_are
          ∙ ap (λ (ps : List TablePart). map item_of_entry (entries_in sense.labels ps)) parts)
        where
          fault_none : {ps : List TablePart} {ls : List (List ℕ)} → table_parts lines ≡ ps → ls ≡ new.labels → (table_parts lines ≡ [] → ⊥) → entries.ArePartsFaultless limit new.labels [] (table_parts lines) → (fault : SourceFault) →
              ((ps ≡ []) × (fault ≡ record { error = source_error.Table NoHeading; at = next_place reader.source.now (seen_from reader start) })) ⊎ ((found : TableFault) × IsFirstPartFault limit ls ps found × (fault ≡ record { error = error_of_table found.error; at = found.at })) → ⊥
          fault_none parts labels headed clean fault (inl f) = headed (parts ∙ f.0)
          fault_none {ps} {ls} parts labels headed clean fault (inr f) =
              let first : IsFirstPartFault limit new.labels ps f.0 = subst (λ (x : List (List ℕ)). IsFirstPartFault limit x ps f.0) labels f.1 in
              occurs_not limit new.labels [] first.before first.part first.following f.0.error (subst (λ (x : List TablePart). entries.ArePartsFaultless limit new.labels [] x) (parts ∙ first.parts_are) clean) first.occurs

  -- ---- a table that is refused, and one that is read

  module _ (new : Tables) (domain : Vec (Maybe Named) Global) {after : ℕ} (dd : DomainAnswer limit reader new m.following middle domain after) {next : ℕ} {lines : List Line} (k : IsLines reader after lines next) where
    no_seen : k.seen_lines ≡ [] → lines ≡ []
    no_seen are = no_texts reader lines (k.texts ∙ ap (map {B = ℕ × List ℕ} (λ line. (line.1.at.line, token_text reader.source.now line.1))) are)

    headed : (u : Token) (us : List Token) → k.seen_lines ≡ map lined (u ∷ us) → IsGot limit (IsDomain reader.source.now) (Stays reader new m.following) (the Domain) reader middle new m.following domain after
    headed u us are = dd.0 (ends_is (seen_from reader after) ∙ ap (λ ts. ends_statement (kind_of ts)) (k.is ∙ ap (λ vs. vs ++ seen_from reader next) are))

    refused_empty : k.seen_lines ≡ [] → {e : SourceFaultOrMemory} → ends_statement (kind_of (seen_from reader next)) ≡ true → (found : TableFaultOrMemory) → IsTableRefusal limit lines new.labels found → e ≡ fault_of_table found (next_place reader.source.now (seen_from reader start)) → Refuses limit reader.source.now (the TableStatement) w (seen_from reader at) e
    refused_empty are ends answer.Memory r is = table_refused (refuses_memory is)
    refused_empty are {e} ends (answer.Fault fault) (inl r) is =
        let same : seen_from reader after ≡ seen_from reader next = k.is ∙ ap (λ vs. vs ++ seen_from reader next) are in
        let place = next_place reader.source.now (seen_from reader start) in
        let told_is : e ≡ fault_at (source_error.Table NoHeading) place = is ∙ ap (λ (f : TableFault). table_fault_at f.error f.at place) r.1 in
        let refuses = dd.1 (ends_is (seen_from reader after) ∙ ap (λ ts. ends_statement (kind_of ts)) same ∙ ends) not_table in
        table_refused (refuses_first (subst (λ (x : SourceFaultOrMemory). Refuses limit reader.source.now (the Domain) m.following (seen_from reader middle) x) (ap (λ (p : Place). Fault (record { error = source_error.Table NoHeading; at = p })) named_at ∙ sym told_is) refuses))
    refused_empty are ends (answer.Fault fault) (inr r) is = absurd (some_there r.before r.part r.following (sym (ap table_parts (no_seen are)) ∙ r.parts_are))

    refused_full : (u : Token) (us : List Token) → k.seen_lines ≡ map lined (u ∷ us) → {e : SourceFaultOrMemory} → (found : TableFaultOrMemory) → IsTableRefusal limit lines new.labels found → e ≡ fault_of_table found (next_place reader.source.now (seen_from reader start)) → Refuses limit reader.source.now (the TableStatement) w (seen_from reader at) e
    refused_full u us are answer.Memory r is = table_refused (refuses_memory is)
    refused_full u us are {e} (answer.Fault fault) r is =
        let d = headed u us are in
        let place = next_place reader.source.now (seen_from reader start) in
        let ls = map lined (u ∷ us) in
        let parts : table_parts lines ≡ parts_of_tokens reader.source.now ls = same_parts k ∙ ap (parts_of_tokens reader.source.now) are in
        let same : seen_from reader after ≡ ls ++ seen_from reader next = k.is ∙ ap (λ vs. vs ++ seen_from reader next) are in
        let f = line_fault parts d.leaves.has.holds.labels r is in
        table_refused (refuses_second d.gives (subst (λ (vs : List KindedToken). Refuses limit reader.source.now (many (token TableLine)) d.following vs e) (sym same)
        (lines_wrong limit reader.source.now (seen_from reader next) k.none_after u us d.following [] place (at_lines d) f.0 f.1 e f.2)))
      where
        line_fault : {ps : List TablePart} {labels : List (List ℕ)} → table_parts lines ≡ ps → labels ≡ new.labels → ((table_parts lines ≡ []) × (fault ≡ record { error = error.NoHeading; at = entries.nowhere })) ⊎ IsFirstPartFault limit new.labels (table_parts lines) fault → e ≡ table_fault_at fault.error fault.at (next_place reader.source.now (seen_from reader start)) →
            (told_of : SourceFault) × (((ps ≡ []) × (told_of ≡ record { error = source_error.Table NoHeading; at = next_place reader.source.now (seen_from reader start) })) ⊎ ((found : TableFault) × IsFirstPartFault limit labels ps found × (told_of ≡ record { error = error_of_table found.error; at = found.at }))) × (e ≡ Fault told_of)
        line_fault parts labels (inl r) is =
            let place = next_place reader.source.now (seen_from reader start) in
            (record { error = source_error.Table NoHeading; at = place }, inl (sym parts ∙ r.0, refl), is ∙ ap (λ (f : TableFault). table_fault_at f.error f.at place) r.1)
        line_fault {ps} {labels} parts same (inr r) is =
            let place = next_place reader.source.now (seen_from reader start) in
            let first : IsFirstPartFault limit labels ps fault = subst (λ (x : List (List ℕ)). IsFirstPartFault limit x ps fault) (sym same) (subst (λ (x : List TablePart). IsFirstPartFault limit new.labels x fault) parts r) in
            (record { error = error_of_table fault.error; at = fault.at }, inr (fault, first, refl), is ∙ told limit new.labels fault.error fault.at place r.before r.part r.occurs)

    refused_by : (us : List Token) → k.seen_lines ≡ map lined us → {e : SourceFaultOrMemory} → IsTableRefused limit lines (ends_statement (kind_of (seen_from reader next))) new.labels (next_place reader.source.now (seen_from reader start)) e → Refuses limit reader.source.now (the TableStatement) w (seen_from reader at) e
    refused_by [] are r = refused_empty are (r.ended (no_seen are)) r.found r.refused r.told
    refused_by (u ∷ us) are r = refused_full u us are r.found r.refused r.told

    pub items_refused : {e : SourceFaultOrMemory} → IsTableRefused limit lines (ends_statement (kind_of (seen_from reader next))) new.labels (next_place reader.source.now (seen_from reader start)) e → Refuses limit reader.source.now (the TableStatement) w (seen_from reader at) e
    items_refused r = let l = lined_all k.seen_lines k.are_lines in refused_by l.tokens l.are r

    module _ {F : Type 0} (value : F → Rational) {last : Tables} (names : last.names ≡ new.names) (items : List (Item F)) (es : List (Entry F)) (items_are : items ≡ map item_of_entry es) where
      read_empty : k.seen_lines ≡ [] → ((lines ≡ []) × (ends_statement (kind_of (seen_from reader next)) ≡ false) × (es ≡ []) × (last.labels ≡ new.labels)) ⊎ IsTable limit value lines new.labels last.labels es →
          IsGot limit (IsAct value reader.source.now table_act) (Holds reader last) (the TableStatement) reader at last w (act.Declare kind.Table (record { named = named; domain = domain.items; items = items } ∷ [])) next
      read_empty are (inl e) =
          let same : seen_from reader after ≡ seen_from reader next = k.is ∙ ap (λ vs. vs ++ seen_from reader next) are in
          let d = dd.0 (ends_is (seen_from reader after) ∙ ap (λ ts. ends_statement (kind_of ts)) same ∙ e.1) in
          table_empty d value same k.none_after k.further names e.3 items (items_are ∙ ap (map item_of_entry) e.2)
      read_empty are (inr tb) = absurd (tb.headed (ap table_parts (no_seen are)))

      read_full : (u : Token) (us : List Token) → k.seen_lines ≡ map lined (u ∷ us) → ((lines ≡ []) × (ends_statement (kind_of (seen_from reader next)) ≡ false) × (es ≡ []) × (last.labels ≡ new.labels)) ⊎ IsTable limit value lines new.labels last.labels es →
          IsGot limit (IsAct value reader.source.now table_act) (Holds reader last) (the TableStatement) reader at last w (act.Declare kind.Table (record { named = named; domain = domain.items; items = items } ∷ [])) next
      read_full u us are (inl e) = absurd (some_texts reader.source.now lines u us e.0 (k.texts ∙ ap (map {B = ℕ × List ℕ} (λ line. (line.1.at.line, token_text reader.source.now line.1))) are))
      read_full u us are (inr tb) = table_full (headed u us are) value k u us are names es tb items items_are

      read_by : (us : List Token) → k.seen_lines ≡ map lined us → ((lines ≡ []) × (ends_statement (kind_of (seen_from reader next)) ≡ false) × (es ≡ []) × (last.labels ≡ new.labels)) ⊎ IsTable limit value lines new.labels last.labels es →
          IsGot limit (IsAct value reader.source.now table_act) (Holds reader last) (the TableStatement) reader at last w (act.Declare kind.Table (record { named = named; domain = domain.items; items = items } ∷ [])) next
      read_by [] are = read_empty are
      read_by (u ∷ us) are = read_full u us are

    pub table_read : {F : Type 0} (value : F → Rational) {last : Tables} → last.names ≡ new.names → {items : List (Item F)} → IsTableRead limit value lines (ends_statement (kind_of (seen_from reader next))) new.labels last.labels items →
        IsGot limit (IsAct value reader.source.now table_act) (Holds reader last) (the TableStatement) reader at last w (act.Declare kind.Table (record { named = named; domain = domain.items; items = items } ∷ [])) next
    table_read value names {items} r = let l = lined_all k.seen_lines k.are_lines in read_by value names items r.entries r.items_are l.tokens l.are r.entries_are
