-- The statements between two semicolons: perhaps one that begins with a name, and those that begin
-- with keywords.
use Rattle.std.proofs.Common.{◌≡◌, ℕ, ◌-◌, ◌<◌, ◌≤◌, true, false, List, [], ◌∷◌, ◌++◌, length, Vec, refl, sym, ap, ap₂, ◌∙◌, arith, append_assoc}
use Rattle.std.specs.declared.alloc.Global.{Global}
use Rattle.std.proofs.lemmas.List.{append-nil, length-append}
use Rattle.gq_number.specs.Number.{Number}
use Rattle.gms_ast.specs.declared.program.Act.{Act as ActNode}
use Rattle.gms_ast.specs.declared.program.Stmt.{Stmt}
use Rattle.gms_ast.specs.StatementTrees.{Act, Statements, statement}
use Rattle.gms_labels.specs.declared.place.Place.{Place}
use Rattle.gms_ast.specs.StatementView.{statement_view}
use Rattle.gms_grammar.specs.declared.terminal.Terminal.{Terminal}
use Rattle.gms_grammar.specs.declared.terminal.Terminal.TheVariants.{Abort, Alias, Display, Equation, Loop, Model, Option, Parameter, Scalar, Set, Solve, Table, Variable, VariableType, Name, Suffix}
use Rattle.gms_grammar.specs.Grammar.{the, opt, many, pair, none, more, node, yield}
use Rattle.gms_grammar.specs.LookAhead.{may_begin, may_be_empty}
use Rattle.gms_grammar.specs.Reading.{leads}
use Rattle.gms_grammar.specs.Terminals.{is_terminal_among}
use Rattle.gms_grammar.specs.GamsGrammar.{NamedStatement, KeywordStatement, Segment, productions, any_of}
use Rattle.gms_grammar.specs.GamsLookAhead.{look_ahead}
use Rattle.gms_grammar.proofs.Decided.{gams_decided}
use Rattle.gms_grammar.proofs.Sound.{sound}
use Rattle.gms_grammar.proofs.Starts.{Starts as StartsAs, starts}
use Rattle.gms_expressions.specs.Outcomes.{next_place}
use Rattle.gms_expressions.proofs.TokenKinds.{also, same_test}
use Rattle.gms_parse.specs.declared.fault.SourceFaultOrMemory.{SourceFaultOrMemory}
use Rattle.gms_parse.specs.declared.reader.Reader.{Reader}
use Rattle.gms_parse.specs.declared.reader.Tables.{Tables}
use Rattle.gms_parse.specs.Programs.{keyword_act, keyword_statements, segment}
use Rattle.gms_parse.specs.Statements.{named_act}
use Rattle.gms_parse.specs.ReadStates.{KindedToken, ReaderState, is_keyword}
use Rattle.gms_parse.specs.InnerReadings.{Derivation, GamsPart, Gives, Refuses, Sense, IsSense, IsGot, Holds, Starts, Stays, kind_of, seen_from}
use Rattle.gms_parse.specs.InnerMeanings.{IsAct, IsNamedFirst, IsSegment, act_view, put_before}
use Rattle.gms_parse.proofs.TokenKinds.{leads_alike}
use Rattle.gms_parse.proofs.Steps.{got_by, Within, within_the, within_second, within_again, within_then, gives_none, gives_some, gives_no_more, refuses_some, refuses_again}
use Rattle.gms_parse.proofs.Nexts.{earlier}
use Rattle.gms_parse.proofs.Ends.{length_seen}
use Rattle.gms_expressions.proofs.Chains.{place_read}
use Rattle.gms_parse.proofs.Looped.{view-Stmt, in_order_is}

-- ---- statements in order

module _ {F : Type 0} (value : F → Number) where
  pub put_append : (xs ys : List (Stmt F)) (others : Statements Number) → put_before value (xs ++ ys) others ≡ put_before value xs (put_before value ys others)
  put_append [] ys others = refl
  put_append (x ∷ xs) ys others = ap (statement_view value x) (put_append xs ys others)

  -- a statement at its place, which does what its derivation means
  pub stated : (x : Stmt F) {at : Place} {act : Act Number} (others : Statements Number) → x.at ≡ at → act_view value x.act ≡ act → statement_view value x others ≡ statement at act others
  stated x others placed does = view-Stmt value x others ∙ ap₂ (λ p a. statement p a others) placed does

-- ---- what was read of a part that is not empty

some_read : {limit : ℕ} {source : List ℕ} (p : GamsPart) {w v : ReaderState} {ts rest : List KindedToken} {tree : Derivation} → may_be_empty look_ahead p ≡ false → Gives limit source p w ts tree v rest → length rest < length ts
some_read p {ts = ts} {rest = rest} {tree = tree} full g =
    let found = sound productions look_ahead g.reads in
    go (yield tree) (starts productions look_ahead gams_decided p tree found.0) found.1
  where
    go : (u : List KindedToken) → StartsAs productions look_ahead gams_decided p u → ts ≡ u ++ rest → length rest < length ts
    go [] s e = cc
    go (t ∷ u) s e = let l = ap length e in let m = length-append u rest in omega (arith, l, m)

-- fewer tokens remain after it
pub fewer : {T : Type 0} {limit : ℕ} {Means : Sense → Derivation → T → Type 0} {Leaves : ReaderState → Type 0} (p : GamsPart) {reader : Reader} {at next : ℕ} {new : Tables} {w : ReaderState} {x : T} → may_be_empty look_ahead p ≡ false → IsGot limit Means Leaves p reader at new w x next → length reader.tokens.now - next < length reader.tokens.now - at
fewer p {reader = reader} {at = at} {next = next} full got =
    let l = some_read p full got.gives in
    let a = length_seen reader at in
    let b = length_seen reader next in
    omega (arith, l, a, b)

-- ---- a statement that begins with a name

pub leads_named : (ts : List KindedToken) → leads productions look_ahead (the NamedStatement) ts ≡ leads productions look_ahead (any_of (Name ∷ Suffix ∷ [])) ts
leads_named ts = leads_alike (the NamedStatement) (any_of (Name ∷ Suffix ∷ [])) ts refl refl (same_test (may_begin look_ahead (the NamedStatement)) (is_terminal_among (Name ∷ Suffix ∷ [])) refl)

pub named_refused : {limit : ℕ} {source : List ℕ} {w : ReaderState} {e : SourceFaultOrMemory} (ts : List KindedToken) → leads productions look_ahead (any_of (Name ∷ Suffix ∷ [])) ts ≡ true → Refuses limit source (the NamedStatement) w ts e → Refuses limit source (opt (the NamedStatement)) w ts e
named_refused ts led r = refuses_some (leads_named ts ∙ led) r

module _ {F : Type 0} (value : F → Number) {limit : ℕ} {reader : Reader} {at : ℕ} {w : ReaderState} where
  pub named_none : {tables : Tables} → Starts reader tables w → leads productions look_ahead (any_of (Name ∷ Suffix ∷ [])) (seen_from reader at) ≡ false → (statements : Vec (Stmt F) Global) →
      IsGot limit (IsNamedFirst value reader.source.now statements) (Holds reader tables) (opt (the NamedStatement)) reader at tables w statements at
  named_none s unled statements = got_by (gives_none (leads_named (seen_from reader at) ∙ unled)) s.has.holds (λ sense k. ([], sym (append-nil statements.items), λ others. refl)) (omega arith)

  pub named_got : leads productions look_ahead (any_of (Name ∷ Suffix ∷ [])) (seen_from reader at) ≡ true → {new : Tables} {act : ActNode F} {next : ℕ} →
      IsGot limit (IsAct value reader.source.now named_act) (Stays reader new w) (the NamedStatement) reader at new w act next → (x : Stmt F) → x.at ≡ next_place reader.source.now (seen_from reader at) → act_view value x.act ≡ act_view value act →
      (old now : Vec (Stmt F) Global) → now.items ≡ old.items ++ x ∷ [] → IsGot limit (IsNamedFirst value reader.source.now old) (Holds reader new) (opt (the NamedStatement)) reader at new w now next
  named_got led got x placed same old now one_more = got_by (gives_some (leads_named (seen_from reader at) ∙ led) got.gives) got.leaves.has.holds
      (λ sense s. (x ∷ [], one_more, λ others. stated value x others (placed ∙ sym (place_read (the NamedStatement) refl got.gives)) (same ∙ got.means sense s))) got.further

-- ---- statements that begin with keywords

abbrev pub keyword_kinds : List Terminal
keyword_kinds = Set ∷ Parameter ∷ Scalar ∷ Table ∷ VariableType ∷ Variable ∷ Equation ∷ Model ∷ Alias ∷ Display ∷ Option ∷ Solve ∷ Abort ∷ Loop ∷ []

pub leads_keyword : (ts : List KindedToken) → leads productions look_ahead (the KeywordStatement) ts ≡ leads productions look_ahead (any_of keyword_kinds) ts
leads_keyword ts = leads_alike (the KeywordStatement) (any_of keyword_kinds) ts refl refl (same_test (may_begin look_ahead (the KeywordStatement)) (is_terminal_among keyword_kinds) refl)

-- the next token is a keyword
pub led_keyword : (ts : List KindedToken) → leads productions look_ahead (any_of keyword_kinds) ts ≡ true → is_keyword (kind_of ts) ≡ true
led_keyword [] h = cc
led_keyword (t ∷ ts) h = also (is_terminal_among keyword_kinds) is_keyword refl t.0 h

-- what the statements so far mean, which were added to those before
abbrev SegmentMeans : {F : Type 0} → (F → Number) → List ℕ → (Derivation → Derivation) → List (Stmt F) → List (Stmt F) → Sense → Type 0
SegmentMeans {F} value source context old xs sense =
    (added : List (Stmt F)) × (xs ≡ old ++ added) × ((b : Derivation) → segment source sense.names sense.labels (context b) ≡ put_before value added (keyword_statements source sense.names sense.labels b))

-- the statements of a segment read so far
pub record Segmenting {F : Type 0} (limit : ℕ) (value : F → Number) (reader : Reader) (start : ℕ) (w : ReaderState) (old : List (Stmt F)) (new : Tables) (xs : List (Stmt F)) (at : ℕ) : Type 0 where
  pub context : Derivation → Derivation
  pub following : ReaderState
  pub within : Within limit reader.source.now (the Segment) w (seen_from reader start) (many (the KeywordStatement)) following (seen_from reader at) context
  pub holds : Holds reader new following
  pub means : (sense : Sense) → IsSense new sense → SegmentMeans value reader.source.now context old xs sense
  pub further : start ≤ at

module _ {F : Type 0} (value : F → Number) {limit : ℕ} {reader : Reader} {start : ℕ} {w : ReaderState} where
  pub segment_start : {new : Tables} (old : Vec (Stmt F) Global) {now : Vec (Stmt F) Global} {at : ℕ} → IsGot limit (IsNamedFirst value reader.source.now old) (Holds reader new) (opt (the NamedStatement)) reader start new w now at → Segmenting limit value reader start w old.items new now.items at
  segment_start old got = record {
    context = λ b. node (pair got.tree b);
    following = got.following;
    within = within_then (within_the Segment) (within_second got.gives);
    holds = got.leaves;
    means = λ sense s. let m = got.means sense s in (m.0, m.1, λ b. sym (m.2 (keyword_statements reader.source.now sense.names sense.labels b)));
    further = got.further;
  }

  module _ {old : List (Stmt F)} {new : Tables} {xs : List (Stmt F)} {at : ℕ} (l : Segmenting limit value reader start w old new xs at) where
    module _ (led : leads productions look_ahead (any_of keyword_kinds) (seen_from reader at) ≡ true) where
      led_statement : leads productions look_ahead (the KeywordStatement) (seen_from reader at) ≡ true
      led_statement = leads_keyword (seen_from reader at) ∙ led

      pub segment_refuses : {e : SourceFaultOrMemory} → Refuses limit reader.source.now (the KeywordStatement) l.following (seen_from reader at) e → Refuses limit reader.source.now (the Segment) w (seen_from reader start) e
      segment_refuses r = l.within.refuses _ (refuses_again led_statement r)

      -- one more
      pub segment_on : {newer : Tables} {act : ActNode F} {after : ℕ} → IsGot limit (IsAct value reader.source.now keyword_act) (Holds reader newer) (the KeywordStatement) reader at newer l.following act after →
          (x : Stmt F) → x.at ≡ next_place reader.source.now (seen_from reader at) → act_view value x.act ≡ act_view value act → (now : List (Stmt F)) → now ≡ xs ++ x ∷ [] → Segmenting limit value reader start w old newer now after
      segment_on got x placed same now one_more = record {
        context = λ b. l.context (more got.tree b);
        following = got.following;
        within = within_then l.within (within_again led_statement got.gives);
        holds = got.leaves;
        means = λ sense s.
            let m = l.means sense (earlier got.gives l.holds got.leaves s) in (
              m.0 ++ x ∷ [],
              one_more ∙ ap (λ ys. ys ++ x ∷ []) m.1 ∙ append_assoc old m.0 (x ∷ []),
              λ b.
                  let rest = keyword_statements reader.source.now sense.names sense.labels b in
                  m.2 (more got.tree b)
                  ∙ ap (put_before value m.0) (sym (stated value x rest (placed ∙ sym (place_read (the KeywordStatement) refl got.gives)) (same ∙ got.means sense s)))
                  ∙ sym (put_append value m.0 (x ∷ []) rest),
            );
        further = (let a = l.further in let b = got.further in omega arith);
      }

    -- no more
    pub segment_got : leads productions look_ahead (any_of keyword_kinds) (seen_from reader at) ≡ false → (before all : Vec (Stmt F) Global) → before.items ≡ old → all.items ≡ xs →
        IsGot limit (IsSegment value reader.source.now before) (Holds reader new) (the Segment) reader start new w all at
    segment_got unled before all was same = got_by (l.within.gives none _ _ (gives_no_more (leads_keyword (seen_from reader at) ∙ unled))) l.holds
        (λ sense s. let m = l.means sense s in (m.0, same ∙ m.1 ∙ ap (λ ys. ys ++ m.0) (sym was), in_order_is value m.0 ∙ sym (m.2 none))) l.further
