-- Loops, and the statements in them.
use Rattle.std.proofs.Common.{◌≡◌, ℕ, ◌<◌, ◌≤◌, length, Result, Ok, Err, Bool, true, false, List, [], ◌∷◌, ◌++◌, map, Vec, refl, sym, ap, ap₂, ◌∙◌, subst, arith}
use Rattle.std.specs.declared.alloc.Global.{Global}
use Rattle.gq_number.specs.Number.{Number}
use Rattle.gms_ast.specs.declared.expression.Control.{Control as ControlNode}
use Rattle.gms_ast.specs.declared.program.Act.{Act as ActNode}
use Rattle.gms_ast.specs.declared.program.Act.TheVariants as act
use Rattle.gms_ast.specs.declared.program.Stmt.{Stmt, out-Stmt, roll-out-Stmt}
use Rattle.gms_ast.specs.TreeView.{control_tree}
use Rattle.gms_ast.specs.Numbers.{control_in_numbers}
use Rattle.gms_ast.specs.StatementTrees.{Act, loops, Statements, no_statement, statement}
use Rattle.gms_ast.specs.declared.program.Act.TheVariants.{rolls-Loop}
use Rattle.gms_ast.specs.declared.program.Act.TheOpen.{Act-F}
use Rattle.gms_ast.specs.declared.program.Act.TheFolds.{fold-roll-Act, fold-roll-Stmt}
use Rattle.gms_ast.specs.StatementView.{statements_in_order, act_view_step, statement_view_step, statement_view}
use Rattle.gms_lex.specs.declared.token.Token.{Token}
use Rattle.gms_grammar.specs.declared.terminal.Terminal.{Terminal}
use Rattle.gms_grammar.specs.declared.terminal.Terminal.TheVariants.{Loop, LeftParen, RightParen, Comma, Semicolon, Table, Name, Suffix, Display, Option, Solve, Abort, End}
use Rattle.gms_grammar.specs.Grammar.{the, ◌·◌, ◌∣◌, opt, leaf, pair, none, some, node}
use Rattle.gms_grammar.specs.LookAhead.{may_begin}
use Rattle.gms_grammar.specs.Reading.{stuck, Reads, leads, in_neither}
use Rattle.gms_grammar.specs.Terminals.{is, is_terminal_among}
use Rattle.gms_grammar.specs.GamsGrammar.{Control, LoopStatement, LoopBody, InnerStatement, Assignment, DisplayStatement, OptionStatement, SolveStatement, AbortStatement, productions, token, any_of}
use Rattle.gms_grammar.specs.GamsLookAhead.{look_ahead}
use Rattle.gms_expressions.specs.ExpressionTrees.{place_in}
use Rattle.gms_expressions.specs.Outcomes.{next_place}
use Rattle.gms_expressions.proofs.TokenKinds.{same_test}
use Rattle.gms_parse.specs.declared.fault.SourceFaultOrMemory.{SourceFaultOrMemory}
use Rattle.gms_parse.specs.declared.reader.Reader.{Reader}
use Rattle.gms_parse.specs.declared.reader.Tables.{Tables}
use Rattle.gms_parse.specs.Programs.{loop_act, controlled_act, loop_body, after_semicolon, inner_act, display_or_other}
use Rattle.gms_parse.specs.Statements.{assignment_act}
use Rattle.std.specs.Prelude.{IsErrAnd}
use Rattle.gms_parse.specs.ReadStates.{KindedToken, ReaderState}
use Rattle.gms_parse.specs.InnerReadings.{Derivation, GamsPart, IsReady, IsAnswer, unexpected_at, Refuses, Sense, IsSense, IsGot, Holds, Has, Starts, Stays, StaysOpen, Ends, Tableless, IsNext, IsLacking, IsOpened, seen_from, kind_of}
use Rattle.gms_parse.specs.InnerMeanings.{IsControl, IsInner, IsBody, IsAct, act_view, put_before, other_statement}
use Rattle.gms_parse.proofs.TokenKinds.{IsNone, leads_alike, leads_of_none, unled_next}
use Rattle.gms_parse.proofs.Steps.{got_by, Within, within_the, within_left, within_right, within_second, within_some, within_then, gives_one, gives_both, gives_the, gives_none, refuses_the, refuses_first, refuses_second, refuses_at}
use Rattle.gms_parse.proofs.Choices.{through, leads_at}
use Rattle.gms_parse.proofs.Ends.{after_within}
use Rattle.gms_parse.proofs.StateLemmas.{closing_sound}
use Rattle.gms_parse.proofs.Nexts.{past, exact, opened, open_starts, gives_open, refuses_inside, refuses_within, got_inside, refuses_lacking, leads_next, gives_exact, begun_has, begun_starts, quiet_holds, plain_starts, tableless_on, earlier}
use Rattle.gms_expressions.proofs.Chains.{place_read}

-- ---- statements

module _ {F : Type 0} (value : F → Number) where
  pub view-Stmt : (x : Stmt F) (others : Statements Number) → statement_view value x others ≡ statement x.at (act_view value x.act) others
  view-Stmt x others = ap (λ (y : Stmt F). statement_view value y others) (sym (roll-out-Stmt F x)) ∙ ap (λ (f : Statements Number → Statements Number). f others) (fold-roll-Stmt F (Act Number) (Statements Number → Statements Number) (act_view_step value) (statement_view_step value) (out-Stmt F x))

  pub view-Loop : (control : ControlNode F) (body : Vec (Stmt F) Global) → act_view value (act.Loop control body) ≡ loops (control_in_numbers value (control_tree control)) (statements_in_order value (map {B = Statements Number → Statements Number} (statement_view value) body.items))
  view-Loop control body = ap (act_view value) (sym (rolls-Loop control body)) ∙ fold-roll-Act F (Act Number) (Statements Number → Statements Number) (act_view_step value) (statement_view_step value) (Act-F.Loop control body)

  pub in_order_is : (xs : List (Stmt F)) → statements_in_order value (map {B = Statements Number → Statements Number} (statement_view value) xs) ≡ put_before value xs no_statement
  in_order_is [] = refl
  in_order_is (x ∷ xs) = ap (statement_view value x) (in_order_is xs)

  pub put_push : (xs : List (Stmt F)) (x : Stmt F) (others : Statements Number) → put_before value (xs ++ x ∷ []) others ≡ put_before value xs (statement_view value x others)
  put_push [] x others = refl
  put_push (y ∷ xs) x others = ap (statement_view value y) (put_push xs x others)

-- ---- the state after statements

pub ends_of : {reader : Reader} {new : Tables} {w v : ReaderState} → Stays reader new w v → Tableless w → Ends reader new v
ends_of s h = record { holds = s.has.holds; tableless = tableless_on s.keyword h }

-- after a semicolon
module _ {reader : Reader} {at following : ℕ} {t : Token} {tables : Tables} {w : ReaderState} (h : Holds reader tables w) (n : IsNext (is Semicolon) reader at t following) where
  pub semicolon_starts : Starts reader tables (past reader w Semicolon t following)
  semicolon_starts = begun_starts reader w Semicolon t following refl refl refl refl h

  pub semicolon_ends : Ends reader tables (past reader w Semicolon t following)
  semicolon_ends = record { holds = quiet_holds reader w Semicolon t following refl h; tableless = refl }

-- ---- a loop

abbrev pub loop_inside : GamsPart
loop_inside = the Control · token Comma · the LoopBody

abbrev pub IsLooped : {F : Type 0} → (F → Number) → List ℕ → Sense → Derivation → ControlNode F × Vec (Stmt F) Global → Type 0
IsLooped value source sense tree x = loops (control_in_numbers value (control_tree x.0)) (statements_in_order value (map {B = Statements Number → Statements Number} (statement_view value) x.1.items)) ≡ controlled_act source sense.names sense.labels tree

-- between the parentheses
module _ {F : Type 0} (value : F → Number) {limit : ℕ} {r : Reader} {start : ℕ} {v : ReaderState} (looping : v.keyword ≡ Loop) {between : Tables} {sets : ControlNode F} {next : ℕ}
    (c : IsGot limit (IsControl value r.source.now) (StaysOpen r between v) (the Control) r start between v sets next) {comma : Token} {first : ℕ} (m : IsNext (is Comma) r next comma first) where
  pub body_starts : Starts r between (past r c.following Comma comma first)
  body_starts = plain_starts r c.following Comma comma first refl refl c.leaves.stays.has (ap (is Option) (c.leaves.stays.keyword ∙ looping))

  pub body_tableless : Tableless (past r c.following Comma comma first)
  body_tableless = ap (is Table) (c.leaves.stays.keyword ∙ looping)

  pub body_refused : {e : SourceFaultOrMemory} → Refuses limit r.source.now (the LoopBody) (past r c.following Comma comma first) (seen_from r first) e → Refuses limit r.source.now loop_inside v (seen_from r start) e
  body_refused f = refuses_second c.gives (refuses_second (gives_exact {kind = Comma} m refl) f)

  pub looped_got : {new : Tables} {body : Vec (Stmt F) Global} {last : ℕ} → IsGot limit (IsBody value r.source.now) (Ends r new) (the LoopBody) r first new (past r c.following Comma comma first) body last → IsGot limit (IsLooped value r.source.now) (Ends r new) loop_inside r start new v (sets, body) last
  looped_got b = got_by (gives_both c.gives (gives_both (gives_exact {kind = Comma} m refl) b.gives)) b.leaves
      (λ sense s. ap₂ loops (c.means sense (earlier (gives_both (gives_exact {kind = Comma} m refl) b.gives) c.leaves.stays.has.holds b.leaves.holds s)) (b.means sense s)) (let e = c.further in let f = m.further in let g = b.further in omega arith)

module _ {reader : Reader} {at opening : ℕ} {word : Token} {old : Tables} {w : ReaderState} (h : Holds reader old w) (n : IsNext (is Loop) reader at word opening) where
  -- after the keyword
  pub loop_has : Has reader old (past reader w Loop word opening)
  loop_has = begun_has reader w Loop word opening refl refl h

  module _ {inner : Reader} {start : ℕ} (o : IsOpened reader opening inner start) where
    -- after the parenthesis
    pub control_starts : Starts inner old (opened (past reader w Loop word opening) o)
    control_starts = open_starts o loop_has refl

    pub loop_refused : {limit : ℕ} {e : SourceFaultOrMemory} → Refuses limit inner.source.now loop_inside (opened (past reader w Loop word opening) o) (seen_from inner start) e → Refuses limit reader.source.now (the LoopStatement) w (seen_from reader at) e
    loop_refused r = refuses_the LoopStatement (refuses_second (gives_exact {kind = Loop} n refl) (refuses_inside o loop_has (refuses_within start o r)))

    module _ {F : Type 0} (value : F → Number) {limit : ℕ} {new : Tables} {x : ControlNode F × Vec (Stmt F) Global} {last : ℕ}
        (i : IsGot limit (IsLooped value inner.source.now) (Ends inner new) loop_inside inner start new (opened (past reader w Loop word opening) o) x last) where
      closed : IsGot limit (IsLooped value reader.source.now) (Ends inner new) loop_inside reader start new (opened (past reader w Loop word opening) o) x last
      closed = got_inside (λ r. IsLooped value r.source.now) o i

      pub loop_unclosed : {e : SourceFaultOrMemory} → IsLacking (is RightParen) reader last e → Refuses limit reader.source.now (the LoopStatement) w (seen_from reader at) e
      loop_unclosed l = refuses_the LoopStatement (refuses_second (gives_exact {kind = Loop} n refl) (refuses_second (gives_open o loop_has) (refuses_second closed.gives (refuses_lacking l))))

      pub loop_got : {close : Token} {following : ℕ} → IsNext (is RightParen) reader last close following → IsGot limit (IsAct value reader.source.now loop_act) (Ends reader new) (the LoopStatement) reader at new w (act.Loop x.0 x.1) following
      loop_got {close} {following} r = got_by (gives_the LoopStatement (gives_both (gives_exact {kind = Loop} n refl) (gives_both (gives_open o loop_has) (gives_both closed.gives (gives_one (exact {kind = RightParen} r) refl (closing_sound limit reader.source.now closed.following close (kind_of (seen_from reader following)) (λ k f. let y : is Table closed.following.keyword ≡ true = ap (is Table) k in let z = closed.leaves.tableless in cc)) refl)))))
          (record {
            holds = record { open_count = (let x = closed.leaves.holds.open_count ∙ ap (λ (y : Reader). y.unclosed) o.inner_is in omega (arith, x)); names = closed.leaves.holds.names; labels = closed.leaves.holds.labels };
            tableless = closed.leaves.tableless;
          })
          (λ sense s. view-Loop value x.0 x.1 ∙ closed.means sense s) (let a = n.further in let d = o.next.further in let g = closed.further in let i = r.further in omega arith)

-- ---- a statement of a loop

-- inside the parenthesis tokens are left
pub inner_within : {reader inner : Reader} {at start : ℕ} → IsReady reader → IsOpened reader at inner start → start < length inner.tokens.now
inner_within {start = start} ready o = subst (λ (r : Reader). start < length r.tokens.now) (sym o.inner_is) (after_within LeftParen ready o.next refl)

pub leads_assignment : (ts : List KindedToken) → leads productions look_ahead (the Assignment) ts ≡ leads productions look_ahead (any_of (Name ∷ Suffix ∷ [])) ts
leads_assignment ts = leads_alike (the Assignment) (any_of (Name ∷ Suffix ∷ [])) ts refl refl (same_test (may_begin look_ahead (the Assignment)) (is_terminal_among (Name ∷ Suffix ∷ [])) refl)

module _ {F : Type 0} (value : F → Number) where
  pub inner_got : {limit : ℕ} {reader : Reader} {at : ℕ} {new : Tables} {w : ReaderState} {act : ActNode F} {next : ℕ} → IsGot limit (IsAct value reader.source.now inner_act) (Ends reader new) (the InnerStatement) reader at new w act next →
      (x : Stmt F) → x.at ≡ next_place reader.source.now (seen_from reader at) → act_view value x.act ≡ act_view value act → IsGot limit (IsInner value reader.source.now) (Ends reader new) (the InnerStatement) reader at new w x next
  inner_got got x placed same = got_by got.gives got.leaves (λ sense s. (placed ∙ sym (place_read (the InnerStatement) refl got.gives), same ∙ got.means sense s)) got.further

  pub inner_assigned : (limit : ℕ) (reader : Reader) (at : ℕ) (new : Tables) (w : ReaderState) (result : Result (ActNode F × ℕ) SourceFaultOrMemory) → leads productions look_ahead (any_of (Name ∷ Suffix ∷ [])) (seen_from reader at) ≡ true → Tableless w →
      IsAnswer limit (IsAct value reader.source.now assignment_act) (Stays reader new w) (the Assignment) reader at new w result → IsAnswer limit (IsAct value reader.source.now inner_act) (Ends reader new) (the InnerStatement) reader at new w result
  inner_assigned limit reader at new w (Ok b) led other got = got_by ((within_then (within_the InnerStatement) (within_left (leads_assignment (seen_from reader at) ∙ led))).gives _ _ _ got.gives) (ends_of got.leaves other)
      (λ sense s. got.means sense s) got.further
  inner_assigned limit reader at new w (Err e) led other r = (within_then (within_the InnerStatement) (within_left (leads_assignment (seen_from reader at) ∙ led))).refuses e r

  pub inner_other : (limit : ℕ) (reader : Reader) (at : ℕ) (new : Tables) (w : ReaderState) (result : Result (ActNode F × ℕ) SourceFaultOrMemory) → leads productions look_ahead (any_of (Name ∷ Suffix ∷ [])) (seen_from reader at) ≡ false →
      IsAnswer limit (IsAct value reader.source.now display_or_other) (Ends reader new) other_statement reader at new w result → (leads productions look_ahead other_statement (seen_from reader at) ≡ false → IsErrAnd result (λ e. e ≡ unexpected_at reader at)) →
      IsAnswer limit (IsAct value reader.source.now inner_act) (Ends reader new) (the InnerStatement) reader at new w result
  inner_other limit reader at new w result unled answer not_led = by (leads productions look_ahead other_statement (seen_from reader at)) refl result answer not_led
    where
      not_assigned : leads productions look_ahead (the Assignment) (seen_from reader at) ≡ false
      not_assigned = leads_assignment (seen_from reader at) ∙ unled

      by : (b : Bool) → b ≡ leads productions look_ahead other_statement (seen_from reader at) → (result : Result (ActNode F × ℕ) SourceFaultOrMemory) → IsAnswer limit (IsAct value reader.source.now display_or_other) (Ends reader new) other_statement reader at new w result → (leads productions look_ahead other_statement (seen_from reader at) ≡ false → IsErrAnd result (λ e. e ≡ unexpected_at reader at)) →
          IsAnswer limit (IsAct value reader.source.now inner_act) (Ends reader new) (the InnerStatement) reader at new w result
      by true is_led result answer k = through _ _ reader at new w result (within_then (within_the InnerStatement) (within_right not_assigned (sym is_led))) answer (λ v l. l) (λ sense tree x m. m)
      by false is_led (Ok b) answer k = absurd (k (sym is_led))
      by false is_led (Err e) answer k = refuses_the InnerStatement (refuses_at (in_neither not_assigned (sym is_led)) (k (sym is_led)))

-- ---- the body of a loop

-- the statements of a body read so far
pub record Bodying {F : Type 0} (limit : ℕ) (value : F → Number) (reader : Reader) (start : ℕ) (w : ReaderState) (new : Tables) (xs : List (Stmt F)) (at : ℕ) : Type 0 where
  pub context : Derivation → Derivation
  pub following : ReaderState
  pub within : Within limit reader.source.now (the LoopBody) w (seen_from reader start) (opt (token Semicolon · opt (the LoopBody))) following (seen_from reader at) context
  pub ends : Ends reader new following
  pub means : (sense : Sense) → IsSense new sense → (b : Derivation) → loop_body reader.source.now sense.names sense.labels (context b) ≡ put_before value xs (after_semicolon reader.source.now sense.names sense.labels b)
  pub further : start ≤ at

abbrev pub inner_kinds : List Terminal
inner_kinds = Name ∷ Suffix ∷ Display ∷ Option ∷ Solve ∷ Abort ∷ Loop ∷ []

pub leads_body : (ts : List KindedToken) → leads productions look_ahead (the LoopBody) ts ≡ leads productions look_ahead (any_of inner_kinds) ts
leads_body ts = leads_alike (the LoopBody) (any_of inner_kinds) ts refl refl (same_test (may_begin look_ahead (the LoopBody)) (is_terminal_among inner_kinds) refl)

module _ {F : Type 0} (value : F → Number) where
  inner_view : (source : List ℕ) (sense : Sense) (tree : Derivation) (x : Stmt F) (others : Statements Number) → IsInner value source sense tree x → statement (place_in tree) (inner_act source sense.names sense.labels tree) others ≡ statement_view value x others
  inner_view source sense tree x others h = ap₂ (λ p a. statement p a others) (sym h.0) (sym h.1) ∙ sym (view-Stmt value x others)

module _ {F : Type 0} (value : F → Number) {limit : ℕ} {reader : Reader} {start : ℕ} {w : ReaderState} where
  pub body_start : {new : Tables} {x : Stmt F} {at : ℕ} → IsGot limit (IsInner value reader.source.now) (Ends reader new) (the InnerStatement) reader start new w x at → (xs : List (Stmt F)) → xs ≡ x ∷ [] → Bodying limit value reader start w new xs at
  body_start {x = x} got xs one_more = record {
    context = λ b. node (pair got.tree b);
    following = got.following;
    within = within_then (within_the LoopBody) (within_second got.gives);
    ends = got.leaves;
    means = λ sense s b. inner_view value reader.source.now sense got.tree x (after_semicolon reader.source.now sense.names sense.labels b) (got.means sense s) ∙ ap (λ ys. put_before value ys (after_semicolon reader.source.now sense.names sense.labels b)) (sym one_more);
    further = got.further;
  }

  module _ {new : Tables} {xs : List (Stmt F)} {at : ℕ} (l : Bodying limit value reader start w new xs at) where
    module _ {t : Token} {following : ℕ} (n : IsNext (is Semicolon) reader at t following) where
      semicolon_within : Within limit reader.source.now (the LoopBody) w (seen_from reader start) (opt (the LoopBody)) (past reader l.following Semicolon t following) (seen_from reader following) (λ b. l.context (some (pair (leaf (Semicolon, t)) b)))
      semicolon_within = within_then l.within (within_then (within_some (leads_next (opt (the LoopBody)) n)) (within_second (gives_exact {kind = Semicolon} n refl)))

      -- the semicolon after the last statement
      pub body_ended : leads productions look_ahead (any_of inner_kinds) (seen_from reader following) ≡ false → (all : Vec (Stmt F) Global) → all.items ≡ xs → IsGot limit (IsBody value reader.source.now) (Ends reader new) (the LoopBody) reader start new w all following
      body_ended unled all same = got_by (semicolon_within.gives none _ _ (gives_none (leads_body (seen_from reader following) ∙ unled))) (semicolon_ends l.ends.holds n)
          (λ sense s. ap (λ (ys : List (Stmt F)). statements_in_order value (map {B = Statements Number → Statements Number} (statement_view value) ys)) same ∙ in_order_is value xs ∙ sym (l.means sense s (some (pair (leaf (Semicolon, t)) none))))
          (let a = l.further in let b = n.further in omega arith)

      module _ (led : leads productions look_ahead (any_of inner_kinds) (seen_from reader following) ≡ true) where
        pub body_on : {newer : Tables} {x : Stmt F} {after : ℕ} → IsGot limit (IsInner value reader.source.now) (Ends reader newer) (the InnerStatement) reader following newer (past reader l.following Semicolon t following) x after → (now : List (Stmt F)) → now ≡ xs ++ x ∷ [] → Bodying limit value reader start w newer now after
        body_on {newer} {x} got now one_more = record {
          context = λ b. l.context (some (pair (leaf (Semicolon, t)) (some (node (pair got.tree b)))));
          following = got.following;
          within = within_then semicolon_within (within_then (within_some (leads_body (seen_from reader following) ∙ led)) (within_then (within_the LoopBody) (within_second got.gives)));
          ends = got.leaves;
          means = λ sense s b.
              let rest = after_semicolon reader.source.now sense.names sense.labels b in
              l.means sense (earlier got.gives (semicolon_ends l.ends.holds n).holds got.leaves.holds s) (some (pair (leaf (Semicolon, t)) (some (node (pair got.tree b)))))
              ∙ ap (put_before value xs) (inner_view value reader.source.now sense got.tree x rest (got.means sense s)) ∙ sym (put_push value xs x rest) ∙ ap (λ ys. put_before value ys rest) (sym one_more);
          further = (let a = l.further in let b = n.further in let c = got.further in omega arith);
        }

        pub body_refuses : {e : SourceFaultOrMemory} → Refuses limit reader.source.now (the InnerStatement) (past reader l.following Semicolon t following) (seen_from reader following) e → Refuses limit reader.source.now (the LoopBody) w (seen_from reader start) e
        body_refuses r = semicolon_within.refuses _ ((within_some (leads_body (seen_from reader following) ∙ led)).refuses _ (refuses_the LoopBody (refuses_first r)))

    -- no semicolon
    pub body_got : leads productions look_ahead (token Semicolon) (seen_from reader at) ≡ false → (all : Vec (Stmt F) Global) → all.items ≡ xs → IsGot limit (IsBody value reader.source.now) (Ends reader new) (the LoopBody) reader start new w all at
    body_got unled all same = got_by (l.within.gives none _ _ (gives_none (unled_next (is Semicolon) (opt (the LoopBody)) (seen_from reader at) unled))) l.ends
        (λ sense s. ap (λ (ys : List (Stmt F)). statements_in_order value (map {B = Statements Number → Statements Number} (statement_view value) ys)) same ∙ in_order_is value xs ∙ sym (l.means sense s none)) l.further

-- ---- no statement of a loop

pub none_stuck : (ts : List KindedToken) {k : Terminal} → k ≡ kind_of ts → IsNone (Display ∷ Option ∷ Solve ∷ Abort ∷ Loop ∷ []) k → Reads productions look_ahead other_statement ts (stuck [] ts)
none_stuck ts seen d = in_neither (leads_of_none (the DisplayStatement) ts (Display ∷ Option ∷ Solve ∷ Abort ∷ Loop ∷ []) refl refl seen d) (leads_of_none (the OptionStatement ∣ the SolveStatement ∣ the AbortStatement ∣ the LoopStatement) ts (Display ∷ Option ∷ Solve ∷ Abort ∷ Loop ∷ []) refl refl seen d)

-- such a kind leads into one
pub unled_other : (kind : Terminal) (ts : List KindedToken) → kind_of ts ≡ kind → is End kind ≡ false → may_begin look_ahead other_statement kind ≡ true → leads productions look_ahead other_statement ts ≡ false → ⊥
unled_other kind ts e other may unled =
    let led : leads productions look_ahead other_statement ts ≡ true = leads_at other_statement kind ts e other ∙ may in
    cc
