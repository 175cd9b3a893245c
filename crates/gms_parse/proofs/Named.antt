-- Statements that begin with a name: assignments and definitions.
use Rattle.std.proofs.Common.{◌≡◌, inl, inr, ℕ, Bool, true, false, List, [], ◌∷◌, ◌++◌, Option as Maybe, option_map, refl, sym, ap, ap₂, ◌∙◌, arith}
use Rattle.gq_number.specs.Number.{Number}
use Rattle.gms_ast.specs.declared.expression.Expr.{Expr}
use Rattle.gms_ast.specs.declared.program.Target.{Target as TargetNode}
use Rattle.gms_ast.specs.declared.program.Act.{Act as ActNode}
use Rattle.gms_ast.specs.StatementTrees.{defines, Target as TargetTree}
use Rattle.gms_ast.specs.StatementView.{shown_tree, shown_target}
use Rattle.gms_lex.specs.declared.token.Token.{Token}
use Rattle.gms_grammar.specs.declared.terminal.Terminal.{Terminal}
use Rattle.gms_grammar.specs.declared.terminal.Terminal.TheVariants.{Equals, DotDot}
use Rattle.gms_grammar.specs.Grammar.{one, the, ◌·◌, ◌∣◌, opt, leaf, pair, node, yield}
use Rattle.gms_grammar.specs.Alternatives.{head_assigned, head_defined}
use Rattle.gms_grammar.specs.Reading.{read, stuck, leads, Reads, taken, refused, both, first_stuck, second_stuck, in_left_stuck, in_neither, takes_left}
use Rattle.gms_grammar.specs.Terminals.{is}
use Rattle.gms_grammar.specs.GamsGrammar.{Expression, Condition, Target, NamedStatement, AfterHead, AfterTarget, Sides, productions, token}
use Rattle.gms_grammar.specs.GamsLookAhead.{look_ahead}
use Rattle.gms_grammar.proofs.Basics.{both_ways}
use Rattle.gms_expressions.specs.ExpressionTrees.{second_in}
use Rattle.gms_parse.specs.declared.fault.SourceFaultOrMemory.{SourceFaultOrMemory}
use Rattle.gms_parse.specs.declared.reader.Reader.{Reader}
use Rattle.gms_parse.specs.declared.reader.Tables.{Tables}
use Rattle.gms_parse.specs.Statements.{named_act, target_in, condition_in, assigned, sides_in}
use Rattle.gms_parse.specs.ReadStates.{KindedToken, ReaderState}
use Rattle.gms_parse.specs.InnerReadings.{Derivation, GamsPart, Gives, Refuses, Sense, IsSense, IsGot, Starts, Stays, StaysOpen, Tableless, IsNext, seen_from}
use Rattle.gms_parse.specs.InnerMeanings.{IsTarget, IsCondition, IsAssigned, IsDefined, IsAct, is_plain_target}
use Rattle.gms_parse.proofs.TokenKinds.{unled_next, led_first}
use Rattle.gms_parse.proofs.Steps.{got_by, Within, gives_as, gives_both, gives_the, gives_left, gives_right, refuses_the, refuses_first, refuses_second, refuses_right, by_cause, stuck_as, wrong_as, stuck_after, wrong_after}
use Rattle.gms_parse.proofs.Nexts.{past, exact, gives_exact, leads_next, plain_starts, kind_stays, stays_then, earlier, optionless_on, tableless_on}
use Rattle.gms_parse.proofs.Heads.{Leading, target_stuck, target_taken, target_goes}

module _ {limit : ℕ} {source : List ℕ} where
  -- what is refused as a target is refused as a statement that begins with one
  pub target_refused : {w : ReaderState} {ts : List KindedToken} {e : SourceFaultOrMemory} → Refuses limit source (the Target) w ts e → Refuses limit source (the NamedStatement) w ts e
  target_refused r = by_cause r (λ fault s. stuck_as s (target_stuck s.reads)) (λ fault s. wrong_as s (target_taken s.takes))

  module _ {p inner : GamsPart} {w v : ReaderState} {ts rest : List KindedToken} {tree : Derivation} {c : Derivation → Derivation} (g : Gives limit source (the Target) w ts tree v rest) (l : Leading p ts (yield tree) inner rest c) where
    -- another part is read after the tokens of a target
    pub within_of : Within limit source p w ts inner v rest c
    within_of = record {
      gives = λ a x following h. gives_as (gives_both g h) (l.reads a following h.reads) (sym (l.yields a));
      refuses = λ e r. by_cause r
          (λ fault s. stuck_after g s (l.sticks s.prefix s.rest s.reads))
          (λ fault s. wrong_after g s (l.takes (s.before ++ s.token ∷ []) s.following s.takes));
    }

-- ---- `=` or `..`

led_pair : {test : Terminal → Bool} {q : GamsPart} {ts rest : List KindedToken} {tree : Derivation} → Reads productions look_ahead (one test · q) ts (read tree rest) → leads productions look_ahead (one test · q) ts ≡ true
led_pair {test} {q} {ts} (both (taken h) r) = led_first test q ts h

stuck_pair : {test : Terminal → Bool} {q r : GamsPart} {ts prefix rest : List KindedToken} → leads productions look_ahead r ts ≡ false → Reads productions look_ahead (one test · q) ts (stuck prefix rest) → Reads productions look_ahead (one test · q ∣ r) ts (stuck prefix rest)
stuck_pair {test} {q} {ts = ts} k (first_stuck (refused h)) = in_neither (unled_next test q ts h) k
stuck_pair {test} {q} {ts = ts} k (second_stuck (taken h) s) = in_left_stuck (led_first test q ts h) (second_stuck (taken h) s)

-- ---- statements

-- the tables so far
abbrev pub so_far : Tables → Sense
so_far tables = record { names = tables.names; labels = tables.labels }

pub is_so_far : (tables : Tables) → IsSense tables (so_far tables)
is_so_far tables = record { names = λ text n h. h; labels = λ text n h. h }

module _ {F : Type 0} (value : F → Number) {limit : ℕ} {reader : Reader} {at middle : ℕ} {first : Tables} {w : ReaderState} {target : TargetNode F} (t : IsGot limit (IsTarget value reader.source.now) (StaysOpen reader first w) (the Target) reader at first w target middle) where
  -- a target that is plain, or is none
  plain_as : (b : Bool) → ((source : List ℕ) (s : Sense) → is_plain_target (target_in source s.names s.labels t.tree) ≡ b) → is_plain_target (shown_target value target) ≡ b
  plain_as b h = ap is_plain_target (t.means (so_far first) (is_so_far first)) ∙ h reader.source.now (so_far first)

  pub condition_refused : {e : SourceFaultOrMemory} → Refuses limit reader.source.now (opt (the Condition)) t.following (seen_from reader middle) e → Refuses limit reader.source.now (the NamedStatement) w (seen_from reader at) e
  condition_refused {e} r = elim (target_goes t.gives.reads) [
    | inl h ↦ (within_of t.gives h.leading).refuses e (refuses_the AfterHead (refuses_first r))
    | inr a ↦ (within_of t.gives a.leading).refuses e (refuses_the AfterTarget (refuses_first r))
  ]

  module _ {further : ℕ} {second : Tables} {condition : Maybe (Expr F)} (c : IsGot limit (IsCondition value reader.source.now) (StaysOpen reader second t.following) (opt (the Condition)) reader middle second t.following condition further) where
    -- an assignment
    module _ {new : Tables} {act : ActNode F} {next : ℕ} (r : IsGot limit (IsAssigned value reader.source.now target condition) (Stays reader new c.following) (token Equals · the Expression) reader further new c.following act next) where
      both_means : (sense : Sense) → IsSense new sense → assigned reader.source.now sense.names sense.labels (shown_target value target) (option_map (shown_tree value) condition) (second_in r.tree)
          ≡ assigned reader.source.now sense.names sense.labels (target_in reader.source.now sense.names sense.labels t.tree) (condition_in reader.source.now sense.names sense.labels c.tree) (second_in r.tree)
      both_means sense s =
          let s2 = earlier r.gives c.leaves.stays.has.holds r.leaves.has.holds s in
          let s1 = earlier c.gives t.leaves.stays.has.holds c.leaves.stays.has.holds s2 in
          ap₂ (λ x y. assigned reader.source.now sense.names sense.labels x y (second_in r.tree)) (t.means sense s1) (c.means sense s2)

      pub assigned_got : IsGot limit (IsAct value reader.source.now named_act) (Stays reader new w) (the NamedStatement) reader at new w act next
      assigned_got = elim (target_goes t.gives.reads) [
        | inl h ↦ got_by ((within_of t.gives h.leading).gives _ _ _ (gives_the AfterHead (gives_both c.gives (gives_left (led_pair r.gives.reads) r.gives)))) (stays_then t.leaves.stays (stays_then c.leaves.stays r.leaves))
            (λ sense s. r.means sense s ∙ both_means sense s ∙ sym (h.acts reader.source.now sense (node (pair c.tree (head_assigned r.tree))))) (let x = t.further in let y = c.further in let z = r.further in omega arith)
        | inr a ↦ got_by ((within_of t.gives a.leading).gives _ _ _ (gives_the AfterTarget (gives_both c.gives r.gives))) (stays_then t.leaves.stays (stays_then c.leaves.stays r.leaves))
            (λ sense s. r.means sense s ∙ both_means sense s ∙ sym (a.acts reader.source.now sense (node (pair c.tree r.tree)))) (let x = t.further in let y = c.further in let z = r.further in omega arith)
      ]

    -- it is refused, unless `..` follows a plain target
    pub assigned_refused : {e : SourceFaultOrMemory} → (is_plain_target (shown_target value target) ≡ true → leads productions look_ahead (token DotDot) (seen_from reader further) ≡ false) → Refuses limit reader.source.now (token Equals · the Expression) c.following (seen_from reader further) e →
        Refuses limit reader.source.now (the NamedStatement) w (seen_from reader at) e
    assigned_refused {e} unless r = elim (target_goes t.gives.reads) [
      | inl h ↦ (within_of t.gives h.leading).refuses e (refuses_the AfterHead (refuses_second c.gives (by_cause r (λ fault s. stuck_as s (stuck_pair (unled_next (is DotDot) (the Sides) (seen_from reader further) (unless (plain_as true h.plain))) s.reads)) (λ fault s. wrong_as s (takes_left s.takes)))))
      | inr a ↦ (within_of t.gives a.leading).refuses e (refuses_the AfterTarget (refuses_second c.gives r))
    ]

    -- a definition
    module _ (plain : is_plain_target (shown_target value target) ≡ true) {dots : Token} {following : ℕ} (n : IsNext (is DotDot) reader further dots following) where
      unled : leads productions look_ahead (token Equals · the Expression) (seen_from reader further) ≡ false
      unled = ap (leads productions look_ahead (token Equals · the Expression)) (exact {kind = DotDot} n)

      pub defined_refused : {e : SourceFaultOrMemory} → Refuses limit reader.source.now (the Sides) (past reader c.following DotDot dots following) (seen_from reader following) e → Refuses limit reader.source.now (the NamedStatement) w (seen_from reader at) e
      defined_refused {e} r = elim (target_goes t.gives.reads) [
        | inl h ↦ (within_of t.gives h.leading).refuses e (refuses_the AfterHead (refuses_second c.gives (refuses_right unled (leads_next (the Sides) n) (refuses_second (gives_exact {kind = DotDot} n refl) r))))
        | inr a ↦ absurd (both_ways _ plain (plain_as false a.other))
      ]

      pub defined_got : {new : Tables} {act : ActNode F} {next : ℕ} → IsGot limit (IsDefined value reader.source.now target condition) (Stays reader new (past reader c.following DotDot dots following)) (the Sides) reader following new (past reader c.following DotDot dots following) act next →
          IsGot limit (IsAct value reader.source.now named_act) (Stays reader new w) (the NamedStatement) reader at new w act next
      defined_got {new} {act} {next} d = elim (target_goes t.gives.reads) [
        | inr a ↦ absurd (both_ways _ plain (plain_as false a.other))
        | inl h ↦ got_by ((within_of t.gives h.leading).gives _ _ _ (gives_the AfterHead (gives_both c.gives (gives_right unled (leads_next (the Sides) n) (gives_both (gives_exact {kind = DotDot} n refl) d.gives)))))
            (stays_then t.leaves.stays (stays_then c.leaves.stays (stays_then (kind_stays DotDot n refl c.leaves.stays.has) d.leaves)))
            (λ sense s.
            let s3 = earlier d.gives (kind_stays DotDot n refl c.leaves.stays.has).has.holds d.leaves.has.holds s in
            let s1 = earlier c.gives t.leaves.stays.has.holds c.leaves.stays.has.holds s3 in
            d.means sense s
            ∙ ap₂ (λ (x : TargetTree Number) y. defines (record { at = x.at; name = x.name }) x.indices y (sides_in reader.source.now sense.names sense.labels d.tree)) (t.means sense s1) (c.means sense s3)
            ∙ sym (h.acts reader.source.now sense (node (pair c.tree (head_defined (pair (leaf (DotDot, dots)) d.tree))))))
            (let x = t.further in let y = c.further in let z = n.further in let u = d.further in omega arith)
      ]

-- after `..` the left side may begin
pub dots_starts : {reader : Reader} {at following : ℕ} {dots : Token} {old new : Tables} {w v : ReaderState} → Starts reader old w → StaysOpen reader new w v → IsNext (is DotDot) reader at dots following → Starts reader new (past reader v DotDot dots following)
dots_starts {reader} {following = following} {dots = dots} {v = v} s o n = plain_starts reader v DotDot dots following refl refl o.stays.has (optionless_on o.stays.keyword s.optionless)

pub dots_tableless : {reader : Reader} {at following : ℕ} {dots : Token} {new : Tables} {w v : ReaderState} → StaysOpen reader new w v → Tableless w → IsNext (is DotDot) reader at dots following → Tableless (past reader v DotDot dots following)
dots_tableless o h n = tableless_on (kind_stays DotDot n refl o.stays.has).keyword (tableless_on o.stays.keyword h)
