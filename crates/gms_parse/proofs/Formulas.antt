-- Expressions and parts of them, as the crate that reads them says what it read.
use Rattle.std.proofs.Common.{◌≡◌, ℕ, ◌+◌, ◌-◌, ◌<◌, ◌≤◌, Bool, true, not, ◌||◌, List, [], ◌∷◌, ◌++◌, length, drop, refl, sym, ap, ◌∙◌, subst, inl, inr, arith}
use Rattle.gms_lex.specs.declared.token.Token.{Token}
use Rattle.gms_grammar.specs.declared.terminal.Terminal.{Terminal}
use Rattle.gms_grammar.specs.Grammar.{the, yield, IsTree, Derives}
use Rattle.gms_grammar.specs.Terminals.{is}
use Rattle.gms_grammar.specs.GamsGrammar.{Nonterminal, Expression, productions}
use Rattle.gms_grammar.specs.Rules as rules
use Rattle.std.proofs.lemmas.List.{length-drop, length-map, length-append}
use Rattle.gms_expressions.specs.declared.fault.SyntaxFaultOrMemory.{SyntaxFaultOrMemory}
use Rattle.gms_expressions.specs.declared.fault.SyntaxFaultOrMemory.TheVariants as syntax
use Rattle.gms_expressions.specs.Outcomes as inner
use Rattle.gms_expressions.specs.Words.{terminal_of}
use Rattle.gms_lex.specs.TokenTexts.{token_text}
use Rattle.gms_expressions.specs.Calls.{expression_state, IsRead, IsSyntaxRefusal}
use Rattle.gms_parse.specs.declared.fault.SourceFaultOrMemory.TheVariants as answer
use Rattle.gms_parse.specs.declared.fault.SourceFault.{SourceFault}
use Rattle.gms_parse.specs.declared.reader.Reader.{Reader}
use Rattle.gms_parse.specs.declared.reader.Tables.{Tables}
use Rattle.gms_parse.specs.Faults.{fault_of_syntax, source_fault}
use Rattle.gms_parse.specs.ReadStates.{KindedToken, ReaderState, reader_after, reader_after_all, kind_ahead, IsFaulty}
use Rattle.gms_parse.specs.InnerReadings.{Derivation, Sense, Starts, StaysOpen, Tableless, IsGot, IsStuck, IsWrong, Refuses, seen_from, kind_of}
use Rattle.gms_parse.proofs.Steps.{refuses_memory}
use Rattle.gms_parse.proofs.Alphabet.{AllPass, pass_prefix, pass_rest, only, all_pass}
use Rattle.gms_parse.proofs.Depths.{TextsAbove, depth_after, above_prefix, above_rest, is_deep, is_shallow, deep_closes}
use Rattle.gms_parse.proofs.Agreements.{is_inner, Agrees, Agreed, agree, fault_outside}
use Rattle.gms_parse.proofs.Prefixes.{reads_of, stuck_of, takes_of}

abbrev is_formula : Nonterminal → Bool
is_formula n = is_deep n || is_shallow n

formulas_inner : (n : Nonterminal) → (not (is_formula n) || only is_formula is_inner (productions n)) ≡ true
formulas_inner Expression = refl
formulas_inner _ = refl

open_after : (source : List ℕ) (w : ReaderState) (u : List KindedToken) (ahead : Terminal) → (reader_after_all source w u ahead).open_count ≡ depth_after w.open_count u
open_after source w [] ahead = refl
open_after source w (t ∷ u) ahead = open_after source (reader_after source w t (kind_ahead u ahead)) u ahead

-- the state that the other crate begins with
abbrev before : Reader → Tables → inner.ExpressionState
before reader old = expression_state reader.unclosed old.names old.labels

begin : {reader : Reader} {old : Tables} {w : ReaderState} → Starts reader old w → Tableless w → Agrees w (before reader old)
begin s other = record {
  open_count = s.has.holds.open_count;
  names = s.has.holds.names;
  labels = s.has.holds.labels;
  dotted = s.undotted;
  optionless = s.optionless;
  tableless = other;
}

module _ {reader : Reader} {old : Tables} {w : ReaderState} (n : Nonterminal) (formula : is_deep n ≡ true) (s : Starts reader old w) (other : Tableless w) where
  -- the tokens of a tree are those of expressions
  inner_tokens : (tree : Derivation) → IsTree productions (the n) tree → AllPass is_inner (yield tree)
  inner_tokens tree k = all_pass is_formula is_inner formulas_inner (the n) tree k (ap (λ b. b || is_shallow n) formula)

  above_tokens : (tree : Derivation) → IsTree productions (the n) tree → TextsAbove w.level w.open_count (yield tree)
  above_tokens tree k = (deep_closes n formula tree k w.level w.open_count s.has.level).above

  -- a part that was read
  pub formula_got : {limit : ℕ} (at : ℕ) {T : Type 0} {Says : List (List ℕ) → List (List ℕ) → Derivation → T → Type 0} {new : Tables} {next : ℕ} {x : T} → at < length reader.tokens.now →
      IsRead limit reader.source.now n Says (expression_state reader.unclosed old.names old.labels) (expression_state reader.unclosed new.names new.labels) (seen_from reader at) (seen_from reader next) x →
      (Means : Sense → Derivation → T → Type 0) → ((sense : Sense) (tree : Derivation) → IsTree productions (the n) tree → Says sense.names sense.labels tree x → Means sense tree x) → IsGot limit Means (StaysOpen reader new w) (the n) reader at new w x next
  formula_got {limit} at {new = new} {next = next} within r Means says =
      let p = r.is_part in
      let g : Agreed limit reader.source.now w (before reader old) (yield r.tree) (kind_of (seen_from reader next)) = agree limit reader.source.now w (before reader old) (yield r.tree) (kind_of (seen_from reader next)) (inner_tokens r.tree p.is_tree) (above_tokens r.tree p.is_tree) (begin s other) p.are_sound in
      let a = g.agrees in
      let names : (reader_after_all reader.source.now w (yield r.tree) (kind_of (seen_from reader next))).names ≡ new.names = a.names ∙ ap (λ (y : inner.ExpressionState). y.names) (sym p.leaves) in
      let labels : (reader_after_all reader.source.now w (yield r.tree) (kind_of (seen_from reader next))).labels ≡ new.labels = a.labels ∙ ap (λ (y : inner.ExpressionState). y.labels) (sym p.leaves) in
      let opened : (reader_after_all reader.source.now w (yield r.tree) (kind_of (seen_from reader next))).open_count ≡ reader.unclosed = a.open_count ∙ ap (λ (y : inner.ExpressionState). y.open_count) (sym p.leaves) in
      let lower = s.has.level in
      let same = s.has.holds.open_count in
      let level = g.level in
      record {
        tree = r.tree;
        following = reader_after_all reader.source.now w (yield r.tree) (kind_of (seen_from reader next));
        gives = record { reads = reads_of n (seen_from reader at) (seen_from reader next) r.tree p.is_tree p.stops; are_sound = g.sound; leaves = refl };
        leaves = record {
          stays = record {
            has = record {
              holds = record { open_count = opened; names = names; labels = labels };
              level = omega (arith, lower, same, level, opened);
            };
            keyword = g.keyword;
            level = g.level;
          };
          undotted = a.dotted ∙ ap (λ (y : inner.ExpressionState). y.dotted) (sym p.leaves);
        };
        means = λ sense k. says sense r.tree p.is_tree (r.means sense.names sense.labels k.names k.labels);
        further = ahead_of reader at next (yield r.tree) within p.stops.parts;
      }
    where
      ahead_of : (reader : Reader) (at next : ℕ) (prefix : List KindedToken) → at < length reader.tokens.now → seen_from reader at ≡ prefix ++ seen_from reader next → at ≤ next
      ahead_of reader at next prefix within e =
          let seen_token : Token → KindedToken = (λ t. (terminal_of t.kind (token_text reader.source.now t), t)) in
          let l : length reader.tokens.now - at ≡ length prefix + (length reader.tokens.now - next) =
          sym (length-drop at reader.tokens.now) ∙ sym (length-map (drop at reader.tokens.now) seen_token) ∙ ap length e ∙ length-append prefix (seen_from reader next) ∙ ap (λ m. length prefix + m) (length-map (drop next reader.tokens.now) seen_token ∙ length-drop next reader.tokens.now) in
          omega (arith, l, within)

  -- a part that was refused
  pub formula_refused : {limit : ℕ} (at : ℕ) (e : SyntaxFaultOrMemory) → IsSyntaxRefusal limit reader.source.now n (expression_state reader.unclosed old.names old.labels) (seen_from reader at) e → Refuses limit reader.source.now (the n) w (seen_from reader at) (fault_of_syntax e)
  formula_refused at syntax.Memory r = refuses_memory refl
  formula_refused {limit} at (syntax.Fault found) r = record { why = λ fault same. elim r.cause [ inl c ↦ inr (wrong fault (told fault same) c) | inr c ↦ inl (stopped fault (told fault same) c) ] }
    where
      ts : List KindedToken
      ts = seen_from reader at

      source : List ℕ
      source = reader.source.now

      whole : Derivation
      whole = r.stops.begins.derives.tree

      inner_prefix : AllPass is_inner r.prefix
      inner_prefix = pass_prefix is_inner r.prefix r.stops.begins.further (subst (λ (u : List KindedToken). AllPass is_inner u) r.stops.begins.derives.yields (inner_tokens whole r.stops.begins.derives.is_tree))

      above_all : TextsAbove w.level w.open_count r.prefix
      above_all = above_prefix w.level w.open_count r.prefix r.stops.begins.further (subst (λ (u : List KindedToken). TextsAbove w.level w.open_count u) r.stops.begins.derives.yields (above_tokens whole r.stops.begins.derives.is_tree))

      told : (fault : SourceFault) → fault_of_syntax (syntax.Fault found) ≡ answer.Fault fault → source_fault found ≡ fault
      told fault same = cc

      stopped : (fault : SourceFault) → source_fault found ≡ fault → rules.IsUnexpectedByRule inner.syntax_rule (limit, source) (Derives productions (the n) r.prefix → ⊥) (before reader old) r.prefix r.rest found → IsStuck limit source (the n) w ts fault
      stopped fault is c = record {
        prefix = r.prefix;
        rest = r.rest;
        reads = stuck_of n ts r.prefix r.rest r.stops c.needs;
        are_sound = (agree limit source w (before reader old) r.prefix (kind_of r.rest) inner_prefix above_all (begin s other) c.are_sound).sound;
        is = sym is ∙ ap source_fault c.is;
      }

      wrong : (fault : SourceFault) → source_fault found ≡ fault → rules.IsFirstFaulty inner.syntax_rule (limit, source) (before reader old) r.prefix (kind_of r.rest) found → IsWrong limit source (the n) w ts fault
      wrong fault is c =
          let inner_all = subst (λ (u : List KindedToken). AllPass is_inner u) c.parts inner_prefix in
          let above = subst (λ (u : List KindedToken). TextsAbove w.level w.open_count u) c.parts above_all in
          let g : Agreed limit source w (before reader old) c.before c.token.0 = agree limit source w (before reader old) c.before c.token.0 (pass_prefix is_inner c.before (c.token ∷ c.following) inner_all) (above_prefix w.level w.open_count c.before (c.token ∷ c.following) above) (begin s other) c.are_sound in
          let deep_here = above_rest w.level w.open_count c.before (c.token ∷ c.following) above in
          let level = g.level in
          let count = open_after source w c.before c.token.0 in
          record {
            before = c.before;
            token = c.token;
            following = c.following ++ r.rest;
            takes = takes_of n ts r.prefix r.rest r.stops c.before c.token c.following c.parts;
            are_sound = g.sound;
            is_faulty = subst (λ (x : SourceFault). IsFaulty limit source (reader_after_all source w c.before c.token.0) c.token (kind_of (c.following ++ r.rest)) x) is
                (fault_outside limit source (reader_after_all source w c.before c.token.0) (inner.state_after_tokens source (before reader old) c.before c.token.0) c.token (kind_of (c.following ++ r.rest)) (pass_rest is_inner c.before (c.token ∷ c.following) inner_all).0
                (λ text. let l = deep_here.0 text in omega (arith, l, level, count)) g.agrees found c.is_faulty);
          }
