-- Tokens begin one part of an expression, or have one first fault.
use Rattle.std.proofs.Common.{◌≡◌, ◌⊎◌, ℕ, true, List, [], ◌∷◌, ◌++◌, refl, sym, ap, ap₂, ◌∙◌, subst, append_assoc, inl, inr}
use Rattle.gms_lex.specs.declared.token.Token.{Token}
use Rattle.gms_grammar.specs.declared.terminal.Terminal.{Terminal}
use Rattle.gms_grammar.specs.declared.terminal.Terminal.TheVariants.{LeftParen, Number}
use Rattle.gms_grammar.specs.Grammar.{the, yield, Derives, Stops}
use Rattle.gms_grammar.specs.GamsGrammar.{Nonterminal, productions}
use Rattle.gms_grammar.specs.GamsLookAhead.{look_ahead}
use Rattle.gms_grammar.specs.Reading.{Found, read, stuck, Reads}
use Rattle.gms_grammar.specs.Rules as rules
use Rattle.gms_grammar.specs.Rules.{kind_ahead, kind_of, AreFaultless}
use Rattle.gms_grammar.proofs.Basics.{after_same}
use Rattle.gms_grammar.proofs.FirstFaults.{no_first, one_refused}
use Rattle.gms_grammar.proofs.Language.{gams_unique, gams_read_tree, gams_read_stops, gams_stuck_stops, gams_stuck_none, gams_finds}
use Rattle.gms_grammar.proofs.Rules.{read_state_append, sound_append}
use Rattle.gms_grammar.proofs.Stopping.{stops_once}
use Rattle.gms_expressions.specs.declared.fault.SyntaxError.TheVariants.{Depth, Number as OutOfRange, TooManyLabels}
use Rattle.gms_expressions.specs.declared.fault.SyntaxFault.{SyntaxFault}
use Rattle.gms_expressions.specs.Calls.{IsRead}
use Rattle.gms_expressions.specs.ExpressionTrees.{no_token}
use Rattle.gms_expressions.specs.Outcomes.{ExpressionState, state_after_token, state_after_tokens, is_name_token, unexpected_token, syntax_rule, IsFaultyInExpression, deep, out_of_range, many_names, many_labels, IsPart, IsRefusedPart}
use Rattle.gms_laws.specs.Parts.{Tokens, Derivation, EndAlike, SomePart}

-- ---- faults of a token

-- what the fault of a token of this kind is
abbrev Tells : Terminal → Token → SyntaxFault → Type 0
Tells LeftParen token fault = fault ≡ record { error = Depth; at = token.at }
Tells Number token fault = fault ≡ record { error = OutOfRange; at = token.at }
Tells _ token fault = fault ≡ record { error = TooManyLabels; at = token.at }

names_tell : (read_state : ExpressionState) (kind : Terminal) (token : Token) → is_name_token read_state kind ≡ true → Tells kind token (record { error = TooManyLabels; at = token.at })
names_tell read_state LeftParen token h = absurd cc
names_tell read_state Number token h = absurd cc
names_tell read_state _ token h = refl

tells : {fault : SyntaxFault} (limit : ℕ) (source : List ℕ) (read_state : ExpressionState) (kind : Terminal) (token : Token) → IsFaultyInExpression limit source read_state (kind, token) fault → Tells kind token fault
tells limit source read_state kind token (deep e d) = subst (λ (k : Terminal). Tells k token (record { error = Depth; at = token.at })) (sym e) refl
tells limit source read_state kind token (out_of_range e d) = subst (λ (k : Terminal). Tells k token (record { error = OutOfRange; at = token.at })) (sym e) refl
tells limit source read_state kind token (many_names n d) = names_tell read_state kind token n
tells limit source read_state kind token (many_labels e d) = subst (λ (k : Terminal). Tells k token (record { error = TooManyLabels; at = token.at })) (sym e) refl

one_told : (kind : Terminal) (token : Token) (one other : SyntaxFault) → Tells kind token one → Tells kind token other → one ≡ other
one_told LeftParen token one other h k = h ∙ sym k
one_told Number token one other h k = h ∙ sym k
one_told _ token one other h k = h ∙ sym k

module _ (limit : ℕ) (source : List ℕ) (n : Nonterminal) (before : ExpressionState) (tokens : Tokens) where
  pub one_fault : (one other : SyntaxFault) → IsRefusedPart limit source n before tokens one → IsRefusedPart limit source n before tokens other → one ≡ other
  one_fault one other f g =
      one_refused syntax_rule (limit, source) (λ read_state token ahead a b h k. one_told token.0 token.1 a b (tells limit source read_state token.0 token.1 h) (tells limit source read_state token.0 token.1 k)) n before tokens one other f g

  -- ---- one part

  pub one_part : (after later : ExpressionState) (rest others : Tokens) (one other : Derivation) → IsPart limit source n before after tokens rest one → IsPart limit source n before later tokens others other → (one ≡ other) × EndAlike after later rest others
  one_part after later rest others one other p q =
      let yields = stops_once productions (the n) tokens (yield one) rest (yield other) others p.stops q.stops in
      let same : one ≡ other = gams_unique n one other p.is_tree q.is_tree yields in
      let following : rest ≡ others = after_same (yield one) rest others (sym p.stops.parts ∙ q.stops.parts ∙ ap (λ (us : Tokens). us ++ others) (sym yields)) in
      (same, (p.leaves ∙ ap₂ (λ (us vs : Tokens). state_after_tokens source before us (kind_of vs)) yields following ∙ sym q.leaves, following))

  -- ---- a part and a fault

  pub not_both : (after : ExpressionState) (rest : Tokens) (part : Derivation) (fault : SyntaxFault) → IsPart limit source n before after tokens rest part → IsRefusedPart limit source n before tokens fault → ⊥
  not_both after rest part fault p none = by_cause none.cause
    where
      prefix : yield part ≡ none.prefix
      prefix = stops_once productions (the n) tokens (yield part) rest none.prefix none.rest p.stops none.stops

      following : rest ≡ none.rest
      following = after_same (yield part) rest none.rest (sym p.stops.parts ∙ none.stops.parts ∙ ap (λ (us : Tokens). us ++ none.rest) (sym prefix))

      by_cause : rules.IsFirstFaulty syntax_rule (limit, source) before none.prefix (kind_of none.rest) fault ⊎ rules.IsUnexpectedByRule syntax_rule (limit, source) (Derives productions (the n) none.prefix → ⊥) before none.prefix none.rest fault → ⊥
      by_cause (inl first) =
          no_first syntax_rule (limit, source) before none.prefix (kind_of none.rest) fault first
          (subst (λ (us : Tokens). AreFaultless (syntax_rule (limit, source)) before none.prefix (kind_of us)) following (subst (λ (us : Tokens). AreFaultless (syntax_rule (limit, source)) before us (kind_of rest)) prefix p.are_sound))
      by_cause (inr stop) = stop.needs (record { tree = part; is_tree = p.is_tree; yields = prefix })

  module _ (none : (fault : SyntaxFault) → IsRefusedPart limit source n before tokens fault → ⊥) where
    -- the tokens before the one at which they cease to begin a part are sound
    module _ (prefix rest : Tokens) (stops : Stops productions (the n) tokens prefix rest) where
      sound_on : (passed left : Tokens) → prefix ≡ passed ++ left → AreFaultless (syntax_rule (limit, source)) before passed (kind_ahead left (kind_of rest)) →
          AreFaultless (syntax_rule (limit, source)) (state_after_tokens source before passed (kind_ahead left (kind_of rest))) left (kind_of rest)
      sound_on passed [] e s = tt
      sound_on passed (t ∷ left) e s =
          let ahead = kind_ahead left (kind_of rest) in
          let here : (fault : SyntaxFault) → IsFaultyInExpression limit source (state_after_tokens source before passed t.0) t fault → ⊥ =
          λ fault f. none fault (record { prefix = prefix; rest = rest; stops = stops; cause = inl (record { before = passed; token = t; following = left; parts = e; are_sound = s; is_faulty = f }) }) in
          let more : AreFaultless (syntax_rule (limit, source)) before (passed ++ t ∷ []) ahead = sound_append (syntax_rule (limit, source)) before passed (t ∷ []) ahead s (here, tt) in
          let others = sound_on (passed ++ t ∷ []) left (e ∙ sym (append_assoc passed (t ∷ []) left)) more in
          (here, subst (λ (w : ExpressionState). AreFaultless (syntax_rule (limit, source)) w left (kind_of rest)) (read_state_append (λ read_state token ahead. state_after_token source read_state token) before passed (t ∷ []) ahead) others)

      sound_prefix : AreFaultless (syntax_rule (limit, source)) before prefix (kind_of rest)
      sound_prefix = sound_on [] prefix refl tt

    by_found : (found : Found (Terminal × Token)) → Reads productions look_ahead (the n) tokens found → SomePart limit source n before tokens
    by_found (read tree rest) r =
        let stops = gams_read_stops no_token n tokens rest tree r in
        record {
          after = state_after_tokens source before (yield tree) (kind_of rest);
          rest = rest;
          tree = tree;
          is_part = record { is_tree = gams_read_tree n tokens rest tree r; stops = stops; are_sound = sound_prefix (yield tree) rest stops; leaves = refl };
        }
    by_found (stuck prefix rest) r =
        let stops = gams_stuck_stops no_token n tokens prefix rest r in
        absurd (none (unexpected_token source rest) (record {
          prefix = prefix;
          rest = rest;
          stops = stops;
          cause = inr (record { needs = gams_stuck_none no_token n tokens prefix rest r; are_sound = sound_prefix prefix rest stops; is = refl });
        }))

    pub not_neither : SomePart limit source n before tokens
    not_neither = let f = gams_finds n tokens in by_found f.0 f.1

-- ---- the four calls

-- what two readings mean is the same, where the meaning is a function of the derivation
module _ {T M : Type 0} (limit : ℕ) (source : List ℕ) (n : Nonterminal) (shown : T → M) (meaning : List (List ℕ) → List (List ℕ) → Derivation → M) where
  abbrev IsReadSo : ExpressionState → ExpressionState → Tokens → Tokens → T → Type 0
  IsReadSo = IsRead limit source n (λ names labels tree part. shown part ≡ meaning names labels tree)

  pub same_meaning : (before after later : ExpressionState) (tokens rest others : Tokens) (one other : T) → IsReadSo before after tokens rest one → IsReadSo before later tokens others other → (shown one ≡ shown other) × EndAlike after later rest others
  same_meaning before after later tokens rest others one other p q =
      let same = one_part limit source n before tokens after later rest others p.tree q.tree p.is_part q.is_part in
      let ends : EndAlike after later rest others = same.1 in
      let read_state : after ≡ later = ends.0 in
      let first : shown one ≡ meaning after.names after.labels p.tree = p.means after.names after.labels (λ text k there. there) (λ text k there. there) in
      let second : shown other ≡ meaning later.names later.labels q.tree = q.means later.names later.labels (λ text k there. there) (λ text k there. there) in
      (first ∙ ap₂ (λ (w : ExpressionState) (t : Derivation). meaning w.names w.labels t) read_state same.0 ∙ sym second, (read_state, ends.1))
