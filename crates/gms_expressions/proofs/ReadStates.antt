-- The state after tokens, token by token.
use Rattle.std.proofs.Common.{◌≡◌, ℕ, Bool, true, false, not, List, [], ◌∷◌, cond, Some, refl, ap}
use Rattle.std.proofs.lemmas.Bool.{not-true, and_parts}
use Rattle.gms_labels.specs.Labels.{place_of, entered}
use Rattle.gms_labels.proofs.Places.{place_of-entered_kept}
use Rattle.gms_lex.specs.declared.token.Token.{Token}
use Rattle.gms_lex.specs.TokenTexts.{token_text, unquoted}
use Rattle.gms_grammar.specs.declared.terminal.Terminal.{Terminal}
use Rattle.gms_grammar.specs.declared.terminal.Terminal.TheVariants.{LeftParen, RightParen, Name, Suffix, Text, Dot}
use Rattle.gms_grammar.specs.Terminals.{is, is_terminal_among}
use Rattle.gms_grammar.proofs.Rules.{all_keep}
use Rattle.gms_expressions.specs.declared.fault.SyntaxFault.{SyntaxFault}
use Rattle.gms_expressions.specs.declared.reader.Tables.{Tables}
use Rattle.gms_expressions.specs.Outcomes.{ExpressionState, state_after_token, state_after_tokens, is_name_token, IsFaultyInExpression, deep, out_of_range, many_names, many_labels}
use Rattle.gms_expressions.specs.InnerReadings.{Seen, read_state_of}
use Rattle.gms_expressions.proofs.TokenKinds.{is_plain, also}

-- a plain token leaves all as it was
pub plain_after : (source : List ℕ) (unclosed : ℕ) (tables : Tables) (kind : Terminal) (token : Token) → is_plain kind ≡ true → state_after_token source (read_state_of unclosed tables) (kind, token) ≡ read_state_of unclosed tables
plain_after source unclosed tables LeftParen token h = cc
plain_after source unclosed tables RightParen token h = cc
plain_after source unclosed tables Name token h = cc
plain_after source unclosed tables Suffix token h = cc
plain_after source unclosed tables Text token h = cc
plain_after source unclosed tables Dot token h = cc
plain_after source unclosed tables _ token h = refl

-- a plain token has no fault
pub plain_sound : (limit : ℕ) (source : List ℕ) (w : ExpressionState) (kind : Terminal) (token : Token) → is_plain kind ≡ true → (fault : SyntaxFault) → IsFaultyInExpression limit source w (kind, token) fault → ⊥
plain_sound limit source w kind token h fault (deep e d) = let f : is_plain kind ≡ false = ap is_plain e in cc
plain_sound limit source w kind token h fault (out_of_range e d) = let f : is_plain kind ≡ false = ap is_plain e in cc
plain_sound limit source w kind token h fault (many_names n d) =
    let f : is_plain kind ≡ false = not-true (is_plain kind) (also (is_terminal_among (Name ∷ Suffix ∷ [])) (λ k. not (is_plain k)) refl kind ((and_parts _ _ n).0)) in
    cc
plain_sound limit source w kind token h fault (many_labels e d) = let f : is_plain kind ≡ false = ap is_plain e in cc

-- entered or not, the places of texts stay
pub kept_by : (c : Bool) (texts : List (List ℕ)) (text other : List ℕ) (n : ℕ) → place_of texts other ≡ Some n → place_of (cond c (entered texts text) texts) other ≡ Some n
kept_by true texts text other n h = place_of-entered_kept texts text other n h
kept_by false texts text other n h = h

-- tokens keep the places of names and labels
pub names_kept : (source : List ℕ) (w : ExpressionState) (u : List Seen) (ahead : Terminal) (text : List ℕ) (n : ℕ) → place_of w.names text ≡ Some n → place_of (state_after_tokens source w u ahead).names text ≡ Some n
names_kept source w u ahead text n h =
    all_keep (λ (x : ExpressionState) (t : Seen) (k : Terminal). state_after_token source x t) (λ (x : ExpressionState). place_of x.names text ≡ Some n) (λ (x : ExpressionState) (t : Seen) (k : Terminal). kept_by (is_name_token x t.0) x.names (token_text source t.1) text n) w u ahead h

pub labels_kept : (source : List ℕ) (w : ExpressionState) (u : List Seen) (ahead : Terminal) (text : List ℕ) (n : ℕ) → place_of w.labels text ≡ Some n → place_of (state_after_tokens source w u ahead).labels text ≡ Some n
labels_kept source w u ahead text n h =
    all_keep (λ (x : ExpressionState) (t : Seen) (k : Terminal). state_after_token source x t) (λ (x : ExpressionState). place_of x.labels text ≡ Some n) (λ (x : ExpressionState) (t : Seen) (k : Terminal). kept_by (is Text t.0) x.labels (unquoted (token_text source t.1)) text n) w u ahead h
