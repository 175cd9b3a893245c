-- Reading extends the names and labels.
use Rattle.std.proofs.Common.{◌≡◌, ℕ, Bool, true, false, cond, List, [], ◌∷◌, ◌++◌, sym, ◌∙◌, subst, append_assoc, append-nil}
use Rattle.std.specs.Prelude.{is_some}
use Rattle.gms_labels.specs.Labels.{place_of, entered}
use Rattle.gms_lex.specs.TokenTexts.{token_text, unquoted}
use Rattle.gms_grammar.specs.declared.terminal.Terminal.{Terminal}
use Rattle.gms_grammar.specs.declared.terminal.Terminal.TheVariants.{Text}
use Rattle.gms_grammar.specs.Grammar.{yield}
use Rattle.gms_grammar.specs.Terminals.{is}
use Rattle.gms_grammar.proofs.Rules.{all_keep}
use Rattle.gms_expressions.specs.declared.reader.Tables.{Tables}
use Rattle.gms_expressions.specs.Calls.{IsTablePrefix}
use Rattle.gms_expressions.specs.Outcomes.{ExpressionState, state_after_token, is_name_token}
use Rattle.gms_expressions.specs.InnerReadings.{Seen, Derivation, GamsPart, Gives, Went, kind_of, read_state_of}

pub goes_refl : (texts : List (List ℕ)) → IsTablePrefix texts texts
goes_refl texts = ([], sym (append-nil texts))

-- an extension of a list with one more element is an extension of the list
goes_more : (b : Bool) (texts : List (List ℕ)) (text : List ℕ) (later : List (List ℕ)) → IsTablePrefix (cond b texts (texts ++ text ∷ [])) later → IsTablePrefix texts later
goes_more true texts text later g = g
goes_more false texts text later g = (text ∷ g.0, g.1 ∙ append_assoc texts (text ∷ []) g.0)

goes_entered : (c : Bool) (texts : List (List ℕ)) (text : List ℕ) (later : List (List ℕ)) → IsTablePrefix (cond c (entered texts text) texts) later → IsTablePrefix texts later
goes_entered true texts text later g = goes_more (is_some (place_of texts text)) texts text later g
goes_entered false texts text later g = g

-- an extension of the state after a token is an extension of the state before it
went_before : (source : List ℕ) (tables : Tables) (w : ExpressionState) (t : Seen) → Went (state_after_token source w t) tables → Went w tables
went_before source tables w t g =
    (goes_entered (is_name_token w t.0) w.names (token_text source t.1) tables.names g.0, goes_entered (is Text t.0) w.labels (unquoted (token_text source t.1)) tables.labels g.1)

-- the same for the tokens of a part
pub went_then : {limit : ℕ} {source : List ℕ} {p : GamsPart} {w v : ExpressionState} {ts rest : List Seen} {a : Derivation} {tables : Tables} → Gives limit source p w ts a v rest → Went v tables → Went w tables
went_then {source = source} {w = w} {rest = rest} {a = a} {tables = tables} g went =
    all_keep (λ (x : ExpressionState) (t : Seen) (k : Terminal). state_after_token source x t) (λ (x : ExpressionState). Went x tables → Went w tables)
    (λ (x : ExpressionState) (t : Seen) (k : Terminal) keeps later. keeps (went_before source tables x t later)) w (yield a) (kind_of rest) (λ now. now)
    (subst (λ (x : ExpressionState). Went x tables) g.leaves went)

-- the tables are as they were
pub went_same : (tables : Tables) → Went (read_state_of 0 tables) tables
went_same tables = (goes_refl tables.names, goes_refl tables.labels)

pub went_are : (old new : Tables) → new.names ≡ old.names → new.labels ≡ old.labels → Went (read_state_of 0 old) new
went_are old new e f = (subst (λ ns. IsTablePrefix old.names ns) (sym e) (goes_refl old.names), subst (λ ls. IsTablePrefix old.labels ls) (sym f) (goes_refl old.labels))

-- a part was read
pub went_by : {limit : ℕ} {source : List ℕ} {p : GamsPart} {w : ExpressionState} {unclosed : ℕ} {ts rest : List Seen} {a : Derivation} {tables : Tables} → Gives limit source p w ts a (read_state_of unclosed tables) rest → Went w tables
went_by {tables = tables} g = went_then g (went_same tables)
