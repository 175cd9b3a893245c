-- The state after tokens, token by token.
use Rattle.std.proofs.Common.{◌≡◌, ℕ, Bool, true, false, not, ◌&&◌, ◌||◌, cond, List, [], ◌∷◌, Some, refl, sym, ap, ◌∙◌}
use Rattle.std.proofs.lemmas.Bool.{not-true}
use Rattle.gms_labels.specs.Labels.{place_of, entered, IsFullFor}
use Rattle.gms_lex.specs.declared.token.Token.{Token}
use Rattle.gms_lex.specs.TokenTexts.{token_text}
use Rattle.gms_grammar.specs.declared.terminal.Terminal.{Terminal}
use Rattle.gms_grammar.specs.declared.terminal.Terminal.TheVariants.{LeftParen, RightParen, Name, Suffix, Text, Label, Number, Table, TableLine, Dot, Using, Option}
use Rattle.gms_grammar.specs.Terminals.{is, is_terminal_among}
use Rattle.gms_grammar.proofs.Orders.{some_there}
use Rattle.gms_grammar.proofs.Rules.{all_keep}
use Rattle.gms_expressions.specs.Outcomes.{open_after}
use Rattle.gms_expressions.proofs.TokenKinds.{also}
use Rattle.gms_expressions.proofs.ReadStates.{kept_by}
use Rattle.gms_parse.specs.declared.fault.SourceFault.{SourceFault}
use Rattle.gms_table.specs.WordLabels.{all_entered}
use Rattle.gms_table.proofs.LabelLemmas.{Stay-all_entered}
use Rattle.gms_parse.specs.ReadStates.{KindedToken, ReaderState, is_name, last_kind, ends_statement, ExceedsTable, new_labels, reader_after, reader_after_all, IsFaulty, deep, out_of_range, many_names, many_labels, in_table, without_lines}
use Rattle.gms_parse.proofs.TokenKinds.{begins, is_quiet}

-- texts that are entered keep the places of others
pub places_kept : (texts more : List (List ℕ)) (other : List ℕ) (n : ℕ) → place_of texts other ≡ Some n → place_of (all_entered texts more) other ≡ Some n
places_kept texts more other n h = (Stay-all_entered texts more).stays other n h

-- tokens keep the places of names and labels
pub names_kept : (source : List ℕ) (w : ReaderState) (u : List KindedToken) (ahead : Terminal) (text : List ℕ) (n : ℕ) → place_of w.names text ≡ Some n → place_of (reader_after_all source w u ahead).names text ≡ Some n
names_kept source w u ahead text n h =
    all_keep (reader_after source) (λ (x : ReaderState). place_of x.names text ≡ Some n) (λ (x : ReaderState) (t : KindedToken) (k : Terminal). kept_by (is_name x t.0) x.names (token_text source t.1) text n) w u ahead h

pub labels_kept : (source : List ℕ) (w : ReaderState) (u : List KindedToken) (ahead : Terminal) (text : List ℕ) (n : ℕ) → place_of w.labels text ≡ Some n → place_of (reader_after_all source w u ahead).labels text ≡ Some n
labels_kept source w u ahead text n h =
    all_keep (reader_after source) (λ (x : ReaderState). place_of x.labels text ≡ Some n) (λ (x : ReaderState) (t : KindedToken) (k : Terminal). places_kept x.labels (new_labels source x t k) text n) w u ahead h

-- parentheses, names and labels are as they were
pub record IsQuiet (w v : ReaderState) : Type 0 where
  pub open_count : v.open_count ≡ w.open_count
  pub names : v.names ≡ w.names
  pub labels : v.labels ≡ w.labels

-- a token of the kind opens and closes nothing, enters no label, and is no number
abbrev pub is_mute : Terminal → Bool
is_mute kind = not (is_terminal_among (LeftParen ∷ RightParen ∷ Text ∷ Label ∷ Number ∷ TableLine ∷ []) kind)

-- it leaves the parentheses as they were
pub mute_after : (source : List ℕ) (w : ReaderState) (kind : Terminal) (token : Token) (ahead : Terminal) → is_mute kind ≡ true → (open_after w.open_count kind ≡ w.open_count) × (new_labels source w (kind, token) ahead ≡ [])
mute_after source w LeftParen token ahead h = cc
mute_after source w RightParen token ahead h = cc
mute_after source w Text token ahead h = cc
mute_after source w Label token ahead h = cc
mute_after source w TableLine token ahead h = cc
mute_after source w _ token ahead h = (refl, refl)

-- a quiet token is no name
quiet_unnamed : (w : ReaderState) (kind : Terminal) → is_quiet kind ≡ true → is_name w kind ≡ false
quiet_unnamed w kind h =
    ap (λ b. b && not (is_terminal_among (Dot ∷ Using ∷ []) (last_kind w.before) || is Option w.keyword)) (not-true (is_terminal_among (Name ∷ Suffix ∷ []) kind) (also is_quiet (λ k. not (is_terminal_among (Name ∷ Suffix ∷ []) k)) refl kind h))

-- a quiet token leaves parentheses, names and labels as they were
pub quiet_after : (source : List ℕ) (w : ReaderState) (kind : Terminal) (token : Token) (ahead : Terminal) → is_quiet kind ≡ true → IsQuiet w (reader_after source w (kind, token) ahead)
quiet_after source w kind token ahead h =
    let m = mute_after source w kind token ahead (also is_quiet is_mute refl kind h) in
    record { open_count = m.0; names = ap (λ c. cond c (entered w.names (token_text source token)) w.names) (quiet_unnamed w kind h); labels = ap (all_entered w.labels) m.1 }

-- within a statement, its keyword and its level are unchanged
pub keyword_after : (source : List ℕ) (w : ReaderState) (token : KindedToken) (ahead : Terminal) → begins token.0 ≡ false → ((reader_after source w token ahead).keyword ≡ w.keyword) × ((reader_after source w token ahead).level ≡ w.level)
keyword_after source w token ahead h = (ap (λ c. cond c token.0 w.keyword) h, ap (λ c. cond c w.open_count w.level) h)

-- a keyword or a semicolon is the keyword from there on
pub begun_after : (source : List ℕ) (w : ReaderState) (token : KindedToken) (ahead : Terminal) → begins token.0 ≡ true → ((reader_after source w token ahead).keyword ≡ token.0) × ((reader_after source w token ahead).level ≡ w.open_count)
begun_after source w token ahead h = (ap (λ c. cond c token.0 w.keyword) h, ap (λ c. cond c w.open_count w.level) h)

-- no texts always fit into the table
pub bound_for_none : (labels texts : List (List ℕ)) → texts ≡ [] → ExceedsTable labels texts → ⊥
bound_for_none labels texts e l = some_there l.before l.text l.following (sym e ∙ l.parts)

-- a token of the kind is no parenthesis, no number and no line of a table
abbrev pub is_free : Terminal → Bool
is_free kind = not (is_terminal_among (LeftParen ∷ RightParen ∷ Number ∷ TableLine ∷ []) kind)

-- it has no fault, if the tables have space for the name and the labels that it enters
pub free_sound : (limit : ℕ) (source : List ℕ) (w : ReaderState) (kind : Terminal) (token : Token) (ahead : Terminal) → is_free kind ≡ true → (is_name w kind ≡ true → IsFullFor w.names (token_text source token) → ⊥) → (ExceedsTable w.labels (new_labels source w (kind, token) ahead) → ⊥) →
    (fault : SourceFault) → IsFaulty limit source w (kind, token) ahead fault → ⊥
free_sound limit source w kind token ahead h named within_bound fault (deep e d) = let f : is_free kind ≡ false = ap is_free e in cc
free_sound limit source w kind token ahead h named within_bound fault (out_of_range e d) = let f : is_free kind ≡ false = ap is_free e in cc
free_sound limit source w kind token ahead h named within_bound fault (many_names e d) = named e d
free_sound limit source w kind token ahead h named within_bound fault (many_labels e d) = within_bound d
free_sound limit source w kind token ahead h named within_bound fault (in_table e d f) = let f : is_free kind ≡ false = ap is_free e in cc
free_sound limit source w kind token ahead h named within_bound fault (without_lines e d f) = let f : is_free kind ≡ false = ap is_free e in cc

-- a quiet token has no fault
pub quiet_sound : (limit : ℕ) (source : List ℕ) (w : ReaderState) (kind : Terminal) (token : Token) (ahead : Terminal) → is_quiet kind ≡ true → (fault : SourceFault) → IsFaulty limit source w (kind, token) ahead fault → ⊥
quiet_sound limit source w kind token ahead h =
    free_sound limit source w kind token ahead (also is_quiet is_free refl kind h) (λ e d. let u = quiet_unnamed w kind h in cc) (bound_for_none w.labels _ (mute_after source w kind token ahead (also is_quiet is_mute refl kind h)).1)

-- a parenthesis that closes has no fault, where it does not end the head of a table
pub closing_sound : (limit : ℕ) (source : List ℕ) (w : ReaderState) (token : Token) (ahead : Terminal) → (w.keyword ≡ Table → ends_statement ahead ≡ true → ⊥) → (fault : SourceFault) → IsFaulty limit source w (RightParen, token) ahead fault → ⊥
closing_sound limit source w token ahead on fault (deep e d) = cc
closing_sound limit source w token ahead on fault (out_of_range e d) = cc
closing_sound limit source w token ahead on fault (many_names e d) = cc
closing_sound limit source w token ahead on fault (many_labels e d) = bound_for_none _ _ refl d
closing_sound limit source w token ahead on fault (in_table e d f) = cc
closing_sound limit source w token ahead on fault (without_lines e k f) = on k f
