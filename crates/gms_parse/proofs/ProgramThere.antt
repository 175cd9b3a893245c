-- A source without a fault has a program.
use Rattle.std.proofs.Common.{◌≡◌, ◌≢◌, ℕ, ◌≤◌, Bool, true, false, cond, not, List, [], ◌∷◌, ◌++◌, length, map, reverse, All, Result, Ok, Err, refl, sym, ap, ◌∙◌, subst, append_assoc, append-nil, inl, inr}
use Rattle.std.proofs.lemmas.Bool.{cases_lt}
use Rattle.std.proofs.lemmas.List.{reverse-append, reverse-reverse}
use Rattle.std.proofs.lemmas.List.Elements.{All-head, All-tail}
use Rattle.gms_lex.specs.declared.token.Token.{Token}
use Rattle.gms_lex.specs.declared.fault.LexFault.{LexFault}
use Rattle.gms_lex.specs.TokenTexts.{token_text}
use Rattle.gms_lex.specs.Tokens.{Means, IsTokens, most_source_bytes}
use Rattle.gms_lex.proofs.AnswerLemmas.{means_one}
use Rattle.gms_table.specs.Words.{words_of}
use Rattle.gms_table.specs.WordLabels.{all_entered}
use Rattle.gms_table.specs.TableEntries.{label_texts}
use Rattle.gms_table.proofs.LabelLemmas.{Stay}
use Rattle.gms_grammar.specs.declared.terminal.Terminal.{Terminal}
use Rattle.gms_grammar.specs.declared.terminal.Terminal.TheVariants.{TableLine, End}
use Rattle.gms_grammar.specs.Grammar.{the, yield, IsTree, Stops}
use Rattle.gms_grammar.specs.Reading.{Found, read, stuck, Reads}
use Rattle.gms_grammar.specs.Terminals.{is}
use Rattle.gms_grammar.specs.GamsGrammar.{Program, productions}
use Rattle.gms_grammar.specs.GamsLookAhead.{look_ahead}
use Rattle.gms_grammar.proofs.Basics.{not_true}
use Rattle.gms_grammar.proofs.Language.{gams_read_tree, gams_read_stops, gams_stuck_stops, gams_stuck_none, gams_finds}
use Rattle.gms_expressions.specs.ExpressionTrees.{no_token}
use Rattle.gms_expressions.specs.Outcomes.{kinded_tokens}
use Rattle.gms_parse.specs.declared.fault.SourceError.TheVariants.{TooLong}
use Rattle.gms_parse.specs.declared.fault.SourceFault.{SourceFault}
use Rattle.gms_parse.specs.Faults.{lexical_fault, error_of_table}
use Rattle.gms_parse.specs.Programs.{statements_of}
use Rattle.gms_parse.specs.Tables.{parts_of_tokens, labels_of_lines, IsTableLineFault, AreTableItems, entries_in, items_given}
use Rattle.gms_parse.specs.ReadStates.{KindedToken, ReaderState, start, kind_ahead, table_name, lines_with, reader_after, reader_after_all, unexpected, source_rule, IsFaulty, in_table, AreTokensFaultless}
use Rattle.gms_parse.specs.Outcomes.{RequiresMore, IsTableOf, HaveItems, HasProgram, ProgramView, IsSourceFault, IsNoProgram}
use Rattle.gms_parse.specs.InnerReadings.{Derivation}
use Rattle.gms_parse.proofs.TokenKinds.{same_kind}
use Rattle.gms_parse.proofs.Alphabet.{AllPass, pass_prefix, pass_rest}
use Rattle.gms_grammar.proofs.Rules.{read_state_append, sound_append}
use Rattle.gms_grammar.proofs.FirstFaults.{sound_at}
use Rattle.gms_parse.proofs.StateLemmas.{labels_kept}
use Rattle.gms_parse.proofs.EndTokens.{has_end, end_alone}
use Rattle.gms_parse.proofs.TableSteps.{turned, run_of, run_one, run_other}
use Rattle.gms_parse.proofs.TableSound.{sound_table, placed_stay, placed_table, entries_there}
use Rattle.gms_parse.specs.InnerMeanings.{AreThere}
use Rattle.gms_parse.proofs.Ranges.{entered_there}

-- ---- the last of tokens

record Ending (us : List KindedToken) : Type 0 where
  others : List KindedToken
  last : KindedToken
  are : us ≡ others ++ last ∷ []

ending : (x : KindedToken) (xs : List KindedToken) → Ending (x ∷ xs)
ending x [] = record { others = []; last = x; are = refl }
ending x (y ∷ xs) = let e = ending y xs in record { others = x ∷ e.others; last = e.last; are = ap (λ us. x ∷ us) e.are }

-- ---- the lines that tokens end in

run_all : (us before : List KindedToken) → AllPass (is TableLine) us → run_of (reverse us ++ before) ≡ reverse us ++ run_of before
run_all [] before h = refl
run_all (u ∷ us) before h =
    ap run_of (turned u us before) ∙ run_all us (u ∷ before) h.1 ∙ ap (λ (ws : List KindedToken). reverse us ++ ws) (run_one u before h.0) ∙ sym (turned u us (run_of before))

-- tokens that end in no line
run_none : (us : List KindedToken) → ((others : List KindedToken) (token : KindedToken) → us ≡ others ++ token ∷ [] → token.0 ≢ TableLine) → run_of (reverse us) ≡ []
run_none [] none = refl
run_none (x ∷ xs) none =
    let e = ending x xs in
    ap (λ (ws : List KindedToken). run_of (reverse ws)) e.are ∙ ap run_of (reverse-append e.others (e.last ∷ []))
    ∙ run_other e.last (reverse e.others) (not_true (is TableLine e.last.0) (λ h. none e.others e.last e.are (sym (same_kind TableLine e.last.0 h))))

all_lines : (us : List KindedToken) → All (λ token. token.0 ≡ TableLine) us → AllPass (is TableLine) us
all_lines [] h = tt
all_lines (u ∷ us) h =
    (ap (is TableLine) (All-head (λ (token : KindedToken). token.0 ≡ TableLine) u us h), all_lines us (All-tail (λ (token : KindedToken). token.0 ≡ TableLine) u us h))

-- the tokens that a state has recorded
gone_over : (source : List ℕ) (w : ReaderState) (us : List KindedToken) (ahead : Terminal) → (reader_after_all source w us ahead).before ≡ reverse us ++ w.before
gone_over source w [] ahead = refl
gone_over source w (u ∷ us) ahead = gone_over source (reader_after source w u (kind_ahead us ahead)) us ahead ∙ sym (turned u us w.before)

-- ---- tables

module _ (limit : ℕ) (source : List ℕ) (tokens : List KindedToken) (sound : AreTokensFaultless limit source start tokens End) where
  -- the labels that the tokens leave
  abbrev last_labels : List (List ℕ)
  last_labels = (reader_after_all source start tokens End).labels

  module _ (lines : List KindedToken) (k : IsTableOf tokens lines) (others : List KindedToken) (line : Token) (are : lines ≡ others ++ (TableLine, line) ∷ []) where
    abbrev prefix : List KindedToken
    prefix = k.before ++ others

    tokens_are : tokens ≡ prefix ++ ((TableLine, line) ∷ k.following)
    tokens_are =
        k.parts ∙ ap (λ (ls : List KindedToken). (k.before ++ ls) ++ k.following) are ∙ ap (λ (us : List KindedToken). us ++ k.following) (sym (append_assoc k.before others ((TableLine, line) ∷ [])))
        ∙ append_assoc prefix ((TableLine, line) ∷ []) k.following

    abbrev here : ReaderState
    here = reader_after_all source start prefix TableLine

    run_here : run_of here.before ≡ reverse others
    run_here =
        ap run_of (gone_over source start prefix TableLine ∙ append-nil (reverse prefix) ∙ reverse-append k.before others)
        ∙ run_all others (reverse k.before) (pass_prefix (is TableLine) others ((TableLine, line) ∷ []) (subst (λ (us : List KindedToken). AllPass (is TableLine) us) are (all_lines lines k.are_lines)))
        ∙ ap (λ (us : List KindedToken). reverse others ++ us) (run_none k.before k.none_before) ∙ append-nil (reverse others)

    lines_here : lines_with source here.before (TableLine, line) ≡ lines
    lines_here =
        ap (λ (us : List KindedToken). reverse ((TableLine, line) ∷ us)) run_here ∙ reverse-append ((TableLine, line) ∷ []) (reverse others)
        ∙ ap (λ (us : List KindedToken). us ++ (TableLine, line) ∷ []) (reverse-reverse others) ∙ sym are

    abbrev ahead : Terminal
    ahead = kind_ahead k.following End

    no_line_ahead : is TableLine ahead ≡ false
    no_line_ahead = not_true (is TableLine ahead) (λ h. k.none_after (sym (same_kind TableLine ahead h)))

    no_fault_here : (fault : SourceFault) → IsTableLineFault limit source (table_name here.before) here.labels lines fault → ⊥
    no_fault_here fault f =
        sound_at (source_rule (limit, source)) start prefix (TableLine, line) k.following End fault (subst (λ (us : List KindedToken). AreTokensFaultless limit source start us End) tokens_are sound)
        (in_table refl no_line_ahead (subst (λ (ls : List KindedToken). IsTableLineFault limit source (table_name here.before) here.labels ls fault) (sym lines_here) f))

    -- the state after the last line
    abbrev past : ReaderState
    past = reader_after source here (TableLine, line) ahead

    past_labels : past.labels ≡ all_entered here.labels (labels_of_lines source lines)
    past_labels =
        ap (λ b. all_entered here.labels (cond (not b) (labels_of_lines source (lines_with source here.before (TableLine, line))) [])) no_line_ahead
        ∙ ap (λ (ls : List KindedToken). all_entered here.labels (labels_of_lines source ls)) lines_here

    labels_stay : Stay past.labels last_labels
    labels_stay =
        subst (λ (w : ReaderState). Stay past.labels w.labels)
        (sym (ap (λ (us : List KindedToken). reader_after_all source start us End) tokens_are ∙ read_state_append (reader_after source) start prefix ((TableLine, line) ∷ k.following) End))
        (record { stays = λ text n h. labels_kept source past k.following End text n h })

    placed : AreThere last_labels (label_texts (parts_of_tokens source lines))
    placed =
        placed_stay past.labels last_labels labels_stay (labels_of_lines source lines)
        (subst (λ (ls : List (List ℕ)). AreThere ls (labels_of_lines source lines)) (sym past_labels) (entered_there here.labels (labels_of_lines source lines)))

    items_by : AreTableItems limit source last_labels lines (items_given source last_labels lines)
    items_by =
        let whole = sound_table limit here.labels (parts_of_tokens source lines) (λ found first. no_fault_here (record { error = error_of_table found.error; at = found.at }) (inr (found, first, refl))) in
        let cells = placed_table last_labels (map (λ (line : KindedToken). words_of line.1.at.line (token_text source line.1)) lines) placed in
        (entries_in last_labels (parts_of_tokens source lines), entries_there last_labels limit here.labels [] (parts_of_tokens source lines) whole cells, refl)

  -- each table has items
  pub tables_have : HaveItems limit source last_labels tokens
  tables_have = λ lines k. by lines k.some k
    where
      by : (lines : List KindedToken) → lines ≢ [] → IsTableOf tokens lines → AreTableItems limit source last_labels lines (items_given source last_labels lines)
      by [] some k = absurd (some refl)
      by (x ∷ xs) some k =
          let e = ending x xs in
          let pass = subst (λ (us : List KindedToken). AllPass (is TableLine) us) e.are (all_lines (x ∷ xs) k.are_lines) in
          let kind : TableLine ≡ e.last.0 = same_kind TableLine e.last.0 (pass_rest (is TableLine) e.others (e.last ∷ []) pass).0 in
          let are : x ∷ xs ≡ e.others ++ (TableLine, e.last.1) ∷ [] = e.are ∙ ap (λ (t : Terminal). e.others ++ (t, e.last.1) ∷ []) (sym kind) in
          items_by (x ∷ xs) k e.others e.last.1 are

-- ---- sources

module _ (limit : ℕ) (source : List ℕ) (tokens : List KindedToken) (none : (fault : SourceFault) → IsNoProgram limit source tokens fault → ⊥) where
  -- where tokens cease to begin a program, those before are sound
  module _ (prefix rest : List KindedToken) (stops : Stops productions (the Program) tokens prefix rest) where
    sound_on : (before left : List KindedToken) → prefix ≡ before ++ left → AreTokensFaultless limit source start before (kind_ahead left (kind_ahead rest End)) →
        AreTokensFaultless limit source (reader_after_all source start before (kind_ahead left (kind_ahead rest End))) left (kind_ahead rest End)
    sound_on before [] e s = tt
    sound_on before (t ∷ left) e s =
        let ahead = kind_ahead left (kind_ahead rest End) in
        let here : (fault : SourceFault) → IsFaulty limit source (reader_after_all source start before t.0) t ahead fault → ⊥ =
        λ fault f. none fault (record { prefix = prefix; rest = rest; stops = stops; cause = inl (record { before = before; token = t; following = left; parts = e; are_sound = s; is_faulty = f }) }) in
        let more : AreTokensFaultless limit source start (before ++ t ∷ []) ahead = sound_append (source_rule (limit, source)) start before (t ∷ []) ahead s (here, tt) in
        let others = sound_on (before ++ t ∷ []) left (e ∙ sym (append_assoc before (t ∷ []) left)) more in
        (here, subst (λ (w : ReaderState). AreTokensFaultless limit source w left (kind_ahead rest End)) (read_state_append (reader_after source) start before (t ∷ []) ahead) others)

    pub sound_prefix : AreTokensFaultless limit source start prefix (kind_ahead rest End)
    sound_prefix = sound_on [] prefix refl tt

pub record SomeProgram (limit : ℕ) (source : List ℕ) : Type 0 where
  pub view : ProgramView
  pub has : HasProgram limit source view

module _ (limit : ℕ) (source : List ℕ) (none : (fault : SourceFault) → IsSourceFault limit source fault → ⊥) where
  module _ (short : length source ≤ most_source_bytes) (tokens : List Token) (are : IsTokens source tokens) where
    refused : (fault : SourceFault) → IsNoProgram limit source (kinded_tokens source tokens) fault → ⊥
    refused fault r = none fault (inr (inr (record { short = short; tokens = tokens; are_tokens = are; refused = r })))

    not_there : (prefix rest : List KindedToken) → Stops productions (the Program) (kinded_tokens source tokens) prefix rest → RequiresMore prefix rest → ⊥
    not_there prefix rest stops needs =
        refused (unexpected source rest) (record {
          prefix = prefix;
          rest = rest;
          stops = stops;
          cause = inr (record { needs = needs; are_sound = sound_prefix limit source (kinded_tokens source tokens) refused prefix rest stops; is = refl });
        })

    by_end : (tree : Derivation) (rest : List KindedToken) → IsTree productions (the Program) tree → Stops productions (the Program) (kinded_tokens source tokens) (yield tree) rest → (b : Bool) → is End (kind_ahead rest End) ≡ b → SomeProgram limit source
    by_end tree rest is_tree stops true e =
        let at_end : kind_ahead rest End ≡ End = sym (same_kind End (kind_ahead rest End) e) in
        let ended = has_end source tokens are in
        let sound : AreTokensFaultless limit source start (yield tree) End = subst (λ (t : Terminal). AreTokensFaultless limit source start (yield tree) t) at_end (sound_prefix limit source (kinded_tokens source tokens) refused (yield tree) rest stops) in
        let read_state = reader_after_all source start (yield tree) End in
        record {
          view = record { names = read_state.names; labels = read_state.labels; statements = statements_of source read_state.names read_state.labels tree };
          has = record {
            short = short;
            tokens = tokens;
            are_tokens = are;
            is = record {
              tree = tree;
              end = ended.end;
              tokens_are = stops.parts ∙ ap (λ (us : List KindedToken). yield tree ++ us) (end_alone ended tree rest is_tree stops.parts at_end);
              is_tree = is_tree;
              are_sound = sound;
              names_are = refl;
              labels_are = refl;
              tables = tables_have limit source (yield tree) sound;
              statements_are = refl;
            };
          };
        }
    by_end tree rest is_tree stops false e =
        absurd (not_there (yield tree) rest stops (λ at_end d. let no : is End (kind_ahead rest End) ≡ true = ap (is End) at_end in cc))

    by_found : (found : Found KindedToken) → Reads productions look_ahead (the Program) (kinded_tokens source tokens) found → SomeProgram limit source
    by_found (read tree rest) r =
        by_end tree rest (gams_read_tree Program (kinded_tokens source tokens) rest tree r) (gams_read_stops no_token Program (kinded_tokens source tokens) rest tree r) (is End (kind_ahead rest End)) refl
    by_found (stuck prefix rest) r =
        absurd (not_there prefix rest (gams_stuck_stops no_token Program (kinded_tokens source tokens) prefix rest r) (λ at_end d. gams_stuck_none no_token Program (kinded_tokens source tokens) prefix rest r d))

  by_meaning : length source ≤ most_source_bytes → (m : Result (List Token) LexFault) → Means source m → SomeProgram limit source
  by_meaning short (Err f) h =
      absurd (none (lexical_fault f) (inr (inl (record { short = short; lexical = f; is_first = h; is = refl }))))
  by_meaning short (Ok tokens) h = let f = gams_finds Program (kinded_tokens source tokens) in by_found short tokens h f.0 f.1

  -- a source without a fault has a program
  pub program_there : SomeProgram limit source
  program_there =
      elim (cases_lt most_source_bytes (length source)) [
        | inl long ↦ absurd (none (record { error = TooLong; at = record { line = 1; column = 1 } }) (inl (long, refl)))
        | inr short ↦ (let m = means_one source in by_meaning short m.0 m.1)
      ]
