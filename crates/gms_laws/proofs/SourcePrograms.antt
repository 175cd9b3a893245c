-- The program of a source, computed.
use Rattle.std.proofs.lemmas.Bool.{and_from, and_parts}
use Rattle.std.proofs.Common.{◌≡◌, ℕ, ◌^◌, ◌≤◌, ◌==◌, ◌&&◌, Bool, true, false, nat_le, List, [], ◌∷◌, ◌++◌, length, map, refl, sym, ap, ap₂, ◌∙◌, subst, arith, eqb-true, length-append}
use Rattle.std.proofs.lemmas.List.{map-append}
use Rattle.gms_grammar.specs.Lines.{code_text}
use Rattle.gms_grammar.specs.declared.lexeme.Lexeme.{Lexeme}
use Rattle.gms_lex.specs.declared.mode.Mode.TheVariants.{Code}
use Rattle.gms_lex.specs.declared.token.Token.{Token}
use Rattle.gms_lex.specs.Tokens.{most_source_bytes, end_token}
use Rattle.gms_grammar.specs.declared.terminal.Terminal.TheVariants.{End}
use Rattle.gms_grammar.specs.Grammar.{the, DerivationTree, yield, IsTree}
use Rattle.gms_grammar.specs.GamsGrammar.{Program, productions}
use Rattle.gms_expressions.specs.Outcomes.{kinded_tokens}
use Rattle.gq_number.specs.Number.{Number}
use Rattle.gms_ast.specs.StatementTrees.{Statements}
use Rattle.gms_parse.specs.Outcomes.{ProgramView, HasProgram}
use Rattle.gms_parse.specs.Programs.{statements_of}
use Rattle.gms_parse.specs.ReadStates.{KindedToken, ReaderState, start, reader_after_all}
use Rattle.gms_laws.proofs.LocalTexts.{local_statements, same_statements}
use Rattle.gms_laws.proofs.SourcePieces.{Make, tokens_by, has_sound_lines}
use Rattle.gms_laws.proofs.ShortNumerals.{right}
use Rattle.gms_laws.proofs.SoundTokens.{has_no_table, is_end, all_sound, ended, has_program}
use Rattle.gms_laws.proofs.TextedTokens.{Texted, AreTexts, texted, texts_right, tokens_texted, seen_one, seen_texted, left_by_texts, left_is, sound_by, sound_is}

-- ---- lists

-- two texts are equal
abbrev pub same_text : List ℕ → List ℕ → Bool
same_text [] [] = true
same_text (a ∷ cs) (b ∷ bs) = a == b && same_text cs bs
same_text _ _ = false

equal : (cs bs : List ℕ) → same_text cs bs ≡ true → cs ≡ bs
equal [] [] h = refl
equal [] (b ∷ bs) h = absurd (cc)
equal (a ∷ cs) [] h = absurd (cc)
equal (a ∷ cs) (b ∷ bs) h =
    ap₂ (λ (x : ℕ) (xs : List ℕ). x ∷ xs) (eqb-true a b ((and_parts (a == b) (same_text cs bs) h).0)) (equal cs bs (right (a == b) (same_text cs bs) h))

-- before their last elements equal lists are equal
same_before : (xs ys : List KindedToken) (x y : KindedToken) → xs ++ x ∷ [] ≡ ys ++ y ∷ [] → xs ≡ ys
same_before [] [] x y e = refl
same_before [] (b ∷ ys) x y e =
    let long : 1 ≡ length (b ∷ ys ++ y ∷ []) = ap (λ (l : List KindedToken). length l) e in
    absurd (omega (arith, long, length-append ys (y ∷ [])))
same_before (a ∷ xs) [] x y e =
    let long : length (a ∷ xs ++ x ∷ []) ≡ 1 = ap (λ (l : List KindedToken). length l) e in
    absurd (omega (arith, long, length-append xs (x ∷ [])))
same_before (a ∷ xs) (b ∷ ys) x y e =
    let head : a ≡ b = cc in
    let tail : xs ++ x ∷ [] ≡ ys ++ y ∷ [] = cc in
    ap₂ (λ (z : KindedToken) (zs : List KindedToken). z ∷ zs) head (same_before xs ys x y tail)

-- ---- the program

-- the tokens of a source but the last, with their texts
abbrev pub inner : List ℕ → List Lexeme → List Texted
inner source pieces = texted source 0 (code_text source) pieces

-- the tokens of a source as the grammar sees them
abbrev pub all_seen : List ℕ → List Texted → List KindedToken
all_seen source ts = map seen_one ts ++ (End, end_token source) ∷ []

-- how the program of a derivation is kinded_tokens
abbrev pub view_by : List ℕ → List Texted → DerivationTree KindedToken → ProgramView
view_by source ts tree =
    let read_state = left_by_texts source start ts End in
    record { names = read_state.names; labels = read_state.labels; statements = local_statements source read_state.names read_state.labels tree }

-- the tests that a derivation passes
abbrev pub is_whole : List ℕ → List Texted → List KindedToken → Bool
is_whole source ts rest = is_end rest && (has_no_table (map seen_one ts) && sound_by source start ts End)

-- the tests that a source passes
abbrev pub is_plain : List ℕ → Bool
is_plain source = nat_le (length source) most_source_bytes && (has_sound_lines source && same_text (code_text source) source)

module _ (limit : ℕ) (wide : 10 ^ 9 ≤ limit) (source : List ℕ) (plain : is_plain source ≡ true) (pieces : List Lexeme) (make : Make Code (code_text source) pieces) where
  abbrev ts : List Texted
  ts = inner source pieces

  others : (has_sound_lines source && same_text (code_text source) source) ≡ true
  others = right (nat_le (length source) most_source_bytes) _ plain

  texts : AreTexts source ts
  texts = texts_right source 0 (code_text source) pieces (equal (code_text source) source (right (has_sound_lines source) _ others))

  seen_is : kinded_tokens source (tokens_by source pieces) ≡ all_seen source ts
  seen_is =
      ap (λ (tokens : List Token). kinded_tokens source (tokens ++ end_token source ∷ [])) (sym (tokens_texted source 0 (code_text source) pieces))
      ∙ map-append _ (map (λ (t : Texted). t.0) ts) (end_token source ∷ [])
      ∙ ap (λ (us : List KindedToken). us ++ (End, end_token source) ∷ []) (seen_texted source ts texts)

  pub program_by : (tree : DerivationTree KindedToken) (rest : List KindedToken) → IsTree productions (the Program) tree × (all_seen source ts ≡ yield tree ++ rest) → is_whole source ts rest ≡ true → HasProgram limit source (view_by source ts tree)
  program_by tree rest read h =
      let end_is = (and_parts (is_end rest) _ h).0 in
      let tests = right (is_end rest) _ h in
      let no_table = (and_parts (has_no_table (map seen_one ts)) _ tests).0 in
      let sound = right (has_no_table (map seen_one ts)) _ tests in
      let e = ended rest end_is in
      let yields : map seen_one ts ≡ yield tree = same_before (map seen_one ts) (yield tree) (End, end_token source) (End, e.end) (read.1 ∙ ap (λ (us : List KindedToken). yield tree ++ us) e.is) in
      let all : all_sound source start (yield tree) End ≡ true = subst (λ (us : List KindedToken). all_sound source start us End ≡ true) yields (sound_is source start ts End texts sound) in
      let none : has_no_table (yield tree) ≡ true = subst (λ (us : List KindedToken). has_no_table us ≡ true) yields no_table in
      let has = has_program limit wide source pieces tree rest ((and_parts (nat_le (length source) most_source_bytes) _ plain).0) ((and_parts (has_sound_lines source) _ others).0) make (read.0, seen_is ∙ read.1) (and_from _ _ end_is (and_from _ _ none all)) in
      let read_state : reader_after_all source start (yield tree) End ≡ left_by_texts source start ts End = ap (λ (us : List KindedToken). reader_after_all source start us End) (sym yields) ∙ sym (left_is source start ts End texts) in
      let following = left_by_texts source start ts End in
      subst (λ (ss : Statements Number). HasProgram limit source (record { names = following.names; labels = following.labels; statements = ss })) (sym (same_statements source following.names following.labels tree))
      (subst (λ (w : ReaderState). HasProgram limit source (record { names = w.names; labels = w.labels; statements = statements_of source w.names w.labels tree })) read_state has)
