-- The reader of the tokens of a source.
use Rattle.std.proofs.Common.{◌≡◌, ℕ, ◌+◌, ◌-◌, List, [], ◌∷◌, ◌++◌, length, slice_index_or, Result, Ok, Err, MatchResult, refl, sym, ap, ◌∙◌, subst, arith}
use Rattle.std.proofs.lemmas.List.{get_or_push}
use Rattle.gms_lex.specs.declared.token.Token.{Token}
use Rattle.gms_lex.specs.Places.{place_of_byte}
use Rattle.gms_lex.specs.Tokens.{IsTokens, tokens_of, end_token}
use Rattle.gms_grammar.specs.Grammar.{the}
use Rattle.gms_grammar.specs.GamsGrammar.{Nonterminal}
use Rattle.gms_expressions.specs.declared.fault.SyntaxFaultOrMemory.{SyntaxFaultOrMemory}
use Rattle.gms_expressions.specs.declared.reader.Reader.{Reader}
use Rattle.gms_expressions.specs.declared.reader.Tables.{Tables}
use Rattle.gms_expressions.specs.Calls.{IsRead, IsSyntaxRefusal, IsTablePrefix, expression_state, tokens_from}
use Rattle.gms_expressions.specs.InnerReadings.{Derivation, GamsPart, Sense, IsAnswer, Went, read_state_of}
use Rattle.gms_expressions.proofs.Extending.{went_by}
use Rattle.gms_expressions.proofs.ReaderResults.{read_of, refusal_of}

-- a list with one more is one longer
less_one : {T : Type 0} (xs : List T) (y : T) → length xs ≡ length (xs ++ y ∷ []) - 1
less_one [] y = refl
less_one (x ∷ xs) y = let e = less_one_more xs y in omega (arith, e)
  where
    less_one_more : {T : Type 0} (xs : List T) (y : T) → length (xs ++ y ∷ []) ≡ length xs + 1
    less_one_more [] y = refl
    less_one_more (x ∷ xs) y = let e = less_one_more xs y in omega (arith, e)

-- the last token of a source is at its end
pub ends_at : (source : List ℕ) (tokens : List Token) (other : Token) → IsTokens source tokens → (slice_index_or tokens (length tokens - 1) other).at ≡ place_of_byte source (length source)
ends_at source tokens other h =
    ap (λ (ts : List Token). (slice_index_or ts (length ts - 1) other).at) h.has.tokens_are
    ∙ ap (λ (t : Token). t.at) (get_or_push (tokens_of source 0 h.has.pieces) (end_token source) other (length (tokens_of source 0 h.has.pieces ++ end_token source ∷ []) - 1) (less_one (tokens_of source 0 h.has.pieces) (end_token source)))

-- what a call says of what a reader answers
abbrev IsSaid : {T : Type 0} → ℕ → Nonterminal → (List ℕ → List (List ℕ) → List (List ℕ) → Derivation → T → Type 0) → ℕ → Result (T × ℕ) SyntaxFaultOrMemory → List ℕ → List Token → ℕ → List (List ℕ) → List (List ℕ) → List (List ℕ) → List (List ℕ) → Type 0
IsSaid limit n Says at result source tokens unclosed old_names old_labels new_names new_labels =
    MatchResult result
    (λ r. IsRead limit source n (Says source) (expression_state unclosed old_names old_labels) (expression_state unclosed new_names new_labels) (tokens_from source tokens at) (tokens_from source tokens r.1) r.0)
    (λ e. IsSyntaxRefusal limit source n (expression_state unclosed old_names old_labels) (tokens_from source tokens at) e)

module _ {T : Type 0} (limit : ℕ) (Means : List ℕ → Sense → Derivation → T → Type 0) (n : Nonterminal) (Says : List ℕ → List (List ℕ) → List (List ℕ) → Derivation → T → Type 0)
    (says : (source : List ℕ) (names labels : List (List ℕ)) (tree : Derivation) (x : T) → Means source (record { names = names; labels = labels }) tree x → Says source names labels tree x) where
  said : (reader : Reader) (at : ℕ) (old new : Tables) (result : Result (T × ℕ) SyntaxFaultOrMemory) → IsAnswer limit (Means reader.source.now) (the n) reader at old new result →
      IsSaid limit n Says at result reader.source.now reader.tokens.now reader.unclosed old.names old.labels new.names new.labels
  said reader at old new (Ok r) got = read_of got (Says reader.source.now) (λ names labels tree m. says reader.source.now names labels tree r.0 m)
  said reader at old new (Err e) refused = refusal_of e refused

  -- what a reader of the tokens of a source answers, from tables taken from their places and given
  -- back
  pub said_of : {source : List ℕ} {tokens : List Token} {unclosed : ℕ} {old_names old_labels new_names new_labels : List (List ℕ)} (reader : Reader) (at : ℕ) (old new : Tables) (result : Result (T × ℕ) SyntaxFaultOrMemory) →
      reader.source.now ≡ source → reader.tokens.now ≡ tokens → reader.unclosed ≡ unclosed → old.names ≡ old_names → old.labels ≡ old_labels → new_names ≡ new.names → new_labels ≡ new.labels →
      IsAnswer limit (Means reader.source.now) (the n) reader at old new result → IsSaid limit n Says at result source tokens unclosed old_names old_labels new_names new_labels
  said_of {source} {tokens} {unclosed} {old_names} {old_labels} {new_names} {new_labels} reader at old new result a b c d e f g answer =
      subst (λ (x : List ℕ). IsSaid limit n Says at result x tokens unclosed old_names old_labels new_names new_labels) a
      (subst (λ (x : List Token). IsSaid limit n Says at result reader.source.now x unclosed old_names old_labels new_names new_labels) b
      (subst (λ (x : ℕ). IsSaid limit n Says at result reader.source.now reader.tokens.now x old_names old_labels new_names new_labels) c
      (subst (λ (x : List (List ℕ)). IsSaid limit n Says at result reader.source.now reader.tokens.now reader.unclosed x old_labels new_names new_labels) d
      (subst (λ (x : List (List ℕ)). IsSaid limit n Says at result reader.source.now reader.tokens.now reader.unclosed old.names x new_names new_labels) e
      (subst (λ (x : List (List ℕ)). IsSaid limit n Says at result reader.source.now reader.tokens.now reader.unclosed old.names old.labels x new_labels) (sym f)
      (subst (λ (x : List (List ℕ)). IsSaid limit n Says at result reader.source.now reader.tokens.now reader.unclosed old.names old.labels new.names x) (sym g)
      (said reader at old new result answer)))))))

-- whatever a reader of the tokens of a source answers, it extends its tables
went : {T : Type 0} (limit : ℕ) (Means : Sense → Derivation → T → Type 0) (part : GamsPart) (reader : Reader) (at : ℕ) (old new : Tables) (result : Result (T × ℕ) SyntaxFaultOrMemory) → IsAnswer limit Means part reader at old new result → Went (read_state_of reader.unclosed old) new
went limit Means part reader at old new (Ok r) got = went_by got.gives
went limit Means part reader at old new (Err e) refused = refused.went

pub went_on : {T : Type 0} (limit : ℕ) (Means : Sense → Derivation → T → Type 0) (part : GamsPart) {old_names old_labels new_names new_labels : List (List ℕ)} (reader : Reader) (at : ℕ) (old new : Tables) (result : Result (T × ℕ) SyntaxFaultOrMemory) →
    old.names ≡ old_names → old.labels ≡ old_labels → new_names ≡ new.names → new_labels ≡ new.labels → IsAnswer limit Means part reader at old new result → IsTablePrefix old_names new_names × IsTablePrefix old_labels new_labels
went_on limit Means part {old_names} {old_labels} {new_names} {new_labels} reader at old new result a b c d answer =
    let w = went limit Means part reader at old new result answer in
    (subst (λ ns. IsTablePrefix ns new_names) a (subst (λ ns. IsTablePrefix old.names ns) (sym c) w.0), subst (λ ls. IsTablePrefix ls new_labels) b (subst (λ ls. IsTablePrefix old.labels ls) (sym d) w.1))
