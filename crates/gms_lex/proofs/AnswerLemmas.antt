-- What two passes over a source answer: its tokens, or its first fault.
use Rattle.std.proofs.Common.{◌≡◌, ◌⊎◌, inl, inr, ℕ, ◌+◌, ◌≤◌, ◌==◌, Bool, true, false, if◌then◌else◌, List, [], ◌∷◌, ◌++◌, length, Option, Some, None, Result, Ok, Err, refl, sym, ap, ◌∙◌, subst, arith}
use Rattle.gms_labels.specs.declared.place.Place.{Place}
use Rattle.gms_grammar.specs.declared.fault.LexError.{LexError}
use Rattle.gms_grammar.specs.declared.fault.LexError.TheVariants.{BadByte, OpenQuote, OpenText, LongLabel, LongLine, UnknownControl}
use Rattle.gms_grammar.specs.declared.fault.ByteFault.{ByteFault}
use Rattle.gms_grammar.specs.Errors.{lex_error_code, IsBefore, IsFirstFault}
use Rattle.gms_grammar.specs.Lines.{lines, code_text}
use Rattle.gms_grammar.specs.LineFaults.{IsLineFault}
use Rattle.gms_grammar.specs.InnerLineSearch.{first_in_lines}
use Rattle.gms_grammar.proofs.FirstLemmas.{source-first, fault_within}
use Rattle.gms_lex.specs.declared.mode.Mode.TheVariants.{Code}
use Rattle.gms_lex.specs.declared.token.Token.{Token}
use Rattle.gms_lex.specs.declared.fault.LexFault.{LexFault}
use Rattle.gms_lex.specs.Places.{place_of_byte}
use Rattle.gms_lex.specs.Tokens.{IsMadeOf, HasTokens, StopsAt, IsByteFault, IsTokens, IsLexFault, Means, tokens_of, end_token, bytes_of_pieces}
use Rattle.gms_lex.specs.InnerReadings.{is_before, earlier, IsReading}
use Rattle.gms_lex.proofs.FaultLemmas.{first_of_both}
use Rattle.gms_lex.proofs.ReadingLemmas.{reads, ReadsTo, HasTokens-unique, stop-first, reading-first}

-- the first fault of both passes
first_of_passes : (source : List ℕ) (a : Option ByteFault) (tokens : List Token) (b : Option ByteFault) → IsFirstFault (IsLineFault source) a → IsReading source (code_text source) tokens b → IsFirstFault (IsByteFault source) (earlier a b)
first_of_passes source a tokens b p q = first_of_both (IsLineFault source) (StopsAt (code_text source)) a b p (reading-first source (code_text source) tokens b q)

choice_some : (b : Bool) (f g : ByteFault) → (if b then Some f else Some g) ≡ None → ⊥
choice_some true f g e = cc
choice_some false f g e = cc

choice_is : (b : Bool) (f g h : ByteFault) → (if b then Some f else Some g) ≡ Some h → (Some f ≡ Some h) ⊎ (Some g ≡ Some h)
choice_is true f g h e = inl e
choice_is false f g h e = inr e

some_none : (f : ByteFault) → Some f ≡ None → ⊥
some_none f e = let z : ⊥ = cc in z

none_earlier : (a b : Option ByteFault) → earlier a b ≡ None → b ≡ None
none_earlier None b e = e
none_earlier (Some f) None e = cc
none_earlier (Some f) (Some g) e = absurd (choice_some (is_before f g) f g e)

-- without a fault these are the tokens
pub answers_tokens : (source : List ℕ) (a : Option ByteFault) (tokens : List Token) (b : Option ByteFault) → IsFirstFault (IsLineFault source) a → IsReading source (code_text source) tokens b → earlier a b ≡ None → IsTokens source tokens
answers_tokens source a tokens b p q e = record {
  sound = subst (IsFirstFault (IsByteFault source)) e (first_of_passes source a tokens b p q);
  has = subst (IsReading source (code_text source) tokens) (none_earlier a b e) q;
}

-- the earlier of both faults is the first of the source
pub answers_fault : (source : List ℕ) (a : Option ByteFault) (tokens : List Token) (b : Option ByteFault) (f : ByteFault) → IsFirstFault (IsLineFault source) a → IsReading source (code_text source) tokens b → earlier a b ≡ Some f → IsLexFault source record { error = f.error; at = place_of_byte source f.at }
answers_fault source a tokens b f p q e =
    let first : IsFirstFault (IsByteFault source) (Some f) = subst (IsFirstFault (IsByteFault source)) e (first_of_passes source a tokens b p q) in
    record { byte = f.at; at = refl; occurs = first.0; first = first.1 }

some_cases : (a b : Option ByteFault) (f : ByteFault) → earlier a b ≡ Some f → (a ≡ Some f) ⊎ (b ≡ Some f)
some_cases None b f e = inr e
some_cases (Some g) None f e = inl e
some_cases (Some g) (Some h) f e = choice_is (is_before g h) g h f e

-- a fault is at a byte of the source, or at its end
pub answers_within : (source : List ℕ) (a : Option ByteFault) (tokens : List Token) (b : Option ByteFault) (f : ByteFault) → length (code_text source) ≡ length source → IsFirstFault (IsLineFault source) a → IsReading source (code_text source) tokens b → earlier a b ≡ Some f → f.at ≤ length source
answers_within source a tokens b f long p q e = elim (some_cases a b f e) [
  | inl h ↦ let first : IsFirstFault (IsLineFault source) (Some f) = subst (IsFirstFault (IsLineFault source)) h p in omega (arith, fault_within source f first.0)
  | inr h ↦ let read : IsReading source (code_text source) tokens (Some f) = subst (IsReading source (code_text source) tokens) h q in omega (arith, read.1)
]

-- the meaning of a source, by its first fault
meaning_by_first : (source : List ℕ) (r : Option ByteFault) → IsFirstFault (IsByteFault source) r → (r ≡ None → (tokens : List Token) × HasTokens source (code_text source) tokens) → (meaning : Result (List Token) LexFault) × Means source meaning
meaning_by_first source None first has = let tokens = has refl in (Ok tokens.0, record { sound = first; has = tokens.1 })
meaning_by_first source (Some f) first has = (Err record { error = f.error; at = place_of_byte source f.at }, record { byte = f.at; at = refl; occurs = first.0; first = first.1 })

-- each source has tokens or a first fault
pub means_one : (source : List ℕ) → (meaning : Result (List Token) LexFault) × Means source meaning
means_one source =
    let text = code_text source in
    let lines_first = first_in_lines 0 false (lines source) in
    let read : ReadsTo Code text = reads (length text) Code text (omega arith) in
    elim read.ends [
      | inl none ↦
          let has : HasTokens source text (tokens_of source 0 read.pieces ++ end_token source ∷ []) = record { pieces = read.pieces; last = read.last; made = subst (IsMadeOf Code text read.pieces read.last) none read.made; tokens_are = refl } in
          meaning_by_first source (earlier lines_first None) (first_of_both (IsLineFault source) (StopsAt text) lines_first None (source-first source) (reading-first source text _ None has)) (λ _. (_, has))
      | inr (m, stops, some) ↦
          let fault : ByteFault = record { at = bytes_of_pieces read.pieces + m.ahead; error = m.error } in
          let stop : StopsAt text fault = record { pieces = read.pieces; last = read.last; rest = read.rest; misread = m; made = read.made; some = some; stops = stops; at = refl; error = refl } in
          meaning_by_first source (earlier lines_first (Some fault)) (first_of_both (IsLineFault source) (StopsAt text) lines_first (Some fault) (source-first source) (stop-first text fault stop)) (λ e. let none : Some fault ≡ None = none_earlier lines_first (Some fault) e in absurd (some_none fault none))
    ]

-- the error with a number
error_of : ℕ → LexError
error_of n = if n == 1 then BadByte else (if n == 2 then OpenQuote else (if n == 3 then OpenText else (if n == 4 then LongLabel else (if n == 5 then LongLine else UnknownControl))))

error_back : (e : LexError) → error_of (lex_error_code e) ≡ e
unfolding error_of
error_back BadByte = refl
error_back OpenQuote = refl
error_back OpenText = refl
error_back LongLabel = refl
error_back LongLine = refl
error_back UnknownControl = refl

-- two faults of which each comes before the other are one
same_fault : (f g : ByteFault) → IsBefore f g → IsBefore g f → (f.at ≡ g.at) × (f.error ≡ g.error)
same_fault f g (inl a) (inl b) = absurd (omega arith)
same_fault f g (inl a) (inr b) = absurd (omega (arith, b.0))
same_fault f g (inr a) (inl b) = absurd (omega (arith, a.0))
same_fault f g (inr a) (inr b) =
    let code : lex_error_code f.error ≡ lex_error_code g.error = omega (arith, a.1, b.1) in
    (a.0, sym (error_back f.error) ∙ ap error_of code ∙ error_back g.error)

-- a source has one list of tokens at most, or one first fault, and not both
pub means_only : (source : List ℕ) (one other : Result (List Token) LexFault) → Means source one → Means source other → one ≡ other
means_only source (Ok ts) (Ok us) p q = let same = HasTokens-unique source (code_text source) ts us p.has q.has in cc
means_only source (Ok ts) (Err f) p q = absurd (p.sound record { at = q.byte; error = f.error } q.occurs)
means_only source (Err f) (Ok ts) p q = absurd (q.sound record { at = p.byte; error = f.error } p.occurs)
means_only source (Err f) (Err g) p q =
    let same = same_fault record { at = p.byte; error = f.error } record { at = q.byte; error = g.error } (p.first record { at = q.byte; error = g.error } q.occurs) (q.first record { at = p.byte; error = f.error } p.occurs) in
    let place : f.at ≡ g.at = p.at ∙ ap (place_of_byte source) same.0 ∙ sym q.at in
    let fault : f ≡ g = ap (λ (e : LexError). (let h : LexFault = record { error = e; at = f.at } in h)) same.1 ∙ ap (λ (at : Place). (let h : LexFault = record { error = g.error; at = at } in h)) place in
    cc
