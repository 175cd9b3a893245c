-- A line end is a token where what follows does not make it end nothing.
use Rattle.std.proofs.Common.{◌≡◌, ◌-◌, true, false, ℕ, List, length, take, drop, refl, sym, ap, ◌∙◌}
use Rattle.std.proofs.lemmas.Bool.{both_ways, cond-true, cond-false}
use Rattle.std.proofs.lemmas.List.{take_rest}
use Rattle.gms_grammar.specs.declared.kind.Kind.TheVariants.{Break}
use Rattle.gms_grammar.specs.declared.lexeme.Piece.TheVariants.{LineEnd, Token}
use Rattle.gms_grammar.specs.Shapes.{lexeme}
use Rattle.gms_lex.specs.declared.mode.LineEnds.{LineEnds}
use Rattle.gms_lex.specs.declared.mode.LineEnds.TheVariants.{Skipped, EndItem, EndElement}
use Rattle.gms_lex.specs.Pieces.{ends_or_begins, passes, line_end, line_end_length, space_length}
use Rattle.gms_lex.proofs.piece.line_end.Goals as goal
use Rattle.gms_lex.proofs.piece.line_end.Goals.{in-Skipped, in_default}

-- what follows the blanks and line ends makes them one piece, or the line end a token
passed : (ends : LineEnds) (text : List ℕ) → (ends ≡ Skipped → ⊥) → ends_or_begins (passes ends) (drop (space_length text) text) ≡ true → lexeme LineEnd (space_length text) ≡ line_end ends text
passed Skipped text other h = absurd (other refl)
passed EndItem text other h = sym (cond-true _ _ _ h)
passed EndElement text other h = sym (cond-true _ _ _ h)

broken : (ends : LineEnds) (text : List ℕ) → (ends ≡ Skipped → ⊥) → ends_or_begins (passes ends) (drop (space_length text) text) ≡ false → lexeme (Token Break) (line_end_length text) ≡ line_end ends text
broken Skipped text other h = absurd (other refl)
broken EndItem text other h = sym (cond-false _ _ _ h)
broken EndElement text other h = sym (cond-false _ _ _ h)

-- the test of what follows `space` bytes, as the code computes it
test_after : (ends : LineEnds) (text : List ℕ) (space : ℕ) → space ≡ space_length text → ends_or_begins (passes ends) (drop (space_length text) text) ≡ ends_or_begins (passes ends) (take (length text - space) (drop space text))
test_after ends text space h =
    ap (λ n. ends_or_begins (passes ends) (drop n text)) (sym h) ∙ ap (ends_or_begins (passes ends)) (sym (take_rest text space))

pub returns-then-matches : goal.returns-then-matches
returns-then-matches c =
    let text = c.args.text.now in
    let skipped : c.args.ends ≡ Skipped = elim c.match-matches.branch [
      | in-Skipped w ↦ w.in-Skipped.is
      | in_default w ↦ absurd (both_ways c.match-matches.matches w.matches-is c.if-matches.true)
    ] in
    c.lexeme.ensures ∙ ap (lexeme LineEnd) c.line_end_length.ensures ∙ sym (ap (λ (ends : LineEnds). line_end ends text) skipped)

pub returns-then-continues : goal.returns-then-continues
returns-then-continues c =
    let ends = c.args.ends in
    let text = c.args.text.now in
    let space = c.space_length-space.ensures.value in
    let other : ends ≡ Skipped → ⊥ = elim c.match-matches.branch [
      | in-Skipped w ↦ absurd (both_ways c.match-matches.matches c.if-matches.false w.matches-is)
      | in_default w ↦ w.in_default.not-Skipped
    ] in
    c.lexeme-then-continues.ensures ∙ ap (lexeme LineEnd) space ∙ passed ends text other (test_after ends text _ space ∙ sym c.continues.ensures ∙ c.if-continues.true)

pub returns-else-continues : goal.returns-else-continues
returns-else-continues c =
    let ends = c.args.ends in
    let text = c.args.text.now in
    let space = c.space_length-space.ensures.value in
    let other : ends ≡ Skipped → ⊥ = elim c.match-matches.branch [
      | in-Skipped w ↦ absurd (both_ways c.match-matches.matches c.if-matches.false w.matches-is)
      | in_default w ↦ w.in_default.not-Skipped
    ] in
    c.lexeme-else-continues.ensures ∙ ap (lexeme (Token Break)) c.line_end_length-else-continues.ensures ∙ broken ends text other (test_after ends text _ space ∙ sym c.continues.ensures ∙ c.if-continues.false)
