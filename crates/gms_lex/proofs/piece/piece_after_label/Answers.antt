-- The tests decide which piece it is.
use Rattle.std.proofs.Common.{◌≡◌, ◌&&◌, false, not, sym, ap, ◌∙◌}
use Rattle.std.proofs.lemmas.Bool.{eq-eqb, ne_eqb, cond-true, cond-false, and_from, and_left, and_right}
use Rattle.gms_grammar.specs.Lines.{begins}
use Rattle.gms_lex.specs.Pieces.{is_element_mark, begins_value_dot}
use Rattle.gms_lex.proofs.piece.piece_after_label.Goals as goal
use Rattle.gms_lex.proofs.piece.piece_after_label.Goals.{else-begins_element_mark-via-then-begins_element_mark+else-not-begins_value_dot, else-begins_element_mark-via-else-begins_element_mark}

pub returns-then-not-begins_value_dot : goal.returns-then-not-begins_value_dot
returns-then-not-begins_value_dot c =
    let mark = sym c.begins_element_mark.ensures ∙ c.if-begins_element_mark.true in
    let no_dot = sym c.begins_value_dot.ensures ∙ c.if-not-begins_value_dot.true in
    c.read_symbol.ensures ∙ sym (cond-true _ _ _ (and_from _ _ mark (ap not no_dot)))

pub returns-then-depth-eq0 : goal.returns-then-depth-eq0
returns-then-depth-eq0 c =
    let mark = begins is_element_mark c.args.text.now in
    let no_dot = not (begins_value_dot c.args.shape c.args.depth c.args.stage c.args.text.now) in
    let no_symbol : (mark && no_dot) ≡ false = elim c.else-begins_element_mark.branch [
      | else-begins_element_mark-via-then-begins_element_mark+else-not-begins_value_dot w ↦ and_right mark no_dot (ap not (sym w.begins_value_dot.ensures ∙ w.if-not-begins_value_dot.false))
      | else-begins_element_mark-via-else-begins_element_mark w ↦ and_left mark no_dot (sym c.begins_element_mark.ensures ∙ w.if-begins_element_mark.false)
    ] in
    c.element_tail.ensures ∙ sym (cond-false _ _ _ no_symbol ∙ cond-true _ _ _ (eq-eqb c.args.depth 0 c.if-depth-eq0.true))

pub returns-else-depth-eq0 : goal.returns-else-depth-eq0
returns-else-depth-eq0 c =
    let mark = begins is_element_mark c.args.text.now in
    let no_dot = not (begins_value_dot c.args.shape c.args.depth c.args.stage c.args.text.now) in
    let no_symbol : (mark && no_dot) ≡ false = elim c.else-begins_element_mark.branch [
      | else-begins_element_mark-via-then-begins_element_mark+else-not-begins_value_dot w ↦ and_right mark no_dot (ap not (sym w.begins_value_dot.ensures ∙ w.if-not-begins_value_dot.false))
      | else-begins_element_mark-via-else-begins_element_mark w ↦ and_left mark no_dot (sym c.begins_element_mark.ensures ∙ w.if-begins_element_mark.false)
    ] in
    c.label_token.ensures ∙ sym (cond-false _ _ _ no_symbol ∙ cond-false _ _ _ (ne_eqb c.args.depth 0 c.if-depth-eq0.false))
