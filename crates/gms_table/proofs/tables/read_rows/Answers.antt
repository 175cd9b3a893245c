-- One line more was read.
use Rattle.std.proofs.Common.{◌≡◌, ◌∷◌, ◌<◌, ◌+◌, ℕ, List, length, get_or, drop, sym, ap, ◌∙◌, subst, arith}
use Rattle.std.proofs.lemmas.List.{at_drop_more, drop_all}
use Rattle.std.proofs.lemmas.Result.{err_from_is_err_and}
use Rattle.gms_table.specs.declared.entry.TableLine.{TableLine}
use Rattle.gms_table.specs.Words.{Word}
use Rattle.gms_table.specs.InnerProgress.{words_in, lines_of, LinesSoFar}
use Rattle.gms_table.proofs.LabelLemmas.{GoesOn-refl, GoesOn-trans}
use Rattle.gms_table.proofs.RowSteps.{lines_begun, lines_read}
use Rattle.gms_table.proofs.tables.read_rows.Goals as goal

-- the words of the remaining lines begin with those of the next line
lines_next : (lines : List TableLine) (i : ℕ) (line : TableLine) → i < length lines → line ≡ get_or lines i line → lines_of (drop i lines) ≡ words_in line ∷ lines_of (drop (i + 1) lines)
lines_next lines i line l is = at_drop_more lines_of lines i line l ∙ ap (λ (next : TableLine). words_in next ∷ lines_of (drop (i + 1) lines)) (sym is)

pub loop-line-init : goal.loop-line-init
loop-line-init g c = record {
  rows = λ labels before names keeps are spaced.
      lines_begun g.F.ExactField.limit g.F.ExactField.value labels before names (lines_of c.args.lines.now) c.args.table.now c.args.entries.now c.args.headings.items keeps are spaced;
  extended = GoesOn-refl c.args.table.now;
}

pub returns-in_err-read_line-clause-rows : goal.returns-in_err-read_line-clause-rows
returns-in_err-read_line-clause-rows g c = λ labels before names keeps are spaced.
    let p = err_from_is_err_and c.from_residual.result c.from_residual.ensures.1 in
    let next = lines_next c.args.lines.now c.loop-line.line-index c.line-item.result c.loop-line-test.true c.line-item.is in
    let refused = c.in_err-read_line.ensures.line labels before names (lines_of c.args.lines.now) (lines_of (drop (c.loop-line.line-index + 1) c.args.lines.now)) (subst (λ (ls : List (List Word)). LinesSoFar g.F.ExactField.limit g.F.ExactField.value labels before names (lines_of c.args.lines.now) ls c.loop-line.table c.loop-line.entries c.loop-line.headings.items) next (c.loop-line.invariant.rows labels before names keeps are spaced)) in
    rw (p.1, p.2) refused

pub loop-line-preserved : goal.loop-line-preserved
loop-line-preserved g c = record {
  rows = λ labels before names keeps are spaced.
      let next = lines_next c.args.lines.now c.loop-line.line-index c.line-item.result c.loop-line-test.true c.line-item.is in
      c.in_ok-read_line.ensures.line labels before names (lines_of c.args.lines.now) (lines_of (drop (c.loop-line.line-index + 1) c.args.lines.now)) (subst (λ (ls : List (List Word)). LinesSoFar g.F.ExactField.limit g.F.ExactField.value labels before names (lines_of c.args.lines.now) ls c.loop-line.table c.loop-line.entries c.loop-line.headings.items) next (c.loop-line.invariant.rows labels before names keeps are spaced));
  extended = GoesOn-trans c.args.table.now c.loop-line.table c.read_line.new.table c.loop-line.invariant.extended c.in_ok-read_line.ensures.extended;
}

pub returns-clause-rows : goal.returns-clause-rows
returns-clause-rows g c = λ labels before names keeps are spaced.
    lines_read g.F.ExactField.limit g.F.ExactField.value labels before names (lines_of c.args.lines.now) (lines_of (drop c.loop-line.line-index c.args.lines.now)) c.loop-line.table c.loop-line.entries c.loop-line.headings.items (ap lines_of (drop_all c.loop-line.line-index c.args.lines.now (omega arith))) (c.loop-line.invariant.rows labels before names keeps are spaced)

pub returns-in_err-read_line-clause-extended : goal.returns-in_err-read_line-clause-extended
returns-in_err-read_line-clause-extended g c = GoesOn-trans c.args.table.now c.loop-line.table c.read_line.new.table c.loop-line.invariant.extended c.in_err-read_line.ensures.extended

pub returns-clause-extended : goal.returns-clause-extended
returns-clause-extended g c = c.loop-line.invariant.extended
