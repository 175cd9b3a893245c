-- A line without words is passed over.
use Rattle.std.proofs.Common.{◌≤◌, sym, ap, ◌∙◌, subst, arith, eqb-true}
use Rattle.std.specs.Prelude.{All, string_len}
use Rattle.std.proofs.lemmas.List.Elements.{All-tail}
use Rattle.gms_grammar.specs.LineFaults.{longest_line}
use Rattle.gms_table.specs.declared.entry.TableLine.{TableLine}
use Rattle.gms_table.specs.Words.{words_of}
use Rattle.gms_table.specs.InnerShown.{seen_all}
use Rattle.gms_table.proofs.LabelLemmas.{nothing}
use Rattle.gms_table.proofs.TableLemmas.{line_passed}
use Rattle.gms_table.proofs.tables.first_line.Goals as goal

pub loop-line-preserved : goal.loop-line-preserved
loop-line-preserved c = record {
  parts = line_passed c.args.lines.now c.loop-line.rest.now c.in-Some.others.now c.in-Some.line.now (seen_all c.in_ok-words.words.items) c.loop-line.invariant.parts c.in-Some.ensures.cases.0 (c.in_ok-words.ensures.words ∙ ap (words_of c.in-Some.line.now.line) c.as_bytes.ensures.value) (ap seen_all (nothing c.in_ok-words.words.items (omega (arith, c.in_ok-words.words.ok.0, eqb-true _ 0 (sym c.if-not-is_empty.ensures)))));
  short = All-tail (λ (line : TableLine). string_len line.text ≤ longest_line) c.in-Some.line.now c.in-Some.others.now (subst (All (λ (line : TableLine). string_len line.text ≤ longest_line)) c.in-Some.ensures.cases.0 c.loop-line.invariant.short);
}

pub returns-then-not-is_empty-clause-short : goal.returns-then-not-is_empty-clause-short
returns-then-not-is_empty-clause-short c = All-tail (λ (line : TableLine). string_len line.text ≤ longest_line) c.in-Some.line.now c.in-Some.others.now (subst (All (λ (line : TableLine). string_len line.text ≤ longest_line)) c.in-Some.ensures.cases.0 c.loop-line.invariant.short)
