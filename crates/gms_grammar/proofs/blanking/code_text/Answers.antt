-- One line more was read and searched.
use Rattle.std.proofs.Common.{◌≡◌, ◌+◌, ◌++◌, false, length, sym, ap, ◌∙◌, arith, length-append}
use Rattle.std.specs.Option.{option_or}
use Rattle.gms_grammar.specs.Lines.{lines, code_of, code_text, class_of, inside_after, read_as}
use Rattle.gms_grammar.specs.InnerLineSearch.{first_in_line, first_in_lines}
use Rattle.gms_grammar.proofs.FirstLemmas.{code_step, fault_step, fault_whole, length-read_as}
use Rattle.gms_grammar.proofs.blanking.code_text.Goals as goal

pub loop-line-preserved : goal.loop-line-preserved
loop-line-preserved c =
    let first = c.in-Some.ensures.first in
    let line = c.in-Some.line.now in
    let inside = c.loop-line.inside in
    let class = c.class_of.result in
    let class_is : class ≡ class_of inside line = c.class_of.ensures in
    let new : c.append_line.new.code.items ≡ c.loop-line.text.items ++ read_as class line = c.in_ok-append_line.ensures in
    let then : c.inside_after-inside.result ≡ inside_after inside line = c.inside_after-inside.ensures in
    let text : (c.loop-line.text.items ++ read_as (class_of inside line) line) ++ code_of (inside_after inside line) (lines c.in-Some.others.now) ≡ code_text c.args.source.now = code_step c.loop-line.text.items inside line (lines c.in-Some.others.now) (lines c.loop-line.rest.now) (code_text c.args.source.now) first c.loop-line.invariant.text in
    let fault : option_or (option_or c.loop-line.fault (first_in_line c.loop-line.start inside line (lines c.in-Some.others.now))) (first_in_lines (c.loop-line.start + length line) (inside_after inside line) (lines c.in-Some.others.now)) ≡ first_in_lines 0 false (lines c.args.source.now) = fault_step c.loop-line.fault c.loop-line.start inside line (lines c.in-Some.others.now) (lines c.loop-line.rest.now) _ first c.loop-line.invariant.fault in
    record {
      start = omega (arith, c.in-Some.ensures.whole, c.loop-line.invariant.start);
      text = rw (then, new, class_is) text;
      as_long = rw new (omega (arith, length-append c.loop-line.text.items (read_as class line), length-read_as class line, c.loop-line.invariant.as_long));
      fault = rw (then, c.or-fault.ensures, c.first_in_line.ensures) fault;
    }

pub returns-clause-fault : goal.returns-clause-fault
returns-clause-fault c =
    fault_whole c.loop-line.fault c.loop-line.start c.loop-line.inside c.args.source.now (ap (λ rest. option_or c.loop-line.fault (first_in_lines c.loop-line.start c.loop-line.inside (lines rest))) (sym c.in_default.ensures.none) ∙ c.loop-line.invariant.fault)
