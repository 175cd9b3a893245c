use Rattle.std.proofs.Common.{◌+◌, Vec, Global, None, sym, ◌∙◌, subst}
use Rattle.std.specs.Prelude.{IfSome}
use Rattle.lp_fraction_dict.specs.Pivots.{IsProper}
use Rattle.lp_fraction_dict.specs.Tableau as exact
use Rattle.lp_integer_rows.specs.declared.line.Line.{Line}
use Rattle.lp_integer_rows.specs.Form.{AreLines}
use Rattle.lp_integer_dict.specs.Whole.{whole_dictionary}
use Rattle.lp_dict.specs.InnerConversions.{all_rows, AreLinesOf}
use Rattle.lp_dict.proofs.Parts.{are_lines, same_dictionary, found_same}
use Rattle.lp_dict.proofs.turning.whole_of.Goals as goal

pub of_lines-requires-clause-lines : goal.of_lines-requires-clause-lines
of_lines-requires-clause-lines g c =
    let made = subst (λ o. IfSome o (λ (lines : Vec Line Global). AreLinesOf g.F.ExactField.value (c.args.dict.now.variables + 2) (all_rows c.args.dict.now) lines.items)) c.in-Some.is c.in_ok-lines.ensures in
    subst (λ n. AreLines (n + 2) c.in-Some.lines.items) (sym c.variables.ensures) (are_lines g.F.ExactField.value c.args.dict.now c.keeps.ensures c.in-Some.lines.items made)

pub of_lines-requires-clause-proper : goal.of_lines-requires-clause-proper
of_lines-requires-clause-proper g c =
    let made = subst (λ o. IfSome o (λ (lines : Vec Line Global). AreLinesOf g.F.ExactField.value (c.args.dict.now.variables + 2) (all_rows c.args.dict.now) lines.items)) c.in-Some.is c.in_ok-lines.ensures in
    subst IsProper (sym (same_dictionary g.F.ExactField.value c.args.dict.now c.keeps.ensures c.in-Some.lines.items made c.variables.result c.in_ok-basic.basic.items c.variables.ensures (c.in_ok-basic.ensures.items ∙ c.basic.ensures))) c.keeps.ensures.proper

pub returns-clause-same : goal.returns-clause-same
returns-clause-same g c =
    let made = subst (λ o. IfSome o (λ (lines : Vec Line Global). AreLinesOf g.F.ExactField.value (c.args.dict.now.variables + 2) (all_rows c.args.dict.now) lines.items)) c.in-Some.is c.in_ok-lines.ensures in
    found_same c.of_lines.result (whole_dictionary c.variables.result c.in_ok-basic.basic.items c.in-Some.lines.items None) (exact.fraction_dictionary g.F.ExactField.value c.args.dict.now)
    (same_dictionary g.F.ExactField.value c.args.dict.now c.keeps.ensures c.in-Some.lines.items made c.variables.result c.in_ok-basic.basic.items c.variables.ensures (c.in_ok-basic.ensures.items ∙ c.basic.ensures)) c.of_lines.ensures.dictionary
