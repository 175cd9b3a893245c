use Rattle.std.proofs.Common.{rules, arith, subst, sym, ◌<◌, length}
use Rattle.gms_grammar.specs.Lines.{is_line_end}
use Rattle.gms_grammar.proofs.LineLemmas.{before-le-length}
use Rattle.gms_list.proofs.Echoes.{after_shorter, after_lines}
use Rattle.gms_list.proofs.echo.text_after_line.Goals as goal

pub slice_bounds-text_after_end-count : goal.slice_bounds-text_after_end-count
slice_bounds-text_after_end-count c = let h = before-le-length is_line_end c.args.text.now in omega (arith, h, c.requires.end)

pub slice_bounds-text_after_end-start : goal.slice_bounds-text_after_end-start
slice_bounds-text_after_end-start c = let h = before-le-length is_line_end c.args.text.now in search (rules, slice_bounds-text_after_end-count c)

pub returns-clause-shorter : goal.returns-clause-shorter
returns-clause-shorter c = subst (λ x. length x < length c.args.text.now) (sym c.text_after_end.ensures) (after_shorter c.args.text.now c.args.count c.requires.some)

pub returns-clause-lines : goal.returns-clause-lines
returns-clause-lines c = after_lines c.args.text.now c.text_after_end.result.now c.args.count c.requires.some c.requires.end c.text_after_end.ensures
