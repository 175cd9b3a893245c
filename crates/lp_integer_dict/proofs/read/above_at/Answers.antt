use Rattle.std.proofs.Common.{rules, ◌≡◌, ◌<◌, pos, length, Some, FitsSigned, to_z, of_z, sym, ◌∙◌, subst, arith}
use Rattle.std.specs.Prelude.{slice_get}
use Rattle.std.specs.Int.{w128}
use Rattle.std.proofs.lemmas.Int.{to_z-of_z}
use Rattle.lp_integer_rows.specs.declared.line.Line.{Line}
use Rattle.lp_integers.specs.Lines.{whole_at}
use Rattle.lp_integer_rows.specs.Form.{wholes}
use Rattle.lp_integer_dict.specs.WithinBound.{IsNumberAbove}
use Rattle.lp_integer_rows.proofs.Plans.{index_get}
use Rattle.lp_integer_dict.proofs.Reading.{pivot_within}
use Rattle.lp_integer_dict.proofs.read.above_at.Goals as goal

pub offset_bounds-lines-k : goal.offset_bounds-lines-k
offset_bounds-lines-k c = let less : c.in-Some.k < length c.args.lines.now = pivot_within c.args.lines.now c.args.deferred c.in-Some.k c.requires.0 c.requires.1 c.in-Some.is c.requires.2 in search rules

pub bounds-lines-k : goal.bounds-lines-k
bounds-lines-k c = pivot_within c.args.lines.now c.args.deferred c.in-Some.k c.requires.0 c.requires.1 c.in-Some.is c.requires.2

pub marked_number_at-requires-clause-line : goal.marked_number_at-requires-clause-line
marked_number_at-requires-clause-line c = (c.requires.2.are_lines c.in-Some.k c.index-lines-k.result (index_get c.args.lines.now c.in-Some.k c.index-lines-k.result c.index-lines-k.result (pivot_within c.args.lines.now c.args.deferred c.in-Some.k c.requires.0 c.requires.1 c.in-Some.is c.requires.2) (sym c.index-lines-k.is))).0

pub marked_number_at-requires-clause-within : goal.marked_number_at-requires-clause-within
marked_number_at-requires-clause-within c =
    let e = (c.requires.2.are_lines c.in-Some.k c.index-lines-k.result (index_get c.args.lines.now c.in-Some.k c.index-lines-k.result c.index-lines-k.result (pivot_within c.args.lines.now c.args.deferred c.in-Some.k c.requires.0 c.requires.1 c.in-Some.is c.requires.2) (sym c.index-lines-k.is))).1 in let f = c.requires.3 in omega arith

pub returns-in-Some : goal.returns-in-Some
returns-in-Some c =
    let fits : FitsSigned w128 c.marked_number_at.result = search rules in
    subst (λ o. IsNumberAbove o c.args.lines.now c.args.column (to_z w128 (of_z w128 c.marked_number_at.result))) (sym c.in-Some.is)
    (λ l at. to_z-of_z w128 c.marked_number_at.result fits ∙ subst (λ (x : Line). c.marked_number_at.result ≡ whole_at (wholes x) c.args.column) (same l at) c.marked_number_at.ensures)
  where
    there : slice_get c.args.lines.now c.in-Some.k ≡ Some c.index-lines-k.result
    there = index_get c.args.lines.now c.in-Some.k c.index-lines-k.result c.index-lines-k.result (pivot_within c.args.lines.now c.args.deferred c.in-Some.k c.requires.0 c.requires.1 c.in-Some.is c.requires.2) (sym c.index-lines-k.is)

    same : (l : Line) → slice_get c.args.lines.now c.in-Some.k ≡ Some l → c.index-lines-k.result ≡ l
    same l at = let e : Some c.index-lines-k.result ≡ Some l = sym there ∙ at in cc

pub returns-in-None : goal.returns-in-None
returns-in-None c = subst (λ o. IsNumberAbove o c.args.lines.now c.args.column (pos 0)) (sym c.in-None.is) tt
