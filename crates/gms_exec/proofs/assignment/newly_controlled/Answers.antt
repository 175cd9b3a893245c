use Rattle.std.proofs.Common.{refl, rules, ap, sym, ◌∙◌}
use Rattle.gms_ast.specs.TreeView.{index_tree, indices_of}
use Rattle.std.proofs.Common.{map}
use Rattle.gms_rows.specs.Rows.{sets_among}
use Rattle.gms_exec.proofs.LeftSides.{noting, noting-start, noting-more, noting-end}
use Rattle.gms_exec.proofs.assignment.newly_controlled.Goals as goal

pub loop-index-init : goal.loop-index-init
loop-index-init g c =
    noting-start c.args.b.now (indices_of (map index_tree c.args.indices.now)) ∙ ap (λ done. noting c.args.b.now done (sets_among (indices_of (map index_tree c.args.indices.now)))) (sym c.new-sets.ensures.items)

pub returns-in_err-note_index : goal.returns-in_err-note_index
returns-in_err-note_index g c = search rules

pub loop-index-preserved : goal.loop-index-preserved
loop-index-preserved g c =
    noting-more c.args.b.now c.args.indices.now _ c.loop-index.sets.items c.note_index.new.sets.items c.loop-index.index-index c.index-item.result _ c.loop-index-test.true c.index-item.is c.loop-index.invariant refl c.in_ok-note_index.ensures

pub returns : goal.returns
returns g c = noting-end c.args.b.now c.args.indices.now _ c.loop-index.sets.items c.loop-index.index-index c.loop-index-test.false c.loop-index.invariant
