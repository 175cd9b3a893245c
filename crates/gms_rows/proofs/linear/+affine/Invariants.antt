use Rattle.std.proofs.Common.{◌≡◌, option_map, drop, take, length}
use Rattle.gms_ast.specs.TreeView.{tree_of}
use Rattle.gms_rows.specs.Forms.{form_in}
use Rattle.gms_rows.specs.InnerContracts.{parts_in, added_at, chain_form}
use Rattle.gms_rows.proofs.Parts.{following}
use Rattle.gms_rows.proofs.linear.+affine.Given as goal

abbrev pub invariant-add_elements-loop-element : goal.invariant-add_elements-loop-element
invariant-add_elements-loop-element g l =
    (added_at g.F.ExactField.value g.F.ExactField.limit l.store l.at l.b l.sets (tree_of l.body) (form_in g.F.ExactField.value l.fn.so_far) l.elements ≡ added_at g.F.ExactField.value g.F.ExactField.limit l.store l.at l.b l.sets (tree_of l.body) (form_in g.F.ExactField.value l.so_far) (drop l.element-index l.elements))
    × (take (length l.b) l.inner ≡ l.b)

abbrev pub invariant-chain-loop-at : goal.invariant-chain-loop-at
invariant-chain-loop-at g l =
    chain_form g.F.ExactField.value g.F.ExactField.limit l.store l.b l.kind (parts_in l.parts) ≡ following g.F.ExactField.value g.F.ExactField.limit l.store l.b l.kind (drop l.at-index l.rest) (option_map (form_in g.F.ExactField.value) l.so_far)
