use Rattle.std.proofs.Common.{ap, map, ◌∙◌}
use Rattle.gms_ast.specs.StatementView.{item_in}
use Rattle.gms_grammar.specs.GamsGrammar.{ScalarItem}
use Rattle.gms_expressions.proofs.Signs.{handed_on}
use Rattle.gms_parse.proofs.Steps.{refuses_the, refuses_first, refuses_second}
use Rattle.gms_parse.proofs.Declaring.{scalar_got}
use Rattle.gms_parse.proofs.reader.Reader.scalar_item.Goals as goal

pub returns-in_err-named : goal.returns-in_err-named
returns-in_err-named g c read_state s other = handed_on _ _ c.from_residual.result _ c.from_residual.ensures.1 (refuses_the ScalarItem (refuses_first (c.in_err-named.ensures g.F.ExactField.limit read_state s)))

pub returns-in_err-items : goal.returns-in_err-items
returns-in_err-items g c read_state s other =
    let n = c.in_ok-named.ensures g.F.ExactField.limit read_state s in
    handed_on _ _ c.from_residual-in_err-items.result _ c.from_residual-in_err-items.ensures.1 (refuses_the ScalarItem (refuses_second n.gives (c.in_err-items.ensures _ n.following n.leaves.has)))

pub returns : goal.returns
returns g c read_state s other =
    let n = c.in_ok-named.ensures g.F.ExactField.limit read_state s in
    scalar_got g.F.ExactField.value _ (c.declared.ensures ∙ ap (λ xs. record { named = c.in_ok-named.named; domain = xs; items = map (item_in g.F.ExactField.value) c.in_ok-items.items.items }) c.new.ensures.items) n (c.in_ok-items.ensures _ n.following n.leaves.has)
