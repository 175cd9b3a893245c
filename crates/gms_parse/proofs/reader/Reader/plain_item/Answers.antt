use Rattle.std.proofs.Common.{ap, map, ◌∙◌}
use Rattle.gms_grammar.specs.GamsGrammar.{PlainItem}
use Rattle.gms_ast.specs.StatementView.{item_in}
use Rattle.gms_expressions.proofs.Signs.{handed_on}
use Rattle.gms_parse.proofs.Steps.{refuses_the, refuses_first, refuses_second}
use Rattle.gms_parse.proofs.Nexts.{optionless_on, tableless_on}
use Rattle.gms_parse.proofs.Declaring.{plain_got}
use Rattle.gms_parse.proofs.reader.Reader.plain_item.Goals as goal

pub returns-in_err-named : goal.returns-in_err-named
returns-in_err-named g c read_state s other = handed_on _ _ c.from_residual.result _ c.from_residual.ensures.1 (refuses_the PlainItem (refuses_first (c.in_err-named.ensures g.F.ExactField.limit read_state s)))

pub returns-in_err-domain : goal.returns-in_err-domain
returns-in_err-domain g c read_state s other =
    let n = c.in_ok-named.ensures g.F.ExactField.limit read_state s in
    handed_on _ _ c.from_residual-in_err-domain.result _ c.from_residual-in_err-domain.ensures.1 (refuses_the PlainItem (refuses_second n.gives (c.in_err-domain.ensures g.F.ExactField.limit n.following n.leaves.has (optionless_on n.leaves.keyword s.optionless) (tableless_on n.leaves.keyword other))))

pub returns : goal.returns
returns g c read_state s other =
    let n = c.in_ok-named.ensures g.F.ExactField.limit read_state s in
    plain_got g.F.ExactField.value _ (c.declared.ensures ∙ ap (λ xs. record { named = c.in_ok-named.named; domain = c.in_ok-domain.domain.items; items = map (item_in g.F.ExactField.value) xs }) c.new.ensures.items) n (c.in_ok-domain.ensures g.F.ExactField.limit n.following n.leaves.has (optionless_on n.leaves.keyword s.optionless) (tableless_on n.leaves.keyword other))
