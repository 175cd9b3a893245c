use Rattle.gms_expressions.proofs.Signs.{handed_on}
use Rattle.gms_parse.proofs.Steps.{refuses_first, refuses_second}
use Rattle.gms_parse.proofs.Nexts.{optionless_on, tableless_on}
use Rattle.gms_parse.proofs.Declaring.{refuses_data, data_got}
use Rattle.gms_parse.proofs.reader.Reader.data_item.Goals as goal

pub returns-in_err-named : goal.returns-in_err-named
returns-in_err-named g c read_state s other = handed_on _ _ c.from_residual.result _ c.from_residual.ensures.1 (refuses_data c.args.list (refuses_first (c.in_err-named.ensures g.F.ExactField.limit read_state s)))

pub returns-in_err-domain : goal.returns-in_err-domain
returns-in_err-domain g c read_state s other =
    let n = c.in_ok-named.ensures g.F.ExactField.limit read_state s in
    handed_on _ _ c.from_residual-in_err-domain.result _ c.from_residual-in_err-domain.ensures.1
    (refuses_data c.args.list (refuses_second n.gives (refuses_first (c.in_err-domain.ensures g.F.ExactField.limit n.following n.leaves.has (optionless_on n.leaves.keyword s.optionless) (tableless_on n.leaves.keyword other)))))

pub returns-in_err-items : goal.returns-in_err-items
returns-in_err-items g c read_state s other =
    let n = c.in_ok-named.ensures g.F.ExactField.limit read_state s in
    let d = c.in_ok-domain.ensures g.F.ExactField.limit n.following n.leaves.has (optionless_on n.leaves.keyword s.optionless) (tableless_on n.leaves.keyword other) in
    handed_on _ _ c.from_residual-in_err-items.result _ c.from_residual-in_err-items.ensures.1
    (refuses_data c.args.list (refuses_second n.gives (refuses_second d.gives (c.in_err-items.ensures d.following d.leaves.has (tableless_on d.leaves.keyword (tableless_on n.leaves.keyword other))))))

pub returns : goal.returns
returns g c read_state s other =
    let n = c.in_ok-named.ensures g.F.ExactField.limit read_state s in
    let d = c.in_ok-domain.ensures g.F.ExactField.limit n.following n.leaves.has (optionless_on n.leaves.keyword s.optionless) (tableless_on n.leaves.keyword other) in
    data_got g.F.ExactField.value c.args.list _ c.declared.ensures n d (c.in_ok-items.ensures d.following d.leaves.has (tableless_on d.leaves.keyword (tableless_on n.leaves.keyword other)))
