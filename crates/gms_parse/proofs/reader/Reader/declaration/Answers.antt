use Rattle.gms_expressions.proofs.Signs.{handed_on}
use Rattle.gms_parse.proofs.Steps.{refuses_first}
use Rattle.gms_parse.proofs.Nexts.{refuses_lacking}
use Rattle.gms_parse.proofs.Declarations.{keyword_starts, keyword_tableless, declaration_got, declaration_refused}
use Rattle.gms_parse.proofs.Views.{view-Declare}
use Rattle.gms_parse.proofs.reader.Reader.declaration.Goals as goal

pub returns-in_err-start : goal.returns-in_err-start
returns-in_err-start g c declaring read_state h = handed_on _ _ c.from_residual.result _ c.from_residual.ensures.1 (refuses_first (refuses_lacking c.in_err-start.ensures))

pub returns-in_err-items : goal.returns-in_err-items
returns-in_err-items g c declaring read_state h =
    let n = c.in_ok-start.ensures.next in
    handed_on _ _ c.from_residual-in_err-items.result _ c.from_residual-in_err-items.ensures.1 (declaration_refused c.args.keyword declaring h n (c.in_err-items.ensures _ (keyword_starts c.args.keyword declaring h n) (keyword_tableless c.args.keyword declaring h n)))

pub returns : goal.returns
returns g c declaring read_state h =
    let n = c.in_ok-start.ensures.next in
    declaration_got c.args.keyword declaring h n g.F.ExactField.value c.args.kind c.args.form _ (view-Declare g.F.ExactField.value c.args.kind c.in_ok-items.items) (c.in_ok-items.ensures _ (keyword_starts c.args.keyword declaring h n) (keyword_tableless c.args.keyword declaring h n))
