use Rattle.std.proofs.Common.{◌∙◌, ap, sym, codes, if◌then◌else◌}
use Rattle.gms_list.proofs.Signs.{below_tested}
use Rattle.gms_list.proofs.equations.term_sign.Goals as goal

pub returns-then-sign-lt0 : goal.returns-then-sign-lt0
returns-then-sign-lt0 g c = ap (λ b. if b then codes " - " else codes " + ") (sym c.if-sign-lt0.true ∙ below_tested (g.F.ExactField.value c.args.x) c.sign.result c.sign.ensures)

pub returns-else-sign-lt0 : goal.returns-else-sign-lt0
returns-else-sign-lt0 g c = ap (λ b. if b then codes " - " else codes " + ") (sym c.if-sign-lt0.false ∙ below_tested (g.F.ExactField.value c.args.x) c.sign.result c.sign.ensures)
