use Rattle.gms_expressions.proofs.Signs.{handed_on}
use Rattle.std.proofs.Common.{◌∙◌, sym, ap, refl}
use Rattle.gms_grammar.specs.Terminals.{is}
use Rattle.gms_grammar.specs.GamsGrammar.{SolveStatement}
use Rattle.gms_grammar.specs.declared.terminal.Terminal.TheVariants.{Solve, Option}
use Rattle.gms_parse.proofs.Steps.{refuses_the, refuses_first, refuses_second}
use Rattle.gms_parse.proofs.Nexts.{refuses_lacking, gives_exact, begun_starts}
use Rattle.gms_parse.proofs.Acts.{using_refused, aim_refused, using_solved, objective_refused, method_refused, aim_solved}
use Rattle.gms_parse.proofs.reader.Reader.solve.Goals as goal

pub returns-in_err-next : goal.returns-in_err-next
returns-in_err-next g c read_state h = handed_on _ _ c.from_residual.result _ c.from_residual.ensures.1 (refuses_the SolveStatement (refuses_first (refuses_lacking c.in_err-next.ensures)))

pub returns-in_err-model : goal.returns-in_err-model
returns-in_err-model g c read_state h =
    let n = c.in_ok-next.ensures.next in
    handed_on _ _ c.from_residual-in_err-model.result _ c.from_residual-in_err-model.ensures.1
    (refuses_the SolveStatement (refuses_second (gives_exact n refl) (refuses_first (c.in_err-model.ensures g.F.ExactField.limit _ (begun_starts c.args.self.now read_state Solve c.in_ok-next.ensures.token c.in_ok-next.next refl refl refl refl h)))))

pub returns-in_err-method : goal.returns-in_err-method
returns-in_err-method g c read_state h =
    let n = c.in_ok-next.ensures.next in
    let m = c.in_ok-model.ensures g.F.ExactField.limit _ (begun_starts c.args.self.now read_state Solve c.in_ok-next.ensures.token c.in_ok-next.next refl refl refl refl h) in
    handed_on _ _ c.from_residual-in_err-method.result _ c.from_residual-in_err-method.ensures.1
    (using_refused g.F.ExactField.value n m (sym c.is_next.ensures ∙ c.if-is_next.true) (c.in_err-method.ensures g.F.ExactField.limit _ m.following m.leaves.has))

pub returns-in_err-maximize : goal.returns-in_err-maximize
returns-in_err-maximize g c read_state h =
    let n = c.in_ok-next.ensures.next in
    let m = c.in_ok-model.ensures g.F.ExactField.limit _ (begun_starts c.args.self.now read_state Solve c.in_ok-next.ensures.token c.in_ok-next.next refl refl refl refl h) in
    let k = ap (is Option) m.leaves.keyword in
    let u = c.in_ok-method.ensures g.F.ExactField.limit _ m.following m.leaves.has in
    handed_on _ _ c.from_residual-in_err-maximize.result _ c.from_residual-in_err-maximize.ensures.1
    (aim_refused g.F.ExactField.value n m (sym c.is_next.ensures ∙ c.if-is_next.true) u (c.in_err-maximize.ensures g.F.ExactField.limit u.following u.leaves.has (ap (is Option) u.leaves.keyword ∙ k)))

pub returns-then-is_next : goal.returns-then-is_next
returns-then-is_next g c read_state h =
    let n = c.in_ok-next.ensures.next in
    let m = c.in_ok-model.ensures g.F.ExactField.limit _ (begun_starts c.args.self.now read_state Solve c.in_ok-next.ensures.token c.in_ok-next.next refl refl refl refl h) in
    let k = ap (is Option) m.leaves.keyword in
    let u = c.in_ok-method.ensures g.F.ExactField.limit _ m.following m.leaves.has in
    using_solved g.F.ExactField.value n m (sym c.is_next.ensures ∙ c.if-is_next.true) u (c.in_ok-maximize.ensures g.F.ExactField.limit u.following u.leaves.has (ap (is Option) u.leaves.keyword ∙ k)) c.solved.result c.solved.ensures

pub returns-in_err-maximize-2 : goal.returns-in_err-maximize-2
returns-in_err-maximize-2 g c read_state h =
    let n = c.in_ok-next.ensures.next in
    let m = c.in_ok-model.ensures g.F.ExactField.limit _ (begun_starts c.args.self.now read_state Solve c.in_ok-next.ensures.token c.in_ok-next.next refl refl refl refl h) in
    let k = ap (is Option) m.leaves.keyword in
    handed_on _ _ c.from_residual-in_err-maximize-2.result _ c.from_residual-in_err-maximize-2.ensures.1
    (objective_refused g.F.ExactField.value n m (sym c.is_next.ensures ∙ c.if-is_next.false) (c.in_err-maximize-2.ensures g.F.ExactField.limit m.following m.leaves.has k))

pub returns-in_err-method-2 : goal.returns-in_err-method-2
returns-in_err-method-2 g c read_state h =
    let n = c.in_ok-next.ensures.next in
    let m = c.in_ok-model.ensures g.F.ExactField.limit _ (begun_starts c.args.self.now read_state Solve c.in_ok-next.ensures.token c.in_ok-next.next refl refl refl refl h) in
    let k = ap (is Option) m.leaves.keyword in
    let o = c.in_ok-maximize-2.ensures g.F.ExactField.limit m.following m.leaves.has k in
    handed_on _ _ c.from_residual-in_err-method-2.result _ c.from_residual-in_err-method-2.ensures.1
    (method_refused g.F.ExactField.value n m (sym c.is_next.ensures ∙ c.if-is_next.false) o (c.in_err-method-2.ensures g.F.ExactField.limit _ o.following o.leaves.has))

pub returns : goal.returns
returns g c read_state h =
    let n = c.in_ok-next.ensures.next in
    let m = c.in_ok-model.ensures g.F.ExactField.limit _ (begun_starts c.args.self.now read_state Solve c.in_ok-next.ensures.token c.in_ok-next.next refl refl refl refl h) in
    let k = ap (is Option) m.leaves.keyword in
    let o = c.in_ok-maximize-2.ensures g.F.ExactField.limit m.following m.leaves.has k in
    aim_solved g.F.ExactField.value n m (sym c.is_next.ensures ∙ c.if-is_next.false) o (c.in_ok-method-2.ensures g.F.ExactField.limit _ o.following o.leaves.has) c.solved-2.result c.solved-2.ensures
