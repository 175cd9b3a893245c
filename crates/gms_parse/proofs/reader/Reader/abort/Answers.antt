use Rattle.gms_expressions.proofs.Signs.{handed_on}
use Rattle.std.proofs.Common.{◌∙◌, sym, refl}
use Rattle.gms_grammar.specs.GamsGrammar.{AbortStatement}
use Rattle.gms_parse.proofs.Steps.{refuses_the, refuses_first, refuses_second}
use Rattle.gms_parse.proofs.Nexts.{refuses_lacking, gives_exact}
use Rattle.gms_parse.proofs.Conditions.{open_starts}
use Rattle.gms_parse.proofs.Acts.{abort_starts, abort_shows, abort_got, abort_refused, shows_none, shows_some}
use Rattle.gms_parse.proofs.reader.Reader.abort.Goals as goal

pub returns-in_err-next : goal.returns-in_err-next
returns-in_err-next g c read_state h = handed_on _ _ c.from_residual.result _ c.from_residual.ensures.1 (refuses_the AbortStatement (refuses_first (refuses_lacking c.in_err-next.ensures)))

pub returns-in_err-condition : goal.returns-in_err-condition
returns-in_err-condition g c read_state h =
    let n = c.in_ok-next.ensures.next in
    handed_on _ _ c.from_residual-in_err-condition.result _ c.from_residual-in_err-condition.ensures.1
    (refuses_the AbortStatement (refuses_second (gives_exact n refl) (refuses_first (c.in_err-condition.ensures _ (abort_starts n h) refl))))

pub returns-in_err-items : goal.returns-in_err-items
returns-in_err-items g c read_state h =
    let n = c.in_ok-next.ensures.next in
    let condition = c.in_ok-condition.ensures _ (abort_starts n h) refl in
    let shows = abort_shows n h g.F.ExactField.value condition in
    handed_on _ _ c.from_residual-in_err-items.result _ c.from_residual-in_err-items.ensures.1
    (abort_refused n h g.F.ExactField.value condition (sym c.is_any_next.ensures ∙ c.if-is_any_next.true) (c.in_err-items.ensures g.F.ExactField.limit condition.following (open_starts (abort_starts n h) condition.leaves) shows.0 shows.1))

pub returns-then-is_any_next : goal.returns-then-is_any_next
returns-then-is_any_next g c read_state h =
    let n = c.in_ok-next.ensures.next in
    let condition = c.in_ok-condition.ensures _ (abort_starts n h) refl in
    let shows = abort_shows n h g.F.ExactField.value condition in
    abort_got n h g.F.ExactField.value condition (shows_some (sym c.is_any_next.ensures ∙ c.if-is_any_next.true) (c.in_ok-items.ensures g.F.ExactField.limit condition.following (open_starts (abort_starts n h) condition.leaves) shows.0 shows.1))

pub returns : goal.returns
returns g c read_state h =
    let n = c.in_ok-next.ensures.next in
    let condition = c.in_ok-condition.ensures _ (abort_starts n h) refl in
    abort_got n h g.F.ExactField.value condition (shows_none _ (c.new-items.ensures ∙ c.new.ensures.items) (sym c.is_any_next.ensures ∙ c.if-is_any_next.false) condition.leaves.stays.has)
