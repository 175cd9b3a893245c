use Rattle.gms_expressions.proofs.Signs.{handed_on}
use Rattle.std.proofs.Common.{[], ◌∷◌, ◌∙◌, refl, ap}
use Rattle.std.proofs.lemmas.Slice.{pushed}
use Rattle.gms_grammar.specs.GamsGrammar.{TableStatement}
use Rattle.gms_grammar.specs.Terminals.{is}
use Rattle.gms_grammar.specs.declared.terminal.Terminal.TheVariants.{Option}
use Rattle.gms_parse.proofs.Steps.{refuses_the, refuses_first, refuses_second, refuses_memory}
use Rattle.gms_parse.proofs.Nexts.{refuses_lacking, gives_exact}
use Rattle.gms_parse.proofs.TableSteps.{table_starts, table_refused, items_refused, table_read}
use Rattle.gms_parse.proofs.reader.Reader.table_statement.Goals as goal

pub returns-in_err-start : goal.returns-in_err-start
returns-in_err-start g c read_state h = handed_on _ _ c.from_residual.result _ c.from_residual.ensures.1 (refuses_the TableStatement (refuses_first (refuses_lacking c.in_err-start.ensures)))

pub returns-in_err-named : goal.returns-in_err-named
returns-in_err-named g c read_state h =
    let n = c.in_ok-start.ensures.next in
    handed_on _ _ c.from_residual-in_err-named.result _ c.from_residual-in_err-named.ensures.1
    (refuses_the TableStatement (refuses_second (gives_exact n refl) (refuses_first (c.in_err-named.ensures g.F.ExactField.limit _ (table_starts n h)))))

pub returns-in_err-domain : goal.returns-in_err-domain
returns-in_err-domain g c read_state h =
    let n = c.in_ok-start.ensures.next in
    let m = c.in_ok-named.ensures g.F.ExactField.limit _ (table_starts n h) in
    handed_on _ _ c.from_residual-in_err-domain.result _ c.from_residual-in_err-domain.ensures.1
    (table_refused read_state n m (refuses_first (c.in_err-domain.ensures g.F.ExactField.limit m.following m.leaves.has (ap (is Option) m.leaves.keyword))))

pub returns-in_err-lines : goal.returns-in_err-lines
returns-in_err-lines g c read_state h = handed_on _ _ c.from_residual-in_err-lines.result _ c.from_residual-in_err-lines.ensures.1 (refuses_memory c.in_err-lines.ensures)

pub table_items-requires-clause-short : goal.table_items-requires-clause-short
table_items-requires-clause-short g c = rw c.as_slice.ensures.value c.in_ok-lines.ensures.short

pub returns-in_err-items : goal.returns-in_err-items
returns-in_err-items g c read_state h =
    let n = c.in_ok-start.ensures.next in
    let m = c.in_ok-named.ensures g.F.ExactField.limit _ (table_starts n h) in
    handed_on _ _ c.from_residual-in_err-items.result _ c.from_residual-in_err-items.ensures.1
    (items_refused read_state n m _ _ (c.in_ok-domain.ensures g.F.ExactField.limit m.following m.leaves.has (ap (is Option) m.leaves.keyword)) c.in_ok-lines.ensures (rw (c.as_slice.ensures.value, c.place-name.ensures) at c.in_err-items.ensures))

pub returns-in_err-push : goal.returns-in_err-push
returns-in_err-push g c read_state h = handed_on _ _ c.from_residual-in_err-push.result _ c.from_residual-in_err-push.ensures.1 (refuses_memory refl)

pub returns : goal.returns
returns g c read_state h =
    let n = c.in_ok-start.ensures.next in
    let m = c.in_ok-named.ensures g.F.ExactField.limit _ (table_starts n h) in
    let got = table_read read_state n m _ _ (c.in_ok-domain.ensures g.F.ExactField.limit m.following m.leaves.has (ap (is Option) m.leaves.keyword)) c.in_ok-lines.ensures g.F.ExactField.value refl (rw c.as_slice.ensures.value at c.in_ok-items.ensures) in
    let one = pushed (record { named = c.in_ok-named.named; domain = c.new.result; items = c.in_ok-items.items } ∷ []) c.new-declared.ensures.items c.in_ok-push.was c.push.ensures.items in
    rw (c.new-2.ensures ∙ one) (rw c.new.ensures got)
