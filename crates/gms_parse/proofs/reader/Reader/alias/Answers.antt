use Rattle.gms_expressions.proofs.Signs.{handed_on}
use Rattle.std.proofs.Common.{refl, ap}
use Rattle.gms_grammar.specs.Terminals.{is}
use Rattle.gms_grammar.specs.Grammar.{◌·◌}
use Rattle.gms_grammar.specs.GamsGrammar.{AliasStatement, token, name}
use Rattle.gms_grammar.specs.declared.terminal.Terminal.TheVariants.{Comma, Option}
use Rattle.gms_parse.proofs.Steps.{refuses_the, refuses_first, refuses_second}
use Rattle.gms_parse.proofs.Nexts.{refuses_lacking, gives_exact, refuses_unopened, plain_starts}
use Rattle.gms_parse.proofs.Acts.{alias_has, alias_starts, alias_inside, alias_unclosed, alias_got, pair_got}
use Rattle.gms_parse.proofs.reader.Reader.alias.Goals as goal

pub returns-in_err-next : goal.returns-in_err-next
returns-in_err-next g c read_state h = handed_on _ _ c.from_residual.result _ c.from_residual.ensures.1 (refuses_the AliasStatement (refuses_first (refuses_lacking c.in_err-next.ensures)))

pub returns-in_err-inner : goal.returns-in_err-inner
returns-in_err-inner g c read_state h =
    let n = c.in_ok-next.ensures.next in
    handed_on _ _ c.from_residual-in_err-inner.result _ c.from_residual-in_err-inner.ensures.1
    (refuses_the AliasStatement (refuses_second (gives_exact n refl) (refuses_unopened (name · token Comma · name) c.in_err-inner.ensures (alias_has n h).holds)))

pub returns-in_err-first : goal.returns-in_err-first
returns-in_err-first g c read_state h =
    let n = c.in_ok-next.ensures.next in
    let o = c.in_ok-inner.ensures in
    handed_on _ _ c.from_residual-in_err-first.result _ c.from_residual-in_err-first.ensures.1 (alias_inside n h o (refuses_first (c.in_err-first.ensures g.F.ExactField.limit _ (alias_starts n h o))))

pub returns-in_err-next-2 : goal.returns-in_err-next-2
returns-in_err-next-2 g c read_state h =
    let n = c.in_ok-next.ensures.next in
    let o = c.in_ok-inner.ensures in
    let f = c.in_ok-first.ensures g.F.ExactField.limit _ (alias_starts n h o) in
    handed_on _ _ c.from_residual-in_err-next-2.result _ c.from_residual-in_err-next-2.ensures.1 (alias_inside n h o (refuses_second f.gives (refuses_first (refuses_lacking c.in_err-next-2.ensures))))

pub returns-in_err-second : goal.returns-in_err-second
returns-in_err-second g c read_state h =
    let n = c.in_ok-next.ensures.next in
    let o = c.in_ok-inner.ensures in
    let f = c.in_ok-first.ensures g.F.ExactField.limit _ (alias_starts n h o) in
    let m = c.in_ok-next-2.ensures.next in
    let s = plain_starts c.in_ok-inner.inner f.following Comma c.in_ok-next-2.ensures.token c.in_ok-next-2.next refl refl f.leaves.has (ap (is Option) f.leaves.keyword) in
    handed_on _ _ c.from_residual-in_err-second.result _ c.from_residual-in_err-second.ensures.1 (alias_inside n h o (refuses_second f.gives (refuses_second (gives_exact m refl) (c.in_err-second.ensures g.F.ExactField.limit _ s))))

pub returns-in_err-following : goal.returns-in_err-following
returns-in_err-following g c read_state h =
    let n = c.in_ok-next.ensures.next in
    let o = c.in_ok-inner.ensures in
    let f = c.in_ok-first.ensures g.F.ExactField.limit _ (alias_starts n h o) in
    let m = c.in_ok-next-2.ensures.next in
    let s = plain_starts c.in_ok-inner.inner f.following Comma c.in_ok-next-2.ensures.token c.in_ok-next-2.next refl refl f.leaves.has (ap (is Option) f.leaves.keyword) in
    handed_on _ _ c.from_residual-in_err-following.result _ c.from_residual-in_err-following.ensures.1 (alias_unclosed n h o (pair_got f m (c.in_ok-second.ensures g.F.ExactField.limit _ s)) c.in_err-following.ensures)

pub returns : goal.returns
returns g c read_state h =
    let n = c.in_ok-next.ensures.next in
    let o = c.in_ok-inner.ensures in
    let f = c.in_ok-first.ensures g.F.ExactField.limit _ (alias_starts n h o) in
    let m = c.in_ok-next-2.ensures.next in
    let s = plain_starts c.in_ok-inner.inner f.following Comma c.in_ok-next-2.ensures.token c.in_ok-next-2.next refl refl f.leaves.has (ap (is Option) f.leaves.keyword) in
    alias_got n h o (pair_got f m (c.in_ok-second.ensures g.F.ExactField.limit _ s)) g.F.ExactField.value c.in_ok-following.ensures.next
