use Rattle.gms_expressions.proofs.Signs.{handed_on}
use Rattle.std.proofs.Common.{refl, sym, ◌∙◌}
use Rattle.gms_grammar.specs.GamsGrammar.{Program}
use Rattle.gms_parse.proofs.Steps.{refuses_the, refuses_first}
use Rattle.gms_parse.proofs.Nexts.{falls, starts_somewhere}
use Rattle.gms_parse.proofs.Looped.{semicolon_starts}
use Rattle.gms_parse.proofs.Wholes.{starts_whole, refuses_whole, whole_start, whole_refuses, whole_on, whole_got, whole_over}
use Rattle.gms_parse.proofs.reader.Reader.program.Goals as goal

pub returns-in_err-next : goal.returns-in_err-next
returns-in_err-next g c =
    handed_on _ _ c.from_residual.result _ c.from_residual.ensures.1
    (refuses_whole (refuses_the Program (refuses_first (c.in_err-next.ensures _ (starts_whole c.requires.outside c.requires.names c.requires.labels) refl))))

pub loop-following-init : goal.loop-following-init
loop-following-init g c = whole_start g.F.ExactField.value c.new-statements.result c.new-statements.ensures.items (c.in_ok-next.ensures _ (starts_whole c.requires.outside c.requires.names c.requires.labels) refl)

pub returns-in_err-next-2 : goal.returns-in_err-next-2
returns-in_err-next-2 g c =
    let l = c.loop-following.invariant in
    handed_on _ _ c.from_residual-in_err-next-2.result _ c.from_residual-in_err-next-2.ensures.1
    (whole_refuses g.F.ExactField.value l c.in-Some.ensures (c.in_err-next-2.ensures _ (semicolon_starts l.holds c.in-Some.ensures) refl))

pub loop-following-smaller : goal.loop-following-smaller
loop-following-smaller g c = falls c.in-Some.ensures _ (c.in_ok-next-2.ensures _ (starts_somewhere c.args.self.now c.loop-following.tables) refl).further

pub loop-following-preserved : goal.loop-following-preserved
loop-following-preserved g c =
    let l = c.loop-following.invariant in
    whole_on g.F.ExactField.value l c.in-Some.ensures c.loop-following.statements refl (c.in_ok-next-2.ensures _ (semicolon_starts l.holds c.in-Some.ensures) refl)

pub returns-then-is_next : goal.returns-then-is_next
returns-then-is_next g c = whole_got g.F.ExactField.value c.loop-following.invariant c.in_default.ensures (sym c.is_next.ensures ∙ c.if-is_next.true) c.loop-following.statements refl

pub returns : goal.returns
returns g c = whole_over g.F.ExactField.value c.loop-following.invariant c.in_default.ensures c.requires.ready (sym c.is_next.ensures ∙ c.if-is_next.false) c.unexpected.ensures
