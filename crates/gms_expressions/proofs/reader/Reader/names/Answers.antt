use Rattle.std.proofs.Common.{[], ◌∷◌, refl}
use Rattle.std.proofs.lemmas.Slice.{pushed}
use Rattle.gms_grammar.specs.GamsGrammar.{NameList}
use Rattle.gms_expressions.proofs.Signs.{handed_on}
use Rattle.gms_expressions.proofs.Steps.{refuses_the, refuses_first, refuses_memory}
use Rattle.gms_expressions.proofs.Nexts.{falls}
use Rattle.gms_expressions.proofs.Lists.{names_start, names_on, names_got, names_refuses}
use Rattle.gms_expressions.proofs.Extending.{went_by}
use Rattle.gms_expressions.proofs.Loops.{loop_memory}
use Rattle.gms_expressions.proofs.reader.Reader.names.Goals as goal

pub returns-in_err-first : goal.returns-in_err-first
returns-in_err-first c limit = handed_on _ _ c.from_residual.result _ c.from_residual.ensures.1 (refuses_the NameList (refuses_first (c.in_err-first.ensures limit)))

pub returns-in_err-push : goal.returns-in_err-push
returns-in_err-push c limit = handed_on _ _ c.from_residual-in_err-push.result _ c.from_residual-in_err-push.ensures.1 (refuses_memory (went_by (c.in_ok-first.ensures limit).gives) refl)

pub loop-following-init : goal.loop-following-init
loop-following-init c limit = names_start (c.in_ok-first.ensures limit) _ (pushed (c.in_ok-first.first ∷ []) c.new-names.ensures.items c.in_ok-push.was c.push.ensures.items)

pub returns-in_err-name : goal.returns-in_err-name
returns-in_err-name c limit = handed_on _ _ c.from_residual-in_err-name.result _ c.from_residual-in_err-name.ensures.1 (names_refuses (c.loop-following.invariant limit) c.in-Some.ensures (c.in_err-name.ensures limit))

pub returns-in_err-push-2 : goal.returns-in_err-push-2
returns-in_err-push-2 c limit = handed_on _ _ c.from_residual-in_err-push-2.result _ c.from_residual-in_err-push-2.ensures.1 (loop_memory (c.loop-following.invariant limit).looping (c.in_ok-name.ensures limit).gives refl)

pub loop-following-smaller : goal.loop-following-smaller
loop-following-smaller c = falls c.in-Some.ensures _ ((c.in_ok-name.ensures 0).further)

pub loop-following-preserved : goal.loop-following-preserved
loop-following-preserved c limit = names_on (c.loop-following.invariant limit) c.in-Some.ensures (c.in_ok-name.ensures limit) _ c.in_ok-push-2.ensures.items

pub returns : goal.returns
returns c limit = names_got c.loop-following.names (c.loop-following.invariant limit) c.in_default.ensures
