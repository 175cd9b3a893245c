-- Each mark that is pushed is one more `false`, until there are as many as names.
use Rattle.std.proofs.Common.{◌≡◌, ◌++◌, ◌∷◌, [], false, replicate, ap, ◌∙◌, arith}
use Rattle.std.proofs.lemmas.List.{replicate_more}
use Rattle.gms_scope.proofs.Begins.{no_value}
use Rattle.gms_scope.proofs.marks.Marks.new.Goals as goal

pub loop-init : goal.loop-init
loop-init c = c.new-marks.ensures.items

pub returns-in_err-push : goal.returns-in_err-push
returns-in_err-push c = no_value c.from_residual.result (λ marks. marks ≡ replicate c.args.names false) c.from_residual.ensures.0

pub loop-preserved : goal.loop-preserved
loop-preserved c = c.in_ok-push.ensures.items ∙ ap (λ marks. marks ++ false ∷ []) c.loop.invariant ∙ replicate_more c.loop.counter false

pub returns : goal.returns
returns c =
    let all : c.loop.counter ≡ c.args.names = let below = c.loop.auto.counter-end in let above = c.loop-test.false in omega arith in
    c.loop.invariant ∙ ap (λ n. replicate n false) all
