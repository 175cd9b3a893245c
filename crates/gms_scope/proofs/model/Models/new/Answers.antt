-- The places are zeros, one for each name, and there are no equations and no models.
use Rattle.std.proofs.Common.{◌≡◌, ◌∷◌, ◌++◌, [], List, length, ap, sym, subst, ◌∙◌, arith}
use Rattle.std.specs.Prelude.{slice_index_or}
use Rattle.std.proofs.lemmas.List.{length-replicate, replicate_more}
use Rattle.gms_scope.specs.declared.model.Model.{Model}
use Rattle.gms_scope.specs.Models.{model_names, AreAllThere}
use Rattle.gms_scope.specs.Order.{order_of}
use Rattle.gms_scope.proofs.Begins.{no_value, zeros}
use Rattle.gms_scope.proofs.model.Models.new.Goals as goal

pub loop-init : goal.loop-init
loop-init c = c.new-places.ensures.items

pub returns-in_err-push : goal.returns-in_err-push
returns-in_err-push c = no_value c.from_residual.result _ c.from_residual.ensures.0

pub loop-preserved : goal.loop-preserved
loop-preserved c = c.in_ok-push.ensures.items ∙ ap (λ places. places ++ 0 ∷ []) c.loop.invariant ∙ replicate_more c.loop.counter 0

pub returns : goal.returns
returns c =
    let equations = c.new.ensures.items in
    let models = c.new-2.ensures.items in
    let all : c.loop.counter ≡ c.args.names = let below = c.loop.auto.counter-end in let above = c.loop-test.false in omega arith in (
      record {
        places = λ name. ap (λ xs. slice_index_or xs name 0) c.loop.invariant ∙ zeros c.loop.counter name ∙ ap (λ (ms : List Model). order_of (model_names ms) name) (sym models);
        there = subst (λ (ms : List Model). AreAllThere c.new.result.items ms) (sym models) tt;
      },
      equations,
      models,
      ap length c.loop.invariant ∙ length-replicate _ _ ∙ all,
    )
