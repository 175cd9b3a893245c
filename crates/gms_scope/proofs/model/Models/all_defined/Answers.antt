use Rattle.std.proofs.Common.{◌≡◌, ◌<◌, ◌∙◌, ◌-◌, suc, ap, sym, subst, ℕ, List, length, not, arith}
use Rattle.std.specs.List.{list_any}
use Rattle.std.specs.Prelude.{slice_index_or}
use Rattle.gms_scope.specs.declared.model.Model.{Model}
use Rattle.gms_scope.specs.Facts.{is_missing}
use Rattle.gms_scope.specs.Models.{AreAllThere, AreCounted, model_names, models_within}
use Rattle.gms_scope.specs.Order.{order_of}
use Rattle.gms_scope.proofs.Orders.{order-most}
use Rattle.gms_scope.proofs.Listed.{counted-set, equations-at, equations-none, model_names-length, models-set, names-set, there-set}
use Rattle.gms_scope.proofs.model.Models.all_defined.Goals as goal

-- where an order is one, its place is that of a model
order_there : (models : List Model) (name order : ℕ) → order ≡ order_of (model_names models) name → (order ≡ 0 → ⊥) → order - 1 < length models
order_there models name order e some =
    let m = order-most (model_names models) name in let l = model_names-length models in omega arith

one_less : (o p : ℕ) → o ≡ p → (o ≡ 0 → ⊥) → p ≡ suc (o - 1)
one_less o p e some = omega arith

pub returns-then-order-eq0-clause-answer : goal.returns-then-order-eq0-clause-answer
returns-then-order-eq0-clause-answer c =
    sym (ap (λ of. not (list_any (is_missing c.args.defined.now) of)) (equations-none c.args.self.now.equations.items c.args.self.now.models.items c.args.model (sym c.order-order.ensures ∙ c.if-order-eq0.true)))

pub recount-count-requires-clause-there : goal.recount-count-requires-clause-there
recount-count-requires-clause-there c = order_there c.args.self.now.models.items c.args.model _ c.order-order.ensures c.if-order-eq0.false

pub set_count-requires : goal.set_count-requires
set_count-requires c = order_there c.args.self.now.models.items c.args.model _ c.order-order.ensures c.if-order-eq0.false

pub returns-clause-answer : goal.returns-clause-answer
returns-clause-answer c =
    c.recount-count.ensures.all ∙ sym (ap (λ of. not (list_any (is_missing c.args.defined.now) of)) (equations-at c.args.self.now.equations.items c.args.self.now.models.items c.args.model (c.order-order.result - 1) _ (one_less c.order-order.result _ c.order-order.ensures c.if-order-eq0.false)))

pub returns-clause-listed : goal.returns-clause-listed
returns-clause-listed c =
    let models = c.args.self.now.models.items in
    let there = order_there models c.args.model _ c.order-order.ensures c.if-order-eq0.false in
    let named : model_names c.set_count.new.self.models.items ≡ model_names models = ap model_names c.set_count.ensures.models ∙ names-set models (c.order-order.result - 1) c.recount-count.result.0 _ there in
    record {
      places = λ name. ap (λ p. slice_index_or p name 0) c.set_count.ensures.places ∙ c.requires.listed.places name ∙ sym (ap (λ names. order_of names name) named);
      there = subst (λ equations. AreAllThere equations c.set_count.new.self.models.items) (sym c.set_count.ensures.equations) (subst (AreAllThere c.args.self.now.equations.items) (sym c.set_count.ensures.models) (there-set _ models (c.order-order.result - 1) c.recount-count.result.0 _ there c.requires.listed.there));
    }

pub returns-clause-counted : goal.returns-clause-counted
returns-clause-counted c =
    let models = c.args.self.now.models.items in
    let there = order_there models c.args.model _ c.order-order.ensures c.if-order-eq0.false in
    subst (λ equations. AreCounted c.args.defined.now equations c.set_count.new.self.models.items) (sym c.set_count.ensures.equations)
    (subst (AreCounted c.args.defined.now c.args.self.now.equations.items) (sym c.set_count.ensures.models) (counted-set c.args.defined.now _ models (c.order-order.result - 1) c.recount-count.result.0 _ there c.requires.counted c.recount-count.ensures.counted))

pub returns-clause-models : goal.returns-clause-models
returns-clause-models c =
    let models = c.args.self.now.models.items in
    let there = order_there models c.args.model _ c.order-order.ensures c.if-order-eq0.false in
    ap (λ equations. models_within equations c.set_count.new.self.models.items) c.set_count.ensures.equations ∙ ap (models_within c.args.self.now.equations.items) c.set_count.ensures.models ∙ models-set _ models (c.order-order.result - 1) c.recount-count.result.0 _ there
