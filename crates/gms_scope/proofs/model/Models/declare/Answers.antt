use Rattle.std.proofs.Common.{◌≡◌, ◌<◌, ◌+◌, ◌++◌, ◌∷◌, [], ◌∙◌, ap, sym, subst, length, arith}
use Rattle.std.specs.Prelude.{slice_index_or}
use Rattle.std.proofs.Math.ListN.{set}
use Rattle.std.proofs.lemmas.List.{get_or_default, length-append}
use Rattle.gms_scope.specs.declared.model.Model.{Model}
use Rattle.gms_scope.specs.Models.{AreAllThere, AreCounted, model_names}
use Rattle.gms_scope.specs.Order.{order_of}
use Rattle.gms_scope.proofs.Orders.{places-again, places-new}
use Rattle.gms_scope.proofs.Listed.{counted-append, model_names-length, model_names-more, there-append}
use Rattle.gms_scope.proofs.model.Models.declare.Goals as goal

pub returns-then-index-eq0-clause-listed : goal.returns-then-index-eq0-clause-listed
returns-then-index-eq0-clause-listed c =
    let old = c.args.self.now.models.items in
    let first = c.args.self.now.places.items in
    let model : Model = record { name = c.args.name; equations = c.args.equations; defined = 0 } in
    let pushed : c.push.new.self.items ≡ old ++ model ∷ [] = c.in_ok-push.ensures.items in
    let there : c.args.name < length first = omega (arith, c.len.ensures) in
    let none : slice_index_or first c.args.name 0 ≡ 0 = get_or_default first c.args.name 0 c.index.result.now there ∙ sym c.index.ensures ∙ c.if-index-eq0.true in
    let named : model_names c.push.new.self.items ≡ model_names old ++ c.args.name ∷ [] = ap model_names pushed ∙ model_names-more old model in
    let count : c.len-then-index-eq0.result ≡ length (model_names old) + 1 = omega (arith, c.len-then-index-eq0.ensures, ap length pushed, length-append old (model ∷ []), model_names-length old) in
    record {
      places = λ other. ap (λ v. slice_index_or (set first c.args.name v) other 0) count ∙ places-new first (model_names old) c.args.name c.requires.listed.places there none other ∙ sym (ap (λ names. order_of names other) named);
      there = subst (AreAllThere c.args.self.now.equations.items) (sym pushed) (there-append _ old model c.requires.listed.there c.requires.there);
    }

pub returns-then-index-eq0-clause-counted : goal.returns-then-index-eq0-clause-counted
returns-then-index-eq0-clause-counted c defined counted =
    subst (AreCounted defined c.args.self.now.equations.items) (sym c.in_ok-push.ensures.items) (counted-append defined _ _ c.args.name c.args.equations counted)

pub returns-else-index-eq0-clause-listed : goal.returns-else-index-eq0-clause-listed
returns-else-index-eq0-clause-listed c =
    let old = c.args.self.now.models.items in
    let first = c.args.self.now.places.items in
    let model : Model = record { name = c.args.name; equations = c.args.equations; defined = 0 } in
    let pushed : c.push.new.self.items ≡ old ++ model ∷ [] = c.in_ok-push.ensures.items in
    let there : c.args.name < length first = omega (arith, c.len.ensures) in
    let named : model_names c.push.new.self.items ≡ model_names old ++ c.args.name ∷ [] = ap model_names pushed ∙ model_names-more old model in
    record {
      places = λ other. places-again first (model_names old) c.args.name c.requires.listed.places (λ none. c.if-index-eq0.false (c.index.ensures ∙ get_or_default first c.args.name c.index.result.now 0 there ∙ none)) other ∙ sym (ap (λ names. order_of names other) named);
      there = subst (AreAllThere c.args.self.now.equations.items) (sym pushed) (there-append _ old model c.requires.listed.there c.requires.there);
    }

pub returns-else-index-eq0-clause-counted : goal.returns-else-index-eq0-clause-counted
returns-else-index-eq0-clause-counted c defined counted =
    subst (AreCounted defined c.args.self.now.equations.items) (sym c.in_ok-push.ensures.items) (counted-append defined _ _ c.args.name c.args.equations counted)
