use Rattle.std.proofs.Common.{◌≡◌, ◌∙◌, ap, sym, take, get_or, Bool, List, ℕ, [], ◌∷◌, ◌++◌, true, false, if◌then◌else◌}
use Rattle.std.proofs.lemmas.List.{map-append, take_all, take_more}
use Rattle.std.proofs.lemmas.Result.{on_ok_weaker}
use Rattle.gms_ast.specs.declared.word.Named.{Named}
use Rattle.gms_scope.specs.Facts.{Facts, with_model}
use Rattle.gms_check.specs.InnerChecking.{seen, with_facts}
use Rattle.gms_check.specs.Past.{equations_listed, numbers_of_names}
use Rattle.gms_check.proofs.checker.Checker.list_model.Goals as goal

pub returns-then-not-sound : goal.returns-then-not-sound
returns-then-not-sound g c =
    let s = seen c.args.self.now in
    let model = c.args.model.now in
    let none : equations_listed s.facts.equations c.args.sound model ≡ [] = ap (λ (b : Bool). equations_listed s.facts.equations b model) c.if-not-sound.true in
    on_ok_weaker c.list.result (λ e. ap (λ (facts : Facts). with_facts s facts) (e ∙ ap (with_model s.facts model.named.name) (c.new.ensures.items ∙ sym none))) c.list.ensures

pub loop-equation-preserved : goal.loop-equation-preserved
loop-equation-preserved g c =
    let equations = c.as_slice-equation-items.result.now in
    let i = c.loop-equation.equation-index in
    let nothing : Named = record { at = record { line = 0; column = 0 }; name = 0 } in
    c.in_ok-push.ensures.items ∙ ap (λ (names : List ℕ). names ++ (get_or equations i nothing).name ∷ []) c.loop-equation.invariant ∙ sym (ap numbers_of_names (take_more equations i nothing c.loop-equation-test.true) ∙ map-append (λ (named : Named). named.name) (take i equations) (get_or equations i nothing ∷ []))

pub returns : goal.returns
returns g c =
    let s = seen c.args.self.now in
    let model = c.args.model.now in
    let listed : equations_listed s.facts.equations c.args.sound model ≡ numbers_of_names model.equations = ap (λ (b : Bool). equations_listed s.facts.equations b model) c.if-not-sound.false ∙ ap (λ (b : Bool). if b then s.facts.equations else numbers_of_names model.equations) c.if-model.false in
    let items = c.loop-equation.invariant ∙ ap numbers_of_names (take_all c.loop-equation.equation-index c.as_slice-equation-items.result.now c.loop-equation-test.false ∙ c.as_slice-equation-items.ensures) in
    on_ok_weaker c.list-2.result (λ e. ap (λ (facts : Facts). with_facts s facts) (e ∙ ap (with_model s.facts model.named.name) (items ∙ sym listed))) c.list-2.ensures
