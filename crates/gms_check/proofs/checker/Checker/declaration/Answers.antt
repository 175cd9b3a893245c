use Rattle.std.proofs.Common.{◌≡◌, ◌∙◌, ap, Bool, not, [], ◌∷◌}
use Rattle.std.specs.Prelude.{is_none}
use Rattle.std.proofs.lemmas.Result.{on_ok_weaker}
use Rattle.gms_check.specs.declared.error.ErrorKind.TheVariants.{Discrete}
use Rattle.gms_check.specs.InnerChecking.{Checking, faulted, noted, seen, with_facts}
use Rattle.gms_check.specs.DeclarationUses.{kind_uses}
use Rattle.gms_check.specs.InnerTrials.{taken_back}
use Rattle.gms_check.proofs.TrialDeclarations.{declaration-accepted, declaration-first, declaration-refused, kind-noted}
use Rattle.gms_check.proofs.checker.Checker.declaration.Goals as goal

pub returns-in-Some-clause-first : goal.returns-in-Some-clause-first
returns-in-Some-clause-first g c =
    let value = g.F.ExactField.value in
    let s = seen c.args.self.now in
    let t = seen c.declared_items.new.self in
    let u = seen c.take_out_all.new.self in
    let begun : seen c.require.new.self ≡ noted value s (kind_uses c.args.at c.args.kind) = c.require.ensures ∙ ap (λ (b : Bool). faulted s c.args.at ((not b, Discrete) ∷ [])) c.is_continuous.ensures ∙ kind-noted value s c.args.at c.args.kind in
    on_ok_weaker c.take_out_all.result (λ (e : u ≡ with_facts t (taken_back t.facts c.deref.result.now)). declaration-first value s (seen c.require.new.self) t u c.args.at c.args.kind c.args.items.now begun c.in_ok-given.ensures.noted (ap (λ (u : Checking). u.first) e)) c.take_out_all.ensures

pub returns-in-Some-clause-facts : goal.returns-in-Some-clause-facts
returns-in-Some-clause-facts g c =
    let value = g.F.ExactField.value in
    let s = seen c.args.self.now in
    let t = seen c.declared_items.new.self in
    let u = seen c.take_out_all.new.self in
    let begun : seen c.require.new.self ≡ noted value s (kind_uses c.args.at c.args.kind) = c.require.ensures ∙ ap (λ (b : Bool). faulted s c.args.at ((not b, Discrete) ∷ [])) c.is_continuous.ensures ∙ kind-noted value s c.args.at c.args.kind in
    on_ok_weaker c.take_out_all.result (λ (e : u ≡ with_facts t (taken_back t.facts c.deref.result.now)). let kept : u.first ≡ t.first = ap (λ (u : Checking). u.first) e in declaration-refused value s (seen c.require.new.self) t u c.args.at c.args.kind c.args.items.now begun c.in_ok-given.ensures.noted kept c.deref.result.now (ap is_none (kept ∙ c.in-Some.is)) (c.deref.ensures.value ∙ c.in_ok-given.ensures.given) e) c.take_out_all.ensures

pub returns-clause-first : goal.returns-clause-first
returns-clause-first g c =
    let value = g.F.ExactField.value in
    let s = seen c.args.self.now in
    let t = seen c.declared_items.new.self in
    let u = seen c.remember_order.new.self in
    let begun : seen c.require.new.self ≡ noted value s (kind_uses c.args.at c.args.kind) = c.require.ensures ∙ ap (λ (b : Bool). faulted s c.args.at ((not b, Discrete) ∷ [])) c.is_continuous.ensures ∙ kind-noted value s c.args.at c.args.kind in
    declaration-first value s (seen c.require.new.self) t u c.args.at c.args.kind c.args.items.now begun c.in_ok-given.ensures.noted (ap (λ (u : Checking). u.first) c.remember_order.ensures)

pub returns-clause-facts : goal.returns-clause-facts
returns-clause-facts g c =
    let value = g.F.ExactField.value in
    let s = seen c.args.self.now in
    let t = seen c.declared_items.new.self in
    let u = seen c.remember_order.new.self in
    let begun : seen c.require.new.self ≡ noted value s (kind_uses c.args.at c.args.kind) = c.require.ensures ∙ ap (λ (b : Bool). faulted s c.args.at ((not b, Discrete) ∷ [])) c.is_continuous.ensures ∙ kind-noted value s c.args.at c.args.kind in
    let kept : u.first ≡ t.first = ap (λ (u : Checking). u.first) c.remember_order.ensures in
    declaration-accepted value s (seen c.require.new.self) t u c.args.at c.args.kind c.args.items.now begun c.in_ok-given.ensures.noted kept (kept ∙ c.in-None.is) c.remember_order.ensures
