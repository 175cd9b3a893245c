use Rattle.std.proofs.Common.{◌≡◌, ◌∙◌, ◌+◌, ◌++◌, ap, sym, Bool, ℕ, List, [], ◌∷◌, drop, vec_items, if◌then◌else◌}
use Rattle.std.proofs.lemmas.List.{append-nil, at_drop_more, drop_all}
use Rattle.gms_ast.specs.declared.declaration.Decl.{Decl}
use Rattle.gms_check.specs.InnerChecking.{Checking, seen}
use Rattle.gms_check.specs.InnerTrials.{trial_names}
use Rattle.gms_check.proofs.Noting.{noted-none}
use Rattle.gms_check.proofs.TrialDeclarations.{items-step, items_checked, names-step}
use Rattle.gms_check.proofs.checker.Checker.declared_items.Goals as goal
use Rattle.gms_check.proofs.checker.Checker.declared_items.Goals.{then-sound+in_ok-push, else-sound}

pub loop-item-preserved : goal.loop-item-preserved
loop-item-preserved g c =
    let value = g.F.ExactField.value in
    let kind = c.args.kind in
    let items = c.args.items.now in
    let i = c.loop-item.item-index in
    let now = seen c.loop-item.self in
    let next = seen c.declared_item.new.self in
    let item = c.item-item.result in
    let rest = drop (i + 1) items in
    let sound = c.in_ok-sound.sound in
    let given = c.loop-item.given.items in
    let more = c.if-sound.given.items in
    let added : more ≡ given ++ (if sound then item.named.name ∷ [] else []) = elim c.if-sound.branch [
      | then-sound+in_ok-push w ↦ ap vec_items w.given-is ∙ w.in_ok-push.ensures.items ∙ ap (λ (b : Bool). given ++ (if b then item.named.name ∷ [] else [])) (sym w.if-sound.true)
      | else-sound w ↦ ap vec_items w.given-is ∙ sym (append-nil given) ∙ ap (λ (b : Bool). given ++ (if b then item.named.name ∷ [] else [])) (sym w.if-sound.false)
    ] in
    record {
      noted = items-step value kind now next sound item rest c.in_ok-sound.ensures.sound c.in_ok-sound.ensures.noted ∙ sym (at_drop_more (items_checked value kind now) items i item c.loop-item-test.true ∙ ap (λ (item : Decl _). items_checked value kind now (item ∷ rest)) (sym c.item-item.is)) ∙ c.loop-item.invariant.noted;
      given = ap (λ (solvers : List (List ℕ)). more ++ trial_names value solvers kind next.facts rest) (ap (λ (u : Checking). u.solvers) c.in_ok-sound.ensures.noted) ∙ names-step value now.solvers kind now.facts next.facts sound item rest given more c.in_ok-sound.ensures.sound (ap (λ (u : Checking). u.facts) c.in_ok-sound.ensures.noted) added ∙ sym (at_drop_more (λ xs. given ++ trial_names value now.solvers kind now.facts xs) items i item c.loop-item-test.true ∙ ap (λ (item : Decl _). given ++ trial_names value now.solvers kind now.facts (item ∷ rest)) (sym c.item-item.is)) ∙ c.loop-item.invariant.given;
    }

pub returns-clause-noted : goal.returns-clause-noted
returns-clause-noted g c =
    let value = g.F.ExactField.value in
    let now = seen c.loop-item.self in
    noted-none value now ∙ sym (ap (items_checked value c.args.kind now) (drop_all c.loop-item.item-index c.args.items.now c.loop-item-test.false)) ∙ c.loop-item.invariant.noted

pub returns-clause-given : goal.returns-clause-given
returns-clause-given g c =
    let value = g.F.ExactField.value in
    let now = seen c.loop-item.self in
    let given = c.loop-item.given.items in
    sym (append-nil given) ∙ sym (ap (λ xs. given ++ trial_names value now.solvers c.args.kind now.facts xs) (drop_all c.loop-item.item-index c.args.items.now c.loop-item-test.false)) ∙ c.loop-item.invariant.given
