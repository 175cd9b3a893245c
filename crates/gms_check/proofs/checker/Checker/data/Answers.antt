use Rattle.std.proofs.Common.{◌≡◌, ◌∙◌, ap, sym, subst, List, length, take, take_while, All}
use Rattle.gms_ast.specs.declared.declaration.Item.{Item}
use Rattle.gms_set.specs.Expansion.{expanded}
use Rattle.gms_store.specs.State.{State}
use Rattle.gms_check.specs.DeclarationUses.{has_all_parts}
use Rattle.gms_check.proofs.Faultless.{counted, whole-all, whole-passes, whole-taken}
use Rattle.gms_check.proofs.checker.Checker.data.Goals as goal

pub expand-requires-clause-parts : goal.expand-requires-clause-parts
expand-requires-clause-parts g c =
    let positions = c.args.positions.now in
    let items = c.args.items.now in
    let whole : take c.first_whole-whole.result items ≡ take_while (has_all_parts positions) items = ap (λ n. take n items) c.first_whole-whole.ensures ∙ whole-taken (has_all_parts positions) items in
    subst (λ (xs : List (Item _)). All (λ (item : Item _). length item.parts ≡ length positions) xs) (sym whole) (whole-passes (has_all_parts positions) (λ (item : Item _). length item.parts ≡ length positions) (λ item e. counted (length positions) (length item.parts) e) items)

pub returns-in-Ok-clause-given : goal.returns-in-Ok-clause-given
returns-in-Ok-clause-given g c = λ usable all none.
    let positions = c.args.positions.now in
    let items = c.args.items.now in
    let whole : take c.first_whole-whole.result items ≡ items = ap (λ n. take n items) c.first_whole-whole.ensures ∙ whole-taken (has_all_parts positions) items ∙ whole-all (has_all_parts positions) items all in
    sym (ap (λ (xs : List (Item _)). expanded c.args.self.now.known.state positions xs) whole)
    ∙ sym (ap (λ (state : State). expanded state positions (take c.first_whole-whole.result items)) c.store.ensures)
    ∙ c.in-Ok.ensures
