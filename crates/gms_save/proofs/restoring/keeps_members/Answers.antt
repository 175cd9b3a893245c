use Rattle.std.proofs.lemmas.Bool.{both_ways}
use Rattle.std.proofs.Common.{◌∙◌, true, false, refl, sym}
use Rattle.gms_store.specs.State.{symbol_at}
use Rattle.gms_save.proofs.SavedNames.{alias-members, alias-too, own-members}
use Rattle.gms_save.proofs.restoring.keeps_members.Goals as goal

pub returns-then-is_set : goal.returns-then-is_set
returns-then-is_set c = (λ _ fixed. absurd (both_ways c.is_set.result (c.is_set.ensures ∙ fixed) c.if-is_set.true), λ _. refl)

pub returns-then-is_alias : goal.returns-then-is_alias
returns-then-is_alias c =
    let store = c.args.store.now in
    let first = c.args.first.now in
    let name = c.args.name in
    let one = sym c.is_alias.ensures ∙ c.if-is_alias.true in
    (λ _ _. alias-members (symbol_at store name).content one ∙ sym (alias-members (symbol_at first name).content (alias-too store first name true c.requires one)), λ _. refl)

pub returns : goal.returns
returns c =
    let store = c.args.store.now in
    let first = c.args.first.now in
    let name = c.args.name in
    let none = sym c.is_alias.ensures ∙ c.if-is_alias.false in
    let here = own-members store name none in
    let there = own-members first name (alias-too store first name false c.requires none) in
    let free = sym c.is_set.ensures ∙ c.if-is_set.false in
    (λ e _. sym here ∙ c.has_same_members.ensures.0 e ∙ there, λ keeps. c.has_same_members.ensures.1 (here ∙ keeps free ∙ sym there))
