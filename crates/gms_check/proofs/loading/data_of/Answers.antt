use Rattle.std.proofs.Common.{◌≡◌, ◌∙◌, ◌≤◌, ap, sym, subst, length, List, ℕ, Option, Result, Ok, Err}
use Rattle.std.specs.Prelude.{All}
use Rattle.gms_ast.specs.declared.word.Named.{Named}
use Rattle.gms_ast.specs.declared.declaration.Item.{Item}
use Rattle.gms_set.specs.Expansion.{IsFaultOf, expanded}
use Rattle.gms_store.specs.Declarations.{names_of, positions_of}
use Rattle.gms_check.proofs.loading.data_of.Goals as goal

-- data and an error are two things
clash : {X E : Type 0} (r : Result X E) (fault : E) (given : X) → r ≡ Err fault → r ≡ Ok given → ⊥
clash r fault given e f = let g = sym e ∙ f in cc

pub expand-requires-clause-parts : goal.expand-requires-clause-parts
expand-requires-clause-parts g c =
    let positions : c.deref.result.now ≡ positions_of c.args.kind (names_of c.args.item.now.domain) = c.deref.ensures.value ∙ c.in_ok-positions.ensures ∙ ap (λ (domain : List (Option Named)). positions_of c.args.kind (names_of domain)) c.as_slice.ensures in
    subst (λ (items : List (Item _)). All (λ (item : Item _). length item.parts ≡ length c.deref.result.now) items) (sym c.as_slice-2.ensures) (subst (λ (ps : List (Option ℕ)). All (λ (item : Item _). length item.parts ≡ length ps) c.args.item.now.items) (sym positions) c.requires.parts)

pub expand-requires-clause-few : goal.expand-requires-clause-few
expand-requires-clause-few g c =
    let positions : c.deref.result.now ≡ positions_of c.args.kind (names_of c.args.item.now.domain) = c.deref.ensures.value ∙ c.in_ok-positions.ensures ∙ ap (λ (domain : List (Option Named)). positions_of c.args.kind (names_of domain)) c.as_slice.ensures in
    subst (λ (ps : List (Option ℕ)). length ps ≤ 10) (sym positions) c.requires.few

pub returns-in-Ok : goal.returns-in-Ok
returns-in-Ok g c =
    let positions : c.deref.result.now ≡ positions_of c.args.kind (names_of c.args.item.now.domain) = c.deref.ensures.value ∙ c.in_ok-positions.ensures ∙ ap (λ (domain : List (Option Named)). positions_of c.args.kind (names_of domain)) c.as_slice.ensures in
    sym (ap (λ (ps : List (Option ℕ)). expanded c.args.store.now ps c.as_slice-2.result.now) positions ∙ ap (expanded c.args.store.now (positions_of c.args.kind (names_of c.args.item.now.domain))) c.as_slice-2.ensures) ∙ c.in-Ok.ensures

pub returns : goal.returns
returns g c =
    let positions : c.deref.result.now ≡ positions_of c.args.kind (names_of c.args.item.now.domain) = c.deref.ensures.value ∙ c.in_ok-positions.ensures ∙ ap (λ (domain : List (Option Named)). positions_of c.args.kind (names_of domain)) c.as_slice.ensures in
    let same = ap (λ (ps : List (Option ℕ)). expanded c.args.store.now ps c.as_slice-2.result.now) positions ∙ ap (expanded c.args.store.now (positions_of c.args.kind (names_of c.args.item.now.domain))) c.as_slice-2.ensures in
    let fault = subst (IsFaultOf (expanded c.args.store.now c.deref.result.now c.as_slice-2.result.now)) c.in-Err-Fault.field-0-is c.in-Err-Fault.ensures in
    let given = c.requires.given.1 in
    absurd (clash _ _ _ fault (same ∙ given))
