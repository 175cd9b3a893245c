use Rattle.std.proofs.lemmas.Bool.{both_ways}
use Rattle.std.proofs.Common.{◌≡◌, ◌∙◌, ◌≤◌, ◌<◌, ℕ, true, false, List, [], All, Option, length, get_or, refl, sym, ap, ap₂, subst, arith}
use Rattle.std.proofs.lemmas.List.{take_all}
use Rattle.std.proofs.lemmas.List.Elements.{All-get_or, All-more}
use Rattle.std.proofs.lemmas.Option.{get_or_from_slice_get}
use Rattle.gms_tuple.specs.TupleOrder.{IsOrdered}
use Rattle.gms_tuple.specs.TupleSet.{has}
use Rattle.gms_store.specs.State.{Symbol, symbol_at, given_in, differs_in, fits_at, statuses_in}
use Rattle.gms_save_text.specs.Validity.{are_statuses, fits_domain}
use Rattle.gms_save_text.proofs.Sorts.{own_symbol}
use Rattle.gms_save_text.proofs.FittingTuples.{alias_well}
use Rattle.gms_save_text.proofs.validity.is_given_well.Goals as goal

pub returns-then-is_alias : goal.returns-then-is_alias
returns-then-is_alias g c = (λ _. alias_well g.F.ExactField.limit c.args.labels c.args.store.now (symbol_at c.args.store.now c.args.name) (sym c.is_alias.ensures ∙ c.if-is_alias.true), λ _. refl)

pub returns-then-not-branch : goal.returns-then-not-branch
returns-then-not-branch g c =
    let labels = c.args.labels in
    let store = c.args.store.now in
    let symbol = symbol_at store c.args.name in
    let tuples = given_in symbol.content in
    let k = c.loop-place.place in
    let of = own_symbol store c.args.name (sym c.is_alias.ensures ∙ c.if-is_alias.false) in
    let given : c.given-given.result.now ≡ tuples = c.given-given.ensures.value ∙ ap (λ (s : Symbol). given_in s.content) of in
    let domain : c.domain_of-domain.result.now ≡ symbol.domain = c.domain_of-domain.ensures ∙ ap (λ (s : Symbol). s.domain) of in
    let within : k < length tuples = subst (λ (n : ℕ). k < n) (c.len-place-end.ensures.len ∙ ap length given) c.loop-place-test.true in
    let tuple : c.as_slice.result.now ≡ get_or tuples k [] = c.as_slice.ensures.value ∙ sym (get_or_from_slice_get _ k _ [] c.get.ensures) ∙ ap (λ (ts : List (List ℕ)). get_or ts k []) given in
    let here : c.in_ok-fits_domain.field-0 ≡ fits_domain labels store symbol.domain (get_or tuples k []) = c.in_ok-fits_domain.ensures ∙ ap₂ (λ (d : List (Option ℕ)) (t : List ℕ). fits_domain labels store d t) domain tuple in
    (λ e. absurd (both_ways false refl e), λ well. absurd (both_ways c.in_ok-fits_domain.field-0 c.if-not-branch.true (here ∙ All-get_or (λ t. fits_domain labels store symbol.domain t ≡ true) tuples k [] within well.occur)))

pub loop-place-preserved : goal.loop-place-preserved
loop-place-preserved g c =
    let labels = c.args.labels in
    let store = c.args.store.now in
    let symbol = symbol_at store c.args.name in
    let tuples = given_in symbol.content in
    let k = c.loop-place.place in
    let of = own_symbol store c.args.name (sym c.is_alias.ensures ∙ c.if-is_alias.false) in
    let given : c.given-given.result.now ≡ tuples = c.given-given.ensures.value ∙ ap (λ (s : Symbol). given_in s.content) of in
    let domain : c.domain_of-domain.result.now ≡ symbol.domain = c.domain_of-domain.ensures ∙ ap (λ (s : Symbol). s.domain) of in
    let within : k < length tuples = subst (λ (n : ℕ). k < n) (c.len-place-end.ensures.len ∙ ap length given) c.loop-place-test.true in
    let tuple : c.as_slice.result.now ≡ get_or tuples k [] = c.as_slice.ensures.value ∙ sym (get_or_from_slice_get _ k _ [] c.get.ensures) ∙ ap (λ (ts : List (List ℕ)). get_or ts k []) given in
    let here : c.in_ok-fits_domain.field-0 ≡ fits_domain labels store symbol.domain (get_or tuples k []) = c.in_ok-fits_domain.ensures ∙ ap₂ (λ (d : List (Option ℕ)) (t : List ℕ). fits_domain labels store d t) domain tuple in
    record {
      occur = All-more (λ t. fits_domain labels store symbol.domain t ≡ true) tuples k [] within c.loop-place.invariant.occur (sym here ∙ c.if-not-branch.false);
      few = All-more (λ t. length t ≤ 10) tuples k [] within c.loop-place.invariant.few (subst (λ (t : List ℕ). length t ≤ 10) tuple c.as_slice.ensures.most);
    }

pub returns : goal.returns
returns g c =
    let labels = c.args.labels in
    let store = c.args.store.now in
    let symbol = symbol_at store c.args.name in
    let tuples = given_in symbol.content in
    let k = c.loop-place.place in
    let of = own_symbol store c.args.name (sym c.is_alias.ensures ∙ c.if-is_alias.false) in
    let given : c.given-given.result.now ≡ tuples = c.given-given.ensures.value ∙ ap (λ (s : Symbol). given_in s.content) of in
    let past : length tuples ≤ k = subst (λ (n : ℕ). n ≤ k) (c.len-place-end.ensures.len ∙ ap length given) (let test = c.loop-place-test.false in omega (arith, test)) in
    let all = take_all k tuples past in (
      λ _. record {
        ordered = subst IsOrdered given c.given-given.ensures.ordered;
        few = subst (All (λ t. length t ≤ 10)) all c.loop-place.invariant.few;
        occur = subst (All (λ t. fits_domain labels store symbol.domain t ≡ true)) all c.loop-place.invariant.occur;
        fit = λ t. ap (λ (s : Symbol). fits_at g.F.ExactField.limit s.content t) (sym of) ∙ c.given-given.ensures.fit t;
        differs = λ t. ap (λ (ts : List (List ℕ)). has ts t) (sym given) ∙ c.given-given.ensures.differs t ∙ ap (λ (s : Symbol). differs_in s.content t) of;
        statuses = ap (λ (s : Symbol). are_statuses (statuses_in s.content).0 (statuses_in s.content).1) (sym of) ∙ ap (λ (p : ℕ × ℕ). are_statuses p.0 p.1) (sym c.status-model.ensures) ∙ sym c.are_statuses.ensures ∙ c.if-not-are_statuses.false;
      },
      λ _. refl,
    )
