use Rattle.std.proofs.Common.{◌≡◌, ◌∙◌, ◌+◌, true, false, not, ◌||◌, drop, ap, sym, rules}
use Rattle.std.proofs.lemmas.List.{drop_all}
use Rattle.gms_scope.specs.Entries.{above_of}
use Rattle.gms_scope.specs.Facts.{names}
use Rattle.gms_scope.specs.Names.{positions}
use Rattle.gms_check.specs.IndexList.{have_unfit_set}
use Rattle.gms_check.specs.StatementUses.{index_list}
use Rattle.gms_check.proofs.IndexLists.{unfit-past, unfit-at, unfit-label, unfit-end}
use Rattle.gms_check.proofs.indices.has_unfit_set.Goals as goal
use Rattle.gms_check.proofs.indices.has_unfit_set.Goals.{in_default-via-in-Label-1, in_default-via-in-Set+in-None-1, in_default-via-in-Set+in-Some+else-not-fits}

pub loop-place-preserved : goal.loop-place-preserved
loop-place-preserved g c =
    let known = c.args.known.now in
    let domain = positions known.state c.args.name in
    let xs = c.args.indices.now in
    let i = c.loop-place.place in
    let step : have_unfit_set known.state (names known) (above_of known.declared) c.args.name (drop (i + 1) domain) (index_list (drop (i + 1) xs)) ≡ have_unfit_set known.state (names known) (above_of known.declared) c.args.name (drop i domain) (index_list (drop i xs)) = elim c.in_default.branch [
      | in_default-via-in-Label-1 w ↦ search (rules, unfit-label known.state (names known) (above_of known.declared) c.args.name domain xs i c.index-indices-place.result c.loop-place-test.true c.index-indices-place.is)
      | in_default-via-in-Set+in-None-1 w ↦ search (rules, unfit-past known.state (names known) (above_of known.declared) c.args.name domain xs i c.index-indices-place.result c.loop-place-test.true c.index-indices-place.is)
      | in_default-via-in-Set+in-Some+else-not-fits w ↦ sym (unfit-at known.state (names known) (above_of known.declared) c.args.name domain xs i c.index-indices-place.result c.loop-place-test.true c.index-indices-place.is w.in-Some.position w.in-Set.set w.in-Set.lag (sym w.position.ensures ∙ w.in-Some.is) w.in-Set.is ∙ ap (λ b. not b || have_unfit_set known.state (names known) (above_of known.declared) c.args.name (drop (i + 1) domain) (index_list (drop (i + 1) xs))) (sym w.if-not-fits.ensures))
    ] in
    step ∙ c.loop-place.invariant

pub returns-in-loop-place : goal.returns-in-loop-place
returns-in-loop-place g c =
    let known = c.args.known.now in
    let domain = positions known.state c.args.name in
    let xs = c.args.indices.now in
    let i = c.loop-place.place in
    ap (λ b. not b || have_unfit_set known.state (names known) (above_of known.declared) c.args.name (drop (i + 1) domain) (index_list (drop (i + 1) xs))) c.if-not-fits.ensures ∙ sym (unfit-at known.state (names known) (above_of known.declared) c.args.name domain xs i c.index-indices-place.result c.loop-place-test.true c.index-indices-place.is c.in-Some.position c.in-Set.set c.in-Set.lag (sym c.position.ensures ∙ c.in-Some.is) c.in-Set.is) ∙ c.loop-place.invariant

pub returns : goal.returns
returns g c =
    let known = c.args.known.now in
    let domain = positions known.state c.args.name in
    let xs = c.args.indices.now in
    let i = c.loop-place.place in
    let none = drop_all i xs c.loop-place-test.false in
    sym (unfit-end _ known.state (names known) (above_of known.declared) c.args.name (drop i domain)) ∙ sym (ap (λ ys. have_unfit_set known.state (names known) (above_of known.declared) c.args.name (drop i domain) (index_list ys)) none) ∙ c.loop-place.invariant
