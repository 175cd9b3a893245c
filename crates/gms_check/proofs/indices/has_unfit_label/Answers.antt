use Rattle.std.proofs.Common.{◌≡◌, ◌∙◌, ◌+◌, true, false, not, ◌||◌, drop, ap, sym, rules}
use Rattle.std.proofs.lemmas.List.{drop_all}
use Rattle.gms_scope.specs.Facts.{names}
use Rattle.gms_scope.specs.Names.{positions}
use Rattle.gms_check.specs.IndexList.{have_unfit_label}
use Rattle.gms_check.specs.StatementUses.{index_list}
use Rattle.gms_check.proofs.IndexLists.{outside-past, outside-at, outside-set, outside-end}
use Rattle.gms_check.proofs.indices.has_unfit_label.Goals as goal
use Rattle.gms_check.proofs.indices.has_unfit_label.Goals.{in-Label+in-Some+in_ok-holds+else-not-holds, in_default, in_default-via-in-Set-1, in_default-via-in-Label+in-None-1}

pub loop-place-preserved : goal.loop-place-preserved
loop-place-preserved g c =
    let known = c.args.known.now in
    let domain = positions known.state c.args.name in
    let xs = c.args.indices.now in
    let i = c.loop-place.place in
    let step : have_unfit_label known.state (names known) c.args.name (drop (i + 1) domain) (index_list (drop (i + 1) xs)) ≡ have_unfit_label known.state (names known) c.args.name (drop i domain) (index_list (drop i xs)) = elim c.match-index.branch [
      | in-Label+in-Some+in_ok-holds+else-not-holds w ↦ sym (outside-at known.state (names known) c.args.name domain xs i c.index-indices-place.result c.loop-place-test.true c.index-indices-place.is w.in-Some.position w.in-Label.label (sym w.position.ensures ∙ w.in-Some.is) w.in-Label.is ∙ ap (λ b. not b || have_unfit_label known.state (names known) c.args.name (drop (i + 1) domain) (index_list (drop (i + 1) xs))) (sym w.in_ok-holds.ensures ∙ w.if-not-holds.false))
      | in_default w ↦ elim w.in_default.branch [
        | in_default-via-in-Set-1 v ↦ search (rules, outside-set known.state (names known) c.args.name domain xs i c.index-indices-place.result c.loop-place-test.true c.index-indices-place.is)
        | in_default-via-in-Label+in-None-1 v ↦ search (rules, outside-past known.state (names known) c.args.name domain xs i c.index-indices-place.result c.loop-place-test.true c.index-indices-place.is)
      ]
    ] in
    step ∙ c.loop-place.invariant

pub returns-then-not-holds : goal.returns-then-not-holds
returns-then-not-holds g c =
    let known = c.args.known.now in
    let domain = positions known.state c.args.name in
    let xs = c.args.indices.now in
    let i = c.loop-place.place in
    ap (λ b. not b || have_unfit_label known.state (names known) c.args.name (drop (i + 1) domain) (index_list (drop (i + 1) xs))) (sym c.if-not-holds.true ∙ c.in_ok-holds.ensures) ∙ sym (outside-at known.state (names known) c.args.name domain xs i c.index-indices-place.result c.loop-place-test.true c.index-indices-place.is c.in-Some.position c.in-Label.label (sym c.position.ensures ∙ c.in-Some.is) c.in-Label.is) ∙ c.loop-place.invariant

pub returns : goal.returns
returns g c =
    let known = c.args.known.now in
    let domain = positions known.state c.args.name in
    let xs = c.args.indices.now in
    let i = c.loop-place.place in
    let none = drop_all i xs c.loop-place-test.false in
    sym (outside-end _ known.state (names known) c.args.name (drop i domain)) ∙ sym (ap (λ ys. have_unfit_label known.state (names known) c.args.name (drop i domain) (index_list ys)) none) ∙ c.loop-place.invariant
