use Rattle.std.proofs.Common.{◌≡◌, ◌∙◌, ◌≤◌, ◌+◌, ◌&&◌, ℕ, Bool, true, false, None, drop, get_or, refl, sym, ap, arith}
use Rattle.std.specs.Prelude.{nat_lt}
use Rattle.std.proofs.lemmas.Bool.Decides.{nat_tests}
use Rattle.gms_save_text.specs.Validity.{fits_position, fits_domain}
use Rattle.gms_save_text.proofs.FittingTuples.{occurs-not, occurs-next}
use Rattle.gms_save_text.proofs.validity.fits_domain.Goals as goal
use Rattle.gms_save_text.proofs.validity.fits_domain.Goals.{then-label-labels-via-then-label-labels, then-label-labels-via-else-label-labels+in_ok-fits_position+then-not-branch}

not_below : (a b : ℕ) → b ≤ a → nat_lt a b ≡ false
not_below a b over = grind (arith, nat_tests)

-- where the second of three tests fails, not all succeed
second_fails : (a b d : Bool) → b ≡ false → (a && (b && d)) ≡ false
second_fails true b d e = ap (λ (x : Bool). x && d) e
second_fails false b d e = refl

pub returns-then-domain-tuple : goal.returns-then-domain-tuple
returns-then-domain-tuple g c = occurs-not c.args.labels c.args.store.now c.args.domain.now c.args.tuple.now (λ e. let other = c.if-domain-tuple.true in omega (arith, e, other))

pub returns-then-label-labels : goal.returns-then-label-labels
returns-then-label-labels g c =
    let labels = c.args.labels in
    let store = c.args.store.now in
    let domain = c.args.domain.now in
    let tuple = c.args.tuple.now in
    let k = c.loop-place.place in
    elim c.then-label-labels.branch [
      | then-label-labels-via-then-label-labels w ↦
          sym (c.loop-place.invariant ∙ occurs-next labels store domain tuple k None 0 c.loop-place-test.true c.if-domain-tuple.false ∙ ap (λ (b : Bool). b && (fits_position store (get_or domain k None) (get_or tuple k 0) && fits_domain labels store (drop (k + 1) domain) (drop (k + 1) tuple))) (not_below (get_or tuple k 0) labels (let over = w.if-label-labels.true in omega (arith, over))))
      | then-label-labels-via-else-label-labels+in_ok-fits_position+then-not-branch w ↦
          sym (c.loop-place.invariant ∙ occurs-next labels store domain tuple k _ 0 c.loop-place-test.true c.if-domain-tuple.false ∙ second_fails (nat_lt (get_or tuple k 0) labels) _ (fits_domain labels store (drop (k + 1) domain) (drop (k + 1) tuple)) (sym w.in_ok-fits_position.ensures ∙ w.if-not-branch.true))
    ]
