use Rattle.std.proofs.Common.{◌≡◌, ◌∙◌, sym, ap, subst, subst₂, length, true, false}
use Rattle.std.proofs.lemmas.Result.{err_from_is_err_and}
use Rattle.gq_number.specs.Number.{◌+ℚ◌}
use Rattle.gq_field.specs.Fits.{sum_fits}
use Rattle.lp_form.specs.Keys.{AreOrdered}
use Rattle.lp_form.specs.Forms.{number_at, coefficient}
use Rattle.lp_form.specs.Shown.{shown}
use Rattle.lp_form.specs.Sums.{number_or}
use Rattle.lp_form.proofs.Sums.{summed-Gives, summed-fault, kept-same}
use Rattle.lp_form.proofs.sum.FormSum.add_among.Goals as goal

pub returns-in_default-clause-value : goal.returns-in_default-clause-value
returns-in_default-clause-value g c =
    subst₂ (λ x y. sum_fits g.F.ExactField.limit (g.F.ExactField.value x) (g.F.ExactField.value y) ≡ false) c.offset.ensures.constant c.offset-2.ensures c.in_default.ensures

pub sums-requires-clause-ordered : goal.sums-requires-clause-ordered
sums-requires-clause-ordered g c = subst AreOrdered (sym c.keys-keys.ensures.keys) c.keys-keys.ensures.form.ordered

pub sums-requires-clause-paired : goal.sums-requires-clause-paired
sums-requires-clause-paired g c =
    ap length c.numbers.ensures.numbers ∙ c.keys-keys.ensures.form.paired ∙ sym (ap length c.keys-keys.ensures.keys)

pub returns-in_err-sums-clause-value : goal.returns-in_err-sums-clause-value
returns-in_err-sums-clause-value g c =
    let v = g.F.ExactField.value in
    let p = err_from_is_err_and c.from_residual.result c.from_residual.ensures.1 in
    let fit = subst₂ (λ x y. sum_fits g.F.ExactField.limit (v x) (v y) ≡ true) c.offset.ensures.constant c.offset-2.ensures c.in-Ok.ensures.0 in
    rw (p.1, p.2) (summed-fault v g.F.ExactField.limit c.args.self.now c.args.o.now c.keys-keys.result.now c.numbers.result.now c.keys-keys.ensures.keys c.numbers.ensures.numbers c.in_err-sums.field-0.0 c.in_err-sums.ensures fit)

pub returns-in_err-sums-clause-unchanged : goal.returns-in_err-sums-clause-unchanged
returns-in_err-sums-clause-unchanged g c =
    let p = err_from_is_err_and c.from_residual.result c.from_residual.ensures.1 in
    rw (p.1, p.2) (kept-same c.args.self.now c.in_err-sums.field-0.0)

pub put_all-requires-clause-ordered : goal.put_all-requires-clause-ordered
put_all-requires-clause-ordered g c = subst AreOrdered (sym c.keys-keys.ensures.keys) c.keys-keys.ensures.form.ordered

pub put_all-requires-clause-paired : goal.put_all-requires-clause-paired
put_all-requires-clause-paired g c = ap length c.as_slice.ensures.value ∙ c.in_ok-sums.ensures.0

pub returns-clause-value : goal.returns-clause-value
returns-clause-value g c =
    let v = g.F.ExactField.value in
    let fit = subst₂ (λ x y. sum_fits g.F.ExactField.limit (v x) (v y) ≡ true) c.offset.ensures.constant c.offset-2.ensures c.in-Ok.ensures.0 in
    let held = coefficient v c.in_ok-entries.entries in
    let moved : (key : _) → coefficient v c.set_offset.new.self key ≡ coefficient v c.put_all.new.self key = λ key. λ i. number_at v (c.set_offset.ensures.keys i) (c.set_offset.ensures.numbers i) key in
    let constants : v c.offset.result +ℚ v c.offset-2.result ≡ v c.args.self.now.constant +ℚ v c.args.o.now.constant = λ i. v (c.offset.ensures.constant i) +ℚ v (c.offset-2.ensures i) in
    summed-Gives v g.F.ExactField.limit c.args.self.now c.args.o.now c.keys-keys.result.now c.numbers.result.now c.keys-keys.ensures.keys c.numbers.ensures.numbers c.in_ok-sums.sums.items c.set_offset.new.self held c.in_ok-sums.ensures (λ key. c.in_ok-entries.ensures key ∙ ap (λ a. coefficient v a key) (ap shown c.replace-kept.ensures.value ∙ c.self.view_is)) (λ key. moved key ∙ c.in_ok-put_all.ensures.numbers key ∙ ap (λ zs. number_or v (held key) c.keys-keys.result.now zs key) c.as_slice.ensures.value) (ap v c.set_offset.ensures.constant ∙ c.in-Ok.ensures.1 ∙ constants) fit c.set_offset.ensures.form
