use Rattle.std.proofs.Common.{◌≡◌, ◌∙◌, sym, ap, get_or, subst, length, arith, Err, Equal}
use Rattle.std.specs.List.Sorted.{IsBinarySearchResult}
use Rattle.lp_form.specs.Keys.{key_cmp}
use Rattle.lp_form.specs.Forms.{coefficient}
use Rattle.lp_form.proofs.Results.{number_at_found, number_at_missing}
use Rattle.lp_form.proofs.form.Form.get.Goals as goal

pub returns-in-Ok : goal.returns-in-Ok
returns-in-Ok g c =
    let found = subst (λ keys. key_cmp (get_or keys c.in-Ok.place c.args.k.now) c.args.k.now ≡ Equal) c.as_slice.ensures.value (c.in-Ok.ensures.ok c.args.k.now) in
    subst (λ a. g.F.ExactField.value c.index.result.now ≡ coefficient g.F.ExactField.value a c.args.k.now) c.self.view_is
    (number_at_found g.F.ExactField.value c.self.inside.keys.items c.self.inside.numbers.items c.in-Ok.place c.args.k.now c.index.result.now c.self.invariant.ordered c.self.invariant.paired (omega (arith, c.in-Ok.ensures.bound, ap length c.as_slice.ensures.value)) found c.index.ensures)

pub returns-in-Err : goal.returns-in-Err
returns-in-Err g c =
    c.zero.ensures ∙ sym (subst (λ a. coefficient g.F.ExactField.value a c.args.k.now ≡ _) c.self.view_is
    (number_at_missing g.F.ExactField.value c.self.inside.keys.items c.self.inside.numbers.items c.args.k.now c.in-Err.field-0 c.self.invariant.ordered
    (subst (λ keys. IsBinarySearchResult (λ k. key_cmp k c.args.k.now) keys (Err c.in-Err.field-0)) c.as_slice.ensures.value c.in-Err.ensures.position)))
