use Rattle.std.proofs.Common.{ap, ◌∙◌, ◌++◌, ◌∷◌, []}
use Rattle.gq_number.proofs.Quotients.{one-≢-zero}
use Rattle.std.proofs.Common.{subst, sym, ◌≢◌, pos}
use Rattle.gq_number.specs.Number.{whole}
use Rattle.lp_form.proofs.Results.{one_entry}
use Rattle.lp_form.proofs.form.Form.column.Goals as goal

pub invariant_of-result : goal.invariant_of-result
invariant_of-result g c =
    one_entry g.F.ExactField.value c.zero.result c.push.new.self.items c.push-2.new.self.items c.args.k c.one.result (c.in_ok-push.ensures.items ∙ ap (λ ks. ks ++ c.args.k ∷ []) c.new-keys.ensures.items) (c.in_ok-push-2.ensures.items ∙ ap (λ xs. xs ++ c.one.result ∷ []) c.new-numbers.ensures.items) (subst (λ x. x ≢ whole (pos 0)) (sym c.one.ensures) one-≢-zero)

pub returns-clause-form : goal.returns-clause-form
returns-clause-form g c =
    one_entry g.F.ExactField.value c.zero.result c.push.new.self.items c.push-2.new.self.items c.args.k c.one.result (c.in_ok-push.ensures.items ∙ ap (λ ks. ks ++ c.args.k ∷ []) c.new-keys.ensures.items) (c.in_ok-push-2.ensures.items ∙ ap (λ xs. xs ++ c.one.result ∷ []) c.new-numbers.ensures.items) (subst (λ x. x ≢ whole (pos 0)) (sym c.one.ensures) one-≢-zero)
