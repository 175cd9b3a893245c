use Rattle.std.proofs.Common.{◌≡◌, ◌∙◌, ap, sym, length, not, subst}
use Rattle.gms_store.specs.declared.content.Content.TheVariants as variant
use Rattle.gms_store.specs.Shown.{attributes_shown, content_shown}
use Rattle.gms_store.specs.State.{with_attributes, same_attributes, IsNormalContent, Symbol}
use Rattle.gms_store.proofs.Views.{fits_from, after-change, variable-written, equation-written, kept-with_attributes}
use Rattle.gms_store.proofs.symbol.Symbol.put_attributes.Goals as goal

-- ---- a variable

pub returns-in-Variable-clause-ok : goal.returns-in-Variable-clause-ok
returns-in-Variable-clause-ok g c =
    let keep = ap not (c.is_same-keep.ensures ∙ ap (λ absent. same_attributes (attributes_shown g.F.ExactField.value c.args.new) absent) c.of_type.ensures) in
    after-change c.self.inside.domain (content_shown g.F.ExactField.value c.self.inside.content) _ c.args.self.now c.args.t.now (λ content. with_attributes content c.args.t.now (attributes_shown g.F.ExactField.value c.args.new)) c.self.view_is (fits_from c.fits.result c.args.t.now (length c.args.self.now.domain) c.if-not-fits.false c.fits.ensures) (variable-written g.F.ExactField.value c.self.inside.content c.in-Variable.kind c.in-Variable.entries c.write.new.self c.args.t.now c.args.new _ c.in-Variable.is keep c.in_ok-write.ensures.ok)

pub invariant_of-self-in-Variable : goal.invariant_of-self-in-Variable
invariant_of-self-in-Variable g c =
    let keep = ap not (c.is_same-keep.ensures ∙ ap (λ absent. same_attributes (attributes_shown g.F.ExactField.value c.args.new) absent) c.of_type.ensures) in
    let fits : length c.args.t.now ≡ length c.self.inside.domain = fits_from c.fits.result c.args.t.now (length c.args.self.now.domain) c.if-not-fits.false c.fits.ensures ∙ ap (λ (s : Symbol). length s.domain) (sym c.self.view_is) in
    subst (IsNormalContent (length c.self.inside.domain)) (sym (variable-written g.F.ExactField.value c.self.inside.content c.in-Variable.kind c.in-Variable.entries c.write.new.self c.args.t.now c.args.new _ c.in-Variable.is keep c.in_ok-write.ensures.ok)) (kept-with_attributes (length c.self.inside.domain) (content_shown g.F.ExactField.value c.self.inside.content) c.args.t.now (attributes_shown g.F.ExactField.value c.args.new) fits c.self.invariant)

pub invariant_of-self : goal.invariant_of-self
invariant_of-self g c =
    subst (λ content. IsNormalContent (length c.self.inside.domain) (content_shown g.F.ExactField.value content)) (c.in-Variable.is ∙ ap (variant.Variable c.in-Variable.kind) (sym c.in_err-write.ensures.err)) c.self.invariant

-- ---- an equation

pub returns : goal.returns
returns g c =
    let keep = ap not (c.is_same-keep-2.ensures ∙ ap (λ absent. same_attributes (attributes_shown g.F.ExactField.value c.args.new) absent) c.unbounded.ensures) in
    record {
      ok = after-change c.self.inside.domain (content_shown g.F.ExactField.value c.self.inside.content) _ c.args.self.now c.args.t.now (λ content. with_attributes content c.args.t.now (attributes_shown g.F.ExactField.value c.args.new)) c.self.view_is (fits_from c.fits.result c.args.t.now (length c.args.self.now.domain) c.if-not-fits.false c.fits.ensures) (equation-written g.F.ExactField.value c.self.inside.content c.in-Equation.entries c.write-2.new.self c.args.t.now c.args.new _ c.in-Equation.is keep c.in_ok-write-2.ensures.ok);
      err = tt;
    }

pub invariant_of-self-2 : goal.invariant_of-self-2
invariant_of-self-2 g c =
    let keep = ap not (c.is_same-keep-2.ensures ∙ ap (λ absent. same_attributes (attributes_shown g.F.ExactField.value c.args.new) absent) c.unbounded.ensures) in
    let fits : length c.args.t.now ≡ length c.self.inside.domain = fits_from c.fits.result c.args.t.now (length c.args.self.now.domain) c.if-not-fits.false c.fits.ensures ∙ ap (λ (s : Symbol). length s.domain) (sym c.self.view_is) in
    subst (IsNormalContent (length c.self.inside.domain)) (sym (equation-written g.F.ExactField.value c.self.inside.content c.in-Equation.entries c.write-2.new.self c.args.t.now c.args.new _ c.in-Equation.is keep c.in_ok-write-2.ensures.ok)) (kept-with_attributes (length c.self.inside.domain) (content_shown g.F.ExactField.value c.self.inside.content) c.args.t.now (attributes_shown g.F.ExactField.value c.args.new) fits c.self.invariant)

pub invariant_of-self-in_err-write-2 : goal.invariant_of-self-in_err-write-2
invariant_of-self-in_err-write-2 g c =
    subst (λ content. IsNormalContent (length c.self.inside.domain) (content_shown g.F.ExactField.value content)) (c.in-Equation.is ∙ ap variant.Equation (sym c.in_err-write-2.ensures.err)) c.self.invariant
