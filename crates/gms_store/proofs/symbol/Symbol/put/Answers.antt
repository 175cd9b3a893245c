use Rattle.std.proofs.Common.{◌≡◌, ◌∙◌, ap, sym, length, subst}
use Rattle.gq_extended.specs.Meaning.{extended}
use Rattle.gms_store.specs.Shown.{content_shown}
use Rattle.gms_store.specs.State.{with_value, IsNormalContent, Symbol}
use Rattle.gms_store.proofs.Views.{fits_from, after-change, value-written, kept-with_value}
use Rattle.gms_store.proofs.symbol.Symbol.put.Goals as goal

pub returns-clause-ok : goal.returns-clause-ok
returns-clause-ok g c =
    after-change c.self.inside.domain (content_shown g.F.ExactField.value c.self.inside.content) _ c.args.self.now c.args.t.now (λ content. with_value content c.args.t.now (extended g.F.ExactField.value c.args.value)) c.self.view_is (fits_from c.fits.result c.args.t.now (length c.args.self.now.domain) c.if-not-fits.false c.fits.ensures) (value-written g.F.ExactField.value c.self.inside.content c.in-Parameter.entries c.write.new.self c.args.t.now c.args.value c.is_given.result c.in-Parameter.is c.is_given.ensures c.in_ok-write.ensures.ok)

pub invariant_of-self-2 : goal.invariant_of-self-2
invariant_of-self-2 g c =
    let fits : length c.args.t.now ≡ length c.self.inside.domain = fits_from c.fits.result c.args.t.now (length c.args.self.now.domain) c.if-not-fits.false c.fits.ensures ∙ ap (λ (s : Symbol). length s.domain) (sym c.self.view_is) in
    subst (IsNormalContent (length c.self.inside.domain)) (sym (value-written g.F.ExactField.value c.self.inside.content c.in-Parameter.entries c.write.new.self c.args.t.now c.args.value c.is_given.result c.in-Parameter.is c.is_given.ensures c.in_ok-write.ensures.ok)) (kept-with_value (length c.self.inside.domain) (content_shown g.F.ExactField.value c.self.inside.content) c.args.t.now (extended g.F.ExactField.value c.args.value) fits c.self.invariant)
