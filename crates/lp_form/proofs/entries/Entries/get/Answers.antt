use Rattle.std.proofs.Common.{◌≡◌, ◌∙◌, sym, ap, subst}
use Rattle.std.specs.Option.{option_copied}
use Rattle.lp_form.specs.Forms.{coefficient}
use Rattle.lp_form.proofs.Maps.{looked_up, number_of}
use Rattle.lp_form.proofs.entries.Entries.get.Goals as goal

pub returns-in-Some : goal.returns-in-Some
returns-in-Some g c =
    subst (λ a. g.F.ExactField.value c.in-Some.number.now ≡ coefficient g.F.ExactField.value a c.args.k.now) c.self.view_is (sym (looked_up g.F.ExactField.value c.self.inside.numbers.entries c.args.k.now ∙ ap (number_of g.F.ExactField.value) (sym c.get.ensures.value ∙ ap option_copied c.in-Some.is)))

pub returns-in-None : goal.returns-in-None
returns-in-None g c =
    subst (λ a. g.F.ExactField.value c.zero.result ≡ coefficient g.F.ExactField.value a c.args.k.now) c.self.view_is (c.zero.ensures ∙ sym (looked_up g.F.ExactField.value c.self.inside.numbers.entries c.args.k.now ∙ ap (number_of g.F.ExactField.value) (sym c.get.ensures.value ∙ ap option_copied c.in-None.is)))
