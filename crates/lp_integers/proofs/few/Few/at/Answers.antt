use Rattle.std.proofs.Common.{◌-◌, ◌^◌, FitsSigned, w64, sym, ap, ◌∙◌, subst}
use Rattle.std.proofs.lemmas.Int.{to_z-of_z}
use Rattle.lp_integers.specs.Lines.{whole_at}
use Rattle.lp_integers.specs.Words.{stored_number, AreWords}
use Rattle.lp_integers.proofs.Words.{spread_any}
use Rattle.lp_integers.proofs.few.Few.at.Goals as goal

pub number_at-requires : goal.number_at-requires
number_at-requires c = (2 ^ 63 - 1, c.self.inside.len, subst (AreWords (2 ^ 63 - 1) 0 c.self.inside.len) (sym c.as_slice.ensures.value) c.self.invariant)

pub returns : goal.returns
returns c =
    let fits : FitsSigned w64 c.number_at.result = record { sfits = c.number_at.type_inv } in
    to_z-of_z w64 c.number_at.result fits
    ∙ c.number_at.ensures ∙ ap (λ ws. stored_number ws c.args.place) c.as_slice.ensures.value
    ∙ sym (spread_any c.self.inside.len c.self.inside.words.items (2 ^ 63 - 1) c.args.place c.self.invariant) ∙ ap (λ list. whole_at list c.args.place) c.self.view_is
