use Rattle.std.proofs.Common.{◌-◌, ◌^◌, length, map, sym, ap, ◌∙◌, subst, subst₂}
use Rattle.lp_integers.specs.declared.few.Word.{Word}
use Rattle.lp_integers.specs.Lines.{ArePlaces}
use Rattle.lp_integers.specs.Words.{spread_out}
use Rattle.lp_integers.proofs.Words.{spread_length}
use Rattle.lp_integers.proofs.Each.{are_places}
use Rattle.lp_integers.proofs.few.Few.places.Goals as goal

pub returns : goal.returns
returns c =
    subst (λ list. ArePlaces list (length list) c.in_ok-places.places.items) c.self.view_is
    (subst₂ (λ m ps. ArePlaces (spread_out c.self.inside.len c.self.inside.words.items) m ps) (sym (spread_length c.self.inside.len c.self.inside.words.items)) (sym (c.in_ok-places.ensures ∙ ap (map (λ (w : Word). w.place)) c.as_slice.ensures.value))
    (are_places c.self.inside.len c.self.inside.words.items (2 ^ 63 - 1) c.self.invariant))
