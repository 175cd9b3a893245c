use Rattle.std.proofs.Common.{◌∙◌, sym}
use Rattle.std.proofs.lemmas.Bool.Decides.{Decides-eqb}
use Rattle.std.proofs.lemmas.Slice.Eq.{slice_eq-Decides}
use Rattle.gms_save_text.proofs.Numbers.{plus_is, minus_is, na_is}
use Rattle.gms_save_text.proofs.values.value_in.Goals as goal

pub returns-then-eq : goal.returns-then-eq
returns-then-eq g c x fits is =
    plus_is g.F.ExactField.limit x g.met.F.ExactField.limit_range.1 fits (sym is ∙ (slice_eq-Decides Decides-eqb c.args.word.now c.as_slice.result.now c.eq.result c.eq.ensures).0 c.if-eq.true ∙ c.as_slice.ensures)

pub returns-then-eq-2 : goal.returns-then-eq-2
returns-then-eq-2 g c x fits is =
    minus_is g.F.ExactField.limit x g.met.F.ExactField.limit_range.1 fits (sym is ∙ (slice_eq-Decides Decides-eqb c.args.word.now c.as_slice-2.result.now c.eq-2.result c.eq-2.ensures).0 c.if-eq-2.true ∙ c.as_slice-2.ensures)

pub returns-then-eq-3 : goal.returns-then-eq-3
returns-then-eq-3 g c x fits is =
    na_is g.F.ExactField.limit x g.met.F.ExactField.limit_range.1 fits (sym is ∙ (slice_eq-Decides Decides-eqb c.args.word.now c.as_slice-3.result.now c.eq-3.result c.eq-3.ensures).0 c.if-eq-3.true ∙ c.as_slice-3.ensures)
