use Rattle.std.proofs.Common.{◌∙◌, ap, sym}
use Rattle.gq_extended.specs.Meaning.{extended}
use Rattle.gms_list.specs.ListingText.{rounded_value_text}
use Rattle.gms_list.proofs.Rounding.{rounded_is}
use Rattle.gms_list.proofs.values.value_text.Goals as goal

pub returns-in-Number : goal.returns-in-Number
returns-in-Number g c =
    c.as_str.ensures
    ∙ rounded_is g.F.ExactField.limit c.args.decimals (g.F.ExactField.value c.in-Number.x) c.put_rounded.new.into c.requires g.met.F.ExactField.limit_range.1 (g.met.F.ExactField.within c.in-Number.x) c.put_rounded.ensures
    ∙ ap (λ v. rounded_value_text c.args.decimals (extended g.F.ExactField.value v)) (sym c.in-Number.is)
