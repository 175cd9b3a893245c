use Rattle.std.proofs.Common.{ap₂, ◌∙◌}
use Rattle.gms_expressions.specs.declared.fault.SyntaxError.{SyntaxError}
use Rattle.gms_parse.specs.declared.fault.SourceError.TheVariants.{Syntax}
use Rattle.gms_parse.specs.declared.fault.SourceFaultOrMemory.TheVariants.{Fault}
use Rattle.gms_parse.specs.InnerReadings.{seen_from}
use Rattle.gms_parse.proofs.Entering.{left_out_told, unexpected_told}
use Rattle.gms_parse.proofs.reader.Reader.unexpected.Goals as goal
use Rattle.gms_parse.proofs.reader.Reader.unexpected.Goals.{in-NotInProfile, in_default}

pub returns : goal.returns
returns c = elim c.match-next.branch [
  | in-NotInProfile w ↦ c.at.ensures ∙ ap₂ (λ (x : SyntaxError) y. Fault (record { error = Syntax x; at = y })) (w.error-is ∙ left_out_told (seen_from c.args.self.now c.args.at) c.next.ensures w.in-NotInProfile.is) c.place.ensures
  | in_default w ↦ c.at.ensures ∙ ap₂ (λ (x : SyntaxError) y. Fault (record { error = Syntax x; at = y })) (w.error-is ∙ unexpected_told (seen_from c.args.self.now c.args.at) c.next.ensures w.in_default.not-NotInProfile) c.place.ensures
]
