use Rattle.gms_table.proofs.TextLemmas.{text_of-plain}
use Rattle.gms_table.proofs.label.plain_text.Goals as goal

pub returns : goal.returns
returns c = text_of-plain _ c.from_utf8.result c.ok.result c.args.bytes.now c.from_utf8.ensures.cases c.ok.ensures.value c.requires
