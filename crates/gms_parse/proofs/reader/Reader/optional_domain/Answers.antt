use Rattle.std.proofs.Common.{sym, ◌∙◌}
use Rattle.gms_parse.proofs.Domains.{no_domain, some_domain}
use Rattle.gms_parse.proofs.reader.Reader.optional_domain.Goals as goal

pub returns-then-is_next : goal.returns-then-is_next
returns-then-is_next c limit = some_domain limit c.args.self.now c.args.at c.args.tables.now c.domain.new.tables c.domain.result (c.domain.ensures limit) (sym c.is_next.ensures ∙ c.if-is_next.true)

pub returns : goal.returns
returns c limit read_state h o other = no_domain c.new.result c.new.ensures.items h (sym c.is_next.ensures ∙ c.if-is_next.false)
