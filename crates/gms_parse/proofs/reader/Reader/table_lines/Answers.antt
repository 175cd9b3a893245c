use Rattle.std.proofs.Common.{◌∙◌, refl, ap, sym, subst, arith, length}
use Rattle.std.specs.Str.{IsAscii}
use Rattle.gms_parse.proofs.Nexts.{falls}
use Rattle.gms_parse.proofs.TableSteps.{line_spelled, lines_start, lines_more, lines_end}
use Rattle.gms_parse.proofs.reader.Reader.table_lines.Goals as goal

pub loop-token-init : goal.loop-token-init
loop-token-init c = lines_start c.args.self.now c.args.at _ c.new-lines.ensures.items

pub ascii-requires : goal.ascii-requires
ascii-requires c = subst IsAscii (sym c.text.ensures) (line_spelled c.in-Some.ensures).0

pub returns-in_err-ascii : goal.returns-in_err-ascii
returns-in_err-ascii c = absurd c.in_err-ascii.ensures

pub loop-token-smaller : goal.loop-token-smaller
loop-token-smaller c = falls c.in-Some.ensures _ (let h = c.in-Some.ensures in omega arith)

pub loop-token-preserved : goal.loop-token-preserved
loop-token-preserved c =
    let bytes = c.in_ok-text.ensures.ok ∙ c.in_ok-ascii.ensures ∙ c.text.ensures in
    lines_more c.loop-token.invariant c.in-Some.ensures (record { text = c.in_ok-text.text; line = c.in-Some.token.at.line }) refl bytes (let e = ap length bytes in let l = (line_spelled c.in-Some.ensures).1 in omega (arith, e, l)) _ c.in_ok-push.ensures.items

pub returns : goal.returns
returns c = lines_end c.loop-token.invariant c.in_default.ensures
