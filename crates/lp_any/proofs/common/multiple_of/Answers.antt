use Rattle.std.proofs.Common.{◌≡◌, ◌<◌, arith}
use Rattle.gq_number.specs.Gcd.{gcd}
use Rattle.gq_number.specs.GcdLaws.{gcd_pos}
use Rattle.lp_any.proofs.common.multiple_of.Goals as goal

pub nonzero_div-part : goal.nonzero_div-part
nonzero_div-part c =
    let above : 0 < gcd c.args.first c.args.second = gcd_pos c.args.first c.args.second c.requires in
    let same : c.gcd-shared.result ≡ gcd c.args.first c.args.second = c.gcd-shared.ensures in
    omega arith
