use Rattle.std.proofs.Common.{◌≡◌, [], ◌++◌, ap, ◌∙◌, arith}
use Rattle.std.specs.Prelude.{codes, string_bytes, decimal}
use Rattle.gms_gen.specs.Generator.{text_line, set_lines, demand_lines, supply_lines, transport_cost_lines, model_lines}
use Rattle.gms_gen.proofs.Pieces.{sets-written, following, following-two}
use Rattle.gms_gen.proofs.model.generate.Goals as goal

pub push_supplies-requires : goal.push_supplies-requires
push_supplies-requires c = omega (arith, c.in_ok-demand.ensures.few, c.ranges.markets.fits)

pub returns : goal.returns
returns c =
    let seed = c.args.seed in
    let plants = c.args.plants in
    let markets = c.args.markets in
    let total = c.in_ok-demand.ensures.total seed plants c.new-draws.ensures in
    let after_demands = c.in_ok-demand.ensures.draws seed c.new-draws.ensures in
    let after_supplies = c.in_ok-push_supplies.ensures.draws seed markets after_demands in
    let sets : string_bytes c.in_ok-text.text ≡ set_lines seed plants markets =
    c.in_ok-text.ensures.ok ∙ ap (λ t. codes "set p /p1*p" ++ t) (sets-written (decimal plants) (decimal markets) (codes "set m /m1*m")) in
    let one = following _ _ (text_line (codes "parameter b(m) /")) _ c.in_ok-push_str.ensures.bytes sets in
    let two = following _ _ (demand_lines seed plants markets) _ (c.in_ok-demand.ensures.text seed plants c.new-draws.ensures) one in
    let three = following-two _ _ (text_line (codes "/;")) (text_line (codes "parameter a(p) /")) _ c.in_ok-push_str-2.ensures.bytes two in
    let four = following _ _ (supply_lines seed plants markets) _ (c.in_ok-push_supplies.ensures.text seed markets after_demands total) three in
    let five = following-two _ _ (text_line (codes "/;")) (text_line (codes "parameter c(p,m) /")) _ c.in_ok-push_str-3.ensures.bytes four in
    let six = following _ _ (transport_cost_lines seed plants markets) _ (c.in_ok-push_costs.ensures seed after_supplies) five in
    let seven = following _ _ (text_line (codes "/;")) _ c.in_ok-push_str-4.ensures.bytes six in
    following _ _ (model_lines seed plants markets) _ c.in_ok-push_str-5.ensures.bytes seven
