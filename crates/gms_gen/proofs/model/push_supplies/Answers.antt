use Rattle.std.proofs.Common.{◌≡◌, ◌+◌, ◌/◌, refl, ap, ◌∙◌, arith}
use Rattle.std.specs.Prelude.{codes, string_bytes}
use Rattle.gms_gen.specs.Generator.{supply, datum, element, drawn, total_demand}
use Rattle.gms_gen.proofs.Turns.{state-more, drawn-more, line-more, line-of}
use Rattle.gms_gen.proofs.model.push_supplies.Goals as goal

pub loop-plant-preserved : goal.loop-plant-preserved
loop-plant-preserved c =
    let n = c.loop-plant.plant in λ seed markets e.
    let was = c.loop-plant.invariant seed markets e in
    let gives : c.draw.result ≡ drawn seed (markets + n) 10 = drawn-more seed (markets + n) (markets + n) c.loop-plant.draws c.draw.new.self 10 c.draw.result was.0 c.draw.ensures.state c.draw.ensures.value refl in (
      state-more seed (markets + n) (markets + (n + 1)) c.loop-plant.draws c.draw.new.self was.0 c.draw.ensures.state (omega arith),
      λ all. line-more (string_bytes c.args.text.now) (λ plant. datum (element (codes "p") plant) (supply seed c.args.plants markets plant)) n (n + 1) c.as_str.result.now (string_bytes c.loop-plant.text) (string_bytes c.push_str.new.self) (was.1 all) c.in_ok-push_str.ensures.bytes (c.as_str.ensures.value ∙ c.in_ok-line.ensures.ok ∙ line-of (element (codes "p") n) (supply seed c.args.plants markets n) (c.args.demand / c.from.result + 1 + c.draw.result) (ap (λ d. d / c.from.result + 1 + c.draw.result) all ∙ ap (λ p. total_demand seed c.args.plants markets / p + 1 + c.draw.result) c.from.ensures ∙ ap (λ v. total_demand seed c.args.plants markets / c.args.plants + 1 + v) gives)) (omega arith),
    )
