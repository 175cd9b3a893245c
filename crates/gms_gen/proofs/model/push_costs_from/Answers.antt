use Rattle.std.proofs.Common.{◌≡◌, ◌+◌, ◌*◌, ◌++◌, refl, ap, ◌∙◌, arith}
use Rattle.std.specs.Prelude.{codes, string_bytes}
use Rattle.gms_gen.specs.Generator.{cost, datum, element, drawn}
use Rattle.gms_gen.proofs.Turns.{state-more, drawn-more, line-more, line-of-two}
use Rattle.gms_gen.proofs.model.push_costs_from.Goals as goal

pub loop-market-preserved : goal.loop-market-preserved
loop-market-preserved c =
    let n = c.loop-market.market in (
      λ seed before e. state-more seed (before + n) (before + (n + 1)) c.loop-market.draws c.draw.new.self (c.loop-market.invariant.0 seed before e) c.draw.ensures.state (omega arith),
      λ seed plants e.
          let before = c.args.markets + plants + c.args.plant * c.args.markets in
          let gives : c.draw.result ≡ drawn seed (before + n) 50 = drawn-more seed (before + n) (before + n) c.loop-market.draws c.draw.new.self 50 c.draw.result (c.loop-market.invariant.0 seed before e) c.draw.ensures.state c.draw.ensures.value refl in
          line-more (string_bytes c.args.text.now) (λ market. datum (element (codes "p") c.args.plant ++ codes "." ++ element (codes "m") market) (cost seed plants c.args.markets c.args.plant market)) n (n + 1) c.as_str.result.now (string_bytes c.loop-market.text) (string_bytes c.push_str.new.self) (c.loop-market.invariant.1 seed plants e) c.in_ok-push_str.ensures.bytes (c.as_str.ensures.value ∙ c.in_ok-line.ensures.ok ∙ line-of-two (element (codes "p") c.args.plant) (element (codes "m") n) (cost seed plants c.args.markets c.args.plant n) (1 + c.draw.result) (ap (λ d. 1 + d) gives)) (omega arith),
    )
