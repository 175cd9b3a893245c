use Rattle.std.proofs.Common.{◌≡◌, ◌+◌, ◌++◌, refl, ap, ◌∙◌, arith}
use Rattle.std.specs.Prelude.{codes, string_bytes}
use Rattle.gms_gen.specs.Generator.{seed_after, demand, datum, element, texts_below, sum_below, drawn}
use Rattle.gms_gen.proofs.Turns.{state-more, drawn-more, line-more, sum-more, line-of}
use Rattle.gms_gen.proofs.model.push_demands.Goals as goal

pub loop-market-preserved : goal.loop-market-preserved
loop-market-preserved c =
    let n = c.loop-market.market in (
      omega (arith, c.loop-market.invariant.0, c.draw.ensures.below),
      λ seed plants e.
          let was = c.loop-market.invariant.1 seed plants e in
          let gives : c.draw.result ≡ drawn seed n 90 = drawn-more seed n n c.loop-market.draws c.draw.new.self 90 c.draw.result was.0 c.draw.ensures.state c.draw.ensures.value refl in (
            state-more seed n (n + 1) c.loop-market.draws c.draw.new.self was.0 c.draw.ensures.state (omega arith),
            sum-more (demand seed plants c.args.markets) n (n + 1) c.loop-market.total (10 + c.draw.result) was.1 (ap (λ d. 10 + d) gives) (omega arith),
            line-more (string_bytes c.args.text.now) (λ market. datum (element (codes "m") market) (demand seed plants c.args.markets market)) n (n + 1) c.as_str.result.now (string_bytes c.loop-market.text) (string_bytes c.push_str.new.self) was.2 c.in_ok-push_str.ensures.bytes (c.as_str.ensures.value ∙ c.in_ok-line.ensures.ok ∙ line-of (element (codes "m") n) (demand seed plants c.args.markets n) (10 + c.draw.result) (ap (λ d. 10 + d) gives)) (omega arith),
          ),
    )

pub returns-clause-text : goal.returns-clause-text
returns-clause-text c = λ seed plants e.
    (c.loop-market.invariant.1 seed plants e).2 ∙ ap (λ n. string_bytes c.args.text.now ++ texts_below n (λ market. datum (element (codes "m") market) (demand seed plants c.args.markets market))) (let all : c.loop-market.market ≡ c.args.markets = omega (arith, c.loop-market-test.false, c.loop-market.auto.market-end) in all)

pub returns-clause-total : goal.returns-clause-total
returns-clause-total c = λ seed plants e. (c.loop-market.invariant.1 seed plants e).1 ∙ ap (λ n. sum_below n (demand seed plants c.args.markets)) (let all : c.loop-market.market ≡ c.args.markets = omega (arith, c.loop-market-test.false, c.loop-market.auto.market-end) in all)

pub returns-clause-draws : goal.returns-clause-draws
returns-clause-draws c = λ seed e. (c.loop-market.invariant.1 seed 0 e).0 ∙ ap (seed_after seed) (let all : c.loop-market.market ≡ c.args.markets = omega (arith, c.loop-market-test.false, c.loop-market.auto.market-end) in all)
