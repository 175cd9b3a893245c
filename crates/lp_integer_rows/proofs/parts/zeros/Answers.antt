use Rattle.std.proofs.Common.{◌≡◌, length, pos, refl, arith}
use Rattle.lp_integer_rows.proofs.Filling.{zeros_are}
use Rattle.lp_integer_rows.proofs.parts.zeros.Goals as goal

pub returns : goal.returns
returns c =
    let sized : length c.resize.new.self.items ≡ c.args.count = let e = c.in_ok-resize.ensures.len in omega (arith, c.resize.new.self.ok.0) in
    zeros_are c.resize.new.self.items c.args.count sized (λ k less. c.in_ok-resize.ensures.by_index.1 k (pos 0) refl (let e = c.new-list.ensures.len in omega arith) less)
