use Rattle.std.proofs.Common.{◌≡◌, length, inl, inr, pos, refl, arith}
use Rattle.std.proofs.lemmas.Bool.{cases_lt}
use Rattle.lp_integers.proofs.Lines.{whole_past}
use Rattle.std.proofs.lemmas.Result.{IfOk-from_err}
use Rattle.lp_integers.proofs.narrow.zero_words.Goals as goal

pub returns-clause-sized : goal.returns-clause-sized
returns-clause-sized c = let e = c.in_ok-resize.ensures.len in omega (arith, c.resize.new.self.ok.0)

pub returns-clause-zeros : goal.returns-clause-zeros
returns-clause-zeros c = λ k.
    let sized : length c.resize.new.self.items ≡ c.args.count = let e = c.in_ok-resize.ensures.len in omega (arith, c.resize.new.self.ok.0) in
    elim (cases_lt k c.args.count) [
      | inl less ↦ c.in_ok-resize.ensures.by_index.1 k (pos 0) refl (let e = c.in_ok-list.ensures.len in omega arith) less
      | inr past ↦ whole_past c.resize.new.self.items k (omega arith)
    ]

pub returns-in_err-list-clause-sized : goal.returns-in_err-list-clause-sized
returns-in_err-list-clause-sized c = IfOk-from_err c.from_residual.result _ c.from_residual.ensures.0

pub returns-in_err-list-clause-zeros : goal.returns-in_err-list-clause-zeros
returns-in_err-list-clause-zeros c = IfOk-from_err c.from_residual.result _ c.from_residual.ensures.0

pub returns-in_err-resize-clause-sized : goal.returns-in_err-resize-clause-sized
returns-in_err-resize-clause-sized c = IfOk-from_err c.from_residual-in_err-resize.result _ c.from_residual-in_err-resize.ensures.0

pub returns-in_err-resize-clause-zeros : goal.returns-in_err-resize-clause-zeros
returns-in_err-resize-clause-zeros c = IfOk-from_err c.from_residual-in_err-resize.result _ c.from_residual-in_err-resize.ensures.0
