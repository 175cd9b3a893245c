use Rattle.std.proofs.Common.{◌≡◌, ◌-◌, ◌^◌, ℕ, pos, length, sym, ap, ◌∙◌, subst, subst₂}
use Rattle.std.proofs.lemmas.List.{with_items_is}
use Rattle.std.proofs.lemmas.Result.{IfOk-from_err}
use Rattle.lp_integers.specs.Lines.{whole_at}
use Rattle.lp_integers.specs.Words.{stored_number, AreWords}
use Rattle.lp_integers.proofs.Words.{spread_same}
use Rattle.lp_integers.proofs.few.Few.listed.Goals as goal

pub returns : goal.returns
returns c =
    let sized : length c.fill.new.list ≡ c.in_ok-list.list.len = c.fill.ensures.sized ∙ c.as_mut_slice.ensures.len in
    let len : length c.fill.new.list ≡ c.self.inside.len = c.fill.ensures.sized ∙ ap length c.as_mut_slice.ensures.value ∙ c.in_ok-list.ensures.sized in
    with_items_is c.in_ok-list.list c.fill.new.list sized
    ∙ spread_same c.self.inside.len c.self.inside.words.items c.fill.new.list len (λ k less. c.fill.ensures.numbers k ∙ ap (λ words. stored_number words k) c.as_slice.ensures.value)
    ∙ c.self.view_is

pub returns-in_err-list : goal.returns-in_err-list
returns-in_err-list c = IfOk-from_err c.from_residual.result _ c.from_residual.ensures.0

pub fill-requires-clause-words : goal.fill-requires-clause-words
fill-requires-clause-words c = (
  2 ^ 63 - 1,
  subst₂ (AreWords (2 ^ 63 - 1) 0) (sym (ap length c.as_mut_slice.ensures.value ∙ c.in_ok-list.ensures.sized)) (sym c.as_slice.ensures.value) c.self.invariant,
)

pub fill-requires-clause-zeros : goal.fill-requires-clause-zeros
fill-requires-clause-zeros c = subst (λ l. (k : ℕ) → whole_at l k ≡ pos 0) (sym c.as_mut_slice.ensures.value) c.in_ok-list.ensures.zeros
