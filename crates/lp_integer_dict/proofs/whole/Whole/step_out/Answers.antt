use Rattle.std.proofs.Common.{◌≡◌, ◌+◌, inr, length, None, refl, sym, ap, ◌∙◌, subst, arith}
use Rattle.lp_core.specs.Dictionary.{IsLegal, exchanged}
use Rattle.lp_integer_dict.specs.WithinBound.{ExchangeExceeds}
use Rattle.lp_integer_dict.specs.Whole.{WholeTableau, integer_dictionary, kept_place}
use Rattle.lp_integer_dict.proofs.Crowding.{tableau_same, whole_same, dictionary_same}
use Rattle.lp_integer_dict.proofs.Pivoting.{tableau_after, k_in, column_in, after_out, off_bounded, off_pivot_above, turned_are}
use Rattle.lp_integer_dict.proofs.whole.Whole.step_out.Goals as goal

pub turn_lines-requires-clause-lines : goal.turn_lines-requires-clause-lines
turn_lines-requires-clause-lines c =
    (c.self.inside.variables + 2, c.self.invariant.are_whole.are_lines, c.self.invariant.are_whole.wide, column_in (record { variables = c.self.inside.variables; basic = c.self.inside.basic.items; lines = c.self.inside.lines.items; deferred = c.self.inside.deferred; bound = c.self.inside.bound }) c.self.invariant c.args.p c.args.place (subst (λ (t : WholeTableau). IsLegal (integer_dictionary t) c.args.p c.args.place) (sym c.self.view_is) c.requires.legal))

pub turn_lines-requires-clause-within : goal.turn_lines-requires-clause-within
turn_lines-requires-clause-within c =
    let less = k_in (record { variables = c.self.inside.variables; basic = c.self.inside.basic.items; lines = c.self.inside.lines.items; deferred = c.self.inside.deferred; bound = c.self.inside.bound }) c.self.invariant c.args.p c.args.place (subst (λ (t : WholeTableau). IsLegal (integer_dictionary t) c.args.p c.args.place) (sym c.self.view_is) c.requires.legal) in let paired = c.self.invariant.paired in (omega arith, omega arith)

pub turn_lines-requires-clause-small : goal.turn_lines-requires-clause-small
turn_lines-requires-clause-small c =
    c.self.invariant.are_whole.small

pub turn_lines-requires-clause-bounded : goal.turn_lines-requires-clause-bounded
turn_lines-requires-clause-bounded c =
    off_bounded (record { variables = c.self.inside.variables; basic = c.self.inside.basic.items; lines = c.self.inside.lines.items; deferred = c.self.inside.deferred; bound = c.self.inside.bound }) c.self.invariant c.args.p c.args.place (subst (λ (t : WholeTableau). IsLegal (integer_dictionary t) c.args.p c.args.place) (sym c.self.view_is) c.requires.legal) c.args.place ((ap (λ (t : WholeTableau). t.deferred) c.self.view_is) ∙ c.requires.out)

pub turn_lines-requires-clause-above : goal.turn_lines-requires-clause-above
turn_lines-requires-clause-above c =
    off_pivot_above (record { variables = c.self.inside.variables; basic = c.self.inside.basic.items; lines = c.self.inside.lines.items; deferred = c.self.inside.deferred; bound = c.self.inside.bound }) c.self.invariant c.args.p c.args.place (subst (λ (t : WholeTableau). IsLegal (integer_dictionary t) c.args.p c.args.place) (sym c.self.view_is) c.requires.legal) c.args.place ((ap (λ (t : WholeTableau). t.deferred) c.self.view_is) ∙ c.requires.out) c.requires.later

pub invariant_of-same : goal.invariant_of-same
invariant_of-same c =
    whole_same (record { variables = c.self.inside.variables; basic = c.self.inside.basic.items; lines = c.self.inside.lines.items; deferred = c.self.inside.deferred; bound = c.self.inside.bound }) c.self.invariant c.turn_lines.new.lines.items (c.in_ok-done.ensures.same c.if-not-done.true)

pub returns-then-not-done : goal.returns-then-not-done
returns-then-not-done c = (
  tt,
  (
    subst (λ (t : WholeTableau). integer_dictionary (tableau_same (record { variables = c.self.inside.variables; basic = c.self.inside.basic.items; lines = c.self.inside.lines.items; deferred = c.self.inside.deferred; bound = c.self.inside.bound }) c.self.invariant c.turn_lines.new.lines.items (c.in_ok-done.ensures.same c.if-not-done.true)) ≡ integer_dictionary t) c.self.view_is (dictionary_same (record { variables = c.self.inside.variables; basic = c.self.inside.basic.items; lines = c.self.inside.lines.items; deferred = c.self.inside.deferred; bound = c.self.inside.bound }) c.self.invariant c.turn_lines.new.lines.items (c.in_ok-done.ensures.same c.if-not-done.true)),
    (ap (λ (t : WholeTableau). t.bound) c.self.view_is),
    inr (c.requires.later, subst (λ o. ExchangeExceeds c.self.inside.bound (c.args.p.enter + 1) (kept_place o c.args.place) c.args.place c.turn_lines.new.lines.items) (sym ((ap (λ (t : WholeTableau). t.deferred) c.self.view_is) ∙ c.requires.out)) (c.in_ok-done.ensures.none c.if-not-done.true)),
  ),
)

pub forget_zero-requires : goal.forget_zero-requires
forget_zero-requires c =
    (c.self.inside.variables + 2, turned_are c.self.inside.bound (c.args.p.enter + 1) c.args.place c.args.place (length c.self.inside.basic.items) c.self.inside.lines.items c.turn_lines.new.lines.items c.self.invariant.paired (k_in (record { variables = c.self.inside.variables; basic = c.self.inside.basic.items; lines = c.self.inside.lines.items; deferred = c.self.inside.deferred; bound = c.self.inside.bound }) c.self.invariant c.args.p c.args.place (subst (λ (t : WholeTableau). IsLegal (integer_dictionary t) c.args.p c.args.place) (sym c.self.view_is) c.requires.legal)) (c.in_ok-done.ensures.turned c.if-not-done.false) (c.self.inside.variables + 2) c.self.invariant.are_whole.are_lines, c.self.invariant.are_whole.wide)

pub index_mut-requires : goal.index_mut-requires
index_mut-requires c =
    let less = k_in (record { variables = c.self.inside.variables; basic = c.self.inside.basic.items; lines = c.self.inside.lines.items; deferred = c.self.inside.deferred; bound = c.self.inside.bound }) c.self.invariant c.args.p c.args.place (subst (λ (t : WholeTableau). IsLegal (integer_dictionary t) c.args.p c.args.place) (sym c.self.view_is) c.requires.legal) in omega (arith, c.self.inside.basic.ok.0)

pub invariant_of-after : goal.invariant_of-after
invariant_of-after c =
    (after_out (record { variables = c.self.inside.variables; basic = c.self.inside.basic.items; lines = c.self.inside.lines.items; deferred = c.self.inside.deferred; bound = c.self.inside.bound }) c.self.invariant c.args.p c.args.place (subst (λ (t : WholeTableau). IsLegal (integer_dictionary t) c.args.p c.args.place) (sym c.self.view_is) c.requires.legal) c.args.place ((ap (λ (t : WholeTableau). t.deferred) c.self.view_is) ∙ c.requires.out) refl c.turn_lines.new.lines.items c.forget_zero.new.lines.items (c.in_ok-done.ensures.turned c.if-not-done.false) c.forget_zero.ensures c.requires.later).is_whole

pub returns : goal.returns
returns c =
    ((subst (λ (t : WholeTableau). integer_dictionary (tableau_after (record { variables = c.self.inside.variables; basic = c.self.inside.basic.items; lines = c.self.inside.lines.items; deferred = c.self.inside.deferred; bound = c.self.inside.bound }) c.self.invariant c.args.p c.args.place (subst (λ (t : WholeTableau). IsLegal (integer_dictionary t) c.args.p c.args.place) (sym c.self.view_is) c.requires.legal) c.forget_zero.new.lines.items None) ≡ exchanged (integer_dictionary t) c.args.p.enter c.args.place) c.self.view_is (after_out (record { variables = c.self.inside.variables; basic = c.self.inside.basic.items; lines = c.self.inside.lines.items; deferred = c.self.inside.deferred; bound = c.self.inside.bound }) c.self.invariant c.args.p c.args.place (subst (λ (t : WholeTableau). IsLegal (integer_dictionary t) c.args.p c.args.place) (sym c.self.view_is) c.requires.legal) c.args.place ((ap (λ (t : WholeTableau). t.deferred) c.self.view_is) ∙ c.requires.out) refl c.turn_lines.new.lines.items c.forget_zero.new.lines.items (c.in_ok-done.ensures.turned c.if-not-done.false) c.forget_zero.ensures c.requires.later).is_dictionary, (ap (λ (t : WholeTableau). t.bound) c.self.view_is)), tt)
