use Rattle.std.proofs.Common.{◌≡◌, ◌+◌, inr, length, Some, sym, ap, ◌∙◌, subst, arith}
use Rattle.lp_core.specs.Dictionary.{IsLegal, exchanged}
use Rattle.lp_integer_dict.specs.WithinBound.{ExchangeExceeds}
use Rattle.lp_integer_dict.specs.Whole.{WholeTableau, integer_dictionary, kept_place}
use Rattle.lp_integer_dict.proofs.Crowding.{tableau_same, whole_same, dictionary_same}
use Rattle.lp_integer_dict.proofs.Pivoting.{tableau_after, k_in, column_in, after_other, off_bounded, off_pivot_above, entry_some, raise_some, swapped_are, z_in, turned_sized}
use Rattle.lp_integer_dict.proofs.whole.Whole.step_other.Goals as goal

pub turn_lines-requires-clause-lines : goal.turn_lines-requires-clause-lines
turn_lines-requires-clause-lines c =
    (c.self.inside.variables + 2, c.self.invariant.are_whole.are_lines, c.self.invariant.are_whole.wide, column_in (record { variables = c.self.inside.variables; basic = c.self.inside.basic.items; lines = c.self.inside.lines.items; deferred = c.self.inside.deferred; bound = c.self.inside.bound }) c.self.invariant c.args.p c.args.place (subst (λ (t : WholeTableau). IsLegal (integer_dictionary t) c.args.p c.args.place) (sym c.self.view_is) c.requires.legal))

pub turn_lines-requires-clause-within : goal.turn_lines-requires-clause-within
turn_lines-requires-clause-within c =
    let less = k_in (record { variables = c.self.inside.variables; basic = c.self.inside.basic.items; lines = c.self.inside.lines.items; deferred = c.self.inside.deferred; bound = c.self.inside.bound }) c.self.invariant c.args.p c.args.place (subst (λ (t : WholeTableau). IsLegal (integer_dictionary t) c.args.p c.args.place) (sym c.self.view_is) c.requires.legal) in let paired = c.self.invariant.paired in let z_less = z_in (record { variables = c.self.inside.variables; basic = c.self.inside.basic.items; lines = c.self.inside.lines.items; deferred = c.self.inside.deferred; bound = c.self.inside.bound }) c.self.invariant c.args.p c.args.place (subst (λ (t : WholeTableau). IsLegal (integer_dictionary t) c.args.p c.args.place) (sym c.self.view_is) c.requires.legal) c.args.k ((ap (λ (t : WholeTableau). t.deferred) c.self.view_is) ∙ c.requires.off) in (omega arith, omega arith)

pub turn_lines-requires-clause-small : goal.turn_lines-requires-clause-small
turn_lines-requires-clause-small c =
    c.self.invariant.are_whole.small

pub turn_lines-requires-clause-bounded : goal.turn_lines-requires-clause-bounded
turn_lines-requires-clause-bounded c =
    off_bounded (record { variables = c.self.inside.variables; basic = c.self.inside.basic.items; lines = c.self.inside.lines.items; deferred = c.self.inside.deferred; bound = c.self.inside.bound }) c.self.invariant c.args.p c.args.place (subst (λ (t : WholeTableau). IsLegal (integer_dictionary t) c.args.p c.args.place) (sym c.self.view_is) c.requires.legal) c.args.k ((ap (λ (t : WholeTableau). t.deferred) c.self.view_is) ∙ c.requires.off)

pub turn_lines-requires-clause-above : goal.turn_lines-requires-clause-above
turn_lines-requires-clause-above c =
    off_pivot_above (record { variables = c.self.inside.variables; basic = c.self.inside.basic.items; lines = c.self.inside.lines.items; deferred = c.self.inside.deferred; bound = c.self.inside.bound }) c.self.invariant c.args.p c.args.place (subst (λ (t : WholeTableau). IsLegal (integer_dictionary t) c.args.p c.args.place) (sym c.self.view_is) c.requires.legal) c.args.k ((ap (λ (t : WholeTableau). t.deferred) c.self.view_is) ∙ c.requires.off) c.requires.later

pub invariant_of-same : goal.invariant_of-same
invariant_of-same c =
    whole_same (record { variables = c.self.inside.variables; basic = c.self.inside.basic.items; lines = c.self.inside.lines.items; deferred = c.self.inside.deferred; bound = c.self.inside.bound }) c.self.invariant c.turn_lines.new.lines.items (c.in_ok-done.ensures.same c.if-not-done.true)

pub returns-then-not-done : goal.returns-then-not-done
returns-then-not-done c = (
  tt,
  (
    subst (λ (t : WholeTableau). integer_dictionary (tableau_same (record { variables = c.self.inside.variables; basic = c.self.inside.basic.items; lines = c.self.inside.lines.items; deferred = c.self.inside.deferred; bound = c.self.inside.bound }) c.self.invariant c.turn_lines.new.lines.items (c.in_ok-done.ensures.same c.if-not-done.true)) ≡ integer_dictionary t) c.self.view_is (dictionary_same (record { variables = c.self.inside.variables; basic = c.self.inside.basic.items; lines = c.self.inside.lines.items; deferred = c.self.inside.deferred; bound = c.self.inside.bound }) c.self.invariant c.turn_lines.new.lines.items (c.in_ok-done.ensures.same c.if-not-done.true)),
    (ap (λ (t : WholeTableau). t.bound) c.self.view_is),
    inr (c.requires.later, subst (λ o. ExchangeExceeds c.self.inside.bound (c.args.p.enter + 1) (kept_place o c.args.place) c.args.place c.turn_lines.new.lines.items) (sym ((ap (λ (t : WholeTableau). t.deferred) c.self.view_is) ∙ c.requires.off)) (c.in_ok-done.ensures.none c.if-not-done.true)),
  ),
)

pub swap_lines-requires-clause-first : goal.swap_lines-requires-clause-first
swap_lines-requires-clause-first c =
    let sized = turned_sized c.self.inside.bound (c.args.p.enter + 1) c.args.k c.args.place (length c.self.inside.basic.items) c.self.inside.lines.items c.turn_lines.new.lines.items c.self.invariant.paired (z_in (record { variables = c.self.inside.variables; basic = c.self.inside.basic.items; lines = c.self.inside.lines.items; deferred = c.self.inside.deferred; bound = c.self.inside.bound }) c.self.invariant c.args.p c.args.place (subst (λ (t : WholeTableau). IsLegal (integer_dictionary t) c.args.p c.args.place) (sym c.self.view_is) c.requires.legal) c.args.k ((ap (λ (t : WholeTableau). t.deferred) c.self.view_is) ∙ c.requires.off)) (c.in_ok-done.ensures.turned c.if-not-done.false) in let paired = c.self.invariant.paired in let less = z_in (record { variables = c.self.inside.variables; basic = c.self.inside.basic.items; lines = c.self.inside.lines.items; deferred = c.self.inside.deferred; bound = c.self.inside.bound }) c.self.invariant c.args.p c.args.place (subst (λ (t : WholeTableau). IsLegal (integer_dictionary t) c.args.p c.args.place) (sym c.self.view_is) c.requires.legal) c.args.k ((ap (λ (t : WholeTableau). t.deferred) c.self.view_is) ∙ c.requires.off) in omega arith

pub swap_lines-requires-clause-second : goal.swap_lines-requires-clause-second
swap_lines-requires-clause-second c =
    let sized = turned_sized c.self.inside.bound (c.args.p.enter + 1) c.args.k c.args.place (length c.self.inside.basic.items) c.self.inside.lines.items c.turn_lines.new.lines.items c.self.invariant.paired (z_in (record { variables = c.self.inside.variables; basic = c.self.inside.basic.items; lines = c.self.inside.lines.items; deferred = c.self.inside.deferred; bound = c.self.inside.bound }) c.self.invariant c.args.p c.args.place (subst (λ (t : WholeTableau). IsLegal (integer_dictionary t) c.args.p c.args.place) (sym c.self.view_is) c.requires.legal) c.args.k ((ap (λ (t : WholeTableau). t.deferred) c.self.view_is) ∙ c.requires.off)) (c.in_ok-done.ensures.turned c.if-not-done.false) in let paired = c.self.invariant.paired in let less = k_in (record { variables = c.self.inside.variables; basic = c.self.inside.basic.items; lines = c.self.inside.lines.items; deferred = c.self.inside.deferred; bound = c.self.inside.bound }) c.self.invariant c.args.p c.args.place (subst (λ (t : WholeTableau). IsLegal (integer_dictionary t) c.args.p c.args.place) (sym c.self.view_is) c.requires.legal) in omega arith

pub swap_lines-requires-clause-apart : goal.swap_lines-requires-clause-apart
swap_lines-requires-clause-apart c =
    λ same. c.requires.apart (sym same)

pub raise_at-requires-clause-lines : goal.raise_at-requires-clause-lines
raise_at-requires-clause-lines c =
    (c.self.inside.variables + 2, swapped_are (record { variables = c.self.inside.variables; basic = c.self.inside.basic.items; lines = c.self.inside.lines.items; deferred = c.self.inside.deferred; bound = c.self.inside.bound }) c.self.invariant c.args.p c.args.place (subst (λ (t : WholeTableau). IsLegal (integer_dictionary t) c.args.p c.args.place) (sym c.self.view_is) c.requires.legal) c.args.k ((ap (λ (t : WholeTableau). t.deferred) c.self.view_is) ∙ c.requires.off) c.requires.later c.turn_lines.new.lines.items c.swap_lines.new.lines.items (c.in_ok-done.ensures.turned c.if-not-done.false) c.swap_lines.ensures, c.self.invariant.are_whole.wide)

pub raise_at-requires-clause-within : goal.raise_at-requires-clause-within
raise_at-requires-clause-within c =
    let sized = turned_sized c.self.inside.bound (c.args.p.enter + 1) c.args.k c.args.place (length c.self.inside.basic.items) c.self.inside.lines.items c.turn_lines.new.lines.items c.self.invariant.paired (z_in (record { variables = c.self.inside.variables; basic = c.self.inside.basic.items; lines = c.self.inside.lines.items; deferred = c.self.inside.deferred; bound = c.self.inside.bound }) c.self.invariant c.args.p c.args.place (subst (λ (t : WholeTableau). IsLegal (integer_dictionary t) c.args.p c.args.place) (sym c.self.view_is) c.requires.legal) c.args.k ((ap (λ (t : WholeTableau). t.deferred) c.self.view_is) ∙ c.requires.off)) (c.in_ok-done.ensures.turned c.if-not-done.false) in let also = c.swap_lines.ensures.sized in let paired = c.self.invariant.paired in let less = z_in (record { variables = c.self.inside.variables; basic = c.self.inside.basic.items; lines = c.self.inside.lines.items; deferred = c.self.inside.deferred; bound = c.self.inside.bound }) c.self.invariant c.args.p c.args.place (subst (λ (t : WholeTableau). IsLegal (integer_dictionary t) c.args.p c.args.place) (sym c.self.view_is) c.requires.legal) c.args.k ((ap (λ (t : WholeTableau). t.deferred) c.self.view_is) ∙ c.requires.off) in omega arith

pub raise_at-requires-clause-some : goal.raise_at-requires-clause-some
raise_at-requires-clause-some c =
    raise_some (record { variables = c.self.inside.variables; basic = c.self.inside.basic.items; lines = c.self.inside.lines.items; deferred = c.self.inside.deferred; bound = c.self.inside.bound }) c.self.invariant c.args.p c.args.place (subst (λ (t : WholeTableau). IsLegal (integer_dictionary t) c.args.p c.args.place) (sym c.self.view_is) c.requires.legal) c.args.k ((ap (λ (t : WholeTableau). t.deferred) c.self.view_is) ∙ c.requires.off) c.requires.later c.requires.apart c.turn_lines.new.lines.items c.swap_lines.new.lines.items (c.in_ok-done.ensures.turned c.if-not-done.false) c.swap_lines.ensures

pub index_mut-requires : goal.index_mut-requires
index_mut-requires c =
    let less = k_in (record { variables = c.self.inside.variables; basic = c.self.inside.basic.items; lines = c.self.inside.lines.items; deferred = c.self.inside.deferred; bound = c.self.inside.bound }) c.self.invariant c.args.p c.args.place (subst (λ (t : WholeTableau). IsLegal (integer_dictionary t) c.args.p c.args.place) (sym c.self.view_is) c.requires.legal) in omega (arith, c.self.inside.basic.ok.0)

pub invariant_of-after : goal.invariant_of-after
invariant_of-after c =
    (after_other (record { variables = c.self.inside.variables; basic = c.self.inside.basic.items; lines = c.self.inside.lines.items; deferred = c.self.inside.deferred; bound = c.self.inside.bound }) c.self.invariant c.args.p c.args.place (subst (λ (t : WholeTableau). IsLegal (integer_dictionary t) c.args.p c.args.place) (sym c.self.view_is) c.requires.legal) c.args.k ((ap (λ (t : WholeTableau). t.deferred) c.self.view_is) ∙ c.requires.off) c.requires.apart c.turn_lines.new.lines.items c.swap_lines.new.lines.items c.raise_at.new.lines.items (c.in_ok-done.ensures.turned c.if-not-done.false) c.swap_lines.ensures c.raise_at.ensures (entry_some (record { variables = c.self.inside.variables; basic = c.self.inside.basic.items; lines = c.self.inside.lines.items; deferred = c.self.inside.deferred; bound = c.self.inside.bound }) c.self.invariant c.args.p c.args.place (subst (λ (t : WholeTableau). IsLegal (integer_dictionary t) c.args.p c.args.place) (sym c.self.view_is) c.requires.legal) c.args.k ((ap (λ (t : WholeTableau). t.deferred) c.self.view_is) ∙ c.requires.off) c.requires.later)).is_whole

pub returns : goal.returns
returns c =
    ((subst (λ (t : WholeTableau). integer_dictionary (tableau_after (record { variables = c.self.inside.variables; basic = c.self.inside.basic.items; lines = c.self.inside.lines.items; deferred = c.self.inside.deferred; bound = c.self.inside.bound }) c.self.invariant c.args.p c.args.place (subst (λ (t : WholeTableau). IsLegal (integer_dictionary t) c.args.p c.args.place) (sym c.self.view_is) c.requires.legal) c.raise_at.new.lines.items (Some c.args.k)) ≡ exchanged (integer_dictionary t) c.args.p.enter c.args.place) c.self.view_is (after_other (record { variables = c.self.inside.variables; basic = c.self.inside.basic.items; lines = c.self.inside.lines.items; deferred = c.self.inside.deferred; bound = c.self.inside.bound }) c.self.invariant c.args.p c.args.place (subst (λ (t : WholeTableau). IsLegal (integer_dictionary t) c.args.p c.args.place) (sym c.self.view_is) c.requires.legal) c.args.k ((ap (λ (t : WholeTableau). t.deferred) c.self.view_is) ∙ c.requires.off) c.requires.apart c.turn_lines.new.lines.items c.swap_lines.new.lines.items c.raise_at.new.lines.items (c.in_ok-done.ensures.turned c.if-not-done.false) c.swap_lines.ensures c.raise_at.ensures (entry_some (record { variables = c.self.inside.variables; basic = c.self.inside.basic.items; lines = c.self.inside.lines.items; deferred = c.self.inside.deferred; bound = c.self.inside.bound }) c.self.invariant c.args.p c.args.place (subst (λ (t : WholeTableau). IsLegal (integer_dictionary t) c.args.p c.args.place) (sym c.self.view_is) c.requires.legal) c.args.k ((ap (λ (t : WholeTableau). t.deferred) c.self.view_is) ∙ c.requires.off) c.requires.later)).is_dictionary, (ap (λ (t : WholeTableau). t.bound) c.self.view_is)), tt)
