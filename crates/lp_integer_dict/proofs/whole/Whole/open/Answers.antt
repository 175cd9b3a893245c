use Rattle.std.proofs.Common.{◌≡◌, ◌+◌, length, inl, true≢false, Some, sym, ap, ◌∙◌, subst, arith}
use Rattle.std.specs.Prelude.{slice_get}
use Rattle.lp_core.specs.Dictionary.{IsLegal, exchanged}
use Rattle.lp_integer_dict.specs.Whole.{WholeTableau, integer_dictionary}
use Rattle.lp_integer_rows.specs.Form.{AreLines}
use Rattle.lp_integer_dict.specs.WithinBound.{DeferredStaysWithin, DeferredExceeds}
use Rattle.lp_integer_dict.proofs.Crowding.{opens_some, after_open}
use Rattle.lp_integer_dict.proofs.Pivoting.{tableau_after, k_in}
use Rattle.lp_integer_rows.proofs.Plans.{some_at}
use Rattle.lp_integer_dict.proofs.whole.Whole.open.Goals as goal

pub deferred_stays_within-requires-clause-lines : goal.deferred_stays_within-requires-clause-lines
deferred_stays_within-requires-clause-lines c =
    (c.self.inside.variables + 2, subst (AreLines (c.self.inside.variables + 2)) (sym c.as_slice.ensures.value) c.self.invariant.are_whole.are_lines, c.self.invariant.are_whole.wide)

pub deferred_stays_within-requires-clause-within : goal.deferred_stays_within-requires-clause-within
deferred_stays_within-requires-clause-within c =
    let less = k_in (record { variables = c.self.inside.variables; basic = c.self.inside.basic.items; lines = c.self.inside.lines.items; deferred = c.self.inside.deferred; bound = c.self.inside.bound }) c.self.invariant c.args.p c.args.place (subst (λ (t : WholeTableau). IsLegal (integer_dictionary t) c.args.p c.args.place) (sym c.self.view_is) c.requires.legal) in let paired = c.self.invariant.paired in let sized = ap length c.as_slice.ensures.value in omega arith

pub invariant_of-same : goal.invariant_of-same
invariant_of-same c =
    c.self.invariant

pub returns-then-not-deferred_stays_within : goal.returns-then-not-deferred_stays_within
returns-then-not-deferred_stays_within c =
    let less = k_in (record { variables = c.self.inside.variables; basic = c.self.inside.basic.items; lines = c.self.inside.lines.items; deferred = c.self.inside.deferred; bound = c.self.inside.bound }) c.self.invariant c.args.p c.args.place (subst (λ (t : WholeTableau). IsLegal (integer_dictionary t) c.args.p c.args.place) (sym c.self.view_is) c.requires.legal) in
    let paired = c.self.invariant.paired in
    let x = some_at c.self.inside.lines.items c.args.place (omega arith) in
    let has = c.deferred_stays_within.ensures x.0 (subst (λ ls. slice_get ls c.args.place ≡ Some x.0) (sym c.as_slice.ensures.value) x.1) in
    let none : DeferredExceeds c.args.place c.self.inside.lines.items c.self.inside.bound = record {
      pivot = x.0;
      there = x.1;
      crowded = λ h. true≢false (sym (has.1 (subst (λ ls. DeferredStaysWithin c.args.place x.0 ls c.self.inside.bound) (sym c.as_slice.ensures.value) h)) ∙ c.if-not-deferred_stays_within.true);
    } in
    (tt, (ap integer_dictionary c.self.view_is, (ap (λ (t : WholeTableau). t.bound) c.self.view_is), inl (c.requires.opens, none)))

pub raise_at-requires-clause-lines : goal.raise_at-requires-clause-lines
raise_at-requires-clause-lines c =
    (c.self.inside.variables + 2, c.self.invariant.are_whole.are_lines, c.self.invariant.are_whole.wide)

pub raise_at-requires-clause-within : goal.raise_at-requires-clause-within
raise_at-requires-clause-within c =
    let less = k_in (record { variables = c.self.inside.variables; basic = c.self.inside.basic.items; lines = c.self.inside.lines.items; deferred = c.self.inside.deferred; bound = c.self.inside.bound }) c.self.invariant c.args.p c.args.place (subst (λ (t : WholeTableau). IsLegal (integer_dictionary t) c.args.p c.args.place) (sym c.self.view_is) c.requires.legal) in let paired = c.self.invariant.paired in omega arith

pub raise_at-requires-clause-some : goal.raise_at-requires-clause-some
raise_at-requires-clause-some c =
    opens_some (record { variables = c.self.inside.variables; basic = c.self.inside.basic.items; lines = c.self.inside.lines.items; deferred = c.self.inside.deferred; bound = c.self.inside.bound }) c.self.invariant c.args.p c.args.place (subst (λ (t : WholeTableau). IsLegal (integer_dictionary t) c.args.p c.args.place) (sym c.self.view_is) c.requires.legal) c.requires.opens

pub index_mut-requires : goal.index_mut-requires
index_mut-requires c =
    let less = k_in (record { variables = c.self.inside.variables; basic = c.self.inside.basic.items; lines = c.self.inside.lines.items; deferred = c.self.inside.deferred; bound = c.self.inside.bound }) c.self.invariant c.args.p c.args.place (subst (λ (t : WholeTableau). IsLegal (integer_dictionary t) c.args.p c.args.place) (sym c.self.view_is) c.requires.legal) in omega (arith, c.self.inside.basic.ok.0)

pub invariant_of-after : goal.invariant_of-after
invariant_of-after c =
    (after_open (record { variables = c.self.inside.variables; basic = c.self.inside.basic.items; lines = c.self.inside.lines.items; deferred = c.self.inside.deferred; bound = c.self.inside.bound }) c.self.invariant c.args.p c.args.place (subst (λ (t : WholeTableau). IsLegal (integer_dictionary t) c.args.p c.args.place) (sym c.self.view_is) c.requires.legal) c.requires.opens c.raise_at.new.lines.items c.raise_at.ensures (λ x at. subst (λ ls. DeferredStaysWithin c.args.place x ls c.self.inside.bound) c.as_slice.ensures.value ((c.deferred_stays_within.ensures x (subst (λ ls. slice_get ls c.args.place ≡ Some x) (sym c.as_slice.ensures.value) at)).0 c.if-not-deferred_stays_within.false))).is_whole

pub returns : goal.returns
returns c =
    ((subst (λ (t : WholeTableau). integer_dictionary (tableau_after (record { variables = c.self.inside.variables; basic = c.self.inside.basic.items; lines = c.self.inside.lines.items; deferred = c.self.inside.deferred; bound = c.self.inside.bound }) c.self.invariant c.args.p c.args.place (subst (λ (t : WholeTableau). IsLegal (integer_dictionary t) c.args.p c.args.place) (sym c.self.view_is) c.requires.legal) c.raise_at.new.lines.items (Some c.args.place)) ≡ exchanged (integer_dictionary t) c.args.p.enter c.args.place) c.self.view_is (after_open (record { variables = c.self.inside.variables; basic = c.self.inside.basic.items; lines = c.self.inside.lines.items; deferred = c.self.inside.deferred; bound = c.self.inside.bound }) c.self.invariant c.args.p c.args.place (subst (λ (t : WholeTableau). IsLegal (integer_dictionary t) c.args.p c.args.place) (sym c.self.view_is) c.requires.legal) c.requires.opens c.raise_at.new.lines.items c.raise_at.ensures (λ x at. subst (λ ls. DeferredStaysWithin c.args.place x ls c.self.inside.bound) c.as_slice.ensures.value ((c.deferred_stays_within.ensures x (subst (λ ls. slice_get ls c.args.place ≡ Some x) (sym c.as_slice.ensures.value) at)).0 c.if-not-deferred_stays_within.false))).is_dictionary, (ap (λ (t : WholeTableau). t.bound) c.self.view_is)), tt)
