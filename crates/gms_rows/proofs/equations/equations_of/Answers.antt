use Rattle.std.proofs.Common.{ℕ, ◌+◌, Vec, drop, take, option_map, ◌∙◌, sym, ap}
use Rattle.std.specs.declared.alloc.Global.{Global}
use Rattle.gms_rows.specs.Rows.{distinct_numbers, found, models_of, equations_of, equations_from}
use Rattle.gms_rows.proofs.Naming.{declared_in, declared-more, equations-here, equations-later, equations-nowhere}
use Rattle.gms_rows.proofs.equations.equations_of.Goals as goal

pub loop-statement-preserved : goal.loop-statement-preserved
loop-statement-preserved g c =
    let all = c.deref-statement-items.result.now in
    let i = c.loop-statement.statement-index in
    let s = c.statement-item.result in
    let more = declared-more c.args.model all i s c.loop-statement-test.true c.statement-item.is in
    let absent = ap (λ names. found names c.args.model (models_of s.act)) (sym c.loop-statement.invariant.1 ∙ sym c.as_slice.ensures) ∙ sym c.in_ok-equations.ensures ∙ ap (option_map (λ (those : Vec ℕ Global). those.items)) c.in_default.is in (
      c.loop-statement.invariant.0 ∙ equations-later c.args.model (declared_in c.args.model (take i all)) all i s c.loop-statement-test.true c.statement-item.is absent ∙ ap (λ names. equations_from names c.args.model (drop (i + 1) all)) (sym more),
      c.in_ok-push_declared.ensures (declared_in c.args.model (take i all)) c.loop-statement.invariant.1 ∙ ap distinct_numbers (sym more),
    )

pub returns-in-Some : goal.returns-in-Some
returns-in-Some g c =
    let all = c.deref-statement-items.result.now in
    let i = c.loop-statement.statement-index in
    let s = c.statement-item.result in
    let there = ap (λ names. found names c.args.model (models_of s.act)) (sym c.loop-statement.invariant.1 ∙ sym c.as_slice.ensures) ∙ sym c.in_ok-equations.ensures ∙ ap (option_map (λ (those : Vec ℕ Global). those.items)) c.in-Some.is in
    sym (ap (λ statements. equations_of statements c.args.model) (sym c.deref-statement-items.ensures.value) ∙ c.loop-statement.invariant.0 ∙ equations-here c.args.model (declared_in c.args.model (take i all)) all i s c.loop-statement-test.true c.statement-item.is c.in-Some.equations.items there)

pub returns : goal.returns
returns g c =
    let all = c.deref-statement-items.result.now in
    let i = c.loop-statement.statement-index in
    c.new.ensures.items ∙ sym (ap (λ statements. equations_of statements c.args.model) (sym c.deref-statement-items.ensures.value) ∙ c.loop-statement.invariant.0 ∙ equations-nowhere c.args.model (declared_in c.args.model (take i all)) all i c.loop-statement-test.false)
