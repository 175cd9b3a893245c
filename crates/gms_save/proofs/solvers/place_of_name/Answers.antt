use Rattle.std.proofs.Common.{◌∙◌, List, ℕ, [], sym, string_bytes}
use Rattle.std.specs.Str.{str_eq_ignore_ascii_case}
use Rattle.gms_save.proofs.Choosing.{fails-more, first-there, first-nowhere}
use Rattle.gms_save.proofs.solvers.place_of_name.Goals as goal

pub loop-place-preserved : goal.loop-place-preserved
loop-place-preserved c =
    fails-more string_bytes (λ (other : List ℕ). str_eq_ignore_ascii_case other c.args.name.now) c.args.solvers.now [] c.loop-place.place c.index-solvers-place.result c.loop-place-test.true c.index-solvers-place.is (sym c.has_name.ensures ∙ c.if-has_name.false) c.loop-place.invariant

pub returns-then-has_name : goal.returns-then-has_name
returns-then-has_name c =
    sym (first-there string_bytes (λ (other : List ℕ). str_eq_ignore_ascii_case other c.args.name.now) c.args.solvers.now [] c.loop-place.place c.index-solvers-place.result c.loop-place-test.true c.index-solvers-place.is (sym c.has_name.ensures ∙ c.if-has_name.true) c.loop-place.invariant)

pub returns : goal.returns
returns c =
    sym (first-nowhere string_bytes (λ (other : List ℕ). str_eq_ignore_ascii_case other c.args.name.now) c.args.solvers.now [] c.loop-place.place c.loop-place-test.false c.loop-place.invariant)
