use Rattle.std.proofs.Common.{◌∙◌, ℕ, Bool, Some, None, length, map, ap, sym, string_bytes}
use Rattle.std.specs.Prelude.{◌==◌, position, if◌then◌else◌}
use Rattle.std.specs.Str.{bytes_eq, str_eq_ignore_ascii_case}
use Rattle.std.proofs.lemmas.List.{length-map}
use Rattle.gms_save.proofs.solvers.place_of_solver.Goals as goal

pub returns-then-eq : goal.returns-then-eq
returns-then-eq c =
    let names = map string_bytes c.args.solvers.now in
    let solver = c.args.solver.now in
    c.place_of_none.ensures
    ∙ ap (λ (n : ℕ). if n == 0 then Some 0 else None) (sym (length-map c.args.solvers.now string_bytes))
    ∙ sym (ap (λ (b : Bool). if b then (if length names == 0 then Some 0 else None) else position (λ name. str_eq_ignore_ascii_case name solver) names) (ap (bytes_eq solver) (sym c.as_slice.ensures) ∙ sym c.eq.ensures ∙ c.if-eq.true))

pub returns : goal.returns
returns c =
    let names = map string_bytes c.args.solvers.now in
    let solver = c.args.solver.now in
    c.place_of_name.ensures ∙ sym (ap (λ (b : Bool). if b then (if length names == 0 then Some 0 else None) else position (λ name. str_eq_ignore_ascii_case name solver) names) (ap (bytes_eq solver) (sym c.as_slice.ensures) ∙ sym c.eq.ensures ∙ c.if-eq.false))
