use Rattle.std.proofs.Common.{◌≡◌, ◌<◌, ◌^◌, ℤ, nat_abs, sym, ap, ◌∙◌, subst, arith}
use Rattle.std.specs.Int.{w128}
use Rattle.std.proofs.lemmas.Int.{to_z-of_z, fits_signed_from_abs}
use Rattle.lp_integers.specs.Lines.{whole_at}
use Rattle.lp_integer_rows.specs.Form.{wholes}
use Rattle.lp_integer_rows.proofs.line.marked_number_at.Goals as goal

pub returns-then-column-eq0 : goal.returns-then-column-eq0
returns-then-column-eq0 c =
    let constant : ℤ = c.args.line.now.leading.constant in
    let is : constant ≡ whole_at (wholes c.args.line.now) 0 = c.requires.line.leading.constant in
    let within = c.requires.line.numbers_within 0 in
    let most = c.requires.line.small in
    let small : nat_abs constant < 2 ^ 127 = subst (λ z. nat_abs z < 2 ^ 127) (sym is) (omega arith) in
    to_z-of_z w128 constant (fits_signed_from_abs w128 constant small) ∙ is ∙ ap (whole_at (wholes c.args.line.now)) (sym c.if-column-eq0.true)

pub returns-then-column-eq1 : goal.returns-then-column-eq1
returns-then-column-eq1 c =
    let zero : ℤ = c.args.line.now.leading.zero in
    let is : zero ≡ whole_at (wholes c.args.line.now) 1 = c.requires.line.leading.zero in
    let within = c.requires.line.numbers_within 1 in
    let most = c.requires.line.small in
    let small : nat_abs zero < 2 ^ 127 = subst (λ z. nat_abs z < 2 ^ 127) (sym is) (omega arith) in
    to_z-of_z w128 zero (fits_signed_from_abs w128 zero small) ∙ is ∙ ap (whole_at (wholes c.args.line.now)) (sym c.if-column-eq1.true)

pub returns : goal.returns
returns c = sym (c.requires.line.marked c.args.column (c.includes.ensures c.if-includes.false))
