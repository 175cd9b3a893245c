use Rattle.std.proofs.Common.{◌≡◌, sym, ap, refl, subst, if◌then◌else◌, Some, None}
use Rattle.std.specs.BTreeMap.{is_at}
use Rattle.std.specs.Map.{keys_of, values_of}
use Rattle.std.proofs.lemmas.Bool.{both_ways}
use Rattle.lp_form.specs.Affine.{IsForm}
use Rattle.lp_form.specs.Forms.{number_at, coefficient}
use Rattle.lp_form.specs.Keys.{key_cmp, same_key}
use Rattle.lp_form.proofs.Maps.{after-write, inserted-IsForm, removed-IsForm}
use Rattle.lp_form.proofs.entries.Entries.put.Goals as goal

pub invariant_of-self : goal.invariant_of-self
invariant_of-self g c =
    removed-IsForm g.F.ExactField.value c.self.inside.constant c.self.inside.numbers.entries c.remove.new.self.entries (is_at (key_cmp c.args.k)) c.remove.ensures.entries c.remove.ensures.ordered c.self.invariant.not_zero

pub returns-then-is_zero-clause-constant : goal.returns-then-is_zero-clause-constant
returns-then-is_zero-clause-constant g c = ap (λ a. a.constant) c.self.view_is

pub returns-then-is_zero-clause-numbers : goal.returns-then-is_zero-clause-numbers
returns-then-is_zero-clause-numbers g c =
    λ key. subst (λ a. number_at g.F.ExactField.value (keys_of c.remove.new.self.entries) (values_of c.remove.new.self.entries) key ≡ (if same_key c.args.k key then g.F.ExactField.value c.args.number else coefficient g.F.ExactField.value a key)) c.self.view_is
    (after-write g.F.ExactField.value c.self.inside.numbers.entries c.remove.new.self.entries c.args.k None (g.F.ExactField.value c.args.number) (sym (c.is_zero.ensures.0 c.if-is_zero.true)) c.remove.ensures.updates.0 key)

pub invariant_of-self-in_err-insert : goal.invariant_of-self-in_err-insert
invariant_of-self-in_err-insert g c =
    subst (λ es. IsForm g.F.ExactField.value (record { constant = c.self.inside.constant; keys = keys_of es; numbers = values_of es })) (sym c.in_err-insert.ensures.err) c.self.invariant

pub returns-in_err-insert-clause-constant : goal.returns-in_err-insert-clause-constant
returns-in_err-insert-clause-constant g c = ap (λ a. a.constant) c.self.view_is

pub invariant_of-self-2 : goal.invariant_of-self-2
invariant_of-self-2 g c =
    inserted-IsForm g.F.ExactField.value c.self.inside.constant c.self.inside.numbers.entries c.insert.new.self.entries c.args.k c.args.number c.in_ok-insert.ensures.entries c.insert.ensures.ordered (λ zero. both_ways c.is_zero.result c.if-is_zero.false (c.is_zero.ensures.1 zero)) c.self.invariant.not_zero

pub returns-clause-constant : goal.returns-clause-constant
returns-clause-constant g c = ap (λ a. a.constant) c.self.view_is

pub returns-clause-numbers : goal.returns-clause-numbers
returns-clause-numbers g c =
    λ key. subst (λ a. number_at g.F.ExactField.value (keys_of c.insert.new.self.entries) (values_of c.insert.new.self.entries) key ≡ (if same_key c.args.k key then g.F.ExactField.value c.args.number else coefficient g.F.ExactField.value a key)) c.self.view_is
    (after-write g.F.ExactField.value c.self.inside.numbers.entries c.insert.new.self.entries c.args.k (Some c.args.number) (g.F.ExactField.value c.args.number) refl c.in_ok-insert.ensures.updates.0 key)
