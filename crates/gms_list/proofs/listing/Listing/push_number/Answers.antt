use Rattle.std.proofs.Common.{◌≡◌, ◌∙◌, ◌++◌, ap, sym, [], List, ℕ, Bool, if◌then◌else◌, true, false}
use Rattle.std.proofs.lemmas.List.{append-nil}
use Rattle.gms_list.proofs.AppendedPieces.{untouched, reshaped}
use Rattle.gms_list.proofs.Shapes.{number_line}
use Rattle.gms_list.proofs.Signs.{zero_told}
use Rattle.gms_list.specs.SolveText.{is_zero_amount}
use Rattle.gms_list.proofs.listing.Listing.push_number.Goals as goal

-- nothing, or the line, by the test for 0
chosen : (b c : Bool) (line : List ℕ) → b ≡ c → (if c then [] else line) ≡ (if b then [] else line)
chosen b c line e = ap (λ t. if t then [] else line) (sym e)

pub returns-then-is_zero : goal.returns-then-is_zero
returns-then-is_zero g c =
    let told : is_zero_amount (g.F.ExactField.value c.args.x) ≡ true = zero_told c.is_zero.result (g.F.ExactField.value c.args.x) c.is_zero.ensures ∙ c.if-is_zero.true in
    sym (append-nil c.args.self.now) ∙ ap (λ t. c.args.self.now ++ t) (chosen (is_zero_amount (g.F.ExactField.value c.args.x)) true _ told)

pub returns-in_err-element : goal.returns-in_err-element
returns-in_err-element g c = untouched _ _ c.from_residual.result c.from_residual.ensures.0

pub returns-in_err-line : goal.returns-in_err-line
returns-in_err-line g c = untouched _ _ c.from_residual-in_err-line.result c.from_residual-in_err-line.ensures.0

pub returns : goal.returns
returns g c =
    let told : is_zero_amount (g.F.ExactField.value c.args.x) ≡ false = zero_told c.is_zero.result (g.F.ExactField.value c.args.x) c.is_zero.ensures ∙ c.if-is_zero.false in
    reshaped _ _ c.as_str.result.now _ c.push.result (number_line _ c.args.word.now _ _ _ _ (c.as_str.ensures.value ∙ c.in_ok-line.ensures.ok) c.in_ok-element.ensures c.exact-number.ensures ∙ chosen (is_zero_amount (g.F.ExactField.value c.args.x)) false _ told) c.push.ensures
