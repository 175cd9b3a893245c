-- The count is the number of digits at the start.
use Rattle.std.proofs.Common.{ℕ, ◌≤◌, List, length, take, drop, sym, ap, ◌∙◌, subst, subst₂}
use Rattle.std.specs.Char.{is_ascii_digit}
use Rattle.std.proofs.lemmas.List.Sums.{prefix_len-le-length}
use Rattle.gq_text.specs.InnerParts.{SplitsDigits}
use Rattle.gq_text.proofs.Splits.{counted_digits}
use Rattle.gq_text.proofs.parts.split_digits.Goals as goal

pub split_at-requires : goal.split_at-requires
split_at-requires c = subst (λ n. n ≤ length c.args.text.now) (sym c.digit_count.ensures) (prefix_len-le-length is_ascii_digit c.args.text.now)

pub returns : goal.returns
returns c =
    let text = c.args.text.now in
    subst₂ (λ (prefix back : List ℕ). SplitsDigits text prefix back)
    (sym (c.split_at.ensures.front ∙ ap (λ n. take n text) c.digit_count.ensures))
    (sym (c.split_at.ensures.back ∙ ap (λ n. drop n text) c.digit_count.ensures))
    (counted_digits text)
