-- The cost with a handicap, of equal numbers.
use Rattle.std.proofs.Common.{◌≡◌, ℕ, ap, ◌∙◌}
use Rattle.gq_number.specs.Number.{Number}
use Rattle.lp_any.specs.Shuffles.{cost_with_handicap}

pub same_with_handicap : (a b c x y z : Number) (m n : ℕ) → a ≡ x → b ≡ y → c ≡ z → m ≡ n → cost_with_handicap a b c m ≡ cost_with_handicap x y z n
same_with_handicap a b c x y z m n coefficient constant number handicap =
    ap (λ t. cost_with_handicap t b c m) coefficient ∙ ap (λ t. cost_with_handicap x t c m) constant ∙ ap (λ t. cost_with_handicap x y t m) number ∙ ap (cost_with_handicap x y z) handicap
