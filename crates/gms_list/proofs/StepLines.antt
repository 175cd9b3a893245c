-- The name of a step as its pieces are put together.
use Rattle.std.proofs.Common.{◌≡◌, ℕ, ◌++◌, List, codes, decimal, ◌∙◌}
use Rattle.std.proofs.lemmas.List.{append_assoc}
use Rattle.lp_core.specs.declared.answer.StepName.TheVariants as step
use Rattle.gms_list.specs.SolveText.{step_text}

-- two numbers, each after its word
two_numbers : (a p b q : List ℕ) → a ++ (p ++ (b ++ q)) ≡ a ++ p ++ b ++ q
two_numbers a p b q = simp append_assoc

-- three
three_numbers : (a p b q c r : List ℕ) → a ++ (p ++ (b ++ (q ++ (c ++ r)))) ≡ a ++ p ++ b ++ q ++ c ++ r
three_numbers a p b q c r = simp append_assoc

-- four
four_numbers : (a p b q c r d s : List ℕ) → a ++ (p ++ (b ++ (q ++ (c ++ (r ++ (d ++ s)))))) ≡ a ++ p ++ b ++ q ++ c ++ r ++ d ++ s
four_numbers a p b q c r d s = simp append_assoc

pub standard_name : (made : List ℕ) (row column part : ℕ) → made ≡ codes "Standard row " ++ (decimal row ++ (codes " column " ++ (decimal column ++ (codes " part " ++ decimal part)))) → made ≡ step_text (step.Standard row column part)
standard_name made row column part e = e ∙ three_numbers (codes "Standard row ") (decimal row) (codes " column ") (decimal column) (codes " part ") (decimal part)

pub ratio_name : (made : List ℕ) (pivot row : ℕ) → made ≡ codes "Ratio " ++ (decimal pivot ++ (codes " row " ++ decimal row)) → made ≡ step_text (step.Ratio pivot row)
ratio_name made pivot row e = e ∙ two_numbers (codes "Ratio ") (decimal pivot) (codes " row ") (decimal row)

pub exchange_name : (made : List ℕ) (pivot row column part : ℕ) → made ≡ codes "Exchange " ++ (decimal pivot ++ (codes " row " ++ (decimal row ++ (codes " column " ++ (decimal column ++ (codes " part " ++ decimal part)))))) →
    made ≡ step_text (step.Exchange pivot row column part)
exchange_name made pivot row column part e = e ∙ four_numbers (codes "Exchange ") (decimal pivot) (codes " row ") (decimal row) (codes " column ") (decimal column) (codes " part ") (decimal part)

pub recover_name : (made : List ℕ) (what index entry part : ℕ) → made ≡ codes "Recover " ++ (decimal what ++ (codes " index " ++ (decimal index ++ (codes " entry " ++ (decimal entry ++ (codes " part " ++ decimal part)))))) →
    made ≡ step_text (step.Recover what index entry part)
recover_name made what index entry part e = e ∙ four_numbers (codes "Recover ") (decimal what) (codes " index ") (decimal index) (codes " entry ") (decimal entry) (codes " part ") (decimal part)
