use Rattle.std.proofs.Common.{◌≡◌, ◌∙◌, ap, sym, arith, refl, ◌++◌, string_bytes, ℕ, List, [], ◌∷◌, length, codes, map, true, false, ◌==◌}
use Rattle.std.proofs.lemmas.List.{append_assoc, append-nil}
use Rattle.std.proofs.lemmas.Bool.Decides.{nat_tests}
use Rattle.gms_fmt.specs.ElementTexts.{label_in_table, joined_by, in_parentheses}
use Rattle.gms_fmt.proofs.elements.element.Goals as goal
use Rattle.gms_fmt.proofs.elements.element.Goals.{then-not-is_empty+in_ok-push_str+in_ok-push_labels+in_ok-push_str-2, else-not-is_empty}

with_labels : (labels : List (List ℕ)) (t : List ℕ) → (length t == 0) ≡ false → in_parentheses labels t ≡ codes "(" ++ joined_by (codes ",") (map (label_in_table labels) t) ++ codes ")"
with_labels labels [] e = cc
with_labels labels (x ∷ t) e = refl

without_labels : (labels : List (List ℕ)) (t : List ℕ) → (length t == 0) ≡ true → in_parentheses labels t ≡ []
without_labels labels [] e = refl
without_labels labels (x ∷ t) e = absurd (grind (arith, nat_tests))

pub returns : goal.returns
returns c =
    let name : string_bytes c.in_ok-text.text ≡ label_in_table c.args.names.now c.args.name = c.in_ok-text.ensures.ok ∙ c.text_of.ensures in
    elim c.if-not-is_empty.branch [
      | then-not-is_empty+in_ok-push_str+in_ok-push_labels+in_ok-push_str-2 w ↦
          rw (with_labels c.args.labels.now c.args.t.now (ap (λ t. length t == 0) (sym c.as_slice.ensures.value) ∙ sym c.is_empty.ensures ∙ w.if-not-is_empty.true), w.text-is, w.in_ok-push_str-2.ensures.bytes, w.in_ok-push_labels.ensures, w.in_ok-push_str.ensures.bytes, name) (simp append_assoc)
      | else-not-is_empty w ↦
          rw (without_labels c.args.labels.now c.args.t.now (ap (λ t. length t == 0) (sym c.as_slice.ensures.value) ∙ sym c.is_empty.ensures ∙ w.if-not-is_empty.false), w.text-is, name) (simp append-nil)
    ]
