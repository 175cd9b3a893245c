-- A text is its first field and what follows it.
use Rattle.std.proofs.Common.{◌≡◌, ℕ, zero, suc, ◌≤◌, ◌<◌, Bool, List, [], ◌∷◌, length, take, drop, refl, ap, arith}
use Rattle.std.proofs.lemmas.List.{length-drop}
use Rattle.gms_grammar.specs.SplitFields.{field_bytes}
use Rattle.gms_grammar.proofs.FieldLemmas.{field_length-le}
use Rattle.gms_table.specs.Words.{others_by, first_fields, parted}

-- a field is within its text
pub field_bytes-le : (test : ℕ → Bool) (text : List ℕ) → field_bytes test text ≤ length text
field_bytes-le test text = field_length-le test _ text

-- the fields after a field: none at the end of the text, else those after the byte that splits it
abbrev pub fields_after : (ℕ → Bool) → List ℕ → List (List ℕ)
fields_after test text = others_by (parted test) text

-- the fields of shorter texts are the same for two bounds
same_others : (test : ℕ → Bool) (one other : ℕ) (text : List ℕ) → ((rest : List ℕ) → length rest < length text → first_fields test one rest ≡ first_fields test other rest) → others_by (first_fields test one) text ≡ others_by (first_fields test other) text
same_others test one other [] same = refl
same_others test one other (b ∷ rest) same = same rest (omega arith)

-- a text has at most as many fields as bytes, plus one
enough : (test : ℕ → Bool) (one other : ℕ) (text : List ℕ) → length text < one → length text < other → first_fields test one text ≡ first_fields test other text
enough test zero other text h k = absurd (omega (arith, h))
enough test (suc one) zero text h k = absurd (omega (arith, k))
enough test (suc one) (suc other) text h k =
    ap (λ (others : List (List ℕ)). take (field_bytes test text) text ∷ others)
    (same_others test one other (drop (field_bytes test text) text) (λ rest shorter. enough test one other rest (omega (arith, h, shorter, length-drop (field_bytes test text) text)) (omega (arith, k, shorter, length-drop (field_bytes test text) text))))

following-same : (test : ℕ → Bool) (most : ℕ) (text : List ℕ) → length text ≤ most → others_by (first_fields test most) text ≡ fields_after test text
following-same test most [] h = refl
following-same test most (b ∷ rest) h = enough test most (suc (length rest)) rest (omega (arith, h)) (omega arith)

-- a text is its first field and what follows it
pub parted-field : (test : ℕ → Bool) (text : List ℕ) → parted test text ≡ take (field_bytes test text) text ∷ fields_after test (drop (field_bytes test text) text)
parted-field test text =
    ap (λ (others : List (List ℕ)). take (field_bytes test text) text ∷ others) (following-same test (length text) (drop (field_bytes test text) text) (omega (arith, length-drop (field_bytes test text) text)))
