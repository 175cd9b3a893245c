-- Labels that are entered in a table of labels.
use Rattle.std.proofs.Common.{◌≡◌, inl, inr, ℕ, ◌-◌, ◌<◌, ◌≤◌, List, [], ◌∷◌, ◌++◌, length, map, take, drop, Option, Some, None, is_some, refl, sym, ap, ◌∙◌, append_assoc, append-nil, arith}
use Rattle.std.proofs.lemmas.List.{length-append, map_push, take_rest}
use Rattle.std.proofs.lemmas.List.Sums.{fold-append}
use Rattle.gms_labels.specs.Labels.{place_of, entered, IsFullFor, most_labels}
use Rattle.gms_labels.proofs.Places.{place_of-entered_kept}
use Rattle.gms_grammar.proofs.LineLemmas.{true_or_false}
use Rattle.gms_table.specs.Words.{parted}
use Rattle.gms_table.specs.WordLabels.{label_of_text, with_label, labels_among, all_entered, AreLabelNumbers, IsPrefix}
use Rattle.gms_grammar.specs.SplitFields.{is_dot, field_bytes}
use Rattle.gms_table.proofs.FieldLemmas.{fields_after, parted-field}

-- entering some labels and then others
pub all_entered-append : (table texts others : List (List ℕ)) → all_entered table (texts ++ others) ≡ all_entered (all_entered table texts) others
all_entered-append table texts others = fold-append entered table texts others

-- Labels keep their numbers.
pub record Stay (before after : List (List ℕ)) : Type 0 where
  pub stays : (text : List ℕ) (n : ℕ) → place_of before text ≡ Some n → place_of after text ≡ Some n

pub Stay-all_entered : (table texts : List (List ℕ)) → Stay table (all_entered table texts)
Stay-all_entered table [] = record { stays = λ text n h. h }
Stay-all_entered table (t ∷ texts) = record { stays = λ text n h. (Stay-all_entered (entered table t) texts).stays text n (place_of-entered_kept table t text n h) }

-- numbers of labels stay
pub AreNumbers-stay : (before after : List (List ℕ)) → Stay before after → (numbers : List ℕ) (texts : List (List ℕ)) → AreLabelNumbers before numbers texts → AreLabelNumbers after numbers texts
AreNumbers-stay before after stay [] [] are = refl
AreNumbers-stay before after stay [] (t ∷ texts) are = absurd (cc)
AreNumbers-stay before after stay (n ∷ numbers) [] are = absurd (cc)
AreNumbers-stay before after stay (n ∷ numbers) (t ∷ texts) are =
    let one : Some n ≡ place_of before t = cc in
    let others : map Some numbers ≡ map (place_of before) texts = cc in
    let here = stay.stays t n (sym one) in
    let there = AreNumbers-stay before after stay numbers texts others in
    cc

-- entering takes no label away
length-entered : (table : List (List ℕ)) (text : List ℕ) → length table ≤ length (entered table text)
length-entered table text = elim (true_or_false (is_some (place_of table text))) [
  | inl h ↦ rw h (omega arith)
  | inr h ↦ rw h (omega (arith, length-append table (text ∷ [])))
]

pub length-all_entered : (table texts : List (List ℕ)) → length table ≤ length (all_entered table texts)
length-all_entered table [] = omega arith
length-all_entered table (t ∷ texts) = omega (arith, length-entered table t, length-all_entered (entered table t) texts)

-- a table is extended by the labels that are entered
pub GoesOn-entered : (table : List (List ℕ)) (text : List ℕ) → IsPrefix table (entered table text)
GoesOn-entered table text = elim (true_or_false (is_some (place_of table text))) [
  | inl h ↦ ([], rw h (sym (append-nil table)))
  | inr h ↦ (text ∷ [], rw h refl)
]

pub GoesOn-trans : (a b c : List (List ℕ)) → IsPrefix a b → IsPrefix b c → IsPrefix a c
GoesOn-trans a b c f g = (f.0 ++ g.0, g.1 ∙ ap (λ l. l ++ g.0) f.1 ∙ append_assoc a f.0 g.0)

pub GoesOn-refl : (table : List (List ℕ)) → IsPrefix table table
GoesOn-refl table = ([], sym (append-nil table))

pub GoesOn-all_entered : (table texts : List (List ℕ)) → IsPrefix table (all_entered table texts)
GoesOn-all_entered table [] = GoesOn-refl table
GoesOn-all_entered table (t ∷ texts) = GoesOn-trans table (entered table t) _ (GoesOn-entered table t) (GoesOn-all_entered (entered table t) texts)

-- ---- labels of a word

-- labels and then others, where these are labels
abbrev pub joined : List (List ℕ) → Option (List (List ℕ)) → Option (List (List ℕ))
joined done None = None
joined done (Some others) = Some (done ++ others)

joined-with : (done : List (List ℕ)) (label : List ℕ) (others : Option (List (List ℕ))) → joined done (with_label (Some label) others) ≡ joined (done ++ label ∷ []) others
joined-with done label None = refl
joined-with done label (Some others) = ap Some (sym (append_assoc done (label ∷ []) others))

-- the labels from a dot on
abbrev pub labels_from : List ℕ → Option (List (List ℕ))
labels_from rest = labels_among (parted is_dot rest)

-- how many bytes the first label takes
abbrev pub label_length : List ℕ → ℕ
label_length rest = field_bytes is_dot rest

labels_from-field : (rest : List ℕ) → labels_from rest ≡ with_label (label_of_text (take (label_length rest) rest)) (labels_among (fields_after is_dot (drop (label_length rest) rest)))
labels_from-field rest = ap labels_among (parted-field is_dot rest)

-- a field that is no label
pub labels_from-none : (done : List (List ℕ)) (rest : List ℕ) → label_of_text (take (label_length rest) rest) ≡ None → joined done (labels_from rest) ≡ None
labels_from-none done rest h = ap (joined done) (labels_from-field rest ∙ ap (λ o. with_label o (labels_among (fields_after is_dot (drop (label_length rest) rest)))) h)

-- a label with nothing after it
pub labels_from-last : (done : List (List ℕ)) (rest label : List ℕ) → label_of_text (take (label_length rest) rest) ≡ Some label → drop (label_length rest) rest ≡ [] → joined done (labels_from rest) ≡ Some (done ++ label ∷ [])
labels_from-last done rest label h last =
    ap (joined done) (labels_from-field rest ∙ ap (λ o. with_label o (labels_among (fields_after is_dot (drop (label_length rest) rest)))) h ∙ ap (λ t. with_label (Some label) (labels_among (fields_after is_dot t))) last)

-- a label with more after it
pub labels_from-more : (done : List (List ℕ)) (rest label : List ℕ) (b : ℕ) (others : List ℕ) → label_of_text (take (label_length rest) rest) ≡ Some label → drop (label_length rest) rest ≡ b ∷ others → joined done (labels_from rest) ≡ joined (done ++ label ∷ []) (labels_from others)
labels_from-more done rest label b others h more =
    ap (joined done) (labels_from-field rest ∙ ap (λ o. with_label o (labels_among (fields_after is_dot (drop (label_length rest) rest)))) h ∙ ap (λ t. with_label (Some label) (labels_among (fields_after is_dot t))) more) ∙ joined-with done label (labels_from others)

-- ---- numbers of labels

-- one number more
pub AreNumbers-push : (before after : List (List ℕ)) → Stay before after → (numbers : List ℕ) (texts : List (List ℕ)) (n : ℕ) (text : List ℕ) → AreLabelNumbers before numbers texts → place_of after text ≡ Some n → AreLabelNumbers after (numbers ++ n ∷ []) (texts ++ text ∷ [])
AreNumbers-push before after stay numbers texts n text are here =
    map_push Some numbers n ∙ ap (λ ns. ns ++ Some n ∷ []) (AreNumbers-stay before after stay numbers texts are) ∙ ap (λ p. map (place_of after) texts ++ p ∷ []) (sym here) ∙ sym (map_push (place_of after) texts text)

pub Stay-entered : (table : List (List ℕ)) (text : List ℕ) → Stay table (entered table text)
Stay-entered table text = record { stays = λ t n h. place_of-entered_kept table text t n h }

-- a label that is one too many
pub full-entered : (table : List (List ℕ)) (text : List ℕ) → IsFullFor table text → most_labels < length (entered table text)
full-entered table text full = rw full.0 (omega (arith, length-append table (text ∷ []), full.1))

pub full-all_entered : (table prefix : List (List ℕ)) (text : List ℕ) (others : List (List ℕ)) → IsFullFor (all_entered table prefix) text → most_labels < length (all_entered table (prefix ++ text ∷ others))
full-all_entered table prefix text others full =
    rw all_entered-append (omega (arith, full-entered (all_entered table prefix) text full, length-all_entered (entered (all_entered table prefix) text) others))

-- ---- the labels of a word, as they are read

pub nothing : {X : Type 0} (xs : List X) → length xs < 1 → xs ≡ []
nothing [] short = refl
nothing (x ∷ xs) short = absurd (omega arith)

-- A text without its first element.
record After (xs : List ℕ) : Type 0 where
  first : ℕ
  split : xs ≡ first ∷ take (length xs - 1) (drop 1 xs)

after_first : (xs : List ℕ) → 1 ≤ length xs → After xs
after_first [] some = absurd (omega arith)
after_first (x ∷ xs) some = record { first = x; split = ap (λ l. x ∷ l) (sym (take_rest (x ∷ xs) 1)) }

module _ (done : List (List ℕ)) (rest : List ℕ) (n : ℕ) (prefix back : List ℕ) (n_is : n ≡ label_length rest) (prefix_is : prefix ≡ take n rest) (back_is : back ≡ drop n rest) where
  prefix_here : label_of_text (take (label_length rest) rest) ≡ label_of_text prefix
  prefix_here = ap (λ k. label_of_text (take k rest)) (sym n_is) ∙ ap label_of_text (sym prefix_is)

  back_here : drop (label_length rest) rest ≡ back
  back_here = ap (λ k. drop k rest) (sym n_is) ∙ sym back_is

  pub labels-none : None ≡ label_of_text prefix → joined done (labels_from rest) ≡ None
  labels-none h = labels_from-none done rest (prefix_here ∙ sym h)

  pub labels-last : (label : List ℕ) → Some label ≡ label_of_text prefix → length back < 1 → joined done (labels_from rest) ≡ Some (done ++ label ∷ [])
  labels-last label h short = labels_from-last done rest label (prefix_here ∙ sym h) (back_here ∙ nothing back short)

  pub labels-more : (label : List ℕ) → Some label ≡ label_of_text prefix → 1 ≤ length back → joined done (labels_from rest) ≡ joined (done ++ label ∷ []) (labels_from (take (length back - 1) (drop 1 back)))
  labels-more label h some =
      let parts = after_first back some in
      labels_from-more done rest label parts.first (take (length back - 1) (drop 1 back)) (prefix_here ∙ sym h) (back_here ∙ parts.split)
