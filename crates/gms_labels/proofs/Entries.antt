-- A table's entries: what a look-up by a key finds of the texts, and what one more entry adds.
use Rattle.std.proofs.Common.{◌≡◌, ℕ, ◌+◌, ◌<◌, ◌≤◌, Bool, true, false, cond, not, ltb, List, [], ◌∷◌, ◌++◌, length, map, get_or, Some, None, position, slice_get, refl, sym, ap, ◌∙◌, arith, String, string_bytes}
use Rattle.std.specs.declared.alloc.Global.{Global}
use Rattle.std.specs.List.{position_or_len}
use Rattle.std.specs.Map.{keys_of, values_of}
use Rattle.std.specs.Option.{option_map}
use Rattle.std.specs.Str.{bytes_eq}
use Rattle.std.proofs.lemmas.List.{length-map, length_push, map_push}
use Rattle.std.proofs.lemmas.List.Elements.{All-push}
use Rattle.std.proofs.lemmas.List.Quantifiers.{all_pairs_push}
use Rattle.std.proofs.lemmas.Option.{slice_get-map}
use Rattle.std.proofs.lemmas.Simd.{map-map}
use Rattle.indexmap.specs.IndexMap.{insert_entry}
use Rattle.indexmap.proofs.MapLemmas.{insert_entry-absent, Missing-position}
use Rattle.gms_labels.specs.Labels.{lower_case, is_same, place_of, AreLabels}
use Rattle.gms_labels.specs.Table.{Entry, texts_of, IsLabelTable}
use Rattle.gms_labels.proofs.Places.{position_misses, is_same_sym}

module _ {X Y : Type 0} (p : Y → Bool) (f : X → Y) where
  passed-map : (xs : List X) → position_or_len p (map f xs) ≡ position_or_len (λ x. p (f x)) xs
  passed-map [] = refl
  passed-map (x ∷ xs) = ap (λ n. cond (not (p (f x))) (1 + n) 0) (passed-map xs)

  -- the first image that passes has the place of the first element whose image passes
  pub position-map : (xs : List X) → position p (map f xs) ≡ position (λ x. p (f x)) xs
  position-map xs =
      ap (λ n. cond (ltb n (length (map f xs))) (Some n) None) (passed-map xs) ∙ ap (λ n. cond (ltb (position_or_len (λ x. p (f x)) xs) n) (Some (position_or_len (λ x. p (f x)) xs)) None) (length-map xs f)

-- the key of a text has the text's place
pub position-keys : (entries : List Entry) (text : List ℕ) → IsLabelTable entries → position (bytes_eq (lower_case text)) (keys_of entries) ≡ place_of (texts_of entries) text
position-keys entries text kept =
    ap (position (bytes_eq (lower_case text))) kept.keyed ∙ position-map (bytes_eq (lower_case text)) lower_case (texts_of entries)

-- an entry with a new text goes last
pub insert-new : (entries : List Entry) (text : List ℕ) (written : String Global) → IsLabelTable entries → place_of (texts_of entries) text ≡ None → insert_entry bytes_eq entries (lower_case text) written ≡ entries ++ (lower_case text, written) ∷ []
insert-new entries text written kept none =
    insert_entry-absent bytes_eq (lower_case text) written entries (Missing-position (bytes_eq (lower_case text)) entries (position-keys entries text kept ∙ none)).absent

-- one more text
pub AreLabels-push : (texts : List (List ℕ)) (text : List ℕ) → AreLabels texts → place_of texts text ≡ None → length texts < 65536 → length text ≤ 63 → AreLabels (texts ++ text ∷ [])
AreLabels-push texts text labels none within_bound short = record {
  distinct = all_pairs_push (λ a b. is_same a b ≡ false) texts text labels.distinct (λ k d l. unlike k d l (is_same (get_or texts k d) text) refl);
  few = omega (arith, length_push texts text);
  short = All-push (λ t. length t ≤ 63) texts text labels.short short;
}
  where
    unlike : (k : ℕ) (d : List ℕ) → k < length texts → (b : Bool) → is_same (get_or texts k d) text ≡ b → b ≡ false
    unlike k d l false _ = refl
    unlike k d l true same =
        let misses : is_same text (get_or texts k d) ≡ false = position_misses (is_same text) texts none k d l in
        let meets : is_same text (get_or texts k d) ≡ true = is_same_sym (get_or texts k d) text same in
        absurd cc

-- the texts after one more entry
pub texts_of-push : (entries : List Entry) (key : List ℕ) (written : String Global) (text : List ℕ) → string_bytes written ≡ text → texts_of (entries ++ (key, written) ∷ []) ≡ texts_of entries ++ text ∷ []
texts_of-push entries key written text is =
    map_push (λ (entry : Entry). string_bytes entry.1) entries (key, written) ∙ ap (λ t. texts_of entries ++ t ∷ []) is

-- one more entry, with a new text
pub IsKept-push : (entries : List Entry) (written : String Global) (text : List ℕ) → IsLabelTable entries → place_of (texts_of entries) text ≡ None → length (texts_of entries) < 65536 → length text ≤ 63 → string_bytes written ≡ text → IsLabelTable (entries ++ (lower_case text, written) ∷ [])
IsKept-push entries written text kept none within_bound short is =
    let shows : texts_of (entries ++ (lower_case text, written) ∷ []) ≡ texts_of entries ++ text ∷ [] = texts_of-push entries (lower_case text) written text is in
    record {
      labels = rw shows (AreLabels-push (texts_of entries) text kept.labels none within_bound short);
      keyed = map_push (λ (entry : Entry). entry.0) entries (lower_case text, written) ∙ ap (λ keys. keys ++ lower_case text ∷ []) kept.keyed ∙ sym (map_push lower_case (texts_of entries) text) ∙ ap (map lower_case) (sym shows);
    }

-- the text at a place, as it was first written
pub text-at : (entries : List Entry) (n : ℕ) (written : String Global) (text : List ℕ) → slice_get (values_of entries) n ≡ Some written → text ≡ string_bytes written → slice_get (texts_of entries) n ≡ Some text
text-at entries n written text at is =
    ap (λ texts. slice_get texts n) (sym (map-map string_bytes (λ (entry : Entry). entry.1) entries)) ∙ slice_get-map string_bytes (values_of entries) n ∙ ap (option_map string_bytes) at ∙ ap Some (sym is)
