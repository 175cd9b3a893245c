-- Lines of several pieces, and names that lack an ending.
use Rattle.std.proofs.Common.{◌≡◌, ℕ, Bool, true, false, List, ◌++◌, take, drop, refl, sym, ap, ◌∙◌, take-append-drop, append_assoc, Result, IfOk}
use Rattle.std.specs.Prelude.{String, string_bytes}
use Rattle.std.proofs.lemmas.Result.{IfOk-weaker}
use Rattle.std.specs.Str.{bytes_eq}
use Rattle.std.proofs.lemmas.Slice.Eq.{bytes_eq-Decides}

-- A text that is nothing followed by an ending does not end so.
pub lacks_ending : (text ending : List ℕ) (place : ℕ) → ((prefix : List ℕ) → text ≡ prefix ++ ending → ⊥) → bytes_eq (drop place text) ending ≡ false
lacks_ending text ending place none = by_test (bytes_eq (drop place text) ending) refl
  where
    by_test : (b : Bool) → bytes_eq (drop place text) ending ≡ b → bytes_eq (drop place text) ending ≡ false
    by_test true t =
        let e : drop place text ≡ ending = (bytes_eq-Decides (drop place text) ending).0 t in
        absurd (none (take place text) (sym (take-append-drop place text) ∙ ap (λ (rest : List ℕ). take place text ++ rest) e))
    by_test false t = t

-- A line of seven pieces, grouped from the right.
pub seven_pieces : (a b c d e f g : List ℕ) → a ++ (b ++ (c ++ (d ++ (e ++ (f ++ g))))) ≡ a ++ b ++ c ++ d ++ e ++ f ++ g
seven_pieces a b c d e f g =
    sym (append_assoc (a ++ b ++ c ++ d ++ e) f g ∙ append_assoc (a ++ b ++ c ++ d) e (f ++ g) ∙ append_assoc (a ++ b ++ c) d (e ++ (f ++ g)) ∙ append_assoc (a ++ b) c (d ++ (e ++ (f ++ g))) ∙ append_assoc a b (c ++ (d ++ (e ++ (f ++ g)))))

-- A line of nine pieces, grouped from the right.
pub nine_pieces : (a b c d e f g h i : List ℕ) → a ++ (b ++ (c ++ (d ++ (e ++ (f ++ (g ++ (h ++ i))))))) ≡ a ++ b ++ c ++ d ++ e ++ f ++ g ++ h ++ i
nine_pieces a b c d e f g h i =
    seven_pieces a b c d e f (g ++ (h ++ i)) ∙ sym (append_assoc (a ++ b ++ c ++ d ++ e ++ f ++ g) h i ∙ append_assoc (a ++ b ++ c ++ d ++ e ++ f) g (h ++ i))

-- A line of five pieces, grouped from the right.
pub five_pieces : (a b c d e : List ℕ) → a ++ (b ++ (c ++ (d ++ e))) ≡ a ++ b ++ c ++ d ++ e
five_pieces a b c d e = sym (append_assoc (a ++ b ++ c) d e ∙ append_assoc (a ++ b) c (d ++ e) ∙ append_assoc a b (c ++ (d ++ e)))

-- A line of eleven pieces, grouped from the right.
pub eleven_pieces : (a b c d e f g h i j k : List ℕ) → a ++ (b ++ (c ++ (d ++ (e ++ (f ++ (g ++ (h ++ (i ++ (j ++ k))))))))) ≡ a ++ b ++ c ++ d ++ e ++ f ++ g ++ h ++ i ++ j ++ k
eleven_pieces a b c d e f g h i j k =
    ap (λ (rest : List ℕ). a ++ (b ++ (c ++ (d ++ rest)))) (seven_pieces e f g h i j k) ∙ prefix (e ++ f ++ g ++ h ++ i ++ j) ∙ regroup
  where
    prefix : (m : List ℕ) → a ++ (b ++ (c ++ (d ++ (m ++ k)))) ≡ a ++ b ++ c ++ d ++ m ++ k
    prefix m = sym (append_assoc (a ++ b ++ c ++ d) m k ∙ append_assoc (a ++ b ++ c) d (m ++ k) ∙ append_assoc (a ++ b) c (d ++ (m ++ k)) ∙ append_assoc a b (c ++ (d ++ (m ++ k))))

    regroup : a ++ b ++ c ++ d ++ (e ++ f ++ g ++ h ++ i ++ j) ++ k ≡ a ++ b ++ c ++ d ++ e ++ f ++ g ++ h ++ i ++ j ++ k
    regroup =
        ap (λ (m : List ℕ). m ++ k) (sym (append_assoc (a ++ b ++ c ++ d) (e ++ f ++ g ++ h ++ i) j) ∙ ap (λ (m : List ℕ). m ++ j) (sym (append_assoc (a ++ b ++ c ++ d) (e ++ f ++ g ++ h) i) ∙ ap (λ (m : List ℕ). m ++ i) (sym (append_assoc (a ++ b ++ c ++ d) (e ++ f ++ g) h) ∙ ap (λ (m : List ℕ). m ++ h) (sym (append_assoc (a ++ b ++ c ++ d) (e ++ f) g) ∙ ap (λ (m : List ℕ). m ++ g) (sym (append_assoc (a ++ b ++ c ++ d) e f))))))

-- A text that was made is another, where the two are equal.
pub made_text : {A E : Type 0} (r : Result (String A) E) (x y : List ℕ) → x ≡ y → IfOk r (λ s. string_bytes s ≡ x) → IfOk r (λ s. string_bytes s ≡ y)
made_text {A} r x y e h = IfOk-weaker r (λ (s : String A). string_bytes s ≡ x) (λ (s : String A). string_bytes s ≡ y) (λ s f. f ∙ e) h
