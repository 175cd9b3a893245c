-- Where a text is cut: at the first of some bytes.
use Rattle.std.proofs.Common.{◌≡◌, ◌≢◌, ℕ, suc, ◌+◌, ◌-◌, ◌<◌, ◌==◌, Bool, true, false, not, List, [], ◌∷◌, ◌++◌, length, take, drop, refl, ap, ap₂, ◌∙◌, cond, arith, eq-eqb, length-append, length-drop, add-one}
use Rattle.std.proofs.lemmas.List.{take_all}
use Rattle.std.proofs.lemmas.Bool.{eqb-true}
use Rattle.gms_save_text.specs.Reading.{HasNone, bytes_before}

-- ---- prefixes

pub take_prefix : (xs ys : List ℕ) → take (length xs) (xs ++ ys) ≡ xs
take_prefix [] ys = refl
take_prefix (x ∷ xs) ys = ap (λ l. x ∷ l) (take_prefix xs ys)

pub drop_prefix : (xs ys : List ℕ) → drop (length xs) (xs ++ ys) ≡ ys
drop_prefix [] ys = refl
drop_prefix (x ∷ xs) ys = drop_prefix xs ys

pub drop_after : (xs : List ℕ) (b : ℕ) (ys : List ℕ) → drop (suc (length xs)) (xs ++ b ∷ ys) ≡ ys
drop_after [] b ys = refl
drop_after (x ∷ xs) b ys = drop_after xs b ys

-- what a range up to the end has
pub tail_range : (n : ℕ) (xs : List ℕ) → take (length xs - n) (drop n xs) ≡ drop n xs
tail_range n xs = let size = length-drop n xs in take_all (length xs - n) (drop n xs) (omega (arith, size))

-- ---- the place of a byte

apart : (a b : ℕ) → a ≢ b → (a == b) ≡ false
apart a b other = by (a == b) refl
  where
    by : (t : Bool) → (a == b) ≡ t → t ≡ false
    by true e = absurd (other (eqb-true a b e))
    by false e = refl

pub place-found : (byte : ℕ) (prefix rest : List ℕ) → HasNone byte prefix → bytes_before byte (prefix ++ byte ∷ rest) ≡ length prefix
place-found byte [] rest none = ap (λ t. cond (not t) (1 + bytes_before byte rest) 0) (eq-eqb byte byte refl)
place-found byte (b ∷ prefix) rest none =
    let found = place-found byte prefix rest none.1 in
    ap (λ t. cond (not t) (1 + bytes_before byte (prefix ++ byte ∷ rest)) 0) (apart b byte none.0) ∙ omega (arith, found)

-- the text before the first of these bytes, and the text after it
pub record IsCut (byte : ℕ) (text prefix rest : List ℕ) : Type 0 where
  pub within : bytes_before byte text < length text
  pub prefix_is : take (bytes_before byte text) text ≡ prefix
  pub rest_is : take (length text - (bytes_before byte text + 1)) (drop (bytes_before byte text + 1) text) ≡ rest

pub cut_at : (byte : ℕ) (text prefix rest : List ℕ) → HasNone byte prefix → text ≡ prefix ++ byte ∷ rest → IsCut byte text prefix rest
cut_at byte text prefix rest none is =
    let place : bytes_before byte text ≡ length prefix = ap (bytes_before byte) is ∙ place-found byte prefix rest none in
    record {
      within = let size : length text ≡ length prefix + suc (length rest) = ap length is ∙ length-append prefix (byte ∷ rest) in omega (arith, place, size);
      prefix_is = ap₂ (λ (n : ℕ) (l : List ℕ). take n l) place is ∙ take_prefix prefix (byte ∷ rest);
      rest_is = tail_range (bytes_before byte text + 1) text ∙ ap (λ n. drop n text) (add-one (bytes_before byte text)) ∙ ap₂ (λ (n : ℕ) (l : List ℕ). drop (suc n) l) place is ∙ drop_after prefix byte rest;
    }

-- ---- texts without a byte

pub none-append : (byte : ℕ) (xs ys : List ℕ) → HasNone byte xs → HasNone byte ys → HasNone byte (xs ++ ys)
none-append byte [] ys h k = k
none-append byte (x ∷ xs) ys h k = (h.0, none-append byte xs ys h.1 k)
