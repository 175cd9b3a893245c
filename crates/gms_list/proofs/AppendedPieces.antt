-- Texts that are appended piece by piece: what was appended so far, and what is left of the whole.
use Rattle.std.proofs.Common.{◌≡◌, ℕ, zero, suc, ◌+◌, ◌-◌, ◌==◌, ◌<◌, ◌≤◌, ◌∙◌, sym, ap, ap₂, refl, Bool, true, false, if◌then◌else◌, List, [], ◌∷◌, ◌++◌, Result, take, drop, length, get_or, flat_map, map, filter, arith, subst, add-one, drop-cons}
use Rattle.std.proofs.lemmas.Bool.Decides.{nat_tests}
use Rattle.std.specs.Prelude.{IsErr}
use Rattle.std.specs.List.{enumerate_from}
use Rattle.std.proofs.lemmas.List.{append_assoc, append-nil, drop_all}
use Rattle.gms_fmt.specs.Columns.{IsExtendedByPrefix, Appends}
use Rattle.gms_fmt.proofs.Appending.{failed, begins_first, begins_second, appended}

-- a text is an old one followed by a prefix of a whole, of which this remains
pub record Traversed (old whole now rest : List ℕ) : Type 0 where
  pub prefix : List ℕ
  pub now_is : now ≡ old ++ prefix
  pub whole_is : prefix ++ rest ≡ whole

-- nothing of the whole was appended yet
pub traversal : {old whole : List ℕ} (text : List ℕ) → text ≡ whole → Traversed old whole old text
traversal {old} {whole} text e = record { prefix = []; now_is = sym (append-nil old); whole_is = e }

-- the next piece was appended
pub step : {old whole now new : List ℕ} (t rest : List ℕ) → Traversed old whole now (t ++ rest) → new ≡ now ++ t → Traversed old whole new rest
step {old} {whole} {now} {new} t rest w e =
    record { prefix = w.prefix ++ t; now_is = e ∙ ap (λ x. x ++ t) w.now_is ∙ append_assoc old w.prefix t; whole_is = append_assoc w.prefix t rest ∙ w.whole_is }

-- a prefix of the next piece gives a prefix of the whole
pub prefix_of_whole : {old whole now new : List ℕ} (t rest : List ℕ) → Traversed old whole now (t ++ rest) → IsExtendedByPrefix now t new → IsExtendedByPrefix old whole new
prefix_of_whole {old} {whole} {now} {new} t rest w b =
    subst (λ x. IsExtendedByPrefix old x new) w.whole_is (begins_second old now new w.prefix (t ++ rest) w.now_is (begins_first now new t rest b))

-- the next piece failed
pub broke : {A E : Type 0} {old whole now new : List ℕ} (result : Result A E) → IsErr result → (t rest : List ℕ) → Traversed old whole now (t ++ rest) → IsExtendedByPrefix now t new → Appends result old new whole
broke {A} {E} {old} {whole} {now} {new} result is t rest w b = failed old new whole result is (prefix_of_whole t rest w b)

-- a call failed that appends nothing
pub stop : {A E : Type 0} {old whole now rest : List ℕ} (result : Result A E) → IsErr result → Traversed old whole now rest → Appends result old now whole
stop {A} {E} {old} {whole} {now} {rest} result is w =
    failed old now whole result is (w.prefix, rest, sym w.whole_is, w.now_is)

-- the last piece was appended, or a prefix of it
pub last : {A E : Type 0} {old whole now : List ℕ} (new t : List ℕ) (result : Result A E) → Traversed old whole now t → Appends result now new t → Appends result old new whole
last {A} {E} {old} {whole} {now} new t result w h =
    subst (Appends result old new) w.whole_is (appended old now new w.prefix t result w.now_is h)

-- nothing is left
pub all : {old whole now : List ℕ} → Traversed old whole now [] → now ≡ old ++ whole
all {old} {whole} {now} w = w.now_is ∙ ap (λ x. old ++ x) (sym (append-nil w.prefix) ∙ w.whole_is)

-- what remains, written in another way
pub rest_is : {old whole now rest : List ℕ} (text : List ℕ) → rest ≡ text → Traversed old whole now rest → Traversed old whole now text
rest_is {old} {whole} {now} {rest} text e w = subst (Traversed old whole now) e w

-- a call that failed before it appended anything
pub untouched : {A E : Type 0} (old text : List ℕ) (result : Result A E) → IsErr result → Appends result old old text
untouched old text result is = failed old old text result is ([], text, refl, sym (append-nil old))

-- the same text written in another way
pub reshaped : {A E : Type 0} (old new text shaped : List ℕ) (result : Result A E) → text ≡ shaped → Appends result old new text → Appends result old new shaped
reshaped old new text shaped result e h = subst (Appends result old new) e h

-- ---- loops over a list: what remains is the texts of the elements from this place on

pub drop_at : {X : Type 0} (xs : List X) (i : ℕ) (d : X) → i < length xs → drop i xs ≡ get_or xs i d ∷ drop (i + 1) xs
drop_at xs i d h = drop-cons xs i d h ∙ ap (λ k. get_or xs i d ∷ drop k xs) (sym (add-one i))

pub drop_none : {X : Type 0} (xs : List X) → drop 0 xs ≡ xs
drop_none xs = refl

-- the texts from a place on are that of the element there and those of the later elements
pub texts_at : {X Y : Type 0} (f : Y → List ℕ) (v : X → Y) (xs : List X) (i : ℕ) (d : X) → i < length xs →
    flat_map f (map v (drop i xs)) ≡ f (v (get_or xs i d)) ++ flat_map f (map v (drop (i + 1) xs))
texts_at f v xs i d h = ap (λ ys. flat_map f (map v ys)) (drop_at xs i d h)

pub loop_step : {X Y : Type 0} {old whole now new : List ℕ} (f : Y → List ℕ) (v : X → Y) (xs : List X) (i : ℕ) (x : X) → i < length xs → x ≡ get_or xs i x →
    Traversed old whole now (flat_map f (map v (drop i xs))) → new ≡ now ++ f (v x) → Traversed old whole new (flat_map f (map v (drop (i + 1) xs)))
loop_step f v xs i x h e w a =
    step (f (v x)) _ (rest_is _ (texts_at f v xs i x h ∙ ap (λ y. f (v y) ++ flat_map f (map v (drop (i + 1) xs))) (sym e)) w) a

pub loop_broke : {X Y A E : Type 0} {old whole now new : List ℕ} (f : Y → List ℕ) (v : X → Y) (xs : List X) (i : ℕ) (x : X) → i < length xs → x ≡ get_or xs i x →
    Traversed old whole now (flat_map f (map v (drop i xs))) → (result : Result A E) → IsErr result → IsExtendedByPrefix now (f (v x)) new → Appends result old new whole
loop_broke f v xs i x h e w result is b =
    broke result is (f (v x)) _ (rest_is _ (texts_at f v xs i x h ∙ ap (λ y. f (v y) ++ flat_map f (map v (drop (i + 1) xs))) (sym e)) w) b

pub loop_done : {X Y : Type 0} {old whole now : List ℕ} (f : Y → List ℕ) (v : X → Y) (xs : List X) (i : ℕ) → length xs ≤ i →
    Traversed old whole now (flat_map f (map v (drop i xs))) → now ≡ old ++ whole
loop_done f v xs i h w = all (rest_is [] (ap (λ ys. flat_map f (map v ys)) (drop_all i xs h)) w)

-- mapping the identity changes nothing
pub map_same : {X : Type 0} (xs : List X) → map (λ x. x) xs ≡ xs
map_same [] = refl
map_same (x ∷ xs) = ap (λ ys. x ∷ ys) (map_same xs)

-- an element that exists does not depend on the default
pub same_at : {X : Type 0} (xs : List X) (i : ℕ) (d e : X) → i < length xs → get_or xs i d ≡ get_or xs i e
same_at [] i d e h = absurd (omega (arith, h))
same_at (x ∷ xs) zero d e h = refl
same_at (x ∷ xs) (suc i) d e h = same_at xs i d e (omega (arith, h))

-- ---- the same with places, and with elements left out

abbrev pub placed : {X Y : Type 0} → (X → Y) → ℕ → List X → List (ℕ × Y)
placed v i xs = enumerate_from i (map v (drop i xs))

pub placed_at : {X Y : Type 0} (v : X → Y) (xs : List X) (i : ℕ) (x : X) → i < length xs → x ≡ get_or xs i x → placed v i xs ≡ (i, v x) ∷ placed v (i + 1) xs
placed_at v xs i x h e = ap (λ ys. enumerate_from i (map v ys)) (drop_at xs i x h ∙ ap (λ y. y ∷ drop (i + 1) xs) (sym e))

pub placed_done : {X Y : Type 0} (v : X → Y) (xs : List X) (i : ℕ) → length xs ≤ i → placed v i xs ≡ []
placed_done v xs i h = ap (λ ys. enumerate_from i (map v ys)) (drop_all i xs h)

pub filter_in : {X : Type 0} (p : X → Bool) (x : X) (xs : List X) → p x ≡ true → filter p (x ∷ xs) ≡ x ∷ filter p xs
filter_in p x xs e = ap (λ b. if b then x ∷ filter p xs else filter p xs) e

pub filter_out : {X : Type 0} (p : X → Bool) (x : X) (xs : List X) → p x ≡ false → filter p (x ∷ xs) ≡ filter p xs
filter_out p x xs e = ap (λ b. if b then x ∷ filter p xs else filter p xs) e

-- the texts of elements with their places, one element on
pub placed_step : {X Y : Type 0} {old whole now new : List ℕ} (f : ℕ × Y → List ℕ) (v : X → Y) (xs : List X) (i : ℕ) (x : X) → i < length xs → x ≡ get_or xs i x →
    Traversed old whole now (flat_map f (placed v i xs)) → new ≡ now ++ f (i, v x) → Traversed old whole new (flat_map f (placed v (i + 1) xs))
placed_step f v xs i x h e w a = step (f (i, v x)) _ (rest_is _ (ap (flat_map f) (placed_at v xs i x h e)) w) a

pub placed_broke : {X Y A E : Type 0} {old whole now new : List ℕ} (f : ℕ × Y → List ℕ) (v : X → Y) (xs : List X) (i : ℕ) (x : X) → i < length xs → x ≡ get_or xs i x →
    Traversed old whole now (flat_map f (placed v i xs)) → (result : Result A E) → IsErr result → IsExtendedByPrefix now (f (i, v x)) new → Appends result old new whole
placed_broke f v xs i x h e w result is b = broke result is (f (i, v x)) _ (rest_is _ (ap (flat_map f) (placed_at v xs i x h e)) w) b

pub placed_end : {X Y : Type 0} {old whole now : List ℕ} (f : ℕ × Y → List ℕ) (v : X → Y) (xs : List X) (i : ℕ) → length xs ≤ i →
    Traversed old whole now (flat_map f (placed v i xs)) → now ≡ old ++ whole
placed_end f v xs i h w = all (rest_is [] (ap (flat_map f) (placed_done v xs i h)) w)

-- ---- the first `left` of those that are kept

-- how many may still be appended after an element
abbrev pub left_after : Bool → ℕ → ℕ
left_after b left = if b then left - 1 else left

-- the text of an element that is kept while some may still be appended
abbrev pub while_left : Bool → ℕ → List ℕ → List ℕ
while_left b left text = if b then (if left == 0 then [] else text) else []

take_nothing : {X : Type 0} (n : ℕ) → take {A = X} n [] ≡ []
take_nothing zero = refl
take_nothing (suc n) = refl

taken_by : {Z : Type 0} (f : Z → List ℕ) (y : Z) (ys : List Z) (b : Bool) (left : ℕ) →
    flat_map f (take left (if b then y ∷ ys else ys)) ≡ while_left b left (f y) ++ flat_map f (take (left_after b left) ys)
taken_by f y ys false left = refl
taken_by f y ys true zero = refl
taken_by f y ys true (suc n) =
    let some : (suc n == 0) ≡ false = grind (arith, nat_tests) in
    let less : suc n - 1 ≡ n = omega arith in
    sym (ap₂ (λ b k. (if b then [] else f y) ++ flat_map f (take k ys)) some less)

-- the texts of the first that are kept are that of the first element and those of the later ones
pub taken_at : {X Y : Type 0} (f : ℕ × Y → List ℕ) (q : ℕ × Y → Bool) (v : X → Y) (xs : List X) (i : ℕ) (x : X) (left : ℕ) → i < length xs → x ≡ get_or xs i x →
    flat_map f (take left (filter q (placed v i xs))) ≡ while_left (q (i, v x)) left (f (i, v x)) ++ flat_map f (take (left_after (q (i, v x)) left) (filter q (placed v (i + 1) xs)))
taken_at f q v xs i x left h e =
    ap (λ ys. flat_map f (take left (filter q ys))) (placed_at v xs i x h e) ∙ taken_by f (i, v x) (filter q (placed v (i + 1) xs)) (q (i, v x)) left

pub taken_step : {X Y : Type 0} {old whole now new : List ℕ} (f : ℕ × Y → List ℕ) (q : ℕ × Y → Bool) (v : X → Y) (xs : List X) (i : ℕ) (x : X) (left next : ℕ) → i < length xs → x ≡ get_or xs i x →
    Traversed old whole now (flat_map f (take left (filter q (placed v i xs)))) → new ≡ now ++ while_left (q (i, v x)) left (f (i, v x)) → next ≡ left_after (q (i, v x)) left →
    Traversed old whole new (flat_map f (take next (filter q (placed v (i + 1) xs))))
taken_step f q v xs i x left next h e w a n =
    rest_is _ (ap (λ k. flat_map f (take k (filter q (placed v (i + 1) xs)))) (sym n)) (step (while_left (q (i, v x)) left (f (i, v x))) _ (rest_is _ (taken_at f q v xs i x left h e) w) a)

pub taken_broke : {X Y A E : Type 0} {old whole now new : List ℕ} (f : ℕ × Y → List ℕ) (q : ℕ × Y → Bool) (v : X → Y) (xs : List X) (i : ℕ) (x : X) (left : ℕ) → i < length xs → x ≡ get_or xs i x →
    Traversed old whole now (flat_map f (take left (filter q (placed v i xs)))) → (result : Result A E) → IsErr result → IsExtendedByPrefix now (while_left (q (i, v x)) left (f (i, v x))) new → Appends result old new whole
taken_broke f q v xs i x left h e w result is b =
    broke result is (while_left (q (i, v x)) left (f (i, v x))) _ (rest_is _ (taken_at f q v xs i x left h e) w) b

pub taken_end : {X Y : Type 0} {old whole now : List ℕ} (f : ℕ × Y → List ℕ) (q : ℕ × Y → Bool) (v : X → Y) (xs : List X) (i left : ℕ) → length xs ≤ i →
    Traversed old whole now (flat_map f (take left (filter q (placed v i xs)))) → now ≡ old ++ whole
taken_end f q v xs i left h w =
    all (rest_is [] (ap (λ ys. flat_map f (take left (filter q ys))) (placed_done v xs i h) ∙ ap (flat_map f) (take_nothing left)) w)

-- ---- all that are kept

-- the text of an element that is kept
abbrev pub where_kept : Bool → List ℕ → List ℕ
where_kept b text = if b then text else []

kept_by : {Z : Type 0} (f : Z → List ℕ) (y : Z) (ys : List Z) (b : Bool) → flat_map f (if b then y ∷ ys else ys) ≡ where_kept b (f y) ++ flat_map f ys
kept_by f y ys false = refl
kept_by f y ys true = refl

pub kept_at : {X Y : Type 0} (f : ℕ × Y → List ℕ) (q : ℕ × Y → Bool) (v : X → Y) (xs : List X) (i : ℕ) (x : X) → i < length xs → x ≡ get_or xs i x →
    flat_map f (filter q (placed v i xs)) ≡ where_kept (q (i, v x)) (f (i, v x)) ++ flat_map f (filter q (placed v (i + 1) xs))
kept_at f q v xs i x h e =
    ap (λ ys. flat_map f (filter q ys)) (placed_at v xs i x h e) ∙ kept_by f (i, v x) (filter q (placed v (i + 1) xs)) (q (i, v x))

pub kept_step : {X Y : Type 0} {old whole now new : List ℕ} (f : ℕ × Y → List ℕ) (q : ℕ × Y → Bool) (v : X → Y) (xs : List X) (i : ℕ) (x : X) → i < length xs → x ≡ get_or xs i x →
    Traversed old whole now (flat_map f (filter q (placed v i xs))) → new ≡ now ++ where_kept (q (i, v x)) (f (i, v x)) → Traversed old whole new (flat_map f (filter q (placed v (i + 1) xs)))
kept_step f q v xs i x h e w a = step (where_kept (q (i, v x)) (f (i, v x))) _ (rest_is _ (kept_at f q v xs i x h e) w) a

pub kept_broke : {X Y A E : Type 0} {old whole now new : List ℕ} (f : ℕ × Y → List ℕ) (q : ℕ × Y → Bool) (v : X → Y) (xs : List X) (i : ℕ) (x : X) → i < length xs → x ≡ get_or xs i x →
    Traversed old whole now (flat_map f (filter q (placed v i xs))) → (result : Result A E) → IsErr result → IsExtendedByPrefix now (where_kept (q (i, v x)) (f (i, v x))) new → Appends result old new whole
kept_broke f q v xs i x h e w result is b = broke result is (where_kept (q (i, v x)) (f (i, v x))) _ (rest_is _ (kept_at f q v xs i x h e) w) b

pub kept_end : {X Y : Type 0} {old whole now : List ℕ} (f : ℕ × Y → List ℕ) (q : ℕ × Y → Bool) (v : X → Y) (xs : List X) (i : ℕ) → length xs ≤ i →
    Traversed old whole now (flat_map f (filter q (placed v i xs))) → now ≡ old ++ whole
kept_end f q v xs i h w = all (rest_is [] (ap (λ ys. flat_map f (filter q ys)) (placed_done v xs i h)) w)

-- the texts of those that are kept, as texts of all
pub filtered : {Z : Type 0} (f : Z → List ℕ) (p : Z → Bool) (zs : List Z) → flat_map (λ z. where_kept (p z) (f z)) zs ≡ flat_map f (filter p zs)
filtered f p [] = refl
filtered f p (z ∷ zs) = ap (λ t. where_kept (p z) (f z) ++ t) (filtered f p zs) ∙ sym (kept_by f z (filter p zs) (p z))

-- an element that is not kept
pub passed : (now text : List ℕ) (b : Bool) (left : ℕ) → b ≡ false → now ≡ now ++ while_left b left text
passed now text false left e = sym (append-nil now)
passed now text true left e = absurd cc

-- none may be appended any more
pub none_left : (now text : List ℕ) (b : Bool) (left : ℕ) → left ≡ 0 → now ≡ now ++ while_left b left text
none_left now text false left e = sym (append-nil now)
none_left now text true zero e = sym (append-nil now)
none_left now text true (suc n) e = absurd (omega (arith, e))

-- an element that is kept while some may be appended
pub taken_in : (text : List ℕ) (b : Bool) (left : ℕ) → b ≡ true → 1 ≤ left → text ≡ while_left b left text
taken_in text false left e h = absurd cc
taken_in text true zero e h = absurd (omega (arith, h))
taken_in text true (suc n) e h = let some : (suc n == 0) ≡ false = grind (arith, nat_tests) in sym (ap (λ b. if b then [] else text) some)

pub left_passed : (b : Bool) (left : ℕ) → b ≡ false → left ≡ left_after b left
left_passed false left e = refl
left_passed true left e = absurd cc

pub left_none : (b : Bool) (left : ℕ) → left ≡ 0 → left ≡ left_after b left
left_none false left e = refl
left_none true left e = omega (arith, e)

pub left_taken : (b : Bool) (left : ℕ) → b ≡ true → left - 1 ≡ left_after b left
left_taken false left e = absurd cc
left_taken true left e = refl

-- the text of a branch
pub chosen : {A : Type 0} (b : Bool) (x y : A) → b ≡ true → x ≡ (if b then x else y)
chosen false x y e = absurd cc
chosen true x y e = refl

pub other : {A : Type 0} (b : Bool) (x y : A) → b ≡ false → y ≡ (if b then x else y)
other false x y e = refl
other true x y e = absurd cc
