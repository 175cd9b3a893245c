-- Parts of names that are read in sequence.
use Rattle.std.proofs.Common.{◌≡◌, ℕ, zero, suc, ◌+◌, ◌<◌, ◌≤◌, List, [], ◌∷◌, ◌++◌, length, take, drop, set, slice_get, refl, sym, ap, ap₂, ◌∙◌, subst, Option, Some, unwrap_or, arith, append_assoc, add-one}
use Rattle.gms_store.specs.State.{Symbol, State, no_symbol, symbol_at, with_content}
use Rattle.gms_store.specs.Declarations.{put_at}
use Rattle.gms_save_text.specs.SavedState.{part, parts_from}
use Rattle.gms_save_text.specs.Reading.{AreReadable, IsReadablePart}

-- symbols of which the first ones are those of one list, and the others those of another
abbrev pub mixed : List Symbol → List Symbol → ℕ → List Symbol
mixed news olds k = take k news ++ drop k olds

-- the parts of the first `k` names were read
pub record HasParts (old state : State) (names : List (List ℕ)) (rest now : List ℕ) (made : State) (k : ℕ) : Type 0 where
  pub now_is : now ≡ parts_from state k (drop k names) ++ rest
  pub made_is : made ≡ record { symbols = mixed state.symbols old.symbols k; settings = old.settings }

-- ---- readable symbols

pub readable-length : (limit : ℕ) (names symbols : List Symbol) → AreReadable limit names symbols → length names ≡ length symbols
readable-length limit [] [] h = refl
readable-length limit [] (s ∷ symbols) h = absurd h
readable-length limit (n ∷ names) [] h = absurd h
readable-length limit (n ∷ names) (s ∷ symbols) h = ap suc (readable-length limit names symbols h.2)

-- the symbol of a number in a list
abbrev pub at : List Symbol → ℕ → Symbol
at symbols k = unwrap_or (slice_get symbols k) no_symbol

pub record IsReadableSymbol (limit : ℕ) (declared symbol : Symbol) : Type 0 where
  pub domain : declared.domain ≡ symbol.domain
  pub part : IsReadablePart limit declared symbol.content

pub readable-at : (limit : ℕ) (names symbols : List Symbol) (k : ℕ) → k < length names → AreReadable limit names symbols → IsReadableSymbol limit (at names k) (at symbols k)
readable-at limit [] symbols k within h = absurd (omega arith)
readable-at limit (n ∷ names) [] k within h = absurd h
readable-at limit (n ∷ names) (s ∷ symbols) zero within h = record { domain = h.0; part = h.1 }
readable-at limit (n ∷ names) (s ∷ symbols) (suc k) within h = readable-at limit names symbols k (omega arith) h.2

-- ---- mixed symbols

pub mixed-at : (news olds : List Symbol) (k : ℕ) → length olds ≡ length news → at (mixed news olds k) k ≡ at olds k
mixed-at news olds zero same = refl
mixed-at [] [] (suc k) same = refl
mixed-at [] (o ∷ olds) (suc k) same = absurd cc
mixed-at (n ∷ news) [] (suc k) same = absurd cc
mixed-at (n ∷ news) (o ∷ olds) (suc k) same = mixed-at news olds k (omega (arith, same))

mixed-more : (news olds : List Symbol) (k : ℕ) → length olds ≡ length news → k < length olds → set (mixed news olds k) k (at news k) ≡ mixed news olds (suc k)
mixed-more [] olds k same within = absurd (omega (arith, same, within))
mixed-more (n ∷ news) [] k same within = absurd (omega arith)
mixed-more (n ∷ news) (o ∷ olds) zero same within = refl
mixed-more (n ∷ news) (o ∷ olds) (suc k) same within = ap (λ (ss : List Symbol). n ∷ ss) (mixed-more news olds k (omega (arith, same)) (omega arith))

pub mixed-all : (news olds : List Symbol) (k : ℕ) → length olds ≡ length news → length olds ≤ k → mixed news olds k ≡ news
mixed-all [] [] zero same past = refl
mixed-all [] [] (suc k) same past = refl
mixed-all [] (o ∷ olds) k same past = absurd cc
mixed-all (n ∷ news) [] k same past = absurd cc
mixed-all (n ∷ news) (o ∷ olds) zero same past = absurd (omega arith)
mixed-all (n ∷ news) (o ∷ olds) (suc k) same past = ap (λ (ss : List Symbol). n ∷ ss) (mixed-all news olds k (omega (arith, same)) (omega arith))

-- ---- parts

names_more : (names : List (List ℕ)) (k : ℕ) (name : List ℕ) → slice_get names k ≡ Some name → drop k names ≡ name ∷ drop (suc k) names
names_more [] k name there = absurd cc
names_more (n ∷ names) zero name there = let same : n ≡ name = cc in ap (λ (x : List ℕ). x ∷ names) same
names_more (n ∷ names) (suc k) name there = names_more names k name there

-- the next part of the remaining text
pub next_part : (old state : State) (names : List (List ℕ)) (name rest now : List ℕ) (made : State) (k : ℕ) → slice_get names k ≡ Some name → HasParts old state names rest now made k → now ≡ part name (symbol_at state k).content ++ (parts_from state (k + 1) (drop (k + 1) names) ++ rest)
next_part old state names name rest now made k there so_far =
    so_far.now_is ∙ ap (λ (xs : List (List ℕ)). parts_from state k xs ++ rest) (names_more names k name there)
    ∙ append_assoc (part name (symbol_at state k).content) (parts_from state (k + 1) (drop (suc k) names)) rest
    ∙ ap (λ n. part name (symbol_at state k).content ++ (parts_from state (k + 1) (drop n names) ++ rest)) (sym (add-one k))

-- the symbol that a name has before its part is read
pub symbol_before : (old state : State) (names : List (List ℕ)) (rest now : List ℕ) (made : State) (k : ℕ) → length old.symbols ≡ length state.symbols → HasParts old state names rest now made k → symbol_at made k ≡ symbol_at old k
symbol_before old state names rest now made k same so_far =
    ap (λ (s : State). symbol_at s k) so_far.made_is ∙ mixed-at state.symbols old.symbols k same

filled_symbol : (declared symbol : Symbol) → declared.domain ≡ symbol.domain → with_content declared symbol.content ≡ symbol
filled_symbol declared symbol same = ap (λ (d : List (Option ℕ)). record { domain = d; content = symbol.content }) same

-- one part more was read
pub part_more : (old state : State) (names : List (List ℕ)) (rest now next : List ℕ) (made new : State) (k : ℕ) → length old.symbols ≡ length state.symbols → k < length old.symbols → (symbol_at old k).domain ≡ (symbol_at state k).domain → HasParts old state names rest now made k → next ≡ parts_from state (k + 1) (drop (k + 1) names) ++ rest → new ≡ put_at made k (with_content (symbol_at made k) (symbol_at state k).content) → HasParts old state names rest next new (k + 1)
part_more old state names rest now next made new k same within domain so_far left put =
    let symbol : with_content (symbol_at made k) (symbol_at state k).content ≡ symbol_at state k =
    ap (λ (s : Symbol). with_content s (symbol_at state k).content) (symbol_before old state names rest now made k same so_far) ∙ filled_symbol (symbol_at old k) (symbol_at state k) domain in
    record {
      now_is = left;
      made_is =
          put ∙ ap₂ (λ (m : State) (s : Symbol). put_at m k s) so_far.made_is symbol
          ∙ ap (λ (ss : List Symbol). record { symbols = ss; settings = old.settings }) (mixed-more state.symbols old.symbols k same within)
          ∙ ap (λ n. record { symbols = mixed state.symbols old.symbols n; settings = old.settings }) (sym (add-one k));
    }

-- all were read
pub parts_all : (old state : State) (names : List (List ℕ)) (rest now : List ℕ) (made : State) (k : ℕ) → length old.symbols ≡ length state.symbols → length names ≡ length old.symbols → length names ≤ k → HasParts old state names rest now made k → (now ≡ rest) × (made ≡ record { symbols = state.symbols; settings = old.settings })
parts_all old state names rest now made k same count past so_far = (
  so_far.now_is ∙ ap (λ (xs : List (List ℕ)). parts_from state k xs ++ rest) (none_left names k past),
  so_far.made_is ∙ ap (λ (ss : List Symbol). record { symbols = ss; settings = old.settings }) (mixed-all state.symbols old.symbols k same (omega (arith, count, past))),
)
  where
    none_left : (names : List (List ℕ)) (k : ℕ) → length names ≤ k → drop k names ≡ []
    none_left [] zero past = refl
    none_left [] (suc k) past = refl
    none_left (n ∷ names) zero past = absurd (omega arith)
    none_left (n ∷ names) (suc k) past = none_left names k (omega arith)

-- ---- the part that is read next

mixed-length : (news olds : List Symbol) (k : ℕ) → length olds ≡ length news → length (mixed news olds k) ≡ length olds
mixed-length news olds zero same = refl
mixed-length [] [] (suc k) same = refl
mixed-length [] (o ∷ olds) (suc k) same = absurd cc
mixed-length (n ∷ news) [] (suc k) same = absurd cc
mixed-length (n ∷ news) (o ∷ olds) (suc k) same = ap suc (mixed-length news olds k (omega (arith, same)))

-- its name is one of the state
pub within_now : (old state : State) (names : List (List ℕ)) (rest now : List ℕ) (made : State) (k : ℕ) → length old.symbols ≡ length state.symbols → k < length old.symbols → HasParts old state names rest now made k → k < length made.symbols
within_now old state names rest now made k same within so_far =
    let size : length made.symbols ≡ length old.symbols = ap (λ (s : State). length s.symbols) so_far.made_is ∙ mixed-length state.symbols old.symbols k same in
    omega (arith, within, size)

-- it can be read
pub readable_now : (limit : ℕ) (old state : State) (names : List (List ℕ)) (rest now : List ℕ) (made : State) (k : ℕ) → AreReadable limit old.symbols state.symbols → k < length old.symbols → HasParts old state names rest now made k → IsReadablePart limit (symbol_at made k) (symbol_at state k).content
readable_now limit old state names rest now made k readable within so_far =
    let same = readable-length limit old.symbols state.symbols readable in
    subst (λ (s : Symbol). IsReadablePart limit s (symbol_at state k).content) (sym (symbol_before old state names rest now made k same so_far)) (readable-at limit old.symbols state.symbols k within readable).part
