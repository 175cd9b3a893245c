-- The text after the name of a symbol, case by case.
use Rattle.std.proofs.Common.{◌≡◌, ◌≢◌, ℕ, ◌==◌, ◌++◌, List, [], ◌∷◌, codes, decimal, length, flat_map, true, false, if◌then◌else◌, Some, None, sym, ap, refl, ◌∙◌, arith, map}
use Rattle.std.proofs.lemmas.Bool.Decides.{nat_tests}
use Rattle.gms_store.specs.declared.kind.SymbolKind.{SymbolKind}
use Rattle.gms_store.specs.declared.kind.SymbolKind.TheVariants.{Set, Parameter, Variable, Equation, Model, Undeclared}
use Rattle.gms_event.specs.Events.{Shown}
use Rattle.gms_list.specs.Amounts.{line_of}
use Rattle.gms_list.specs.ListingText.{TupleValues, nothing_text, member_text, entry_text, tuple_width, entries_text, single_text, values_text, symbol_text, item_text}

-- the lines of a symbol with indices
abbrev pub lines_text : List (List ℕ) → SymbolKind → ℕ → TupleValues → List ℕ
lines_text labels kind decimals entries = if length entries == 0 then nothing_text kind else entries_text labels kind decimals entries

pub indexed_values : (labels : List (List ℕ)) (item : Shown) → item.indexed ≡ true → codes "\n" ++ lines_text labels item.kind item.decimals item.entries ≡ values_text labels item
indexed_values labels item e = ap (λ b. if b then line_of [] ++ lines_text labels item.kind item.decimals item.entries else single_text item) (sym e)

pub plain_values : (labels : List (List ℕ)) (item : Shown) → item.indexed ≡ false → single_text item ≡ values_text labels item
plain_values labels item e = ap (λ b. if b then line_of [] ++ lines_text labels item.kind item.decimals item.entries else single_text item) (sym e)

pub text_is : (names labels : List (List ℕ)) (line : ℕ) (item : Shown) (text : List ℕ) → text ≡ item.text → item.name ≡ None → codes "---- " ++ decimal line ++ codes " " ++ line_of text ≡ item_text names labels line item
text_is names labels line item text e n = rw (e, n) refl

pub symbol_is : (names labels : List (List ℕ)) (line : ℕ) (item : Shown) (name : ℕ) → item.name ≡ Some name → codes "---- " ++ decimal line ++ codes " " ++ symbol_text names labels name item ≡ item_text names labels line item
symbol_is names labels line item name n = rw n refl

-- no entry
pub no_entry : (labels : List (List ℕ)) (kind : SymbolKind) (decimals : ℕ) (entries : TupleValues) → entries ≡ [] → nothing_text kind ≡ lines_text labels kind decimals entries
no_entry labels kind decimals entries e = rw e refl

some_entries : (labels : List (List ℕ)) (kind : SymbolKind) (decimals : ℕ) (entries : TupleValues) → entries ≢ [] → entries_text labels kind decimals entries ≡ lines_text labels kind decimals entries
some_entries labels kind decimals [] h = absurd (h refl)
some_entries labels kind decimals (e ∷ es) h =
    let some : (length (e ∷ es) == 0) ≡ false = grind (arith, nat_tests) in
    ap (λ b. if b then nothing_text kind else entries_text labels kind decimals (e ∷ es)) (sym some)

-- members of a set
pub set_entries : (labels : List (List ℕ)) (kind : SymbolKind) (decimals : ℕ) (entries : TupleValues) → entries ≢ [] → kind ≡ Set → flat_map (member_text labels) entries ≡ lines_text labels kind decimals entries
set_entries labels kind decimals entries h k = ap (λ s. entries_text labels s decimals entries) (sym k) ∙ some_entries labels kind decimals entries h

not_set : (labels : List (List ℕ)) (kind : SymbolKind) (decimals : ℕ) (entries : TupleValues) → kind ≢ Set → flat_map (entry_text labels (tuple_width labels entries) decimals) entries ≡ entries_text labels kind decimals entries
not_set labels Set decimals entries k = absurd (k refl)
not_set labels Parameter decimals entries k = refl
not_set labels Variable decimals entries k = refl
not_set labels Equation decimals entries k = refl
not_set labels Model decimals entries k = refl
not_set labels Undeclared decimals entries k = refl

-- other entries
pub other_entries : (labels : List (List ℕ)) (kind : SymbolKind) (decimals : ℕ) (entries : TupleValues) → entries ≢ [] → kind ≢ Set → flat_map (entry_text labels (tuple_width labels entries) decimals) entries ≡ lines_text labels kind decimals entries
other_entries labels kind decimals entries h k = not_set labels kind decimals entries k ∙ some_entries labels kind decimals entries h

-- a mapped list is empty exactly where the list is
pub seen_none : {X Y : Type 0} (f : X → Y) (xs : List X) → xs ≡ [] → map f xs ≡ []
seen_none f xs e = ap (map f) e

pub seen_some : {X Y : Type 0} (f : X → Y) (xs : List X) → xs ≢ [] → map f xs ≢ []
seen_some f [] h e = h refl
seen_some f (x ∷ xs) h e = cc
