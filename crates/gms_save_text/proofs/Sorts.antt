-- The kinds of names: where their parts begin, and what is written at them.
use Rattle.std.proofs.Common.{◌≡◌, ◌≢◌, ℕ, ◌<◌, ◌≤◌, Bool, true, false, List, [], ◌∷◌, ◌++◌, length, flat_map, refl, sym, ap, ◌∙◌, subst, arith, codes, decimal, append_assoc, length-append}
use Rattle.std.specs.List.{AllByRecursion}
use Rattle.gms_store.specs.declared.kind.SymbolKind.{SymbolKind}
use Rattle.gms_store.specs.declared.kind.SymbolKind.TheVariants as kind
use Rattle.gms_store.specs.State.{Content, undeclared, alias_of, set_of, parameter_of, variable_of, equation_of, model_with, Symbol, State, symbol_at, symbol_of, alias_target, with_content, given_in, statuses_in}
use Rattle.gms_store.specs.Declarations.{is_alias, kind_in, put_at}
use Rattle.gms_save_text.specs.SavedState.{saved_line, tuple_text, given_text, entry_line, entry_lines, head_line, part}
use Rattle.gms_save_text.specs.Validity.{emptied}
use Rattle.gms_save_text.specs.Reading.{HasEntriesOfKind, IsReadable, IsReadablePart, kind_word}
use Rattle.gms_save_text.proofs.Filling.{AllDiffer, set-same}
use Rattle.gms_save_text.proofs.Lines.{line_end, line_prefix}

-- ---- what a content is

-- a content is of the kind that it is of with nothing given
pub alias_same : (content : Content) → is_alias (emptied content) ≡ is_alias content
alias_same undeclared = refl
alias_same (alias_of base) = refl
alias_same (set_of members) = refl
alias_same (parameter_of entries) = refl
alias_same (variable_of type entries) = refl
alias_same (equation_of entries) = refl
alias_same (model_with m s) = refl

pub kind_same : (content : Content) → kind_in (emptied content) ≡ kind_in content
kind_same undeclared = refl
kind_same (alias_of base) = refl
kind_same (set_of members) = refl
kind_same (parameter_of entries) = refl
kind_same (variable_of type entries) = refl
kind_same (equation_of entries) = refl
kind_same (model_with m s) = refl

-- of an alias nothing is given
pub emptied_alias : (content : Content) → is_alias content ≡ true → emptied content ≡ content
emptied_alias undeclared e = refl
emptied_alias (alias_of base) e = refl
emptied_alias (set_of members) e = absurd cc
emptied_alias (parameter_of entries) e = absurd cc
emptied_alias (variable_of type entries) e = absurd cc
emptied_alias (equation_of entries) e = absurd cc
emptied_alias (model_with m s) e = absurd cc

pub alias_line : (name : List ℕ) (content : Content) → is_alias content ≡ true → part name content ≡ saved_line (codes "alias " ++ name)
alias_line name undeclared e = absurd cc
alias_line name (alias_of base) e = refl
alias_line name (set_of members) e = absurd cc
alias_line name (parameter_of entries) e = absurd cc
alias_line name (variable_of type entries) e = absurd cc
alias_line name (equation_of entries) e = absurd cc
alias_line name (model_with m s) e = absurd cc

-- a name that is no alias stands for itself
pub own_base : (content : Content) (n : ℕ) → is_alias content ≡ false → alias_target n content ≡ n
own_base undeclared n e = refl
own_base (alias_of base) n e = absurd cc
own_base (set_of members) n e = refl
own_base (parameter_of entries) n e = refl
own_base (variable_of type entries) n e = refl
own_base (equation_of entries) n e = refl
own_base (model_with m s) n e = refl

pub own_symbol : (state : State) (n : ℕ) → is_alias (symbol_at state n).content ≡ false → symbol_of state n ≡ symbol_at state n
own_symbol state n e = ap (symbol_at state) (own_base (symbol_at state n).content n e)

-- an undeclared name has no data
pub emptied_undeclared : (content : Content) → kind_in content ≡ kind.Undeclared → emptied content ≡ content
emptied_undeclared undeclared e = refl
emptied_undeclared (alias_of base) e = refl
emptied_undeclared (set_of members) e = absurd cc
emptied_undeclared (parameter_of entries) e = absurd cc
emptied_undeclared (variable_of type entries) e = absurd cc
emptied_undeclared (equation_of entries) e = absurd cc
emptied_undeclared (model_with m s) e = absurd cc

pub undeclared_part : (name : List ℕ) (content : Content) → kind_in content ≡ kind.Undeclared → part name content ≡ []
undeclared_part name undeclared e = refl
undeclared_part name (alias_of base) e = absurd cc
undeclared_part name (set_of members) e = absurd cc
undeclared_part name (parameter_of entries) e = absurd cc
undeclared_part name (variable_of type entries) e = absurd cc
undeclared_part name (equation_of entries) e = absurd cc
undeclared_part name (model_with m s) e = absurd cc

-- a content of another kind has entries
pub has_entries : (content : Content) (k : SymbolKind) → is_alias content ≡ false → kind_in content ≡ k → k ≢ kind.Undeclared → k ≢ kind.Model → HasEntriesOfKind k content
has_entries undeclared k a e u m = absurd (u (sym e))
has_entries (alias_of base) k a e u m = absurd cc
has_entries (set_of members) k a e u m = subst (λ (j : SymbolKind). HasEntriesOfKind j (set_of members)) e tt
has_entries (parameter_of entries) k a e u m = subst (λ (j : SymbolKind). HasEntriesOfKind j (parameter_of entries)) e tt
has_entries (variable_of type entries) k a e u m = subst (λ (j : SymbolKind). HasEntriesOfKind j (variable_of type entries)) e tt
has_entries (equation_of entries) k a e u m = subst (λ (j : SymbolKind). HasEntriesOfKind j (equation_of entries)) e tt
has_entries (model_with i s) k a e u m = absurd (m (sym e))

-- its part is the line with which it begins, and the lines of its entries
pub entries_part : (name : List ℕ) (content : Content) (k : SymbolKind) → is_alias content ≡ false → kind_in content ≡ k → k ≢ kind.Undeclared → k ≢ kind.Model → part name content ≡ head_line (kind_word k) name content ++ entry_lines content
entries_part name undeclared k a e u m = absurd (u (sym e))
entries_part name (alias_of base) k a e u m = absurd cc
entries_part name (set_of members) k a e u m = ap (λ (j : SymbolKind). head_line (kind_word j) name (set_of members) ++ entry_lines (set_of members)) e
entries_part name (parameter_of entries) k a e u m = ap (λ (j : SymbolKind). head_line (kind_word j) name (parameter_of entries) ++ entry_lines (parameter_of entries)) e
entries_part name (variable_of type entries) k a e u m = ap (λ (j : SymbolKind). head_line (kind_word j) name (variable_of type entries) ++ entry_lines (variable_of type entries)) e
entries_part name (equation_of entries) k a e u m = ap (λ (j : SymbolKind). head_line (kind_word j) name (equation_of entries) ++ entry_lines (equation_of entries)) e
entries_part name (model_with i s) k a e u m = absurd (m (sym e))

-- ---- entries

-- each line has a byte at least
lines_long : (content : Content) (tuples : List (List ℕ)) → length tuples ≤ length (flat_map (entry_line content) tuples)
lines_long content [] = omega arith
lines_long content (t ∷ tuples) =
    let more = lines_long content tuples in
    let size = length-append (entry_line content t) (flat_map (entry_line content) tuples) in
    let first = line_long (tuple_text t ++ given_text content t) in
    omega (arith, more, size, first)
  where
    line_long : (text : List ℕ) → 1 ≤ length (saved_line text)
    line_long text = let size = length-append text (10 ∷ []) in omega (arith, size)

-- there are as many entries as bytes in their lines, or fewer
pub lines_count : (content : Content) (rest : List ℕ) → length (given_in content) ≤ length (entry_lines content ++ rest)
lines_count content rest =
    let lines = lines_long content (given_in content) in
    let size = length-append (entry_lines content) rest in
    omega (arith, lines, size)

-- what can be read differs from absent entries, and has labels for all positions
pub differing : (limit arity : ℕ) (content : Content) (tuples : List (List ℕ)) → AllByRecursion (IsReadable limit arity content) tuples → AllDiffer content tuples
differing limit arity content [] all = tt
differing limit arity content (t ∷ tuples) all = (all.0.differs, differing limit arity content tuples all.1)

pub counted : (limit arity : ℕ) (content : Content) (tuples : List (List ℕ)) → AllByRecursion (IsReadable limit arity content) tuples → AllByRecursion (λ t. length t ≡ arity) tuples
counted limit arity content [] all = tt
counted limit arity content (t ∷ tuples) all = (all.0.tuple.count, counted limit arity content tuples all.1)

-- ---- statuses

-- a model's content is its statuses
pub model_content : (content : Content) → kind_in content ≡ kind.Model → content ≡ model_with (statuses_in content).0 (statuses_in content).1
model_content undeclared e = absurd cc
model_content (alias_of base) e = absurd cc
model_content (set_of members) e = absurd cc
model_content (parameter_of entries) e = absurd cc
model_content (variable_of type entries) e = absurd cc
model_content (equation_of entries) e = absurd cc
model_content (model_with m s) e = refl

-- a name that keeps its content
pub kept : (state : State) (name : ℕ) (content : Content) → name < length state.symbols → (symbol_at state name).content ≡ content → state ≡ put_at state name (with_content (symbol_at state name) content)
kept state name content within same =
    ap (λ (xs : List Symbol). record { symbols = xs; settings = state.settings }) (sym (set-same state.symbols name within)) ∙ ap (λ (c : Content). put_at state name (with_content (symbol_at state name) c)) same

-- a name that has entries is no alias
pub not_alias : (content : Content) (k : SymbolKind) → HasEntriesOfKind k content → is_alias content ≡ false
not_alias undeclared k h = refl
not_alias (set_of members) k h = refl
not_alias (parameter_of entries) k h = refl
not_alias (variable_of type entries) k h = refl
not_alias (equation_of entries) k h = refl
not_alias (model_with m s) k h = refl
not_alias (alias_of base) kind.Set h = absurd h
not_alias (alias_of base) kind.Parameter h = absurd h
not_alias (alias_of base) kind.Variable h = absurd h
not_alias (alias_of base) kind.Equation h = absurd h
not_alias (alias_of base) kind.Model h = absurd h
not_alias (alias_of base) kind.Undeclared h = absurd h

-- ---- the part of a name, by what it is declared as

pub alias_too : (limit : ℕ) (declared : Symbol) (content : Content) (b : Bool) → IsReadablePart limit declared content → is_alias declared.content ≡ b → is_alias content ≡ b
alias_too limit declared content b readable a = sym (alias_same content) ∙ ap is_alias (sym readable.declared) ∙ a

pub kind_too : (limit : ℕ) (declared : Symbol) (content : Content) (k : SymbolKind) → IsReadablePart limit declared content → kind_in declared.content ≡ k → kind_in content ≡ k
kind_too limit declared content k readable e = sym (kind_same content) ∙ ap kind_in (sym readable.declared) ∙ e

-- the part of an alias, item by item
pub alias_prefix : (name : List ℕ) (content : Content) (rest : List ℕ) → is_alias content ≡ true → part name content ++ rest ≡ codes "alias " ++ (name ++ 10 ∷ rest)
alias_prefix name content rest a = ap (λ (p : List ℕ). p ++ rest) (alias_line name content a) ∙ line_prefix (codes "alias ") name rest (name ++ 10 ∷ rest) (line_end name rest)

-- the part of a name that has entries, from the line with which it begins on
pub entries_prefix : (name : List ℕ) (content : Content) (k : SymbolKind) (rest : List ℕ) → is_alias content ≡ false → kind_in content ≡ k → k ≢ kind.Undeclared → k ≢ kind.Model → part name content ++ rest ≡ saved_line (kind_word k ++ (name ++ (codes " " ++ decimal (length (given_in content))))) ++ (entry_lines content ++ rest)
entries_prefix name content k rest a e u m =
    ap (λ (p : List ℕ). p ++ rest) (entries_part name content k a e u m) ∙ append_assoc (head_line (kind_word k) name content) (entry_lines content) rest
