-- What the readers of parts of a save find in texts that are right. A reader may accept other texts
-- too: what was read is written again, and compared with the text.
use Rattle.std.specs.Prelude.{◌≡◌, ◌≢◌, ◌⊎◌, codes, ℕ, ◌<◌, ◌≤◌, ◌^◌, not, ◌==◌, true, List, [], ◌∷◌, ◌++◌, length, MatchOption, Option, None, Some, Result, Ok, Err}
use Rattle.std.specs.Borrow.{Bor}
use Rattle.std.specs.List.{fold, prefix_len, AllByRecursion}
use Rattle.gms_store.specs.declared.kind.SymbolKind.{SymbolKind}
use Rattle.gms_store.specs.declared.kind.SymbolKind.TheVariants as kind
use Rattle.gms_store.specs.declared.settings.Settings.{Settings}
use Rattle.gms_store.specs.State.{Content, set_of, parameter_of, variable_of, equation_of, Symbol, State, after_membership, after_value, after_attributes, value_in, attributes_in, given_in, differs_in, statuses_in, fits_at}
use Rattle.gms_tuple.specs.TupleOrder.{IsOrdered}
use Rattle.gms_save_text.specs.declared.fault.ReadFault.{ReadFault}
use Rattle.gms_save_text.specs.declared.fault.ReadFault.TheVariants.{Memory, Shape}
use Rattle.gms_save_text.specs.Validity.{emptied}

-- the byte does not occur in the text
abbrev pub HasNone : ℕ → List ℕ → Type 0
HasNone byte [] = Unit {0}
HasNone byte (b ∷ bs) = (b ≢ byte) × HasNone byte bs

-- how many bytes a text has before the first occurrence of `byte`; all if it does not occur
abbrev pub bytes_before : ℕ → List ℕ → ℕ
bytes_before byte text = prefix_len (λ other. not (other == byte)) text

-- the result of a reader is not `Shape`, the fault of a text that is no save's, and if it is Ok,
-- what was found has the property `Is`; out of memory makes no claim
abbrev pub Finds : {A : Type 0} → Result A ReadFault → (A → Type 0) → Type 0
Finds (Ok x) Is = Is x
Finds (Err Memory) Is = Unit {0}
Finds (Err Shape) Is = ⊥

-- `left` is the rest of a text after `piece`, with which the text begins; it is None if the text
-- does not begin with `piece`, or if no text is given (None)
abbrev pub IsPast : List ℕ → Option (Bor (List ℕ)) → Option (Bor (List ℕ)) → Type 0
IsPast piece None left = left ≡ None
IsPast piece (Some text) left = MatchOption left ((rest : List ℕ) → text.now ≢ piece ++ rest) (λ rest. text.now ≡ piece ++ rest.now)

-- a word means an infinite bound: it is -INF or +INF
abbrev pub IsWordForNone : List ℕ → Type 0
IsWordForNone word = (word ≡ codes "-INF") ⊎ (word ≡ codes "+INF")

-- ---- entries

-- a tuple can be read from a save: it has `arity` labels, at most 10, and each is below 2^32
pub record IsReadableTuple (arity : ℕ) (t : List ℕ) : Type 0 where
  pub count : length t ≡ arity
  pub few : arity ≤ 10
  pub small : AllByRecursion (λ label. label < 2 ^ 32) t

-- the entry of a content at a tuple can be read: the tuple can, the numerators and denominators of
-- the entry's numbers are at most `limit`, and the entry differs from that of an element without
-- data
pub record IsReadable (limit arity : ℕ) (content : Content) (t : List ℕ) : Type 0 where
  pub tuple : IsReadableTuple arity t
  pub fit : fits_at limit content t ≡ true
  pub differs : differs_in content t ≡ true

-- a content is of this kind, which is one with entries: a set, a parameter, a variable or an
-- equation
abbrev pub HasEntriesOfKind : SymbolKind → Content → Type 0
HasEntriesOfKind kind.Set (set_of members) = Unit {0}
HasEntriesOfKind kind.Parameter (parameter_of entries) = Unit {0}
HasEntriesOfKind kind.Variable (variable_of type entries) = Unit {0}
HasEntriesOfKind kind.Equation (equation_of entries) = Unit {0}
HasEntriesOfKind kind content = ⊥

-- the word before a name of this kind in a save, with a blank after it; empty for an undeclared
-- name
abbrev pub kind_word : SymbolKind → List ℕ
kind_word kind.Set = codes "set "
kind_word kind.Parameter = codes "parameter "
kind_word kind.Variable = codes "variable "
kind_word kind.Equation = codes "equation "
kind_word kind.Model = codes "model "
kind_word kind.Undeclared = []

-- the state after the entry that a content has at the tuple t was written to the name `name`
abbrev pub after_entry : State → ℕ → Content → List ℕ → State
after_entry state name (set_of members) t = after_membership state name t true
after_entry state name (parameter_of entries) t = after_value state name t (value_in (parameter_of entries) t)
after_entry state name content t = after_attributes state name t (attributes_in content t)

-- the state after the entries that a content has at these tuples were written to the name `name`,
-- in order
abbrev pub filled : State → ℕ → Content → List (List ℕ) → State
filled state name content tuples = fold (λ state t. after_entry state name content t) state tuples

-- ---- names

-- The data of `content` can be read for `symbol`, which has this content without its data. The
-- tuples of the entries are distinct and ascend; each entry can be read, with numerators and
-- denominators of at most `limit`; each of the two statuses fits into a byte.
pub record IsReadablePart (limit : ℕ) (symbol : Symbol) (content : Content) : Type 0 where
  pub declared : symbol.content ≡ emptied content
  pub ordered : IsOrdered (given_in content)
  pub entries : AllByRecursion (IsReadable limit (length symbol.domain) content) (given_in content)
  -- the number of a model's status fits into a byte, and so does that of its solver's
  pub model : (statuses_in content).0 < 2 ^ 8
  pub solver : (statuses_in content).1 < 2 ^ 8

-- The first list has symbols without data, the second list symbols with data; the lists are equally
-- long. A save's data of each symbol of the second list, with numerators and denominators of at
-- most `limit`, can be read for the symbol at the same index in the first list, which has the same
-- domain (`IsReadablePart`).
abbrev pub AreReadable : ℕ → List Symbol → List Symbol → Type 0
AreReadable limit [] [] = Unit {0}
AreReadable limit (declared ∷ names) (symbol ∷ symbols) = (declared.domain ≡ symbol.domain) × IsReadablePart limit declared symbol.content × AreReadable limit names symbols
AreReadable limit names symbols = ⊥

-- the settings with 0, the index of the first solver, in place of the index of the solver
abbrev pub unplaced : Settings → Settings
unplaced settings = record settings { solver = 0 }
