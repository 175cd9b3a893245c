-- The line of an entry, and the entry that it means, by the kind of the name.
use Rattle.std.proofs.Common.{◌≡◌, ◌≢◌, ℕ, List, ◌++◌, true, refl, codes}
use Rattle.gms_store.specs.declared.kind.SymbolKind.{SymbolKind}
use Rattle.gms_store.specs.declared.kind.SymbolKind.TheVariants as kind
use Rattle.gms_store.specs.State.{Content, undeclared, alias_of, set_of, parameter_of, variable_of, equation_of, model_with, State, after_membership, after_value, after_attributes, value_in, attributes_in, value_fits, attributes_fit, fits_at}
use Rattle.gms_save_text.specs.SavedState.{saved_line, tuple_text, value_text, attributes_text, given_text, entry_line}
use Rattle.gms_save_text.specs.Reading.{HasEntriesOfKind, after_entry}
use Rattle.gms_save_text.proofs.Lines.{line_prefix}

-- a line after the labels of its tuple
pub after_tuple : (content : Content) (t rest : List ℕ) → entry_line content t ++ rest ≡ tuple_text t ++ (saved_line (given_text content t) ++ rest)
after_tuple content t rest = line_prefix (tuple_text t) (given_text content t) rest (saved_line (given_text content t) ++ rest) refl

-- ---- sets

pub record IsSetEntry (content : Content) : Type 0 where
  pub text : (t : List ℕ) → given_text content t ≡ codes "."
  pub put : (state : State) (name : ℕ) (t : List ℕ) → after_entry state name content t ≡ after_membership state name t true

pub set_entry : (content : Content) → HasEntriesOfKind kind.Set content → IsSetEntry content
set_entry (set_of members) h = record { text = λ t. refl; put = λ state name t. refl }
set_entry undeclared h = absurd h
set_entry (alias_of base) h = absurd h
set_entry (parameter_of entries) h = absurd h
set_entry (variable_of type entries) h = absurd h
set_entry (equation_of entries) h = absurd h
set_entry (model_with m s) h = absurd h

-- ---- parameters

pub record IsParameterEntry (limit : ℕ) (content : Content) : Type 0 where
  pub text : (t : List ℕ) → given_text content t ≡ value_text (value_in content t)
  pub put : (state : State) (name : ℕ) (t : List ℕ) → after_entry state name content t ≡ after_value state name t (value_in content t)
  pub fit : (t : List ℕ) → fits_at limit content t ≡ value_fits limit (value_in content t)

pub parameter_entry : (limit : ℕ) (content : Content) → HasEntriesOfKind kind.Parameter content → IsParameterEntry limit content
parameter_entry limit (parameter_of entries) h = record { text = λ t. refl; put = λ state name t. refl; fit = λ t. refl }
parameter_entry limit undeclared h = absurd h
parameter_entry limit (alias_of base) h = absurd h
parameter_entry limit (set_of members) h = absurd h
parameter_entry limit (variable_of type entries) h = absurd h
parameter_entry limit (equation_of entries) h = absurd h
parameter_entry limit (model_with m s) h = absurd h

-- ---- variables and equations

pub record IsElement (limit : ℕ) (content : Content) : Type 0 where
  pub text : (t : List ℕ) → given_text content t ≡ attributes_text (attributes_in content t)
  pub put : (state : State) (name : ℕ) (t : List ℕ) → after_entry state name content t ≡ after_attributes state name t (attributes_in content t)
  pub fit : (t : List ℕ) → fits_at limit content t ≡ attributes_fit limit (attributes_in content t)

pub element : (limit : ℕ) (content : Content) (sort : SymbolKind) → sort ≢ kind.Set → sort ≢ kind.Parameter → HasEntriesOfKind sort content → IsElement limit content
element limit (variable_of type entries) sort s p h = record { text = λ t. refl; put = λ state name t. refl; fit = λ t. refl }
element limit (equation_of entries) sort s p h = record { text = λ t. refl; put = λ state name t. refl; fit = λ t. refl }
element limit undeclared kind.Set s p h = absurd h
element limit undeclared kind.Parameter s p h = absurd h
element limit undeclared kind.Variable s p h = absurd h
element limit undeclared kind.Equation s p h = absurd h
element limit undeclared kind.Model s p h = absurd h
element limit undeclared kind.Undeclared s p h = absurd h
element limit (alias_of base) kind.Set s p h = absurd h
element limit (alias_of base) kind.Parameter s p h = absurd h
element limit (alias_of base) kind.Variable s p h = absurd h
element limit (alias_of base) kind.Equation s p h = absurd h
element limit (alias_of base) kind.Model s p h = absurd h
element limit (alias_of base) kind.Undeclared s p h = absurd h
element limit (set_of members) kind.Set s p h = absurd (s refl)
element limit (set_of members) kind.Parameter s p h = absurd h
element limit (set_of members) kind.Variable s p h = absurd h
element limit (set_of members) kind.Equation s p h = absurd h
element limit (set_of members) kind.Model s p h = absurd h
element limit (set_of members) kind.Undeclared s p h = absurd h
element limit (parameter_of entries) kind.Set s p h = absurd h
element limit (parameter_of entries) kind.Parameter s p h = absurd (p refl)
element limit (parameter_of entries) kind.Variable s p h = absurd h
element limit (parameter_of entries) kind.Equation s p h = absurd h
element limit (parameter_of entries) kind.Model s p h = absurd h
element limit (parameter_of entries) kind.Undeclared s p h = absurd h
element limit (model_with i k) kind.Set s p h = absurd h
element limit (model_with i k) kind.Parameter s p h = absurd h
element limit (model_with i k) kind.Variable s p h = absurd h
element limit (model_with i k) kind.Equation s p h = absurd h
element limit (model_with i k) kind.Model s p h = absurd h
element limit (model_with i k) kind.Undeclared s p h = absurd h
