-- Statements that begin with a keyword.
use Rattle.std.proofs.Common.{◌≡◌, ℕ, Bool, true, false, not, ◌&&◌, List, [], ◌∷◌, refl, sym, ap, ◌∙◌, inl, inr, ◌⊎◌}
use Rattle.std.proofs.lemmas.Bool.{not-true, not_from_false, and_from}
use Rattle.gms_grammar.specs.declared.terminal.Terminal.{Terminal}
use Rattle.gms_grammar.specs.declared.terminal.Terminal.TheVariants.{Alias, Equation, Model, Parameter, Scalar, Set, Table, Variable, VariableType, End}
use Rattle.gms_grammar.specs.Grammar.{the, ◌∣◌, right, node}
use Rattle.gms_grammar.specs.Alternatives.{keyword_variable, keyword_other}
use Rattle.gms_grammar.specs.LookAhead.{may_begin}
use Rattle.gms_grammar.specs.Terminals.{is_terminal_among}
use Rattle.gms_grammar.specs.GamsGrammar.{KeywordStatement, SetStatement, ParameterStatement, ScalarStatement, TableStatement, VariableStatement, EquationStatement, ModelStatement, AliasStatement}
use Rattle.gms_grammar.specs.GamsLookAhead.{look_ahead}
use Rattle.gms_expressions.proofs.TokenKinds.{implies, also}
use Rattle.gms_parse.specs.ReadStates.{KindedToken, ReaderState, is_keyword}
use Rattle.gms_parse.specs.InnerReadings.{GamsPart, kind_of}
use Rattle.gms_parse.specs.InnerMeanings.{other_statement}
use Rattle.gms_parse.proofs.TokenKinds.{IsNone, not_among, leads_by_kind}
use Rattle.gms_parse.proofs.Steps.{Within, within_the, within_right, within_then}
use Rattle.gms_parse.proofs.Choices.{at_once, in_first, in_other, in_node, way_within}

-- ---- variables

pub variable_within : {limit : ℕ} {source : List ℕ} {w : ReaderState} (ts : List KindedToken) {k : Terminal} → k ≡ kind_of ts → (k ≡ VariableType) ⊎ (k ≡ Variable) → Within limit source (the KeywordStatement) w ts (the VariableStatement) w ts (λ t. node (keyword_variable t))
variable_within ts seen (inl e) = way_within {kind = VariableType} (in_node (in_other refl refl (in_other refl refl (in_other refl refl (in_other refl refl (in_first refl at_once)))))) (sym seen ∙ e) refl
variable_within ts seen (inr e) = way_within {kind = Variable} (in_node (in_other refl refl (in_other refl refl (in_other refl refl (in_other refl refl (in_first refl at_once)))))) (sym seen ∙ e) refl

-- ---- the statements that a loop may have

-- the keywords of the others
abbrev pub heads : List Terminal
heads = Set ∷ Parameter ∷ Scalar ∷ Table ∷ VariableType ∷ Variable ∷ Equation ∷ Model ∷ Alias ∷ []

abbrev is_inner : Terminal → Bool
is_inner kind = is_keyword kind && not (is_terminal_among heads kind)

-- such a keyword leads into the second alternative
past_other : {limit : ℕ} {source : List ℕ} {w : ReaderState} {ts : List KindedToken} (p q : GamsPart) → may_begin look_ahead p End ≡ false → may_begin look_ahead q End ≡ false → implies is_inner (λ k. not (may_begin look_ahead p k)) ≡ true → implies is_inner (may_begin look_ahead q) ≡ true →
    is_inner (kind_of ts) ≡ true → Within limit source (p ∣ q) w ts q w ts right
past_other {ts = ts} p q closed shut none_of all_of inner =
    within_right (leads_by_kind p ts closed ∙ not-true _ (also is_inner (λ k. not (may_begin look_ahead p k)) none_of (kind_of ts) inner)) (leads_by_kind q ts shut ∙ also is_inner (may_begin look_ahead q) all_of (kind_of ts) inner)

abbrev after_models : GamsPart
after_models = the AliasStatement ∣ other_statement

abbrev after_equations : GamsPart
after_equations = the ModelStatement ∣ after_models

abbrev after_variables : GamsPart
after_variables = the EquationStatement ∣ after_equations

abbrev after_tables : GamsPart
after_tables = the VariableStatement ∣ after_variables

abbrev after_scalars : GamsPart
after_scalars = the TableStatement ∣ after_tables

abbrev after_parameters : GamsPart
after_parameters = the ScalarStatement ∣ after_scalars

abbrev after_sets : GamsPart
after_sets = the ParameterStatement ∣ after_parameters

inner_within : {limit : ℕ} {source : List ℕ} {w : ReaderState} {ts : List KindedToken} → is_inner (kind_of ts) ≡ true → Within limit source (the KeywordStatement) w ts other_statement w ts (λ t. node (keyword_other t))
inner_within k = within_then (within_the KeywordStatement) (within_then (past_other (the SetStatement) after_sets refl refl refl refl k) (within_then (past_other (the ParameterStatement) after_parameters refl refl refl refl k)
    (within_then (past_other (the ScalarStatement) after_scalars refl refl refl refl k) (within_then (past_other (the TableStatement) after_tables refl refl refl refl k) (within_then (past_other (the VariableStatement) after_variables refl refl refl refl k)
    (within_then (past_other (the EquationStatement) after_equations refl refl refl refl k) (within_then (past_other (the ModelStatement) after_models refl refl refl refl k) (past_other (the AliasStatement) other_statement refl refl refl refl k))))))))

pub other_within : {limit : ℕ} {source : List ℕ} {w : ReaderState} (ts : List KindedToken) {k : Terminal} → k ≡ kind_of ts → is_keyword (kind_of ts) ≡ true → IsNone heads k → Within limit source (the KeywordStatement) w ts other_statement w ts (λ t. node (keyword_other t))
other_within ts {k} seen keyword none_of = inner_within (and_from _ _ keyword (not_from_false (is_terminal_among heads (kind_of ts)) (ap (is_terminal_among heads) (sym seen) ∙ not_among heads k none_of)))
