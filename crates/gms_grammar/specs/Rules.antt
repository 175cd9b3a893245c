-- The first fault of tokens that are read by the grammar, for any rule of faults: the state after
-- each token, and the faults it may have (Aho, Lam, Sethi and Ullman, "Compilers", section 4.1.3,
-- error recovery; section 4.4, predictive parsing).
use Rattle.std.specs.Prelude.{◌≡◌, ◌⊎◌, List, [], ◌∷◌, ◌++◌, ⊤}
use Rattle.gms_grammar.specs.declared.terminal.Terminal.{Terminal}
use Rattle.gms_grammar.specs.declared.terminal.Terminal.TheVariants.{End}
use Rattle.gms_grammar.specs.Grammar.{Part, the, DerivationTree, yield, Stops}
use Rattle.gms_grammar.specs.Reading.{read, stuck, Reads, Takes}
use Rattle.gms_grammar.specs.GamsGrammar.{Nonterminal, productions}
use Rattle.gms_grammar.specs.GamsLookAhead.{look_ahead}

-- Which faults a token has that the grammar expects, and which an unexpected one. A token is its
-- kind with data D; W is the type of the state after tokens, E that of faults, and R that of the
-- results in place of a tree, some of which report a fault.
pub record Rule (D W E R : Type 0) : Type 1 where
  -- the state after a token, from the state before it and the kind of the token that follows
  pub after : W → Terminal × D → Terminal → W
  -- a token that the grammar expects has the fault, by the state before it and the kind of the
  -- token that follows
  pub Faulty : W → Terminal × D → Terminal → E → Type 0
  -- the fault of the first of these tokens, if the grammar does not expect it; without tokens, that
  -- of an unexpected end
  pub unexpected : List (Terminal × D) → E
  -- the result that reports a fault
  pub told : E → R

-- the kind of the first token, or the given kind without tokens
abbrev pub kind_ahead : {D : Type 0} → List (Terminal × D) → Terminal → Terminal
kind_ahead [] ahead = ahead
kind_ahead (token ∷ tokens) ahead = token.0

-- the kind of the first token, or `End` without tokens
abbrev pub kind_of : {D : Type 0} → List (Terminal × D) → Terminal
kind_of tokens = kind_ahead tokens End

-- the state after the tokens, from the state w before them, if a token of the kind `ahead` follows
-- them; `after` gives the state after each single token
abbrev pub left_by : {D W : Type 0} → (W → Terminal × D → Terminal → W) → W → List (Terminal × D) → Terminal → W
left_by after w [] ahead = w
left_by after w (token ∷ tokens) ahead = left_by after (after w token (kind_ahead tokens ahead)) tokens ahead

-- none of the tokens has a fault by the rule, from the state w before them, if a token of the kind
-- `ahead` follows
abbrev pub AreFaultless : {D W E R : Type 0} → Rule D W E R → W → List (Terminal × D) → Terminal → Type 0
AreFaultless rule w [] ahead = ⊤
AreFaultless {E = E} rule w (token ∷ tokens) ahead =
    ((fault : E) → rule.Faulty w token (kind_ahead tokens ahead) fault → ⊥) × AreFaultless rule (rule.after w token (kind_ahead tokens ahead)) tokens ahead

-- Below, there is a rule for each K, such as a source.
module _ {K D W E R : Type 0} (rules : K → Rule D W E R) (key : K) where
  -- The part is read from the tokens: `tree` is its tree, none of its tokens has a fault, and
  -- `rest` follows. The state is w before the part, and v after it.
  pub record IsPartRead (part : Part Terminal Nonterminal) (w : W) (tokens : List (Terminal × D)) (tree : DerivationTree (Terminal × D)) (v : W) (rest : List (Terminal × D)) : Type 0 where
    pub reads : Reads productions look_ahead part tokens (read tree rest)
    pub are_sound : AreFaultless (rules key) w (yield tree) (kind_of rest)
    pub leaves : v ≡ left_by (rules key).after w (yield tree) (kind_of rest)

  -- Reading the part from the tokens stops after `prefix`: the first token of `rest` is unexpected,
  -- or, if `rest` is empty, the end is. `fault` is the fault of that by the rule that `rules` gives
  -- for `key`, and no token of `prefix` has a fault. The state is w before the part.
  pub record IsStuck (part : Part Terminal Nonterminal) (w : W) (tokens : List (Terminal × D)) (fault : E) : Type 0 where
    pub prefix : List (Terminal × D)
    pub rest : List (Terminal × D)
    pub reads : Reads productions look_ahead part tokens (stuck prefix rest)
    pub are_sound : AreFaultless (rules key) w prefix (kind_of rest)
    pub is : fault ≡ (rules key).unexpected rest

  -- A token that the reader reads for the part has the fault `fault` by the rule that `rules` gives
  -- for `key`, and no token before it has a fault. The state is w before the part.
  pub record IsWrong (part : Part Terminal Nonterminal) (w : W) (tokens : List (Terminal × D)) (fault : E) : Type 0 where
    pub before : List (Terminal × D)
    pub token : Terminal × D
    pub following : List (Terminal × D)
    pub takes : Takes productions look_ahead part tokens (before ++ token ∷ []) following
    pub are_sound : AreFaultless (rules key) w before token.0
    pub is_faulty : (rules key).Faulty (left_by (rules key).after w before token.0) token (kind_of following) fault

  -- The result `refusal` in place of the part is right: a fault that it reports is that of the
  -- first unexpected token (`IsStuck`) or that of the first faulty one (`IsWrong`). Out of memory
  -- reports no fault.
  pub record Refuses (part : Part Terminal Nonterminal) (w : W) (tokens : List (Terminal × D)) (refusal : R) : Type 0 where
    pub why : (fault : E) → refusal ≡ (rules key).told fault → IsStuck part w tokens fault ⊎ IsWrong part w tokens fault

  -- To read `part` from `tokens` in the state w, it remains to read `inner` from `rest` in the
  -- state v. If `inner` is read as a tree a, then `part` is read as the tree `context a`, with the
  -- same state and tokens after it; and a result that refuses `inner` refuses `part`.
  pub record Within (part : Part Terminal Nonterminal) (w : W) (tokens : List (Terminal × D)) (inner : Part Terminal Nonterminal) (v : W) (rest : List (Terminal × D)) (context : DerivationTree (Terminal × D) → DerivationTree (Terminal × D)) : Type 0 where
    pub gives : (a : DerivationTree (Terminal × D)) (x : W) (last : List (Terminal × D)) → IsPartRead inner v rest a x last → IsPartRead part w tokens (context a) x last
    pub refuses : (e : R) → Refuses inner v rest e → Refuses part w tokens e

  -- The fault is that of the first faulty token of `prefix`, read from the state w, by the rule
  -- that `rules` gives for `key`, if a token of the kind `ahead` follows `prefix`.
  pub record IsFirstFaulty (w : W) (prefix : List (Terminal × D)) (ahead : Terminal) (fault : E) : Type 0 where
    pub before : List (Terminal × D)
    pub token : Terminal × D
    pub following : List (Terminal × D)
    pub parts : prefix ≡ before ++ token ∷ following
    pub are_sound : AreFaultless (rules key) w before token.0
    pub is_faulty : (rules key).Faulty (left_by (rules key).after w before token.0) token (kind_ahead following ahead) fault

  -- By the rule that `rules` gives for `key`, none of the tokens of `prefix`, read from the state
  -- w, has a fault. `fault` is that of the unexpected first token of `rest`, or, if `rest` is
  -- empty, of the end. `Wants` holds, the caller's statement that the grammar requires a token
  -- after `prefix`.
  pub record IsUnexpectedByRule (Wants : Type 0) (w : W) (prefix rest : List (Terminal × D)) (fault : E) : Type 0 where
    pub needs : Wants
    pub are_sound : AreFaultless (rules key) w prefix (kind_of rest)
    pub is : fault ≡ (rules key).unexpected rest

  -- `fault` is the first fault of the tokens, read as the nonterminal n from the state w, by the
  -- rule that `rules` gives for `key`. Let `prefix` be their longest prefix that begins something n
  -- derives, and `rest` the later tokens. Either the fault is that of the first faulty token of
  -- `prefix`; or `prefix` has none, `Wants` holds, the caller's claim that n requires a token after
  -- `prefix`, and the fault is that of the unexpected first token of `rest`, or of the end if
  -- `rest` is empty.
  pub record IsRefusedByRule (Wants : List (Terminal × D) → List (Terminal × D) → Type 0) (n : Nonterminal) (w : W) (tokens : List (Terminal × D)) (fault : E) : Type 0 where
    pub prefix : List (Terminal × D)
    pub rest : List (Terminal × D)
    pub stops : Stops productions (the n) tokens prefix rest
    pub cause : IsFirstFaulty w prefix (kind_of rest) fault ⊎ IsUnexpectedByRule (Wants prefix rest) w prefix rest fault

-- a token, in each state and before each kind of token, has at most one fault by the rule
abbrev pub FaultsOnce : {D W E R : Type 0} → Rule D W E R → Type 0
FaultsOnce {D = D} {W = W} {E = E} rule =
    (w : W) (token : Terminal × D) (ahead : Terminal) (one other : E) → rule.Faulty w token ahead one → rule.Faulty w token ahead other → one ≡ other
