-- How readings or refusals of parts make up those of larger parts, by the rule of faults of
-- expressions.
use Rattle.std.proofs.Common.{◌≡◌, ℕ, ◌≤◌, Bool, true, false, List, [], ◌∷◌}
use Rattle.gms_grammar.specs.declared.terminal.Terminal.{Terminal}
use Rattle.gms_grammar.specs.Grammar.{one, the, ◌·◌, ◌∣◌, opt, many, leaf, pair, more, node}
use Rattle.gms_grammar.specs.Reading.{stuck, leads, Reads, Takes}
use Rattle.gms_grammar.specs.GamsGrammar.{Nonterminal, productions}
use Rattle.gms_grammar.specs.GamsLookAhead.{look_ahead}
use Rattle.gms_grammar.proofs.Rules as steps
use Rattle.gms_grammar.proofs.Eithers as eithers
pub use Rattle.gms_grammar.proofs.Rules.{gives_both, gives_the, gives_left, gives_right, gives_none, gives_some, gives_no_more, gives_again, takes_next}
use Rattle.gms_expressions.specs.declared.fault.SyntaxFault.{SyntaxFault}
use Rattle.gms_expressions.specs.declared.fault.SyntaxFaultOrMemory.{SyntaxFaultOrMemory}
use Rattle.gms_expressions.specs.declared.fault.SyntaxFaultOrMemory.TheVariants.{Fault, Memory}
use Rattle.gms_expressions.specs.Outcomes.{ExpressionState, syntax_rule, state_after_token, IsFaultyInExpression, unexpected_token}
use Rattle.gms_expressions.specs.declared.reader.Reader.{Reader}
use Rattle.gms_expressions.specs.declared.reader.Tables.{Tables}
use Rattle.gms_expressions.specs.InnerReadings.{Seen, Derivation, GamsPart, Gives, Went, Refuses, Sense, IsSense, IsGot, seen_from, read_state_of}
use Rattle.gms_expressions.proofs.Extending.{went_then}

-- where a part is to be read within a larger one, and the tree around its tree
pub record Within (limit : ℕ) (source : List ℕ) (part : GamsPart) (w : ExpressionState) (ts : List Seen) (inner : GamsPart) (v : ExpressionState) (rest : List Seen) (context : Derivation → Derivation) : Type 0 where
  pub gives : (a : Derivation) (x : ExpressionState) (last : List Seen) → Gives limit source inner v rest a x last → Gives limit source part w ts (context a) x last
  pub refuses : (tables : Tables) (e : SyntaxFaultOrMemory) → Refuses limit source inner tables v rest e → Refuses limit source part tables w ts e

-- a fault that is told is the one that was told
told_once : {found : SyntaxFault} {e : SyntaxFaultOrMemory} → e ≡ Fault found → (fault : SyntaxFault) → e ≡ Fault fault → found ≡ fault
told_once is fault k = cc

module _ {limit : ℕ} {source : List ℕ} where
  -- one token was read
  pub gives_one : {test : Terminal → Bool} {w v : ExpressionState} {ts rest : List Seen} {token : Seen} → ts ≡ token ∷ rest → test token.0 ≡ true →
      ((fault : SyntaxFault) → IsFaultyInExpression limit source w token fault → ⊥) → v ≡ state_after_token source w token → Gives limit source (one test) w ts (leaf token) v rest
  gives_one is h sound l = steps.gives_one {rules = syntax_rule} {key = (limit, source)} is h sound l

  -- nothing of a part was read, since the next token is unexpected
  pub refuses_at : {p : GamsPart} {tables : Tables} {w : ExpressionState} {ts : List Seen} {e : SyntaxFaultOrMemory} → Went w tables → Reads productions look_ahead p ts (stuck [] ts) → e ≡ Fault (unexpected_token source ts) → Refuses limit source p tables w ts e
  refuses_at went r is = record { why = steps.refuses_at {rules = syntax_rule} {key = (limit, source)} r (told_once is); went = went }

  -- the first token has a fault
  pub refuses_token : {p : GamsPart} {tables : Tables} {w : ExpressionState} {ts rest : List Seen} {token : Seen} {found : SyntaxFault} {e : SyntaxFaultOrMemory} → Went w tables → Takes productions look_ahead p ts (token ∷ []) rest →
      IsFaultyInExpression limit source w token found → e ≡ Fault found → Refuses limit source p tables w ts e
  refuses_token went t f is = record { why = steps.refuses_token {rules = syntax_rule} {key = (limit, source)} t f (told_once is); went = went }

  -- out of memory
  pub refuses_memory : {p : GamsPart} {tables : Tables} {w : ExpressionState} {ts : List Seen} {e : SyntaxFaultOrMemory} → Went w tables → e ≡ Memory → Refuses limit source p tables w ts e
  refuses_memory {e = e} went h = record { why = record { why = λ fault k. let told : e ≡ Fault fault = k in cc }; went = went }

  -- what a part refuses, a larger one does
  pub refuses_the : (n : Nonterminal) {tables : Tables} {w : ExpressionState} {ts : List Seen} {e : SyntaxFaultOrMemory} → Refuses limit source (productions n) tables w ts e → Refuses limit source (the n) tables w ts e
  refuses_the n r = record { why = steps.refuses_the n r.why; went = r.went }

  module _ {p : GamsPart} {tables : Tables} {w : ExpressionState} {ts : List Seen} {e : SyntaxFaultOrMemory} where
    pub refuses_first : {q : GamsPart} → Refuses limit source p tables w ts e → Refuses limit source (p · q) tables w ts e
    refuses_first r = record { why = steps.refuses_first r.why; went = r.went }

    pub refuses_left : {q : GamsPart} → leads productions look_ahead p ts ≡ true → Refuses limit source p tables w ts e → Refuses limit source (p ∣ q) tables w ts e
    refuses_left h r = record { why = steps.refuses_left h r.why; went = r.went }

    pub refuses_right : {q : GamsPart} → leads productions look_ahead q ts ≡ false → leads productions look_ahead p ts ≡ true → Refuses limit source p tables w ts e → Refuses limit source (q ∣ p) tables w ts e
    refuses_right h k r = record { why = steps.refuses_right h k r.why; went = r.went }

    pub refuses_some : leads productions look_ahead p ts ≡ true → Refuses limit source p tables w ts e → Refuses limit source (opt p) tables w ts e
    refuses_some h r = record { why = steps.refuses_some h r.why; went = r.went }

    pub refuses_again : leads productions look_ahead p ts ≡ true → Refuses limit source p tables w ts e → Refuses limit source (many p) tables w ts e
    refuses_again h r = record { why = steps.refuses_again h r.why; went = r.went }

  module _ {test : Terminal → Bool} {tables : Tables} {w : ExpressionState} {ts : List Seen} {e : SyntaxFaultOrMemory} where
    pub refuses_either : {q : GamsPart} → leads productions look_ahead q ts ≡ false → Refuses limit source (one test) tables w ts e → Refuses limit source (one test ∣ q) tables w ts e
    refuses_either h r = record { why = eithers.refuses_either h r.why; went = r.went }

    pub refuses_or : {p q : GamsPart} → leads productions look_ahead p ts ≡ false → Refuses limit source (one test) tables w ts e → Refuses limit source (p ∣ one test · q) tables w ts e
    refuses_or h r = record { why = eithers.refuses_or h r.why; went = r.went }

  module _ {p : GamsPart} {w v : ExpressionState} {ts between : List Seen} {a : Derivation} (g : Gives limit source p w ts a v between) where
    pub refuses_second : {q : GamsPart} {tables : Tables} {e : SyntaxFaultOrMemory} → Refuses limit source q tables v between e → Refuses limit source (p · q) tables w ts e
    refuses_second r = record { why = steps.refuses_second g r.why; went = went_then g r.went }

    -- a part that is read within another
    pub within_second : {q : GamsPart} → Within limit source (p · q) w ts q v between (λ b. pair a b)
    within_second = record { gives = λ b x last h. gives_both g h; refuses = λ tables e r. refuses_second r }

  pub within_again : {p : GamsPart} {w v : ExpressionState} {ts between : List Seen} {a : Derivation} → leads productions look_ahead p ts ≡ true → Gives limit source p w ts a v between → Within limit source (many p) w ts (many p) v between (λ b. more a b)
  within_again l g = record { gives = λ b x last h. gives_again l g h; refuses = λ tables e r. record { why = steps.refuses_later l g r.why; went = went_then g r.went } }

  pub within_the : (n : Nonterminal) {w : ExpressionState} {ts : List Seen} → Within limit source (the n) w ts (productions n) w ts node
  within_the n = record { gives = λ a x last g. gives_the n g; refuses = λ tables e r. refuses_the n r }

  pub within_then : {p q s : GamsPart} {w v x : ExpressionState} {ts us vs : List Seen} {c d : Derivation → Derivation} → Within limit source p w ts q v us c → Within limit source q v us s x vs d → Within limit source p w ts s x vs (λ b. c (d b))
  within_then {d = d} h k = record { gives = λ a y last g. h.gives (d a) y last (k.gives a y last g); refuses = λ tables e r. h.refuses tables e (k.refuses tables e r) }

-- A part was read at a place: what its tokens give, its meaning, and the place after it.
pub got_by : {T : Type 0} {limit : ℕ} {Means : Sense → Derivation → T → Type 0} {part : GamsPart} {reader : Reader} {at : ℕ} {old new : Tables} {x : T} {following : ℕ} {tree : Derivation} →
    Gives limit reader.source.now part (read_state_of reader.unclosed old) (seen_from reader at) tree (read_state_of reader.unclosed new) (seen_from reader following) → ((sense : Sense) → IsSense new sense → Means sense tree x) → at ≤ following → IsGot limit Means part reader at old new x following
got_by {tree = tree} gives means further = record { tree = tree; gives = gives; means = means; further = further }
