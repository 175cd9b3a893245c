-- How readings or refusals of parts make up those of larger parts, by the rule of faults of a
-- source.
use Rattle.std.proofs.Common.{◌≡◌, ℕ, ◌≤◌, Bool, true, List, [], ◌∷◌}
use Rattle.gms_grammar.specs.declared.terminal.Terminal.{Terminal}
use Rattle.gms_grammar.specs.Grammar.{one, leaf}
use Rattle.gms_grammar.specs.Reading.{stuck, Reads, Takes}
use Rattle.gms_grammar.specs.GamsGrammar.{productions}
use Rattle.gms_grammar.specs.GamsLookAhead.{look_ahead}
use Rattle.gms_grammar.specs.Rules as rules
use Rattle.gms_grammar.proofs.Rules as steps
pub use Rattle.gms_grammar.proofs.Rules.{ahead_append, takes_next, gives_both, gives_the, gives_left, gives_right, gives_none, gives_some, gives_no_more, gives_again, gives_as, by_cause, wrong_as, stuck_as, wrong_after, stuck_after, refuses_first, refuses_second, refuses_the, refuses_left, refuses_right, refuses_some, refuses_again, refuses_later, within_the, within_second, within_again, within_some, within_left, within_right, within_then}
use Rattle.gms_parse.specs.declared.fault.SourceFault.{SourceFault}
use Rattle.gms_parse.specs.declared.fault.SourceFaultOrMemory.{SourceFaultOrMemory}
use Rattle.gms_parse.specs.declared.fault.SourceFaultOrMemory.TheVariants.{Fault, Memory}
use Rattle.gms_parse.specs.ReadStates.{KindedToken, ReaderState, kind_of, reader_after, source_rule, IsFaulty, unexpected}
use Rattle.gms_parse.specs.declared.reader.Reader.{Reader}
use Rattle.gms_parse.specs.declared.reader.Tables.{Tables}
use Rattle.gms_parse.specs.InnerReadings.{Derivation, GamsPart, Gives, Refuses, Sense, IsSense, IsGot, seen_from}

-- where a part is to be read within a larger one, and the tree around its tree
abbrev pub Within : ℕ → List ℕ → GamsPart → ReaderState → List KindedToken → GamsPart → ReaderState → List KindedToken → (Derivation → Derivation) → Type 0
Within limit source part w ts inner v rest context = rules.Within source_rule (limit, source) part w ts inner v rest context

-- a fault that is told is the one that was told
told_once : {found : SourceFault} {e : SourceFaultOrMemory} → e ≡ Fault found → (fault : SourceFault) → e ≡ Fault fault → found ≡ fault
told_once is fault k = cc

module _ {limit : ℕ} {source : List ℕ} where
  -- one token was read
  pub gives_one : {test : Terminal → Bool} {w v : ReaderState} {ts rest : List KindedToken} {token : KindedToken} → ts ≡ token ∷ rest → test token.0 ≡ true →
      ((fault : SourceFault) → IsFaulty limit source w token (kind_of rest) fault → ⊥) → v ≡ reader_after source w token (kind_of rest) → Gives limit source (one test) w ts (leaf token) v rest
  gives_one is h sound l = steps.gives_one {rules = source_rule} {key = (limit, source)} is h sound l

  -- nothing of a part was read, since the next token is unexpected
  pub refuses_at : {p : GamsPart} {w : ReaderState} {ts : List KindedToken} {e : SourceFaultOrMemory} → Reads productions look_ahead p ts (stuck [] ts) → e ≡ Fault (unexpected source ts) → Refuses limit source p w ts e
  refuses_at r is = steps.refuses_at {rules = source_rule} {key = (limit, source)} r (told_once is)

  -- the first token has a fault
  pub refuses_token : {p : GamsPart} {w : ReaderState} {ts rest : List KindedToken} {token : KindedToken} {found : SourceFault} {e : SourceFaultOrMemory} → Takes productions look_ahead p ts (token ∷ []) rest →
      IsFaulty limit source w token (kind_of rest) found → e ≡ Fault found → Refuses limit source p w ts e
  refuses_token t f is = steps.refuses_token {rules = source_rule} {key = (limit, source)} t f (told_once is)

  -- out of memory
  pub refuses_memory : {p : GamsPart} {w : ReaderState} {ts : List KindedToken} {e : SourceFaultOrMemory} → e ≡ Memory → Refuses limit source p w ts e
  refuses_memory {e = e} h = record { why = λ fault k. let told : e ≡ Fault fault = k in cc }

-- A part was read at a place: what its tokens give, the state after them, its meaning, and the
-- place after it.
pub got_by : {T : Type 0} {limit : ℕ} {Means : Sense → Derivation → T → Type 0} {Leaves : ReaderState → Type 0} {part : GamsPart} {reader : Reader} {at : ℕ} {new : Tables} {w v : ReaderState} {x : T} {next : ℕ} {tree : Derivation} →
    Gives limit reader.source.now part w (seen_from reader at) tree v (seen_from reader next) → Leaves v → ((sense : Sense) → IsSense new sense → Means sense tree x) → at ≤ next → IsGot limit Means Leaves part reader at new w x next
got_by {v = v} {tree = tree} gives leaves means further = record { tree = tree; following = v; gives = gives; leaves = leaves; means = means; further = further }
