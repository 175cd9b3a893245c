-- A repetition, read in a loop.
use Rattle.std.proofs.Common.{◌≡◌, ℕ, ◌≤◌, true, false, List, ap, ◌∙◌, arith}
use Rattle.gms_grammar.specs.Grammar.{many, none, more}
use Rattle.gms_grammar.specs.Reading.{leads}
use Rattle.gms_grammar.specs.GamsGrammar.{productions}
use Rattle.gms_grammar.specs.GamsLookAhead.{look_ahead}
use Rattle.gms_expressions.specs.declared.fault.SyntaxFaultOrMemory.{SyntaxFaultOrMemory}
use Rattle.gms_expressions.specs.declared.fault.SyntaxFaultOrMemory.TheVariants.{Memory}
use Rattle.gms_expressions.specs.declared.reader.Reader.{Reader}
use Rattle.gms_expressions.specs.declared.reader.Tables.{Tables}
use Rattle.gms_expressions.specs.InnerReadings.{Seen, Derivation, GamsPart, Gives, Refuses, Sense, IsSense, IsGot, seen_from, read_state_of}
use Rattle.gms_expressions.proofs.Steps.{got_by, Within, within_then, within_again, gives_no_more, refuses_again, refuses_memory}
use Rattle.gms_expressions.proofs.Extending.{went_by}
use Rattle.gms_expressions.proofs.Nexts.{earlier}

-- A part ends with a repetition, of which so much was read. The whole is what is made of the rest.
pub record Looping {Y Z : Type 0} (limit : ℕ) (part q : GamsPart) (whole : Sense → Derivation → Y) (others : Sense → Derivation → Z) (made : Z → Y) (reader : Reader) (start : ℕ) (old new : Tables) (at : ℕ) : Type 0 where
  pub context : Derivation → Derivation
  pub within : Within limit reader.source.now part (read_state_of reader.unclosed old) (seen_from reader start) (many q) (read_state_of reader.unclosed new) (seen_from reader at) context
  pub means : (sense : Sense) → IsSense new sense → (b : Derivation) → whole sense (context b) ≡ made (others sense b)
  pub further : start ≤ at

module _ {Y Z : Type 0} {limit : ℕ} {part q : GamsPart} {whole : Sense → Derivation → Y} {others : Sense → Derivation → Z} {made : Z → Y} {reader : Reader} {start : ℕ} {old new : Tables} {at : ℕ} where
  -- one more was read
  pub loop_on : Looping limit part q whole others made reader start old new at → {newer : Tables} {after : ℕ} {tree : Derivation} → leads productions look_ahead q (seen_from reader at) ≡ true →
      Gives limit reader.source.now q (read_state_of reader.unclosed new) (seen_from reader at) tree (read_state_of reader.unclosed newer) (seen_from reader after) → at ≤ after →
      (put : Z → Z) → ((sense : Sense) → IsSense newer sense → (b : Derivation) → others sense (more tree b) ≡ put (others sense b)) → (made' : Z → Y) → ((z : Z) → made (put z) ≡ made' z) →
      Looping limit part q whole others made' reader start old newer after
  loop_on l {tree = tree} led g far put one_more made' same = record {
    context = λ b. l.context (more tree b);
    within = within_then l.within (within_again led g);
    means = λ sense s b. l.means sense (earlier g s) (more tree b) ∙ ap made (one_more sense s b) ∙ same (others sense b);
    further = (let f = l.further in omega arith);
  }

  -- no more is to be read
  pub loop_got : Looping limit part q whole others made reader start old new at → leads productions look_ahead q (seen_from reader at) ≡ false → {T : Type 0} (Means : Sense → Derivation → T → Type 0) (x : T) →
      ((sense : Sense) (tree : Derivation) → whole sense tree ≡ made (others sense none) → Means sense tree x) → IsGot limit Means part reader start old new x at
  loop_got l unled Means x means = got_by (l.within.gives none _ _ (gives_no_more unled)) (λ sense s. means sense (l.context none) (l.means sense s none)) l.further

  -- the next is refused
  pub loop_refuses : Looping limit part q whole others made reader start old new at → {last : Tables} {e : SyntaxFaultOrMemory} → leads productions look_ahead q (seen_from reader at) ≡ true →
      Refuses limit reader.source.now q last (read_state_of reader.unclosed new) (seen_from reader at) e → Refuses limit reader.source.now part last (read_state_of reader.unclosed old) (seen_from reader start) e
  loop_refuses l led r = l.within.refuses _ _ (refuses_again led r)

  -- out of memory after another part
  pub loop_memory : Looping limit part q whole others made reader start old new at → {p : GamsPart} {last : Tables} {ts rest : List Seen} {tree : Derivation} {e : SyntaxFaultOrMemory} →
      Gives limit reader.source.now p (read_state_of reader.unclosed new) ts tree (read_state_of reader.unclosed last) rest → e ≡ Memory → Refuses limit reader.source.now part last (read_state_of reader.unclosed old) (seen_from reader start) e
  loop_memory l g is = l.within.refuses _ _ (refuses_memory (went_by g) is)
