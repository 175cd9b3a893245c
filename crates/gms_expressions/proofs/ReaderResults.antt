-- What a reader by the table found, as the calls say it: the longest part, or its first fault.
use Rattle.std.proofs.Common.{ℕ, List, refl, inl, inr}
use Rattle.gms_grammar.specs.Grammar.{the, Derives}
use Rattle.gms_grammar.specs.GamsGrammar.{Nonterminal, productions}
use Rattle.gms_grammar.proofs.Language.{gams_read_tree, gams_read_stops}
use Rattle.gms_grammar.proofs.FirstFaults.{stuck_refused, wrong_refused}
use Rattle.gms_expressions.specs.declared.fault.SyntaxFaultOrMemory.{SyntaxFaultOrMemory}
use Rattle.gms_expressions.specs.declared.fault.SyntaxFaultOrMemory.TheVariants.{Fault, Memory}
use Rattle.gms_expressions.specs.declared.reader.Reader.{Reader}
use Rattle.gms_expressions.specs.declared.reader.Tables.{Tables}
use Rattle.gms_expressions.specs.ExpressionTrees.{no_token}
use Rattle.gms_expressions.specs.Outcomes.{ExpressionState}
use Rattle.gms_expressions.specs.Calls.{IsRead, IsSyntaxRefusal}
use Rattle.gms_expressions.specs.InnerReadings.{Seen, Derivation, Refuses, Sense, IsGot, seen_from, read_state_of}

-- what was refused
pub refusal_of : {limit : ℕ} {source : List ℕ} {n : Nonterminal} {w : ExpressionState} {ts : List Seen} {tables : Tables} (e : SyntaxFaultOrMemory) → Refuses limit source (the n) tables w ts e → IsSyntaxRefusal limit source n w ts e
refusal_of Memory r = tt
refusal_of {n = n} (Fault fault) r =
    elim (r.why.why fault refl) [ inl s ↦ stuck_refused no_token (λ prefix rest. Derives productions (the n) prefix → ⊥) s (λ h. h) | inr s ↦ wrong_refused no_token (λ prefix rest. Derives productions (the n) prefix → ⊥) s ]

-- what was read
pub read_of : {T : Type 0} {limit : ℕ} {Means : Sense → Derivation → T → Type 0} {n : Nonterminal} {reader : Reader} {at : ℕ} {old new : Tables} {x : T} {following : ℕ} → IsGot limit Means (the n) reader at old new x following →
    (Says : List (List ℕ) → List (List ℕ) → Derivation → T → Type 0) → ((names labels : List (List ℕ)) (tree : Derivation) → Means (record { names = names; labels = labels }) tree x → Says names labels tree x) →
    IsRead limit reader.source.now n Says (read_state_of reader.unclosed old) (read_state_of reader.unclosed new) (seen_from reader at) (seen_from reader following) x
read_of {n = n} {new = new} got Says says = record {
  tree = got.tree;
  is_part = record {
    is_tree = gams_read_tree n _ _ _ got.gives.reads;
    stops = gams_read_stops no_token n _ _ _ got.gives.reads;
    are_sound = got.gives.are_sound;
    leaves = got.gives.leaves;
  };
  means = λ names labels keeps_names keeps_labels. says names labels got.tree (got.means (record { names = names; labels = labels }) (record { names = keeps_names; labels = keeps_labels }));
}
