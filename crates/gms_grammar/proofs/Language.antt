-- The laws of readers at the grammar of the language.
use Rattle.std.proofs.Common.{◌≡◌, List, [], ◌++◌}
use Rattle.gms_grammar.specs.declared.terminal.Terminal.{Terminal}
use Rattle.gms_grammar.specs.Grammar.{the, DerivationTree, yield, IsTree, Derives, Begins, Stops}
use Rattle.gms_grammar.specs.Reading.{Found, read, stuck, Reads, Takes}
use Rattle.gms_grammar.specs.GamsGrammar.{Nonterminal, productions}
use Rattle.gms_grammar.specs.GamsLookAhead.{look_ahead}
use Rattle.gms_grammar.proofs.Complete.{complete_alone, unique}
use Rattle.gms_grammar.proofs.Productive.{read_stops, stuck_stops, stuck_none, takes_on}
use Rattle.gms_grammar.proofs.Sound.{sound}
use Rattle.gms_grammar.proofs.Total.{finds}
use Rattle.gms_grammar.proofs.Decided.{gams_decided}

module _ {D : Type 0} where
  pub gams_unique : (n : Nonterminal) (one other : DerivationTree (Terminal × D)) → IsTree productions (the n) one → IsTree productions (the n) other → yield one ≡ yield other → one ≡ other
  gams_unique n one other h k e = unique productions look_ahead gams_decided (the n) other one k h (look_ahead.follow n) (λ c w. w) e

  pub gams_complete : (n : Nonterminal) (tree : DerivationTree (Terminal × D)) → IsTree productions (the n) tree → Reads productions look_ahead (the n) (yield tree) (read tree [])
  gams_complete n tree h = complete_alone productions look_ahead gams_decided (the n) tree h (look_ahead.follow n) (λ c w. w)

  pub gams_read_tree : (n : Nonterminal) (tokens rest : List (Terminal × D)) (tree : DerivationTree (Terminal × D)) → Reads productions look_ahead (the n) tokens (read tree rest) → IsTree productions (the n) tree
  gams_read_tree n tokens rest tree r = (sound productions look_ahead r).0

  pub gams_read_stops : D → (n : Nonterminal) (tokens rest : List (Terminal × D)) (tree : DerivationTree (Terminal × D)) → Reads productions look_ahead (the n) tokens (read tree rest) → Stops productions (the n) tokens (yield tree) rest
  gams_read_stops known n tokens rest tree r =
      read_stops productions look_ahead gams_decided known (the n) (look_ahead.follow n) tokens tree rest (λ c w. w) r

  pub gams_stuck_stops : D → (n : Nonterminal) (tokens prefix rest : List (Terminal × D)) → Reads productions look_ahead (the n) tokens (stuck prefix rest) → Stops productions (the n) tokens prefix rest
  gams_stuck_stops known n tokens prefix rest r =
      stuck_stops productions look_ahead gams_decided known (the n) (look_ahead.follow n) tokens prefix rest (λ c w. w) r

  pub gams_stuck_none : D → (n : Nonterminal) (tokens prefix rest : List (Terminal × D)) → Reads productions look_ahead (the n) tokens (stuck prefix rest) → Derives productions (the n) prefix → ⊥
  gams_stuck_none known n tokens prefix rest r =
      stuck_none productions look_ahead gams_decided known (the n) (look_ahead.follow n) tokens prefix rest (λ c w. w) r

  pub gams_takes : D → (n : Nonterminal) (tokens prefix rest : List (Terminal × D)) → Takes productions look_ahead (the n) tokens prefix rest → (tokens ≡ prefix ++ rest) × Begins productions (the n) prefix
  gams_takes known n tokens prefix rest r =
      let t = takes_on productions look_ahead gams_decided known r (look_ahead.follow n) (λ c w. w) in
      (t.0, record { further = t.1.further; derives = record { tree = t.1.tree; is_tree = t.1.is_tree; yields = t.1.yields } })

  pub gams_finds : (n : Nonterminal) (tokens : List (Terminal × D)) → (found : Found (Terminal × D)) × Reads productions look_ahead (the n) tokens found
  gams_finds n tokens =
      let f = finds D productions look_ahead gams_decided (the n) (look_ahead.follow n) (λ c w. w) tokens in
      (f.found, f.reads)

  -- tokens cease to begin anything at some place
  pub gams_stops : D → (n : Nonterminal) (tokens : List (Terminal × D)) → (prefix : List (Terminal × D)) × ((rest : List (Terminal × D)) × Stops productions (the n) tokens prefix rest)
  gams_stops known n tokens = let f = gams_finds n tokens in go f.0 f.1
    where
      go : (found : Found (Terminal × D)) → Reads productions look_ahead (the n) tokens found → (prefix : List (Terminal × D)) × ((rest : List (Terminal × D)) × Stops productions (the n) tokens prefix rest)
      go (read tree rest) r = (yield tree, (rest, gams_read_stops known n tokens rest tree r))
      go (stuck prefix rest) r = (prefix, (rest, gams_stuck_stops known n tokens prefix rest r))
