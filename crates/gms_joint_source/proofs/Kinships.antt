-- The derivation of a saved program is kin to itself in a joint source: each token has the same
-- bytes, and what it names the same number.
use Rattle.std.proofs.Common.{◌≡◌, ℕ, List, [], Some}
use Rattle.gms_labels.specs.Labels.{place_of}
use Rattle.gms_grammar.specs.Grammar.{one, the, ◌·◌, ◌∣◌, opt, many, leaf, pair, left, right, none, some, more, node, yield, IsTree}
use Rattle.gms_grammar.specs.Reading.{read, Reads, entered}
use Rattle.gms_grammar.specs.GamsGrammar.{Program, productions}
use Rattle.gms_grammar.specs.GamsLookAhead.{look_ahead}
use Rattle.gms_grammar.proofs.Language.{gams_complete}
use Rattle.gms_parse.specs.Outcomes.{HaveItems}
use Rattle.gms_parse.specs.ReadStates.{KindedToken, start}
use Rattle.gms_parse.specs.InnerReadings.{Derivation, GamsPart}
use Rattle.gms_joint_source.proofs.NameRoles.{SameName, names_throughout}
use Rattle.gms_joint_source.proofs.IndexTexts.{SameText, texts_throughout}
use Rattle.gms_joint_source.proofs.RangeLabels.{SameBytes, ranges_throughout}
use Rattle.gms_joint_source.proofs.Kin.{Alike, Kin, of_token, of_node, of_both, of_left, of_right, of_none, of_some, of_nil, of_more}
use Rattle.gms_joint_source.proofs.Throughouts.{Throughout, NoMore, Occurs}

module _ (first second : List ℕ) (names wider labels larger : List (List ℕ)) (whole : List KindedToken) (keep_name : (text : List ℕ) (n : ℕ) → place_of names text ≡ Some n → place_of wider text ≡ Some n) (keep_label : (text : List ℕ) (n : ℕ) → place_of labels text ≡ Some n → place_of larger text ≡ Some n) where
  abbrev Names : GamsPart → Derivation → Type 0
  Names p tree = Throughout (SameName first second names labels wider whole keep_name) NoMore p tree

  abbrev Texts : GamsPart → Derivation → Type 0
  Texts p tree = Throughout (SameText first second names labels larger whole keep_label) NoMore p tree

  abbrev Ranges : GamsPart → Derivation → Type 0
  Ranges p tree = Throughout (SameBytes first second names wider labels larger whole keep_label) (Alike first second names wider labels larger) p tree

  kin_of : (p : GamsPart) (tree : Derivation) → IsTree productions p tree → Names p tree → Texts p tree → Ranges p tree → Kin first second names wider labels larger p tree
  kin_of (one test) (leaf t) h n l r = of_token r n l
  kin_of (the m) (node tree) h n l r = of_node (kin_of (productions m) tree h n.0 l.0 r.0) r.1
  kin_of (p · q) (pair a b) h n l r = of_both (kin_of p a h.0 n.0 l.0 r.0) (kin_of q b h.1 n.1 l.1 r.1)
  kin_of (p ∣ q) (left tree) h n l r = of_left (kin_of p tree h n l r)
  kin_of (p ∣ q) (right tree) h n l r = of_right (kin_of q tree h n l r)
  kin_of (opt p) none h n l r = of_none
  kin_of (opt p) (some tree) h n l r = of_some (kin_of p tree h n l r)
  kin_of (many p) none h n l r = of_nil
  kin_of (many p) (more a b) h n l r = of_more (kin_of p a h.0 n.0 l.0 r.0) (kin_of (many p) b h.1 n.1 l.1 r.1)
  kin_of _ _ h n l r = absurd h

module _ (limit : ℕ) (first second : List ℕ) (names wider labels larger : List (List ℕ)) (keep_name : (text : List ℕ) (n : ℕ) → place_of names text ≡ Some n → place_of wider text ≡ Some n) (keep_label : (text : List ℕ) (n : ℕ) → place_of labels text ≡ Some n → place_of larger text ≡ Some n) where
  by_reading : (tree : Derivation) → IsTree productions (productions Program) tree → HaveItems limit first labels (yield tree) → Occurs first second names labels (yield tree) start (yield tree) → Reads productions look_ahead (the Program) (yield tree) (read (node tree) []) → Kin first second names wider labels larger (the Program) (node tree)
  by_reading tree h tables e (entered r) =
      of_node
      (kin_of first second names wider labels larger (yield tree) keep_name keep_label (productions Program) tree h
      (names_throughout first second names labels wider (yield tree) keep_name tree r e)
      (texts_throughout first second names labels larger (yield tree) keep_label tree r e)
      (ranges_throughout limit first second names wider labels larger (yield tree) keep_label tables tree r e)) tt

  -- the derivation of a program
  pub program_kin : (tree : Derivation) → IsTree productions (the Program) tree → HaveItems limit first labels (yield tree) → Occurs first second names labels (yield tree) start (yield tree) → Kin first second names wider labels larger (the Program) tree
  program_kin (node tree) h tables e = by_reading tree h tables e (gams_complete Program (node tree) h)
  program_kin _ h tables e = absurd h
