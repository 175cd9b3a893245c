-- The program of a joint source begins with the names, the labels and the statements of the saved
-- one.
use Rattle.std.proofs.Common.{◌≡◌, ℕ, List, [], ◌∷◌, ◌++◌, Some, refl, sym, ap, ◌∙◌, subst, append_assoc, append-nil}
use Rattle.gms_labels.specs.Labels.{is_same, place_of}
use Rattle.gms_labels.proofs.Places.{position-push_kept}
use Rattle.gq_number.specs.Number.{Number}
use Rattle.gms_ast.specs.StatementTrees.{Statements, no_statement, statement, followed_by}
use Rattle.gms_table.specs.WordLabels.{IsPrefix}
use Rattle.gms_grammar.specs.declared.terminal.Terminal.TheVariants.{Semicolon, End}
use Rattle.gms_grammar.specs.Grammar.{the, ◌·◌, many, leaf, pair, none, more, node, yield, IsTree}
use Rattle.gms_grammar.specs.GamsGrammar.{Program, Segment, productions, token}
use Rattle.gms_parse.specs.Outcomes.{ProgramView, HasProgram}
use Rattle.gms_parse.specs.Programs.{segment, segments, statements_of}
use Rattle.gms_parse.specs.InnerReadings.{Derivation}
use Rattle.gms_parse.specs.ReadStates.{start, reader_after_all}
use Rattle.gms_joint_source.specs.JointSources.{joint_source, attach, BeginsWith}
use Rattle.gms_joint_source.proofs.JointDerivations.{have_prefix, begins_with}
use Rattle.gms_joint_source.specs.Programs.{IsProgramPrefix}
use Rattle.gms_joint_source.proofs.StatePrefixes.{PrefixSeen, prefix_seen, prefix_names, prefix_labels}
use Rattle.gms_joint_source.proofs.Kin.{Kin}
use Rattle.gms_joint_source.proofs.Kinships.{program_kin}
use Rattle.gms_joint_source.proofs.KinPrograms.{statements_same}

-- what is found in a list is found at the same place in a longer one
pub place_on : (texts others : List (List ℕ)) (text : List ℕ) (n : ℕ) → place_of texts text ≡ Some n → place_of (texts ++ others) text ≡ Some n
place_on texts [] text n h = ap (λ (ts : List (List ℕ)). place_of ts text) (append-nil texts) ∙ h
place_on texts (x ∷ others) text n h =
    ap (λ (ts : List (List ℕ)). place_of ts text) (sym (append_assoc texts (x ∷ []) others)) ∙ place_on (texts ++ x ∷ []) others text n (position-push_kept (is_same text) texts x n h)

place_kept : (texts longer : List (List ℕ)) → IsPrefix texts longer → (text : List ℕ) (n : ℕ) → place_of texts text ≡ Some n → place_of longer text ≡ Some n
place_kept texts longer g text n h = ap (λ (ts : List (List ℕ)). place_of ts text) g.1 ∙ place_on texts g.0 text n h

-- ---- statements

followed_all : (a b c : Statements Number) → followed_by (followed_by a b) c ≡ followed_by a (followed_by b c)
followed_all no_statement b c = refl
followed_all (statement at act a) b c = ap (λ (s : Statements Number). statement at act s) (followed_all a b c)

module _ (source : List ℕ) (names labels : List (List ℕ)) where
  -- semicolons, each with the part after it, and more of them
  pub attached : (others tree : Derivation) → IsTree productions (many (token Semicolon · the Segment)) others → segments source names labels (attach others tree) ≡ followed_by (segments source names labels others) (segments source names labels tree)
  attached none tree h = refl
  attached (more (pair semicolon one) others) tree h =
      ap (λ (s : Statements Number). followed_by (segment source names labels one) s) (attached others tree h.1)
      ∙ sym (followed_all (segment source names labels one) (segments source names labels others) (segments source names labels tree))
  attached (more _ others) tree h = absurd h.0
  attached _ tree h = absurd h

  -- a program whose derivation begins with that of another begins with its statements
  begun : (whole first : Derivation) → BeginsWith whole first → IsTree productions (the Program) first → (others : Statements Number) × (statements_of source names labels whole ≡ followed_by (statements_of source names labels first) others)
  begun whole first b h =
      let tree : Derivation = more (pair (leaf b.semicolon) b.next) b.last in
      let is_tree : IsTree productions (the Program) (node (pair b.segment b.others)) = subst (λ (t : Derivation). IsTree productions (the Program) t) b.first_is h in (
        segments source names labels tree,
        ap (statements_of source names labels) b.whole_is
            ∙ ap (λ (s : Statements Number). followed_by (segment source names labels b.segment) s) (attached b.others tree is_tree.1)
            ∙ sym (followed_all (segment source names labels b.segment) (segments source names labels b.others) (segments source names labels tree))
            ∙ ap (λ (t : Derivation). followed_by (statements_of source names labels t) (segments source names labels tree)) (sym b.first_is),
      )

-- ---- programs

module _ (limit : ℕ) (saved file : List ℕ) (first whole : ProgramView) (p : HasProgram limit saved first) (q : HasProgram limit (joint_source saved file) whole) where
  abbrev pub Joint : List ℕ
  Joint = joint_source saved file

  prefix : PrefixSeen saved file (yield p.is.tree) (yield q.is.tree)
  prefix =
      prefix_seen saved file p.tokens q.tokens (yield p.is.tree) (yield q.is.tree) p.is.end q.is.end p.are_tokens (have_prefix saved file p.tokens q.tokens p.are_tokens q.are_tokens) p.is.tokens_are q.is.tokens_are

  pub names_go_on : IsPrefix first.names whole.names
  names_go_on = subst (λ (ns : List (List ℕ)). IsPrefix ns whole.names) (sym p.is.names_are) (subst (λ (ns : List (List ℕ)). IsPrefix (reader_after_all saved start (yield p.is.tree) End).names ns) (sym q.is.names_are) (prefix_names saved file (yield p.is.tree) (yield q.is.tree) prefix))

  pub labels_go_on : IsPrefix first.labels whole.labels
  labels_go_on = subst (λ (ls : List (List ℕ)). IsPrefix ls whole.labels) (sym p.is.labels_are) (subst (λ (ls : List (List ℕ)). IsPrefix (reader_after_all saved start (yield p.is.tree) End).labels ls) (sym q.is.labels_are) (prefix_labels saved file (yield p.is.tree) (yield q.is.tree) prefix))

  -- the derivation of the saved program, in both
  pub kin : Kin saved Joint first.names whole.names first.labels whole.labels (the Program) p.is.tree
  kin =
      program_kin limit saved Joint first.names whole.names first.labels whole.labels (place_kept first.names whole.names names_go_on) (place_kept first.labels whole.labels labels_go_on) p.is.tree p.is.is_tree p.is.tables
      (record { names_are = p.is.names_are; labels_are = p.is.labels_are; parts = refl; alike = prefix.alike })

  begins : BeginsWith q.is.tree p.is.tree
  begins =
      begins_with saved file p.tokens q.tokens p.are_tokens q.are_tokens p.is.tree (record { end = p.is.end; is_tree = p.is.is_tree; yields = p.is.tokens_are }) q.is.tree
      (record { end = q.is.end; is_tree = q.is.is_tree; yields = q.is.tokens_are })

  statements_go_on : (others : Statements Number) × (whole.statements ≡ followed_by first.statements others)
  statements_go_on =
      let on = begun Joint whole.names whole.labels q.is.tree p.is.tree begins p.is.is_tree in
      (on.0, q.is.statements_are ∙ on.1 ∙ ap (λ (s : Statements Number). followed_by s on.0) (sym (p.is.statements_are ∙ statements_same saved Joint first.names whole.names first.labels whole.labels kin)))

  pub is_prefix : IsProgramPrefix first whole
  is_prefix = record { names = names_go_on; labels = labels_go_on; statements = statements_go_on }
