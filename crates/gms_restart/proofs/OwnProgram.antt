-- The labels that the program of a source writes, among indices and as data, are in its table. If
-- the table is empty the program writes none: it means the same by each table, so also by one in
-- which each text that it can write comes after the first; so no label that it writes has a number.
use Rattle.std.proofs.Common.{◌≡◌, ℕ, ◌<◌, nat_lt, Bool, true, false, ◌==◌, List, [], ◌∷◌, length, Option, Some, None, refl, sym, ap, ◌∙◌, subst, arith}
use Rattle.std.proofs.lemmas.Bool.{eqb-true}
use Rattle.gq_number.specs.Number.{Number}
use Rattle.gq_frac.specs.declared.frac.Frac.{Frac}
use Rattle.gq_frac.specs.Frac.{frac_value}
use Rattle.gms_labels.specs.Labels.{place_of}
use Rattle.gms_labels.proofs.Places.{place_of-reads}
use Rattle.gms_ast.specs.declared.declaration.Decl.{Decl}
use Rattle.gms_ast.specs.declared.declaration.Item.{Item}
use Rattle.gms_ast.specs.declared.program.Program.{Program}
use Rattle.gms_ast.specs.StatementTrees.{Statements, no_statement, statement}
use Rattle.gms_grammar.specs.Grammar.{yield}
use Rattle.gms_expressions.specs.ExpressionTrees.{or_0}
use Rattle.gms_parse.specs.Outcomes.{IsProgram}
use Rattle.gms_parse.specs.Programs.{statements_of}
use Rattle.gms_joint_source.proofs.Kinships.{program_kin}
use Rattle.gms_joint_source.proofs.KinPrograms.{statements_same}
use Rattle.gms_restart.proofs.ProgramNames.{alike-itself, after_longer, placed-following}
use Rattle.gms_run_laws.specs.Names.{Each}
use Rattle.gms_run_laws.proofs.FormKeys.{EachHas}
use Rattle.gms_run_laws.proofs.Padding.{test-of}
use Rattle.gms_restart.proofs.OwnData.{DeclHas, ItemHas}
use Rattle.gms_restart.proofs.OwnLabels.{Derivation, HasOwn}
use Rattle.gms_restart.proofs.OwnWritten.{AllPass, StatementsPass, act_data, act_labels, items-pass, statements-pass}
use Rattle.gms_restart.proofs.Texts.{all_texts, written-there}

-- what passes two tests passes a third
module _ (p q r : ℕ → Bool) (both : (n : ℕ) → p n ≡ true → q n ≡ true → r n ≡ true) where
  each-both : (ns : List ℕ) → Each p ns → Each q ns → Each r ns
  each-both [] one other = tt
  each-both (n ∷ ns) one other = (both n one.0 other.0, each-both ns one.1 other.1)

  parts-both : (parts : List (List ℕ)) → EachHas (Each p) parts → EachHas (Each q) parts → EachHas (Each r) parts
  parts-both [] one other = tt
  parts-both (ns ∷ parts) one other = (each-both ns one.0 other.0, parts-both parts one.1 other.1)

  items-both : (items : List (Item Number)) → EachHas (ItemHas p) items → EachHas (ItemHas q) items → EachHas (ItemHas r) items
  items-both [] one other = tt
  items-both (item ∷ items) one other = (parts-both item.parts one.0 other.0, items-both items one.1 other.1)

  data-both : (declared : List (Decl Number)) → EachHas (DeclHas p) declared → EachHas (DeclHas q) declared → EachHas (DeclHas r) declared
  data-both [] one other = tt
  data-both (item ∷ declared) one other = (items-both item.items one.0 other.0, data-both declared one.1 other.1)

  all-both : (statements : Statements Number) → AllPass p statements → AllPass q statements → AllPass r statements
  all-both no_statement one other = tt
  all-both (statement at act rest) one other =
      ((each-both (act_labels act) one.0.0 other.0.0, data-both (act_data act) one.0.1 other.0.1), all-both rest one.1 other.1)

module _ (limit : ℕ) (source : List ℕ) (program : Program Frac) (is : IsProgram limit source frac_value program) where
  -- a label of the table
  abbrev own : ℕ → Bool
  own n = nat_lt n (length program.labels)

  abbrev tree : Derivation
  tree = is.is.tree

  -- a table that has a label has the first for texts that it has not
  some-own : 0 < length program.labels → HasOwn source program.labels own
  some-own some text written = by (place_of program.labels text) refl
    where
      by : (o : Option ℕ) → place_of program.labels text ≡ o → own (or_0 o) ≡ true
      by None e = test-of 0 (length program.labels) some
      by (Some n) e = test-of n (length program.labels) (place_of-reads program.labels text n e).0

  -- no number is positive and none
  no-number : (n : ℕ) → nat_lt 0 n ≡ true → (n == 0) ≡ true → own n ≡ true
  no-number n more none = absurd (let e : false ≡ true = subst (λ (m : ℕ). nat_lt 0 m ≡ true) (eqb-true n 0 none) more in let z : ⊥ = cc in z)

  none-written : program.labels ≡ [] → AllPass own (statements_of source program.names program.labels tree)
  none-written none =
      let table = after_longer (all_texts source) in
      let keep : (text : List ℕ) (n : ℕ) → place_of program.labels text ≡ Some n → place_of table text ≡ Some n = λ text n e. absurd (let z : ◌≡◌ {A = Option ℕ} None (Some n) = sym (ap (λ (ls : List (List ℕ)). place_of ls text) none) ∙ e in cc) in
      let kin = program_kin limit source source program.names program.names program.labels table (λ text n e. e) keep tree is.is.is_tree is.is.tables (record { names_are = is.is.names_are; labels_are = is.is.labels_are; parts = refl; alike = alike-itself source (yield tree) }) in
      let same : statements_of source program.names program.labels tree ≡ statements_of source program.names table tree = statements_same source source program.names program.names program.labels table kin in
      let numbered : AllPass (λ n. nat_lt 0 n) (statements_of source program.names program.labels tree) = subst (AllPass (λ n. nat_lt 0 n)) (sym same) (statements-pass source program.names table (λ n. nat_lt 0 n) (λ text written. test-of 0 (or_0 (place_of table text)) (placed-following (all_texts source) text (written-there source text written) (place_of table text) refl)) tree) in
      let unnumbered : AllPass (λ n. n == 0) (statements_of source program.names program.labels tree) = statements-pass source program.names program.labels (λ n. n == 0) (λ text written. ap (λ (ls : List (List ℕ)). or_0 (place_of ls text) == 0) none) tree in
      all-both (λ n. nat_lt 0 n) (λ n. n == 0) own no-number (statements_of source program.names program.labels tree) numbered unnumbered

  all-own : (labels : List (List ℕ)) → program.labels ≡ labels → AllPass own (statements_of source program.names program.labels tree)
  all-own [] none = none-written none
  all-own (label ∷ labels) some =
      statements-pass source program.names program.labels own (some-own (subst (λ (ls : List (List ℕ)). 0 < length ls) (sym some) (omega arith))) tree

  pub statements-own : StatementsPass own program.statements.items
  statements-own = items-pass own program.statements.items (subst (AllPass own) (sym is.is.statements_are) (all-own program.labels refl))
