-- A check of a statement: its parts in sequence, under the sets that they control.
use Rattle.std.proofs.Common.{◌≡◌, ◌<◌, ◌+◌, ℕ, Bool, true, List, [], ◌++◌, length, take, get_or, refl, sym, ap, ◌∙◌, append_assoc}
use Rattle.std.specs.Prelude.{flat_map}
use Rattle.std.proofs.Math.Seq.{take-append_seam}
use Rattle.gq_number.specs.Number.{Number}
use Rattle.gms_labels.specs.declared.place.Place.{Place}
use Rattle.gms_ast.specs.declared.program.Act.{Act}
use Rattle.gms_ast.specs.declared.program.Act.TheVariants.{Declare, Model}
use Rattle.gms_ast.specs.declared.program.Stmt.{Stmt}
use Rattle.gms_scope.specs.Facts.{Facts}
use Rattle.gms_store.specs.State.{State}
use Rattle.gms_check.specs.InnerChanges.{facts_after}
use Rattle.gms_check.specs.InnerChecking.{Checking, noted, with_controlled, with_sets}
use Rattle.gms_check.specs.CompileErrors.{act_errors, errors_of}
use Rattle.gms_check.specs.Past.{Known}
use Rattle.gms_check.specs.InnerStatements.{act_uses, is_action}
use Rattle.gms_check.specs.StatementUses.{statement_uses}
use Rattle.gms_check.specs.Uses.{Uses}
use Rattle.gms_check.proofs.ActUses.{uses-act}
use Rattle.gms_check.proofs.Noting.{noted-more, noted-then}

module _ {F : Type 0} (value : F → Number) where
  -- a part, then sets that are controlled, then parts under them
  pub parts-under : (c s t u v : Checking) (head : Uses F) (sets : List ℕ) (shifts conditions : List ℕ → Uses F) → s ≡ noted value c head → t ≡ with_controlled s sets → u ≡ noted value t (shifts t.controlled) → v ≡ noted value u (conditions u.controlled) → v ≡ with_controlled (noted value c (head ++ (shifts (c.controlled ++ sets) ++ conditions (c.controlled ++ sets)))) sets
  parts-under c s t u v head sets shifts conditions e f g h =
      let d = with_controlled c sets in
      let first : t ≡ noted value d head = f ∙ ap (λ (s : Checking). with_controlled s sets) e in
      let there : t.controlled ≡ c.controlled ++ sets = ap (λ (t : Checking). t.controlled) first in
      let second : u ≡ noted value t (shifts (c.controlled ++ sets)) = g ∙ ap (λ (ns : List ℕ). noted value t (shifts ns)) there in
      let here : u.controlled ≡ c.controlled ++ sets = ap (λ (u : Checking). u.controlled) second ∙ there in
      let third : v ≡ noted value u (conditions (c.controlled ++ sets)) = h ∙ ap (λ (ns : List ℕ). noted value u (conditions ns)) here in
      noted-then value d u v (head ++ shifts (c.controlled ++ sets)) (conditions (c.controlled ++ sets)) (noted-then value d t u head (shifts (c.controlled ++ sets)) first second) third ∙ ap (noted value d) (append_assoc head (shifts (c.controlled ++ sets)) (conditions (c.controlled ++ sets)))

  -- parts under sets, and one part more
  pub under-more : (c s t : Checking) (parts : Uses F) (sets : List ℕ) (more : List ℕ → Uses F) → s ≡ with_controlled (noted value c parts) sets → t ≡ noted value s (more s.controlled) → t ≡ with_controlled (noted value c (parts ++ more (c.controlled ++ sets))) sets
  under-more c s t parts sets more e f =
      let there : s.controlled ≡ c.controlled ++ sets = ap (λ (s : Checking). s.controlled) e in
      noted-then value (with_controlled c sets) s t parts (more (c.controlled ++ sets)) e (f ∙ ap (λ (ns : List ℕ). noted value s (more ns)) there)

  -- the sets are no longer controlled
  pub under-done : (c s t : Checking) (parts : Uses F) (sets : List ℕ) → s ≡ with_controlled (noted value c parts) sets → t ≡ with_sets s (take (length c.controlled) s.controlled) → t ≡ noted value c parts
  under-done c s t parts sets e f =
      f ∙ ap (λ (s : Checking). with_sets s (take (length c.controlled) s.controlled)) e ∙ ap (with_sets (noted value c parts)) (take-append_seam c.controlled sets)

  -- the two sides of a definition; after them the sets are no longer controlled
  pub sides-done : (c s t u : Checking) (n : ℕ) (left right : List ℕ → Uses F) → s ≡ noted value c (left c.controlled) → t ≡ noted value s (right s.controlled) → u ≡ with_sets t (take n t.controlled) → u ≡ noted value (with_sets c (take n c.controlled)) (left c.controlled ++ right c.controlled)
  sides-done c s t u n left right e f g =
      let there : s.controlled ≡ c.controlled = ap (λ (s : Checking). s.controlled) e in
      g ∙ ap (λ (t : Checking). with_sets t (take n t.controlled)) (noted-then value c s t (left c.controlled) (right c.controlled) e (f ∙ ap (λ (ns : List ℕ). noted value s (right ns)) there))

  -- a left side, followed by the two sides
  pub definition-done : (c s t : Checking) (parts : Uses F) (sets : List ℕ) (sides : List ℕ → Uses F) → s ≡ with_controlled (noted value c parts) sets → t ≡ noted value (with_sets s (take (length c.controlled) s.controlled)) (sides s.controlled) → t ≡ noted value c (parts ++ sides (c.controlled ++ sets))
  definition-done c s t parts sets sides e f =
      let there : s.controlled ≡ c.controlled ++ sets = ap (λ (s : Checking). s.controlled) e in
      let back : with_sets s (take (length c.controlled) s.controlled) ≡ noted value c parts = under-done c s (with_sets s (take (length c.controlled) s.controlled)) parts sets e refl in
      noted-then value c (with_sets s (take (length c.controlled) s.controlled)) t parts (sides (c.controlled ++ sets)) back (f ∙ ap (λ (ns : List ℕ). noted value (with_sets s (take (length c.controlled) s.controlled)) (sides ns)) there)

  -- one statement of a loop more, under the loop's sets
  pub body-more : (body : List (Stmt F)) (i : ℕ) (statement : Stmt F) (c s t : Checking) (parts : Uses F) (sets : List ℕ) → i < length body → statement ≡ get_or body i statement → s ≡ with_controlled (noted value c (parts ++ flat_map (λ (statement : Stmt F). statement_uses statement c.facts.state (c.controlled ++ sets)) (take i body))) sets → t ≡ noted value s (act_uses statement.act s.facts.state statement.at s.controlled) → t ≡ with_controlled (noted value c (parts ++ flat_map (λ (statement : Stmt F). statement_uses statement c.facts.state (c.controlled ++ sets)) (take (i + 1) body))) sets
  body-more body i statement c s t parts sets l is e step =
      let uses = λ (statement : Stmt F). statement_uses statement c.facts.state (c.controlled ++ sets) in
      let d = with_controlled (noted value c parts) sets in
      let state : s.facts.state ≡ c.facts.state = ap (λ (s : Checking). s.facts.state) e in
      let controlled : s.controlled ≡ c.controlled ++ sets = ap (λ (s : Checking). s.controlled) e in
      let now : s ≡ noted value d (flat_map uses (take i body)) = e ∙ sym (noted-then value (with_controlled c sets) d (noted value d (flat_map uses (take i body))) parts (flat_map uses (take i body)) refl refl) in
      let one : t ≡ noted value s (uses statement) = step ∙ ap (λ (state : State). noted value s (act_uses statement.act state statement.at s.controlled)) state ∙ ap (λ (ns : List ℕ). noted value s (act_uses statement.act c.facts.state statement.at ns)) controlled ∙ ap (noted value s) (sym (uses-act statement c.facts.state (c.controlled ++ sets))) in
      noted-then value (with_controlled c sets) d t parts (flat_map uses (take (i + 1) body)) refl (noted-more value uses body i statement d s t l is now one)

  -- an act as its parts
  pub acted : (c t : Checking) (act form : Act F) (at : Place) (parts : Uses F) → act ≡ form → act_uses form c.facts.state at c.controlled ≡ parts → t ≡ noted value c parts → t ≡ noted value c (act_uses act c.facts.state at c.controlled)
  acted c t act form at parts is same e =
      e ∙ ap (noted value c) (sym (ap (λ (a : Act F). act_uses a c.facts.state at c.controlled) is ∙ same))

  -- an act that is no declaration of names or models adds the same with an error or without
  pub after-action : (facts : Facts) (act : Act F) (sound : Bool) → is_action act ≡ true → facts_after value facts act true ≡ facts_after value facts act sound
  after-action facts (Declare kind items) sound e = absurd cc
  after-action facts (Model models) sound e = absurd cc
  after-action facts act sound e = refl

module _ {F : Type 0} where
  pub action-errors : (known : Known F) (statement : Stmt F) (act : Act F) → is_action act ≡ true → act_errors known statement act ≡ errors_of known (statement_uses statement known.state [])
  action-errors known statement (Declare kind items) e = absurd cc
  action-errors known statement (Model models) e = absurd cc
  action-errors known statement act e = refl

  -- what is neither of both is an action
  pub is-action : (act : Act F) → ((kind : _) (items : _) → act ≡ Declare kind items → ⊥) → ((models : _) → act ≡ Model models → ⊥) → is_action act ≡ true
  is-action (Declare kind items) d m = absurd (d kind items refl)
  is-action (Model models) d m = absurd (m models refl)
  is-action act d m = refl
