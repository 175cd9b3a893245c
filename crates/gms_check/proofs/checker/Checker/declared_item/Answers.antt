use Rattle.std.proofs.Common.{◌≡◌, ◌∙◌, ap, sym, subst, Bool, true, List, Option, None, Ok}
use Rattle.std.specs.Prelude.{is_none}
use Rattle.gms_ast.specs.declared.word.Named.{Named}
use Rattle.gms_set.specs.Expansion.{expanded}
use Rattle.gms_store.specs.Declarations.{names_of, positions_of}
use Rattle.gms_scope.specs.Facts.{Facts, facts_with_data, with_declared}
use Rattle.gms_check.specs.declared.error.CompileError.{CompileError}
use Rattle.gms_check.specs.InnerChanges.{after_item, with_given}
use Rattle.gms_check.specs.InnerChecking.{Checking, known_of, noted, seen, with_facts}
use Rattle.gms_check.specs.CompileErrors.{errors_of, is_faultless}
use Rattle.gms_check.specs.DeclarationUses.{item_uses}
use Rattle.gms_check.specs.Errors.{first_error, sooner}
use Rattle.gms_check.proofs.TrialDeclarations.{answer-none}
use Rattle.gms_check.proofs.checker.Checker.declared_item.Goals as goal
use Rattle.gms_check.proofs.checker.Checker.declared_item.Goals.{then-sound+in_ok-give, else-sound}

pub returns-clause-sound : goal.returns-clause-sound
returns-clause-sound g c =
    let value = g.F.ExactField.value in
    let s = seen c.args.self.now in
    let kind = c.args.kind in
    let item = c.args.item.now in
    let after : seen c.item.new.self ≡ noted value (record s { first = None }) (item_uses (known_of value s) kind item) = c.in_ok-given.ensures.noted ∙ ap (λ (u : Checking). noted value u (item_uses (known_of value u) kind item)) c.take_first-before.ensures.forgotten in
    answer-none c.item.new.self.first c.is_none-sound.result c.is_none-sound.ensures ∙ ap (λ (u : Checking). is_none u.first) after

pub returns-clause-noted : goal.returns-clause-noted
returns-clause-noted g c =
    let value = g.F.ExactField.value in
    let s = seen c.args.self.now in
    let kind = c.args.kind in
    let item = c.args.item.now in
    let name = item.named.name in
    let known = known_of value s in
    let uses = item_uses known kind item in
    let errors = errors_of known uses in
    let positions = positions_of kind (names_of item.domain) in
    let sound = c.is_none-sound.result in
    let forgotten : seen c.take_first-before.new.self ≡ record s { first = None } = c.take_first-before.ensures.forgotten in
    let after : seen c.item.new.self ≡ noted value (record s { first = None }) uses = c.in_ok-given.ensures.noted ∙ ap (λ (u : Checking). noted value u (item_uses (known_of value u) kind item)) forgotten in
    let told : sound ≡ is_faultless errors = answer-none c.item.new.self.first sound c.is_none-sound.ensures ∙ ap (λ (u : Checking). is_none u.first) after in
    let merged : seen c.merge.new.self ≡ noted value s uses = c.merge.ensures ∙ ap (λ (u : Checking). record u { first = sooner c.take_first-before.result u.first }) after ∙ ap (λ (before : Option CompileError). record s { first = sooner before (first_error errors) }) c.take_first-before.ensures.first in
    let declared : c.declare.new.self ≡ with_declared kind (names_of item.domain) s.facts name = c.in_ok-declare.ensures ∙ ap (λ (domain : List (Option Named)). with_declared kind (names_of domain) c.merge.new.self.known name) c.as_slice-domain.ensures ∙ ap (λ (u : Checking). with_declared kind (names_of item.domain) u.facts name) merged in
    let found : is_faultless errors ≡ true → expanded s.facts.state positions item.items ≡ Ok c.in_ok-given.given.items = subst (λ (u : Checking). is_faultless (errors_of (known_of value u) (item_uses (known_of value u) kind item)) ≡ true → expanded u.facts.state positions item.items ≡ Ok c.in_ok-given.given.items) forgotten c.in_ok-given.ensures.given in
    elim c.if-sound.branch [
      | then-sound+in_ok-give w ↦ ap seen w.self-is
          ∙ ap (with_facts (seen c.merge.new.self)) (w.in_ok-give.ensures ∙ ap (facts_with_data value c.declare.new.self name) w.deref.ensures.value ∙ ap (λ (facts : Facts). facts_with_data value facts name c.in_ok-given.given.items) declared ∙ sym (ap (with_given value (with_declared kind (names_of item.domain) s.facts name) name) (found (sym told ∙ w.if-sound.true))))
          ∙ ap (λ (u : Checking). with_facts u (after_item value kind true s.facts item)) merged
          ∙ ap (λ (b : Bool). with_facts (noted value s uses) (after_item value kind b s.facts item)) (sym w.if-sound.true)
      | else-sound w ↦ ap seen w.self-is
          ∙ ap (with_facts (seen c.merge.new.self)) declared
          ∙ ap (λ (u : Checking). with_facts u (with_declared kind (names_of item.domain) s.facts name)) merged
          ∙ ap (λ (b : Bool). with_facts (noted value s uses) (after_item value kind b s.facts item)) (sym w.if-sound.false)
    ]
