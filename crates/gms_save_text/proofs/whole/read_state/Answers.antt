use Rattle.std.proofs.Common.{◌≡◌, ◌∙◌, ◌++◌, List, ℕ, [], length, Bool, false, ◌==◌, codes, sym, ap, subst, arith}
use Rattle.std.proofs.lemmas.Bool.Decides.{nat_tests}
use Rattle.gms_store.specs.declared.settings.Settings.{Settings}
use Rattle.gms_store.specs.State.{State, Symbol}
use Rattle.gms_store.specs.Declarations.{declared_state}
use Rattle.gms_save_text.specs.SavedState.{parts_from}
use Rattle.gms_save_text.specs.Validity.{declared_symbols}
use Rattle.gms_save_text.specs.Reading.{AreReadable, unplaced}
use Rattle.gms_save_text.proofs.Declared.{declared-blank, declared-count}
use Rattle.gms_save_text.proofs.Finding.{handed_on}
use Rattle.gms_save_text.proofs.Readable.{saved_readable, solver_none}
use Rattle.gms_save_text.proofs.whole.read_state.Goals as goal

pub returns-in_err-settings-clause-state : goal.returns-in_err-settings-clause-state
returns-in_err-settings-clause-state g c labels loaded assigned state solver few saved is =
    let names = c.args.program.now.names in
    handed_on _ _ _ _ c.from_residual-in_err-settings.ensures.1 (c.in_err-settings.ensures state.settings solver (parts_from state 0 names ++ codes "end\n") saved.ranges (solver_none solver saved.named) is)

pub returns-in_err-end-clause-state : goal.returns-in_err-end-clause-state
returns-in_err-end-clause-state g c labels loaded assigned state solver few saved is =
    let names = c.args.program.now.names in
    let declared = declared_state c.args.program.now in
    let settings = c.in_ok-settings.ensures state.settings solver (parts_from state 0 names ++ codes "end\n") saved.ranges (solver_none solver saved.named) is in
    let symbols : c.put_settings.new.self.symbols ≡ declared.symbols = ap (λ (s : State). s.symbols) c.put_settings.ensures ∙ ap (λ (s : State). s.symbols) c.in_ok-store.ensures in
    let readable = subst (λ (xs : List Symbol). AreReadable g.F.ExactField.limit xs state.symbols) (sym symbols) (saved_readable g.F.ExactField.limit labels declared loaded assigned state solver few (declared-blank c.args.program.now) saved) in
    let count : length names ≡ length c.put_settings.new.self.symbols = sym (ap length symbols ∙ declared-count c.args.program.now) in
    handed_on _ _ _ _ c.from_residual-in_err-end.ensures.1 (c.in_err-end.ensures.parts state (codes "end\n") count readable settings.2)

pub returns-in_err-rest-clause-state : goal.returns-in_err-rest-clause-state
returns-in_err-rest-clause-state g c labels loaded assigned state solver few saved is =
    let names = c.args.program.now.names in
    let declared = declared_state c.args.program.now in
    let settings = c.in_ok-settings.ensures state.settings solver (parts_from state 0 names ++ codes "end\n") saved.ranges (solver_none solver saved.named) is in
    let symbols : c.put_settings.new.self.symbols ≡ declared.symbols = ap (λ (s : State). s.symbols) c.put_settings.ensures ∙ ap (λ (s : State). s.symbols) c.in_ok-store.ensures in
    let readable = subst (λ (xs : List Symbol). AreReadable g.F.ExactField.limit xs state.symbols) (sym symbols) (saved_readable g.F.ExactField.limit labels declared loaded assigned state solver few (declared-blank c.args.program.now) saved) in
    let count : length names ≡ length c.put_settings.new.self.symbols = sym (ap length symbols ∙ declared-count c.args.program.now) in
    let end = c.in_ok-end.ensures.parts state (codes "end\n") count readable settings.2 in
    handed_on _ _ _ _ c.from_residual-in_err-rest.ensures.1 (c.in_err-rest.ensures [] end.0)

pub returns-then-is_empty-clause-state : goal.returns-then-is_empty-clause-state
returns-then-is_empty-clause-state g c labels loaded assigned state solver few saved is =
    let names = c.args.program.now.names in
    let declared = declared_state c.args.program.now in
    let settings = c.in_ok-settings.ensures state.settings solver (parts_from state 0 names ++ codes "end\n") saved.ranges (solver_none solver saved.named) is in
    let symbols : c.put_settings.new.self.symbols ≡ declared.symbols = ap (λ (s : State). s.symbols) c.put_settings.ensures ∙ ap (λ (s : State). s.symbols) c.in_ok-store.ensures in
    let readable = subst (λ (xs : List Symbol). AreReadable g.F.ExactField.limit xs state.symbols) (sym symbols) (saved_readable g.F.ExactField.limit labels declared loaded assigned state solver few (declared-blank c.args.program.now) saved) in
    let count : length names ≡ length c.put_settings.new.self.symbols = sym (ap length symbols ∙ declared-count c.args.program.now) in
    let end = c.in_ok-end.ensures.parts state (codes "end\n") count readable settings.2 in
    let placed : c.put_settings.new.self.settings ≡ unplaced state.settings = ap (λ (s : State). s.settings) c.put_settings.ensures ∙ settings.0 in
    (end.1 ∙ ap (λ (s : Settings). record { symbols = state.symbols; settings = s }) placed, settings.1)

pub returns-then-is_empty-clause-declared : goal.returns-then-is_empty-clause-declared
returns-then-is_empty-clause-declared g c = c.in_ok-end.ensures.declared ∙ ap declared_symbols c.put_settings.ensures ∙ ap declared_symbols c.in_ok-store.ensures

pub returns-clause-state : goal.returns-clause-state
returns-clause-state g c labels loaded assigned state solver few saved is =
    let names = c.args.program.now.names in
    let declared = declared_state c.args.program.now in
    let settings = c.in_ok-settings.ensures state.settings solver (parts_from state 0 names ++ codes "end\n") saved.ranges (solver_none solver saved.named) is in
    let symbols : c.put_settings.new.self.symbols ≡ declared.symbols = ap (λ (s : State). s.symbols) c.put_settings.ensures ∙ ap (λ (s : State). s.symbols) c.in_ok-store.ensures in
    let readable = subst (λ (xs : List Symbol). AreReadable g.F.ExactField.limit xs state.symbols) (sym symbols) (saved_readable g.F.ExactField.limit labels declared loaded assigned state solver few (declared-blank c.args.program.now) saved) in
    let count : length names ≡ length c.put_settings.new.self.symbols = sym (ap length symbols ∙ declared-count c.args.program.now) in
    let end = c.in_ok-end.ensures.parts state (codes "end\n") count readable settings.2 in
    let none = ap length (c.in_ok-rest.ensures [] end.0) in
    absurd (is_some c.is_empty.result (length c.in_ok-rest.rest.now) none c.is_empty.ensures c.if-is_empty.false)
  where
    is_some : (r : Bool) (n : ℕ) → n ≡ 0 → r ≡ (n == 0) → r ≡ false → ⊥
    is_some r n none is off = absurd (grind (arith, nat_tests))
