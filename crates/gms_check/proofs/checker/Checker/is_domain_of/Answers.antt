use Rattle.std.proofs.Common.{◌≡◌, ◌<◌, ◌≤◌, ◌+◌, ◌∙◌, ◌&&◌, ap, sym, length, drop, get_or, None, List, [], Option, arith}
use Rattle.std.specs.Option.{option_flatten}
use Rattle.std.proofs.lemmas.List.{drop_all, length-map}
use Rattle.std.proofs.lemmas.Option.{slice_get-get_or}
use Rattle.gms_ast.specs.declared.word.Named.{Named}
use Rattle.gms_store.specs.Declarations.{names_of}
use Rattle.gms_scope.specs.Names.{positions}
use Rattle.gms_check.specs.Names.{same_domain, same_position}
use Rattle.gms_check.proofs.SameDomains.{same-at, set_in, unequal}
use Rattle.gms_check.proofs.checker.Checker.is_domain_of.Goals as goal

pub returns-then-position_count-domain : goal.returns-then-position_count-domain
returns-then-position_count-domain g c =
    let domain = positions c.args.self.now.known.state c.args.name in
    let counted = length-map c.args.domain.now set_in in
    sym (unequal c.args.self.now.known.state (names_of c.args.domain.now) domain (λ e. c.if-position_count-domain.true (c.position_count.ensures ∙ sym e ∙ counted)))

pub loop-i-preserved : goal.loop-i-preserved
loop-i-preserved g c =
    let state = c.args.self.now.known.state in
    let domain = positions state c.args.name in
    let written = c.args.domain.now in
    let i = c.loop-i.i in
    let within : c.loop-i.i < length domain = omega (arith, c.position_count.ensures) in
    let position : c.flatten-position.result ≡ get_or domain i None = c.flatten-position.ensures ∙ ap option_flatten (c.position.ensures ∙ slice_get-get_or domain i None within) in
    ap (λ b. b && same_domain state (names_of (drop (i + 1) written)) (drop (i + 1) domain)) (c.if-not-is_same_position.ensures ∙ ap (same_position state (set_in (get_or written i None))) position) ∙ sym (same-at state written domain i c.loop-i-test.true within) ∙ c.loop-i.invariant

pub returns-then-not-is_same_position : goal.returns-then-not-is_same_position
returns-then-not-is_same_position g c =
    let state = c.args.self.now.known.state in
    let domain = positions state c.args.name in
    let written = c.args.domain.now in
    let i = c.loop-i.i in
    let within : c.loop-i.i < length domain = omega (arith, c.position_count.ensures) in
    let position : c.flatten-position.result ≡ get_or domain i None = c.flatten-position.ensures ∙ ap option_flatten (c.position.ensures ∙ slice_get-get_or domain i None within) in
    ap (λ b. b && same_domain state (names_of (drop (i + 1) written)) (drop (i + 1) domain)) (c.if-not-is_same_position.ensures ∙ ap (same_position state (set_in (get_or written i None))) position) ∙ sym (same-at state written domain i c.loop-i-test.true within) ∙ c.loop-i.invariant

pub returns : goal.returns
returns g c =
    let state = c.args.self.now.known.state in
    let domain = positions state c.args.name in
    let written = c.args.domain.now in
    let i = c.loop-i.i in
    let past : length domain ≤ c.loop-i.i = omega (arith, c.position_count.ensures) in
    sym (ap (λ (ps : List (Option Named)). same_domain state (names_of ps) (drop i domain)) (drop_all i written c.loop-i-test.false) ∙ ap (same_domain state (names_of [])) (drop_all i domain past)) ∙ c.loop-i.invariant
