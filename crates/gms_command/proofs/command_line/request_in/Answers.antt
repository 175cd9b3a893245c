use Rattle.std.proofs.Common.{◌≡◌, ◌∙◌, Some, None, option_map, sym, ap, ap₂, rules, codes, List, Option, ℕ}
use Rattle.clap.specs.Matches.{found_of}
use Rattle.clap.specs.Walk.{first_of, rows_of}
use Rattle.clap.proofs.WalkLemmas.{first_value-rows}
use Rattle.gms_command.specs.CommandLine.{asked, asked_by, is_flag_given, origin, origin_of}
use Rattle.gms_command.proofs.command_line.request_in.Goals as goal

-- three values name a source
named : (a b c x y z : Option (List ℕ)) → a ≡ x → b ≡ y → c ≡ z → origin_of a b c ≡ origin_of x y z
named a b c x y z p q r = ap₂ (λ u v. origin_of u v c) p q ∙ ap (origin_of x y) r

pub returns-in_err-source : goal.returns-in_err-source
returns-in_err-source c =
    let rows = rows_of (found_of c.args.matches.now) in
    let file = c.get_str-file.ensures ∙ first_value-rows (found_of c.args.matches.now) (codes "file") in
    let size = c.get_str-size.ensures ∙ first_value-rows (found_of c.args.matches.now) (codes "generate") in
    let saved = c.get_str-saved.ensures ∙ first_value-rows (found_of c.args.matches.now) (codes "restart") in
    let none : c.source_of.result ≡ None = search rules in
    let gives : c.from_residual.result ≡ None = search rules in
    let found : None ≡ origin_of (first_of (codes "file") rows) (first_of (codes "generate") rows) (first_of (codes "restart") rows) = sym (ap (option_map origin) none) ∙ c.source_of.ensures ∙ named _ _ _ _ _ _ file size saved in
    ap (option_map asked_by) gives ∙ ap (option_map (asked (is_flag_given (first_of (codes "ranges") rows)) (first_of (codes "save") rows) (first_of (codes "out") rows))) found

pub returns : goal.returns
returns c =
    let rows = rows_of (found_of c.args.matches.now) in
    let file = c.get_str-file.ensures ∙ first_value-rows (found_of c.args.matches.now) (codes "file") in
    let size = c.get_str-size.ensures ∙ first_value-rows (found_of c.args.matches.now) (codes "generate") in
    let saved = c.get_str-saved.ensures ∙ first_value-rows (found_of c.args.matches.now) (codes "restart") in
    let out = c.get_str-out.ensures ∙ first_value-rows (found_of c.args.matches.now) (codes "out") in
    let save = c.get_str-save.ensures ∙ first_value-rows (found_of c.args.matches.now) (codes "save") in
    let some : c.source_of.result ≡ Some c.in_ok-source.source = search rules in
    let found : Some (origin c.in_ok-source.source) ≡ origin_of (first_of (codes "file") rows) (first_of (codes "generate") rows) (first_of (codes "restart") rows) = sym (ap (option_map origin) some) ∙ c.source_of.ensures ∙ named _ _ _ _ _ _ file size saved in
    let given : c.is_given-ranges.result ≡ is_flag_given (first_of (codes "ranges") rows) = c.is_given-ranges.ensures ∙ ap is_flag_given (c.get_str.ensures ∙ first_value-rows (found_of c.args.matches.now) (codes "ranges")) in
    rw (given, save) (ap₂ (λ o s. option_map (asked (is_flag_given (first_of (codes "ranges") rows)) (first_of (codes "save") rows) o) s) out found)
