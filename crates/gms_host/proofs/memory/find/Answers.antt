use Rattle.std.proofs.Common.{◌≡◌, ◌∙◌, true, false, string_bytes}
use Rattle.std.specs.Str.{bytes_eq}
use Rattle.gms_host.proofs.FirstFile.{get-files_of, first_here, first_later}
use Rattle.gms_host.proofs.memory.find.Goals as goal

pub loop-known-init : goal.loop-known-init
loop-known-init c = get-files_of c.args.files.now c.args.name.now

pub returns-then-eq : goal.returns-then-eq
returns-then-eq c =
    let same : bytes_eq (string_bytes c.loop-known-item.result.0) c.args.name.now ≡ true = cc in
    let first = c.loop-known.invariant ∙ first_here c.args.files.now c.loop-known.known-index c.loop-known-item.result c.args.name.now c.loop-known-item.is c.loop-known-test.true same in
    cc first

pub loop-known-preserved : goal.loop-known-preserved
loop-known-preserved c =
    let other : bytes_eq (string_bytes c.loop-known-item.result.0) c.args.name.now ≡ false = cc in
    c.loop-known.invariant ∙ first_later c.args.files.now c.loop-known.known-index c.loop-known-item.result c.args.name.now c.loop-known-item.is c.loop-known-test.true other
