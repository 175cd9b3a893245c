use Rattle.std.proofs.Common.{map, refl, string_bytes}
use Rattle.gms_save.specs.Saves.{solvers_chosen}
use Rattle.gms_save.proofs.Restored.{no-program, no-state, restored, unplaced, unread, wanting}
use Rattle.gms_save.proofs.restoring.restore.Goals as goal

pub saved_state-requires : goal.saved_state-requires
saved_state-requires c = (solvers_chosen c.in_ok-program.program, c.in_ok-program.ensures.no_error)

pub returns-then-bytes-gt-MOST_BYTES-clause-back : goal.returns-then-bytes-gt-MOST_BYTES-clause-back
returns-then-bytes-gt-MOST_BYTES-clause-back c = λ source program state solver save. c.if-bytes-gt-MOST_BYTES.true

pub returns-in_err-source-clause-answer : goal.returns-in_err-source-clause-answer
returns-in_err-source-clause-answer c =
    (unread _ _ _ (map string_bytes c.args.solvers.now) c.args.bytes.now c.if-bytes-gt-MOST_BYTES.false c.from_residual.ensures.1 c.in_err-source.ensures).0

pub returns-in_err-source-clause-back : goal.returns-in_err-source-clause-back
returns-in_err-source-clause-back c =
    (unread _ _ _ (map string_bytes c.args.solvers.now) c.args.bytes.now c.if-bytes-gt-MOST_BYTES.false c.from_residual.ensures.1 c.in_err-source.ensures).1

pub returns-in_err-program-clause-answer : goal.returns-in_err-program-clause-answer
returns-in_err-program-clause-answer c =
    (no-program (map string_bytes c.args.solvers.now) c.args.bytes.now c.in_ok-source.source.now c.in_ok-source.text.now c.if-bytes-gt-MOST_BYTES.false c.in_ok-source.ensures _ _ c.from_residual-in_err-program.ensures.1 c.in_err-program.ensures).0

pub returns-in_err-program-clause-back : goal.returns-in_err-program-clause-back
returns-in_err-program-clause-back c =
    (no-program (map string_bytes c.args.solvers.now) c.args.bytes.now c.in_ok-source.source.now c.in_ok-source.text.now c.if-bytes-gt-MOST_BYTES.false c.in_ok-source.ensures _ _ c.from_residual-in_err-program.ensures.1 c.in_err-program.ensures).1

pub returns-in_err-store-clause-answer : goal.returns-in_err-store-clause-answer
returns-in_err-store-clause-answer c =
    (no-state (map string_bytes c.args.solvers.now) c.args.bytes.now c.in_ok-source.source.now c.in_ok-source.text.now c.if-bytes-gt-MOST_BYTES.false c.in_ok-source.ensures c.in_ok-program.program c.in_ok-program.ensures _ _ c.from_residual-in_err-store.ensures.1 c.in_err-store.ensures).0

pub returns-in_err-store-clause-back : goal.returns-in_err-store-clause-back
returns-in_err-store-clause-back c =
    (no-state (map string_bytes c.args.solvers.now) c.args.bytes.now c.in_ok-source.source.now c.in_ok-source.text.now c.if-bytes-gt-MOST_BYTES.false c.in_ok-source.ensures c.in_ok-program.program c.in_ok-program.ensures _ _ c.from_residual-in_err-store.ensures.1 c.in_err-store.ensures).1

pub returns-in_err-copy-clause-answer : goal.returns-in_err-copy-clause-answer
returns-in_err-copy-clause-answer c =
    (wanting c.from_residual-in_err-copy.result (map string_bytes c.args.solvers.now) c.args.bytes.now c.from_residual-in_err-copy.ensures.1).0

pub returns-in_err-copy-clause-back : goal.returns-in_err-copy-clause-back
returns-in_err-copy-clause-back c =
    (wanting c.from_residual-in_err-copy.result (map string_bytes c.args.solvers.now) c.args.bytes.now c.from_residual-in_err-copy.ensures.1).1

pub returns-in_err-place-clause-answer : goal.returns-in_err-place-clause-answer
returns-in_err-place-clause-answer c =
    (unplaced (map string_bytes c.args.solvers.now) c.args.bytes.now c.in_ok-source.source.now c.in_ok-source.text.now c.if-bytes-gt-MOST_BYTES.false c.in_ok-source.ensures c.in_ok-program.program c.in_ok-program.ensures c.in_ok-store.store c.in_ok-store.solver.now c.in_ok-store.ensures _ _ c.from_residual-in_err-place.ensures.1 c.in_err-place.ensures).0

pub returns-in_err-place-clause-back : goal.returns-in_err-place-clause-back
returns-in_err-place-clause-back c =
    (unplaced (map string_bytes c.args.solvers.now) c.args.bytes.now c.in_ok-source.source.now c.in_ok-source.text.now c.if-bytes-gt-MOST_BYTES.false c.in_ok-source.ensures c.in_ok-program.program c.in_ok-program.ensures c.in_ok-store.store c.in_ok-store.solver.now c.in_ok-store.ensures _ _ c.from_residual-in_err-place.ensures.1 c.in_err-place.ensures).1

pub returns-clause-answer : goal.returns-clause-answer
returns-clause-answer c =
    (restored (map string_bytes c.args.solvers.now) c.args.bytes.now c.in_ok-source.source.now c.in_ok-source.text.now c.if-bytes-gt-MOST_BYTES.false c.in_ok-source.ensures c.in_ok-program.program c.in_ok-program.ensures c.in_ok-store.store c.in_ok-store.solver.now c.in_ok-store.ensures c.in_ok-place.ensures.0 _ c.in_ok-place.place refl c.in_ok-copy.ensures.items c.put_solver.ensures c.in_ok-place.ensures.1).0

pub returns-clause-back : goal.returns-clause-back
returns-clause-back c =
    (restored (map string_bytes c.args.solvers.now) c.args.bytes.now c.in_ok-source.source.now c.in_ok-source.text.now c.if-bytes-gt-MOST_BYTES.false c.in_ok-source.ensures c.in_ok-program.program c.in_ok-program.ensures c.in_ok-store.store c.in_ok-store.solver.now c.in_ok-store.ensures c.in_ok-place.ensures.0 _ c.in_ok-place.place refl c.in_ok-copy.ensures.items c.put_solver.ensures c.in_ok-place.ensures.1).1
