-- The names of the solvers are those that are examined.
use Rattle.std.proofs.Common.{◌≡◌, ◌<◌, ◌^◌, ◌∙◌, length, map, List, ℕ, ap, subst, sym}
use Rattle.std.specs.Prelude.{string_bytes}
use Rattle.std.proofs.lemmas.List.{length-map}
use Rattle.gms_save.specs.Saves.{GivesBack, Restores}
use Rattle.gms_run.proofs.Restorable.{wanting, wanting_back}
use Rattle.gms_run.proofs.restart.restored.Goals as goal

pub restore-requires : goal.restore-requires
restore-requires g c =
    let names : map string_bytes c.deref.result.now ≡ map (λ b. (goal.LpSolver-dyn g (b.vtable, b.value)).name b.value) c.args.solvers.now = ap (map string_bytes) c.deref.ensures.value ∙ c.in_ok-names.ensures.texts in
    subst (λ n. n < 2 ^ 32) (sym (length-map c.args.solvers.now (λ b. (goal.LpSolver-dyn g (b.vtable, b.value)).name b.value)) ∙ sym (ap length names) ∙ length-map c.deref.result.now string_bytes) c.requires

pub returns-in_err-names-clause-answer : goal.returns-in_err-names-clause-answer
returns-in_err-names-clause-answer g c = wanting c.from_residual.result (map (λ b. (goal.LpSolver-dyn g (b.vtable, b.value)).name b.value) c.args.solvers.now) c.args.save.items c.from_residual.ensures.1

pub returns-in_err-names-clause-back : goal.returns-in_err-names-clause-back
returns-in_err-names-clause-back g c = wanting_back c.from_residual.result (map (λ b. (goal.LpSolver-dyn g (b.vtable, b.value)).name b.value) c.args.solvers.now) c.args.save.items c.from_residual.ensures.1

pub returns-clause-answer : goal.returns-clause-answer
returns-clause-answer g c =
    let names : map string_bytes c.deref.result.now ≡ map (λ b. (goal.LpSolver-dyn g (b.vtable, b.value)).name b.value) c.args.solvers.now = ap (map string_bytes) c.deref.ensures.value ∙ c.in_ok-names.ensures.texts in
    subst (λ (ns : List (List ℕ)). Restores ns c.args.save.items c.restore.result) names
    (subst (λ (bytes : List ℕ). Restores (map string_bytes c.deref.result.now) bytes c.restore.result) c.as_slice.ensures.value c.restore.ensures.answer)

pub returns-clause-back : goal.returns-clause-back
returns-clause-back g c =
    let names : map string_bytes c.deref.result.now ≡ map (λ b. (goal.LpSolver-dyn g (b.vtable, b.value)).name b.value) c.args.solvers.now = ap (map string_bytes) c.deref.ensures.value ∙ c.in_ok-names.ensures.texts in
    subst (λ (ns : List (List ℕ)). GivesBack ns c.args.save.items c.restore.result) names
    (subst (λ (bytes : List ℕ). GivesBack (map string_bytes c.deref.result.now) bytes c.restore.result) c.as_slice.ensures.value c.restore.ensures.back)
