-- The solvers that a run is lent.
use Rattle.std.proofs.Common.{◌≡◌, ℕ, List, [], ◌∷◌, map, refl, ap, ◌∙◌}
use Rattle.std.specs.Prelude.{codes}
use Rattle.lp_core.specs.declared.answer.Pivot.{Pivot}
use Rattle.lp_slot.specs.declared.solver.SolverRule.{SolverRule}
use Rattle.lp_slot.specs.declared.solver.SolverRule.TheVariants.{Bland, LargestCoefficient, Turning, Legal}
use Rattle.gms_run.specs.Solving.{solver_views}
use Rattle.gms25.specs.Program.{lent}

-- What one solver tells.
pub record Tells {S : Type 0} (name : S → List ℕ) (rule : S → SolverRule) (paths : S → List (List Pivot)) (solver : S) (its_name : List ℕ) (its_rule : SolverRule) : Type 0 where
  pub named : name solver ≡ its_name
  pub ruled : rule solver ≡ its_rule
  pub unused : paths solver ≡ []

-- four solvers that tell so are those of the program
pub are_lent : {S : Type 0} (name : S → List ℕ) (rule : S → SolverRule) (paths : S → List (List Pivot)) (solvers : List S) (first second third fourth : S) → solvers ≡ first ∷ second ∷ third ∷ fourth ∷ [] →
    Tells name rule paths first (codes "bland") Bland → Tells name rule paths second (codes "dantzig") LargestCoefficient → Tells name rule paths third (codes "steepest") Turning → Tells name rule paths fourth (codes "any") Legal → solver_views name rule paths solvers ≡ lent
are_lent name rule paths solvers first second third fourth same p q r s =
    ap (solver_views name rule paths) same ∙ rw (p.named, p.ruled, p.unused, q.named, q.ruled, q.unused, r.named, r.ruled, r.unused, s.named, s.ruled, s.unused) refl

-- and their names are those
pub names_lent : {S : Type 0} (name : S → List ℕ) (solvers : List S) (first second third fourth : S) → solvers ≡ first ∷ second ∷ third ∷ fourth ∷ [] →
    name first ≡ codes "bland" → name second ≡ codes "dantzig" → name third ≡ codes "steepest" → name fourth ≡ codes "any" → map name solvers ≡ lent.names
names_lent name solvers first second third fourth same p q r s = ap (map name) same ∙ rw (p, q, r, s) refl
