-- Statements with equal views stand for each other. So a program whose first statements have the
-- views of those of a saved one continues its run.
use Rattle.std.proofs.Common.{◌≡◌, ℕ, ◌≤◌, Bool, ◌||◌, List, [], ◌∷◌, ◌++◌, length, map, None, refl, sym, ap, ap₂, ◌∙◌}
use Rattle.std.specs.List.{fold, list_any}
use Rattle.std.proofs.lemmas.List.{map-append}
use Rattle.gq_number.specs.Number.{Number}
use Rattle.gq_frac.specs.declared.frac.Frac.{Frac}
use Rattle.gq_frac.specs.Frac.{frac_value}
use Rattle.gms_ast.specs.declared.program.Program.{Program}
use Rattle.gms_ast.specs.declared.program.Stmt.{Stmt}
use Rattle.gms_ast.specs.StatementView.{statements_view}
use Rattle.gms_store.specs.Declarations.{blank_state, declared_by_all}
use Rattle.gms_store.specs.State.{State}
use Rattle.gms_check.specs.Loaded.{IsAccepted, loaded}
use Rattle.lp_core.specs.declared.answer.Answer.{Answer}
use Rattle.gms_exec.specs.Run.{World, run_from}
use Rattle.gms_run_laws.specs.Extensions.{DeclaresItsOwn, TypesNone}
use Rattle.gms_restart.proofs.Joining.{Joins, OccursFor, joins}
use Rattle.gms_run_laws.proofs.SolvesAlike.{defined_in}
use Rattle.gms_save.specs.JointErrors.{joint_errors}
use Rattle.gms_save.proofs.SeenActs.{Told, same-told, told_by}
use Rattle.gms_save.proofs.SeenPrograms.{Seen, declared-are, listed, listed-is, loaded-are, seen}
use Rattle.gms_restart.specs.StatementLines.{AreSaved, AreNew}
use Rattle.gms_restart.proofs.NewTypes.{types-none}
use Rattle.gms_restart.proofs.SeenRows.{same-definitions}
use Rattle.gms_restart.proofs.SeenRuns.{seen-runs}

-- ---- statements with equal views stand for each other

defined-told : (xs : List (Stmt Frac)) (q : ℕ) → defined_in xs q ≡ list_any (λ (v : Seen). (told_by v.1).is_defined q) (map seen xs)
defined-told [] q = refl
defined-told (x ∷ xs) q =
    ap₂ (λ (t : Told) (b : Bool). t.is_defined q || b) (sym (same-told x.act)) (defined-told xs q)

module _ (xs ys : List (Stmt Frac)) (alike : map seen xs ≡ map seen ys) where
  states-same : (state : State) → declared_by_all state xs ≡ declared_by_all state ys
  states-same state =
      declared-are xs state ∙ ap (fold (λ (s : State) (v : Seen). (told_by v.1).declared s) state) alike ∙ sym (declared-are ys state)

  following-alike : (others : List (Stmt Frac)) → map seen (xs ++ others) ≡ map seen (ys ++ others)
  following-alike others = map-append seen xs others ∙ ap (λ (vs : List Seen). vs ++ map seen others) alike ∙ sym (map-append seen ys others)

  pub occur-for : (limit : ℕ) (world : World Frac) → OccursFor frac_value limit world xs ys
  occur-for limit world = record {
    states = λ count.
        loaded-are xs (blank_state count) ∙ ap (fold (λ (s : State) (v : Seen). (told_by v.1).given s) (blank_state count)) alike ∙ sym (loaded-are ys (blank_state count));
    define = λ others m. same-definitions (xs ++ others) (ys ++ others) (following-alike others) m;
    defined = λ q. defined-told xs q ∙ ap (list_any (λ (v : Seen). (told_by v.1).is_defined q)) alike ∙ sym (defined-told ys q);
    runs = λ state answers. seen-runs limit world state answers xs ys alike;
  }

-- statements of one view
pub seen-same : (xs ys : List (Stmt Frac)) → statements_view frac_value xs ≡ statements_view frac_value ys → map seen xs ≡ map seen ys
seen-same xs ys alike = sym (listed-is xs) ∙ ap listed alike ∙ listed-is ys

-- ---- the run of both

pub alike-joins : (limit : ℕ) (saved joint : World Frac) (firsts others : List (Stmt Frac)) (answers further : List (Answer Number)) → statements_view frac_value firsts ≡ statements_view frac_value saved.program.statements.items → IsAccepted frac_value saved.program → IsAccepted frac_value joint.program →
    length saved.program.names ≤ length joint.program.names → DeclaresItsOwn saved.program → joint.program.statements.items ≡ firsts ++ others → TypesNone (loaded frac_value saved.program) others → joint.solvers ≡ saved.solvers →
    (run_from frac_value limit saved (loaded frac_value saved.program) answers saved.program.statements.items).halted ≡ None →
    (run_from frac_value limit saved (loaded frac_value saved.program) answers saved.program.statements.items).left ≡ [] →
    (run_from frac_value limit joint (loaded frac_value joint.program) (answers ++ further) firsts).halted ≡ None →
    Joins frac_value limit saved joint firsts others answers further
alike-joins limit saved joint firsts others answers further alike accepted both few own statements types solvers done none reached =
    joins frac_value limit saved joint firsts others answers further accepted both few own statements (occur-for firsts saved.program.statements.items (seen-same firsts saved.program.statements.items alike) limit joint) types solvers done none reached

-- a joint program without errors types no saved variable in its later statements
pub new-types : (from : ℕ) (saved joint : Program Frac) (firsts others : List (Stmt Frac)) (solvers : List (List ℕ)) → statements_view frac_value firsts ≡ statements_view frac_value saved.statements.items → length saved.names ≤ length joint.names → DeclaresItsOwn saved → joint.statements.items ≡ firsts ++ others →
    AreSaved from firsts → AreNew from others → joint_errors frac_value joint from solvers ≡ [] → TypesNone (loaded frac_value saved) others
new-types from saved joint firsts others solvers alike few own statements are new none =
    types-none from frac_value saved joint firsts others few own statements (states-same firsts saved.statements.items (seen-same firsts saved.statements.items alike)) are new solvers none
