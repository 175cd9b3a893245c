-- The restarted run of a joint program whose view begins with that of the saved one.
use Rattle.std.proofs.Common.{◌≡◌, ℕ, ◌≤◌, List, [], ◌∷◌, ◌++◌, length, drop, take, None, refl, sym, ap, ap₂, ◌∙◌, subst}
use Rattle.std.specs.Prelude.{filter}
use Rattle.std.proofs.Math.Seq.{take-append_seam}
use Rattle.gq_number.specs.Number.{Number}
use Rattle.gq_frac.specs.declared.frac.Frac.{Frac}
use Rattle.gq_frac.specs.Frac.{frac_value}
use Rattle.gms_labels.specs.declared.place.Place.{Place}
use Rattle.gms_ast.specs.declared.program.Stmt.{Stmt}
use Rattle.gms_ast.specs.StatementTrees.{Act, Statements, no_statement, statement, followed_by}
use Rattle.gms_ast.specs.StatementView.{statements_view}
use Rattle.gms_parse.proofs.Looped.{view-Stmt}
use Rattle.gms_check.specs.Loaded.{IsAccepted, loaded}
use Rattle.lp_core.specs.declared.answer.Answer.{Answer}
use Rattle.gms_exec.specs.Run.{Course, World, run_from}
use Rattle.gms_run_laws.specs.Extensions.{DeclaresItsOwn}
use Rattle.gms_save.specs.JointErrors.{is_saved, joint_errors, resumed, saved_statements}
use Rattle.gms_save.proofs.Joints.{accepted}
use Rattle.gms_save.proofs.SeenActs.{shown}
use Rattle.gms_run_laws.specs.JointRun.{run_after}
use Rattle.gms_restart.specs.Restarts.{SaysTheSame, base_run, whole_run}
use Rattle.gms_restart.specs.StatementLines.{AreSaved, AreNew, SeenSaved, SeenNew}
use Rattle.gms_restart.proofs.Joining.{Joins}
use Rattle.gms_restart.proofs.NewTypes.{saved-prefix}
use Rattle.gms_restart.proofs.SeenAlike.{alike-joins, new-types}

-- ---- statements with the views of two parts

-- Statements in two parts, with these views.
pub record Split (items : List (Stmt Frac)) (one other : Statements Number) : Type 0 where
  pub firsts : List (Stmt Frac)
  pub others : List (Stmt Frac)
  pub parts : items ≡ firsts ++ others
  pub first_seen : statements_view frac_value firsts ≡ one
  pub rest_seen : statements_view frac_value others ≡ other

-- one statement before others with these views
seen-before : (x : Stmt Frac) (xs : List (Stmt Frac)) (at : Place) (act : Act Number) (rest : Statements Number) → x.at ≡ at → shown x.act ≡ act → statements_view frac_value xs ≡ rest → statements_view frac_value (x ∷ xs) ≡ statement at act rest
seen-before x xs at act rest places acts rests =
    view-Stmt frac_value x (statements_view frac_value xs)
    ∙ ap (λ (vs : Statements Number). statement x.at (shown x.act) vs) rests
    ∙ ap₂ (λ (p : Place) (a : Act Number). statement p a rest) places acts

-- one more statement at the beginning
split-more : (x : Stmt Frac) (items : List (Stmt Frac)) (at : Place) (act : Act Number) (rest other : Statements Number) → x.at ≡ at → shown x.act ≡ act → Split items rest other → Split (x ∷ items) (statement at act rest) other
split-more x items at act rest other places acts s = record {
  firsts = x ∷ s.firsts;
  others = s.others;
  parts = ap (λ (xs : List (Stmt Frac)). x ∷ xs) s.parts;
  first_seen = seen-before x s.firsts at act rest places acts s.first_seen;
  rest_seen = s.rest_seen;
}

pub split : (items : List (Stmt Frac)) (one other : Statements Number) → statements_view frac_value items ≡ followed_by one other → Split items one other
split items no_statement other e = record { firsts = []; others = items; parts = refl; first_seen = refl; rest_seen = e }
split [] (statement at act rest) other e = absurd (cc)
split (x ∷ items) (statement at act rest) other e =
    let whole : statement x.at (shown x.act) (statements_view frac_value items) ≡ statement at act (followed_by rest other) = sym (view-Stmt frac_value x (statements_view frac_value items)) ∙ e in
    let places : x.at ≡ at = cc in
    let acts : shown x.act ≡ act = cc in
    let rests : statements_view frac_value items ≡ followed_by rest other = cc in
    split-more x items at act rest other places acts (split items rest other rests)

pub saved-seen : (from : ℕ) (xs : List (Stmt Frac)) → SeenSaved from (statements_view frac_value xs) → AreSaved from xs
saved-seen from [] all = tt
saved-seen from (x ∷ xs) all =
    let parts = subst (SeenSaved from) (view-Stmt frac_value x (statements_view frac_value xs)) all in (parts.0, saved-seen from xs parts.1)

pub new-seen : (from : ℕ) (xs : List (Stmt Frac)) → SeenNew from (statements_view frac_value xs) → AreNew from xs
new-seen from [] all = tt
new-seen from (x ∷ xs) all =
    let parts = subst (SeenNew from) (view-Stmt frac_value x (statements_view frac_value xs)) all in (parts.0, new-seen from xs parts.1)

pub following-firsts : (xs ys : List (Stmt Frac)) → drop (length xs) (xs ++ ys) ≡ ys
following-firsts [] ys = refl
following-firsts (x ∷ xs) ys = following-firsts xs ys

-- ---- the restarted run

-- what both parts say, by the statements that they are
as-said : (from limit : ℕ) (saved joint : World Frac) (firsts others : List (Stmt Frac)) (answers further : List (Answer Number)) → firsts ≡ take (length (saved_statements from joint.program)) joint.program.statements.items → others ≡ drop (length (saved_statements from joint.program)) joint.program.statements.items →
    Joins frac_value limit saved joint firsts others answers further → SaysTheSame frac_value limit from saved joint answers further
as-said from limit saved joint firsts others answers further firsts_are others_are both =
    let long : List (Stmt Frac) → Course = run_from frac_value limit joint (loaded frac_value joint.program) (answers ++ further) in
    let short : List (Stmt Frac) → Course = run_from frac_value limit joint (resumed frac_value (whole_run frac_value limit saved answers).state joint.program) further in
    record {
      is = both.is ∙ ap₂ (λ (xs ys : List (Stmt Frac)). run_after (long xs) (short ys)) firsts_are others_are;
      taken = sym (ap (λ (xs : List (Stmt Frac)). (long xs).taken) firsts_are) ∙ both.taken;
    }

pub restarted : (from limit : ℕ) (saved joint : World Frac) (rest : Statements Number) (answers further : List (Answer Number)) → statements_view frac_value joint.program.statements.items ≡ followed_by (statements_view frac_value saved.program.statements.items) rest →
    SeenSaved from (statements_view frac_value saved.program.statements.items) → SeenNew from rest → length saved.program.names ≤ length joint.program.names → DeclaresItsOwn saved.program →
    IsAccepted frac_value saved.program → joint_errors frac_value joint.program from joint.solvers ≡ [] → joint.solvers ≡ saved.solvers →
    (whole_run frac_value limit saved answers).halted ≡ None → (whole_run frac_value limit saved answers).left ≡ [] → (base_run frac_value limit from joint (answers ++ further)).halted ≡ None →
    SaysTheSame frac_value limit from saved joint answers further
restarted from limit saved joint rest answers further seen olds news few own accepts none solvers done left reached =
    let s = split joint.program.statements.items (statements_view frac_value saved.program.statements.items) rest seen in
    let are_saved = saved-seen from s.firsts (subst (SeenSaved from) (sym s.first_seen) olds) in
    let are_new = new-seen from s.others (subst (SeenNew from) (sym s.rest_seen) news) in
    let saved_are : saved_statements from joint.program ≡ s.firsts = ap (filter (is_saved from)) s.parts ∙ saved-prefix from s.firsts s.others are_saved are_new in
    let firsts_are : take (length (saved_statements from joint.program)) joint.program.statements.items ≡ s.firsts = ap₂ (λ (xs ys : List (Stmt Frac)). take (length xs) ys) saved_are s.parts ∙ take-append_seam s.firsts s.others in
    let others_are : drop (length (saved_statements from joint.program)) joint.program.statements.items ≡ s.others = ap₂ (λ (xs ys : List (Stmt Frac)). drop (length xs) ys) saved_are s.parts ∙ following-firsts s.firsts s.others in
    let types = new-types from saved.program joint.program s.firsts s.others joint.solvers s.first_seen few own s.parts are_saved are_new none in
    let there = subst (λ (firsts : List (Stmt Frac)). (run_from frac_value limit joint (loaded frac_value joint.program) (answers ++ further) firsts).halted ≡ None) firsts_are reached in
    let both = alike-joins limit saved joint s.firsts s.others answers further s.first_seen accepts (accepted frac_value joint.program from (joint.solvers, none)) few own s.parts types solvers done left there in
    as-said from limit saved joint s.firsts s.others answers further (sym firsts_are) (sym others_are) both
