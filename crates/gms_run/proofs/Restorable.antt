-- A run can resume from a restored state: its settings are within their ranges, and its members are
-- as long as the dimensions of their sets.
use Rattle.std.proofs.Common.{◌≡◌, ℕ, suc, ◌<◌, Bool, true, false, ◌&&◌, ◌==◌, List, [], ◌∷◌, length, refl, ap, cond, Option, Some, None, Result, codes, arith}
use Rattle.std.specs.Prelude.{nat_le}
use Rattle.std.specs.List.{All, position}
use Rattle.std.specs.Result.{IsErrAnd}
use Rattle.std.specs.Str.{bytes_eq, str_eq_ignore_ascii_case}
use Rattle.std.proofs.lemmas.Bool.{eqb-true, leb-true, and_parts}
use Rattle.std.proofs.lemmas.List.Elements.{All-nil, All-weaker}
use Rattle.std.proofs.lemmas.List.Quantifiers.{position-Some}
use Rattle.std.proofs.lemmas.Result.{err_from_is_err_and}
use Rattle.gms_store.specs.State.{State, Content, undeclared, alias_of, set_of, parameter_of, variable_of, equation_of, model_with, symbol_at, given_in, members_in}
use Rattle.gms_save_text.specs.Validity.{fits_position, fits_domain}
use Rattle.gms_save.specs.declared.saved.Saved.{Saved}
use Rattle.gms_save.specs.declared.fault.SaveFaultOrMemory.{SaveFaultOrMemory}
use Rattle.gms_save.specs.declared.fault.SaveFaultOrMemory.TheVariants.{Memory}
use Rattle.gms_save.specs.Saves.{GivesBack, IsRestored, Restores, place_of_solver}
use Rattle.gms_joint_source.specs.JointSources.{first_line, joint_source}
use Rattle.gms_restart.proofs.SavedFits.{saved_fits}
use Rattle.gms_run.specs.InnerReports.{CanContinue}

pub wanting : (r : Result Saved SaveFaultOrMemory) (solvers : List (List ℕ)) (save : List ℕ) → IsErrAnd r (λ e. e ≡ Memory) → Restores solvers save r
wanting r solvers save h = let p = err_from_is_err_and r h in rw (p.1, p.2) tt

pub wanting_back : (r : Result Saved SaveFaultOrMemory) (solvers : List (List ℕ)) (save : List ℕ) → IsErrAnd r (λ e. e ≡ Memory) → GivesBack solvers save r
wanting_back r solvers save h = λ source program state solver is. let p = err_from_is_err_and r h in rw (p.1, p.2) tt

-- the place of the saved solver exists, if there are solvers
placed-below : (solvers : List (List ℕ)) (solver : List ℕ) (place : ℕ) → place_of_solver solvers solver ≡ Some place → 0 < length solvers → place < length solvers
placed-below solvers solver place e some = by (bytes_eq solver (codes "none")) (length solvers == 0) refl refl e
  where
    found : Option ℕ
    found = position (λ name. str_eq_ignore_ascii_case name solver) solvers

    by : (named none : Bool) → bytes_eq solver (codes "none") ≡ named → (length solvers == 0) ≡ none → cond named (cond none (Some 0) None) found ≡ Some place → place < length solvers
    by true true n is p = let empty : length solvers ≡ 0 = eqb-true (length solvers) 0 is in absurd (omega (arith, empty, some))
    by true false n is p = absurd (let z : ⊥ = cc in z)
    by false none n is p = (position-Some (λ name. str_eq_ignore_ascii_case name solver) solvers place [] p).0

-- a tuple in a domain is as long as the domain
occurs-long : (labels : ℕ) (state : State) (domain : List (Option ℕ)) (t : List ℕ) → fits_domain labels state domain t ≡ true → length t ≡ length domain
occurs-long labels state [] [] e = refl
occurs-long labels state [] (label ∷ t) e = absurd (let z : ⊥ = cc in z)
occurs-long labels state (set ∷ domain) [] e = absurd (let z : ⊥ = cc in z)
occurs-long labels state (set ∷ domain) (label ∷ t) e =
    ap suc (occurs-long labels state domain t ((and_parts (fits_position state set label) _ ((and_parts _ _ e).1)).1))

-- what holds of all tuples with data holds of all members
members-given : (P : List ℕ → Type 0) (content : Content) → All P (given_in content) → All P (members_in content)
members-given P (set_of members) all = all
members-given P undeclared all = All-nil P
members-given P (alias_of base) all = All-nil P
members-given P (parameter_of entries) all = All-nil P
members-given P (variable_of type entries) all = All-nil P
members-given P (equation_of entries) all = All-nil P
members-given P (model_with model solver) all = All-nil P

-- A run can resume from a restored state.
pub can_go_on : (solvers : List (List ℕ)) (save : List ℕ) (saved : Saved) → IsRestored solvers save saved → (file : List ℕ) → CanContinue solvers (joint_source saved.source.items file) (first_line saved.source.items) saved.store
can_go_on solvers save saved restored file =
    let is = restored.is_save.is_saved.is_saved in
    let settings = saved.store.settings in
    record {
      origin = record {
        before = saved.source.items;
        file = file;
        program = saved.program;
        solver = restored.solver;
        joint = refl;
        begins = refl;
        is_program = restored.is_save.is_program;
        is_saved = restored.is_save.is_saved;
        placed = restored.placed;
      };
      settings = record {
        decimals = leb-true settings.decimals 8 ((and_parts (nat_le settings.iterlim 2147483647) (nat_le settings.decimals 8) ((and_parts (nat_le settings.limcol 2147483647) (nat_le settings.iterlim 2147483647 && nat_le settings.decimals 8) ((and_parts (nat_le settings.limrow 2147483647) (nat_le settings.limcol 2147483647 && (nat_le settings.iterlim 2147483647 && nat_le settings.decimals 8)) is.ranges).1)).1)).1);
        chosen = placed-below solvers restored.solver settings.solver restored.placed;
      };
      arity = λ name.
          let symbol = symbol_at saved.store name in
          members-given (λ t. length t ≡ length symbol.domain) symbol.content
          (All-weaker _ (λ t. length t ≡ length symbol.domain) (occurs-long _ saved.store symbol.domain) (given_in symbol.content) (is.given name).occur);
      declares = λ program is_program. saved_fits saved.source.items file saved.program program saved.store restored.solver restored.is_save.is_program is_program restored.is_save.is_saved;
    }
