-- What is restored, and why nothing is.
use Rattle.std.proofs.Common.{◌≡◌, ◌↔◌, ℕ, ◌≤◌, Bool, true, List, [], ◌∷◌, ◌++◌, length, refl, sym, ap, ap₂, ◌∙◌, subst, inl, inr, None, Some, Result, Ok, Err, codes, arith}
use Rattle.std.specs.Prelude.{◌==◌, IsTrue}
use Rattle.std.specs.Result.{IsErrAnd, MatchResult}
use Rattle.std.proofs.lemmas.Bool.{eqb-true}
use Rattle.std.proofs.lemmas.Result.{err_from_is_err_and}
use Rattle.gq_frac.specs.declared.frac.Frac.{Frac}
use Rattle.gq_frac.specs.Frac.{frac_value, frac_limit}
use Rattle.gms_ast.specs.declared.program.Program.{Program}
use Rattle.gms_store.specs.State.{State}
use Rattle.gms_parse.specs.declared.fault.SourceFaultOrMemory.{SourceFaultOrMemory}
use Rattle.gms_parse.specs.declared.fault.SourceFaultOrMemory.TheVariants as parsed
use Rattle.gms_parse.specs.Outcomes.{IsProgram, IsSourceRefusal, program_view}
use Rattle.gms_parse.proofs.OneReading.{one_program, program_or_fault}
use Rattle.gms_save_text.specs.declared.fault.ReadFault.{ReadFault}
use Rattle.gms_save_text.specs.declared.fault.ReadFault.TheVariants as read
use Rattle.gms_save_text.specs.Reading.{Finds}
use Rattle.gms_save_text.specs.SavedState.{saved_line, saved_text, source_text, state_text}
use Rattle.gms_save.specs.declared.fault.SaveFault.TheVariants.{SaveTooLong, SaveShape, SaveSolver}
use Rattle.gms_save.specs.declared.fault.SaveFaultOrMemory.{SaveFaultOrMemory}
use Rattle.gms_save.specs.declared.fault.SaveFaultOrMemory.TheVariants.{Memory, Fault}
use Rattle.gms_save.specs.declared.saved.Saved.{Saved}
use Rattle.gms_save.specs.Faults.{fault_of_reading, fault_of_source}
use Rattle.gms_save.specs.InnerRestoreSteps.{IsFaulty, IsFaultyBy, IsFree, IsNoStateBy, IsSavedIn, IsStateOf, IsUnplacedBy}
use Rattle.gms_save.specs.Saves.{GivesBack, IsNoSave, IsSaveOf, Restores, most_save_bytes, place_of_solver, with_solver}
use Rattle.gms_save.proofs.SavedNames.{saved-placed, text-placed}
use Rattle.gms_save.proofs.SeenPrograms.{same-names, same-saved}

-- the text before the source
abbrev pub prefix : List ℕ
prefix = saved_line (codes "gams25 save 1")

-- ---- answers

-- what restoring bytes answers, also of bytes that are a save
abbrev pub Both : List (List ℕ) → List ℕ → Result Saved SaveFaultOrMemory → Type 0
Both solvers bytes r = Restores solvers bytes r × GivesBack solvers bytes r

-- an answer that is an error
err-is : (r : Result Saved SaveFaultOrMemory) (e : SaveFaultOrMemory) → IsErrAnd r (λ f. f ≡ e) → r ≡ Err e
err-is r e h = let p = err_from_is_err_and r h in p.1 ∙ ap (λ (f : SaveFaultOrMemory). Err f) p.2

answered : (r : Result Saved SaveFaultOrMemory) (e : SaveFaultOrMemory) (solvers : List (List ℕ)) (bytes : List ℕ) → IsErrAnd r (λ f. f ≡ e) → Both solvers bytes (Err e) → Both solvers bytes r
answered r e solvers bytes h both = subst (Both solvers bytes) (sym (err-is r e h)) both

-- bytes that are no save
shapeless : (solvers : List (List ℕ)) (bytes : List ℕ) → length bytes ≤ most_save_bytes → IsNoSave bytes → Both solvers bytes (Err (Fault SaveShape))
shapeless solvers bytes short none = ((short, none), none)

memoryless : (solvers : List (List ℕ)) (bytes : List ℕ) → Both solvers bytes (Err Memory)
memoryless solvers bytes = (tt, λ source program state solver save. tt)

-- A save of a program with its source is one of the program and of the source that were found: the
-- programs have equal views, and the text is that of the state.
record IsHere (source text : List ℕ) (program : Program Frac) (other : List ℕ) (found : Program Frac) (state : State) (name : List ℕ) : Type 0 where
  source_is : source ≡ other
  alike : program_view frac_value program ≡ program_view frac_value found
  saved_in : IsSavedIn program state name
  following : text ≡ state_text program.names state name

-- ---- what a reader of the source finds

-- Bytes begin with a source, followed by a text: in each way in which they are the text of a state
-- with its source.
abbrev pub Splits : List ℕ → List ℕ → List ℕ → Type 0
Splits bytes source text = (other rest : List ℕ) → bytes ≡ prefix ++ (source_text other ++ rest) → (source ≡ other) × (text ≡ rest)

-- no source was read: the bytes are no save
pub unread : {A : Type 0} (Q : List ℕ → List ℕ → A → Type 0) (r : Result Saved SaveFaultOrMemory) (f : ReadFault) (solvers : List (List ℕ)) (bytes : List ℕ) → length bytes ≤ most_save_bytes → IsErrAnd r (λ e. e ≡ fault_of_reading f) → ((source rest : List ℕ) → bytes ≡ prefix ++ (source_text source ++ rest) → Finds (Err f) (Q source rest)) → Both solvers bytes r
unread {A} Q r f solvers bytes short h found = answered r (fault_of_reading f) solvers bytes h (by f found)
  where
    by : (f : ReadFault) → ((source rest : List ℕ) → bytes ≡ prefix ++ (source_text source ++ rest) → Finds (Err f) (Q source rest)) → Both solvers bytes (Err (fault_of_reading f))
    by read.Memory found = memoryless solvers bytes
    by read.Shape found =
        shapeless solvers bytes short (λ source program state solver save. absurd (found source (state_text program.names state solver) save.text))

-- memory ran out
pub wanting : (r : Result Saved SaveFaultOrMemory) (solvers : List (List ℕ)) (bytes : List ℕ) → IsErrAnd r (λ e. e ≡ Memory) → Both solvers bytes r
wanting r solvers bytes h = answered r Memory solvers bytes h (memoryless solvers bytes)

-- ---- the program

-- a source without a program is refused
pub refused : (r : Result (Program Frac) SaveFaultOrMemory) (f : SourceFaultOrMemory) (source : List ℕ) → IsErrAnd r (λ e. e ≡ fault_of_source f) → IsSourceRefusal frac_limit source f → MatchResult r (λ program. IsFree source program) (λ fault. IsFaultyBy source fault)
refused r f source h refusal = let p = err_from_is_err_and r h in rw (p.1, p.2) (by f refusal)
  where
    by : (f : SourceFaultOrMemory) → IsSourceRefusal frac_limit source f → IsFaultyBy source (fault_of_source f)
    by parsed.Memory refusal = tt
    by (parsed.Fault fault) refusal = inl (fault, refusal)

-- ---- the state

-- a text that was not read is that of no saved state
pub unread_state : {A B : Type 0} (P : A → Type 0) (Q : State → List ℕ → B → Type 0) (r : Result A SaveFaultOrMemory) (f : ReadFault) (program : Program Frac) (text : List ℕ) → IsErrAnd r (λ e. e ≡ fault_of_reading f) → ((state : State) (solver : List ℕ) → IsSavedIn program state solver → text ≡ state_text program.names state solver → Finds (Err f) (Q state solver)) → MatchResult r P (λ fault. IsNoStateBy program text fault)
unread_state {A} {B} P Q r f program text h found = let p = err_from_is_err_and r h in rw (p.1, p.2) (by f found)
  where
    by : (f : ReadFault) → ((state : State) (solver : List ℕ) → IsSavedIn program state solver → text ≡ state_text program.names state solver → Finds (Err f) (Q state solver)) → IsNoStateBy program text (fault_of_reading f)
    by read.Memory found = tt
    by read.Shape found = found

-- a list of errors is empty exactly where the test says so
pub none_there : {A : Type 0} (xs ys : List A) (r : Bool) → xs ≡ ys → r ≡ (length xs == 0) → IsTrue r ↔ (ys ≡ [])
none_there {A} xs ys r same e = (λ t. sym same ∙ is_none xs (sym e ∙ t), λ none. e ∙ ap (λ (l : List A). length l == 0) (same ∙ none))
  where
    is_none : (zs : List A) → (length zs == 0) ≡ true → zs ≡ []
    is_none [] t = refl
    is_none (z ∷ zs) t = let e = eqb-true (length (z ∷ zs)) 0 t in absurd (omega (arith, e))

-- ---- the whole

module _ (solvers : List (List ℕ)) (bytes source text : List ℕ) (short : length bytes ≤ most_save_bytes) (splits : Splits bytes source text) where
  -- a source without a program that is free of errors has no save
  unsaved : IsFaulty source → IsNoSave bytes
  unsaved faulty other found state solver save =
      let parts = splits other (state_text found.names state solver) save.text in
      by faulty (subst (λ (s : List ℕ). IsProgram frac_limit s frac_value found) (sym parts.0) save.is_program)
    where
      by : IsFaulty source → IsProgram frac_limit source frac_value found → ⊥
      by (inl (fault, is_fault)) is_program = program_or_fault frac_limit source (program_view frac_value found) fault is_program is_fault
      by (inr (program, is_own, errors)) is_program =
          let alike = one_program frac_limit source (program_view frac_value found) (program_view frac_value program) is_program is_own in
          errors (same-saved found program alike state solver save.is_saved).no_error

  pub no-program : (r : Result Saved SaveFaultOrMemory) (e : SaveFaultOrMemory) → IsErrAnd r (λ f. f ≡ e) → IsFaultyBy source e → Both solvers bytes r
  no-program r e h faulty = answered r e solvers bytes h (by e faulty)
    where
      by : (e : SaveFaultOrMemory) → IsFaultyBy source e → Both solvers bytes (Err e)
      by Memory faulty = memoryless solvers bytes
      by (Fault SaveTooLong) faulty = absurd faulty
      by (Fault SaveShape) faulty = shapeless solvers bytes short (unsaved faulty)
      by (Fault SaveSolver) faulty = absurd faulty

  module _ (program : Program Frac) (free : IsFree source program) where
    -- a save is one of this program over this source
    here : (other : List ℕ) (found : Program Frac) (state : State) (name : List ℕ) → IsSaveOf bytes other found state name → IsHere source text program other found state name
    here other found state name save =
        let parts = splits other (state_text found.names state name) save.text in
        let alike = one_program frac_limit source (program_view frac_value program) (program_view frac_value found) free.is_program (subst (λ (s : List ℕ). IsProgram frac_limit s frac_value found) (sym parts.0) save.is_program) in
        record {
          source_is = parts.0;
          alike = alike;
          saved_in = (same-saved found program (sym alike) state name save.is_saved).is_saved;
          following = parts.1 ∙ ap (λ (ns : List (List ℕ)). state_text ns state name) (sym (same-names program found alike));
        }

    -- no save has this text after its source
    pub no-state : (r : Result Saved SaveFaultOrMemory) (e : SaveFaultOrMemory) → IsErrAnd r (λ f. f ≡ e) → IsNoStateBy program text e → Both solvers bytes r
    no-state r e h none = answered r e solvers bytes h (by e none)
      where
        by : (e : SaveFaultOrMemory) → IsNoStateBy program text e → Both solvers bytes (Err e)
        by Memory none = memoryless solvers bytes
        by (Fault SaveTooLong) none = absurd none
        by (Fault SaveShape) none =
            shapeless solvers bytes short (λ other found state name save. let h = here other found state name save in none state name h.saved_in h.following)
        by (Fault SaveSolver) none = absurd none

    module _ (store : State) (solver : List ℕ) (found : IsStateOf program text store solver) where
      -- a save has the text of the state that was found, with its source
      same-text : (other : List ℕ) (one : Program Frac) (state : State) (name : List ℕ) → IsSaveOf bytes other one state name → bytes ≡ saved_text source program.names store solver
      same-text other one state name save =
          let h = here other one state name save in
          let state_is = found.same_state state name h.saved_in h.following in
          let solver_is = found.same_solver state name h.saved_in h.following in
          let same : state_text program.names store solver ≡ state_text program.names state name = ap₂ (λ (s : State) (n : List ℕ). state_text program.names s n) state_is solver_is ∙ text-placed program.names state 0 name in
          save.text ∙ ap₂ (λ (s rest : List ℕ). prefix ++ (source_text s ++ rest)) (sym h.source_is) (ap (λ (ns : List (List ℕ)). state_text ns state name) (sym (same-names program one h.alike)) ∙ sym same)

      -- bytes that are not this text are no save
      pub other-text : (bytes ≡ saved_text source program.names store solver → ⊥) → Both solvers bytes (Err (Fault SaveShape))
      other-text differ =
          shapeless solvers bytes short (λ other one state name save. differ (same-text other one state name save))

      module _ (is : bytes ≡ saved_text source program.names store solver) where
        -- they are its save
        save-of : IsSaveOf bytes source program store solver
        save-of =
            record { is_program = free.is_program; is_saved = record { no_error = free.no_error; is_saved = found.is_saved }; text = is }

        -- a save whose solver is none of these
        pub no-solver : place_of_solver solvers solver ≡ None → Both solvers bytes (Err (Fault SaveSolver))
        no-solver lacks = (
          (short, record { source = source; program = program; state = store; solver = solver; is_save = save-of; lacks = lacks }),
          λ other one state name save. let h = here other one state name save in ap (place_of_solver solvers) (sym (found.same_solver state name h.saved_in h.following)) ∙ lacks,
        )

        -- or of one that is, and then they are restored
        save-placed : (place : ℕ) → IsSaveOf bytes source program (with_solver store place) solver
        save-placed place = record {
          is_program = free.is_program;
          is_saved = record { no_error = free.no_error; is_saved = saved-placed program store place solver found.is_saved };
          text = is ∙ ap (λ (rest : List ℕ). prefix ++ (source_text source ++ rest)) (sym (text-placed program.names store place solver));
        }

        module _ (saved : Saved) (place : ℕ) (program_is : saved.program ≡ program) (source_is : saved.source.items ≡ source) (store_is : saved.store ≡ with_solver store place) (placed : place_of_solver solvers solver ≡ Some place) where
          is-restored : Restores solvers bytes (Ok saved)
          is-restored = (
            short,
            record {
              solver = solver;
              is_save = subst (λ (s : List ℕ). IsSaveOf bytes s saved.program saved.store solver) (sym source_is) (subst (λ (p : Program Frac). IsSaveOf bytes source p saved.store solver) (sym program_is) (subst (λ (s : State). IsSaveOf bytes source program s solver) (sym store_is) (save-placed place)));
              placed = placed ∙ ap (λ (s : State). Some s.settings.solver) (sym store_is);
            },
          )

          -- and each state whose save the bytes are is that one
          is-back : GivesBack solvers bytes (Ok saved)
          is-back other one state name save =
              let h = here other one state name save in
              record {
                source_is = source_is ∙ h.source_is;
                program_is = ap (program_view frac_value) program_is ∙ h.alike;
                state_is = store_is ∙ ap (λ (s : State). with_solver s place) (found.same_state state name h.saved_in h.following) ∙ sym (ap (λ (s : State). with_solver state s.settings.solver) store_is);
                placed = ap (place_of_solver solvers) (sym (found.same_solver state name h.saved_in h.following)) ∙ placed ∙ ap (λ (s : State). Some s.settings.solver) (sym store_is);
              }

          pub restored : Both solvers bytes (Ok saved)
          restored = (is-restored, is-back)

      -- no place was found for the solver
      pub unplaced : (r : Result Saved SaveFaultOrMemory) (e : SaveFaultOrMemory) → IsErrAnd r (λ f. f ≡ e) → IsUnplacedBy bytes (saved_text source program.names store solver) solvers solver e → Both solvers bytes r
      unplaced r e h why = answered r e solvers bytes h (by e why)
        where
          by : (e : SaveFaultOrMemory) → IsUnplacedBy bytes (saved_text source program.names store solver) solvers solver e → Both solvers bytes (Err e)
          by Memory why = memoryless solvers bytes
          by (Fault SaveTooLong) why = absurd why
          by (Fault SaveShape) why = other-text why
          by (Fault SaveSolver) why = no-solver why.0 why.1
