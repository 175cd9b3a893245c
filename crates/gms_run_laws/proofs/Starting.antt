-- A state that keeps the state in which a program's run begins has all that lasts in the run.
use Rattle.std.proofs.Common.{◌≡◌, ℕ, Bool, List, length, unwrap_or, slice_get, refl, sym, ap, ◌∙◌}
use Rattle.std.specs.List.{All}
use Rattle.std.proofs.lemmas.List.Elements.{All-nil}
use Rattle.gq_number.specs.Number.{Number}
use Rattle.gms_ast.specs.declared.program.Program.{Program}
use Rattle.gms_tuple.specs.TupleOrder.{IsOrdered}
use Rattle.gms_tuple.proofs.Ordered.{ordered-nil}
use Rattle.gms_store.specs.State.{State, Content, undeclared, alias_of, set_of, parameter_of, variable_of, equation_of, model_with, Symbol, no_symbol, symbol_at, alias_target, given_in, members_in}
use Rattle.gms_save_text.specs.Validity.{emptied}
use Rattle.gms_check.specs.Loaded.{loaded}
use Rattle.gms_exec.proofs.Staying.{Stays}
use Rattle.gms_run_laws.specs.LastStates.{IsLater, MayBegin}
use Rattle.gms_run_laws.proofs.DeclaredKinds.{blanked, blanked-at}
use Rattle.gms_run_laws.proofs.Lasting.{IsLasting}

-- ---- contents

emptied-following : (n : ℕ) (content : Content) → alias_target n (emptied content) ≡ alias_target n content
emptied-following n undeclared = refl
emptied-following n (alias_of base) = refl
emptied-following n (set_of members) = refl
emptied-following n (parameter_of entries) = refl
emptied-following n (variable_of type entries) = refl
emptied-following n (equation_of entries) = refl
emptied-following n (model_with m s) = refl

-- members are given
members-all : (P : List ℕ → Type 0) (content : Content) → All P (given_in content) → All P (members_in content)
members-all P undeclared all = All-nil P
members-all P (alias_of base) all = All-nil P
members-all P (set_of members) all = all
members-all P (parameter_of entries) all = All-nil P
members-all P (variable_of type entries) all = All-nil P
members-all P (equation_of entries) all = All-nil P
members-all P (model_with m s) all = All-nil P

members-in_order : (content : Content) → IsOrdered (given_in content) → IsOrdered (members_in content)
members-in_order undeclared up = ordered-nil
members-in_order (alias_of base) up = ordered-nil
members-in_order (set_of members) up = up
members-in_order (parameter_of entries) up = ordered-nil
members-in_order (variable_of type entries) up = ordered-nil
members-in_order (equation_of entries) up = ordered-nil
members-in_order (model_with m s) up = ordered-nil

-- ---- states

module _ (first : State) (assigned : ℕ → Bool) (state : State) (later : IsLater first assigned state) where
  same-blanked : (n : ℕ) → blanked (symbol_at state n) ≡ blanked (symbol_at first n)
  same-blanked n =
      let read : List Symbol → Symbol = λ symbols. unwrap_or (slice_get symbols n) no_symbol in
      sym (blanked-at state.symbols n) ∙ ap read later.declares ∙ blanked-at first.symbols n

  -- a later state stays
  later-stays : Stays first state
  later-stays n =
      let old = symbol_at first n in
      let new = symbol_at state n in
      let domain : new.domain ≡ old.domain = ap (λ (s : Symbol). s.domain) (same-blanked n) in
      record {
        domain = domain;
        alike = λ m. sym (emptied-following m new.content) ∙ ap (λ (s : Symbol). alias_target m s.content) (same-blanked n) ∙ emptied-following m old.content;
        singles = λ one are. members-all (λ (t : List ℕ). length t ≡ 1) new.content (λ k d below. (later.given n).long k d below ∙ ap length domain ∙ one);
        ordered = λ up. members-in_order new.content (later.given n).ordered;
      }

-- So all lasts there.
pub begins-lasting : {F : Type 0} (v : F → Number) (program : Program F) (first : State) → MayBegin v program first → IsLasting v program first
begins-lasting v program first later = record { stays = later-stays (loaded v program) _ first later; later = later }
