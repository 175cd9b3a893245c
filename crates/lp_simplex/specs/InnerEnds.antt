-- What the functions between a final dictionary and the answer promise each other (Chvatal, Linear
-- Programming, chapters 2 and 8).
use Rattle.std.specs.Prelude.{◌≡◌, ◌⊎◌, ℕ, [], Option, None}
use Rattle.gq_number.specs.Number.{Number}
use Rattle.lp_core.specs.declared.answer.End.{End}
use Rattle.lp_core.specs.declared.answer.End.TheVariants.{Interrupted, Refused}
use Rattle.lp_core.specs.declared.program.Lp.{Lp}
use Rattle.lp_core.specs.StandardForm.{Standard}
use Rattle.lp_core.specs.Dictionary.{Dictionary, OpeningIsRequired, Improves, IsDictionaryOf}
use Rattle.lp_core.specs.Answers.{EndsCrossed, EndsUnformed}
use Rattle.lp_core.specs.declared.answer.EndKind.{EndKind}
use Rattle.lp_core.specs.Ends.{IsPhase, EndsWith, IsReadAt, IsDone, last_with}
use Rattle.lp_dict.specs.Tableau.{dictionary}
use Rattle.lp_simplex.specs.declared.pivoting.Halt.{Halt}
use Rattle.lp_simplex.specs.declared.pivoting.Halt.TheVariants as halt

-- a further pivot may be required: the opening one, or a variable improves
abbrev pub MayContinue : Dictionary → Type 0
MayContinue d = OpeningIsRequired d ⊎ ((q : ℕ) × Improves d q)

module _ {F : Type 0} (value : F → Number) where
  -- where a run over dictionaries of this standard form may halt
  abbrev pub CanEnd : Standard → Halt F → Type 0
  CanEnd s (halt.Ended d enter) = IsDictionaryOf s (dictionary value d) × IsDone (dictionary value d) enter
  CanEnd s (halt.Interrupted d) = IsDictionaryOf s (dictionary value d) × MayContinue (dictionary value d)
  CanEnd s (halt.Refused step) = Unit {0}

module _ {F : Type 0} (value : F → Number) (limit : ℕ) (lp : Lp F) where
  -- An end is recovered from a dictionary, along the ray of this variable, if any.
  pub record IsLedBack (d : Dictionary) (enter : Option ℕ) (end : End F) : Type 0 where
    pub kind : EndKind
    pub read : IsReadAt d kind (last_with d enter)
    pub gives : EndsWith value limit lp kind (last_with d enter) end

  -- the end of a run that is broken off: it shows nothing in phase 1, and the point in phase 2
  abbrev pub IsBrokenOff : Dictionary → End F → Type 0
  IsBrokenOff d end = (IsPhase d 1 × (end ≡ Interrupted 1 [] [])) ⊎ (IsPhase d 2 × IsLedBack d None end)

  -- the end of a run that halts so
  abbrev pub EndsHalted : Halt F → End F → Type 0
  EndsHalted (halt.Ended d enter) end = IsLedBack (dictionary value d) enter end
  EndsHalted (halt.Interrupted d) end = IsBrokenOff (dictionary value d) end
  EndsHalted (halt.Refused step) end = end ≡ Refused step

  -- the end of a program that has no standard form
  abbrev pub EndsFormless : End F → Type 0
  EndsFormless end = EndsCrossed value lp end ⊎ EndsUnformed value limit lp end
