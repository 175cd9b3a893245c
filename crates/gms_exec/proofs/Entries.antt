-- The entries of a name that are shown, in sequence.
use Rattle.std.proofs.Common.{◌≡◌, ℕ, ◌+◌, ◌<◌, ◌≤◌, min, nat_lt, Bool, true, false, not, List, [], ◌∷◌, ◌++◌, length, map, take, get_or, take_all, cond, filter, Ok, Err, refl, sym, ap, ◌∙◌, append-nil, arith, lt-ltb, ltb-true}
use Rattle.std.proofs.lemmas.List.{take_more, map-append}
use Rattle.std.proofs.lemmas.List.Elements.{filter-append}
use Rattle.gms_labels.specs.declared.place.Place.{Place}
use Rattle.gq_extended.specs.Extended.{Extended}
use Rattle.gms_ast.specs.declared.expression.Suffix.{Suffix}
use Rattle.gms_store.specs.State.{State}
use Rattle.gms_eval.specs.Bindings.{Pairs}
use Rattle.gms_eval.specs.Domain.{sized, too_large}
use Rattle.gms_eval.specs.Faults.{nothing}
use Rattle.gms_eval.specs.declared.stop.StopKind.TheVariants.{DomainSize}
use Rattle.gms_exec.specs.Showing.{value_shown, is_indexed, entries_shown}
use Rattle.gms_exec.specs.InnerContracts.{is_kept, with_entries}

-- an entry that is left out, and one that is appended
pub left-out : (done : List (List ℕ × Extended)) (e : List ℕ × Extended) (keep out : Bool) → out ≡ not keep → out ≡ true → done ≡ done ++ cond keep (e ∷ []) []
left-out done e true out is so = absurd cc
left-out done e false out is so = sym (append-nil done)

pub put-following : (done next : List (List ℕ × Extended)) (e : List ℕ × Extended) (keep out : Bool) → out ≡ not keep → out ≡ false → next ≡ done ++ e ∷ [] → next ≡ done ++ cond keep (e ∷ []) []
put-following done next e true out is so put = put
put-following done next e false out is so put = absurd cc

module _ (state : State) (name : ℕ) (s : Suffix) where
  -- whether an entry is shown
  abbrev shows : List ℕ × Extended → Bool
  shows entry = is_kept (is_indexed state name) entry.1

  -- entries at tuples, and at more of them
  pub entries-append : (one other : List (List ℕ)) → entries_shown state name s (one ++ other) ≡ entries_shown state name s one ++ entries_shown state name s other
  entries-append one other = ap (filter shows) (map-append (λ t. (t, value_shown state name s t)) one other) ∙ filter-append shows (map (λ t. (t, value_shown state name s t)) one) (map (λ t. (t, value_shown state name s t)) other)

  -- those at one more tuple
  pub entries-more : (done next : List (List ℕ × Extended)) (all : List (List ℕ)) (i : ℕ) (t : List ℕ) → i < length all → t ≡ get_or all i [] → done ≡ entries_shown state name s (take i all) → next ≡ with_entries done (entries_shown state name s (t ∷ [])) → next ≡ entries_shown state name s (take (i + 1) all)
  entries-more done next all i t l at so is =
      is
      ∙ ap (λ d. d ++ entries_shown state name s (t ∷ [])) so
      ∙ sym (entries-append (take i all) (t ∷ []))
      ∙ ap (λ t. entries_shown state name s (take i all ++ t ∷ [])) at
      ∙ ap (entries_shown state name s) (sym (take_more all i [] l))

  -- those at all tuples
  pub entries-end : (done : List (List ℕ × Extended)) (all : List (List ℕ)) (i : ℕ) → length all ≤ i → done ≡ entries_shown state name s (take i all) → done ≡ entries_shown state name s all
  entries-end done all i l so = so ∙ ap (entries_shown state name s) (take_all i all l)

-- ---- how many elements there may be

module _ (at : Place) (b : Pairs) (those : List (List ℕ)) (count : ℕ) (is : count ≡ min (length those) 18446744073709551615) where
  -- too many
  pub sized-over : 16777216 < count → sized at b those ≡ Err (record { kind = DomainSize; at = at; binding = b; left = nothing; right = nothing; count = count })
  sized-over over =
      ap (λ c. cond c (Err (too_large at b (length those))) (Ok those)) (lt-ltb 16777216 (length those) (omega arith))
      ∙ ap (λ n. Err (record { kind = DomainSize; at = at; binding = b; left = nothing; right = nothing; count = n })) (sym is)

  -- as many as there may be
  pub sized-within : count ≤ 16777216 → sized at b those ≡ Ok those
  sized-within within = elim (nat_lt 16777216 (length those)) as (λ c. nat_lt 16777216 (length those) ≡ c → cond c (Err (too_large at b (length those))) (Ok those) ≡ Ok those) [
    | true ↦ λ over. absurd (let o = ltb-true 16777216 (length those) over in omega arith)
    | false ↦ λ _. refl
  ] refl

  pub counted-within : count ≤ 16777216 → count ≡ length those
  counted-within within = omega arith
