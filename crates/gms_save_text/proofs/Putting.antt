-- Entries that are written into a state in sequence, as their lines are read.
use Rattle.std.proofs.Common.{◌≡◌, ℕ, ◌+◌, ◌<◌, ◌≤◌, List, [], ◌∷◌, ◌++◌, length, take, drop, get_or, flat_map, refl, sym, ap, ◌∙◌, append_assoc}
use Rattle.std.proofs.lemmas.List.{take_more, take_all, drop_more, drop_all}
use Rattle.gms_store.specs.State.{Content, State}
use Rattle.gms_save_text.specs.SavedState.{entry_line}
use Rattle.gms_save_text.specs.Reading.{after_entry, filled}

-- the first `k` entries were written, and the lines of the others remain
pub record HasPut (name : ℕ) (old : State) (content : Content) (tuples : List (List ℕ)) (rest now : List ℕ) (state : State) (k : ℕ) : Type 0 where
  pub now_is : now ≡ flat_map (entry_line content) (drop k tuples) ++ rest
  pub state_is : state ≡ filled old name content (take k tuples)

-- the next line of the remaining text
pub next_entry : (name : ℕ) (old : State) (content : Content) (tuples : List (List ℕ)) (rest now : List ℕ) (state : State) (k : ℕ) → k < length tuples → HasPut name old content tuples rest now state k → now ≡ entry_line content (get_or tuples k []) ++ (flat_map (entry_line content) (drop (k + 1) tuples) ++ rest)
next_entry name old content tuples rest now state k within so_far =
    so_far.now_is ∙ ap (λ xs. flat_map (entry_line content) xs ++ rest) (drop_more tuples k [] within) ∙ append_assoc (entry_line content (get_or tuples k [])) (flat_map (entry_line content) (drop (k + 1) tuples)) rest

-- an entry after others
filled_more : (state : State) (name : ℕ) (content : Content) (tuples : List (List ℕ)) (t : List ℕ) → filled state name content (tuples ++ t ∷ []) ≡ after_entry (filled state name content tuples) name content t
filled_more state name content [] t = refl
filled_more state name content (u ∷ tuples) t = filled_more (after_entry state name content u) name content tuples t

-- one more was written
pub entry_more : (name : ℕ) (old : State) (content : Content) (tuples : List (List ℕ)) (rest now next : List ℕ) (state new : State) (k : ℕ) → k < length tuples → HasPut name old content tuples rest now state k → next ≡ flat_map (entry_line content) (drop (k + 1) tuples) ++ rest → new ≡ after_entry state name content (get_or tuples k []) → HasPut name old content tuples rest next new (k + 1)
entry_more name old content tuples rest now next state new k within so_far left put =
    record {
      now_is = left;
      state_is =
          put ∙ ap (λ (s : State). after_entry s name content (get_or tuples k [])) so_far.state_is
          ∙ sym (filled_more old name content (take k tuples) (get_or tuples k []))
          ∙ ap (filled old name content) (sym (take_more tuples k [] within));
    }

-- all were written
pub entries_all : (name : ℕ) (old : State) (content : Content) (tuples : List (List ℕ)) (rest now : List ℕ) (state : State) (k : ℕ) → length tuples ≤ k → HasPut name old content tuples rest now state k → (now ≡ rest) × (state ≡ filled old name content tuples)
entries_all name old content tuples rest now state k past so_far =
    (so_far.now_is ∙ ap (λ xs. flat_map (entry_line content) xs ++ rest) (drop_all k tuples past), so_far.state_is ∙ ap (filled old name content) (take_all k tuples past))
