-- The first file of a name is what the finite map of the files has at that name.
use Rattle.std.proofs.Common.{◌≡◌, ◌<◌, ◌+◌, ℕ, suc, List, true, false, cond, ap, ◌∙◌, map, drop, length, get_or, string_bytes, add-one, drop-cons}
use Rattle.std.specs.Prelude.{String, Vec, Some, Option}
use Rattle.std.specs.declared.alloc.Global.{Global}
use Rattle.std.specs.Str.{bytes_eq}
use Rattle.std.specs.Ordering.{nat_cmp, is_eq}
use Rattle.std.specs.Cmp.Lexicographic.{slice_cmp}
use Rattle.std.specs.FinMap as finite
use Rattle.std.proofs.lemmas.Cmp.{nat_list_cmp_total, eq_by_cmp_equiv}
use Rattle.std.proofs.lemmas.Map.Text.{is_eq-slice_cmp}
use Rattle.gms_host.specs.MemoryState.{files_of}

-- the entry of a file: its name and its bytes
abbrev pub entry_of : String Global × Vec ℕ Global → List ℕ × List ℕ
entry_of file = (string_bytes file.0, file.1.items)

-- the bytes of the first of these files of that name
abbrev pub first_of_name : List (String Global × Vec ℕ Global) → List ℕ → Option (List ℕ)
first_of_name files name = finite.find (slice_cmp nat_cmp) name (map entry_of files)

pub get-files_of : (files : List (String Global × Vec ℕ Global)) (name : List ℕ) → finite.get (files_of files) name ≡ first_of_name files name
get-files_of files name = finite.get-from_entries nat_list_cmp_total (map entry_of files) name

is_name : (name known : List ℕ) → is_eq (slice_cmp nat_cmp name known) ≡ bytes_eq known name
is_name name known = (eq_by_cmp_equiv nat_list_cmp_total).symm name known ∙ is_eq-slice_cmp known name

module _ (files : List (String Global × Vec ℕ Global)) (i : ℕ) (file : String Global × Vec ℕ Global) (name : List ℕ) (here : file ≡ get_or files i file) (within : i < length files) where
  first_from : first_of_name (drop i files) name ≡ cond (bytes_eq (string_bytes file.0) name) (Some file.1.items) (first_of_name (drop (i + 1) files) name)
  first_from =
      rw (add-one, drop-cons files i file, ← here)
      (ap (λ b. cond b (Some file.1.items) (first_of_name (drop (suc i) files) name)) (is_name name (string_bytes file.0)))

  -- a file of that name is the first of those from it on
  pub first_here : bytes_eq (string_bytes file.0) name ≡ true → first_of_name (drop i files) name ≡ Some file.1.items
  first_here e = first_from ∙ ap (λ b. cond b (Some file.1.items) (first_of_name (drop (i + 1) files) name)) e

  -- where a file has another name, the first is one of those after it
  pub first_later : bytes_eq (string_bytes file.0) name ≡ false → first_of_name (drop i files) name ≡ first_of_name (drop (i + 1) files) name
  first_later e = first_from ∙ ap (λ b. cond b (Some file.1.items) (first_of_name (drop (i + 1) files) name)) e
