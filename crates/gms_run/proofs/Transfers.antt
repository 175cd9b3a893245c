-- A file that is opened and read from a host, piece by piece.
use Rattle.std.proofs.Common.{◌≡◌, ℕ, ◌+◌, ◌≤◌, true, List, [], ◌∷◌, ◌++◌, length, take, drop, Option, Some, None, Result, Ok, Err, refl, sym, ap, ◌∙◌, subst, Bool, false, arith, length-drop, length-append, length-take, inl, inr}
use Rattle.std.proofs.Math.Seq.{take-add}
use Rattle.std.proofs.lemmas.List.{take_all, drop_all, drop-drop, take-append-le}
use Rattle.std.specs.Prelude.{IfSome, IsSome, Vec, is_some, option_map}
use Rattle.std.specs.declared.alloc.Global.{Global}
use Rattle.std.specs.FinMap as files_map
use Rattle.gms_host.specs.declared.host.Failed.{Failed}
use Rattle.gms_host.specs.Meaning.{Counts, Files, Meaning, Outside}
use Rattle.gms_host.specs.declared.host.Failed.TheVariants.{Fault, Memory}
use Rattle.gms_host.specs.Rules.{ClosesOutput, CountsReading, GivesFirst, IsInput, OpensInput, with_asked, with_kept, with_opened, with_output}
use Rattle.gms_host.specs.Spooling.{WritesPrefix}
use Rattle.gms_host.proofs.Counting.{all_done, done_with, reading_more, reading_none}
use Rattle.gms_run.specs.Statuses.{AddsPrefix, IsFileOf, IsUnwrittenFile, with_file, with_listing}
use Rattle.gms_run.specs.InnerSteps.{ResultsIn}
use Rattle.gms_run.specs.InnerReports.{ReadsFile, TakesFirst}

module _ (most : ℕ) where
  -- what was read so far of a source, and that the input gives what is left
  pub record ReadSoFar (old now : Meaning) (taken : List ℕ) : Type 0 where
    pub few : length taken ≤ most
    pub beginning : IfSome old.outside.input (λ bytes. taken ≡ take (length taken) bytes)
    pub outside : now.outside ≡ record old.outside { input = option_map (λ (bytes : List ℕ). drop (length taken) bytes) old.outside.input }
    pub counts : CountsReading all_done (Unit {0}) old.counts now.counts

  -- the bytes so far, after one more read
  prefix_more : (input : Option (List ℕ)) (taken items buffer : List ℕ) (count : ℕ) → IfSome input (λ bytes. taken ≡ take (length taken) bytes) → IfSome (option_map (λ (bytes : List ℕ). drop (length taken) bytes) input) (λ bytes. GivesFirst bytes count buffer) →
      length items ≡ length taken + count → items ≡ taken ++ take count buffer → IfSome input (λ bytes. items ≡ take (length items) bytes)
  prefix_more None taken items buffer count so g n e = tt
  prefix_more (Some bytes) taken items buffer count so g n e =
      e ∙ ap (λ (x : List ℕ). x ++ take count buffer) so ∙ ap (λ (x : List ℕ). take (length taken) bytes ++ x) g.given ∙ sym (take-add (length taken) count bytes) ∙ ap (λ (k : ℕ). take k bytes) (sym n)

  -- what the input gives, after a read took more off
  left_more : (input : Option (List ℕ)) (k n count : ℕ) → n ≡ k + count → option_map (λ (bytes : List ℕ). drop count bytes) (option_map (λ (bytes : List ℕ). drop k bytes) input) ≡ option_map (λ (bytes : List ℕ). drop n bytes) input
  left_more None k n count e = refl
  left_more (Some bytes) k n count e = ap Some (drop-drop count k bytes ∙ ap (λ (j : ℕ). drop j bytes) (sym e))

  -- More was read: the first `count` bytes of a buffer.
  pub read_more : (old now next : Meaning) (taken items buffer rest : List ℕ) (count : ℕ) → ReadSoFar old now taken → count ≤ length buffer → IfSome now.outside.input (λ bytes. GivesFirst bytes count buffer) × (next.outside ≡ record now.outside { input = option_map (λ (bytes : List ℕ). drop count bytes) now.outside.input }) →
      CountsReading (done_with count) (Unit {0}) now.counts next.counts → items ≡ taken ++ take count (buffer ++ rest) → length buffer + length taken ≤ most → ReadSoFar old next items
  read_more old now next taken items buffer rest count so within_bound r counts e few =
      let e' : items ≡ taken ++ take count buffer = e ∙ ap (λ (x : List ℕ). taken ++ x) (take-append-le count buffer rest within_bound) in
      let n : length items ≡ length taken + count = ap length e' ∙ omega (arith, length-append taken (take count buffer), length-take count buffer, within_bound) in
      let input : now.outside.input ≡ option_map (λ (bytes : List ℕ). drop (length taken) bytes) old.outside.input = ap (λ (o : Outside). o.input) so.outside in
      record {
        few = omega (arith, n, within_bound, few);
        beginning = prefix_more old.outside.input taken items buffer count so.beginning (subst (λ (o : Option (List ℕ)). IfSome o (λ bytes. GivesFirst bytes count buffer)) input r.0) n e';
        outside =
            r.1
            ∙ ap (λ (o : Outside). record o { input = option_map (λ (bytes : List ℕ). drop count bytes) now.outside.input }) so.outside
            ∙ ap (λ (i : Option (List ℕ)). record old.outside { input = i }) (ap (option_map (λ (bytes : List ℕ). drop count bytes)) input ∙ left_more old.outside.input (length taken) (length items) count n);
        counts = reading_more tt (λ t. t) so.counts (reading_more count (λ t. t) counts (done_reading next.counts));
      }
    where
      done_reading : (c : Counts) → CountsReading all_done (Unit {0}) c c
      done_reading c = reading_none tt (Unit {0}) c

  -- The input is at its end.
  pub read_end : (old now next : Meaning) (taken : Vec ℕ Global) (buffer : List ℕ) (count : ℕ) → ReadSoFar old now taken.items → IfSome now.outside.input (λ bytes. GivesFirst bytes count buffer) × (next.outside ≡ record now.outside { input = option_map (λ (bytes : List ℕ). drop count bytes) now.outside.input }) → count ≡ 0 →
      TakesFirst most (done_with taken) old.outside next.outside
  read_end old now next taken buffer count so r e = by old.outside.input refl
    where
      items : List ℕ
      items = taken.items

      input : now.outside.input ≡ option_map (λ (bytes : List ℕ). drop (length items) bytes) old.outside.input
      input = ap (λ (o : Outside). o.input) so.outside

      outside : (next.outside) ≡ record old.outside { input = option_map (λ (bytes : List ℕ). drop count bytes) now.outside.input }
      outside = r.1 ∙ ap (λ (o : Outside). record o { input = option_map (λ (bytes : List ℕ). drop count bytes) now.outside.input }) so.outside

      RunInput : Option (List ℕ) → Type 0
      RunInput i = (whole : List ℕ) × (IfSome i (λ bytes. whole ≡ bytes) × ((items ≡ take (most) whole) × (next.outside ≡ record old.outside { input = option_map (λ (_ : List ℕ). drop (most) whole) i })))

      by : (i : Option (List ℕ)) → old.outside.input ≡ i → RunInput old.outside.input
      by None e0 =
          let now_none : now.outside.input ≡ None = input ∙ ap (option_map (λ (bytes : List ℕ). drop (length items) bytes)) e0 in
          subst RunInput (sym e0) (items, (tt, (sym (take_all (most) items so.few), outside ∙ ap (λ (j : Option (List ℕ)). record old.outside { input = option_map (λ (bytes : List ℕ). drop count bytes) j }) now_none)))
      by (Some bytes) e0 =
          let now_some : now.outside.input ≡ Some (drop (length items) bytes) = input ∙ ap (option_map (λ (b : List ℕ). drop (length items) b)) e0 in
          let gives : GivesFirst (drop (length items) bytes) count buffer = subst (λ (o : Option (List ℕ)). IfSome o (λ b. GivesFirst b count buffer)) now_some r.0 in
          let none : drop (length items) bytes ≡ [] = gives.end.0 e in
          let n : length (drop (length items) bytes) ≡ length {A = ℕ} [] = ap length none in
          let short : length bytes ≤ length items = omega (arith, n, length-drop (length items) bytes) in
          let beginning : items ≡ take (length items) bytes = subst (λ (o : Option (List ℕ)). IfSome o (λ b. items ≡ take (length items) b)) e0 so.beginning in
          subst RunInput (sym e0) (
            bytes,
            (
              refl,
              (
                beginning ∙ take_all (length items) bytes short ∙ sym (take_all (most) bytes (omega (arith, short, so.few))),
                outside ∙ ap (λ (j : Option (List ℕ)). record old.outside { input = option_map (λ (b : List ℕ). drop count b) j }) now_some
                    ∙ ap (λ (b : List ℕ). record old.outside { input = Some b }) (ap (λ (k : ℕ). drop k (drop (length items) bytes)) e ∙ none ∙ sym (drop_all (most) bytes (omega (arith, short, so.few)))),
              ),
            ),
          )

  -- One byte more than a source may have was taken.
  pub read_full : (old now : Meaning) (taken : Vec ℕ Global) → ReadSoFar old now taken.items → most ≤ length taken.items → TakesFirst most (done_with taken) old.outside now.outside
  read_full old now taken so full = by old.outside.input refl
    where
      items : List ℕ
      items = taken.items

      all : length items ≡ most
      all = omega (arith, full, so.few)

      RunInput : Option (List ℕ) → Type 0
      RunInput i = (whole : List ℕ) × (IfSome i (λ bytes. whole ≡ bytes) × ((items ≡ take (most) whole) × (now.outside ≡ record old.outside { input = option_map (λ (_ : List ℕ). drop (most) whole) i })))

      by : (i : Option (List ℕ)) → old.outside.input ≡ i → RunInput old.outside.input
      by None e0 = subst RunInput (sym e0) (items, (tt, (sym (take_all (most) items so.few), so.outside ∙ ap (λ (j : Option (List ℕ)). record old.outside { input = option_map (λ (bytes : List ℕ). drop (length items) bytes) j }) e0)))
      by (Some bytes) e0 =
          let beginning : items ≡ take (length items) bytes = subst (λ (o : Option (List ℕ)). IfSome o (λ b. items ≡ take (length items) b)) e0 so.beginning in
          subst RunInput (sym e0) (bytes, (refl, (beginning ∙ ap (λ (k : ℕ). take k bytes) all, so.outside ∙ ap (λ (j : Option (List ℕ)). record old.outside { input = option_map (λ (b : List ℕ). drop (length items) b) j }) e0 ∙ ap (λ (k : ℕ). record old.outside { input = Some (drop k bytes) }) all)))

  -- the input is still open while it is read
  pub reads_on : (old now : Meaning) (taken : List ℕ) → ReadSoFar old now taken → old.outside.reading ≡ true → now.outside.reading ≡ true
  reads_on old now taken so opened = ap (λ (o : Outside). o.reading) so.outside ∙ opened

  -- nothing was read yet
  pub read_start : (old : Meaning) → ReadSoFar old old []
  read_start old =
      record {
        few = omega arith;
        beginning = by_prefix old.outside.input;
        outside = ap (λ (i : Option (List ℕ)). record old.outside { input = i }) (same old.outside.input);
        counts = reading_none tt (Unit {0}) old.counts;
      }
    where
      by_prefix : (i : Option (List ℕ)) → IfSome i (λ bytes. [] ≡ take (length {A = ℕ} []) bytes)
      by_prefix None = tt
      by_prefix (Some bytes) = refl

      same : (i : Option (List ℕ)) → i ≡ option_map (λ (bytes : List ℕ). drop (length {A = ℕ} []) bytes) i
      same None = refl
      same (Some bytes) = refl

  -- A read that failed changed nothing but the input.
  pub read_failed : (r : Result (Vec ℕ Global) Failed) (failed : Failed) (old now next : Meaning) (taken : List ℕ) → r ≡ Err failed → ReadSoFar old now taken → next.outside ≡ now.outside → TakesFirst most r old.outside next.outside
  read_failed r failed old now next taken is so same =
      subst (λ (x : Result (Vec ℕ Global) Failed). TakesFirst most x old.outside next.outside) (sym is)
      (same ∙ so.outside ∙ ap (λ (i : Option (List ℕ)). record old.outside { input = i }) (sym (ap (λ (o : Outside). o.input) (same ∙ so.outside))))

  -- ---- files

  -- where a file is opened, its bytes are the source
  source_of : (old : Outside) (file : List ℕ) (input : Option (List ℕ)) (whole : List ℕ) → IsInput old file input → IfSome input (λ bytes. whole ≡ bytes) → IsFileOf old file whole
  source_of old file input whole is same = by old.files is.1
    where
      of_input : (i : Option (List ℕ)) → IsSome i → IfSome i (λ bytes. whole ≡ bytes) → i ≡ Some whole
      of_input None some e = cc
      of_input (Some bytes) some e = ap Some (sym e)

      by : (files : Option Files) → IfSome files (λ f. IsSome (files_map.get f file) × (input ≡ files_map.get f file)) → IfSome files (λ f. files_map.get f file ≡ Some whole)
      by None is = tt
      by (Some f) is = sym is.1 ∙ of_input input (subst (λ (o : Option (List ℕ)). IsSome o) (sym is.1) is.0) same

  -- two inputs that are both exposed or both hidden become the same when one value replaces the
  -- exposed one
  told_alike : {A : Type 0} (a b : Option (List ℕ)) (x : A) → is_some a ≡ is_some b → option_map (λ (_ : List ℕ). x) a ≡ option_map (λ (_ : List ℕ). x) b
  told_alike None None x e = refl
  told_alike None (Some b) x e = cc
  told_alike (Some a) None x e = cc
  told_alike (Some a) (Some b) x e = refl

  -- A file was opened, and its source taken, or not.
  pub reads_file : (r : Result (Vec ℕ Global) Failed) (old mid new : Outside) (file : List ℕ) → OpensInput all_done old mid file → TakesFirst most r mid new → ReadsFile most r old new file
  reads_file (Ok source) old mid new file opened taken =
      let input = opened.0 in
      let whole = taken.0 in
      let now : mid.input ≡ input = ap (λ (o : Outside). o.input) opened.2 in
      let left : option_map (λ (_ : List ℕ). drop (most) whole) mid.input ≡ option_map (λ (_ : List ℕ). drop (most) whole) old.input =
      ap (option_map (λ (_ : List ℕ). drop (most) whole)) now ∙ told_alike input old.input (drop (most) whole) opened.1.0 in (
        whole,
        (
          source_of old file input whole opened.1 (subst (λ (i : Option (List ℕ)). IfSome i (λ bytes. whole ≡ bytes)) now taken.1.0),
          (
            taken.1.1.0,
            taken.1.1.1 ∙ ap (λ (o : Outside). record o { input = option_map (λ (_ : List ℕ). drop (most) whole) mid.input }) opened.2 ∙ ap (λ (i : Option (List ℕ)). record (with_asked old (file ∷ [])) { input = i; reading = true }) left,
          ),
        ),
      )
  reads_file (Err failed) old mid new file opened taken =
      let e : new ≡ record (with_asked old (file ∷ [])) { input = new.input; reading = true } = taken ∙ ap (λ (o : Outside). record o { input = new.input }) opened.2 in
      inr (e ∙ ap (λ (b : Bool). record (with_asked old (file ∷ [])) { input = new.input; reading = b }) (sym (ap (λ (o : Outside). o.reading) e)))

  -- The file was not opened.
  pub file_unopened : (r : Result (Vec ℕ Global) Failed) (failed : Failed) (old new : Outside) (file : List ℕ) → r ≡ Err failed → OpensInput (Err failed) old new file → ReadsFile most r old new file
  file_unopened r failed old new file is opened =
      subst (λ (x : Result (Vec ℕ Global) Failed). ReadsFile most x old new file) (sym is) (elim opened [
        | inl e ↦ inl (e ∙ ap (λ (i : Option (List ℕ)). record old { input = i; reading = false }) (sym (ap (λ (o : Outside). o.input) e)) ∙ ap (λ (b : Bool). record old { input = new.input; reading = b }) (sym (ap (λ (o : Outside). o.reading) e)))
        | inr e ↦ inr (e ∙ ap (λ (i : Option (List ℕ)). record (with_asked old (file ∷ [])) { input = i; reading = false }) (sym (ap (λ (o : Outside). o.input) e)) ∙ ap (λ (b : Bool). record (with_asked old (file ∷ [])) { input = new.input; reading = b }) (sym (ap (λ (o : Outside). o.reading) e)))
      ])

-- ---- files that are written

-- The bytes were not all written to an opened file.
pub unwritten_file : (old mid new : Outside) (name bytes : List ℕ) → mid ≡ with_opened old name → WritesPrefix mid new bytes → AddsPrefix (with_opened old name) new bytes
unwritten_file old mid new name bytes opened beginning =
    record { added = beginning.1.bytes; missing = beginning.0; split = beginning.1.split; outside = beginning.1.written ∙ ap (λ (o : Outside). with_output o beginning.1.bytes) opened }

-- They were, and the file was closed, or was not closed well.
pub closes_file : (r : Result (Unit {0}) Failed) (old mid wrote new : Outside) (name bytes : List ℕ) → mid ≡ with_opened old name → wrote ≡ with_output mid bytes → ClosesOutput r wrote new →
    ResultsIn r (λ done. new ≡ with_file old name bytes) (IsUnwrittenFile old new name bytes)
closes_file r old mid wrote new name bytes opened written = by r
  where
    whole : wrote ≡ with_listing old name bytes
    whole = written ∙ ap (λ (o : Outside). with_output o bytes) opened

    by : (x : Result (Unit {0}) Failed) → ClosesOutput x wrote new → ResultsIn x (λ done. new ≡ with_file old name bytes) (IsUnwrittenFile old new name bytes)
    by (Ok done) closed = closed ∙ ap with_kept whole
    by (Err Fault) closed = inr (inr (closed ∙ ap (λ (o : Outside). record o { writing = false }) whole))
    by (Err Memory) closed = tt
