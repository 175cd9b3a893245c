-- What the kind of the next token says of the parts that it leads into.
use Rattle.std.proofs.Common.{◌≡◌, Bool, true, false, ◌||◌, List, [], ◌∷◌, refl, sym, ap, ◌∙◌, inl, inr, ◌⊎◌}
use Rattle.std.specs.Bool.{⊤}
use Rattle.std.proofs.lemmas.Bool.{eqb-true}
use Rattle.gms_grammar.specs.declared.terminal.Terminal.{Terminal}
use Rattle.gms_grammar.specs.declared.terminal.Terminal.TheVariants.{End, Name, Suffix, Number, Infinity, NotAvailable, YesNo}
use Rattle.gms_grammar.specs.Reading.{leads}
use Rattle.gms_grammar.specs.GamsGrammar.{productions}
use Rattle.gms_grammar.specs.LookAhead.{may_begin}
use Rattle.gms_grammar.specs.GamsLookAhead.{look_ahead}
use Rattle.gms_expressions.specs.InnerReadings.{Seen, GamsPart, kind_of}
use Rattle.gms_grammar.specs.Terminals.{is, is_terminal_among}
use Rattle.gms_expressions.proofs.TokenKinds.{leads_by_kind, implies, also, same_number}

-- a token of this kind comes next
pub leads_of : (part : GamsPart) (ts : List Seen) (kind : Terminal) {k : Terminal} → may_begin look_ahead part End ≡ false → k ≡ kind_of ts → k ≡ kind → leads productions look_ahead part ts ≡ may_begin look_ahead part kind
leads_of part ts kind closed seen is = leads_by_kind part ts closed ∙ ap (may_begin look_ahead part) (sym seen ∙ is)

-- a name comes next, or a suffix, which is one too
pub named_leads : (part : GamsPart) (ts : List Seen) (b : Bool) {k : Terminal} → may_begin look_ahead part End ≡ false → k ≡ kind_of ts → (k ≡ Name) ⊎ (k ≡ Suffix) → may_begin look_ahead part Name ≡ b → may_begin look_ahead part Suffix ≡ b →
    leads productions look_ahead part ts ≡ b
named_leads part ts b closed seen (inl is) n s = leads_of part ts Name closed seen is ∙ n
named_leads part ts b closed seen (inr is) n s = leads_of part ts Suffix closed seen is ∙ s

-- a constant comes next
pub constant_leads : (part : GamsPart) (ts : List Seen) {k : Terminal} → may_begin look_ahead part End ≡ false → k ≡ kind_of ts → (k ≡ Number) ⊎ ((k ≡ Infinity) ⊎ ((k ≡ NotAvailable) ⊎ (k ≡ YesNo))) → may_begin look_ahead part Number ≡ true → may_begin look_ahead part Infinity ≡ true →
    may_begin look_ahead part NotAvailable ≡ true → may_begin look_ahead part YesNo ≡ true → leads productions look_ahead part ts ≡ true
constant_leads part ts closed seen (inl is) h i n y = leads_of part ts Number closed seen is ∙ h
constant_leads part ts closed seen (inr (inl is)) h i n y = leads_of part ts Infinity closed seen is ∙ i
constant_leads part ts closed seen (inr (inr (inl is))) h i n y = leads_of part ts NotAvailable closed seen is ∙ n
constant_leads part ts closed seen (inr (inr (inr is))) h i n y = leads_of part ts YesNo closed seen is ∙ y

-- a kind is none of these
abbrev pub IsNone : List Terminal → Terminal → Type 0
IsNone [] kind = ⊤
IsNone (k ∷ ks) kind = ((kind ≡ k) → ⊥) × IsNone ks kind

neither : (a b : Bool) → (a ≡ true → ⊥) → b ≡ false → (a || b) ≡ false
neither true b f h = absurd (f refl)
neither false b f h = h

-- such a kind is not among them
pub not_among : (ks : List Terminal) (kind : Terminal) → IsNone ks kind → is_terminal_among ks kind ≡ false
not_among [] kind d = refl
not_among (k ∷ ks) kind d = neither (is kind k) (is_terminal_among ks kind) (λ e. d.0 (same_number kind k (eqb-true _ _ e))) (not_among ks kind d.1)

pub unless : (a b : Bool) → (a ≡ true → b ≡ true) → b ≡ false → a ≡ false
unless true b f h = let e = f refl in cc
unless false b f h = refl

-- a token of another kind than those that may begin a part comes next
pub leads_of_none : (part : GamsPart) (ts : List Seen) (ks : List Terminal) {k : Terminal} → may_begin look_ahead part End ≡ false → implies (may_begin look_ahead part) (is_terminal_among ks) ≡ true → k ≡ kind_of ts → IsNone ks k → leads productions look_ahead part ts ≡ false
leads_of_none part ts ks {k} closed among seen d =
    leads_by_kind part ts closed ∙ ap (may_begin look_ahead part) (sym seen) ∙ unless (may_begin look_ahead part k) (is_terminal_among ks k) (also (may_begin look_ahead part) (is_terminal_among ks) among k) (not_among ks k d)
