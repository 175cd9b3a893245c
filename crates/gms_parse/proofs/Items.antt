-- Elements with their positions, and lists of them.
use Rattle.std.proofs.Math.Bool.{or-false, or_assoc}
use Rattle.std.proofs.Common.{◌≡◌, ℕ, Bool, false, ◌||◌, List, [], ◌∷◌, ◌++◌, map, Some, None, Vec, refl, sym, ap, ap₂, ◌∙◌, subst, arith}
use Rattle.std.specs.declared.alloc.Global.{Global}
use Rattle.std.proofs.lemmas.List.{map_push}
use Rattle.gq_number.specs.Number.{Number as Rational}
use Rattle.gq_extended.specs.declared.extended.Ext.{Ext}
use Rattle.gms_ast.specs.declared.declaration.Item.{Item}
use Rattle.gms_ast.specs.StatementView.{extended_in, item_in}
use Rattle.gms_lex.specs.declared.token.Token.{Token}
use Rattle.gms_grammar.specs.declared.terminal.Terminal.{Terminal}
use Rattle.gms_grammar.specs.declared.terminal.Terminal.TheVariants.{Dot, Comma, Break, Slash, Equals}
use Rattle.gms_grammar.specs.Grammar.{the, ◌·◌, opt, node}
use Rattle.gms_grammar.specs.Reading.{leads}
use Rattle.gms_grammar.specs.Terminals.{is, is_terminal_among}
use Rattle.gms_grammar.specs.GamsGrammar.{Element, ElementPart, Entry, Value, productions, token}
use Rattle.gms_grammar.specs.GamsLookAhead.{look_ahead}
use Rattle.gms_labels.specs.declared.place.Place.{Place}
use Rattle.gms_expressions.specs.Outcomes.{next_place}
use Rattle.gms_expressions.specs.ExpressionTrees.{second_in}
use Rattle.gms_parse.specs.declared.data.ListOf.{ListOf}
use Rattle.gms_parse.specs.declared.data.ListOf.TheVariants as list_of_kind
use Rattle.gms_parse.specs.declared.data.Part.{Part as Position}
use Rattle.gms_parse.specs.declared.data.Element.{Element as ElementNode}
use Rattle.gms_parse.specs.declared.fault.SourceFaultOrMemory.{SourceFaultOrMemory}
use Rattle.gms_parse.specs.declared.reader.Reader.{Reader}
use Rattle.gms_parse.specs.declared.reader.Tables.{Tables}
use Rattle.gms_parse.specs.DataLists.{listed_in, any_true, labels_in_part, has_bad_range}
use Rattle.gms_parse.specs.ReadStates.{KindedToken, ReaderState}
use Rattle.gms_parse.specs.InnerReadings.{Derivation, GamsPart, Gives, Refuses, IsGot, Has, Stays, IsNext, IsLacking, seen_from}
use Rattle.gms_parse.specs.InnerMeanings.{IsPart, IsElement, IsGiven, IsListed, AreListed, listed_part, list_part, listed_meaning, list_meaning}
use Rattle.gms_parse.proofs.TokenKinds.{unled_next}
use Rattle.gms_parse.proofs.Steps.{got_by, gives_both, gives_the, gives_none, gives_some, refuses_the, refuses_first, refuses_second, refuses_some}
use Rattle.gms_parse.proofs.Nexts.{past, leads_next, gives_exact, refuses_lacking, plain_stays, stays_then, stays_same}
use Rattle.gms_expressions.proofs.Chains.{place_read}
use Rattle.gms_parse.proofs.Listing.{AreAll, all_meant, list_of, Listing, listing_start, listing_on, listing_got, separated_read_state}

-- ---- elements

-- the positions of an element read so far
pub record Positions (limit : ℕ) (reader : Reader) (start : ℕ) (w : ReaderState) (new : Tables) (parts : List (List ℕ)) (bad : Bool) (at : ℕ) : Type 0 where
  pub ghost : List Position
  pub parts_are : parts ≡ map (λ (p : Position). p.labels.items) ghost
  pub bad_is : bad ≡ any_true (map (λ (p : Position). p.bad_range) ghost)
  pub listing : Listing limit (IsPart reader.source.now) (is Dot) (the ElementPart) reader start w new ghost at

any_push : (f : Position → Bool) (xs : List Position) (x : Position) → any_true (map f (xs ++ x ∷ [])) ≡ (any_true (map f xs) || f x)
any_push f [] x = or-false (f x)
any_push f (y ∷ xs) x = ap (λ b. f y || b) (any_push f xs x) ∙ sym (or_assoc (f y) (any_true (map f xs)) (f x))

module _ {limit : ℕ} {reader : Reader} {start : ℕ} {w : ReaderState} where
  pub positions_start : {new : Tables} {part : Position} {at : ℕ} {bad : Bool} → IsGot limit (IsPart reader.source.now) (Stays reader new w) (the ElementPart) reader start new w part at → (parts : List (List ℕ)) → parts ≡ part.labels.items ∷ [] → bad ≡ part.bad_range → Positions limit reader start w new parts bad at
  positions_start {part = part} got parts one_part bad_is = record { ghost = part ∷ []; parts_are = one_part; bad_is = bad_is ∙ sym (or-false part.bad_range); listing = listing_start got (part ∷ []) refl }

  pub positions_on : {new : Tables} {parts : List (List ℕ)} {bad : Bool} {at : ℕ} (l : Positions limit reader start w new parts bad at) {t : Token} {following : ℕ} (n : IsNext (is Dot) reader at t following) {newer : Tables} {part : Position} {after : ℕ} →
      IsGot limit (IsPart reader.source.now) (Stays reader newer (separated_read_state l.listing n)) (the ElementPart) reader following newer (separated_read_state l.listing n) part after → (now : List (List ℕ)) → now ≡ parts ++ part.labels.items ∷ [] → (worse : Bool) → worse ≡ (bad || part.bad_range) → Positions limit reader start w newer now worse after
  positions_on l n {part = part} got now one_more worse bad_is = record {
    ghost = l.ghost ++ part ∷ [];
    parts_are = one_more ∙ ap (λ u. u ++ part.labels.items ∷ []) l.parts_are ∙ sym (map_push (λ (p : Position). p.labels.items) l.ghost part);
    bad_is = bad_is ∙ ap (λ b. b || part.bad_range) l.bad_is ∙ sym (any_push (λ (p : Position). p.bad_range) l.ghost part);
    listing = listing_on l.listing n refl got (l.ghost ++ part ∷ []) refl;
  }

  pub element_got : {new : Tables} {parts : List (List ℕ)} {bad : Bool} {at : ℕ} (l : Positions limit reader start w new parts bad at) → leads productions look_ahead (token Dot) (seen_from reader at) ≡ false → (element : ElementNode) → element.parts.items ≡ parts → element.bad_range ≡ bad → element.at ≡ next_place reader.source.now (seen_from reader start) →
      IsGot limit (IsElement reader.source.now) (Stays reader new w) (the Element) reader start new w element at
  element_got l unled element parts_are bad_is placed =
      let got = listing_got l.listing unled in
      let gives = gives_the Element got.gives in
      got_by gives got.leaves
      (λ sense s. (
        placed ∙ sym (place_read (the Element) refl gives),
        parts_are ∙ l.parts_are ∙ all_meant (IsPart reader.source.now) (λ (p : Position). p.labels.items) (labels_in_part reader.source.now sense.labels) sense (λ tree x h. h.0) got.tree l.ghost (got.means sense s),
        bad_is ∙ l.bad_is ∙ ap any_true (all_meant (IsPart reader.source.now) (λ (p : Position). p.bad_range) (has_bad_range reader.source.now sense.labels) sense (λ tree x h. h.1) got.tree l.ghost (got.means sense s)),
      ))
      got.further

-- ---- items

-- an element as an item without a value
pub lone_item : {F : Type 0} (value : F → Rational) {limit : ℕ} {reader : Reader} {at next : ℕ} {new : Tables} {w : ReaderState} (element : ElementNode) (item : Item F) → item_in value item ≡ record { at = element.at; parts = element.parts.items; value = None; bad_range = element.bad_range } →
    IsGot limit (IsElement reader.source.now) (Stays reader new w) (the Element) reader at new w element next → IsGot limit (IsListed value reader.source.now list_of_kind.Elements) (Stays reader new w) (the Element) reader at new w item next
lone_item value element item shown got = got_by got.gives got.leaves
    (λ sense s. let m = got.means sense s in shown ∙ ap₂ (λ (p : Place) (x : List (List ℕ) × Bool). record { at = p; parts = x.0; value = None; bad_range = x.1 }) m.0 (ap₂ (λ a b. (a, b)) m.1 m.2)) got.further

-- an element with a value
pub entry_got : {F : Type 0} (value : F → Rational) {limit : ℕ} {reader : Reader} {at middle next : ℕ} {new : Tables} {w : ReaderState} (element : ElementNode) (v : Ext F) (item : Item F) → item_in value item ≡ record { at = element.at; parts = element.parts.items; value = Some (extended_in value v); bad_range = element.bad_range } →
    (got : IsGot limit (IsElement reader.source.now) (Stays reader new w) (the Element) reader at new w element middle) → IsGot limit (λ sense tree v. IsGiven value reader.source.now sense (second_in tree) v) (Stays reader new got.following) (opt (token Equals) · the Value) reader middle new got.following v next →
    IsGot limit (IsListed value reader.source.now list_of_kind.Entries) (Stays reader new w) (the Entry) reader at new w item next
entry_got value element v item shown got given = got_by (gives_the Entry (gives_both got.gives given.gives)) (stays_then got.leaves given.leaves)
    (λ sense s.
    let m = got.means sense s in
    shown ∙ ap₂ (λ (p : Place × Ext Rational) (x : List (List ℕ) × Bool). record { at = p.0; parts = x.0; value = Some p.1; bad_range = x.1 }) (ap₂ (λ a b. (a, b)) m.0 (given.means sense s)) (ap₂ (λ a b. (a, b)) m.1 m.2))
    (let a = got.further in let b = given.further in omega arith)

-- ---- lists between slashes

abbrev pub separators : Terminal → Bool
separators = is_terminal_among (Comma ∷ Break ∷ [])

list_production : (list : ListOf) → productions (list_part list) ≡ list_of separators (the (listed_part list))
list_production list_of_kind.Elements = refl
list_production list_of_kind.Entries = refl

list_meant : (list : ListOf) (source : List ℕ) (labels : List (List ℕ)) (tree : Derivation) → listed_in (listed_meaning list source labels) tree ≡ list_meaning list source labels (node tree)
list_meant list_of_kind.Elements source labels tree = refl
list_meant list_of_kind.Entries source labels tree = refl

gives_list : (list : ListOf) {limit : ℕ} {source : List ℕ} {w v : ReaderState} {ts rest : List KindedToken} {tree : Derivation} → Gives limit source (list_of separators (the (listed_part list))) w ts tree v rest → Gives limit source (the (list_part list)) w ts (node tree) v rest
gives_list list {limit} {source} {w} {v} {ts} {rest} {tree} g = gives_the (list_part list) (subst (λ (p : GamsPart). Gives limit source p w ts tree v rest) (sym (list_production list)) g)

pub no_list : {F : Type 0} (value : F → Rational) (list : ListOf) {limit : ℕ} {reader : Reader} {at : ℕ} {tables : Tables} {w : ReaderState} (items : Vec (Item F) Global) → items.items ≡ [] → leads productions look_ahead (token Slash) (seen_from reader at) ≡ false → Has reader tables w →
    IsGot limit (AreListed value reader.source.now list) (Stays reader tables w) (opt (token Slash · the (list_part list) · token Slash)) reader at tables w items at
no_list value list {reader = reader} {at = at} {w = w} items none_yet unled h = got_by (gives_none (unled_next (is Slash) (the (list_part list) · token Slash) (seen_from reader at) unled)) (stays_same h) (λ sense s. ap (map (item_in value)) none_yet)
    (omega arith)

module _ (list : ListOf) {limit : ℕ} {reader : Reader} {at following : ℕ} {t : Token} {old : Tables} {w : ReaderState} (h : Has reader old w) (n : IsNext (is Slash) reader at t following) where
  pub list_refused : {e : SourceFaultOrMemory} → Refuses limit reader.source.now (list_of separators (the (listed_part list))) (past reader w Slash t following) (seen_from reader following) e → Refuses limit reader.source.now (opt (token Slash · the (list_part list) · token Slash)) w (seen_from reader at) e
  list_refused {e} r = refuses_some (leads_next (the (list_part list) · token Slash) n) (refuses_second (gives_exact {kind = Slash} n refl) (refuses_first (refuses_the (list_part list) (subst (λ (p : GamsPart). Refuses limit reader.source.now p (past reader w Slash t following) (seen_from reader following) e) (sym (list_production list)) r))))

  module _ {F : Type 0} (value : F → Rational) {new : Tables} {items : List (Item F)} {next : ℕ} (got : IsGot limit (AreAll (IsListed value reader.source.now list)) (Stays reader new (past reader w Slash t following)) (list_of separators (the (listed_part list))) reader following new (past reader w Slash t following) items next) where
    pub list_unclosed : {e : SourceFaultOrMemory} → IsLacking (is Slash) reader next e → Refuses limit reader.source.now (opt (token Slash · the (list_part list) · token Slash)) w (seen_from reader at) e
    list_unclosed l = refuses_some (leads_next (the (list_part list) · token Slash) n) (refuses_second (gives_exact {kind = Slash} n refl) (refuses_second (gives_list list got.gives) (refuses_lacking l)))

    pub list_got : {end : Token} {after : ℕ} → IsNext (is Slash) reader next end after → (all : Vec (Item F) Global) → all.items ≡ items → IsGot limit (AreListed value reader.source.now list) (Stays reader new w) (opt (token Slash · the (list_part list) · token Slash)) reader at new w all after
    list_got {end} {after} m all same = got_by (gives_some (leads_next (the (list_part list) · token Slash) n) (gives_both (gives_exact {kind = Slash} n refl) (gives_both (gives_list list got.gives) (gives_exact {kind = Slash} m refl))))
        (stays_then (plain_stays reader w Slash t following refl h) (stays_then got.leaves (plain_stays reader got.following Slash end after refl got.leaves.has)))
        (λ sense s. ap (map (item_in value)) same ∙ all_meant (IsListed value reader.source.now list) (item_in value) (listed_meaning list reader.source.now sense.labels) sense (λ tree x h. h) got.tree items (got.means sense s) ∙ list_meant list reader.source.now sense.labels got.tree)
        (let a = n.further in let b = got.further in let c = m.further in omega arith)
