-- Whole sources: what was read of the tokens is the program, or its first fault.
use Rattle.std.proofs.Common.{◌≡◌, ◌⊎◌, inl, inr, ℕ, ◌≤◌, List, ◌++◌, length, get_or, ◌-◌, Vec, refl, sym, ap, ◌∙◌, subst}
use Rattle.std.specs.declared.alloc.Global.{Global}
use Rattle.gq_number.specs.Number.{Number}
use Rattle.gms_ast.specs.declared.program.Stmt.{Stmt}
use Rattle.gms_ast.specs.StatementView.{statements_view}
use Rattle.gms_lex.specs.declared.token.Token.{Token}
use Rattle.gms_lex.specs.Tokens.{IsTokens, most_source_bytes}
use Rattle.gms_lex.proofs.PlacedLemmas.{tokens_placed}
use Rattle.gms_grammar.specs.declared.terminal.Terminal.{Terminal}
use Rattle.gms_grammar.specs.declared.terminal.Terminal.TheVariants.{End}
use Rattle.gms_grammar.specs.Grammar.{the, yield}
use Rattle.gms_grammar.specs.GamsGrammar.{Program, productions}
use Rattle.gms_grammar.specs.GamsLookAhead.{look_ahead}
use Rattle.gms_grammar.proofs.Sound.{sound}
use Rattle.gms_grammar.proofs.Language.{gams_read_stops}
use Rattle.gms_grammar.proofs.FirstFaults.{stuck_refused, wrong_refused}
use Rattle.gms_expressions.specs.ExpressionTrees.{no_token}
use Rattle.gms_expressions.specs.Outcomes.{kinded_tokens}
use Rattle.gms_expressions.proofs.Opening.{ends_at}
use Rattle.gms_parse.specs.declared.fault.SourceFault.{SourceFault}
use Rattle.gms_parse.specs.declared.fault.SourceFaultOrMemory.{SourceFaultOrMemory}
use Rattle.gms_parse.specs.declared.fault.SourceFaultOrMemory.TheVariants.{Fault, Memory}
use Rattle.gms_parse.specs.declared.reader.Reader.{Reader}
use Rattle.gms_parse.specs.declared.reader.Tables.{Tables}
use Rattle.gms_parse.specs.Outcomes.{HaveItems, IsProgramOf, IsNoProgram, RequiresMore, IsSourceRefusal}
use Rattle.gms_parse.specs.ReadStates.{KindedToken, ReaderState, start, reader_after_all, AreTokensFaultless}
use Rattle.gms_parse.specs.InnerReadings.{IsStuck, IsWrong, IsOver, IsWhole, RefusesWhole, IsReady, seen_from}
use Rattle.gms_parse.specs.InnerMeanings.{AreStatements}
use Rattle.gms_parse.proofs.EndTokens.{has_end, end_alone}
use Rattle.gms_parse.proofs.Named.{so_far, is_so_far}
use Rattle.gms_parse.proofs.ProgramThere.{tables_have}

-- ---- no program

module _ {limit : ℕ} {source : List ℕ} {ts : List KindedToken} {fault : SourceFault} where
  over_none : IsOver limit source ts fault → IsNoProgram limit source ts fault
  over_none o = record {
    prefix = yield o.tree;
    rest = o.rest;
    stops = gams_read_stops no_token Program ts o.rest o.tree o.gives.reads;
    cause = inr (record { needs = λ e d. o.other e; are_sound = o.gives.are_sound; is = o.is });
  }

  none_of : (IsStuck limit source (the Program) start ts fault ⊎ IsWrong limit source (the Program) start ts fault) ⊎ IsOver limit source ts fault → IsNoProgram limit source ts fault
  none_of (inl (inl s)) = stuck_refused no_token RequiresMore s (λ h e. h)
  none_of (inl (inr s)) = wrong_refused no_token RequiresMore s
  none_of (inr o) = over_none o

-- what is refused is no program
pub refusal_of : {limit : ℕ} (reader : Reader) (e : SourceFaultOrMemory) → IsReady reader → length reader.source.now ≤ most_source_bytes → RefusesWhole limit reader e → IsSourceRefusal limit reader.source.now e
refusal_of reader Memory ready short r = tt
refusal_of reader (Fault fault) ready short r = inr (inr (record { short = short; tokens = reader.tokens.now; are_tokens = ready.tokens; refused = none_of (r.why fault refl) }))

-- ---- the reader of a source

pub ready_of : (reader : Reader) (items : List Token) (n : ℕ) (last : Token) → IsTokens reader.source.now items → reader.tokens.now ≡ items → n ≡ length items → last ≡ get_or items (n - 1) last → reader.end ≡ last.at → reader.unclosed ≤ 100 → IsReady reader
ready_of reader items n last h same size at is_end few =
    let tokens = subst (λ (ts : List Token). IsTokens reader.source.now ts) (sym same) h in
    record {
      tokens = tokens;
      placed = tokens_placed reader.source.now reader.tokens.now tokens;
      end = is_end ∙ ap (λ (t : Token). t.at) at ∙ ap (λ k. (get_or items (k - 1) last).at) size ∙ ends_at reader.source.now items last h;
      few = few;
    }

-- ---- a program

pub program_of : {F : Type 0} (value : F → Number) {limit : ℕ} {reader : Reader} {new : Tables} {statements : Vec (Stmt F) Global} → IsReady reader → IsWhole limit (AreStatements value reader.source.now) reader new statements →
    IsProgramOf limit reader.source.now (kinded_tokens reader.source.now reader.tokens.now) new.names new.labels (statements_view value statements.items)
program_of value {limit} {reader} {new} {statements} ready whole =
    let got = whole.got in
    let read = sound productions look_ahead got.gives.reads in
    let ended = has_end reader.source.now reader.tokens.now ready.tokens in
    let following = got.gives.leaves ∙ ap (reader_after_all reader.source.now start (yield got.tree)) whole.at_end in
    let are_sound = subst (λ (k : Terminal). AreTokensFaultless limit reader.source.now start (yield got.tree) k) whole.at_end got.gives.are_sound in
    let labels_are : new.labels ≡ (reader_after_all reader.source.now start (yield got.tree) End).labels = sym got.leaves.labels ∙ ap (λ (w : ReaderState). w.labels) following in
    record {
      tree = got.tree;
      end = ended.end;
      tokens_are = read.1 ∙ ap (λ w. yield got.tree ++ w) (end_alone ended got.tree (seen_from reader whole.next) read.0 read.1 whole.at_end);
      is_tree = read.0;
      are_sound = are_sound;
      names_are = sym got.leaves.names ∙ ap (λ (w : ReaderState). w.names) following;
      labels_are = labels_are;
      tables = subst (λ (ls : List (List ℕ)). HaveItems limit reader.source.now ls (yield got.tree)) (sym labels_are) (tables_have limit reader.source.now (yield got.tree) are_sound);
      statements_are = got.means (so_far new) (is_so_far new);
    }
