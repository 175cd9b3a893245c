-- One piece more was read.
use Rattle.std.proofs.Common.{◌≡◌, ℕ, ◌+◌, ◌-◌, ◌*◌, ◌<◌, ◌≤◌, ◌++◌, List, [], ◌∷◌, length, take, drop, Result, Ok, Err, IfOk, IsErrAnd, Fits, w64, refl, sym, ap, ◌∙◌, subst, arith}
use Rattle.std.proofs.lemmas.List.{take_rest, length-drop, length-take, length-take-le}
use Rattle.gms_labels.specs.declared.place.Place.{Place}
use Rattle.gms_grammar.specs.declared.kind.Kind.TheVariants.{End}
use Rattle.gms_grammar.specs.declared.lexeme.Lexeme.{Lexeme}
use Rattle.gms_grammar.specs.declared.lexeme.Piece.TheVariants as piece
use Rattle.gms_grammar.specs.Shapes.{Read}
use Rattle.gms_lex.specs.declared.mode.Mode.{Mode}
use Rattle.gms_lex.specs.declared.token.Token.{Token}
use Rattle.gms_lex.specs.Modes.{mode_after}
use Rattle.gms_lex.specs.Pieces.{piece_at}
use Rattle.gms_lex.specs.Places.{place_after_bytes, place_of_byte}
use Rattle.gms_lex.specs.Tokens.{token_at, end_token, HasTokens}
use Rattle.gms_lex.proofs.PlaceLemmas.{place_of-add}
use Rattle.gms_lex.proofs.ReadingLemmas.{Opens, Opens-prefix, Opens-next, Opens-stops, Opens-end, lexeme_within}
use Rattle.gms_lex.proofs.lexer.read_tokens.Goals as goal

-- what was read at the start of the rest of the code is the first piece there
read_there : (mode : Mode) (code : List ℕ) (start : ℕ) (r s : Read) → r ≡ piece_at mode (take (length code - start) (drop start code)) → r ≡ s → piece_at mode (drop start code) ≡ s
read_there mode code start r s read is = ap (piece_at mode) (sym (take_rest code start)) ∙ sym read ∙ is

-- a piece ends within the code
piece_ends : (mode : Mode) (code : List ℕ) (start : ℕ) (p : Lexeme) → start ≤ length code → piece_at mode (drop start code) ≡ Ok p → start + p.length ≤ length code
piece_ends mode code start p within there =
    omega (arith, (lexeme_within mode (drop start code) p there).1, length-drop start code)

fits_u64 : (n long source : ℕ) → n ≤ long → long ≡ source → source ≤ 1048576 → Fits w64 n
fits_u64 n long source within same small = omega arith

fits_u32 : (n long source : ℕ) → n ≤ long → long ≡ source → source ≤ 1048576 → n < 4294967296
fits_u32 n long source within same small = omega arith

-- a depth of at most the bytes read may grow by one
depth_fits : (depth start long source : ℕ) → depth ≤ start → start < long → long ≡ source → source ≤ 1048576 → depth + 1 < 4294967296
depth_fits depth start long source few within same small = omega arith

-- a line and a column after some bytes, and after more of them
line_fits : (line start more taken long source : ℕ) → line ≤ start + 1 → taken ≤ more → start + more ≤ long → long ≡ source → source ≤ 1048576 → line + taken < 4294967296
line_fits line start more taken long source few most within same small = omega arith

column_fits : (column start more taken long source : ℕ) → column ≤ 8 * start + 1 → taken ≤ more → start + more ≤ long → long ≡ source → source ≤ 1048576 → column + 8 * taken < 4294967296
column_fits column start more taken long source few most within same small = omega arith

bytes_taken : (bytes : List ℕ) (start more : ℕ) → length (take (start + more - start) bytes) ≤ more
bytes_taken bytes start more = omega (arith, length-take (start + more - start) bytes)

less_left : (start more long : ℕ) → 0 < more → start < long → long - (start + more) < long - start
less_left start more long some within = omega arith

more_bytes : (start more : ℕ) → start ≤ start + more
more_bytes start more = omega arith

from_none : (n : ℕ) → 0 ≤ n
from_none n = omega arith

ends_at : (start long : ℕ) → start ≤ long → long ≤ start → start ≡ long
ends_at start long within ends = omega arith

-- an error passed on is no tokens
not_ok : {A E : Type 0} (r : Result A E) (P : A → Type 0) (Q : E → Type 0) → IsErrAnd r Q → IfOk r P
not_ok (Ok a) P Q is = absurd is
not_ok (Err e) P Q is = tt

-- the last token is the end of the source
last_token : (source : List ℕ) (tokens : List Token) (at : Place) (start : ℕ) → at ≡ place_of_byte source start → start ≡ length source → tokens ++ token_at at (piece.Token End) start start ≡ tokens ++ end_token source ∷ []
last_token source tokens at start there end =
    ap (λ (p : Place). tokens ++ token_at p (piece.Token End) start start) there ∙ ap (λ n. tokens ++ token_at (place_of_byte source n) (piece.Token End) n n) end

pub loop-start-init : goal.loop-start-init
loop-start-init c = record {
  opens = subst (λ (ts : List Token). Opens c.args.source.now c.args.code.now ts 0 _) (sym c.new-tokens.ensures.items) (Opens-prefix c.args.source.now c.args.code.now);
  at = refl;
  within = from_none (length c.args.code.now);
  line = more_bytes 1 0;
  column = more_bytes 1 0;
  depth = from_none 0;
}

pub overflow_add-fault : goal.overflow_add-fault
overflow_add-fault c =
    let code = c.args.code.now in
    let start = c.loop-start.start in
    let there = read_there c.loop-start.mode code start c.piece_at.result (Err c.in-Err.misread) c.piece_at.ensures.value c.in-Err.is in
    let stops = Opens-stops c.args.source.now code c.loop-start.tokens.items start c.loop-start.mode c.in-Err.misread c.loop-start.invariant.opens c.loop-start-test.true there in
    fits_u64 _ _ _ stops.1 c.requires.as_long c.requires.small

pub returns-in-Err : goal.returns-in-Err
returns-in-Err c =
    let code = c.args.code.now in
    let start = c.loop-start.start in
    let there = read_there c.loop-start.mode code start c.piece_at.result (Err c.in-Err.misread) c.piece_at.ensures.value c.in-Err.is in
    Opens-stops c.args.source.now code c.loop-start.tokens.items start c.loop-start.mode c.in-Err.misread c.loop-start.invariant.opens c.loop-start-test.true there

pub overflow_add-end : goal.overflow_add-end
overflow_add-end c =
    let there = read_there c.loop-start.mode c.args.code.now c.loop-start.start c.piece_at.result (Ok c.in-Ok.lexeme) c.piece_at.ensures.value c.in-Ok.is in
    fits_u64 _ _ _ (piece_ends c.loop-start.mode c.args.code.now c.loop-start.start c.in-Ok.lexeme c.loop-start.invariant.within there) c.requires.as_long c.requires.small

pub push_token-requires : goal.push_token-requires
push_token-requires c =
    let there = read_there c.loop-start.mode c.args.code.now c.loop-start.start c.piece_at.result (Ok c.in-Ok.lexeme) c.piece_at.ensures.value c.in-Ok.is in
    record {
      start = fits_u32 _ _ _ c.loop-start.invariant.within c.requires.as_long c.requires.small;
      end = fits_u32 _ _ _ (piece_ends c.loop-start.mode c.args.code.now c.loop-start.start c.in-Ok.lexeme c.loop-start.invariant.within there) c.requires.as_long c.requires.small;
    }

pub returns-in_err-push_token : goal.returns-in_err-push_token
returns-in_err-push_token c = not_ok c.from_residual.result _ _ c.from_residual.ensures.1

pub slice_bounds-mode_after-count : goal.slice_bounds-mode_after-count
slice_bounds-mode_after-count c = more_bytes c.loop-start.start c.in-Ok.lexeme.length

pub slice_bounds-place_after_bytes-count : goal.slice_bounds-place_after_bytes-count
slice_bounds-place_after_bytes-count c = more_bytes c.loop-start.start c.in-Ok.lexeme.length

pub mode_after-mode-requires : goal.mode_after-mode-requires
mode_after-mode-requires c = depth_fits _ _ _ _ c.loop-start.invariant.depth c.loop-start-test.true c.requires.as_long c.requires.small

pub place_after_bytes-at-requires : goal.place_after_bytes-at-requires
place_after_bytes-at-requires c =
    let start = c.loop-start.start in
    let there = read_there c.loop-start.mode c.args.code.now start c.piece_at.result (Ok c.in-Ok.lexeme) c.piece_at.ensures.value c.in-Ok.is in
    let within = piece_ends c.loop-start.mode c.args.code.now start c.in-Ok.lexeme c.loop-start.invariant.within there in
    let taken = bytes_taken (drop start c.args.source.now) start c.in-Ok.lexeme.length in
    record {
      line = line_fits c.loop-start.at.line start _ _ _ _ c.loop-start.invariant.line taken within c.requires.as_long c.requires.small;
      column = column_fits c.loop-start.at.column start _ _ _ _ c.loop-start.invariant.column taken within c.requires.as_long c.requires.small;
    }

pub loop-start-smaller : goal.loop-start-smaller
loop-start-smaller c =
    let there = read_there c.loop-start.mode c.args.code.now c.loop-start.start c.piece_at.result (Ok c.in-Ok.lexeme) c.piece_at.ensures.value c.in-Ok.is in
    less_left c.loop-start.start c.in-Ok.lexeme.length (length c.args.code.now) (lexeme_within c.loop-start.mode _ c.in-Ok.lexeme there).0 c.loop-start-test.true

pub push_token-requires-2 : goal.push_token-requires-2
push_token-requires-2 c =
    let fits = fits_u32 _ _ _ c.loop-start.invariant.within c.requires.as_long c.requires.small in
    record { start = fits; end = fits }

pub returns-in_err-push_token-2 : goal.returns-in_err-push_token-2
returns-in_err-push_token-2 c = not_ok c.from_residual-in_err-push_token-2.result _ _ c.from_residual-in_err-push_token-2.ensures.1

pub returns : goal.returns
returns c =
    let source = c.args.source.now in
    let code = c.args.code.now in
    let start = c.loop-start.start in
    let tokens = c.loop-start.tokens.items in
    let end : start ≡ length code = ends_at start (length code) c.loop-start.invariant.within c.loop-start-test.false in
    subst (HasTokens source code) (sym (c.in_ok-push_token-2.ensures ∙ last_token source tokens c.loop-start.at start c.loop-start.invariant.at (end ∙ c.requires.as_long)))
    (Opens-end source code tokens start c.loop-start.mode c.loop-start.invariant.opens end c.requires.as_long)

pub loop-start-preserved : goal.loop-start-preserved
loop-start-preserved c =
    let source = c.args.source.now in
    let code = c.args.code.now in
    let start = c.loop-start.start in
    let mode = c.loop-start.mode in
    let p = c.in-Ok.lexeme in
    let so_far = c.loop-start.invariant in
    let there : piece_at mode (drop start code) ≡ Ok p = ap (piece_at mode) (sym (take_rest code start)) ∙ sym c.piece_at.ensures.value ∙ c.in-Ok.is in
    let within = lexeme_within mode (drop start code) p there in
    let some : 0 < p.length = within.0 in
    let left : p.length ≤ length code - start = omega (arith, within.1, length-drop start code) in
    let bytes : start + p.length - start ≡ p.length = omega arith in
    let tokens : c.push_token.new.tokens.items ≡ c.loop-start.tokens.items ++ token_at c.loop-start.at p.piece start (start + p.length) = c.in_ok-push_token.ensures in
    let then : c.mode_after-mode.result ≡ mode_after mode p.piece (take (start + p.length - start) (drop start code)) = c.mode_after-mode.ensures.value in
    let following : c.place_after_bytes-at.result ≡ place_after_bytes c.loop-start.at (take (start + p.length - start) (drop start source)) = c.place_after_bytes-at.ensures.value in
    let fits : start + p.length - start ≤ length (drop start source) = omega (arith, length-drop start source, c.requires.as_long) in
    let taken : length (take (start + p.length - start) (drop start source)) ≡ p.length = length-take-le (start + p.length - start) (drop start source) fits ∙ bytes in
    let next = Opens-next source code c.loop-start.tokens.items start mode p so_far.opens there in
    record {
      opens =
          subst (λ (m : Mode). Opens source code c.push_token.new.tokens.items (start + p.length) m) (ap (λ n. mode_after mode p.piece (take n (drop start code))) (sym bytes) ∙ sym then)
          (subst (λ (ts : List Token). Opens source code ts (start + p.length) (mode_after mode p.piece (take p.length (drop start code)))) (ap (λ (at : Place). c.loop-start.tokens.items ++ token_at at p.piece start (start + p.length)) (sym so_far.at) ∙ sym tokens) next);
      at = following ∙ ap (λ n. place_after_bytes c.loop-start.at (take n (drop start source))) bytes ∙ ap (λ (at : Place). place_after_bytes at (take p.length (drop start source))) so_far.at ∙ place_of-add source start p.length;
      within = omega (arith, so_far.within);
      line = omega (arith, c.place_after_bytes-at.ensures.line, taken, so_far.line);
      column = omega (arith, c.place_after_bytes-at.ensures.column, taken, so_far.column);
      depth = omega (arith, so_far.depth, c.mode_after-mode.ensures.depth);
    }
