use Rattle.std.proofs.Common.{◌+◌, ◌≤◌, map, length}
use Rattle.gms_grammar.specs.Lines.{lines, content}
use Rattle.gms_list.specs.ListingText.{numbered_from, echo_text}
use Rattle.gms_list.proofs.AppendedPieces.{Traversed}
use Rattle.gms_list.proofs.listing.Listing.echo_from.Given as goal

abbrev pub invariant-loop-number : goal.invariant-loop-number
invariant-loop-number l =
    Traversed l.fn.self (echo_text l.line l.fn.source) l.self (numbered_from l.number (map content (lines l.rest))) × (l.number + length l.rest ≤ l.line + length l.fn.source)
