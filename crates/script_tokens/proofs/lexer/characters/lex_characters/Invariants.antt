use Rattle.std.proofs.Common.{◌≤◌, ◌-◌, length, drop}
use Rattle.script_tokens.proofs.PieceRows.{IsTaken}
use Rattle.script_tokens.proofs.lexer.characters.lex_characters.Given as goal

abbrev pub invariant-loop-at : goal.invariant-loop-at
invariant-loop-at l = record {
  within : l.at ≤ length l.text;
  taken : IsTaken l.text (drop l.at l.text) l.placed.tokens.items l.placed.places.items l.place;
  few : length l.placed.tokens.items ≤ l.at;
}

abbrev pub decreases-loop-at : goal.decreases-loop-at
decreases-loop-at l = length l.text - l.at
