-- What a token says of the cells that it is of.
use Rattle.std.specs.Prelude.{ℕ}
use Rattle.boxcar.specs.Table.{Shows}
use Rattle.rule_cells.specs.declared.cells.Cells.{Cells}
use Rattle.rule_cells.specs.declared.cells.Known.{Known}

-- the token is of these cells
abbrev pub IsKnownOf : {R : Type 0} → Cells R → Known R → Type 0
IsKnownOf cells known = Shows cells.rules known.token

-- the rule that a token shows
abbrev pub rule_of : {R : Type 0} → Known R → R
rule_of known = known.token.value

-- the index of that rule
abbrev pub index_of : {R : Type 0} → Known R → ℕ
index_of known = known.token.index
