-- What passes that are gathered at the end are.
use Rattle.std.specs.Prelude.{◌≡◌, length}
use Rattle.turn_rows.specs.declared.rows.Ruled.{Ruled}
use Rattle.turn_rows.specs.Passes as turns
use Rattle.object_history.specs.declared.object_row.ObjectRow.{ObjectRow}
use Rattle.dlr_engine.specs.declared.pass.Pass.{Pass}
use Rattle.dlr_engine.specs.Passes.{kept_in}

-- it is a pass of these rows, and none was joined to it
abbrev pub IsApart : {Q : Type 0} → Ruled ObjectRow Q → Pass → Type 0
IsApart rows p = turns.IsPassOf rows p.rows × (length (kept_in p) ≡ 0)
