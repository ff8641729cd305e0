use Rattle.std.proofs.Common.{◌≡◌, ◌≤◌, All, [], length, vec_capacity}
use Rattle.object_history.specs.Histories.{mark_of, tag_with, turns_of, whole_tag_of}
use Rattle.object_history.specs.Rows.{journal_of}
use Rattle.dlr_engine.proofs.starting.new_rows.Given as goal

abbrev pub invariant-loop-row : goal.invariant-loop-row
invariant-loop-row l = (length l.rows.items ≡ l._row) × (l.count ≤ vec_capacity l.rows)
    × All (λ y. (journal_of y ≡ []) × (turns_of y ≡ 0) × (mark_of y ≡ 0)) l.rows.items
    × All (λ y. whole_tag_of y ≡ tag_with l.tag l.table) l.rows.items
