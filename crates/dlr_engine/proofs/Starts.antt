-- Rows of objects on which nothing was done.
use Rattle.std.proofs.Common.{◌≡◌, ◌∙◌, ◌≤◌, List, All, length, sym, arith}
use Rattle.std.specs.Prelude.{slice_index_or}
use Rattle.expando_class.specs.declared.table.ClassTable.{ClassTable}
use Rattle.object_history.specs.declared.object_row.ObjectRow.{ObjectRow}
use Rattle.object_history.specs.declared.tag.RowTag.{RowTag}
use Rattle.object_history.specs.Histories.{tag_with, whole_tag_of}

-- objects with this tag have one tag
pub have_one : (tag : RowTag) (table : ClassTable) (rows : List ObjectRow) → All (λ y. whole_tag_of y ≡ tag_with tag table) rows
    → (d : ObjectRow) → All (λ y. whole_tag_of y ≡ whole_tag_of (slice_index_or rows 0 d)) rows
have_one tag table rows tagged d = λ k e inside. tagged k e inside ∙ sym (tagged 0 d (omega (arith, inside)))

-- an object that has the tag of all of them has this tag
pub tag_is : (tag : RowTag) (table : ClassTable) (one : ObjectRow) (rows : List ObjectRow) → 1 ≤ length rows
    → All (λ y. whole_tag_of y ≡ tag_with tag table) rows → All (λ y. whole_tag_of y ≡ whole_tag_of one) rows
    → whole_tag_of one ≡ tag_with tag table
tag_is tag table one rows some tagged same = sym (same 0 one some) ∙ tagged 0 one some
