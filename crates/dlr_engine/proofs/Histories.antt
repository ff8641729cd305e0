-- The histories of all objects, at the end.
use Rattle.std.proofs.Common.{◌≡◌, ◌∙◌, ◌<◌, ◌≤◌, ℕ, zero, suc, List, [], ◌∷◌, ◌++◌, length, map, get_or, take, refl, sym, ap, subst, arith}
use Rattle.std.proofs.lemmas.List.{length-map, length-take-le}
use Rattle.std.specs.Prelude.{slice_index_or}
use Rattle.expando_class.specs.declared.table.ClassTable.{ClassTable}
use Rattle.standard_binders.specs.declared.binder.Binder.{Binder}
use Rattle.dyn_value.specs.declared.entry.Entry.{Entry}
use Rattle.object_model.specs.Journals.{IsLegal}
use Rattle.object_history.specs.declared.object_row.ObjectRow.{ObjectRow}
use Rattle.object_history.specs.declared.tag.RowTag.{RowTag}
use Rattle.object_history.specs.declared.tag.Tag.{Tag}
use Rattle.object_history.specs.Histories.{by_of, mark_of, tag_with, turns_of, whole_tag_of}
use Rattle.object_history.specs.Rows.{journal_of}
use Rattle.turn_rows.specs.Lists.{made_by}
use Rattle.turn_rows.specs.Rule.{Meaning, meaning}
use Rattle.turn_rows.specs.Passes.{AllLast, IsLast}
use Rattle.dlr_engine.specs.declared.pass.Pass.{Pass}
use Rattle.dlr_engine.specs.declared.run.Run.{Run}
use Rattle.dlr_engine.specs.Closing.{IsClosed, IsClosedRow}
use Rattle.dlr_engine.specs.Passes.{ArePasses, log_in, mine_of, passes_in}
use Rattle.dlr_engine.proofs.Gathering.{log_at, made_is}

take_none : (n : ℕ) (rows : List ObjectRow) → rows ≡ [] → take n rows ≡ []
take_none zero rows none = refl
take_none (suc n) [] none = refl
take_none (suc n) (x ∷ rows) none = cc

-- one journal more, where there is room for it
pub taken_more : (count : ℕ) (rows : List ObjectRow) (row : ObjectRow) → length (map journal_of (take count rows)) < count
    → map journal_of (take count rows) ++ journal_of row ∷ [] ≡ map journal_of (take count (rows ++ row ∷ []))
taken_more zero rows row few = absurd (omega (arith, few))
taken_more (suc n) [] row few = ap (λ (xs : List ObjectRow). journal_of row ∷ map journal_of xs) (sym (take_none n [] refl))
taken_more (suc n) (x ∷ rows) row few = ap (λ (js : List (List Entry)). journal_of x ∷ js) (taken_more n rows row (omega (arith, few)))

-- and none more, where all are there
pub taken_same : (count : ℕ) (rows : List ObjectRow) (row : ObjectRow) → count ≤ length (map journal_of (take count rows))
    → map journal_of (take count rows) ≡ map journal_of (take count (rows ++ row ∷ []))
taken_same zero rows row all = refl
taken_same (suc n) [] row all = absurd (omega (arith, all))
taken_same (suc n) (x ∷ rows) row all = ap (λ (js : List (List Entry)). journal_of x ∷ js) (taken_same n rows row (omega (arith, all)))

pub taken_count : (count : ℕ) (rows : List ObjectRow) → count ≤ length rows → length (map journal_of (take count rows)) ≡ count
taken_count count rows all = length-map (take count rows) journal_of ∙ length-take-le count rows all

journal_at : (count : ℕ) (rows : List ObjectRow) (row : ℕ) (other : ObjectRow) → row < count → count ≤ length rows
    → journal_of (slice_index_or rows row other) ≡ get_or (map journal_of (take count rows)) row []
journal_at zero rows row other inside all = absurd (omega (arith, inside))
journal_at (suc n) [] row other inside all = absurd (omega (arith, all))
journal_at (suc n) (x ∷ rows) zero other inside all = refl
journal_at (suc n) (x ∷ rows) (suc row) other inside all = journal_at n rows row other (omega (arith, inside)) (omega (arith, all))

-- what turns see of an object
abbrev pub closing : Meaning ObjectRow Entry Tag
closing = meaning journal_of by_of turns_of whole_tag_of mark_of

closed_state : (tag : RowTag) (table : ClassTable) (one x : ObjectRow) (run : Run) (ps : List Pass) (row : ℕ)
    → whole_tag_of one ≡ tag_with tag table → 0 < passes_in run → ArePasses run ps
    → IsLast closing one (map log_in ps) row x → IsClosed tag.binders.now ps row (journal_of x)
closed_state tag table one x run ps row tagged some are last = record {
  legal = subst (λ (bs : List Binder). IsLegal bs [] (journal_of x)) (ap (λ (t : Tag). t.binders) (last.tagged ∙ tagged)) x.legal;
  seen = λ k d inside. last.seen k (log_in (get_or ps k d)) (log_at ps k d inside);
  mine = λ k d inside. subst (λ (n : ℕ). made_by by_of n (journal_of x) ≡ mine_of (get_or ps k d) row) (are.numbers k d inside)
      (last.mine k (log_in (get_or ps k d)) (log_at ps k d inside));
  no_other = λ k above. last.no_other k (omega (arith, above, made_is run ps some are));
}

-- the history of an object, of which the row stands in the list
pub closed_row : (tag : RowTag) (table : ClassTable) (one : ObjectRow) (run : Run) (ps : List Pass) (count : ℕ) (rows : List ObjectRow)
    → whole_tag_of one ≡ tag_with tag table → 0 < passes_in run → ArePasses run ps → count ≤ length rows
    → AllLast closing one (map log_in ps) rows
    → (row : ℕ) → row < count → IsClosedRow tag.binders.now ps row (map journal_of (take count rows))
closed_row tag table one run ps count rows tagged some are all last row inside =
    subst (IsClosed tag.binders.now ps row) (journal_at count rows row one inside all)
    (closed_state tag table one (slice_index_or rows row one) run ps row tagged some are (last row one (omega (arith, inside, all))))
