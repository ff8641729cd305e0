-- The rows that a parse has found so far.
use Rattle.std.proofs.Common.{◌≡◌, ◌∙◌, ◌++◌, ◌||◌, Bool, true, false, cond, refl, ap, List, [], ◌∷◌, Option, Some, None, is_some}
use Rattle.std.specs.List.{find}
use Rattle.std.specs.Str.{bytes_eq}
use Rattle.clap.specs.Walk.{Row, Text, at_row, has_row, without}

abbrev pub row_at : Text → List Row → Option Row
row_at id rows = find (λ r. bytes_eq r.id id) rows

pub has_row_at : (id : Text) (rows : List Row) → has_row id rows ≡ is_some (row_at id rows)
has_row_at id [] = refl
has_row_at id (r ∷ rs) = by (bytes_eq r.id id) (has_row_at id rs)
  where
    by : (b : Bool) → has_row id rs ≡ is_some (row_at id rs) → (b || has_row id rs) ≡ is_some (cond b (Some r) (row_at id rs))
    by true rest = refl
    by false rest = rest

-- a change of a row that is not there adds the new one at the end
pub added_row : (id : Text) (change : Row → List Row) (new rows : List Row) → row_at id rows ≡ None → at_row id change new rows ≡ rows ++ new
added_row id change new [] none = refl
added_row id change new (r ∷ rs) none = by (bytes_eq r.id id) (added_row id change new rs) none
  where
    by : (b : Bool) → (row_at id rs ≡ None → at_row id change new rs ≡ rs ++ new) → cond b (Some r) (row_at id rs) ≡ None
        → cond b (change r ++ rs) (r ∷ at_row id change new rs) ≡ r ∷ (rs ++ new)
    by true rest is = cc
    by false rest is = ap (λ l. r ∷ l) (rest is)

append_none : (rows : List Row) → rows ++ [] ≡ rows
append_none [] = refl
append_none (r ∷ rs) = ap (λ l. r ∷ l) (append_none rs)

pub none_without : (id : Text) (rows : List Row) → row_at id rows ≡ None → without id rows ≡ rows
none_without id rows none = added_row id (λ _. []) [] rows none ∙ append_none rows

-- a row at the end is found where no other row has its id
pub row_at_end : (id : Text) (r : Row) (rows : List Row) → bytes_eq r.id id ≡ true → row_at id rows ≡ None → row_at id (rows ++ r ∷ []) ≡ Some r
row_at_end id r [] is none = rw is refl
row_at_end id r (x ∷ xs) is none = by (bytes_eq x.id id) (row_at_end id r xs is) none
  where
    by : (b : Bool) → (row_at id xs ≡ None → row_at id (xs ++ r ∷ []) ≡ Some r) → cond b (Some x) (row_at id xs) ≡ None
        → cond b (Some x) (row_at id (xs ++ r ∷ [])) ≡ Some r
    by true rest e = cc
    by false rest e = rest e

-- a row of another id changes nothing for this one
pub row_at_other : (id : Text) (r : Row) (rows : List Row) → bytes_eq r.id id ≡ false → row_at id (rows ++ r ∷ []) ≡ row_at id rows
row_at_other id r [] not = rw not refl
row_at_other id r (x ∷ xs) not = ap (λ o. cond (bytes_eq x.id id) (Some x) o) (row_at_other id r xs not)
