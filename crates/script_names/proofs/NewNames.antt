-- Names that are distinct, and none of the earlier ones.
use Rattle.std.proofs.Common.{◌≡◌, ℕ, Bool, true, false, not, ◌&&◌, List, [], ◌∷◌, ◌++◌, refl, sym, ap, ◌∙◌}
use Rattle.std.specs.List.{list_any}
use Rattle.std.specs.Str.{bytes_eq}
use Rattle.std.proofs.lemmas.Bool.{and_from, and_parts, or_from, or_left, or_right}
use Rattle.std.proofs.lemmas.List.Folds.{list_any-append}
use Rattle.std.proofs.lemmas.Slice.Eq.{bytes_eq-Decides}
use Rattle.script_sites.specs.Calls.{are_names_distinct}
use Rattle.script_names.specs.Names.{Names, is_in}

-- none of the names is an earlier one, and they are distinct
abbrev pub are_new : Names → Names → Bool
are_new earlier [] = true
are_new earlier (n ∷ ns) = not (is_in earlier n) && are_new (earlier ++ n ∷ []) ns

from_not : (b : Bool) → not b ≡ true → b ≡ false
from_not false e = refl
from_not true e = cc

differs : (earlier : Names) (m n : List ℕ) (b : Bool) → bytes_eq m n ≡ b → is_in earlier m ≡ true → is_in earlier n ≡ false → bytes_eq m n ≡ false
differs earlier m n false e known new = e
differs earlier m n true e known new = let same : m ≡ n = (bytes_eq-Decides m n).0 e in let moved = ap (is_in earlier) same in cc

still_in : (earlier : Names) (m n : List ℕ) → is_in earlier m ≡ true → is_in (earlier ++ n ∷ []) m ≡ true
still_in earlier m n known = list_any-append (bytes_eq m) earlier (n ∷ []) ∙ or_left (is_in earlier m) (list_any (bytes_eq m) (n ∷ [])) known

last_in : (earlier : Names) (n : List ℕ) → is_in (earlier ++ n ∷ []) n ≡ true
last_in earlier n = list_any-append (bytes_eq n) earlier (n ∷ [])
    ∙ or_right (is_in earlier n) (list_any (bytes_eq n) (n ∷ [])) (or_left (bytes_eq n n) false ((bytes_eq-Decides n n).1 refl))

-- an earlier name is none of the new ones
earlier_is_none : (earlier : Names) (m : List ℕ) (ns : Names) → is_in earlier m ≡ true → are_new earlier ns ≡ true → list_any (bytes_eq m) ns ≡ false
earlier_is_none earlier m [] known new = refl
earlier_is_none earlier m (n ∷ ns) known new =
    let p = and_parts (not (is_in earlier n)) (are_new (earlier ++ n ∷ []) ns) new in
    or_from (bytes_eq m n) (list_any (bytes_eq m) ns) (differs earlier m n (bytes_eq m n) refl known (from_not (is_in earlier n) p.0))
    (earlier_is_none (earlier ++ n ∷ []) m ns (still_in earlier m n known) p.1)

pub new_are_distinct : (earlier ns : Names) → are_new earlier ns ≡ true → are_names_distinct ns ≡ true
new_are_distinct earlier [] new = refl
new_are_distinct earlier (n ∷ ns) new =
    let p = and_parts (not (is_in earlier n)) (are_new (earlier ++ n ∷ []) ns) new in
    and_from (not (list_any (bytes_eq n) ns)) (are_names_distinct ns)
    (ap not (earlier_is_none (earlier ++ n ∷ []) n ns (last_in earlier n) p.1)) (new_are_distinct (earlier ++ n ∷ []) ns p.1)
