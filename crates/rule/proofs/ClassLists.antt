-- Lists of names, name by name.
use Rattle.std.proofs.Common.{◌≡◌, ◌≢◌, ◌↔◌, ℕ, zero, suc, ◌+◌, ◌<◌, ◌≤◌, nat_lt, nat_le, Bool, true, false, IsTrue, List, [], ◌∷◌, ◌++◌, length, get_or, slice_get, Option, None, Some, IfSome, IfNone, is_some, not, encode_utf8_all, refl, sym, ◌∙◌, ap, subst, arith}
use Rattle.std.specs.List.{All, remove}
use Rattle.std.specs.Str.{IsUtf8, bytes_eq, chars}
use Rattle.std.specs.Cmp.Lexicographic.{bytes_decides}
use Rattle.std.proofs.lemmas.Bool.Decides.{nat_tests}
use Rattle.std.proofs.lemmas.Option.{get_or_from_slice_get, slice_get-get_or, slice_get_past, slice_get_within}
use Rattle.std.proofs.lemmas.Str.{encodes-chars}
use Rattle.rule_model.specs.Claims.{IsPlaced, changed}

-- lists are the same that have the same at each place, up to the end of one
pub same_by_place : (xs ys : List (List ℕ)) → ((k : ℕ) → k ≤ length xs → slice_get xs k ≡ slice_get ys k) → xs ≡ ys
same_by_place [] [] same = refl
same_by_place [] (y ∷ ys) same = let no : None ≡ Some y = same 0 (omega arith) in cc
same_by_place (x ∷ xs) [] same = let no : Some x ≡ None = same 0 (omega arith) in cc
same_by_place (x ∷ xs) (y ∷ ys) same =
    let head : Some x ≡ Some y = same 0 (omega arith) in
    let one : x ≡ y = cc in
    ap (λ (z : List ℕ). z ∷ xs) one ∙ ap (λ (zs : List (List ℕ)). y ∷ zs) (same_by_place xs ys (λ k within. same (suc k) (omega arith)))

at_place : (xs ys : List (List ℕ)) (size k : ℕ) (below : Bool) → nat_lt k size ≡ below → ((j : ℕ) → j < size → slice_get xs j ≡ slice_get ys j) → size ≡ length xs → slice_get xs size ≡ slice_get ys size → k ≤ length xs
    → slice_get xs k ≡ slice_get ys k
at_place xs ys size k true is before long last within = before k (grind (arith, nat_tests))
at_place xs ys size k false is before long last within =
    let from : size ≤ k = grind (arith, nat_tests) in
    let end : size ≡ k = omega arith in
    subst (λ (j : ℕ). slice_get xs j ≡ slice_get ys j) end last

pub same_up_to : (xs ys : List (List ℕ)) (place size : ℕ) → ((k : ℕ) → k < place → slice_get xs k ≡ slice_get ys k) → size ≤ place → size ≡ length xs → slice_get xs size ≡ slice_get ys size → xs ≡ ys
same_up_to xs ys place size before past long last = same_by_place xs ys (λ k within. at_place xs ys size k (nat_lt k size) refl (λ j below. before j (omega arith)) long last within)

-- with a name at the end
added_last : (xs : List (List ℕ)) (name : List ℕ) → slice_get (xs ++ name ∷ []) (length xs) ≡ Some name
added_last [] name = refl
added_last (x ∷ xs) name = added_last xs name

added_other : (xs : List (List ℕ)) (name : List ℕ) (k : ℕ) → k ≢ length xs → slice_get (xs ++ name ∷ []) k ≡ slice_get xs k
added_other [] name zero other = absurd (other refl)
added_other [] name (suc k) other = refl
added_other (x ∷ xs) name zero other = refl
added_other (x ∷ xs) name (suc k) other = added_other xs name k (λ e. other (ap suc e))

pub at_end : (names : List (List ℕ)) (name text : List ℕ) (removed : Option ℕ) (place size : ℕ) → removed ≡ None → place ≡ size → size ≡ length names → text ≡ name
    → Some text ≡ slice_get (changed names name removed) place
at_end names name text removed place size is end long same =
    ap Some same ∙ sym (added_last names name) ∙ ap (slice_get (names ++ name ∷ [])) (sym (end ∙ long)) ∙ ap (λ (r : Option ℕ). slice_get (changed names name r) place) (sym is)

pub before_end : (found : Option (List ℕ)) (names : List (List ℕ)) (name : List ℕ) (removed : Option ℕ) (place size : ℕ) → removed ≡ None → place ≢ size → size ≡ length names → found ≡ slice_get names place
    → found ≡ slice_get (changed names name removed) place
before_end found names name removed place size is other long there =
    there ∙ sym (added_other names name place (λ e. other (e ∙ sym long))) ∙ ap (λ (r : Option ℕ). slice_get (changed names name r) place) (sym is)

-- the name that was found is this one if and only if its characters are
pub found_name : (there : Option (List ℕ)) (found name : List ℕ) (b : Bool) → there ≡ Some (chars found) → IsUtf8 found → IsUtf8 name → b ≡ bytes_eq found name
    → (b ≡ true → there ≡ Some (chars name)) × (there ≡ Some (chars name) → b ≡ true)
found_name there found name b is one other e = (
  λ answer. is ∙ ap (λ bytes. Some (chars bytes)) ((bytes_decides found name).0 (sym e ∙ answer)),
  λ same. (
      let both : Some (chars found) ≡ Some (chars name) = sym is ∙ same in
      let equal : chars found ≡ chars name = cc in
      e ∙ (bytes_decides found name).1 (sym (encodes-chars found one) ∙ ap encode_utf8_all equal ∙ encodes-chars name other)),
)

-- there is no name past the end
pub none_past : (names : List (List ℕ)) (place size : ℕ) (name : List ℕ) → size ≡ length names → size ≤ place
    → (nat_lt place size ≡ true → slice_get names place ≡ Some name) × (slice_get names place ≡ Some name → nat_lt place size ≡ true)
none_past names place size name long past = (
  λ below. absurd (let no : place < size = grind (arith, nat_tests) in omega arith),
  λ is. (let no : None ≡ Some name = sym (slice_get_past names place (omega arith)) ∙ is in cc),
)

past_by : (names : List (List ℕ)) (place size : ℕ) (past : Bool) → nat_le size place ≡ past → size ≡ length names → slice_get names place ≡ None → past ≡ true
past_by names place size true is long none = refl
past_by names place size false is long none =
    let below : place < size = grind (arith, nat_tests) in
    let there : slice_get names place ≡ Some (get_or names place []) = slice_get-get_or names place [] (omega arith) in
    let no : None ≡ Some (get_or names place []) = sym none ∙ there in cc

past_end : (names : List (List ℕ)) (place size : ℕ) → size ≡ length names → slice_get names place ≡ None → nat_le size place ≡ true
past_end names place size long none = past_by names place size (nat_le size place) refl long none

pub none_there : (after wanted : List (List ℕ)) (place size : ℕ) → size ≡ length after → None ≡ slice_get wanted place
    → (nat_le size place ≡ true → slice_get after place ≡ slice_get wanted place) × (slice_get after place ≡ slice_get wanted place → nat_le size place ≡ true)
none_there after wanted place size long none = (
  λ past. (let from : size ≤ place = grind (arith, nat_tests) in slice_get_past after place (omega arith) ∙ none),
  λ same. past_end after place size long (same ∙ sym none),
)

-- the name stands at the place, or nowhere
pub placed_at : (names : List (List ℕ)) (name text : List ℕ) (place : Option ℕ) (p : ℕ) (b : Bool) → place ≡ Some p → text ≡ name
    → (IsTrue b ↔ (slice_get names p ≡ Some text)) → (IsTrue b ↔ IsPlaced names name place)
placed_at names name text place p b is same both =
    subst (λ (k : Option ℕ). IsTrue b ↔ IsPlaced names name k) (sym is) (subst (λ (n : List ℕ). IsTrue b ↔ (slice_get names p ≡ Some n)) same both)

no_place : (names : List (List ℕ)) (name : List ℕ) (p : ℕ) → slice_get names p ≡ Some name → All (λ other. other ≢ name) names → ⊥
no_place names name p there none = none p name (slice_get_within names p name there) (get_or_from_slice_get names p name name there)

not_false : (b : Bool) → false ≡ not b → b ≡ true
not_false true e = refl
not_false false e = cc

nowhere : (names : List (List ℕ)) (name : List ℕ) (found : Option ℕ) (b : Bool) → IfSome found (λ p. slice_get names p ≡ Some name) → IfNone found (All (λ other. other ≢ name) names) → is_some found ≡ not b
    → (IsTrue b ↔ IsPlaced names name None)
nowhere names name None b some none e = (λ yes. none, λ all. not_false b e)
nowhere names name (Some p) b some none e = (λ yes. (let no : true ≡ false = e ∙ ap not yes in cc), λ all. absurd (no_place names name p some all))

pub placed_nowhere : (names : List (List ℕ)) (name text : List ℕ) (place found : Option ℕ) (b : Bool) → place ≡ None → text ≡ name
    → IfSome found (λ p. slice_get names p ≡ Some text) → IfNone found (All (λ other. other ≢ text) names) → is_some found ≡ not b → (IsTrue b ↔ IsPlaced names name place)
placed_nowhere names name text place found b is same some none e =
    subst (λ (k : Option ℕ). IsTrue b ↔ IsPlaced names name k) (sym is)
    (nowhere names name found b (subst (λ (n : List ℕ). IfSome found (λ p. slice_get names p ≡ Some n)) same some) (subst (λ (n : List ℕ). IfNone found (All (λ other. other ≢ n) names)) same none) e)
