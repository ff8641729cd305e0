-- The merge of two lists of distinct restrictions.
use Rattle.std.proofs.Common.{◌≡◌, ◌+◌, ◌<◌, ◌≤◌, Bool, true, false, not, List, [], ◌∷◌, ◌++◌, length, refl, ap, ◌∙◌, arith, length-append}
use Rattle.std.specs.Prelude.{Result, Ok, Err, OnOk, is_err}
use Rattle.std.specs.List.{All, IsDistinct, list_all, list_any, filter, count_by}
use Rattle.std.proofs.lemmas.Bool.{not-true, or_parts, and_from}
use Rattle.std.proofs.lemmas.List.Elements.{All-append, All-cons, All-filter, All-nil, All-from_recursion, All-weaker, filter_passes, recursion_from_All}
use Rattle.std.proofs.lemmas.List.Folds.{list_all-append}
use Rattle.std.proofs.lemmas.List.Kept.{AllPairs-filter}
use Rattle.std.proofs.lemmas.List.Sums.{AllPass-from_list_all, list_all-from_AllPass, length-filter, count_by-le-length}
use Rattle.std.proofs.lemmas.Map.Keys.{IsDistinct-cons, IsDistinct-from_apart, IsDistinct-head, IsDistinct-tail, apart_from_distinct}
use Rattle.restrictions.specs.declared.restriction.Restriction.{Restriction}
use Rattle.restrictions.specs.Sets.{is_same, is_in, operand_fits, merged, IsSet}

module _ {A : Type 0} (e : A → A → Bool) where
  -- items stay distinct under a filter
  distinct_kept : (p : A → Bool) (xs : List A) → IsDistinct e xs → IsDistinct e (filter p xs)
  distinct_kept p xs distinct =
      IsDistinct-from_apart e (filter p xs) (AllPairs-filter (λ x y. e x y ≡ false) p xs (λ i j d before within. apart_from_distinct e xs i j d distinct before within))

  -- and where those of a second list, which are none of the first, come after them
  distinct_joined : (xs ys : List A) → IsDistinct e xs → IsDistinct e ys → All (λ y. list_any (λ x. e x y) xs ≡ false) ys → IsDistinct e (xs ++ ys)
  distinct_joined [] ys first second apart = second
  distinct_joined (x ∷ xs) ys first second apart =
      let parts = λ (y : A) (none : list_any (λ z. e z y) (x ∷ xs) ≡ false). or_parts (e x y) (list_any (λ z. e z y) xs) none in
      let not_x : A → Type 0 = λ y. e x y ≡ false in
      let not_xs : A → Type 0 = λ y. list_any (λ z. e z y) xs ≡ false in
      let no_more : All not_x (xs ++ ys) =
      All-append not_x xs ys (All-from_recursion not_x xs (IsDistinct-head e x xs first)) (All-weaker _ not_x (λ y none. (parts y none).0) ys apart) in
      IsDistinct-cons e x (xs ++ ys) (recursion_from_All not_x (xs ++ ys) no_more)
      (distinct_joined xs ys (IsDistinct-tail e x xs first) second (All-weaker _ not_xs (λ y none. (parts y none).1) ys apart))

-- the merged list is a set where it is short
pub merged_is_set : (xs ys : List Restriction) → IsSet xs → IsSet ys → length (merged xs ys) ≤ 16 → IsSet (merged xs ys)
merged_is_set xs ys first second short =
    let fresh = λ (y : Restriction). not (is_in y xs) in
    let fitting : Restriction → Type 0 = λ y. operand_fits y ≡ true in
    let others : list_all operand_fits (filter fresh ys) ≡ true =
    list_all-from_AllPass operand_fits (filter fresh ys) (All-filter fresh fitting ys (AllPass-from_list_all operand_fits ys second.operands)) in
    record {
      few = short;
      distinct =
          distinct_joined is_same xs (filter fresh ys) first.distinct (distinct_kept is_same fresh ys second.distinct)
          (All-weaker _ (λ y. is_in y xs ≡ false) (λ y new. not-true (is_in y xs) new) (filter fresh ys) (filter_passes fresh ys));
      operands = list_all-append operand_fits xs (filter fresh ys) ∙ and_from (list_all operand_fits xs) (list_all operand_fits (filter fresh ys)) first.operands others;
    }

-- no restriction is a set
pub none_is_set : (rs : List Restriction) → rs ≡ [] → IsSet rs
unfolding IsDistinct
none_is_set [] none = record { few = omega arith; distinct = tt; operands = refl }
none_is_set (r ∷ rs) none = cc

-- and so is a set with a new one at its end
pub one_more_is_set : (xs : List Restriction) (r : Restriction) → IsSet xs → length xs < 16 → is_in r xs ≡ false → operand_fits r ≡ true → IsSet (xs ++ r ∷ [])
unfolding IsDistinct
one_more_is_set xs r set room new fits =
    let is_new : Restriction → Type 0 = λ y. is_in y xs ≡ false in
    record {
      few = omega (arith, room, length-append xs (r ∷ []));
      distinct = distinct_joined is_same xs (r ∷ []) set.distinct (tt, tt) (All-cons is_new r [] new (All-nil is_new));
      operands = list_all-append operand_fits xs (r ∷ []) ∙ and_from (list_all operand_fits xs) (list_all operand_fits (r ∷ [])) set.operands (and_from (operand_fits r) true fits refl);
    }

-- how long the merged list is
pub length-merged : (xs ys : List Restriction) → length (merged xs ys) ≡ length xs + count_by (λ y. not (is_in y xs)) ys
length-merged xs ys =
    let fresh = λ (y : Restriction). not (is_in y xs) in
    length-append xs (filter fresh ys) ∙ ap (λ n. length xs + n) (length-filter fresh ys)

pub length-merged_le : (xs ys : List Restriction) → length (merged xs ys) ≤ length xs + length ys
length-merged_le xs ys = omega (arith, length-merged xs ys, count_by-le-length (λ y. not (is_in y xs)) ys)

-- room that was granted
pub granted : {A E P : Type 0} (r : Result A E) → is_err r ≡ false → OnOk r P → P
granted (Ok x) e h = h
granted (Err x) e h = absurd (let no : true ≡ false = e in cc)
