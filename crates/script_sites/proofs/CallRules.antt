-- A call keeps the rules on its arguments exactly where it can be made.
use Rattle.std.proofs.Common.{◌≡◌, ◌≤◌, ℕ, Bool, true, false, ◌&&◌, ◌||◌, not, List, [], ◌∷◌, map, refl, ap, arith, length}
use Rattle.std.specs.Prelude.{nat_le}
use Rattle.std.specs.List.{AllByRecursion, IsDistinct, filter_map, list_any}
use Rattle.std.specs.Str.{bytes_eq}
use Rattle.std.proofs.lemmas.Bool.{and_from, and_parts}
use Rattle.std.proofs.lemmas.Bool.Decides.{nat_tests}
use Rattle.std.proofs.lemmas.List.{length-map}
use Rattle.standard_binders.specs.Arguments.{Arguments, AreArguments}
use Rattle.script_grammar.specs.declared.tree.Arg.{Arg}
use Rattle.script_sites.specs.Sites.{argument, call_info}
use Rattle.script_sites.proofs.ArgumentSites.{few_names, names_are}
use Rattle.script_sites.specs.Calls.{are_names_distinct}

or_parts : (a b : Bool) → (a || b) ≡ false → (a ≡ false) × (b ≡ false)
or_parts false b h = (refl, h)
or_parts true b h = cc

neither : (a b : Bool) → a ≡ false → b ≡ false → (a || b) ≡ false
neither false b e f = f
neither true b e f = cc

from_not : (a : Bool) → not a ≡ true → a ≡ false
from_not false h = refl
from_not true h = cc

small : (n : ℕ) → nat_le n 16 ≡ true → n ≤ 16
small n h = grind (arith, nat_tests)

big : (n : ℕ) → n ≤ 16 → nat_le n 16 ≡ true
big n h = grind (arith, nat_tests)

none_among : (p : List ℕ → Bool) (ns : List (List ℕ)) → list_any p ns ≡ false → AllByRecursion (λ y. p y ≡ false) ns
none_among p [] h = tt
none_among p (n ∷ ns) h = let parts = or_parts (p n) (list_any p ns) h in (parts.0, none_among p ns parts.1)

among_none : (p : List ℕ → Bool) (ns : List (List ℕ)) → AllByRecursion (λ y. p y ≡ false) ns → list_any p ns ≡ false
among_none p [] h = refl
among_none p (n ∷ ns) h = neither (p n) (list_any p ns) h.0 (among_none p ns h.1)

-- the test of distinct names says that they are distinct
pub distinct_from : (ns : List (List ℕ)) → are_names_distinct ns ≡ true → IsDistinct bytes_eq ns
unfolding IsDistinct
distinct_from [] h = tt
distinct_from (n ∷ ns) h =
    let parts = and_parts (not (list_any (bytes_eq n) ns)) (are_names_distinct ns) h in
    (none_among (bytes_eq n) ns (from_not (list_any (bytes_eq n) ns) parts.0), distinct_from ns parts.1)

pub distinct_to : (ns : List (List ℕ)) → IsDistinct bytes_eq ns → are_names_distinct ns ≡ true
unfolding IsDistinct
distinct_to [] h = refl
distinct_to (n ∷ ns) h =
    and_from (not (list_any (bytes_eq n) ns)) (are_names_distinct ns) (ap not (among_none (bytes_eq n) ns h.0)) (distinct_to ns h.1)

-- a call that keeps both rules can be made
pub call_made : (info : Arguments) → length info.names ≤ info.count → (nat_le info.count 16 && are_names_distinct info.names) ≡ true → AreArguments info
call_made info named h =
    let parts = and_parts (nat_le info.count 16) (are_names_distinct info.names) h in
    record { few = small info.count parts.0; named = named; distinct = distinct_from info.names parts.1 }

-- and one that is made keeps them
pub call_kept : (info : Arguments) → AreArguments info → (nat_le info.count 16 && are_names_distinct info.names) ≡ true
call_kept info is = and_from (nat_le info.count 16) (are_names_distinct info.names) (big info.count is.few) (distinct_to info.names is.distinct)

-- a call with as many arguments as these and with their names is the call with these
pub same_call : (args : List Arg) (count : ℕ) (names : List (List ℕ)) → count ≡ length args → names ≡ filter_map (λ a. a.name) (map argument args) →
    ◌≡◌ {A = Arguments} (record { count = count; names = names }) (call_info (map argument args))
same_call args count names counted named = let lengths = length-map args argument in cc

-- a call has no more names than arguments
pub names_few : (args : List Arg) → length (call_info (map argument args)).names ≤ (call_info (map argument args)).count
names_few args = omega (arith, ap length (names_are args), few_names args, length-map args argument)

pub false_from : (b : Bool) → (b ≡ true → ⊥) → b ≡ false
false_from false f = refl
false_from true f = absurd (f refl)
