-- What is known of a script as far as its limits were judged.
use Rattle.std.proofs.Common.{◌≡◌, ◌≤◌, ◌<◌, ℕ, Bool, true, false, ◌&&◌, cond, List, [], ◌∷◌, length, map, Option, None, Some, refl, sym, ap, ◌∙◌, subst}
use Rattle.std.specs.Prelude.{Err, IsErrOf, is_some}
use Rattle.std.specs.List.{list_all}
use Rattle.std.specs.Set.{distinct_count}
use Rattle.std.proofs.lemmas.Bool.{and_from, and_parts}
use Rattle.standard_binders.specs.declared.binder.Binder.{Binder}
use Rattle.standard_binders.specs.Binders.{is_same_binder}
use Rattle.script_grammar.specs.declared.tree.Script.{Script}
use Rattle.script_sites.specs.declared.limits.What.{What}
use Rattle.script_sites.specs.declared.limits.What.TheVariants as what
use Rattle.script_sites.specs.declared.site_numbering.LimitFault.{LimitFault}
use Rattle.script_sites.specs.declared.site_numbering.LimitFault.TheVariants as fault
use Rattle.script_sites.specs.declared.site_numbering.Numbering.{Numbering}
use Rattle.script_sites.specs.Calls.{checked, has_distinct_names, has_few_arguments}
use Rattle.script_sites.specs.Limits.{is_within, IsTooMany, IsWithinBefore, IsWithinLimits}
use Rattle.script_sites.specs.Numbering.{IsNumbering}
use Rattle.script_sites.specs.Sites.{site_binders}
use Rattle.script_sites.proofs.BinderCounts.{numbered_count}
use Rattle.script_sites.proofs.Turns.{above, all_within, one_more_within, within}

-- the refusal names the limit that is passed
pub refused_for : (s : Script) (w v : What) → IsTooMany s w → IsErrOf {T = Numbering} {E = LimitFault} (Err (fault.TooMany w)) (fault.TooMany v) → IsTooMany s v
refused_for s w v many is = let same : w ≡ v = cc in subst (IsTooMany s) same many

test_of : (b : Binder) (few distinct : Bool) (x : Binder) → Some x ≡ cond (few && distinct) (Some b) None → (x ≡ b) × (few ≡ true)
test_of b true true x e = (cc, refl)
test_of b true false x e = cc
test_of b false d x e = cc

-- where each site has a binder, no call has too many arguments
pub all_checked : (bs all : List Binder) → map Some all ≡ map checked bs → (all ≡ bs) × (list_all has_few_arguments bs ≡ true)
all_checked [] [] e = (refl, refl)
all_checked [] (x ∷ all) e = cc
all_checked (b ∷ bs) [] e = cc
all_checked (b ∷ bs) (x ∷ all) e =
    let head : Some x ≡ checked b = cc in
    let tail : map Some all ≡ map checked bs = cc in
    let first = test_of b (has_few_arguments b) (has_distinct_names b) x head in
    let rest = all_checked bs all tail in
    (cc (first.0, rest.0), and_from (has_few_arguments b) (list_all has_few_arguments bs) first.1 rest.1)

unchecked_for : (b : Binder) (few distinct more : Bool) → (is_some (cond (few && distinct) (Some b) None) && more) ≡ false → distinct ≡ true → (few && more) ≡ false
unchecked_for b true true more e d = e
unchecked_for b true false more e d = cc
unchecked_for b false d more e f = refl

unchecked_after : (few more less : Bool) → ((few && more) ≡ false) → (more ≡ false → less ≡ false) → (few && less) ≡ false
unchecked_after true more less e f = f e
unchecked_after false more less e f = refl

-- where a site has none, a call has too many arguments, if none repeats a name
pub some_unchecked : (bs : List Binder) → list_all is_some (map checked bs) ≡ false → list_all has_distinct_names bs ≡ true → list_all has_few_arguments bs ≡ false
some_unchecked [] e d = cc
some_unchecked (b ∷ bs) e d =
    let p = and_parts (has_distinct_names b) (list_all has_distinct_names bs) d in
    unchecked_after (has_few_arguments b) (list_all is_some (map checked bs)) (list_all has_few_arguments bs)
    (unchecked_for b (has_few_arguments b) (has_distinct_names b) (list_all is_some (map checked bs)) e p.0)
    (λ rest. some_unchecked bs rest p.1)

pub arguments_above : (s : Script) (found : List (Option Binder)) → IsWithinBefore s 4 → found ≡ map checked (site_binders s) → list_all is_some found ≡ false → list_all has_distinct_names (site_binders s) ≡ true → IsTooMany s what.Arguments
arguments_above s found before is none distinct = record { above = some_unchecked (site_binders s) (ap (list_all is_some) (sym is) ∙ none) distinct; first = before }

-- the sites are known, and the limits before them are kept
pub record AreCounted (s : Script) (all : List Binder) : Type 0 where
  pub sites : all ≡ site_binders s
  pub before : IsWithinBefore s 5

pub counted : (s : Script) (found : List (Option Binder)) (all : List Binder) → IsWithinBefore s 4 → found ≡ map checked (site_binders s) → map Some all ≡ found → AreCounted s all
counted s found all before is some =
    let both = all_checked (site_binders s) all (some ∙ is) in
    record { sites = both.0; before = one_more_within s what.Arguments before both.1 }

pub locals_above : (s : Script) (all : List Binder) → AreCounted s all → is_within what.Locals s ≡ false → IsTooMany s what.Locals
locals_above s all is many = record { above = many; first = is.before }

before_sites : (s : Script) (all : List Binder) → AreCounted s all → is_within what.Locals s ≡ true → IsWithinBefore s 6
before_sites s all is few = one_more_within s what.Locals is.before few

pub sites_above : (s : Script) (all : List Binder) → AreCounted s all → is_within what.Locals s ≡ true → 4096 < length all → IsTooMany s what.Sites
sites_above s all is few many = record {
  above = above (length (site_binders s)) 4096 (subst (λ z. 4096 < length z) is.sites many);
  first = before_sites s all is few;
}

before_binders : (s : Script) (all : List Binder) → AreCounted s all → is_within what.Locals s ≡ true → length all ≤ 4096 → IsWithinBefore s 7
before_binders s all is few small = one_more_within s what.Sites (before_sites s all is few) (within (length (site_binders s)) 4096 (subst (λ z. length z ≤ 4096) is.sites small))

binder_count : (s : Script) (all : List Binder) (numbers : List ℕ) (binders : List Binder) → AreCounted s all → IsNumbering all numbers binders → length binders ≡ distinct_count is_same_binder (site_binders s)
binder_count s all numbers binders is numbering = numbered_count all numbers binders numbering ∙ ap (distinct_count is_same_binder) is.sites

pub binders_above : (s : Script) (all : List Binder) (numbers : List ℕ) (binders : List Binder) → AreCounted s all → is_within what.Locals s ≡ true → length all ≤ 4096 → IsNumbering all numbers binders → 1024 < length binders → IsTooMany s what.Binders
binders_above s all numbers binders is few small numbering many = record {
  above = above (distinct_count is_same_binder (site_binders s)) 1024 (subst (λ n. 1024 < n) (binder_count s all numbers binders is numbering) many);
  first = before_binders s all is few small;
}

pub within_limits : (s : Script) (all : List Binder) (numbers : List ℕ) (binders : List Binder) → AreCounted s all → is_within what.Locals s ≡ true → length all ≤ 4096 → IsNumbering all numbers binders → length binders ≤ 1024 → IsWithinLimits s
within_limits s all numbers binders is few small numbering fits =
    all_within s (one_more_within s what.Binders (before_binders s all is few small)
    (within (distinct_count is_same_binder (site_binders s)) 1024 (subst (λ n. n ≤ 1024) (binder_count s all numbers binders is numbering) fits)))
