-- What becomes of a pass where what it knows of one binder's rules is changed.
use Rattle.std.proofs.Common.{◌≡◌, ◌≢◌, ◌∙◌, ℕ, zero, suc, ◌<◌, ◌⊎◌, Bool, List, [], ◌∷◌, length, get_or, slice_get, slice_set, Option, Some, Result, Ok, refl, sym, ap, subst, arith, eqb, true, false, inl, inr}
use Rattle.std.proofs.lemmas.Bool.Decides.{eqb_tells}
use Rattle.std.proofs.lemmas.List.{append-nil}
use Rattle.std.proofs.lemmas.List.Sorted.{IsPermutation-refl}
use Rattle.std.proofs.lemmas.Option.{slice_get-get_or}
use Rattle.std.specs.List.Sorted.{IsPermutation}
use Rattle.std.specs.Prelude.{Err, OnErr}
use Rattle.standard_binders.specs.declared.binder.Binder.{Binder}
use Rattle.script_program.specs.Programs.{functions_of}
use Rattle.object_history.specs.declared.object_row.ObjectRow.{ObjectRow}
use Rattle.turn_rows.specs.declared.view.Log.{Log}
use Rattle.turn_rows.specs.Passes as turns
use Rattle.known_rules.specs.declared.known.KnownRules.{KnownRules}
use Rattle.known_rules.specs.Knowledge.{setting_of}
use Rattle.dlr_engine.specs.declared.answer.Level.{Level}
use Rattle.dlr_engine.specs.declared.pass.Pass.{Pass}
use Rattle.dlr_engine.specs.declared.run.Run.{Run}
use Rattle.dlr_engine.specs.Knowing.{kept_in, kept_with, published_by, rules_of, Kept, KnownList, LearnsAtMost, Uses}
use Rattle.dlr_engine.specs.Minds.{table_in, MayHaveBound}
use Rattle.dlr_engine.specs.Operations.{IsIdle, IsRefused}
use Rattle.dlr_engine.specs.Passes.{answered_of, has_others, kept_at, levels_of, log_in, program_in, seen_in, IsPartOf, KeepsRulesAt, KnowsRulesOf}
use Rattle.dlr_engine.proofs.Permuting.{permuted}
use Rattle.dlr_engine.proofs.Settings.{knows_at, knows_set}

module _ {A : Type 0} where
  got_set : (xs : List A) (n : ℕ) (x : A) → n < length xs → slice_get (slice_set xs n x) n ≡ Some x
  got_set [] n x inside = absurd (omega (arith, inside))
  got_set (y ∷ ys) zero x inside = refl
  got_set (y ∷ ys) (suc n) x inside = got_set ys n x (omega (arith, inside))

  got_other : (xs : List A) (n m : ℕ) (x : A) → m ≢ n → slice_get (slice_set xs n x) m ≡ slice_get xs m
  got_other [] n m x other = refl
  got_other (y ∷ ys) zero zero x other = absurd (other refl)
  got_other (y ∷ ys) zero (suc m) x other = refl
  got_other (y ∷ ys) (suc n) zero x other = refl
  got_other (y ∷ ys) (suc n) (suc m) x other = got_other ys n m x (λ same. other (ap suc same))

-- the pass after differs from the one before in what it knows of the rules of the binder with this number
pub record Sets (old new : Pass) (n : ℕ) (was is : KnownRules) : Type 0 where
  pub inside : n < length old.known.items
  pub got : was ≡ get_or old.known.items n was
  pub put : new.known.items ≡ slice_set old.known.items n is

-- of a binder of the run a pass knows rules
pub knows_there : (run : Run) (p : Pass) (n : ℕ) (b : Binder) → IsPartOf run p → slice_get run.tag.binders.now n ≡ Some b
    → n < length p.known.items
knows_there run p n b part at =
    let there = knows_at run.caches.items run.tag.binders.now (functions_of (program_in run)) run.table p.known.items n b run.cached part.known at in
    there.1

-- it is one of the run
pub part_set : (run : Run) (old new : Pass) (n : ℕ) (was is : KnownRules) → Sets old new n was is → turns.IsPassOf run.rows new.rows
    → table_in new.mind ≡ table_in old.mind → setting_of is ≡ setting_of was → length new.classes.items ≡ length old.classes.items
    → IsPartOf run old → IsPartOf run new
part_set run old new n was is sets rows table setting classes part = record {
  rows = rows;
  table = table ∙ part.table;
  known = subst (KnowsRulesOf run) (sym sets.put)
      (knows_set run.caches.items run.tag.binders.now (functions_of (program_in run)) run.table old.known.items n is was
      (setting ∙ ap setting_of sets.got) part.known);
  classes = classes ∙ part.classes;
}

-- what it knows of the rules of other binders stays
pub others_keep : (old new : Pass) (n : ℕ) (was is : KnownRules) → Sets old new n was is → (m : ℕ) → m ≢ n → KeepsRulesAt old new m
others_keep old new n was is sets m other =
    let same : slice_get new.known.items m ≡ slice_get old.known.items m =
    ap (λ (known : List KnownRules). slice_get known m) sets.put ∙ got_other old.known.items n m is other in
    record { rules = ap rules_of same; published = ap published_by same }

-- what a pass has of the rules of a binder, of which it may know some
abbrev kept_from : Option KnownRules → ℕ → Kept
kept_from x dropped = kept_with (rules_of x) (published_by x) dropped

kept_was : (known : List KnownRules) (n dropped : ℕ) (was : KnownRules) → n < length known → was ≡ get_or known n was
    → kept_in was dropped ≡ kept_from (slice_get known n) dropped
kept_was known n dropped was inside got =
    ap (λ (x : Option KnownRules). kept_from x dropped) (ap (λ (k : KnownRules). Some k) got ∙ sym (slice_get-get_or known n was inside))

kept_is : (known : List KnownRules) (n dropped : ℕ) (is : KnownRules) → n < length known
    → kept_in is dropped ≡ kept_from (slice_get (slice_set known n is) n) dropped
kept_is known n dropped is inside = ap (λ (x : Option KnownRules). kept_from x dropped) (sym (got_set known n is inside))

-- how it used the rules of the binder
pub uses_set : (others : Bool) (level : Level) (known : List KnownRules) (n before after : ℕ) (was is : KnownRules) (Chosen : KnownList → Type 0)
    → n < length known → was ≡ get_or known n was → Uses others level (kept_in was before) (kept_in is after) Chosen
    → Uses others level (kept_from (slice_get known n) before) (kept_from (slice_get (slice_set known n is) n) after) Chosen
uses_set others level known n before after was is Chosen inside got uses =
    subst (λ (k : Kept). Uses others level k (kept_from (slice_get (slice_set known n is) n) after) Chosen) (kept_was known n before was inside got)
    (subst (λ (k : Kept). Uses others level (kept_in was before) k Chosen) (kept_is known n after is inside) uses)

learns_here : (others : Bool) (known : List KnownRules) (n before after : ℕ) (was is : KnownRules) → n < length known → was ≡ get_or known n was
    → LearnsAtMost others (kept_in was before) (kept_in is after)
    → LearnsAtMost others (kept_from (slice_get known n) before) (kept_from (slice_get (slice_set known n is) n) after)
learns_here others known n before after was is inside got learns =
    subst (λ (k : Kept). LearnsAtMost others k (kept_from (slice_get (slice_set known n is) n) after)) (kept_was known n before was inside got)
    (subst (λ (k : Kept). LearnsAtMost others (kept_in was before) k) (kept_is known n after is inside) learns)

learns_none : (others : Bool) (x y : Option KnownRules) (before after : ℕ) → y ≡ x → after ≡ before
    → LearnsAtMost others (kept_from x before) (kept_from y after)
learns_none others x y before after same dropped = record {
  rules = permuted others (rules_of x) (rules_of y) (subst (IsPermutation (rules_of x)) (sym (ap rules_of same)) (IsPermutation-refl (rules_of x)));
  published = ap published_by same;
  dropped = dropped;
}

learns_set : (others : Bool) (known : List KnownRules) (n before after : ℕ) (was is : KnownRules) → n < length known → was ≡ get_or known n was
    → LearnsAtMost others (kept_in was before) (kept_in is after)
    → (m : ℕ) → LearnsAtMost others (kept_from (slice_get known m) before) (kept_from (slice_get (slice_set known n is) m) after)
learns_set others known n before after was is inside got learns m = by_number (eqb_tells m n)
  where
    by_number : ((eqb m n ≡ true) × (m ≡ n)) ⊎ ((eqb m n ≡ false) × (m ≢ n))
        → LearnsAtMost others (kept_from (slice_get known m) before) (kept_from (slice_get (slice_set known n is) m) after)
    by_number (inl same) =
        subst (λ (k : ℕ). LearnsAtMost others (kept_from (slice_get known k) before) (kept_from (slice_get (slice_set known n is) k) after)) (sym same.1)
        (learns_here others known n before after was is inside got learns)
    by_number (inr other) =
        learns_none others (slice_get known m) (slice_get (slice_set known n is) m) before after (got_other known n m is other.1) learns.dropped

if_err : {A E : Type 0} (r : Result A E) (P : Type 0) → P → OnErr r P
if_err (Ok a) P p = tt
if_err (Err e) P p = p

-- where memory was refused
pub refused_set : {A E : Type 0} (run : Run) (old new : Pass) (n : ℕ) (was is : KnownRules) (r : Result A E) → Sets old new n was is
    → IsIdle (log_in old) (log_in new) → levels_of new ≡ levels_of old → MayHaveBound old.mind new.mind
    → LearnsAtMost (has_others run) (kept_in was old.dropped) (kept_in is new.dropped)
    → answered_of new ≡ answered_of old → OnErr r (IsRefused run old new)
refused_set run old new n was is r sets idle levels may learned answered = if_err r (IsRefused run old new) (record {
  idle = idle;
  levels = levels;
  binds = may;
  rules = λ m. subst (λ (known : List KnownRules). LearnsAtMost (has_others run) (kept_at old m) (kept_from (slice_get known m) new.dropped)) (sym sets.put)
      (learns_set (has_others run) old.known.items n old.dropped new.dropped was is sets.inside sets.got learned m);
  answered = answered;
})

-- nothing was made
pub idle_there : (c : Log ObjectRow) → IsIdle c c
idle_there c = λ row. record { seen = ([], sym (append-nil (seen_in c row))); mine = refl }
