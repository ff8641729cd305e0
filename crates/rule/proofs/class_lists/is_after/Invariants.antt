-- The names before the place are those that the class after is to have.
use Rattle.std.proofs.Common.{◌≡◌, ℕ, ◌<◌, slice_get}
use Rattle.expando_class.specs.Class.{names_of}
use Rattle.rule_model.specs.Claims.{changed}
use Rattle.rule.proofs.class_lists.is_after.Given as goal

abbrev pub invariant-loop-place : goal.invariant-loop-place
invariant-loop-place l = (k : ℕ) → k < l.place → slice_get (names_of l.after) k ≡ slice_get (changed (names_of l.class) l.claimed.name l.claimed.place) k
