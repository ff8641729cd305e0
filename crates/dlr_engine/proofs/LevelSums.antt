-- Sums of counts of operations at each level.
use Rattle.std.proofs.Common.{◌≡◌, ◌∙◌, List, [], ◌∷◌, ◌++◌, map, ap, sym, arith}
use Rattle.dlr_engine.specs.declared.answer.Levels.{Levels}
use Rattle.dlr_engine.specs.declared.pass.Pass.{Pass}
use Rattle.dlr_engine.specs.Levels.{added, all_levels, no_levels}
use Rattle.dlr_engine.specs.Passes.{levels_of}

same_levels : (l m : Levels) → l.target ≡ m.target → l.site ≡ m.site → l.binder ≡ m.binder → l.binds ≡ m.binds → l ≡ m
same_levels l m target site binder binds = λ i. record { target = target i; site = site i; binder = binder i; binds = binds i }

pub added_none : (l : Levels) → added l no_levels ≡ l
added_none l = same_levels (added l no_levels) l (omega arith) (omega arith) (omega arith) (omega arith)

none_added : (l : Levels) → added no_levels l ≡ l
none_added l = same_levels (added no_levels l) l (omega arith) (omega arith) (omega arith) (omega arith)

added_assoc : (l m n : Levels) → added (added l m) n ≡ added l (added m n)
added_assoc l m n = same_levels (added (added l m) n) (added l (added m n)) (omega arith) (omega arith) (omega arith) (omega arith)

all_more : (ps : List Pass) (p : Pass) → all_levels (map levels_of (ps ++ p ∷ [])) ≡ added (all_levels (map levels_of ps)) (levels_of p)
all_more [] p = added_none (levels_of p) ∙ sym (none_added (levels_of p))
all_more (q ∷ ps) p = ap (added (levels_of q)) (all_more ps p) ∙ sym (added_assoc (levels_of q) (all_levels (map levels_of ps)) (levels_of p))

-- those of one pass more
pub levels_more : (l : Levels) (ps : List Pass) (p : Pass)
    → added (added l (all_levels (map levels_of ps))) (levels_of p) ≡ added l (all_levels (map levels_of (ps ++ p ∷ [])))
levels_more l ps p = added_assoc l (all_levels (map levels_of ps)) (levels_of p) ∙ ap (added l) (sym (all_more ps p))
