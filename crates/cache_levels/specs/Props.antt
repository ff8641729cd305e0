-- That what a lone pass keeps has at most one proof.
use Rattle.std.specs.Prelude.{◌≡◌, ℕ, List}
use Rattle.std.proofs.Math.Logic.{∥∥₁_prop}
use Rattle.std.proofs.Props.{props}
use Rattle.answered_operations.specs.declared.operation.AnsweredOperation.{AnsweredOperation}
use Rattle.standard_binders.specs.declared.binder.Binder.{Binder}
use Rattle.rule.specs.declared.claimed.Adopted.{Adopted}
use Rattle.rule.specs.declared.rule.Rule.{Rule}
use Rattle.rule_model.specs.ClassMaps.{ClassMap}
use Rattle.cache_levels.specs.Levels.{Counts}
use Rattle.cache_levels.specs.Memories.{Memory}
use Rattle.cache_levels.specs.Runs.{KeepsRun, run_levels}

pub counts_prop : (one other : Counts) → IsProp (one ≡ other)
counts_prop one other = Prim.hlevel props

pub keeps_run_prop : (binders : List Binder) (sites : List ℕ) (classes : ClassMap)
    (operations : List AnsweredOperation) (counts : Counts) (m : Memory Rule Adopted)
    → IsProp (KeepsRun binders sites classes operations counts m)
keeps_run_prop binders sites classes operations counts m = λ p q i few.
    (counts_prop counts (run_levels binders sites operations) (p few).0 (q few).0 i, ∥∥₁_prop (p few).1 (q few).1 i)
