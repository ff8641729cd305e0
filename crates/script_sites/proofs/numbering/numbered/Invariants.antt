use Rattle.std.proofs.Common.{◌≤◌, ℕ, length, take}
use Rattle.script_sites.specs.Numbering.{IsNumbering}
use Rattle.script_sites.proofs.numbering.numbered.Given as goal

-- the sites so far are numbered, with no more binders than sites
pub record Numbered (numbering : Type 0) (binders sites : ℕ) : Type 0 where
  pub so_far : numbering
  pub few : binders ≤ sites

abbrev pub invariant-loop-binder : goal.invariant-loop-binder
invariant-loop-binder l = Numbered (IsNumbering (take l.binder-index l.at_sites) l.sites l.binders) (length l.binders) l.binder-index
