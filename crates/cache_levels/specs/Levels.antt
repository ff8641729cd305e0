-- The level of each operation of a list, by the shapes of the operations before it.
-- A list of operations has the latest first. Nothing here speaks of rules, words or classes.
use Rattle.std.specs.Prelude.{◌≡◌, Decides, ℕ, ◌+◌, ◌≤◌, ◌==◌, Bool, true, false, if◌then◌else◌, List, [], ◌∷◌, Option, Some, None, length, take}
use Rattle.std.specs.List.{list_any}
use Rattle.call_site.specs.declared.choice.Level.{Level}
use Rattle.call_site.specs.declared.choice.Level.TheVariants.{Target, Site, Binder, Bind}
use Rattle.call_site.specs.Passes.{enters}

-- an operation as it counts: its site, and its shape
pub record Asked (H : Type 0) : Type 0 where
  pub site : ℕ
  pub shape : H

-- how many operations were answered at each level
pub record Counts : Type 0 where
  pub target : ℕ
  pub site : ℕ
  pub binder : ℕ
  pub binds : ℕ

abbrev pub no_counts : Counts
no_counts = record { target = 0; site = 0; binder = 0; binds = 0 }

-- at all levels
abbrev pub total : Counts → ℕ
total c = c.target + c.site + c.binder + c.binds

-- one more at this level
abbrev pub raised : Level → Counts → Counts
raised Target c = record { target = c.target + 1; site = c.site; binder = c.binder; binds = c.binds }
raised Site c = record { target = c.target; site = c.site + 1; binder = c.binder; binds = c.binds }
raised Binder c = record { target = c.target; site = c.site; binder = c.binder + 1; binds = c.binds }
raised Bind c = record { target = c.target; site = c.site; binder = c.binder; binds = c.binds + 1 }

module _ {H : Type 0} where
  -- the shape of the last operation at a site
  abbrev pub last_at : List (Asked H) → ℕ → Option H
  last_at [] site = None
  last_at (o ∷ earlier) site = if o.site == site then Some o.shape else last_at earlier site

  -- one shape more, where it is not there yet
  abbrev pub with_new : Bool → H → List H → List H
  with_new true shape shapes = shapes
  with_new false shape shapes = shape ∷ shapes

-- the test tells whether two shapes are equal
abbrev pub TellsEqual : {H : Type 0} → (H → H → Bool) → Type 0
TellsEqual {H} same = (one other : H) → Decides (same one other) (one ≡ other)

module _ {H : Type 0} (same : H → H → Bool) where
  -- whether the shape is among these
  abbrev pub is_among : H → List H → Bool
  is_among shape shapes = list_any (same shape) shapes

  -- whether the shape is this one
  abbrev pub is_shape : H → Option H → Bool
  is_shape shape None = false
  is_shape shape (Some last) = same shape last

  -- The level of an operation of this shape: its site's last operation had it, or it is one of the last ten shapes that
  -- the site entered, or one that the binder met; or it is bound.
  abbrev pub level_by : Option H → List H → List H → H → Level
  level_by last entered met shape =
      if is_shape shape last then Target
      else if is_among shape (take 10 entered) then Site
      else if is_among shape met then Binder
      else Bind

module _ {H : Type 0} (same : H → H → Bool) (binder_of : ℕ → ℕ) where
  -- the shapes that a binder met, each once
  abbrev pub met_by : List (Asked H) → ℕ → List H
  met_by [] binder = []
  met_by (o ∷ earlier) binder =
      if binder_of o.site == binder
      then with_new (is_among same o.shape (met_by earlier binder)) o.shape (met_by earlier binder)
      else met_by earlier binder

  -- the shapes that a site entered, the latest first: those of its operations that were found at the binder or bound
  abbrev pub entered_at : List (Asked H) → ℕ → List H
  entered_at [] site = []
  entered_at (o ∷ earlier) site =
      if o.site == site
      then if enters (level_by same (last_at earlier site) (entered_at earlier site)
      (met_by earlier (binder_of site)) o.shape)
      then o.shape ∷ entered_at earlier site
      else entered_at earlier site
      else entered_at earlier site

  -- the level of an operation after these
  abbrev pub level_after : List (Asked H) → Asked H → Level
  level_after earlier o =
      level_by same (last_at earlier o.site) (entered_at earlier o.site) (met_by earlier (binder_of o.site)) o.shape

  -- how many of these operations are answered at each level
  abbrev pub levels_of : List (Asked H) → Counts
  levels_of [] = no_counts
  levels_of (o ∷ earlier) = raised (level_after earlier o) (levels_of earlier)

  -- no binder met more than 64 shapes
  abbrev pub MeetsFew : List (Asked H) → Type 0
  MeetsFew asked = (binder : ℕ) → length (met_by asked binder) ≤ 64
