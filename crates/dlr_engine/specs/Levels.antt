-- How many operations were answered at each level.
use Rattle.std.specs.Prelude.{ℕ, ◌+◌, List, [], ◌∷◌}
use Rattle.dlr_engine.specs.declared.answer.Level.{Level}
use Rattle.dlr_engine.specs.declared.answer.Level.TheVariants.{Target, Site, Binder, Bind}
use Rattle.dlr_engine.specs.declared.answer.Levels.{Levels}

-- of all levels
abbrev pub total : Levels → ℕ
total l = l.target + l.site + l.binder + l.binds

-- one more of this level
abbrev pub raised : Level → Levels → Levels
raised Target l = record { target = l.target + 1; site = l.site; binder = l.binder; binds = l.binds }
raised Site l = record { target = l.target; site = l.site + 1; binder = l.binder; binds = l.binds }
raised Binder l = record { target = l.target; site = l.site; binder = l.binder + 1; binds = l.binds }
raised Bind l = record { target = l.target; site = l.site; binder = l.binder; binds = l.binds + 1 }

-- at each level those of both
abbrev pub added : Levels → Levels → Levels
added l m = record {
  target = l.target + m.target;
  site = l.site + m.site;
  binder = l.binder + m.binder;
  binds = l.binds + m.binds;
}

abbrev pub no_levels : Levels
no_levels = record { target = 0; site = 0; binder = 0; binds = 0 }

-- at each level those of all
abbrev pub all_levels : List Levels → Levels
all_levels [] = no_levels
all_levels (l ∷ ls) = added l (all_levels ls)
