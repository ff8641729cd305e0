-- What contracts see of an engine.
use Rattle.meta_object.specs.declared.language.Language.{Ghosts}
use Rattle.dlr_engine.specs.declared.engine.Engine.{Engine}
use Rattle.dlr_engine.specs.declared.run.Run.{Run}

-- its run, which is all of it but its language
abbrev pub run_of : {L : Type 0} {D : Ghosts L} → Engine L D → Run
run_of e = e.run
