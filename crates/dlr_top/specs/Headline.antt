-- What the command promises of a run and of a check.
use Rattle.std.specs.Prelude.{◌≡◌, ◌≢◌, ℕ, true, List, Option, IfSome, slice_get, Some, codes, encode_utf8_all}
use Rattle.script_grammar.specs.declared.tree.Script.{Script}
use Rattle.script_program.specs.declared.program.Program.{Program}
use Rattle.script_program.specs.Programs.{script_of}
use Rattle.script_program.specs.Scripts.{IsScript}
use Rattle.command_words.specs.declared.words.Command.TheVariants.{Run}
use Rattle.command_words.specs.declared.words.Options.{Options}
use Rattle.command_words.specs.Commands.{command_of}
use Rattle.byte_devices.specs.Devices.{Adds, AddsFirst, AddsProperFront, Rose}
use Rattle.engine_tasks.specs.declared.report.TaskEnd.{TaskEnd}
use Rattle.engine_tasks.specs.declared.report.Report.{Report}
use Rattle.engine_tasks.specs.Lawful.{IsLawful, IsSerial}
use Rattle.task_walk.specs.declared.ended.Ended.{Ended}
use Rattle.task_walk.specs.declared.ended.Ended.TheVariants.{Done, Faulted}
use Rattle.dlr_top.specs.Rendering.{report_text}

-- a text that takes the place of a report was written: a front of it where the sink failed, and else all of it
pub record Announced (before after : Option (List ℕ)) (was is : ℕ) (text : List ℕ) : Type 0 where
  pub front : AddsFirst before after text
  pub whole : (Rose was is → ⊥) → Adds before after text

abbrev pub IsFaulted : Ended → Type 0
IsFaulted Done = ⊥
IsFaulted (Faulted f) = Unit {0}

-- a task ended by a fault
abbrev pub SomeFaulted : Report → Type 0
SomeFaulted report = (task : ℕ) × ((end : TaskEnd) × ((slice_get report.tasks task ≡ Some end) × IsFaulted end.ended))

-- The report is lawful for the script that the source held, and serial where the words ask for that; its text by the
-- words' options was written: whole where the status is not 5, and else a front of it that is shorter. Status 1 says
-- that a task ended by a fault, and status 0 that none did.
pub record Reports (status : ℕ) (words : List (List ℕ)) (held before after : Option (List ℕ)) (report : Report)
    : Type 0 where
  pub program : Program
  pub read : IfSome held (λ bytes. IsScript bytes (script_of program))
  pub options : Options
  pub commanded : command_of words ≡ Some (Run options)
  pub lawful : IsLawful program options report
  pub serial : options.serial ≡ true → IsSerial program options report
  pub written : status ≢ 5 → Adds before after (encode_utf8_all (report_text program options report))
  pub begun : status ≡ 5 → AddsProperFront before after (encode_utf8_all (report_text program options report))
  pub all_done : status ≡ 0 → SomeFaulted report → ⊥
  pub faulted : status ≡ 1 → SomeFaulted report

abbrev pub ok_text : List ℕ
ok_text = codes "ok\n"

-- The bytes that the source held are a script, and that was written: whole where the status is 0, and a front of it
-- that is shorter where it is 5.
pub record Checked (status : ℕ) (held before after : Option (List ℕ)) : Type 0 where
  pub found : IfSome held (λ bytes. (script : Script) × IsScript bytes script)
  pub written : status ≡ 0 → Adds before after ok_text
  pub begun : status ≡ 5 → AddsProperFront before after ok_text
