-- What a run's report promises, by how its text was written.
use Rattle.std.proofs.Common.{◌≡◌, ℕ, true, ◌⊎◌, inl, inr, List, Option, None, Some, IfSome, sym, ◌∙◌, arith}
use Rattle.std.specs.Prelude.{encode_utf8_all}
use Rattle.script_program.specs.declared.program.Program.{Program}
use Rattle.script_program.specs.Programs.{script_of}
use Rattle.script_program.specs.Scripts.{IsScript}
use Rattle.engine_tasks.specs.declared.report.Report.{Report}
use Rattle.command_words.specs.declared.words.Options.{Options}
use Rattle.command_words.specs.declared.words.Command.TheVariants.{Run}
use Rattle.command_words.specs.Commands.{command_of}
use Rattle.byte_devices.specs.Devices.{Adds, AddsProperFront}
use Rattle.dlr_top.specs.Headline.{Reports, SomeFaulted}
use Rattle.engine_tasks.specs.Lawful.{IsLawful, IsSerial}
use Rattle.dlr_top.specs.Rendering.{report_text}

is_no_five : (status : ℕ) → (status ≡ 0) ⊎ (status ≡ 1) → status ≡ 5 → ⊥
is_no_five status (inl zero) five = omega arith
is_no_five status (inr one) five = omega arith

-- the text was written whole
pub whole_report : (program : Program) (options : Options) (report : Report) (status found : ℕ) (words : List (List ℕ)) (held before after : Option (List ℕ))
    → IfSome held (λ bytes. IsScript bytes (script_of program)) → command_of words ≡ Some (Run options) → IsLawful program options report → (options.serial ≡ true → IsSerial program options report)
    → Adds before after (encode_utf8_all (report_text program options report)) → status ≡ found → (found ≡ 0) ⊎ (found ≡ 1)
    → (found ≡ 0 → SomeFaulted report → ⊥) → (found ≡ 1 → SomeFaulted report) → Reports status words held before after report
whole_report program options report status found words held before after read commanded lawful serial adds is either all_done faulted = record {
  program = program;
  read = read;
  options = options;
  commanded = commanded;
  lawful = lawful;
  serial = serial;
  written = λ _. adds;
  begun = λ five. absurd (is_no_five found either (sym is ∙ five));
  all_done = λ zero. all_done (sym is ∙ zero);
  faulted = λ one. faulted (sym is ∙ one);
}

-- a proper front of the text was written
pub front_report : (program : Program) (options : Options) (report : Report) (status : ℕ) (words : List (List ℕ)) (held before after : Option (List ℕ))
    → IfSome held (λ bytes. IsScript bytes (script_of program)) → command_of words ≡ Some (Run options) → IsLawful program options report → (options.serial ≡ true → IsSerial program options report)
    → AddsProperFront before after (encode_utf8_all (report_text program options report)) → status ≡ 5 → Reports status words held before after report
front_report program options report status words held before after read commanded lawful serial adds five = record {
  program = program;
  read = read;
  options = options;
  commanded = commanded;
  lawful = lawful;
  serial = serial;
  written = λ other. absurd (other five);
  begun = λ _. adds;
  all_done = λ zero. absurd (omega arith);
  faulted = λ one. absurd (omega arith);
}

-- what holds of a report for all that a source may have held holds for what it held
pub where_held : (report : Option Report) (Q : Option (List ℕ) → List (List ℕ) → Report → Type 0) (Is : Option (List ℕ) → Type 0) (Asks : List (List ℕ) → Type 0)
    (held : Option (List ℕ)) → Is held → IfSome report (λ r. (h : Option (List ℕ)) (words : List (List ℕ)) → Is h → Asks words → Q h words r)
    → IfSome report (λ r. (words : List (List ℕ)) → Asks words → Q held words r)
where_held None Q Is Asks held is reports = reports
where_held (Some r) Q Is Asks held is reports = λ words asks. reports held words is asks
