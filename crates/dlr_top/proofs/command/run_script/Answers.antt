use Rattle.std.proofs.Common.{◌≡◌, Some, IfSome}
use Rattle.script_program.specs.Programs.{script_of}
use Rattle.script_program.specs.Scripts.{IsScript}
use Rattle.command_words.specs.declared.words.Command.TheVariants.{Run}
use Rattle.command_words.specs.Commands.{command_of}
use Rattle.dlr_top.specs.Headline.{Reports}
use Rattle.dlr_top.proofs.Endings.{where_held}
use Rattle.dlr_top.proofs.command.run_script.Goals as goal

pub returns-in-Ok-clause-report : goal.returns-in-Ok-clause-report
returns-in-Ok-clause-report g c =
    where_held c.execute.result.report
    (λ held words report. Reports c.execute.result.status words held (g.K.Sink.has c.args.sink.now) (g.K.Sink.has c.execute.new.sink) report)
    (λ held. IfSome held (λ bytes. IsScript bytes (script_of c.in-Ok.program)))
    (λ words. command_of words ≡ Some (Run c.args.options.now))
    (g.S.Source.held c.args.source.now) c.in-Ok.ensures.found c.execute.ensures.report
