use Rattle.std.proofs.Common.{ℕ, List, Err, ◌∙◌, ap, subst}
use Rattle.byte_devices.specs.declared.output.Unwritten.{Unwritten}
use Rattle.byte_devices.specs.Devices.{Adds, AddsProperFront}
use Rattle.dlr_top.proofs.Endings.{whole_report, front_report}
use Rattle.dlr_top.proofs.execution.execute.Goals as goal

pub returns-in-Ok-deliver-clause-report : goal.returns-in-Ok-deliver-clause-report
returns-in-Ok-deliver-clause-report g c =
    let before = g.K.Sink.has c.args.sink.now in
    let after = g.K.Sink.has c.deliver.new.sink in
    let text = c.as_slice.ensures.value ∙ c.in-Ok.ensures.text in
    let adds = subst (λ (l : List ℕ). Adds before after l) text c.in-Ok-deliver.ensures.whole in
    rw c.with_report.ensures.report (λ held words read commanded.
    whole_report c.args.program.now c.args.options.now c.in-Ok.run'.0 c.with_report.result.status c.status_of.result words held before after
    read commanded c.in-Ok.ensures.lawful c.in-Ok.ensures.serial adds c.with_report.ensures.status c.status_of.ensures.status c.status_of.ensures.all_done c.status_of.ensures.faulted)

pub returns-in-Err-SinkFailed-clause-report : goal.returns-in-Err-SinkFailed-clause-report
returns-in-Err-SinkFailed-clause-report g c =
    let before = g.K.Sink.has c.args.sink.now in
    let after = g.K.Sink.has c.deliver.new.sink in
    let text = c.as_slice.ensures.value ∙ c.in-Ok.ensures.text in
    let front = c.in-Err-SinkFailed.ensures.front (ap (λ (e : Unwritten). Err e) c.in-Err-SinkFailed.field-0-is) in
    let adds = subst (λ (l : List ℕ). AddsProperFront before after l) text front in
    rw c.with_report-in-Err-SinkFailed.ensures.report (λ held words read commanded.
    front_report c.args.program.now c.args.options.now c.in-Ok.run'.0 c.with_report-in-Err-SinkFailed.result.status words held before after
    read commanded c.in-Ok.ensures.lawful c.in-Ok.ensures.serial adds c.with_report-in-Err-SinkFailed.ensures.status)
