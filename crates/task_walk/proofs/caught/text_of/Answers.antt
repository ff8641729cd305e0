use Rattle.std.proofs.Common.{◌≡◌, ◌++◌, length, ap, sym, ◌∙◌, arith}
use Rattle.std.specs.Prelude.{encode_utf8_all}
use Rattle.std.specs.Str.{chars}
use Rattle.std.proofs.lemmas.Str.{chars-encodes}
use Rattle.dyn_value.specs.Texts.{fault_text}
use Rattle.task_walk.proofs.FaultTexts.{short_fault}
use Rattle.task_walk.proofs.caught.text_of.Goals as goal

pub unreachable-requires : goal.unreachable-requires
unreachable-requires c =
    let printed : c.as_slice.result.now ≡ encode_utf8_all (fault_text c.args.fault.now) =
    c.as_slice.ensures.value ∙ c.in_ok-print_to.ensures.appended ∙ ap (λ bs. bs ++ encode_utf8_all (fault_text c.args.fault.now)) c.new-bytes.ensures.items in
    let bytes : c.in-Ok.text.now ≡ encode_utf8_all (fault_text c.args.fault.now) = c.in-Ok.ensures.cases.0 ∙ printed in
    let short = short_fault c.args.fault.now c.requires in
    let long = rw c.in-None.is at c.in_ok-text-in-Ok.ensures.characters in
    omega (arith, long, ap length bytes, short.1)

pub unreachable-requires-in-Err : goal.unreachable-requires-in-Err
unreachable-requires-in-Err c =
    let printed : c.as_slice.result.now ≡ encode_utf8_all (fault_text c.args.fault.now) =
    c.as_slice.ensures.value ∙ c.in_ok-print_to.ensures.appended ∙ ap (λ bs. bs ++ encode_utf8_all (fault_text c.args.fault.now)) c.new-bytes.ensures.items in
    c.in-Err.ensures.cases.0 (fault_text c.args.fault.now, ((short_fault c.args.fault.now c.requires).0, sym printed))

pub returns-clause-text : goal.returns-clause-text
returns-clause-text c =
    let printed : c.as_slice.result.now ≡ encode_utf8_all (fault_text c.args.fault.now) =
    c.as_slice.ensures.value ∙ c.in_ok-print_to.ensures.appended ∙ ap (λ bs. bs ++ encode_utf8_all (fault_text c.args.fault.now)) c.new-bytes.ensures.items in
    let bytes : c.in-Ok.text.now ≡ encode_utf8_all (fault_text c.args.fault.now) = c.in-Ok.ensures.cases.0 ∙ printed in
    let is = rw c.in-Some.is at c.in_ok-text-in-Ok.ensures.characters in
    is ∙ ap chars bytes ∙ chars-encodes (fault_text c.args.fault.now) (short_fault c.args.fault.now c.requires).0
