use Rattle.std.proofs.Common.{◌≡◌, ◌++◌, ◌∙◌, ap, slice_get}
use Rattle.std.specs.Prelude.{codes, encode_utf8_all}
use Rattle.std.specs.List.{flat_map}
use Rattle.script_program.specs.Programs.{script_of, binders_of}
use Rattle.dlr_top.specs.Rendering.{name_of, operand_text, outcome_text, text_of}
use Rattle.dlr_top.proofs.Lines.{both, both_ok, refused_after}
use Rattle.dlr_top.proofs.report.entries.render_entry.Goals as goal

pub returns-clause-appended : goal.returns-clause-appended
returns-clause-appended c =
    let e = c.args.entry.now in
    let task = name_of (slice_get (script_of c.args.program.now).tasks e.task) in
    let binder = text_of (slice_get (binders_of c.args.program.now) e.binder) in
    let operands = flat_map operand_text e.operands in
    let named = codes "  " ++ task in
    let spaced = named ++ codes " " in
    let bound = spaced ++ binder in
    let asked = bound ++ operands in
    let arrow = asked ++ codes " -> " in
    let told = arrow ++ outcome_text e.outcome in
    let wrote_operands : c.render_operands.new.out.items ≡ c.render_binder.new.out.items ++ encode_utf8_all operands =
    c.in_ok-render_operands.ensures.appended ∙ ap (λ z. c.render_binder.new.out.items ++ encode_utf8_all (flat_map operand_text z)) c.as_slice.ensures in
    let one = both _ _ _ (codes "  ") task c.in_ok-put_ascii.ensures.appended c.in_ok-render_task_name.ensures.appended in
    let two = both _ _ _ named (codes " ") one c.in_ok-put_ascii-2.ensures.appended in
    let three = both _ _ _ spaced binder two c.in_ok-render_binder.ensures.appended in
    let four = both _ _ _ bound operands three wrote_operands in
    let five = both _ _ _ asked (codes " -> ") four c.in_ok-put_ascii-3.ensures.appended in
    let six = both _ _ _ arrow (outcome_text e.outcome) five c.in_ok-render_outcome.ensures.appended in
    both_ok c.put_ascii-4.result _ _ _ told (codes "\n") six c.put_ascii-4.ensures.appended

pub returns-clause-begins : goal.returns-clause-begins
returns-clause-begins c =
    refused_after c.put_ascii-4.result _ _ _ _ c.in_ok-put_ascii.ensures.appended
    (refused_after c.put_ascii-4.result _ _ _ _ c.in_ok-render_task_name.ensures.appended
    (refused_after c.put_ascii-4.result _ _ _ _ c.in_ok-put_ascii-2.ensures.appended
    (refused_after c.put_ascii-4.result _ _ _ _ c.in_ok-render_binder.ensures.appended
    (refused_after c.put_ascii-4.result _ _ _ _ c.in_ok-render_operands.ensures.appended
    (refused_after c.put_ascii-4.result _ _ _ _ c.in_ok-put_ascii-3.ensures.appended
    (refused_after c.put_ascii-4.result _ _ _ _ c.in_ok-render_outcome.ensures.appended
    c.put_ascii-4.ensures.begins))))))
