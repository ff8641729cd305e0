use Rattle.std.proofs.Common.{◌≡◌, ◌++◌, [], ◌∙◌, ap, sym, subst}
use Rattle.std.specs.Prelude.{codes, encode_utf8_all}
use Rattle.std.specs.Fmt.{decimal}
use Rattle.std.specs.List.{flat_map}
use Rattle.object_model.specs.Journals.{IsLegal, members_after}
use Rattle.script_program.specs.Programs.{binders_of}
use Rattle.engine_tasks.specs.Lawful.{journal_at}
use Rattle.dlr_top.specs.Rendering.{entry_text, members_text}
use Rattle.dlr_top.proofs.Lines.{both, both_ok, refused_after}
use Rattle.dlr_top.proofs.report.journals.render_object.Goals as goal

pub replayed-requires : goal.replayed-requires
replayed-requires c =
    subst (λ bs. IsLegal bs [] c.journal_of-journal.result.now) (sym c.binders.ensures.binders)
    (subst (IsLegal (binders_of c.args.program.now) []) (sym c.journal_of-journal.ensures) (c.requires.legal c.args.object))

pub returns-clause-appended : goal.returns-clause-appended
returns-clause-appended c =
    let program = c.args.program.now in
    let journal = journal_at c.args.report.now c.args.object in
    let ms = members_after (binders_of program) [] journal in
    let entries = flat_map (entry_text program) journal in
    let number = codes "object " ++ decimal c.args.object in
    let head = number ++ codes "\n" in
    let body = head ++ entries in
    let label = body ++ codes "  members" in
    let all = label ++ members_text ms in
    let wrote_entries : c.render_entries.new.out.items ≡ c.put_ascii-2.new.out.items ++ encode_utf8_all entries =
    c.in_ok-render_entries.ensures.appended ∙ ap (λ z. c.put_ascii-2.new.out.items ++ encode_utf8_all (flat_map (entry_text program) z)) c.journal_of-journal.ensures in
    let is : c.members-2.result.now ≡ ms =
    c.members-2.ensures ∙ c.in_ok-members.ensures ∙ ap (λ z. members_after z [] c.journal_of-journal.result.now) c.binders.ensures.binders
    ∙ ap (members_after (binders_of program) []) c.journal_of-journal.ensures in
    let wrote_members : c.render_members.new.out.items ≡ c.put_ascii-3.new.out.items ++ encode_utf8_all (members_text ms) =
    c.in_ok-render_members.ensures.appended ∙ ap (λ z. c.put_ascii-3.new.out.items ++ encode_utf8_all (members_text z)) is in
    let one = both _ _ _ (codes "object ") (decimal c.args.object) c.in_ok-put_ascii.ensures.appended c.in_ok-put_number.ensures.appended in
    let two = both _ _ _ number (codes "\n") one c.in_ok-put_ascii-2.ensures.appended in
    let three = both _ _ _ head entries two wrote_entries in
    let four = both _ _ _ body (codes "  members") three c.in_ok-put_ascii-3.ensures.appended in
    let five = both _ _ _ label (members_text ms) four wrote_members in
    both_ok c.put_ascii-4.result _ _ _ all (codes "\n") five c.put_ascii-4.ensures.appended

pub returns-clause-begins : goal.returns-clause-begins
returns-clause-begins c =
    refused_after c.put_ascii-4.result _ _ _ _ c.in_ok-put_ascii.ensures.appended
    (refused_after c.put_ascii-4.result _ _ _ _ c.in_ok-put_number.ensures.appended
    (refused_after c.put_ascii-4.result _ _ _ _ c.in_ok-put_ascii-2.ensures.appended
    (refused_after c.put_ascii-4.result _ _ _ _ c.in_ok-render_entries.ensures.appended
    (refused_after c.put_ascii-4.result _ _ _ _ c.in_ok-put_ascii-3.ensures.appended
    (refused_after c.put_ascii-4.result _ _ _ _ c.in_ok-render_members.ensures.appended
    c.put_ascii-4.ensures.begins)))))
