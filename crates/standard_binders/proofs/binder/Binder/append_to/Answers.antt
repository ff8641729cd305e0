use Rattle.std.proofs.Common.{◌≡◌, ◌++◌, ◌∷◌, [], refl, codes}
use Rattle.std.specs.Prelude.{encode_utf8_all}
use Rattle.dyn_value.specs.Texts.{quoted_text}
use Rattle.standard_binders.specs.Arguments.{arguments_text}
use Rattle.standard_binders.proofs.Appended.{joined, joined_ok, labelled}
use Rattle.standard_binders.proofs.binder.Binder.append_to.Goals as goal

pub returns-in_ok-extend_from_slice-in-CreateInstance : goal.returns-in_ok-extend_from_slice-in-CreateInstance
returns-in_ok-extend_from_slice-in-CreateInstance c =
    let old = c.args.out.now.items in
    let mid = c.extend_from_slice-in-CreateInstance.new.self.items in
    let new = c.append_to-in-CreateInstance.new.out.items in
    let label = codes "CreateInstance " in
    rw c.in-CreateInstance.is
    (joined_ok c.append_to-in-CreateInstance.result old mid new label (arguments_text c.in-CreateInstance.info)
    (labelled old mid label refl c.in_ok-extend_from_slice-in-CreateInstance.ensures.items) c.append_to-in-CreateInstance.ensures)

pub returns-in_ok-push-in-InvokeMember : goal.returns-in_ok-push-in-InvokeMember
returns-in_ok-push-in-InvokeMember c =
    let old = c.args.out.now.items in
    let one = c.extend_from_slice-in-InvokeMember.new.self.items in
    let two = c.quote_to-in-InvokeMember.new.out.items in
    let three = c.push.new.self.items in
    let new = c.append_to-in-InvokeMember.new.out.items in
    let label = codes "InvokeMember " in
    let name = quoted_text c.in-InvokeMember.name in
    let named : two ≡ old ++ encode_utf8_all (label ++ name) =
    joined old one two label name (labelled old one label refl c.in_ok-extend_from_slice-in-InvokeMember.ensures.items) c.in_ok-quote_to-in-InvokeMember.ensures.appended in
    rw c.in-InvokeMember.is
    (joined_ok c.append_to-in-InvokeMember.result old two new (label ++ name) (32 ∷ arguments_text c.in-InvokeMember.info) named
    (joined_ok c.append_to-in-InvokeMember.result two three new (32 ∷ []) (arguments_text c.in-InvokeMember.info)
    (labelled two three (32 ∷ []) refl c.in_ok-push-in-InvokeMember.ensures.items) c.append_to-in-InvokeMember.ensures))
