use Rattle.std.proofs.Common.{◌≡◌, ◌≤◌, ℕ, List, ◌++◌, ap, sym, ◌∙◌, subst, arith, rules, string_bytes}
use Rattle.std.specs.Fmt.{decimal}
use Rattle.std.specs.List.{flat_map}
use Rattle.std.specs.Prelude.{encode_utf8_all, IfOk, OnOk}
use Rattle.std.proofs.lemmas.Fmt.{IsAscii-decimal}
use Rattle.std.proofs.lemmas.Str.{encodes-IsAscii}
use Rattle.standard_binders.specs.Arguments.{Arguments, AreArguments, name_text}
use Rattle.standard_binders.proofs.Appended.{joined_ok}
use Rattle.standard_binders.proofs.call_info.CallInfo.append_to.Goals as goal

pub returns : goal.returns
returns c =
    let count = c.args.self.now.count in
    let old = c.args.out.now.items in
    let mid = c.extend_from_slice.new.self.items in
    let new = c.append_names.new.out.items in
    let are : AreArguments c.args.self.now = subst AreArguments c.self.view_is c.self.invariant in
    let few : count ≤ 16 = are.few in
    let written : IfOk c.format.result (λ s. string_bytes s ≡ decimal count) = search rules in
    let digits : string_bytes c.in_ok-digits.digits ≡ decimal count = subst (λ r. IfOk r (λ s. string_bytes s ≡ decimal count)) c.in_ok-digits.was written in
    let added : mid ≡ old ++ encode_utf8_all (decimal count) =
    c.in_ok-extend_from_slice.ensures.items
    ∙ ap (λ x. old ++ x) (c.as_bytes.ensures.value ∙ digits ∙ sym (encodes-IsAscii (decimal count) (IsAscii-decimal count (omega arith)))) in
    let names : c.deref.result.now ≡ c.args.self.now.names = c.deref.ensures.value ∙ ap (λ (a : Arguments). a.names) c.self.view_is in
    joined_ok c.append_names.result old mid new (decimal count) (flat_map name_text c.args.self.now.names) added
    (subst (λ (ns : List (List ℕ)). OnOk c.append_names.result (new ≡ mid ++ encode_utf8_all (flat_map name_text ns))) names c.append_names.ensures)
