use Rattle.std.proofs.Common.{◌≡◌, sym, ap, subst, ◌∙◌, FitsSigned}
use Rattle.std.specs.Prelude.{Some}
use Rattle.std.specs.Fmt.{signed_decimal}
use Rattle.std.specs.Int.{w64}
use Rattle.std.specs.Cmp.Lexicographic.{bytes_decides}
use Rattle.std.proofs.lemmas.Int.{to_z-of_z}
use Rattle.dyn_value.proofs.Numbers.{unread, read, plain_bytes}
use Rattle.dyn_value.proofs.conversions.number_of.Goals as goal
use Rattle.dyn_value.proofs.conversions.number_of.Goals.{then-same, else-same}

pub returns-in_default : goal.returns-in_default
returns-in_default c =
    sym (unread c.parse.result c.as_str.result.now c.args.text.now c.as_str.ensures.bytes c.parse.ensures.value.0 (λ m is same. c.in_default.not-Ok m is))

pub returns : goal.returns
returns c =
    let number = c.in-Ok.number in
    let small : FitsSigned w64 number = subst (FitsSigned w64) (sym c.in-Ok.ensures.value.0.1) c.in-Ok.ensures.value.0.0.1 in
    let back = to_z-of_z w64 number small in
    let plain = plain_bytes number c.in_ok-plain.plain small (c.in_ok-plain.ensures.characters ∙ ap signed_decimal back) in
    let decides = bytes_decides c.as_str-2.result.now c.as_str-3.result.now in
    let again = c.as_str.ensures.bytes ∙ sym c.as_str-3.ensures.bytes in
    elim c.if-same.branch [
      | then-same w ↦
          let same = sym plain ∙ sym c.as_str-2.ensures.value ∙ decides.0 (sym c.eq-same.ensures ∙ w.if-same.true) in
          w.result-is ∙ ap Some back ∙ sym (read number c.as_str-3.result.now c.args.text.now c.as_str-3.ensures.bytes small same)
      | else-same w ↦
          w.result-is ∙ sym (unread c.parse.result c.as_str.result.now c.args.text.now c.as_str.ensures.bytes c.parse.ensures.value.0
          (λ m is same.
          let one : number ≡ m = cc (c.in-Ok.is, is) in
          let equal = decides.1 (c.as_str-2.ensures.value ∙ plain ∙ ap signed_decimal one ∙ same ∙ again) in
          cc (equal, c.eq-same.ensures, w.if-same.false)))
    ]
