use Rattle.std.proofs.Common.{◌≡◌, ap, ◌∙◌, ℕ}
use Rattle.std.specs.Prelude.{Option, Some, None, slice_get}
use Rattle.std.specs.Str.{chars}
use Rattle.std.proofs.lemmas.Iterator.{YieldsList-from_chars}
use Rattle.std.proofs.lemmas.Iterator.Consumers.{nth_from_yields_List}
use Rattle.dyn_value.proofs.Encoding.{at_place}
use Rattle.dyn_value.proofs.Numbers.{index_is}
use Rattle.dyn_value.proofs.text.DynText.char_at.Goals as goal

pub returns-in_ok-from_char-in-Some-clause-character : goal.returns-in_ok-from_char-in-Some-clause-character
returns-in_ok-from_char-in-Some-clause-character c =
    let there = nth_from_yields_List (Some c.in-Some.character) c.nth.new.self c.in-Ok.place c.in-Some.ensures.ran (YieldsList-from_chars c.as_str.result.now c.as_str.utf8 c.chars.ensures.rest) in
    let found : Some c.in-Some.character ≡ slice_get c.args.self.now c.in-Ok.place = there ∙ ap (λ b. slice_get (chars b) c.in-Ok.place) c.as_str.ensures.value ∙ ap (λ cs. slice_get cs c.in-Ok.place) c.self.view_is in
    ap Some c.in_ok-from_char-in-Some.ensures.characters ∙ at_place c.args.self.now c.args.index c.in-Ok.place (Some c.in-Some.character) (index_is c.args.index c.in-Ok.place c.ranges.index c.in-Ok.ensures) found

pub returns-in-None-clause-character : goal.returns-in-None-clause-character
returns-in-None-clause-character c =
    let there = nth_from_yields_List None c.nth.new.self c.in-Ok.place c.in-None.ensures.ran (YieldsList-from_chars c.as_str.result.now c.as_str.utf8 c.chars.ensures.rest) in
    let none : Option ℕ = None in
    let found : none ≡ slice_get c.args.self.now c.in-Ok.place = there ∙ ap (λ b. slice_get (chars b) c.in-Ok.place) c.as_str.ensures.value ∙ ap (λ cs. slice_get cs c.in-Ok.place) c.self.view_is in
    at_place c.args.self.now c.args.index c.in-Ok.place None (index_is c.args.index c.in-Ok.place c.ranges.index c.in-Ok.ensures) found
