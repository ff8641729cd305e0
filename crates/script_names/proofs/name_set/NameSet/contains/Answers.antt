use Rattle.std.proofs.Common.{◌≡◌, Some, None, length, refl, sym, ap, ◌∙◌, slice_get}
use Rattle.std.proofs.lemmas.Option.{slice_get_past, slice_get_read}
use Rattle.std.specs.HashMap.{get_by_text}
use Rattle.std.specs.Prelude.{encode_utf8_all}
use Rattle.script_names.specs.Names.{is_in}
use Rattle.script_names.proofs.Places.{known_there, not_found, nothing_there}
use Rattle.script_names.proofs.name_set.NameSet.contains.Goals as goal

pub returns-in-Some-get : goal.returns-in-Some-get
returns-in-Some-get c =
    let find = get_by_text c.self.inside.places in
    let found : find (encode_utf8_all c.args.name.now) ≡ Some c.in-Some.place.now = ap find (sym c.as_str.ensures.bytes) ∙ sym c.in-Some.ensures.value in
    let at : slice_get c.self.inside.names.items c.in-Some.place.now ≡ Some c.in-Some-get.known.now =
    ap (λ names. slice_get names c.in-Some.place.now) (sym c.deref.ensures.value)
    ∙ slice_get_read c.deref.result.now (length c.deref.result.now) c.in-Some.place.now c.in-Some-get.known.now refl c.in-Some-get.ensures.lookup.3.0 c.in-Some-get.ensures.lookup.1 in
    known_there find c.self.inside.names.items c.args.name.now c.in-Some-get.known.now c.in-Some.place.now c.same.result c.self.invariant found at c.same.ensures.0 c.same.ensures.1
    ∙ ap (λ names. is_in names c.args.name.now) c.self.view_is

pub returns-in-None-get : goal.returns-in-None-get
returns-in-None-get c =
    let find = get_by_text c.self.inside.places in
    let found : find (encode_utf8_all c.args.name.now) ≡ Some c.in-Some.place.now = ap find (sym c.as_str.ensures.bytes) ∙ sym c.in-Some.ensures.value in
    let none : slice_get c.self.inside.names.items c.in-Some.place.now ≡ None =
    ap (λ names. slice_get names c.in-Some.place.now) (sym c.deref.ensures.value) ∙ slice_get_past c.deref.result.now c.in-Some.place.now c.in-None-get.ensures.lookup.3 in
    nothing_there find c.self.inside.names.items c.args.name.now c.in-Some.place.now c.self.invariant found none
    ∙ ap (λ names. is_in names c.args.name.now) c.self.view_is

pub returns-in-None : goal.returns-in-None
returns-in-None c =
    let find = get_by_text c.self.inside.places in
    let found : find (encode_utf8_all c.args.name.now) ≡ None = ap find (sym c.as_str.ensures.bytes) ∙ sym c.in-None.ensures.value in
    not_found find c.self.inside.names.items c.args.name.now c.self.invariant found ∙ ap (λ names. is_in names c.args.name.now) c.self.view_is
