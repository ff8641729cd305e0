use Rattle.std.proofs.Common.{◌≡◌, true, false, refl, sym, ap, ◌∙◌, drop, ◌+◌}
use Rattle.std.specs.List.{list_any, IsDistinct}
use Rattle.std.specs.Str.{bytes_eq}
use Rattle.dyn_value.proofs.Distinct.{distinct_from, repeated_from, distinct_past}
use Rattle.dyn_value.proofs.text.are_distinct.Goals as goal

pub returns-then-is_among : goal.returns-then-is_among
returns-then-is_among c =
    let some : list_any (bytes_eq c.index-texts-place.result) (drop (c.loop-place.place + 1) c.args.texts.now) ≡ true =
    ap (list_any (bytes_eq c.index-texts-place.result)) (sym c.after.ensures) ∙ sym c.is_among.ensures ∙ c.if-is_among.true in (
      λ never. cc,
      λ distinct. absurd (repeated_from bytes_eq c.args.texts.now c.loop-place.place c.index-texts-place.result c.loop-place-test.true c.index-texts-place.is some (c.loop-place.invariant.0 distinct)),
    )

pub loop-place-preserved : goal.loop-place-preserved
loop-place-preserved c =
    let none : list_any (bytes_eq c.index-texts-place.result) (drop (c.loop-place.place + 1) c.args.texts.now) ≡ false =
    ap (list_any (bytes_eq c.index-texts-place.result)) (sym c.after.ensures) ∙ sym c.is_among.ensures ∙ c.if-is_among.false in
    let step = distinct_from bytes_eq c.args.texts.now c.loop-place.place c.index-texts-place.result c.loop-place-test.true c.index-texts-place.is none in (
      λ distinct. step.0 (c.loop-place.invariant.0 distinct),
      λ distinct. c.loop-place.invariant.1 (step.1 distinct),
    )

pub returns : goal.returns
returns c = (
  λ yes. c.loop-place.invariant.1 (distinct_past bytes_eq c.args.texts.now c.loop-place.place c.loop-place-test.false),
  λ distinct. refl,
)
