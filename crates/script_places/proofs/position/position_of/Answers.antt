use Rattle.std.proofs.Common.{ℕ, ◌+◌, List, length, ◌∙◌, ap}
use Rattle.std.specs.Prelude.{count_by}
use Rattle.std.proofs.lemmas.List.{take_rest}
use Rattle.script_places.specs.Lines.{is_line_feed, last_line, first_line, readable}
use Rattle.script_places.proofs.Readable.{readable_text}
use Rattle.script_places.proofs.position.position_of.Goals as goal

pub returns : goal.returns
returns c =
    let front = c.in_ok-front.ensures ∙ readable_text _ c.requires.text in
    let before = c.last_line-before.ensures ∙ ap last_line (c.as_slice.ensures.value ∙ front) in
    record {
      line = ap (λ (n : ℕ). n + 1) (c.line_feeds.ensures.count ∙ ap (count_by is_line_feed) (c.as_slice-2.ensures.value ∙ front));
      column = ap (λ (cs : List ℕ). length cs + 1) before;
      before = c.in_ok-from_slice.ensures.items ∙ before;
      after = c.in_ok-from_slice-2.ensures.items ∙ c.first_line.ensures
          ∙ ap first_line (c.as_slice-3.ensures.value ∙ c.in_ok-rest.ensures ∙ ap readable (take_rest c.args.bytes.now c.args.place));
    }
