use Rattle.std.proofs.Common.{refl, arith}
use Rattle.script_tokens.proofs.PieceRows.{all_taken, front_taken, front_few, front_within, part_bytes, taken_to_end}
use Rattle.script_tokens.proofs.lexer.characters.lex_characters.Goals as goal

pub bytes_of-bytes-requires : goal.bytes_of-bytes-requires
bytes_of-bytes-requires c =
    omega (
      arith,
      c.requires,
      part_bytes c.args.text.now c.rest_of-rest.result.now _ c.loop-at.at c.in-Some.found.length c.loop-at.placed.tokens.items
          c.loop-at.placed.places.items c.loop-at.place c.loop-at.invariant.taken c.rest_of-rest.ensures refl,
    )

pub overflow_add-place : goal.overflow_add-place
overflow_add-place c =
    omega (
      arith,
      c.requires,
      c.bytes_of-bytes.ensures,
      part_bytes c.args.text.now c.rest_of-rest.result.now _ c.loop-at.at c.in-Some.found.length c.loop-at.placed.tokens.items
          c.loop-at.placed.places.items c.loop-at.place c.loop-at.invariant.taken c.rest_of-rest.ensures refl,
    )

pub loop-at-preserved : goal.loop-at-preserved
loop-at-preserved c =
    let front = rw c.in-Some.is at c.in_ok-front_of.ensures in
    record {
      within = front_within c.args.text.now c.rest_of-rest.result.now c.loop-at.at c.in-Some.found c.rest_of-rest.ensures front c.loop-at.invariant.within;
      taken = front_taken c.args.text.now c.rest_of-rest.result.now _ c.loop-at.at c.loop-at.placed.tokens.items c.keep.new.placed.tokens.items
          c.loop-at.placed.places.items c.keep.new.placed.places.items c.loop-at.place c.bytes_of-bytes.result c.in-Some.found
          c.rest_of-rest.ensures c.loop-at.invariant.taken front refl c.bytes_of-bytes.ensures c.in_ok-keep-in-Some.ensures.tokens c.in_ok-keep-in-Some.ensures.places;
      few = front_few c.rest_of-rest.result.now c.in-Some.found c.loop-at.placed.tokens.items c.keep.new.placed.tokens.items c.loop-at.at front c.in_ok-keep-in-Some.ensures.tokens c.loop-at.invariant.few;
    }

pub returns-clause-tokens : goal.returns-clause-tokens
returns-clause-tokens c =
    all_taken c.args.text.now c.loop-at.placed.tokens.items c.loop-at.placed.places.items c.loop-at.place
    (taken_to_end c.args.text.now c.loop-at.at c.loop-at.placed.tokens.items c.loop-at.placed.places.items c.loop-at.place c.loop-at-test.false c.loop-at.invariant.taken)
