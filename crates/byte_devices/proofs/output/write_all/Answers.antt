use Rattle.std.proofs.Common.{◌≡◌, ◌∙◌, ◌-◌, ◌<◌, length, length-drop, take, arith, ap, OnErr, Result, Ok, Err}
use Rattle.byte_devices.specs.Devices.{Adds}
use Rattle.byte_devices.proofs.Moves.{adds_on, adds_front}
use Rattle.byte_devices.proofs.output.write_all.Goals as goal

holds_on_err : {T E P : Type 0} (r : Result T E) → P → OnErr r P
holds_on_err (Ok _) p = tt
holds_on_err (Err _) p = p

pub returns-in_err-at-clause-front : goal.returns-in_err-at-clause-front
returns-in_err-at-clause-front g c =
    let before = g.K.Sink.has c.args.sink.now in
    let kept = c.in_err-at.ensures.kept in
    let adds : Adds before (g.K.Sink.has c.write.new.self) (take c.loop-at.at c.args.text.now) = rw kept.0 c.loop-at.invariant.added in
    let inside : c.loop-at.at < length c.args.text.now = omega (arith, c.loop-at-test.true) in
    holds_on_err c.from_residual.result (adds_front before (g.K.Sink.has c.write.new.self) c.args.text.now c.loop-at.at inside adds)

pub loop-at-preserved : goal.loop-at-preserved
loop-at-preserved g c =
    let text = c.args.text.now in
    let left : length c.rest_of.result.now ≡ length text - c.loop-at.at = ap length c.rest_of.ensures ∙ length-drop c.loop-at.at text in
    let taken = rw c.rest_of.ensures at c.in_ok-at.ensures.bytes in
    record {
      within = omega (arith, left, c.in_ok-at.ensures.bound, c.loop-at.invariant.within);
      room = omega (arith, c.in_ok-at.ensures.room, c.loop-at.invariant.room);
      added = adds_on (g.K.Sink.has c.args.sink.now) (g.K.Sink.has c.loop-at.sink) (g.K.Sink.has c.write.new.self) text c.loop-at.at c.in_ok-at.field-0 c.loop-at.invariant.added taken;
      never_falls = omega (arith, c.loop-at.invariant.never_falls, c.in_ok-at.ensures.never_falls);
    }
