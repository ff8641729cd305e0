use Rattle.std.proofs.Common.{◌≡◌, ◌≤◌, length, inl, inr, arith}
use Rattle.byte_devices.proofs.Moves.{Ended, takes_nothing, all_read, read_through}
use Rattle.byte_devices.proofs.intake.read_by_pieces.Goals as goal

pub loop-source-init : goal.loop-source-init
loop-source-init g c =
    let held = g.S.Source.held c.args.source.now in
    record {
      most = omega (arith, c.new-bytes.ensures.len);
      taken = rw c.new-bytes.ensures.items (takes_nothing held);
      never_falls = omega arith;
    }

pub returns-then-branch-eq0-clause-bytes : goal.returns-then-branch-eq0-clause-bytes
returns-then-branch-eq0-clause-bytes g c =
    let start = g.S.Source.held c.args.source.now in
    let few : length c.read_piece.new.bytes.items ≤ 1048577 = omega (arith, c.in_ok-read_piece.ensures.most, c.read_piece.new.bytes.ok) in
    let ended : Ended (g.S.Source.held c.read_piece.new.source) c.read_piece.new.bytes.items = inr (c.in_ok-read_piece.ensures.end c.if-branch-eq0.true) in
    all_read start (g.S.Source.held c.read_piece.new.source) c.read_piece.new.bytes.items (c.in_ok-read_piece.ensures.goes_on start c.loop-source.invariant.taken) few ended

pub returns-then-branch-eq0-clause-through : goal.returns-then-branch-eq0-clause-through
returns-then-branch-eq0-clause-through g c =
    let start = g.S.Source.held c.args.source.now in
    let few : length c.read_piece.new.bytes.items ≤ 1048577 = omega (arith, c.in_ok-read_piece.ensures.most, c.read_piece.new.bytes.ok) in
    let ended : Ended (g.S.Source.held c.read_piece.new.source) c.read_piece.new.bytes.items = inr (c.in_ok-read_piece.ensures.end c.if-branch-eq0.true) in
    read_through start (g.S.Source.held c.read_piece.new.source) c.read_piece.new.bytes.items (c.in_ok-read_piece.ensures.goes_on start c.loop-source.invariant.taken) few ended

pub returns-clause-bytes : goal.returns-clause-bytes
returns-clause-bytes g c =
    let all : length c.loop-source.bytes.items ≡ 1048577 = omega (arith, c.loop-source.invariant.most, c.loop-source-test.false, c.len.ensures, c.loop-source.bytes.ok) in
    all_read (g.S.Source.held c.args.source.now) (g.S.Source.held c.loop-source.source) c.loop-source.bytes.items c.loop-source.invariant.taken (omega (arith, all)) (inl all)

pub returns-clause-through : goal.returns-clause-through
returns-clause-through g c =
    let all : length c.loop-source.bytes.items ≡ 1048577 = omega (arith, c.loop-source.invariant.most, c.loop-source-test.false, c.len.ensures, c.loop-source.bytes.ok) in
    read_through (g.S.Source.held c.args.source.now) (g.S.Source.held c.loop-source.source) c.loop-source.bytes.items c.loop-source.invariant.taken (omega (arith, all)) (inl all)
