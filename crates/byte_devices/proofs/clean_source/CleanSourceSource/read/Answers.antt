use Rattle.std.proofs.Common.{◌≡◌, ◌+◌, ◌-◌, length, take, drop, sym, ◌∙◌, ap, arith}
use Rattle.std.proofs.lemmas.List.{length-take-le}
use Rattle.byte_devices.proofs.Moves.{piece_moves}
use Rattle.byte_devices.proofs.clean_source.CleanSourceSource.read.Goals as goal

pub returns-clause-bytes : goal.returns-clause-bytes
returns-clause-bytes c =
    let held = c.self.inside.bytes.items in
    let at = c.self.inside.at in
    let count = c.min-count.result in
    let width : (at + count) - at ≡ count = omega arith in
    let copied : c.copy_from_slice.new.self ≡ take count (drop at held) =
    c.copy_from_slice.ensures.after ∙ ap (λ n. take n (drop at c.deref.result.now)) width ∙ ap (λ bytes. take count (drop at bytes)) c.deref.ensures.value in
    let long : length c.copy_from_slice.new.self ≡ count = c.copy_from_slice.ensures.len ∙ length-take-le count c.args.into.now (omega arith) in
    sym c.self.view_is ∙ piece_moves held c.copy_from_slice.new.self (drop count c.args.into.now) at count copied long
