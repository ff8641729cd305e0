-- The name is one more for the class, which has room.
use Rattle.std.proofs.Common.{◌≡◌, ℕ, List, length, sym, ◌∙◌, ap, arith, ◌==◌, false, ◌++◌, ◌∷◌, []}
use Rattle.std.specs.Str.{chars}
use Rattle.std.proofs.lemmas.Str.{chars-encodes}
use Rattle.std.proofs.lemmas.Bool.Decides.{nat_tests}
use Rattle.expando_class.specs.Class.{names_of}
use Rattle.meta_object.proofs.Nexts.{added_next}
use Rattle.meta_object.proofs.member.class_with.Goals as goal

pub add-requires-clause-new : goal.add-requires-clause-new
add-requires-clause-new g c =
    let name : chars c.as_str.result.now ≡ c.args.name.now = ap chars c.as_str.ensures.bytes ∙ chars-encodes c.args.name.now c.as_str.ensures.proper.0 in
    λ k d below same. c.requires.placed k d below (same ∙ name)

pub add-requires-clause-room : goal.add-requires-clause-room
add-requires-clause-room g c =
    let room : (length (names_of c.args.class.now) == 64) ≡ false = sym c.is_full.ensures.full ∙ c.if-is_full.false in
    let few = c.is_full.ensures.few in
    grind (arith, nat_tests, room, few)

pub returns-clause-next : goal.returns-clause-next
returns-clause-next g c =
    let name : chars c.as_str.result.now ≡ c.args.name.now = ap chars c.as_str.ensures.bytes ∙ chars-encodes c.args.name.now c.as_str.ensures.proper.0 in
    let room : (length (names_of c.args.class.now) == 64) ≡ false = sym c.is_full.ensures.full ∙ c.if-is_full.false in
    let names : names_of c.in_ok-added.added ≡ names_of c.args.class.now ++ c.args.name.now ∷ [] =
    c.in_ok-added.ensures.names ∙ ap (λ (k : List ℕ). names_of c.args.class.now ++ k ∷ []) name in
    λ operand. added_next c.args.cx.now.pass.now c.add.new.pass c.args.class.now c.in_ok-added.added c.args.name.now operand c.in_ok-added.ensures.learns names room
