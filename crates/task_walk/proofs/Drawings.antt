-- An object's number is drawn, and the walk goes on with it.
use Rattle.std.proofs.Common.{◌≡◌, ℕ, Bool, true, false, refl}
use Rattle.std.specs.Prelude.{nat_lt, if◌then◌else◌}
use Rattle.dyn_value.specs.declared.fault.Fault.TheVariants.{HeapFull}
use Rattle.dyn_value.specs.declared.value.Value.{Value}
use Rattle.task_code.specs.declared.frame.Frame.{Frame}
use Rattle.task_code.specs.Acts.{Act, Draws, gives, fails, bind, on_value, and_then, draws_object}
use Rattle.task_walk.specs.Parts.{draws}

drawn_alike : (b : Bool) (n : ℕ) (s : Frame) (go : ℕ → Act Frame Value)
    → bind (if b then gives n s else fails HeapFull s) (on_value (λ k after. go k)) ≡ (if b then go n else fails HeapFull s)
drawn_alike true n s go = refl
drawn_alike false n s go = refl

pub draws_alike : (limit : ℕ) (s : Frame) (go : ℕ → Act Frame Value) → and_then (draws limit s) (λ n after. go n) ≡ draws_object limit s go
draws_alike limit s go = λ i. Draws (λ n. drawn_alike (nat_lt n limit) n s go i)
