-- The walk may go on with the next item of a row.
use Rattle.std.proofs.Common.{◌≡◌, ℕ, ◌+◌, ◌<◌, ◌≤◌, List, length, drop, get_or, map, sum, flat_map, arith}
use Rattle.task_code.specs.declared.code.FunctionCode.{FunctionCode}
use Rattle.task_code.specs.declared.frame.Frame.{Frame}
use Rattle.task_code.specs.Acts.{Act}
use Rattle.task_code.specs.Codes.{Around}
use Rattle.task_code.specs.Costs.{Uses}
use Rattle.task_code.specs.Fits.{IsAllowed}
use Rattle.task_walk.specs.declared.code.Code.{Code}
use Rattle.task_walk.specs.Comings.{Told}
use Rattle.task_walk.specs.Goings.{Going}
use Rattle.task_walk.specs.Tales.{Asked}
use Rattle.task_walk.specs.Walks.{IsReady}
use Rattle.task_walk.proofs.Loops.{ready_going, fits_item, sum_item, sum_dropped}

pub ready_item : {A H X : Type 0} (code : Code) (uses : X → Uses) (costs : X → ℕ) (xs : List X) (i : ℕ) (x : X) (functions : List FunctionCode) (levels : ℕ)
    (whole rest : Around → Act Frame A)
    (first s : Frame) (old now : Told) (before during : H → List Asked → Type 0)
    → IsReady code old.world (flat_map uses xs) (sum (map costs xs)) first
    → Going old.world.by functions levels whole (sum (map costs xs)) first old before rest (sum (map costs (drop i xs))) s now during
    → i < length xs → x ≡ get_or xs i x
    → IsReady code now.world (uses x) (costs x) s
ready_item code uses costs xs i x functions levels whole rest first s old now before during ready going less is =
    let one : sum (map costs (drop i xs)) ≡ costs x + sum (map costs (drop (i + 1) xs)) = sum_item costs xs i x less is in
    let some : sum (map costs (drop i xs)) ≤ sum (map costs xs) = sum_dropped costs xs i in
    ready_going code (flat_map uses xs) (uses x) (sum (map costs xs)) (costs x) functions levels whole rest (sum (map costs (drop i xs))) first s old now
    before during ready going
    (fits_item (IsAllowed old.world.by.plan old.world.by.limit) uses xs i x less is ready.fits) (omega arith) (omega arith)
