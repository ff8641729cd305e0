use Rattle.std.proofs.Common.{◌≡◌, ◌<◌, ℕ, Result, Ok, Err, IfOk, List, length, slice_get, Some, get_or, set, sym, subst, arith}
use Rattle.std.proofs.lemmas.Option.{slice_get-get_or}
use Rattle.binder_cache.specs.declared.cache.Cache.{Cache}
use Rattle.cache_levels.specs.declared.answered.LoneAnswer.{LoneAnswer}
use Rattle.cache_levels.specs.LonePasses.{EndsHere, IsLoneOf, KeepsLevels, memory_of}
use Rattle.cache_levels.proofs.LoneSteps.{keeps_levels, lone_after}
use Rattle.cache_levels.proofs.answering.answer.Goals as goal

-- what holds of a good result by a fact of it
ok_then : {X E : Type 0} (P S : X → Type 0) → ((x : X) → P x → S x) → (r : Result X E) → IfOk r P → IfOk r S
ok_then P S h (Ok x) p = h x p
ok_then P S h (Err e) p = tt

pub answer_in-requires-clause-known : goal.answer_in-requires-clause-known
answer_in-requires-clause-known g c = let binder : ℕ = get_or c.args.binders.now c.args.site 0 in let near : binder < length c.args.caches.now = c.requires.binders c.args.site 0 c.requires.site in
    subst (λ (z : Cache g.row.R.Denot). IsLoneOf z (get_or c.args.known.now binder c.index-known-binder.result)) (sym c.index-caches-binder.is) (c.requires.known.each binder c.index-caches-binder.result c.index-known-binder.result near)

pub returns-clause-known : goal.returns-clause-known
returns-clause-known g c = let binder : ℕ = get_or c.args.binders.now c.args.site 0 in
    lone_after c.args.caches.now c.args.known.now binder c.index-caches-binder.result c.answer_in.new.known c.requires.known (c.requires.binders c.args.site 0 c.requires.site) c.index-caches-binder.is c.answer_in.ensures.known

pub returns-clause-levels : goal.returns-clause-levels
returns-clause-levels g c = let T = g.O.Operation.tests in let P = g.O.Probe.accepts c.args.operation.now in let shape = g.O.Operation.shape c.args.operation.now in
    let site : ℕ = c.args.site in let binders : List ℕ = c.args.binders.now in let binder : ℕ = get_or binders site 0 in
    let known = c.args.known.now in let pass = get_or known binder c.index-known-binder.result in let near : binder < length c.args.caches.now = c.requires.binders site 0 c.requires.site in
    let at : slice_get known binder ≡ Some pass = slice_get-get_or known binder c.index-known-binder.result (let n = c.requires.known.as_many in omega arith) in
    let old = c.args.pass.now in let new = c.answer_in.new.pass in let after = c.answer_in.new.known in
    let counted = (c.requires.known.each binder c.index-caches-binder.result c.index-known-binder.result near).1 in
    let ends = subst (λ (n : ℕ). IfOk c.answer_in.result (λ (r : LoneAnswer). EndsHere T P shape n site r.level old new pass after r.kept)) c.requires.sites c.answer_in.ensures.ends in
    ok_then (λ (r : LoneAnswer). EndsHere T P shape (length binders) site r.level old new pass after r.kept)
    (λ (r : LoneAnswer). KeepsLevels T binders site shape r.level r.kept (memory_of old known) (memory_of new (set known binder after)))
    (λ r end. keeps_levels T P shape c.requires.fits binders old new known pass after site c.requires.site at counted r.level r.kept end)
    c.answer_in.result ends
