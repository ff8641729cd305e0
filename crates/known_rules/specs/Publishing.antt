-- What becomes of rules that are to be published.
use Rattle.std.specs.Prelude.{Result, Ok, Err}
use Rattle.std.specs.declared.alloc.AllocError.{AllocError}
use Rattle.binder_cache.specs.declared.cache.Published.{Published}
use Rattle.binder_cache.specs.declared.cache.Published.TheVariants as published
use Rattle.rule.specs.declared.claimed.Adopted.{Adopted}
use Rattle.rule.specs.declared.rule.Rule.{Rule}
use Rattle.known_rules.specs.declared.publishing.PublishAnswer.{PublishAnswer}
use Rattle.known_rules.specs.declared.publishing.PublishAnswer.TheVariants as answer

-- what a cache's answer comes to
abbrev pub answer_to : Result (Published Rule Adopted) (Rule × Adopted × AllocError) → PublishAnswer
answer_to (Ok (published.At index)) = answer.At index
answer_to (Ok (published.Past r adopted)) = answer.Past
answer_to (Err refused) = answer.Refused
