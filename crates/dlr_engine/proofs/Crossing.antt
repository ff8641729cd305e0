-- What of an engine and of its passes may cross threads.
use denote.Enum.Declared as enum
use denote.Enum.Enum.{Enum}
use denote.Param.Send.{EachSync, IsSend, IsSync, enum_sync, recorded_sync, sendable}
use denote.Param.SendFields.{as_row_send, as_row_sync, declared_send, declared_sync}
use denote.RattleType.{RattleType}
use denote.Ref.{NamedLft}
use Rattle.std.proofs.Crossing as heap
use Rattle.std.proofs.Crossing.{crosses}
use Rattle.std.proofs.MapsCrossing as maps
use Rattle.atomic_table.proofs.shared.Seat.TheSendSync as seat
use Rattle.atomic_table.proofs.shared.Shared.TheSendSync as shared
use Rattle.atomic_table.proofs.send_lease.SendLease.TheSendSync as lease
use Rattle.boxcar.proofs.slot.OnceSlot.TheSendSync as slot
use Rattle.boxcar.proofs.slot.Written.TheSendSync as written
use Rattle.boxcar.proofs.tag.Tag.TheSendSync as tag
use Rattle.binder_cache.specs.contracts.cache.Cache as Cache
use Rattle.binder_cache.specs.contracts.pass.CachePass as CachePass
use Rattle.fallback.specs.contracts.script.Script as Language
use Rattle.expando_class.specs.contracts.pass.ClassPass as ClassPass
use Rattle.meta_object.specs.declared.language.Language.{Ghosts}
use Rattle.object_history.proofs.Crossing.{binder_sync, entry_sync, row_send, row_sync, table_sync}
use Rattle.standard_binders.specs.contracts.binder.Binder as Binder
use Rattle.dyn_value.specs.contracts.text.DynText as DynText
use Rattle.expr_tree.specs.contracts.body.Body as Body
use Rattle.expr_tree.specs.contracts.node.Node as Node
use Rattle.expr_tree.specs.contracts.tree.Tree as Tree
use Rattle.rule_model.specs.contracts.claim.Claim as Claim
use Rattle.known_rules.specs.contracts.known.KnownRules as KnownRules
use Rattle.rule.specs.contracts.claimed.Adopted as Adopted
use Rattle.rule.specs.contracts.rule.Rule as Rule
use Rattle.script_grammar.proofs.tree.Head.TheLaws.TheKnot as expressions
use Rattle.script_grammar.proofs.tree.Stmt.TheLaws.TheKnot as statements
use Rattle.script_grammar.specs.contracts.tree.Script as Script
use Rattle.script_sites.specs.contracts.site_numbering.Numbering as Numbering
use Rattle.script_program.specs.contracts.program.Program as Program
use Rattle.answered_operations.proofs.Crossing.{answered_send}
use Rattle.dlr_engine.specs.contracts.engine.Engine as Engine
use Rattle.dlr_engine.specs.contracts.mind.Mind as Mind
use Rattle.dlr_engine.specs.contracts.pass.Pass as Pass
use Rattle.dlr_engine.specs.contracts.run.Run as Run

pub class_pass_send : IsSend ClassPass.the_row
class_pass_send = search (written.the_send, maps.crosses, sendable, crosses) depth 80 fits 20000

binder_send : IsSend Binder.the_row
binder_send = search (sendable, crosses) depth 80 fits 20000

text_send : IsSend DynText.the_row
text_send = search (sendable, crosses) depth 80 fits 20000

text_sync : IsSync DynText.the_row
text_sync = search (sendable, crosses) depth 80 fits 20000

node_send : IsSend Node.the_row
node_send = search (text_send, sendable, crosses) depth 400 fits 200000

node_fields_sync : EachSync (enum.shape Node.the_type).variants
node_fields_sync = search (text_sync, sendable, crosses) depth 200 fits 200000

node_sync : IsSync Node.the_row
node_sync = recorded_sync (Enum (enum.shape Node.the_type)) (Node.the_type).D (Node.the_type).to (Node.the_type).to_one
    (enum_sync (enum.shape Node.the_type) node_fields_sync)

tree_send : IsSend Tree.the_row
tree_send = search (node_send, sendable, crosses) depth 80 fits 20000

tree_of_sync : IsSync Tree.the_row
tree_of_sync = search (node_sync, sendable, crosses) depth 80 fits 20000

body_send : IsSend Body.the_row
body_send = search (tree_send, sendable, crosses) depth 80 fits 20000

body_sync : IsSync Body.the_row
body_sync = search (tree_of_sync, sendable, crosses) depth 80 fits 20000

claim_send : IsSend Claim.the_row
claim_send = search (sendable, crosses) depth 80 fits 20000

claim_sync : IsSync Claim.the_row
claim_sync = search (sendable, crosses) depth 80 fits 20000

rule_send : IsSend Rule.the_row
rule_send = declared_send Rule.the_type (binder_send, (tree_send, (body_send, (claim_send, tt))))

rule_sync : IsSync Rule.the_row
rule_sync = declared_sync Rule.the_type (binder_sync, (tree_of_sync, (body_sync, (claim_sync, tt))))

adopted_send : IsSend Adopted.the_row
adopted_send = search (written.the_send, maps.crosses, sendable, crosses) depth 80 fits 20000

pass_of_cache_send : IsSend (CachePass.the_row Rule.the_row Adopted.the_row)
pass_of_cache_send = search (adopted_send, written.the_send, sendable, crosses) depth 80 fits 20000

known_send : IsSend KnownRules.the_row
known_send = declared_send KnownRules.the_type (pass_of_cache_send, (search (as_row_send, sendable, crosses) depth 40, tt))

cache_sync : IsSync (Cache.the_row Rule.the_row)
cache_sync = search (rule_send, rule_sync, slot.the_sync, tag.the_sync, slot.the_send, sendable, crosses) depth 80 fits 20000

pub mind_send : IsSend Mind.the_row
mind_send = declared_send Mind.the_type (
  class_pass_send,
  (search (as_row_send, sendable) depth 20, (search (sendable, crosses) depth 20, tt)),
)

pub pass_send : (p : NamedLft) → IsSend (Pass.the_row p)
pass_send p = declared_send (Pass.the_type p) (
  search (row_send, seat.the_send, sendable, crosses) depth 80 fits 20000,
  (
    mind_send,
    (
      search (known_send, as_row_send, sendable, crosses) depth 40,
      (
        search (as_row_send, sendable, crosses) depth 40,
        (
          search (as_row_send, sendable, crosses) depth 40,
          (
            search (as_row_send, sendable) depth 40,
            (
              search (as_row_send, sendable) depth 20,
              (search (as_row_send, sendable) depth 20, (answered_send, tt)),
            ),
          ),
        ),
      ),
    ),
  ),
)

tree_sync : IsSync Script.the_row
tree_sync = search (crosses, expressions.crosses, statements.crosses, sendable) depth 60 fits 20000

numbering_sync : IsSync Numbering.the_row
numbering_sync = search (binder_sync, sendable, crosses) depth 80 fits 20000

pub program_sync : IsSync Program.the_row
program_sync = declared_sync Program.the_type (tree_sync, (numbering_sync, tt))

pub run_sync : (p : NamedLft) → IsSync (Run.the_row p)
run_sync p = declared_sync (Run.the_type p) (
  search (program_sync, as_row_sync, sendable) depth 20,
  (
    search (binder_sync, as_row_sync, sendable) depth 20,
    (
      table_sync,
      (
        search (row_send, row_sync, shared.the_sync, lease.the_sync, heap.send, heap.sync, sendable, crosses) depth 80 fits 20000,
        (
          search (cache_sync, as_row_sync, sendable, crosses) depth 40,
          (
            search (as_row_sync, sendable) depth 20,
            (search (entry_sync, sendable, crosses) depth 40, (search (as_row_sync, sendable, crosses) depth 40, tt)),
          ),
        ),
      ),
    ),
  ),
)

-- an engine, where its language may be shared
pub engine_sync : (p : NamedLft) (L : RattleType) (D : Ghosts L.Denot) → IsSync L → IsSync (Engine.the_row p L D)
engine_sync p L D s = declared_sync (Engine.the_type p L D) (
  run_sync p,
  (search (s, sendable) depth 20, tt),
)

-- the language of scripts may be shared
pub script_sync : IsSync Language.the_row
script_sync = search (sendable, crosses) depth 80 fits 20000
