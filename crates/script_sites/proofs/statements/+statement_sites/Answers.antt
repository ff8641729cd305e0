use Rattle.std.proofs.Common.{map, sym, ap, ◌∙◌}
use Rattle.std.specs.List.{flat_map}
use Rattle.script_sites.specs.Calls.{checked}
use Rattle.script_sites.specs.Sites.{block_sites, stmt_sites}
use Rattle.script_sites.proofs.Rows.{loop_end}
use Rattle.script_sites.proofs.SiteEquations.{block}
use Rattle.script_sites.proofs.statements.+statement_sites.Goals as goal

pub add_block_sites-returns : goal.add_block_sites-returns
add_block_sites-returns t c =
    loop_end (λ z. map checked (flat_map stmt_sites z)) c.as_slice-stmt-items.result.now c.loop-stmt.stmt-index c.args.sites.now c.loop-stmt.sites (map checked (block_sites c.args.block.now))
    c.loop-stmt-test.false c.loop-stmt.invariant (ap (map checked) (ap (flat_map stmt_sites) c.as_slice-stmt-items.ensures ∙ sym (block c.args.block.now)))
