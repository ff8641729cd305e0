use Rattle.script_tokens.proofs.SymbolFronts.{pair_front, single_front, no_symbol}
use Rattle.script_tokens.proofs.lexer.symbol.symbol_front.Goals as goal

pub returns-in-Some : goal.returns-in-Some
returns-in-Some c = pair_front c.args.text.now c.in-Some.symbol c.in-Some.ensures

pub returns-in_err-symbol : goal.returns-in_err-symbol
returns-in_err-symbol c =
    rw c.from_residual.ensures (no_symbol c.args.text.now c.index-text-0.result c.requires c.index-text-0.is c.in_err-symbol.ensures)

pub returns : goal.returns
returns c =
    single_front c.args.text.now c.index-text-0.result c.in_ok-symbol.symbol c.requires c.in_default.ensures c.index-text-0.is c.in_ok-symbol.ensures
