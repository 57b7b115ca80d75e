-- a byte that needs no more than the backslash
use Rattle.resp.proofs.QuoteLemmas.{escape_item}
use Rattle.resp.proofs.quotes.escape_at.Goals as goal

pub returns-clause-some : goal.returns-clause-some
returns-clause-some c =
    escape_item c.args.bytes.now c.in_ok-byte.rest.now c.in_ok-byte.byte c.escaped.result c.in_ok-byte.ensures.some c.escaped.ensures c.in_default.ensures.none
