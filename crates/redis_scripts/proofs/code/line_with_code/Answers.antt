use Rattle.std.proofs.Common.{sym}
use Rattle.redis_scripts.proofs.CodeLemmas.{number-none}
use Rattle.redis_scripts.proofs.code.line_with_code.Goals as goal

pub returns-in-None : goal.returns-in-None
returns-in-None c = rw c.in-None.is (sym (number-none 2 c.args.nth))
