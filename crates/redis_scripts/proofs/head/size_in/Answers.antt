use Rattle.std.proofs.Common.{arith}
use Rattle.std.proofs.lemmas.Fmt.{IsAscii-decimal}
use Rattle.std.proofs.lemmas.Str.{IsUtf8-from_ascii}
use Rattle.redis_scripts.proofs.head.size_in.Goals as goal

pub returns-in-Err-clause-none : goal.returns-in-Err-clause-none
returns-in-Err-clause-none c n small same = c.in-Err.ensures.cases.0 (rw same (IsUtf8-from_ascii _ (IsAscii-decimal n (omega (arith, small)))))
