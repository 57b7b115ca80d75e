-- Words that are no command.
use Rattle.std.proofs.Common.{◌≢◌, ℕ, Err, refl}
use Rattle.bin_stripes.specs.Passes.{PassState}
use Rattle.resp.specs.Replies.{error_bytes}
use Rattle.redis_commands.specs.Commands.{fault_by}
use Rattle.redis_commands.specs.Texts.{fault_text}
use Rattle.redis_commands.specs.declared.fault.CommandFault.{CommandFault}
use Rattle.redis_commands.specs.declared.fault.CommandFault.TheVariants as fault
use Rattle.redis_service.specs.States.{TalkState}
use Rattle.redis_service.specs.Commands.{AnswersRead}

-- a fault with a text is told
pub read_fault : (now : ℕ) (talk : TalkState) (old : PassState) (f : CommandFault) → f ≢ fault.WebRequest
    → AnswersRead now talk old (Err (fault_by f)) (error_bytes (fault_text (fault_by f))) talk old
read_fault now talk old (fault.UnknownCommand name args) other = (refl, refl, refl)
read_fault now talk old (fault.UnknownSub parent word) other = (refl, refl, refl)
read_fault now talk old (fault.WrongSub parent word) other = (refl, refl, refl)
read_fault now talk old (fault.ClientType word) other = (refl, refl, refl)
read_fault now talk old (fault.NoUser user) other = (refl, refl, refl)
read_fault now talk old fault.ClientNumber other = (refl, refl, refl)
read_fault now talk old fault.ListedNumber other = (refl, refl, refl)
read_fault now talk old fault.SlowlogCount other = (refl, refl, refl)
read_fault now talk old (fault.WrongCount name) other = (refl, refl, refl)
read_fault now talk old (fault.WrongSubCount sub) other = (refl, refl, refl)
read_fault now talk old fault.Syntax other = (refl, refl, refl)
read_fault now talk old fault.NotAnInteger other = (refl, refl, refl)
read_fault now talk old fault.DecrementOverflow other = (refl, refl, refl)
read_fault now talk old fault.OffsetOutOfRange other = (refl, refl, refl)
read_fault now talk old fault.LongKey other = (refl, refl, refl)
read_fault now talk old fault.LongValue other = (refl, refl, refl)
read_fault now talk old (fault.BadExpire name) other = (refl, refl, refl)
read_fault now talk old (fault.ExpireOption option) other = (refl, refl, refl)
read_fault now talk old fault.NxWithOthers other = (refl, refl, refl)
read_fault now talk old fault.GtWithLt other = (refl, refl, refl)
read_fault now talk old fault.BadCursor other = (refl, refl, refl)
read_fault now talk old fault.BadIndex other = (refl, refl, refl)
read_fault now talk old fault.WideIndex other = (refl, refl, refl)
read_fault now talk old fault.BadVersion other = (refl, refl, refl)
read_fault now talk old fault.NoProtocol other = (refl, refl, refl)
read_fault now talk old (fault.HelloOption option) other = (refl, refl, refl)
read_fault now talk old fault.BadClientName other = (refl, refl, refl)
read_fault now talk old fault.LongClientName other = (refl, refl, refl)
read_fault now talk old fault.NotAuthenticated other = (refl, refl, refl)
read_fault now talk old fault.WrongPassword other = (refl, refl, refl)
read_fault now talk old fault.NegativeKeys other = (refl, refl, refl)
read_fault now talk old fault.TooManyKeys other = (refl, refl, refl)
read_fault now talk old fault.ScriptShape other = (refl, refl, refl)
read_fault now talk old fault.NoScript other = (refl, refl, refl)
read_fault now talk old fault.NoDebug other = (refl, refl, refl)
read_fault now talk old fault.WebRequest other = absurd (other refl)
