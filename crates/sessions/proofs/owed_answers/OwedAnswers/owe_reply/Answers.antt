use Rattle.client_protocol.specs.Responses.{response_frames}
use Rattle.sessions.specs.Answering.{walk_responses}
use Rattle.sessions.proofs.OwedLemmas.{takes_no_byte}
use Rattle.sessions.proofs.UnsentLemmas.{reply_some}
use Rattle.sessions.proofs.owed_answers.OwedAnswers.owe_reply.Goals as goal

pub returns-in-Err-NoMemory-clause-err : goal.returns-in-Err-NoMemory-clause-err
returns-in-Err-NoMemory-clause-err c =
    rw c.fail.ensures (rw c.in-Err-NoMemory.ensures.err (takes_no_byte c.args.self.now (response_frames (walk_responses c.args.reply)) (reply_some c.args.reply)))
