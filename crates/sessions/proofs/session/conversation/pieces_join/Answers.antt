use Rattle.sessions.proofs.ConversationLemmas.{pieces_whole, pieces_broken}
use Rattle.sessions.proofs.session.conversation.pieces_join.Goals as goal

pub returns-clause-whole : goal.returns-clause-whole
returns-clause-whole g c = pieces_whole g.S.Service.answers

pub returns-clause-broken : goal.returns-clause-broken
returns-clause-broken g c = pieces_broken g.S.Service.answers
