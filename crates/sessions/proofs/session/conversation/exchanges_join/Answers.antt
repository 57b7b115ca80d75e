use Rattle.sessions.proofs.ConversationLemmas.{exchanges_whole}
use Rattle.sessions.proofs.session.conversation.exchanges_join.Goals as goal

pub returns : goal.returns
returns g c = exchanges_whole g.S.Service.answers
