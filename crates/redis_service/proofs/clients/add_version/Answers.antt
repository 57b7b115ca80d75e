use Rattle.std.proofs.Common.{◌≡◌, List, ℕ, ◌++◌, IfOk, codes, subst}
use Rattle.redis_service.proofs.ClientLemmas.{two_added}
use Rattle.redis_service.proofs.clients.add_version.Goals as goal

pub returns : goal.returns
returns c name command =
    subst (λ (v : List ℕ). IfOk c.add-2.result (λ _. c.add-2.new.text.items ≡ c.args.text.now.items ++ (codes " user=default redir=-1 resp=" ++ v))) c.version.ensures
    (two_added c.add-2.result c.args.text.now.items c.add.new.text.items c.add-2.new.text.items (codes " user=default redir=-1 resp=") c.version.result.now c.in_ok-add.ensures c.add-2.ensures)
