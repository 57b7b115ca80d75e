use Rattle.std.proofs.Common.{◌∙◌, refl, ℕ, List, ◌++◌}
use Rattle.std.specs.Prelude.{codes, decimal}
use Rattle.metrics_page.proofs.PageLemmas.{more}
use Rattle.metrics_page.proofs.answers.put_page_head.Goals as goal

pub returns-clause-items : goal.returns-clause-items
returns-clause-items c =
    let front-1 : List ℕ = codes "HTTP/1.1 200 OK\r\nContent-Type: text/plain; version=0.0.4; charset=utf-8\r\nContent-Length: " in
    let so-2 = more c.args.answer.now.items front-1 _ _ _ (decimal c.args.bytes) c.append.ensures.items c.append-2.ensures.items (c.as_bytes.ensures.value ∙ c.format.ensures.text) in
    let front-2 : List ℕ = front-1 ++ (decimal c.args.bytes) in
    more c.args.answer.now.items front-2 _ _ (codes "\r\nConnection: close\r\n\r\n") (codes "\r\nConnection: close\r\n\r\n") so-2 c.append-3.ensures.items refl
