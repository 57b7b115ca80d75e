use Rattle.std.proofs.Common.{◌∙◌, refl, ap, ℕ, List, ◌++◌}
use Rattle.metrics_page.specs.Pages as spec
use Rattle.metrics_page.specs.Pages.{text}
use Rattle.metrics_page.proofs.PageLemmas.{more}
use Rattle.metrics_page.proofs.text.text_of.Goals as goal

pub returns : goal.returns
unfolding text
returns c =
    let front-1 : List ℕ = spec.process c.args.numbers.now in
    let so-2 = more c.new-text.result.items front-1 _ _ (spec.clients c.args.numbers.now) (spec.clients c.args.numbers.now) c.put_process.ensures.items c.put_clients.ensures.items refl in
    let front-2 : List ℕ = front-1 ++ (spec.clients c.args.numbers.now) in
    let so-3 = more c.new-text.result.items front-2 _ _ (spec.commands c.args.numbers.now) (spec.commands c.args.numbers.now) so-2 c.put_commands.ensures.items refl in
    let front-3 : List ℕ = front-2 ++ (spec.commands c.args.numbers.now) in
    let so-4 = more c.new-text.result.items front-3 _ _ (spec.requests c.args.numbers.now) (spec.requests c.args.numbers.now) so-3 c.put_requests.ensures.items refl in
    let front-4 : List ℕ = front-3 ++ (spec.requests c.args.numbers.now) in
    let so-5 = more c.new-text.result.items front-4 _ _ (spec.refusals c.args.numbers.now) (spec.refusals c.args.numbers.now) so-4 c.put_refusals.ensures.items refl in
    let front-5 : List ℕ = front-4 ++ (spec.refusals c.args.numbers.now) in
    let so-6 = more c.new-text.result.items front-5 _ _ (spec.keys c.args.numbers.now) (spec.keys c.args.numbers.now) so-5 c.put_keys.ensures.items refl in
    let front-6 : List ℕ = front-5 ++ (spec.keys c.args.numbers.now) in
    let so-7 = more c.new-text.result.items front-6 _ _ (spec.saves c.args.numbers.now) (spec.saves c.args.numbers.now) so-6 c.put_saves.ensures.items refl in
    let front-7 : List ℕ = front-6 ++ (spec.saves c.args.numbers.now) in
    let so-8 = more c.new-text.result.items front-7 _ _ (spec.waits c.args.numbers.now) (spec.waits c.args.numbers.now) so-7 c.put_waits.ensures.items refl in
    let front-8 : List ℕ = front-7 ++ (spec.waits c.args.numbers.now) in
    let so-9 = more c.new-text.result.items front-8 _ _ (spec.bytes c.args.numbers.now) (spec.bytes c.args.numbers.now) so-8 c.put_bytes.ensures.items refl in
    so-9 ∙ ap (λ (t : List ℕ). t ++ text c.args.numbers.now) c.new-text.ensures
