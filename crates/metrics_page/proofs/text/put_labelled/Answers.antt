use Rattle.std.proofs.Common.{◌∙◌, refl, ap, ℕ, List, ◌++◌}
use Rattle.std.specs.Prelude.{codes, decimal}
use Rattle.metrics_page.specs.Pages.{series_line}
use Rattle.metrics_page.proofs.PageLemmas.{more}
use Rattle.metrics_page.proofs.text.put_labelled.Goals as goal

pub returns-clause-items : goal.returns-clause-items
unfolding series_line
returns-clause-items c =
    let old : List ℕ = c.args.text.now.items in
    let front-1 : List ℕ = c.args.name.now in
    let so-1 = c.append.ensures.items ∙ ap (λ (t : List ℕ). old ++ t) c.as_bytes.ensures.value in
    let so-2 = more old front-1 _ _ (codes "{") (codes "{") so-1 c.append-2.ensures.items refl in
    let front-2 : List ℕ = front-1 ++ (codes "{") in
    let so-3 = more old front-2 _ _ _ c.args.key.now so-2 c.append-3.ensures.items c.as_bytes-2.ensures.value in
    let front-3 : List ℕ = front-2 ++ c.args.key.now in
    let so-4 = more old front-3 _ _ (codes "=\"") (codes "=\"") so-3 c.append-4.ensures.items refl in
    let front-4 : List ℕ = front-3 ++ (codes "=\"") in
    let so-5 = more old front-4 _ _ _ c.args.label.now so-4 c.append-5.ensures.items refl in
    let front-5 : List ℕ = front-4 ++ c.args.label.now in
    let so-6 = more old front-5 _ _ (codes "\"} ") (codes "\"} ") so-5 c.append-6.ensures.items refl in
    let front-6 : List ℕ = front-5 ++ (codes "\"} ") in
    let so-7 = more old front-6 _ _ _ (decimal c.args.number) so-6 c.append-7.ensures.items (c.as_bytes-3.ensures.value ∙ c.format.ensures.text) in
    let front-7 : List ℕ = front-6 ++ (decimal c.args.number) in
    more old front-7 _ _ (codes "\n") (codes "\n") so-7 c.append-8.ensures.items refl
