use Rattle.std.proofs.Common.{◌∙◌, refl, ℕ, List, ◌++◌}
use Rattle.std.specs.Prelude.{codes}
use Rattle.metrics_page.specs.Pages.{about, kind_text}
use Rattle.metrics_page.proofs.PageLemmas.{more}
use Rattle.metrics_page.proofs.text.put_about.Goals as goal

pub returns-clause-items : goal.returns-clause-items
unfolding about
returns-clause-items c =
    let front-1 : List ℕ = codes "# HELP " in
    let so-2 = more c.args.text.now.items front-1 _ _ _ c.args.name.now c.append.ensures.items c.append-2.ensures.items c.as_bytes.ensures.value in
    let front-2 : List ℕ = front-1 ++ c.args.name.now in
    let so-3 = more c.args.text.now.items front-2 _ _ (codes " ") (codes " ") so-2 c.append-3.ensures.items refl in
    let front-3 : List ℕ = front-2 ++ (codes " ") in
    let so-4 = more c.args.text.now.items front-3 _ _ _ c.args.help.now so-3 c.append-4.ensures.items c.as_bytes-2.ensures.value in
    let front-4 : List ℕ = front-3 ++ c.args.help.now in
    let so-5 = more c.args.text.now.items front-4 _ _ (codes "\n# TYPE ") (codes "\n# TYPE ") so-4 c.append-5.ensures.items refl in
    let front-5 : List ℕ = front-4 ++ (codes "\n# TYPE ") in
    let so-6 = more c.args.text.now.items front-5 _ _ _ c.args.name.now so-5 c.append-6.ensures.items c.as_bytes-3.ensures.value in
    let front-6 : List ℕ = front-5 ++ c.args.name.now in
    more c.args.text.now.items front-6 _ _ _ (kind_text c.args.kind) so-6 c.append-7.ensures.items (c.as_bytes-4.ensures.value ∙ c.text.ensures.value)
