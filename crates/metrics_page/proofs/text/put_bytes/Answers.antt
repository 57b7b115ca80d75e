use Rattle.std.proofs.Common.{refl}
use Rattle.metrics_page.proofs.PageLemmas.{more}
use Rattle.metrics_page.proofs.text.put_bytes.Goals as goal

pub returns-clause-items : goal.returns-clause-items
returns-clause-items c =
    let so-2 = more _ _ _ _ _ _ c.put_about.ensures.items c.put_labelled.ensures.items refl in
    let so-3 = more _ _ _ _ _ _ so-2 c.put_labelled-2.ensures.items refl in
    let so-4 = more _ _ _ _ _ _ so-3 c.put_labelled-3.ensures.items refl in
    more _ _ _ _ _ _ so-4 c.put_labelled-4.ensures.items refl
