use Rattle.std.proofs.Common.{◌≡◌, ◌∙◌, ap, sym, take, Bool, false}
use Rattle.std.specs.Prelude.{◌||◌, codes}
use Rattle.std.specs.Str.{bytes_eq}
use Rattle.metrics_page.proofs.asked.is_page.Goals as goal

pub returns-else-eq : goal.returns-else-eq
returns-else-eq c =
    let target = c.args.target.now in
    let other : bytes_eq target (codes "/metrics") ≡ false = ap (bytes_eq target) (sym c.as_slice.ensures) ∙ (sym c.eq.ensures ∙ c.if-eq.false) in
    c.starts_with.ensures.value ∙ sym (ap (λ (b : Bool). b || bytes_eq (codes "/metrics?") (take 9 target)) other)
