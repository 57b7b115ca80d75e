use Rattle.std.proofs.Common.{◌≡◌, ℕ, ◌+◌, refl, ap, ◌∙◌}
use Rattle.std.proofs.lemmas.List.{take_rest}
use Rattle.bins.specs.KeptRows.{number, value_place}
use Rattle.bins.proofs.RowBytes.{value_reads}
use Rattle.bins.proofs.width_rows.set_value.Goals as goal

pub returns-clause-row : goal.returns-clause-row
returns-clause-row c =
    let at : 10 + c.key_length-start.result ≡ value_place c.args.row.now = ap (λ (n : ℕ). 10 + n) (c.key_length-start.ensures.value ∙ ap (number 2) (take_rest c.args.row.now 8)) in
    (value_reads c.args.row.now c.requires.holds _ at c.args.value.now _ c.requires.value c.put_value.new.rest _ c.put_value.ensures.after refl).row

pub returns-clause-holds : goal.returns-clause-holds
returns-clause-holds c =
    let at : 10 + c.key_length-start.result ≡ value_place c.args.row.now = ap (λ (n : ℕ). 10 + n) (c.key_length-start.ensures.value ∙ ap (number 2) (take_rest c.args.row.now 8)) in
    (value_reads c.args.row.now c.requires.holds _ at c.args.value.now _ c.requires.value c.put_value.new.rest _ c.put_value.ensures.after refl).holds
