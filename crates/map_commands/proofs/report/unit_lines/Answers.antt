use Rattle.std.proofs.Common.{◌≡◌, ℕ, suc, ◌/◌, ◌%◌, ◌++◌, ◌<◌, List, [], ◌∷◌, drop, get_or, sym, ap, subst, ◌∙◌, append_assoc, append-nil, add-one, arith}
use Rattle.std.proofs.lemmas.List.Elements.{All-from_get_or}
use Rattle.map_commands.specs.Hex.{SpellsBytes}
use Rattle.map_commands.specs.Reports.{unit_lines, unit_lines_from, digit, separator}
use Rattle.map_commands.proofs.UnitLineLemmas.{unit_lines_from-next, unit_lines_from-done, unit_lines_from-spells}
use Rattle.map_commands.proofs.report.unit_lines.Goals as goal

pub loop-index-preserved : goal.loop-index-preserved
loop-index-preserved c =
    let index = c.loop-index.index in
    let bytes = c.args.bytes.now in
    let byte = get_or bytes index 0 in
    let text = c.loop-index.text.items in
    let rest = unit_lines_from (suc index) (drop (suc index) bytes) in
    let three : List ℕ = digit (byte / 16) ∷ digit (byte % 16) ∷ separator index ∷ [] in
    let items : c.extend_from_slice.new.self.items ≡ text ++ three = rw (← c.digits-high.ensures.high, ← c.digits-high.ensures.low, ← c.separator.ensures) c.in_ok-extend_from_slice.ensures.items in
    let next = unit_lines_from-next index index bytes c.loop-index-test.true in
    rw add-one (c.loop-index.invariant ∙ ap (λ (xs : List ℕ). text ++ xs) next ∙ sym (append_assoc text three rest) ∙ ap (λ (xs : List ℕ). xs ++ rest) (sym items))

pub returns : goal.returns
returns c =
    let bytes = c.args.bytes.now in
    let text = c.loop-index.text.items in
    let done = unit_lines_from-done c.loop-index.index c.loop-index.index bytes (omega (arith, c.loop-index-test.false)) in
    let lines : text ≡ unit_lines bytes = sym (c.loop-index.invariant ∙ ap (λ (xs : List ℕ). text ++ xs) done ∙ append-nil text) in
    let small = All-from_get_or (λ byte. byte < 256) bytes 0 (λ i within. omega (arith, c.type_inv.bytes i)) in
    record { lines = lines; hex = subst (λ (t : List ℕ). SpellsBytes t bytes) (sym lines) (unit_lines_from-spells 0 bytes small) }
