use Rattle.std.proofs.Common.{◌≡◌, [], length, sym, ap, arith, ◌∙◌}
use Rattle.std.proofs.lemmas.List.{nil_from_length}
use Rattle.bins.specs.declared.locations.Width.{Width}
use Rattle.bins.specs.declared.raw_rows.RawRows.{RawRows}
use Rattle.bins.specs.Rows.{AreIn, lists_in}
use Rattle.bins.proofs.RowLemmas.{no_more}
use Rattle.bins.proofs.RowSteps.{keys_length}
use Rattle.bins.proofs.raw_rows.RawRows.clear.Goals as goal

-- without positions there are no rows of any width
no_rows : (raw : RawRows) → AreIn raw → length raw.locations.items ≡ 0 → (width : Width) → lists_in raw width ≡ []
no_rows raw are none width = nil_from_length (lists_in raw width) (omega (arith, none, no_more width raw.locations.items (lists_in raw width) (are.matched width)))

-- neither the new lists nor the old ones have any
pub returns : goal.returns
returns c =
    let raw = c.args.self.now in
    let new = c.new.result in
    let kept = c.new.ensures.kept in
    let none : length new.locations.items ≡ 0 = omega (arith, keys_length new.locations.items (lists_in new), ap length c.new.ensures.keys) in
    record {
      locations = nil_from_length new.locations.items none ∙ sym (nil_from_length raw.locations.items c.requires.none);
      rows = λ i width. (no_rows new kept.rows none width ∙ sym (no_rows raw c.requires.rows c.requires.none width)) i;
      room = kept.room;
    }
