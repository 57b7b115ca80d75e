use Rattle.std.proofs.Common.{◌≡◌, ◌+◌, ◌<◌, ◌++◌, ◌∷◌, [], List, ℕ, length, slice_index_or, take, sym, ap, ◌∙◌, arith}
use Rattle.std.proofs.lemmas.List.{append_assoc, take_more}
use Rattle.bins.specs.Rows.{keys_in, lists_in, values_in}
use Rattle.bins.proofs.RowSteps.{keys_length, values_length}
use Rattle.bins.proofs.raw_rows.RawRows.push_all.Goals as goal

-- this many strings, and one more
one_more : (start xs : List (List ℕ)) (p : ℕ) (now : List (List ℕ)) → p < length xs → now ≡ start ++ take p xs
    → now ++ slice_index_or xs p [] ∷ [] ≡ start ++ take (p + 1) xs
one_more start xs p now within is =
    ap (λ (ys : List (List ℕ)). ys ++ slice_index_or xs p [] ∷ []) is ∙ append_assoc start (take p xs) _
    ∙ ap (λ (ys : List (List ℕ)). start ++ ys) (sym (take_more xs p [] within))

pub loop-position-preserved : goal.loop-position-preserved
loop-position-preserved c =
    let before = c.loop-position.invariant in
    let other = c.args.other.now in
    let p = c.loop-position.position in
    let below : p < length other.locations.items = omega (arith, c.loop-position-test.true, c.len-position-end.ensures.value) in
    let keys_below : p < length (keys_in other) = omega (arith, below, keys_length other.locations.items (lists_in other)) in
    let values_below : p < length (values_in other) = omega (arith, below, values_length other.locations.items (lists_in other)) in
    record {
      rows = c.push_from.ensures.rows;
      keys = c.push_from.ensures.keys ∙ one_more (keys_in c.args.self.now) (keys_in other) p _ keys_below before.keys;
      values = c.push_from.ensures.values ∙ one_more (values_in c.args.self.now) (values_in other) p _ values_below before.values;
      counted = omega (arith, before.counted, c.push_from.ensures.many);
      room = c.push_from.ensures.room;
      same = c.push_from.ensures.same ∙ before.same;
    }
