use Rattle.std.proofs.Common.{◌<◌, length, get_or, sym, ◌∙◌, arith}
use Rattle.noted_bins.proofs.KeyLemmas.{has_at, in_left, in_right, same_bytes}
use Rattle.noted_bins.proofs.notes.Notes.is_recent.Goals as goal

-- it is a short key
pub returns-then-eq : goal.returns-then-eq
returns-then-eq c _ =
    let bytes = same_bytes _ _ (sym c.eq.ensures ∙ c.if-eq.true) in
    let key = sym c.index.ensures ∙ sym c.as_slice.ensures.value ∙ bytes ∙ c.as_slice-bytes.ensures.value ∙ c.key.ensures.value in
    let lt : get_or c.self.inside.recent c.slot_of.result 0 < length c.self.inside.short.items = omega (arith, c.if-position-len.true, c.len.ensures) in
    rw (← c.self.view_is) (in_left c.self.inside.short.items _ _ (has_at c.self.inside.short.items _ _ c.index.result.now lt key))

-- it is a long one
pub returns-then-position-len-2 : goal.returns-then-position-len-2
returns-then-position-len-2 c same =
    let bytes = same_bytes _ _ (sym c.eq-then-position-len-2.ensures ∙ same) in
    let key =
    sym c.index-then-position-len-2.ensures ∙ sym c.as_slice-then-position-len-2.ensures.value ∙ bytes ∙ c.as_slice-bytes.ensures.value ∙ c.key.ensures.value in
    let lt : get_or c.self.inside.recent c.slot_of.result 0 < length c.self.inside.long.items = omega (arith, c.if-position-len-2.true, c.len-2.ensures) in
    rw (← c.self.view_is) (in_right c.self.inside.short.items _ _ (has_at c.self.inside.long.items _ _ c.index-then-position-len-2.result.now lt key))
