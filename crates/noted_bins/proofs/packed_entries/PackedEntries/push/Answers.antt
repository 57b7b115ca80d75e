use Rattle.std.proofs.Common.{◌≡◌, ◌+◌, List, [], ◌∷◌, ◌++◌, ℕ, length, map, ap, ap₂, ◌∙◌, arith, length-append}
use Rattle.bins.specs.Table.{Entry}
use Rattle.noted_bins.specs.Packed.{entry_at}
use Rattle.noted_bins.specs.declared.packed_entries.Place.{Place}
use Rattle.noted_bins.proofs.PackedLemmas.{entries_kept, packed_more, packed_same, place_of, told_err}
use Rattle.noted_bins.proofs.packed_entries.PackedEntries.push.Goals as goal

-- the value found no room
pub returns-in_err-extend_from_slice-2-clause-err : goal.returns-in_err-extend_from_slice-2-clause-err
returns-in_err-extend_from_slice-2-clause-err c =
    let bytes = c.in_err-extend_from_slice-2.ensures.items ∙ c.in_ok-extend_from_slice.ensures.items in
    told_err _ (ap (λ (bs : List ℕ). map (entry_at bs) c.self.inside.places.items) bytes
    ∙ entries_kept c.self.inside.bytes.items c.args.key.now c.self.inside.places.items c.self.invariant ∙ c.self.view_is)

-- .. or the place
pub returns-in_err-push-clause-err : goal.returns-in_err-push-clause-err
returns-in_err-push-clause-err c =
    let bytes = c.in_ok-extend_from_slice-2.ensures.items ∙ ap (λ (bs : List ℕ). bs ++ c.args.value.now) c.in_ok-extend_from_slice.ensures.items in
    told_err _ (ap₂ (λ (bs : List ℕ) (ps : List Place). map (entry_at bs) ps) bytes c.in_err-push.ensures.items
    ∙ packed_same c.self.inside.bytes.items c.args.key.now c.args.value.now c.self.inside.places.items c.self.invariant ∙ c.self.view_is)

pub returns-clause-ok : goal.returns-clause-ok
returns-clause-ok c =
    let bytes = c.in_ok-extend_from_slice-2.ensures.items ∙ ap (λ (bs : List ℕ). bs ++ c.args.value.now) c.in_ok-extend_from_slice.ensures.items in
    let old = c.self.inside.bytes.items in
    let first = length-append old c.args.key.now in
    let second = length-append (old ++ c.args.key.now) c.args.value.now in
    let one = ap length c.in_ok-extend_from_slice.ensures.items in
    let both = ap length bytes in
    let start : c.len-start.result ≡ length old = omega (arith, c.len-start.ensures) in
    let middle : c.len-middle.result ≡ length old + length c.args.key.now = omega (arith, c.len-middle.ensures, one, first) in
    let end : c.len-end.result ≡ length old + length c.args.key.now + length c.args.value.now = omega (arith, c.len-end.ensures, both, first, second) in
    let place : ◌≡◌ {A = Place} (record { start = c.len-start.result; middle = c.len-middle.result; end = c.len-end.result }) (place_of old c.args.key.now c.args.value.now) =
    λ i. record { start = start i; middle = middle i; end = end i } in
    ap₂ (λ (bs : List ℕ) (ps : List Place). map (entry_at bs) ps) bytes (c.in_ok-push.ensures.items ∙ ap (λ (p : Place). c.self.inside.places.items ++ p ∷ []) place)
    ∙ packed_more old c.args.key.now c.args.value.now c.self.inside.places.items c.self.invariant ∙ ap (λ (es : List Entry). es ++ (c.args.key.now, c.args.value.now) ∷ []) c.self.view_is
