use Rattle.std.proofs.Common.{rules, ◌≡◌, ◌<◌, [], length, set, sym, ap, refl, arith, ◌∙◌, get_or-set_same}
use Rattle.std.proofs.lemmas.List.{length-set}
use Rattle.bins.specs.declared.locations.Location.TheVariants.{Vacant, In}
use Rattle.bins.specs.KeptRows.{KeptRow, nobody, location_at}
use Rattle.bins.specs.Rows.{keys_in, lists_in, values_in}
use Rattle.bins.proofs.RowLemmas.{inside, no_more, vacant_read}
use Rattle.bins.proofs.RowSteps.{Changed, changed_as, vacated, written_same}
use Rattle.bins.proofs.RoomLemmas.{few_widths, roomy_as}
use Rattle.bins.proofs.raw_rows.RawRows.vacate.Goals as goal

-- the location names an existing row
pub remove_in-owner-requires-clause-range : goal.remove_in-owner-requires-clause-range
remove_in-owner-requires-clause-range c =
    let named = sym c.location.ensures.value ∙ c.in-In.is in
    ((c.requires.rows.matched c.in-In.width).named _ _ named).0

pub new-requires : goal.new-requires
new-requires c =
    let named = sym c.location.ensures.value ∙ c.in-In.is in
    let matched = c.requires.rows.matched c.in-In.width in
    let there = (matched.named _ _ named).0 in (
      few_widths c.args.self.now c.requires.room c.in-In.width.step c.in-In.at there,
      omega (arith, there, no_more c.in-In.width _ _ matched, c.requires.rows.few),
    )

-- the last row took the gap, and its position got the new location
pub returns-in-In : goal.returns-in-In
returns-in-In c =
    let raw = c.args.self.now in
    let ps = raw.locations.items in
    let p = c.args.position in
    let k = c.in-In.width in
    let at = c.in-In.at in
    let owner = c.remove_in-owner.result in
    let after = c.remove_in-owner.new.self in
    let named : location_at ps p ≡ In k at = sym c.location.ensures.value ∙ c.in-In.is in
    let left : Changed ps (lists_in raw) p [] [] (set (set after.locations.items owner c.new.result) p c.new-in-In.result) (lists_in after) =
    changed_as ps (lists_in raw) p [] [] _ _ _ (lists_in after)
    (λ i. set (set (c.remove_in-owner.ensures.locations i).items owner (c.new.ensures i)) p (c.new-in-In.ensures i)) c.remove_in-owner.ensures.rows
    (vacated ps (lists_in raw) c.requires.rows k p at owner nobody named c.remove_in-owner.ensures.owner) in
    let locations : after.locations.items ≡ ps = λ i. (c.remove_in-owner.ensures.locations i).items in
    let told : p < length (set after.locations.items owner c.new.result) = omega (arith, length-set after.locations.items owner c.new.result, ap length locations, inside k ps p at named) in
    record {
      rows = left.rows;
      keys = left.keys;
      values = left.values;
      vacant = get_or-set_same (set after.locations.items owner c.new.result) p c.new-in-In.result Vacant told ∙ c.new-in-In.ensures;
      many = search rules;
      room = roomy_as after _ refl refl refl refl (omega (arith, length-set (set after.locations.items owner c.new.result) p c.new-in-In.result, length-set after.locations.items owner c.new.result, c.remove_in-owner.ensures.room.inside)) c.remove_in-owner.ensures.room;
      same = c.remove_in-owner.ensures.same;
    }

-- the strings of a vacant position are empty already
pub returns-in_default-clause-keys : goal.returns-in_default-clause-keys
returns-in_default-clause-keys c =
    let raw = c.args.self.now in
    let vacant = sym c.location.ensures.value ∙ c.in_default.is in
    sym (written_same (keys_in raw) c.args.position _ (vacant_read (λ (r : KeptRow). r.key) raw.locations.items (lists_in raw) c.args.position c.requires.range vacant refl))

pub returns-in_default-clause-values : goal.returns-in_default-clause-values
returns-in_default-clause-values c =
    let raw = c.args.self.now in
    let vacant = sym c.location.ensures.value ∙ c.in_default.is in
    sym (written_same (values_in raw) c.args.position _ (vacant_read (λ (r : KeptRow). r.value) raw.locations.items (lists_in raw) c.args.position c.requires.range vacant refl))
