use Rattle.std.proofs.Common.{◌≡◌, ◌∙◌, ℕ, subst, arith}
use Rattle.atomic_table.specs.Seated.{TableId}
use Rattle.sqlite.specs.Held.{state}
use Rattle.bin_stripes.specs.Passes.{stripes_of}
use Rattle.map_keeper.specs.Saves.{IsWholeIn}
use Rattle.map_keeper.specs.Written.{SavesBetween, WritesOthers}
use Rattle.map_keeper.proofs.WriteLemmas.{clean_before, kept_then}
use Rattle.map_keeper.proofs.taker.Taker.write_part.Goals as goal

-- what was written so far stays
pub returns-in_err-write_width-clause-kept : goal.returns-in_err-write_width-clause-kept
returns-in_err-write_width-clause-kept g c = kept_then _ _ _ c.save_stripes.ensures.kept c.write_width.ensures.kept

pub returns-in_err-in_file-clause-kept : goal.returns-in_err-in_file-clause-kept
returns-in_err-in_file-clause-kept g c = kept_then _ _ _ c.save_stripes.ensures.kept c.write_others.ensures.kept

-- stripes are left
pub returns-then-next-stripes-clause-next : goal.returns-then-next-stripes-clause-next
returns-then-next-stripes-clause-next g c =
    let further = c.in_ok-next.ensures.next.1 (omega (arith, c.if-next-stripes.true, c.stripes-stripes.ensures.value)) in
    (further.0, omega (arith, c.if-next-stripes.true, c.stripes-stripes.ensures.value), further.1)

pub returns-then-next-stripes-clause-wrote : goal.returns-then-next-stripes-clause-wrote
returns-then-next-stripes-clause-wrote g c clean = record {
  mid = c.save_stripes.new.save.conn.now;
  saved = c.in_ok-next.ensures.wrote (clean_before _ _ _ c.write_width.ensures.kept clean);
  whole = λ k up low. subst (λ (id : TableId). IsWholeIn (stripes_of id) c.save_stripes.new.self.pass.view k) (c.save_stripes.ensures.same.map ∙ c.requires.map) (c.in_ok-next.ensures.whole k up low);
  rest = subst (λ (n : ℕ). WritesOthers (state g.S.Store) n c.save_stripes.new.save.conn.now c.write_width.new.save.conn.now) c.stripes-stripes.ensures.value
      (c.in_ok-write_width.ensures.wrote clean);
}

pub returns-then-next-stripes-clause-kept : goal.returns-then-next-stripes-clause-kept
returns-then-next-stripes-clause-kept g c = kept_then _ _ _ c.save_stripes.ensures.kept c.write_width.ensures.kept

-- none is left
pub returns-clause-above : goal.returns-clause-above
returns-clause-above g c j up = c.in_ok-next.ensures.above j (omega (arith, up, c.in_ok-next.ensures.next.0))

pub returns-clause-whole : goal.returns-clause-whole
returns-clause-whole g c k up low = c.in_ok-next.ensures.whole k up (omega (arith, low, c.if-next-stripes.false, c.stripes-stripes.ensures.value))

pub returns-clause-ends : goal.returns-clause-ends
returns-clause-ends g c k up low = c.in_ok-next.ensures.ends k up (omega (arith, low, c.if-next-stripes.false, c.stripes-stripes.ensures.value))

pub returns-clause-wrote : goal.returns-clause-wrote
returns-clause-wrote g c clean =
    let v = c.args.self.now.pass.view in
    let w = c.save_stripes.new.self.pass.view in
    let all : c.in_ok-next.next ≡ stripes_of c.args.shared.now.map.now = omega (arith, c.in_ok-next.ensures.next.0, c.if-next-stripes.false, c.stripes-stripes.ensures.value) in
    record {
      mid = c.save_stripes.new.save.conn.now;
      saved = subst (λ (end : ℕ). SavesBetween (state g.S.Store) c.args.had.now.takes_anew v w c.args.from end c.args.save.now.conn.now c.save_stripes.new.save.conn.now) all
          (c.in_ok-next.ensures.wrote (clean_before _ _ _ c.write_others.ensures.kept clean));
      whole = λ k up low. subst (λ (id : TableId). IsWholeIn (stripes_of id) w k) (c.save_stripes.ensures.same.map ∙ c.requires.map)
          (c.in_ok-next.ensures.whole k up (omega (arith, low, all)));
      rest = c.in_ok-in_file.ensures.wrote clean;
    }

pub returns-clause-kept : goal.returns-clause-kept
returns-clause-kept g c = kept_then _ _ _ c.save_stripes.ensures.kept c.write_others.ensures.kept
