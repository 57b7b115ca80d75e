use Rattle.std.proofs.Common.{subst}
use Rattle.stack_slots.specs.declared.frame.Frame.{Frame}
use Rattle.stack_slots.specs.Frames.{MeetsMarks, JoinsSlots}
use Rattle.stack_slots.specs.Groups.{ungrouped}
use Rattle.stack_slots.proofs.MarkingLemmas.{meets_marks, joins_slots}
use Rattle.stack_slots.proofs.FrameLemmas.{join_describes_first, join_describes_second, join_values}
use Rattle.stack_slots.proofs.frame.Frame.join_kept.Goals as goal

pub returns-clause-marks : goal.returns-clause-marks
returns-clause-marks c =
    let kept : Frame = record { result = c.kept.inside.result; stack = c.kept.inside.stack; slots = ungrouped c.kept.inside.groups } in
    let new : Frame = record { result = c.keep_common.new.words; stack = c.keep_common-2.new.words; slots = c.join_groups.new.slots } in
    subst (λ (f : Frame). MeetsMarks c.args.self.now f new) c.kept.view_is (meets_marks c.args.self.now kept new c.keep_common.ensures.exact c.keep_common-2.ensures.exact)

pub returns-clause-slots : goal.returns-clause-slots
returns-clause-slots c =
    let kept : Frame = record { result = c.kept.inside.result; stack = c.kept.inside.stack; slots = ungrouped c.kept.inside.groups } in
    let new : Frame = record { result = c.keep_common.new.words; stack = c.keep_common-2.new.words; slots = c.join_groups.new.slots } in
    subst (λ (f : Frame). JoinsSlots c.args.self.now f new) c.kept.view_is (joins_slots c.args.self.now kept new c.join_groups.ensures.exact)

pub returns-clause-first : goal.returns-clause-first
returns-clause-first c = join_describes_first c.args.self.now c.args.kept.now _ (returns-clause-marks c) (returns-clause-slots c)

pub returns-clause-second : goal.returns-clause-second
returns-clause-second c = join_describes_second c.args.self.now c.args.kept.now _ (returns-clause-marks c) (returns-clause-slots c)

pub returns-clause-values : goal.returns-clause-values
returns-clause-values c = join_values c.args.self.now c.args.kept.now _ (returns-clause-slots c)
