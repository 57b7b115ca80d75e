use Rattle.noted_bins.proofs.KeyLemmas.{noted_left, noted_right}
use Rattle.noted_bins.proofs.notes.Notes.keep.Goals as goal

pub returns-in_ok-push-in-Some : goal.returns-in_ok-push-in-Some
returns-in_ok-push-in-Some c =
    rw (← c.self.view_is, c.in_ok-push-in-Some.ensures.items, c.in-Some.ensures.value, c.as_slice.ensures.value) (noted_left c.self.inside.all c.self.inside.short.items c.self.inside.long.items c.self.inside.filter c.args.key.now)

pub returns-in_ok-push-in-None : goal.returns-in_ok-push-in-None
returns-in_ok-push-in-None c =
    rw (← c.self.view_is, c.in_ok-push-in-None.ensures.items, c.copied.ensures) (noted_right c.self.inside.all c.self.inside.short.items c.self.inside.long.items c.self.inside.filter c.args.key.now)
