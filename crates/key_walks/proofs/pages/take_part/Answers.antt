use Rattle.std.proofs.Common.{◌-◌, ◌/◌, ◌^◌, ◌∙◌, inl, inr, arith}
use Rattle.bin_stripes.specs.Passes.{PassState}
use Rattle.key_walks.specs.Turns.{MayScan}
use Rattle.key_walks.proofs.ChainLemmas.{on_err}
use Rattle.key_walks.proofs.ExpiryLemmas.{and_then}
use Rattle.key_walks.proofs.PageLemmas.{count_places, takes_more}
use Rattle.key_walks.proofs.pages.take_part.Goals as goal

pub places_of-requires : goal.places_of-requires
places_of-requires g c = record { stripe = omega (arith, c.requires.place, c.requires.stripes) }

pub overflow_mul-stripe : goal.overflow_mul-stripe
overflow_mul-stripe g c = omega (arith, c.requires.place, c.requires.stripes)

pub add_between-requires : goal.add_between-requires
add_between-requires g c = omega (arith, c.requires.place, c.requires.stripes)

-- nothing more was done
pub returns-in_err-copy_stripe-clause-err : goal.returns-in_err-copy_stripe-clause-err
returns-in_err-copy_stripe-clause-err g c =
    let k = c.args.page.now.next / 2 ^ 32 in
    let gone = c.expire_all.ensures in
    on_err _ (and_then c.args.asked.now.time (λ (p q : PassState). MayScan p k q) c.args.pass.now k c.expire_all.new.pass c.copy_stripe.new.pass gone.same gone.expires
    (inl c.in_err-copy_stripe.ensures.err.0))

-- the scan was made
pub returns-in_err-places-clause-err : goal.returns-in_err-places-clause-err
returns-in_err-places-clause-err g c =
    let k = c.args.page.now.next / 2 ^ 32 in
    let gone = c.expire_all.ensures in
    let copies = c.in_ok-copy_stripe.ensures.ok in
    on_err _ (and_then c.args.asked.now.time (λ (p q : PassState). MayScan p k q) c.args.pass.now k c.expire_all.new.pass c.copy_stripe.new.pass gone.same gone.expires
    (inr (copies.entries, copies.scans)))

pub returns-in_err-add_between-clause-err : goal.returns-in_err-add_between-clause-err
returns-in_err-add_between-clause-err g c =
    let k = c.args.page.now.next / 2 ^ 32 in
    let gone = c.expire_all.ensures in
    let copies = c.in_ok-copy_stripe.ensures.ok in
    on_err _ (and_then c.args.asked.now.time (λ (p q : PassState). MayScan p k q) c.args.pass.now k c.expire_all.new.pass c.copy_stripe.new.pass gone.same gone.expires
    (inr (copies.entries, copies.scans)))

-- the part goes to the place that the search found
pub returns-clause-ok : goal.returns-clause-ok
returns-clause-ok g c =
    let from = c.args.page.now.next in
    let k = from / 2 ^ 32 in
    let until = c.end_of-until.result in
    let found = c.copy_stripe.new.list in
    let places = c.deref.ensures.value ∙ c.in_ok-places.ensures.value in
    let all = count_places k from until found c.deref.result.now places in
    let less = count_places k from (until - 1) found c.deref.result.now places in
    let gone = c.expire_all.ensures in
    let searched = c.end_of-until.ensures in
    let had = c.len.ensures in
    let few = searched.few in
    takes_more c.args.asked.now.time c.args.asked.now.most c.args.pass.now c.expire_all.new.pass c.copy_stripe.new.pass c.args.page.now.keys.items c.add_between.new.keys.items from
    until c.new-found.result found gone.same gone.expires c.new-found.ensures c.in_ok-copy_stripe.ensures.ok searched.after searched.inside c.in_ok-add_between.ensures
    (λ lt. searched.enough (omega (arith, lt, all, had, c.requires.most)))
    (omega (arith, few, less, had, c.requires.most))
