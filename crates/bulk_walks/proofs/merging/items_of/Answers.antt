use Rattle.std.proofs.Common.{◌≡◌, List, Result, Ok, Err, IfOk, T, sym, ◌∙◌}
use Rattle.std.specs.FinMap.{is_sorted}
use Rattle.bpf_model.specs.declared.memory.NoMemory.{NoMemory}
use Rattle.bins.specs.Table.{Entry, by_bytes}
use Rattle.atomic_methods.specs.declared.walk_reply.WalkKind.{WalkKind}
use Rattle.atomic_methods.specs.declared.walk_reply.WalkKind.TheVariants.{Search, ForEach}
use Rattle.atomic_methods.specs.declared.walk_reply.WalkReply.{WalkReply}
use Rattle.atomic_methods.specs.Replies.{chosen}
use Rattle.bulk_walks.specs.declared.answers.Answers.{Answers}
use Rattle.bulk_walks.specs.Turns.{items_in}
use Rattle.bulk_walks.specs.Kept.{StandForAll, kept_in}
use Rattle.bulk_walks.specs.Merges.{HasAll}
use Rattle.bulk_walks.proofs.FirstLemmas.{first_is}
use Rattle.bulk_walks.proofs.StandLemmas.{FirstOfAll, has_kept}
use Rattle.bulk_walks.proofs.merging.items_of.Goals as goal

-- these items are what the walk gives of all items
abbrev Gives : WalkKind → List Answers → List Entry → Type 0
Gives kind all items = (replies : List WalkReply) → StandForAll kind replies all → (whole : List Entry) → T (is_sorted by_bytes whole) → HasAll whole (items_in replies) → items ≡ chosen kind whole

gives_first : (kind : WalkKind) → kind ≡ Search → (all : List Answers) (items first : List Entry) → items ≡ first → FirstOfAll all first → Gives kind all items
gives_first Search is all items first same found = λ replies stand whole order has. same ∙ first_is _ first whole (found replies stand) order has
gives_first ForEach is all items first same found = absurd cc

gives_all : (kind : WalkKind) → kind ≡ ForEach → (all : List Answers) (result : Result (List Entry) NoMemory) → IfOk result (λ items. (whole : List Entry) → T (is_sorted by_bytes whole) → HasAll whole (kept_in all) → items ≡ whole) → IfOk result (λ items. Gives kind all items)
gives_all Search is all result found = absurd cc
gives_all ForEach is all (Ok items) found = λ replies stand whole order has. found whole order (λ h. has h ∙ sym (has_kept replies all stand h))
gives_all ForEach is all (Err e) found = found

pub returns-in-Search : goal.returns-in-Search
returns-in-Search g c = gives_first c.args.kind c.in-Search.is c.args.all.items c.of_one.result c.first_of.result c.of_one.ensures c.first_of.ensures

pub returns-in-ForEach : goal.returns-in-ForEach
returns-in-ForEach g c = gives_all c.args.kind c.in-ForEach.is c.args.all.items c.all_items.result c.all_items.ensures
