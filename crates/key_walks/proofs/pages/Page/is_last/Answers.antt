use Rattle.key_walks.proofs.IterationLemmas.{all_shown}
use Rattle.key_walks.proofs.pages.Page.is_last.Goals as goal

pub returns-clause-whole : goal.returns-clause-whole
returns-clause-whole c stripes k key pages is inside = all_shown stripes k key pages is inside
