-- A walk keeps the numbers that the pass carries.
use Rattle.std.proofs.Common.{◌≡◌, ℕ, suc, List, [], ◌∷◌, Option, Some, None, inl, inr, ap, ◌∙◌}
use Rattle.bin_stripes.specs.Invoked.{CountsStripe}
use Rattle.bin_stripes.specs.Passes.{PassState}
use Rattle.key_walks.specs.Turns.{Chain, InTurn, FindsKeys, MayScan, Stops, StopsIn}
use Rattle.key_walks.specs.Expired.{FindsLive, MayScanLive, StopsLive}
use Rattle.key_walks.specs.Walks.{CountsAll, FindsAll, Removes, Clears, ClearsAll, Chooses}
use Rattle.key_walks.specs.Pages.{IsPage, Part, TakesLive}
use Rattle.key_walks.proofs.ExpiryLemmas.{expires_numbers}

abbrev pub Keeps : PassState → PassState → Type 0
Keeps old new = new.view.numbers ≡ old.view.numbers

may_keep : (p : PassState) (k : ℕ) (q : PassState) → MayScan p k q → Keeps p q
may_keep p k q (inl makes) = makes.numbers
may_keep p k q (inr (entries, scans)) = scans.numbers

may_keep_live : (now : ℕ) (p : PassState) (k : ℕ) (q : PassState) → MayScanLive now p k q → Keeps p q
may_keep_live now p k q may = may_keep may.between k q may.did ∙ expires_numbers now p k may.between may.expires

module _ {X : Type 0} where
  chain_keeps : (Did : PassState → X → PassState → Type 0) → ((p : PassState) (x : X) (q : PassState) → Did p x q → Keeps p q)
      → (old : PassState) (xs : List X) (new : PassState) → Chain Did old xs new → Keeps old new
  chain_keeps Did keeps old [] new same = ap (λ (p : PassState). p.view.numbers) same
  chain_keeps Did keeps old (x ∷ xs) new (between, (same, (did, later))) =
      chain_keeps Did keeps between xs new later ∙ keeps old x between did

  pub turns_keep : (Did : PassState → ℕ → X → PassState → Type 0) → ((p : PassState) (k : ℕ) (x : X) (q : PassState) → Did p k x q → Keeps p q)
      → (at : ℕ → ℕ) (old : PassState) (xs : List X) (new : PassState) → InTurn Did at old xs new → Keeps old new
  turns_keep Did keeps at old [] new same = ap (λ (p : PassState). p.view.numbers) same
  turns_keep Did keeps at old (x ∷ xs) new (between, (same, (did, later))) =
      turns_keep Did keeps (λ i. at (suc i)) between xs new later ∙ keeps old (at 0) x between did

  stops_keep : (Did : PassState → ℕ → X → PassState → Type 0) (Tried : PassState → ℕ → PassState → Type 0)
      → ((p : PassState) (k : ℕ) (x : X) (q : PassState) → Did p k x q → Keeps p q) → ((p : PassState) (k : ℕ) (q : PassState) → Tried p k q → Keeps p q)
      → (at : ℕ → ℕ) (old new : PassState) → StopsIn Did Tried at old new → Keeps old new
  stops_keep Did Tried keeps tries at old new stops =
      tries stops.between _ new stops.last ∙ turns_keep Did keeps at old stops.items stops.between stops.turns

counts : (p : PassState) (k count : ℕ) (q : PassState) → CountsStripe p k count q → Keeps p q
counts p k count q c = c.scans.numbers

finds : (p : PassState) (k : ℕ) (keys : List (List ℕ)) (q : PassState) → FindsKeys p k keys q → Keeps p q
finds p k keys q f = f.scans.numbers

finds_live : (now : ℕ) (p : PassState) (k : ℕ) (keys : List (List ℕ)) (q : PassState) → FindsLive now p k keys q → Keeps p q
finds_live now p k keys q f = finds f.between k keys q f.did ∙ expires_numbers now p k f.between f.expires

takes_live : (now most : ℕ) (p : PassState) (k : ℕ) (part : Part) (q : PassState) → TakesLive now most p k part q → Keeps p q
takes_live now most p k part q takes = takes.did.scans.numbers ∙ expires_numbers now p k takes.between takes.expires

removes : (p : PassState) (key : List ℕ) (q : PassState) → Removes p key q → Keeps p q
removes p key q (reply, calls) = calls.numbers

clears : (p : PassState) (k : ℕ) (keys : List (List ℕ)) (q : PassState) → Clears p k keys q → Keeps p q
clears p k keys q c = chain_keeps Removes removes c.between keys q c.removes ∙ finds p k keys c.between c.finds

pub count_keeps : (old new : PassState) (count : ℕ) → CountsAll old count new → Keeps old new
count_keeps old new count c = turns_keep CountsStripe counts _ old c.counts new c.turns

pub clear_keeps : (old new : PassState) → ClearsAll old new → Keeps old new
clear_keeps old new c = turns_keep Clears clears _ old c.lists new c.turns

pub clear_stops : (old new : PassState) (at : ℕ → ℕ) → Stops Clears at old new → Keeps old new
clear_stops old new at stops = stops_keep Clears MayScan clears may_keep at old new stops

pub find_keeps : (now : ℕ) (old new : PassState) (keys : List (List ℕ)) → FindsAll now old keys new → Keeps old new
find_keeps now old new keys f = turns_keep (FindsLive now) (finds_live now) _ old f.lists new f.turns

pub find_stops : (now : ℕ) (old new : PassState) (at : ℕ → ℕ) → StopsLive now (FindsLive now) at old new → Keeps old new
find_stops now old new at stops = stops_keep (FindsLive now) (MayScanLive now) (finds_live now) (may_keep_live now) at old new stops

pub page_keeps : (now : ℕ) (old new : PassState) (cursor most next : ℕ) (keys : List (List ℕ)) → IsPage now old cursor most keys next new → Keeps old new
page_keeps now old new cursor most next keys page = turns_keep (TakesLive now _) (takes_live now _) _ old page.parts new page.turns

pub page_stops : (now : ℕ) (old new : PassState) (most : ℕ) (at : ℕ → ℕ) → StopsLive now (TakesLive now most) at old new → Keeps old new
page_stops now old new most at stops = stops_keep (TakesLive now most) (MayScanLive now) (takes_live now most) (may_keep_live now) at old new stops

pub choice_keeps : (now : ℕ) (old new : PassState) (number : ℕ) (choice : Option (List ℕ)) → Chooses now number old choice new → Keeps old new
choice_keeps now old new number None c =
    ap (λ (p : PassState). p.view.numbers) c.choice_is.1 ∙ turns_keep (FindsLive now) (finds_live now) _ old c.lists c.between c.turns
choice_keeps now old new number (Some key) c =
    let (few, (keys, (found, has))) = c.choice_is in
    finds_live now c.between _ keys new found ∙ turns_keep (FindsLive now) (finds_live now) _ old c.lists c.between c.turns
