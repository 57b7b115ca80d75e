-- What a connection takes of the bytes owed to it.
use Rattle.std.proofs.Common.{◌≡◌, ℕ, ◌+◌, List, [], ◌++◌, take, drop, refl, sym, ap, ◌∙◌, append_assoc, take-append-drop}
use Rattle.std.proofs.lemmas.List.{drop-drop}
use Rattle.std.proofs.KnownBytes.{Appends-nil, Appends-trans, Keeps-refl, Keeps-trans}
use Rattle.devices.specs.Channels.{ChannelState, TakesOwed}

-- n more bytes are taken
pub parts_at : (bytes : List ℕ) (taken n : ℕ) → drop taken bytes ≡ take n (drop taken bytes) ++ drop (taken + n) bytes
parts_at bytes taken n = sym (take-append-drop n (drop taken bytes)) ∙ ap (λ t. take n (drop taken bytes) ++ t) (drop-drop n taken bytes)

-- none was
pub takes_none : (a : ChannelState) (o : List ℕ) → TakesOwed a a o o
takes_none a o = record { front = []; parts = refl; taken = Appends-nil a.held; unread = Keeps-refl a.left }

-- some were, and then more
pub takes_both : (a b c : ChannelState) (o p q : List ℕ) → TakesOwed a b o p → TakesOwed b c p q → TakesOwed a c o q
takes_both a b c o p q one more = record {
  front = one.front ++ more.front;
  parts = one.parts ∙ ap (λ t. one.front ++ t) more.parts ∙ sym (append_assoc one.front more.front q);
  taken = Appends-trans a.held b.held c.held one.front more.front one.taken more.taken;
  unread = Keeps-trans a.left b.left c.left one.unread more.unread;
}
