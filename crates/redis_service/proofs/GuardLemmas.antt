-- A command of a client that isn't authenticated calls nothing, and lets it in only by the right password.
use Rattle.std.proofs.Common.{◌≡◌, ℕ, inl, inr, List, Bool, true, false, ◌||◌, Option, Some, None, is_none, Result, Ok, refl, sym, ap, ◌∙◌, if◌then◌else◌}
use Rattle.std.proofs.lemmas.Slice.Eq.{bytes_eq-Decides}
use Rattle.bin_stripes.specs.Passes.{PassState}
use Rattle.redis_commands.specs.Commands.{Asked, ConnectionAsked, Fault}
use Rattle.redis_commands.specs.Commands.Asked.{OnKey, OnKeys, SetEach, Walk, Connection, Server, Program}
use Rattle.redis_commands.specs.Commands.ConnectionAsked.{Ping, Echo, Quit, Select, Hello, Auth, AuthDefault, ClientId, ClientName, SetClientName, SetClientInfo, Commands, CommandCount, CommandDocs, Config, Reset}
use Rattle.redis_commands.specs.Limits.{IsOfConnection}
use Rattle.redis_service.specs.declared.talk.Showing.{Showing}
use Rattle.redis_service.specs.declared.talk.Showing.TheVariants.{Right, Wrong, Missing}
use Rattle.redis_service.specs.States.{TalkState, is_authenticated, is_right, showing, reset, let_in}
use Rattle.redis_service.specs.Connections.{AnswersConnection, AnswersHello, Greets, LetsIn, LetsInBy, Renames}
use Rattle.redis_service.specs.Commands.{AnswersCommand, Guards, shown_by}

-- no call was made, and who is authenticated now has shown the password
abbrev Kept : TalkState → PassState → Option (List ℕ) → TalkState → PassState → Type 0
Kept talk old shown next new = (new ≡ old) × (is_authenticated next ≡ true → shown ≡ talk.password)

clash : (b : Bool) → b ≡ false → b ≡ true → ⊥
clash true shut opened = cc
clash false shut opened = cc

-- the talk stays as it is, as far as this counts
stays : (talk next same : TalkState) (old new : PassState) (shown : Option (List ℕ)) → is_authenticated same ≡ false → next ≡ same → new ≡ old
    → Kept talk old shown next new
stays talk next same old new shown shut is kept = (kept, λ opened. absurd (clash (is_authenticated same) shut (sym (ap is_authenticated is) ∙ opened)))

-- ---- what is shown

right_is : (p : Option (List ℕ)) (b : Bool) (s : List ℕ) → (is_none p || b) ≡ false → is_right p s ≡ true → Some s ≡ p
right_is None b s shut is = absurd cc
right_is (Some password) b s shut is = ap Some (sym ((bytes_eq-Decides password s).0 is))

missing : (b : Bool) → b ≡ false → (if b then Right else Missing) ≡ Right → ⊥
missing true shut is = cc
missing false shut is = cc

is_true : (b : Bool) → (if b then Right else Wrong) ≡ Right → b ≡ true
is_true true is = refl
is_true false is = absurd cc

right_shown : (talk : TalkState) (shown : Option (List ℕ)) → is_authenticated talk ≡ false → showing talk shown ≡ Right → shown ≡ talk.password
right_shown talk None shut is = absurd (missing (is_authenticated talk) shut is)
right_shown talk (Some s) shut is = right_is talk.password talk.is_let_in s shut (is_true (is_right talk.password s) is)

-- ---- commands of the connection

welcomed : (talk next : TalkState) (old new : PassState) (name : Option (List ℕ)) (written : List ℕ)
    → Greets talk old name written next new → new ≡ old
welcomed talk next old new None written (is, same, kept) = kept
welcomed talk next old new (Some name) written (either, kept) = kept

hello_keeps : (s : Showing) (talk next : TalkState) (old new : PassState) (shown name : Option (List ℕ)) (written : List ℕ)
    → is_authenticated talk ≡ false → showing talk shown ≡ s → AnswersHello s talk old name written next new → Kept talk old shown next new
hello_keeps Right talk next old new shown name written shut is greets =
    (welcomed (let_in talk) next old new name written greets, λ opened. right_shown talk shown shut is)
hello_keeps Wrong talk next old new shown name written shut is (said, same, kept) = stays talk next talk old new shown shut same kept
hello_keeps Missing talk next old new shown name written shut is (said, same, kept) = stays talk next talk old new shown shut same kept

auth_keeps : (s : Showing) (talk next : TalkState) (old new : PassState) (shown written : List ℕ)
    → is_authenticated talk ≡ false → showing talk (Some shown) ≡ s → LetsIn s talk old written next new → Kept talk old (Some shown) next new
auth_keeps Right talk next old new shown written shut is (said, same, kept) = (kept, λ opened. right_shown talk (Some shown) shut is)
auth_keeps Wrong talk next old new shown written shut is (said, same, kept) = stays talk next talk old new (Some shown) shut same kept
auth_keeps Missing talk next old new shown written shut is (said, same, kept) = stays talk next talk old new (Some shown) shut same kept

alone_keeps : (p : Option (List ℕ)) (talk next : TalkState) (old new : PassState) (shown written : List ℕ)
    → is_authenticated talk ≡ false → LetsInBy p talk old shown written next new → Kept talk old (Some shown) next new
alone_keeps None talk next old new shown written shut (said, same, kept) = stays talk next talk old new (Some shown) shut same kept
alone_keeps (Some p) talk next old new shown written shut lets = auth_keeps (showing talk (Some shown)) talk next old new shown written shut refl lets

still_locked : (p : Option (List ℕ)) (b : Bool) → (is_none p || b) ≡ false → (is_none p || false) ≡ false
still_locked None b shut = absurd cc
still_locked (Some p) b shut = refl

renames_keep : (talk next : TalkState) (old new : PassState) (name text written : List ℕ)
    → is_authenticated talk ≡ false → Renames talk old name text written next new → Kept talk old None next new
renames_keep talk next old new name text written shut (inl (said, same), kept) = stays talk next (record talk { name = name }) old new None shut same kept
renames_keep talk next old new name text written shut (inr (said, same), kept) = stays talk next talk old new None shut same kept

connection_keeps : (talk next : TalkState) (old new : PassState) (asked : ConnectionAsked) (written : List ℕ)
    → is_authenticated talk ≡ false → AnswersConnection talk old asked written next new → Kept talk old (shown_by (Ok (Connection asked))) next new
connection_keeps talk next old new (Ping text) written shut (said, same, kept) = stays talk next talk old new None shut same kept
connection_keeps talk next old new (Echo text) written shut (said, same, kept) = stays talk next talk old new None shut same kept
connection_keeps talk next old new Quit written shut (said, same, kept) = stays talk next (record talk { is_over = true }) old new None shut same kept
connection_keeps talk next old new Select written shut (said, same, kept) = stays talk next talk old new None shut same kept
connection_keeps talk next old new (Hello shown name) written shut answers =
    hello_keeps (showing talk shown) talk next old new shown name written shut refl answers
connection_keeps talk next old new (Auth shown) written shut answers = alone_keeps talk.password talk next old new shown written shut answers
connection_keeps talk next old new (AuthDefault shown) written shut answers =
    auth_keeps (showing talk (Some shown)) talk next old new shown written shut refl answers
connection_keeps talk next old new ClientId written shut (said, same, kept) = stays talk next talk old new None shut same kept
connection_keeps talk next old new ClientName written shut (said, same, kept) = stays talk next talk old new None shut same kept
connection_keeps talk next old new (SetClientName name) written shut renames = renames_keep talk next old new name _ written shut renames
connection_keeps talk next old new (SetClientInfo attribute value) written shut (said, same, kept) = stays talk next talk old new None shut same kept
connection_keeps talk next old new Commands written shut (said, same, kept) = stays talk next talk old new None shut same kept
connection_keeps talk next old new CommandCount written shut (said, same, kept) = stays talk next talk old new None shut same kept
connection_keeps talk next old new CommandDocs written shut (said, same, kept) = stays talk next talk old new None shut same kept
connection_keeps talk next old new (Config words) written shut (least, (said, same, kept)) = stays talk next talk old new None shut same kept
connection_keeps talk next old new Reset written shut (said, same, kept) =
    stays talk next (reset talk) old new None (still_locked talk.password talk.is_let_in shut) same kept

-- ---- all commands

pub command_guards : (now : ℕ) (talk next : TalkState) (old new : PassState) (asked : Asked) (written : List ℕ)
    → (is_authenticated talk ≡ false → IsOfConnection asked) → AnswersCommand now talk old asked written next new → Guards talk old (Ok asked) next new
command_guards now talk next old new (Connection asked) written only answers shut = connection_keeps talk next old new asked written shut answers
command_guards now talk next old new (OnKey key act) written only answers shut = absurd (only shut)
command_guards now talk next old new (OnKeys keys act) written only answers shut = absurd (only shut)
command_guards now talk next old new (SetEach words) written only answers shut = absurd (only shut)
command_guards now talk next old new (Walk asked) written only answers shut = absurd (only shut)
command_guards now talk next old new (Server asked) written only answers shut = absurd (only shut)
command_guards now talk next old new (Program asked) written only answers shut = absurd (only shut)

-- what was refused calls nothing, and lets nobody in
pub refused_guards : (talk next : TalkState) (old : PassState) (read : Result Asked Fault) → is_authenticated next ≡ is_authenticated talk
    → Guards talk old read next old
refused_guards talk next old read is shut = (refl, λ opened. absurd (clash (is_authenticated talk) shut (sym is ∙ opened)))
