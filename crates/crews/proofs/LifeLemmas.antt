-- Turns one after the other.
use Rattle.std.proofs.Common.{◌≡◌, ◌≢◌, ◌==◌, if◌then◌else◌, ℕ, List, [], ◌∷◌, ◌++◌, Bool, true, false, refl, sym, ap, subst, ◌∙◌, append-nil, append_assoc, eq-eqb, ne_eqb}
use Rattle.bin_stripes.specs.Passes.{PassState}
use Rattle.client_protocol.specs.Frames.{Held}
use Rattle.redis_service.specs.Talks.{TalkState}
use Rattle.sessions.specs.Conversations.{Exchange, Converses}
use Rattle.crews.specs.Stations.{KeptTokens, Station}
use Rattle.crews.specs.Steps.{CrewServes}
use Rattle.crews.specs.Talks.{AnswersEach}
use Rattle.crews.specs.Lives.{Known, known, Moves, KeepsTokens, KeepsNumbers, Turn, exchanges_of}
use Rattle.crews.specs.Lives.Turn.{serves, sweeps}
use Rattle.crews.specs.Turns.{Leads}

pub moves_on : (a b c : Known) (xs ys : List Turn) → Moves a xs b → Moves b ys c → Moves a (xs ++ ys) c
moves_on a b c [] ys one more = subst (λ (k : Known). Moves k ys c) one more
moves_on a b c (serves client x ∷ xs) ys (begins, one) more = (begins, moves_on (known x.new) b c xs ys one more)
moves_on a b c (sweeps time pass ∷ xs) ys (swept, one) more = (swept, moves_on (record a { pass = pass }) b c xs ys one more)

pub tokens_go_on : (a b c : KeptTokens) (xs ys : List (Exchange Station)) → KeepsTokens a xs b → KeepsTokens b ys c → KeepsTokens a (xs ++ ys) c
tokens_go_on a b c [] ys one more = subst (λ (k : KeptTokens). KeepsTokens k ys c) one more
tokens_go_on a b c (x ∷ xs) ys (begins, one) more = (begins, tokens_go_on x.new.tokens b c xs ys one more)

pub converses_on : (a b c : Held) (xs ys : List (Exchange Station)) → Converses CrewServes a xs b → Converses CrewServes b ys c → Converses CrewServes a (xs ++ ys) c
converses_on a b c [] ys one more = subst (λ (k : Held). Converses CrewServes k ys c) one more
converses_on a b c (x ∷ xs) ys (mid, first, one) more = (mid, first, converses_on mid b c xs ys one more)

pub each_on : (a b c : TalkState) (xs ys : List (Exchange Station)) → AnswersEach a xs b → AnswersEach b ys c → AnswersEach a (xs ++ ys) c
each_on a b c [] ys one more = subst (λ (k : TalkState). AnswersEach k ys c) one more
each_on a b c (x ∷ xs) ys (mid, first, one) more = (mid, first, each_on mid b c xs ys one more)

pub numbers_stay : (a : Known) → KeepsNumbers a a
numbers_stay a = record { map_is = refl; pass = refl; team = refl; strict = refl }

pub numbers_go_on : (a b c : Known) → KeepsNumbers a b → KeepsNumbers b c → KeepsNumbers a c
numbers_go_on a b c one more = record { map_is = more.map_is ∙ one.map_is; pass = more.pass ∙ one.pass; team = more.team ∙ one.team; strict = more.strict ∙ one.strict }

pub known_same : (a b : Known) → a.pass ≡ b.pass → a.team ≡ b.team → a.is_strict ≡ b.is_strict → a ≡ b
known_same a b pass team strict = λ i. record { pass = pass i; team = team i; is_strict = strict i }

-- ---- the turns of one client

-- these exchanges are turns of this client
abbrev pub turns_of : ℕ → List (Exchange Station) → List Turn
turns_of client [] = []
turns_of client (x ∷ xs) = serves client x ∷ turns_of client xs

pub turns_lead : (old new : Known) (k : ℕ) (xs : List (Exchange Station)) → Leads old xs new → Moves old (turns_of k xs) new
turns_lead old new k [] leads = leads
turns_lead old new k (x ∷ xs) (begins, leads) = (begins, turns_lead (known x.new) new k xs leads)

pub exchanges_both : (client : ℕ) (xs ys : List Turn) → exchanges_of client (xs ++ ys) ≡ exchanges_of client xs ++ exchanges_of client ys
exchanges_both client [] ys = refl
exchanges_both client (serves other x ∷ xs) ys =
    let one = if other == client then x ∷ [] else [] in
    ap (λ (es : List (Exchange Station)). one ++ es) (exchanges_both client xs ys) ∙ sym (append_assoc one (exchanges_of client xs) (exchanges_of client ys))
exchanges_both client (sweeps time pass ∷ xs) ys = exchanges_both client xs ys

chosen : (b : Bool) (xs : List (Exchange Station)) → b ≡ true → (if b then xs else []) ≡ xs
chosen b xs is = rw is refl

not_chosen : (b : Bool) (xs : List (Exchange Station)) → b ≡ false → (if b then xs else []) ≡ []
not_chosen b xs is = rw is refl

own_turns : (client : ℕ) (xs : List (Exchange Station)) → exchanges_of client (turns_of client xs) ≡ xs
own_turns client [] = refl
own_turns client (x ∷ xs) =
    let here = chosen (client == client) (x ∷ []) (eq-eqb client client refl) in
    ap (λ (es : List (Exchange Station)). es ++ exchanges_of client (turns_of client xs)) here ∙ ap (λ (es : List (Exchange Station)). x ∷ es) (own_turns client xs)

other_turns : (client other : ℕ) (xs : List (Exchange Station)) → client ≢ other → exchanges_of other (turns_of client xs) ≡ []
other_turns client other [] differ = refl
other_turns client other (x ∷ xs) differ =
    let here = not_chosen (client == other) (x ∷ []) (ne_eqb client other differ) in
    ap (λ (es : List (Exchange Station)). es ++ exchanges_of other (turns_of client xs)) here ∙ other_turns client other xs differ

-- the client's exchanges are more by those
pub exchanges_grow : (client : ℕ) (turns : List Turn) (xs : List (Exchange Station)) → exchanges_of client (turns ++ turns_of client xs) ≡ exchanges_of client turns ++ xs
exchanges_grow client turns xs = exchanges_both client turns (turns_of client xs) ∙ ap (λ (es : List (Exchange Station)). exchanges_of client turns ++ es) (own_turns client xs)

-- another's stay
pub exchanges_stay : (client other : ℕ) (turns : List Turn) (xs : List (Exchange Station)) → client ≢ other → exchanges_of other (turns ++ turns_of client xs) ≡ exchanges_of other turns
exchanges_stay client other turns xs differ =
    exchanges_both other turns (turns_of client xs) ∙ ap (λ (es : List (Exchange Station)). exchanges_of other turns ++ es) (other_turns client other xs differ) ∙ append-nil (exchanges_of other turns)

-- a sweep is none of a client's
pub exchanges_swept : (client : ℕ) (turns : List Turn) (time : ℕ) (pass : PassState) → exchanges_of client (turns ++ sweeps time pass ∷ []) ≡ exchanges_of client turns
exchanges_swept client turns time pass = exchanges_both client turns (sweeps time pass ∷ []) ∙ append-nil (exchanges_of client turns)
