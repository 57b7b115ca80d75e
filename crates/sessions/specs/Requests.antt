-- The answers to one client, over a table and the programs that it registered. The methods are those of Java SE 17's
-- ConcurrentMap; numbers and refusals are this map's profile.
use Rattle.std.specs.Prelude.{◌≡◌, ◌⊎◌, ℕ, List, [], ◌∷◌, ◌++◌, length, slice_get, Option}
use Rattle.std.specs.FinMap as map
use Rattle.bpf_model.specs.declared.input.Sizes.{Sizes}
use Rattle.verifier.specs.Checked.{Checked}
use Rattle.bins.specs.Table.{Entry}
use Rattle.bins.specs.Replacements.{ReplacesEach}
use Rattle.bins.specs.declared.counts.Counts.{Counts}
use Rattle.atomic_methods.specs.Invocations.{Invocation}
use Rattle.atomic_methods.specs.Methods.{Answers, WouldAdd}
use Rattle.atomic_methods.specs.declared.reply.Reply.{Reply}
use Rattle.atomic_methods.specs.Replies.{IsReply, IsCount}
use Rattle.atomic_methods.specs.declared.walk_reply.WalkReply.{WalkReply}
use Rattle.client_protocol.specs.declared.limits.Version.{Version}
use Rattle.client_protocol.specs.Requests.{Request}
use Rattle.client_protocol.specs.declared.response.Response.{Response}
use Rattle.client_protocol.specs.declared.response.Response.TheVariants as tell
use Rattle.sessions.specs.Asking.{Asked, asked, greeting, registration, call, walk, replacement, count, unknown, response_to, Admits, RefusesProgram, AnswersOnce, TellsNoMemory}
use Rattle.sessions.specs.Answering.{end_of, walk_responses}
use Rattle.sessions.specs.declared.alone.Alone.{Alone}

-- an empty table and no program
pub record IsNew (alone : Alone) : Type 0 where
  pub table : alone.table ≡ map.empty
  pub programs : alone.programs ≡ []

-- the program gets the next number and is kept, or the first step that refuses it gives the refusal
abbrev pub AnswersRegister : Option Version → Alone → Sizes → List ℕ → List Response → Alone → Type 0
AnswersRegister hello old sizes bytes responses new =
    ((program : Checked) × Admits hello sizes bytes program × (responses ≡ tell.Registered (length old.programs) ∷ [])
    × (new.programs ≡ old.programs ++ program ∷ []) × (new.table ≡ old.table))
    ⊎ (((response : Response) × RefusesProgram hello sizes bytes response × AnswersOnce old response responses new)
    ⊎ TellsNoMemory old responses new)

-- the call is made; only one that would add its key may be refused memory
abbrev pub AnswersCall : Alone → Invocation → List Response → Alone → Type 0
AnswersCall old invocation responses new =
    ((reply : Reply) × Answers old.table invocation new.table reply × (new.programs ≡ old.programs)
    × (responses ≡ response_to reply ∷ []))
    ⊎ (WouldAdd old.table invocation × TellsNoMemory old responses new)

-- the walk is made over all entries, in key order; it changes nothing
abbrev pub AnswersWalk : Alone → (List Entry → WalkReply → Type 0) → List Response → Alone → Type 0
AnswersWalk old Replies responses new =
    ((reply : WalkReply) × Replies (map.entries old.table) reply × (responses ≡ walk_responses reply) × (new ≡ old))
    ⊎ TellsNoMemory old responses new

-- the value of each key is replaced once; no memory is asked for
abbrev pub AnswersReplaceAll : Alone → Checked → Option (List ℕ) → List Response → Alone → Type 0
AnswersReplaceAll old program arg responses new =
    (counts : Counts) × ReplacesEach program arg old.table new.table counts × (new.programs ≡ old.programs)
    × (responses ≡ end_of counts ∷ [])

abbrev pub Meets : Option Version → Alone → Asked → List Response → Alone → Type 0
Meets hello old (greeting version) responses new = AnswersOnce old (tell.Hello version) responses new
Meets hello old (registration sizes bytes) responses new = AnswersRegister hello old sizes bytes responses new
Meets hello old (call invocation) responses new = AnswersCall old invocation responses new
Meets hello old (walk kind program arg) responses new = AnswersWalk old (λ entries reply. IsReply kind program arg entries reply) responses new
Meets hello old (replacement program arg) responses new = AnswersReplaceAll old program arg responses new
Meets hello old count responses new = AnswersWalk old (λ entries reply. IsCount (length entries) reply) responses new
Meets hello old unknown responses new = AnswersOnce old (tell.Refused 66 0) responses new

-- a request after this Hello is answered by these responses and leaves the last state; the first program registered has
-- the number 0, the next 1
abbrev pub Serves : Option Version → Alone → Request → List Response → Alone → Type 0
Serves hello old request responses new = Meets hello old (asked (λ number. slice_get old.programs number) request) responses new
