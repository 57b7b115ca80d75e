-- How a session goes on and ends.
use Rattle.std.proofs.Common.{◌≡◌, ◌≢◌, ℕ, ◌≤◌, ◌⊎◌, inl, inr, true, false, List, [], ◌∷◌, ◌++◌, length, take, Option, Some, None, refl, sym, ap, subst, append-nil}
use Rattle.std.proofs.KnownBytes.{Appends-trans, Consumes-trans}
use Rattle.std.specs.Io.KnownBytes.{Appends, Consumes}
use Rattle.client_protocol.specs.declared.limits.Version.{Version}
use Rattle.client_protocol.specs.Requests.{Request}
use Rattle.client_protocol.specs.declared.fault.ProtocolFault.{ProtocolFault}
use Rattle.client_protocol.specs.declared.response.Response.{Response}
use Rattle.client_protocol.specs.Frames.{Held, held_fault, is_inside}
use Rattle.client_protocol.specs.Frames.Held.{open_at, failed}
use Rattle.client_protocol.specs.Faults.{protocol_fault_number}
use Rattle.sessions.specs.declared.session.SessionEnd.{SessionEnd}
use Rattle.sessions.specs.declared.session.SessionEnd.TheVariants.{Closed, Cut, Refused, ReadFailed, WriteFailed, NoMemory}
use Rattle.devices.specs.Devices.{SinkState, TakesBytes, TakesFront}
use Rattle.sessions.specs.Conversations.{BreaksPiece}
use Rattle.sessions.specs.Sessions.{refusal, AllAnswered, RunsOut, Owes, Ended}
use Rattle.sessions.proofs.AnsweringLemmas.{answered_none}
use Rattle.sessions.proofs.ConversationLemmas.{frames_begin, pieces_broken}

module _ {S : Type 0} (Answers : Option Version → S → Request → List Response → S → Type 0) where
  pub begins : (old : S) → AllAnswered Answers old [] (open_at None []) [] old
  begins old = ([], frames_begin, answered_none Answers None old)

  pub open_held : (held : Held) → held_fault held ≡ None → (hello : Option Version) × (rest : List ℕ) × (held ≡ open_at hello rest)
  open_held (open_at hello rest) e = (hello, rest, refl)
  open_held (failed fault) e = absurd cc

  pub failed_held : (held : Held) (fault : ProtocolFault) → held_fault held ≡ Some fault → held ≡ failed fault
  failed_held (open_at hello rest) fault e = absurd cc
  failed_held (failed other) fault e = cc

  not_nil : (b : ℕ) (rest : List ℕ) → b ∷ rest ≢ []
  not_nil b rest e = absurd cc

  pub closed_end : (old new : S) (held : Held) (read : List ℕ) (last : ℕ) (written : List ℕ) → held_fault held ≡ None → is_inside held ≡ false → AllAnswered Answers old read held written new → Ended Answers old Closed read last written new
  closed_end old new (open_at hello []) read last written e f all = (hello, all)
  closed_end old new (open_at hello (b ∷ rest)) read last written e f all = absurd cc
  closed_end old new (failed fault) read last written e f all = absurd cc

  pub cut_end : (old new : S) (held : Held) (read : List ℕ) (last : ℕ) (written : List ℕ) → is_inside held ≡ true → AllAnswered Answers old read held written new → Ended Answers old Cut read last written new
  cut_end old new (open_at hello []) read last written f all = absurd cc
  cut_end old new (open_at hello (b ∷ rest)) read last written f all = (hello, b ∷ rest, not_nil b rest, all)
  cut_end old new (failed fault) read last written f all = absurd cc

  pub read_failed_end : (old new : S) (held : Held) (read : List ℕ) (last : ℕ) (written : List ℕ) → held_fault held ≡ None → AllAnswered Answers old read held written new → Ended Answers old ReadFailed read last written new
  read_failed_end old new (open_at hello rest) read last written e all = (hello, rest, all)
  read_failed_end old new (failed fault) read last written e all = absurd cc

  -- the answers were written but not passed on
  pub flush_failed_end : (old new : S) (held : Held) (read : List ℕ) (last : ℕ) (written : List ℕ) → held_fault held ≡ None → AllAnswered Answers old read held written new → Ended Answers old WriteFailed read last written new
  flush_failed_end old new (open_at hello rest) read last written e all = inr (inr (hello, rest, all))
  flush_failed_end old new (failed fault) read last written e all = absurd cc

  -- the end was told, and no byte came with it
  pub nothing_came : (a b c : Option (List ℕ)) (read buffer : List ℕ) (n : ℕ) → Consumes a b read → Consumes b c (take n buffer) → n ≡ 0 → Consumes a c read
  nothing_came a b c read buffer n first later none =
      let empty : take n buffer ≡ [] = ap (λ (k : ℕ). take k buffer) none in
      subst (λ (t : List ℕ). Consumes a c t) (append-nil read) (Consumes-trans a b c read [] first (subst (λ (t : List ℕ). Consumes b c t) empty later))

  -- the answers to a piece break off
  pub write_failed_end : (old mid new : S) (held next : Held) (read piece : List ℕ) (last : ℕ) (before part : List ℕ) → AllAnswered Answers old read held before mid
      → BreaksPiece Answers held mid piece part next new → Ended Answers old WriteFailed (read ++ piece) last (before ++ part) new
  write_failed_end old mid new held next read piece last before part all breaks =
      let (requests, frames, broken) = pieces_broken Answers (open_at None []) held next old mid new read piece before part all breaks in
      inl (requests, next, frames, broken)

  -- a refusal is sent, or a front of it
  pub refusal_ends : (old new : S) (end result : SessionEnd) (number : ℕ) (a b c : SinkState) (read : List ℕ) (last : ℕ) (before : List ℕ)
      → (result ≡ end) ⊎ (result ≡ WriteFailed) → (result ≡ end → TakesBytes b c (refusal number)) → (result ≡ WriteFailed → TakesFront b c (refusal number))
      → Appends a.held b.held before → Owes Answers old read last number before new → Ended Answers old end read last (before ++ refusal number) new
      → (w : List ℕ) × (Appends a.held c.held w × Ended Answers old result read last w new)
  refusal_ends old new end result number a b c read last before (inl is) whole front taken owes ended =
      (before ++ refusal number, (Appends-trans a.held b.held c.held before (refusal number) taken (whole is).0, subst (λ (e : SessionEnd). Ended Answers old e read last (before ++ refusal number) new) (sym is) ended))
  refusal_ends old new end result number a b c read last before (inr is) whole front taken owes ended =
      let (part, (rest, more, parts), count) = front is in
      (before ++ part, (Appends-trans a.held b.held c.held before part taken more, subst (λ (e : SessionEnd). Ended Answers old e read last (before ++ part) new) (sym is) (inr (inl (number, before, part, owes, (rest, parts), refl)))))

  -- memory for the piece was refused, and nothing changed by that
  pub memory_ends : (old mid new : S) (result : SessionEnd) (a m b c : SinkState) (held : Held) (read piece : List ℕ) (last : ℕ) (before : List ℕ) → length piece ≡ last → 1 ≤ last
      → (result ≡ NoMemory) ⊎ (result ≡ WriteFailed) → (result ≡ NoMemory → TakesBytes b c (refusal 9)) → (result ≡ WriteFailed → TakesFront b c (refusal 9))
      → new ≡ mid → b ≡ m → Appends a.held m.held before → held_fault held ≡ None → AllAnswered Answers old read held before mid
      → (w : List ℕ) × (Appends a.held c.held w × Ended Answers old result (read ++ piece) last w new)
  memory_ends old mid new result a m b c (open_at hello rest) read piece last before long some either whole front still unwritten taken e all =
      let out : RunsOut Answers old (read ++ piece) last before new =
      (read, (piece, refl, long, some), hello, rest, subst (λ (s : S). AllAnswered Answers old read (open_at hello rest) before s) (sym still) all) in
      refusal_ends old new NoMemory result 9 a b c (read ++ piece) last before either whole front
      (subst (λ (s : SinkState). Appends a.held s.held before) (sym unwritten) taken) (inr (refl, out)) (before, out, refl)
  memory_ends old mid new result a m b c (failed fault) read piece last before long some either whole front still unwritten taken e all = absurd cc

  pub fault_ends : (old new : S) (result : SessionEnd) (fault : ProtocolFault) (number : ℕ) (a b c : SinkState) (held : Held) (read : List ℕ) (last : ℕ) (before : List ℕ) → number ≡ protocol_fault_number fault
      → (result ≡ Refused fault) ⊎ (result ≡ WriteFailed) → (result ≡ Refused fault → TakesBytes b c (refusal number)) → (result ≡ WriteFailed → TakesFront b c (refusal number))
      → Appends a.held b.held before → held_fault held ≡ Some fault → AllAnswered Answers old read held before new
      → (w : List ℕ) × (Appends a.held c.held w × Ended Answers old result read last w new)
  fault_ends old new result fault number a b c held read last before number-is either whole front taken e all =
      let all2 = subst (λ (h : Held). AllAnswered Answers old read h before new) (failed_held held fault e) all in
      refusal_ends old new (Refused fault) result number a b c read last before either whole front taken
      (inl (fault, number-is, all2)) (before, all2, ap (λ (n : ℕ). before ++ refusal n) number-is)
