-- Lists of clients, line by line.
use Rattle.std.proofs.Common.{◌≡◌, ℕ, List, [], ◌∷◌, ◌++◌, flat_map, IfOk, Result, Ok, Err, refl, sym, ap, ◌∙◌, inl, inr, append_assoc}
use Rattle.std.specs.Global.{Vec}
use Rattle.std.proofs.lemmas.List.{append-nil}
use Rattle.std.proofs.lemmas.List.Concat.{flat_map-append}
use Rattle.bpf_model.specs.declared.memory.NoMemory.{NoMemory}
use Rattle.server_state.specs.declared.clients.ClientView.{ClientView}
use Rattle.redis_service.specs.Clients.{Listed, AreMeant, AreLines, Lists, SaysLines, addresses, name_part, times, command_part, version_part, library, client_line}

pub nobody : (Meant : Listed → Type 0) (now : ℕ) → AreLines Meant now []
nobody Meant now = ([], refl, tt)

meant_more : (Meant : Listed → Type 0) (all : List Listed) (one : Listed) → AreMeant Meant all → Meant one → AreMeant Meant (all ++ one ∷ [])
meant_more Meant [] one all is = (is, tt)
meant_more Meant (l ∷ ls) one (first, rest) is = (first, meant_more Meant ls one rest is)

one_more : (Meant : Listed → Type 0) (now : ℕ) (old new : List ℕ) (one : Listed) → AreLines Meant now old → Meant one
    → new ≡ old ++ client_line now one → AreLines Meant now new
one_more Meant now old new one (all, text, meant) is e = (
  all ++ one ∷ [],
  e ∙ ap (λ (t : List ℕ). t ++ client_line now one) text
      ∙ ap (λ (t : List ℕ). flat_map (client_line now) all ++ t) (sym (append-nil (client_line now one)))
      ∙ sym (flat_map-append (client_line now) all (one ∷ [])),
  meant_more Meant all one meant is,
)

-- a line was added, whatever the last command was
pub after_line : (Meant : Listed → Type 0) (now : ℕ) (old new : List ℕ) (client : ClientView) (name : List ℕ) (r : Result (Unit {0}) NoMemory)
    → AreLines Meant now old → ((command : List ℕ) → Meant (record { client = client; name = name; command = command }))
    → IfOk r (λ _. (command : List ℕ) × (new ≡ old ++ client_line now (record { client = client; name = name; command = command })))
    → IfOk r (λ _. AreLines Meant now new)
after_line Meant now old new client name (Ok _) lines is (command, e) =
    one_more Meant now old new (record { client = client; name = name; command = command }) lines (is command) e
after_line Meant now old new client name (Err _) lines is e = tt

next : (text t u a b : List ℕ) → t ≡ text ++ a → u ≡ t ++ b → u ≡ text ++ (a ++ b)
next text t u a b e f = f ∙ ap (λ (x : List ℕ). x ++ b) e ∙ append_assoc text a b

-- two parts were added one after the other
pub two_added : (r : Result (Unit {0}) NoMemory) (text t u a b : List ℕ) → t ≡ text ++ a → IfOk r (λ _. u ≡ t ++ b) → IfOk r (λ _. u ≡ text ++ (a ++ b))
two_added (Ok _) text t u a b e f = next text t u a b e f
two_added (Err _) text t u a b e f = tt

-- the parts of a line were added one after the other
pub line_added : (r : Result (Unit {0}) NoMemory) (now : ℕ) (l : Listed) (text t1 t2 t3 t4 t5 t6 : List ℕ)
    → t1 ≡ text ++ addresses l → t2 ≡ t1 ++ name_part l → t3 ≡ t2 ++ times now l → t4 ≡ t3 ++ command_part l → t5 ≡ t4 ++ version_part l
    → IfOk r (λ _. t6 ≡ t5 ++ library l)
    → IfOk r (λ _. (command : List ℕ) × (t6 ≡ text ++ client_line now (record { client = l.client; name = l.name; command = command })))
line_added (Ok _) now l text t1 t2 t3 t4 t5 t6 e1 e2 e3 e4 e5 e6 =
    let s2 = next text t1 t2 (addresses l) (name_part l) e1 e2 in
    let s3 = next text t2 t3 (addresses l ++ name_part l) (times now l) s2 e3 in
    let s4 = next text t3 t4 (addresses l ++ name_part l ++ times now l) (command_part l) s3 e4 in
    let s5 = next text t4 t5 (addresses l ++ name_part l ++ times now l ++ command_part l) (version_part l) s4 e5 in
    (l.command, next text t5 t6 (addresses l ++ name_part l ++ times now l ++ command_part l ++ version_part l) (library l) s5 e6)
line_added (Err _) now l text t1 t2 t3 t4 t5 t6 e1 e2 e3 e4 e5 e6 = tt

-- what was said of lines that were made
pub lists_of : (Meant : Listed → Type 0) (now : ℕ) (lines : Result (Vec ℕ) NoMemory) (written : List ℕ)
    → IfOk lines (λ text. AreLines Meant now text.items) → SaysLines lines written → Lists Meant written
lists_of Meant now (Ok text) written lines says = (now, text.items, lines, inl says)
lists_of Meant now (Err _) written lines says = (now, [], nobody Meant now, inr says)
