-- What `mapd` prints, put together of what each step prints; and that its passes suffice.
use Rattle.std.proofs.Common.{◌≡◌, ◌∙◌, ◌+◌, ◌*◌, ◌-◌, ◌<◌, ◌≤◌, ◌++◌, ℕ, zero, suc, List, length, arith, [], Option, Some, None, refl, sym, ap, inl, inr}
use Rattle.std.specs.Prelude.{String, is_some}
use Rattle.std.specs.Io.KnownBytes.{Appends}
use Rattle.std.proofs.lemmas.List.{append_assoc, length-map}
use Rattle.std.proofs.lemmas.Nat.{row_fits}
use Rattle.atomic_table.specs.Seated.{TableId}
use Rattle.stripe_rule.specs.Rule.{from_on}
use Rattle.bin_stripes.specs.Passes.{PassState}
use Rattle.bin_stripes.specs.Opened.{IsOpened, pass_of}
use Rattle.devices.specs.Devices.{SinkState}
use Rattle.mio.specs.declared.net.listener.TcpListener.{TcpListener}
use Rattle.map_server.specs.declared.serving.Served.{Served}
use Rattle.map_server.specs.Servers.{IsBoundTo}
use Rattle.map_server.specs.ServerRuns.{EndsServing, PrintsAll}

-- ---- what is printed

appends_both : (a b c : Option (List ℕ)) (s t : List ℕ) → Appends a b s → Appends b c t → Appends a c (s ++ t)
appends_both None b c s t h k = tt
appends_both (Some x) None c s t h k = absurd h
appends_both (Some x) (Some y) None s t h k = absurd k
appends_both (Some x) (Some y) (Some z) s t h k = k ∙ (ap (λ (l : List ℕ). l ++ t) h ∙ append_assoc x s t)

-- after what was printed before comes how serving ends
pub serving_after : (served : Served) (old mid new : SinkState) (before : List ℕ) (status : ℕ) → PrintsAll old mid before → EndsServing served mid new [] status
    → EndsServing served old new before status
serving_after served old mid new before status sends ends = elim ends [
  | inl done ↦ inl (done.0, done.1, ((appends_both old.held mid.held new.held before done.0 sends.0.0 done.2.0.0, done.2.0.1 ∙ sends.0.1), done.2.1))
  | inr failed ↦
      let front = failed.1.3 in
      inr (failed.0, (failed.1.0, failed.1.1, failed.1.2, (before ++ front.0, (front.1.0, appends_both old.held mid.held new.held before front.0 sends.0.0 front.1.1, ap (λ (l : List ℕ). before ++ l) front.1.2 ∙ sym (append_assoc before front.0 front.1.0)), front.2 ∙ ap (λ (n : ℕ). n + 1) sends.0.1)))
]

-- ---- ports

-- there is a listener exactly if there is an address
pub has_listener : {A : Type 0} (bound : TcpListener → List ℕ → Type 0) (address : Option (String A)) (listener : Option TcpListener)
    → IsBoundTo bound address listener → is_some listener ≡ is_some address
has_listener bound None None is = refl
has_listener bound None (Some listener) is = absurd is
has_listener bound (Some address) None is = absurd is
has_listener bound (Some address) (Some listener) is = refl

-- ---- passes

from_on_length : (first count : ℕ) → length (from_on first count) ≡ count
from_on_length first zero = refl
from_on_length first (suc count) = ap suc (from_on_length (first + 1) count)

count_all : (stripes passes : ℕ) (id : TableId) (all : List PassState) → IsOpened stripes passes id all → length all ≡ passes
count_all stripes passes id all opened = ap length opened.passes_are ∙ (length-map (from_on 0 passes) (pass_of id passes) ∙ from_on_length 0 passes)

at_length : (all n len : ℕ) → n ≡ all → len ≡ n → all ≤ len
at_length all n len is length_is = omega (arith, is, length_is)

-- and as many as are asked for
pub enough_passes : (stripes passes : ℕ) (id : TableId) (all : List PassState) (len : ℕ) → IsOpened stripes passes id all → len ≡ length all → passes ≤ len
enough_passes stripes passes id all len opened is = at_length passes (length all) len (count_all stripes passes id all opened) is

at_most : (less one all n left : ℕ) → less + one ≤ all → all ≤ n → left + one ≡ n → less ≤ left
at_most less one all n left more enough is = omega (arith, more, enough, is)

-- those that the next worker leaves are enough for the others
pub next_left : (workers worker team n left : ℕ) → worker < workers → (workers - worker) * (1 + team) ≤ n → left + (1 + team) ≡ n
    → (workers - (worker + 1)) * (1 + team) ≤ left
next_left workers worker team n left low enough is =
    at_most ((workers - (worker + 1)) * (1 + team)) (1 + team) ((workers - worker) * (1 + team)) n left
    (row_fits (workers - (worker + 1)) (1 + team) (workers - worker) (1 + team) (omega (arith, low)) (omega arith)) enough is
