-- The answer tells how a call ended: refusals are numbers below 100, and no accepted call answers with one of these.
use Prim.Native.Nat.{ℕ, ◌+◌, ◌^◌}
use mathlib.Core.Path.{◌≡◌, refl}
use mathlib.Core.Bool.{Bool, true, false, not, ◌&&◌, ◌||◌}
use lib.Dec.{ltb, leb, eqb}
use Rattle.base.proofs.Booleans.{choose}
use Rattle.base.specs.Numbers.{max_u32}
use Rattle.base.specs.Results.{Result, refused, accepted, refuse◌when◌otherwise◌, is_refusal}
use Rattle.base.proofs.Results.{Satisfies, accepts, satisfies-refuse, satisfies-refused, satisfies-accepted}
use Rattle.label.specs.declared.Label.{Label}
use Rattle.label.specs.Label.{Outcome, took, gave, above, fitting, next, split, new_label_by, new_label}
use Rattle.model.specs.Memory.{Request, Reply, Body, request, reply, error, other, Network, label_at, row_at, record_at, set_record}
use Rattle.model.specs.Calls.{Call, Open, Up, Down, Solicit, GiveUp, Expire, Deliver, Lose, Duplicate}
use Rattle.model.specs.Calls.{Effect, limited, opening, step_by, step}
use Rattle.model.specs.Calls.{bit, removes, emptied, withdrawn, recorded, resets, can_reply, matches, passes_on}
use Rattle.model.specs.Calls.{sending, down, solicit, reply_to, at_destination, engage, on_request, pass_on, on_outcome, on_reply_by, on_reply, error_outcome, on_error, receive_by, receive, deliver_by}

record Answers (e : Effect) : Type 0 where
  tells : is_refusal e.answer ≡ false

abbrev Tells : Result Effect → Type 0
Tells z = Satisfies (λ number. is_refusal number ≡ true) Answers z

refuse-tells : (number : ℕ) (case : Bool) (rest : Result Effect) → is_refusal number ≡ true → Tells rest → Tells (refuse number when case otherwise rest)
refuse-tells number case rest h k = satisfies-refuse number case rest h (λ e. k)

limited-tells : (net : Network) (e : Effect) → Answers e → Tells (limited net e)
unfolding limited is_refusal
limited-tells net e h = refuse-tells 13 _ _ refl (refuse-tells 7 _ (accepted e) refl (accepts h))

-- The numbers of New label.
data Gives : Outcome → Type 0 where
  takes : {g : Label} → Gives (took g)
  gives : {number : ℕ} → is_refusal number ≡ false → Gives (gave number)

fitting-gives : (s m d : ℕ) → Gives (fitting s m d)
unfolding fitting is_refusal
fitting-gives s m d = choose Gives (ltb max_u32 d) (λ e. gives refl) (λ e. takes)

new-gives : (a c v : Label) → Gives (new_label a c v)
unfolding new_label_by next split is_refusal
new-gives a c v =
    choose Gives (not (above a v)) (λ e. gives refl) (λ e. choose Gives (not (above c v)) (λ e. gives refl)
    (λ e. choose Gives (ltb a.s.0 v.s.0 && ltb c.s.0 v.s.0) (λ e. fitting-gives v.s.0 (v.m + 1) (v.d + 1))
    (λ e. choose Gives (ltb a.s.0 v.s.0 && eqb c.s.0 v.s.0) (λ e. fitting-gives _ _ _)
    (λ e. choose Gives (above c a) (λ e. takes) (λ e. fitting-gives _ _ _)))))

-- What a packet's receiver answers.
module _ (i j : ℕ) (R : Request) (net : Network) where
  destination-answers : Answers (at_destination i j R net)
  unfolding at_destination reply_to sending is_refusal
  destination-answers =
      choose Answers (not (resets (label_at net i i) R)) (λ e. record { tells = refl })
      (λ e. choose Answers (leb (2 ^ 64) (R.label.s.0 + 1)) (λ e. record { tells = refl }) (λ e. record { tells = refl }))

  engage-answers : Answers (engage i j R net)
  unfolding engage reply_to sending is_refusal
  engage-answers =
      choose Answers (eqb i R.destination) (λ e. destination-answers)
      (λ e. choose Answers (can_reply (label_at net i R.destination) (row_at net i R.destination) R) (λ e. record { tells = refl }) (λ e. record { tells = refl }))

request-answers : (i j : ℕ) (R : Request) (net : Network) → Answers (on_request i j R net)
unfolding on_request is_refusal
request-answers i j R net =
    choose Answers (eqb i R.source || leb R.number (record_at net i R.source).number) (λ e. record { tells = refl })
    (λ e. engage-answers i j R (set_record i R.source (recorded j R) net))

pass-answers : (answer i : ℕ) (v : Reply) (net : Network) → is_refusal answer ≡ false → Answers (pass_on answer i v net)
unfolding pass_on reply_to sending
pass-answers answer i v net h = choose Answers (passes_on i v net) (λ e. record { tells = h }) (λ e. record { tells = h })

outcome-answers : (i j serial : ℕ) (v : Reply) (o : Outcome) (net : Network) → Gives o → Answers (on_outcome i j serial v o net)
unfolding on_outcome is_refusal
outcome-answers i j serial v (gave number) net (gives h) = pass-answers number i v net h
outcome-answers i j serial v (took g) net h = pass-answers 115 i v _ refl

reply-answers : (i j serial : ℕ) (v : Reply) (net : Network) → Answers (on_reply i j serial v net)
unfolding on_reply_by is_refusal
reply-answers i j serial v net =
    choose Answers (eqb i v.destination || not (matches i v net)) (λ e. record { tells = refl }) (λ e. outcome-answers i j serial v _ net (new-gives _ _ _))

error-answers : (i j serial mask : ℕ) (net : Network) → Answers (on_error i j serial mask net)
unfolding on_error sending error_outcome is_refusal
error-answers i j serial mask net = record {
  tells = outcome (removes (bit mask) (withdrawn j serial) i net.n net.rows) (emptied (bit mask) (withdrawn j serial) i net.n net.rows);
}
  where
    outcome : (removed : Bool) (gone : ℕ) → is_refusal (error_outcome removed gone) ≡ false
    outcome true gone = choose (λ k. is_refusal k ≡ false) (eqb gone 0) (λ e. refl) (λ e. refl)
    outcome false gone = refl

receive-answers : (i j serial : ℕ) (b : Body) (net : Network) → Answers (receive i j serial b net)
unfolding receive_by is_refusal
receive-answers i j serial (request R) net = request-answers i j R net
receive-answers i j serial (reply v) net = reply-answers i j serial v net
receive-answers i j serial (error mask) net = error-answers i j serial mask net
receive-answers i j serial (other kind) net = record { tells = refl }

none_answers : (e : Effect) → e.answer ≡ 0 → Answers e
unfolding is_refusal
none_answers e z = record { tells = rw z }

step-tells : (c : Call) (net : Network) → Tells (step c net)
unfolding step_by opening down solicit sending deliver_by is_refusal
step-tells (Open n start limit) net = refuse-tells 1 _ _ refl (refuse-tells 14 _ _ refl (accepts (none_answers _ refl)))
step-tells (Up a b) net = refuse-tells 1 _ _ refl (refuse-tells 2 _ _ refl (refuse-tells 3 _ _ refl (accepts (none_answers _ refl))))
step-tells (Down a b) net = refuse-tells 1 _ _ refl (refuse-tells 2 _ _ refl (refuse-tells 3 _ _ refl (limited-tells net _ (none_answers _ refl))))
step-tells (Solicit a t) net =
    refuse-tells 1 _ _ refl (refuse-tells 2 _ _ refl (refuse-tells 4 _ _ refl (refuse-tells 8 _ _ refl (limited-tells net _ (none_answers _ refl)))))
step-tells (GiveUp a) net = refuse-tells 1 _ _ refl (refuse-tells 2 _ _ refl (refuse-tells 5 _ _ refl (accepts (none_answers _ refl))))
step-tells (Expire a t) net = refuse-tells 1 _ _ refl (refuse-tells 2 _ _ refl (accepts (none_answers _ refl)))
step-tells (Deliver k) net = refuse-tells 1 _ _ refl (refuse-tells 6 _ _ refl (limited-tells net _ (receive-answers _ _ _ _ _)))
step-tells (Lose k) net = refuse-tells 1 _ _ refl (refuse-tells 6 _ _ refl (accepts (none_answers _ refl)))
step-tells (Duplicate k) net = refuse-tells 1 _ _ refl (refuse-tells 6 _ _ refl (limited-tells net _ (none_answers _ refl)))

-- So the answer tells how a call ended.
pub refused-tells : (c : Call) (net : Network) (number : ℕ) → step c net ≡ refused number → is_refusal number ≡ true
refused-tells c net number e = satisfies-refused (step c net) number (step-tells c net) e

pub accepted-tells : (c : Call) (net : Network) (e : Effect) → step c net ≡ accepted e → is_refusal e.answer ≡ false
accepted-tells c net e h = (satisfies-accepted (step c net) e (step-tells c net) h).tells
