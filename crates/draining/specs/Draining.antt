-- Draining the air (02, F-3, "Run until quiet").
use Rattle.std.specs.Prelude.{ℕ, suc, ◌+◌, ◌-◌, ◌*◌, ◌≤◌, ◌≡◌, Bool, true, ◌||◌, List, [], ◌∷◌, length, eqb}
use Rattle.base.specs.Results.{refused, accepted}
use Rattle.label.specs.Label.{Splitting, split}
use Rattle.model.specs.Memory.{Network, memory_in_range, Sized}
use Rattle.model.specs.Calls.{Call, Open, Deliver, Lose, Effect, step_by, run_by}

-- A turn of the repetition: packet 0 is delivered, or it is lost.
pub data Turn : Type 0 where
  delivery loss : Turn

-- "loses it where Deliver gives 7", "a packet answered 13 just as one answered 7" (02, F-4): the numbers of Deliver for which packet 0 is lost.
unfoldable pub loses_packet : ℕ → Bool
loses_packet number = eqb number 7 || eqb number 13

-- The plain repetition, by a rule for splits (02, F-6).
module _ (splits : Splitting) where
  -- "delivers packet 0 .., and loses it where Deliver gives 7": such a turn on the network before it leaves this one.
  abbrev pub TurnLeaves : Turn → (before left : Network) → Type 0
  TurnLeaves delivery before left = (e : Effect) × (step_by splits (Deliver 0) before ≡ accepted e) × (left ≡ e.net)
  TurnLeaves loss before left =
      (number : ℕ) × (e : Effect) × (step_by splits (Deliver 0) before ≡ refused number) × (loses_packet number ≡ true)
      × (step_by splits (Lose 0) before ≡ accepted e) × (left ≡ e.net)

  -- ".. again and again".
  abbrev pub Turns : List Turn → (before left : Network) → Type 0
  Turns [] before left = left ≡ before
  Turns (turn ∷ turns) before left = (next : Network) × TurnLeaves turn before next × Turns turns next left

  -- ".. until the air is empty": the plain repetition, from the network before it, makes these turns and leaves this one.
  pub record Drains (turns : List Turn) (before left : Network) : Type 0 where
    pub turned : Turns turns before left
    pub empty : left.air ≡ []

-- "It returns deliveries and losses."
unfoldable pub deliveries_in : List Turn → ℕ
deliveries_in [] = 0
deliveries_in (delivery ∷ turns) = suc (deliveries_in turns)
deliveries_in (loss ∷ turns) = deliveries_in turns

unfoldable pub losses_in : List Turn → ℕ
losses_in [] = 0
losses_in (delivery ∷ turns) = losses_in turns
losses_in (loss ∷ turns) = suc (losses_in turns)

-- "at most p + p·n·(n − 1) + p·n + (n − 1)·(n·(n − 1) + p + p·n)", with n stations and p packets at the start.
unfoldable pub turn_limit : (n p : ℕ) → ℕ
turn_limit n p = p + p * n * (n - 1) + p * n + (n - 1) * (n * (n - 1) + p + p * n)

-- The calls of these turns: a packet that is lost was turned down by Deliver first.
unfoldable pub calls_of : List Turn → List Call
calls_of [] = []
calls_of (delivery ∷ turns) = Deliver 0 ∷ calls_of turns
calls_of (loss ∷ turns) = Deliver 0 ∷ Lose 0 ∷ calls_of turns

-- What F-3 asks of the repetition from this network, by a rule for splits, which made these turns and left that network.
pub record Drained (splits : Splitting) (net : Network) (turns : List Turn) (left : Network) : Type 0 where
  -- "The counts equal the steps of the plain repetition", and of no other.
  pub drains : Drains splits turns net left
  pub only : (turns' : List Turn) (left' : Network) → Drains splits turns' net left' → (turns' ≡ turns) × (left' ≡ left)
  -- "the two counts together are at most ..".
  pub bounded : deliveries_in turns + losses_in turns ≤ turn_limit net.n (length net.air)
  -- ".., which is 69,136 for n = 16 and p = 128": no memory has a larger bound.
  pub largest : turn_limit net.n (length net.air) ≤ turn_limit 16 128
  pub in-range : memory_in_range left ≡ true
  -- "Walks after it are bounded as after the single calls": it is a list of these.
  pub calls : left ≡ run_by splits (calls_of turns) net

-- What lists of calls are made of (01, "The list in demand 3"): the calls of 01, draining the air, and runs of events, which tell their lines in an
-- array of this length.
pub data Action : Type 0 where
  call : Call → Action
  drain : Action
  events : (kinds operands : List ℕ) → (room : ℕ) → Action

abbrev pub opens : (n start limit : ℕ) → Action
opens n start limit = call (Open n start limit)

-- F-3: the repetition ends, from every memory in range, whatever made it.
unfoldable pub AllDrain : Type 0
AllDrain = (net : Network) → Sized net → memory_in_range net ≡ true → (turns : List Turn) × (left : Network) × Drained split net turns left
