-- Demand 3, of what the code's tracer tells.
use Prim.Native.Nat.{ℕ, ◌<◌}
use mathlib.Core.Path.{◌≡◌, sym, subst}
use mathlib.Core.Logic.{◌≢◌}
use Rattle.model.specs.Calls.{Traced, trace}
use Rattle.model.specs.Walks.{WalksEnd, Reached, LoopFree}
use Rattle.model.proofs.Walking.{loop-free}
use Rattle.network.specs.declared.Memory.{Memory}
use Rattle.network.specs.View.{view}

pub walks : (memory : Memory) (a t : ℕ) (told : Traced) → told ≡ trace (view memory) a t
    → Reached (view memory) → a < memory.n → t < memory.n → a ≢ t → WalksEnd (view memory) a t told
unfolding view LoopFree
walks memory a t told e reached ha ht apart = subst (WalksEnd (view memory) a t) (sym e) (loop-free (view memory) reached a t ha ht apart)
