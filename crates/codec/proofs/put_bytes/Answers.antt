-- `put_bytes` meets its contract: with the bytes from i on put, the array is as asked.
use mathlib.Core.Path.{refl}
use lib.ListN.{length, length-set, drop_of_length-le}
use lib.Seq.{drop-cons}
use native.Mathlib.Nat.{add-zero, add-suc}
use native.Mathlib.Numerals.{add-one}
use native.Mathlib.Omega.{arith}
use Prim.Native.Nat.{◌≤◌}
use Rattle.codec.proofs.put_bytes.Goals as goal

pub loop-i-init : goal.loop-i-init
loop-i-init c = (refl, omega arith, rw add-zero)

pub loop-i-preserved : goal.loop-i-preserved
loop-i-preserved c =
    let bytes = c.args.bytes.now in
    let loop = c.loop-i in
    (simp length-set loop.invariant.0, omega arith, rw (add-one, add-suc) (rw (drop-cons bytes loop.i 0 (omega arith)) at loop.invariant.2))

pub returns : goal.returns
returns c =
    let done : length c.args.bytes.now ≤ c.loop-i.i = omega arith in
    rw drop_of_length-le at c.loop-i.invariant.2
