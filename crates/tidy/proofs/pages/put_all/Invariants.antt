-- `put_all` meets its contract: the first i records of the page are put in; what is written is read back.
use mathlib.Core.Path.{◌≡◌}
use Prim.Native.Nat.{ℕ, ◌<◌}
use Rattle.spec.specs.Basics.{each}
use Rattle.spec.specs.Bytes.{byte}
use Rattle.spec.specs.Encode.{record_bytes}
use Rattle.wire.specs.Over.{over}
use Rattle.tidy.proofs.Gather.{partly}
use Rattle.tidy.proofs.pages.put_all.Given as goal

abbrev pub invariant-loop-i : goal.invariant-loop-i
invariant-loop-i l = record {
  bytes : (k : ℕ) → byte l.initial.out k < 256;
  written : l.out ≡ over l.initial.out 4 (each record_bytes (partly l.initial.out l.page l.n l.i));
}
