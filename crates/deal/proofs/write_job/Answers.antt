use mathlib.Core.Path.{◌≡◌, refl}
use mathlib.Core.List.{List}
use Prim.Native.Nat.{ℕ}
use lib.ListN.{length, take, drop}
use lib.Seq.{take-length}
use Rattle.spec.specs.Bytes.{two, four}
use Rattle.spec.specs.Job.{turn_count_at, total_at}
use Rattle.wire.specs.Over.{over}
use Rattle.deal.proofs.write_job.Goals as goal

-- the three writes, one after another: b is the whole job
writes
    : (s b : List ℕ) (n v : ℕ) {a t u : List ℕ}
    → a ≡ over s 0 (take (length b) (drop 0 b))
    → t ≡ over a turn_count_at (two n)
    → u ≡ over t total_at (four v)
    → u ≡ over (over (over s 0 b) turn_count_at (two n)) total_at (four v)
writes s b n v e f g = rw (g, f, e, take-length b)

pub returns : goal.returns
returns c = (refl, writes _ _ _ _ c.copy.ensures c.put_u16.ensures c.put_u32.ensures)
