use Rattle.std.proofs.Common.{length, take, ◌-◌, ◌≤◌}
use Rattle.std.specs.Io.KnownBytes.{Consumes}
use Rattle.chargelog.proofs.read_job.Given as goal

-- what stands before n is what the reader gave
abbrev pub invariant-loop-n : goal.invariant-loop-n
invariant-loop-n g l =
    (l.n ≤ length l.job)
    × Consumes (g.R.Read.remaining l.initial.input) (g.R.Read.remaining l.input) (take l.n l.job)

abbrev pub decreases-loop-n : goal.decreases-loop-n
decreases-loop-n g l = length l.job - l.n
