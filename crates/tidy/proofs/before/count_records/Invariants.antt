-- `before::count_records` meets its contract: the numbers up to entry j are written, and `sum` is the last of them.
use mathlib.Core.Path.{◌≡◌}
use lib.ListN.{length}
use Rattle.spec.specs.Decode.{file_of}
use Rattle.laws.specs.Tidy.Entries.{records_before}
use Rattle.tidy.proofs.Counting.{Upto}
use Rattle.tidy.proofs.before.count_records.Given as goal

abbrev pub invariant-loop-j : goal.invariant-loop-j
invariant-loop-j l = record {
  size : length l.counts ≡ 257;
  sum : l.sum ≡ records_before (file_of l.file.reader.job.now) l.j;
  written : Upto (file_of l.file.reader.job.now) l.j l.counts;
}
