-- `left::find` meets its contract: so many depths are written, and those from entry j on are left.
use mathlib.Core.Path.{◌≡◌}
use mathlib.Core.List.{◌++◌}
use Prim.Native.Nat.{◌-◌, ◌≤◌, ◌^◌}
use lib.ListN.{length, take}
use Rattle.spec.specs.Decode.{file_of}
use Rattle.laws.specs.Tidy.Entries.{depths_left}
use Rattle.tidy.proofs.left.find.Given as goal

abbrev pub invariant-loop-j : goal.invariant-loop-j
invariant-loop-j l = record {
  size : length l.buffer ≡ 256;
  slow : l.count ≤ l.j;
  few : l.count ≤ 2 ^ l.file.reader.header.depth;
  found : take l.count l.buffer ++ depths_left (file_of l.file.reader.job.now) l.j ≡ depths_left (file_of l.file.reader.job.now) 0;
}

abbrev pub decreases-loop-j : goal.decreases-loop-j
decreases-loop-j l = 2 ^ l.file.reader.header.depth - l.j
