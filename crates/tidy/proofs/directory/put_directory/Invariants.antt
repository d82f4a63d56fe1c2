-- `put_directory` meets its contract: the entries of the pages passed are written.
use mathlib.Core.Path.{◌≡◌}
use lib.ListN.{take}
use Rattle.spec.specs.Basics.{each}
use Rattle.spec.specs.Bytes.{two}
use Rattle.laws.specs.Tidy.Entries.{start_of, spread}
use Rattle.wire.specs.Over.{over}
use Rattle.tidy.proofs.directory.put_directory.Given as goal

abbrev pub invariant-loop-k : goal.invariant-loop-k
invariant-loop-k l = record {
  at : l.j ≡ start_of l.depth l.left (l.k);
  written : l.dir ≡ over l.initial.dir 0 (each two (spread l.depth (take (l.k) l.left) 1));
}
