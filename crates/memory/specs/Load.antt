-- A file's bytes, taken from a job's sections into the memory, and from the memory into a charge file.
use Rattle.std.specs.Prelude.{ℕ, ◌*◌, List, ◌++◌, take, drop}
use Rattle.spec.specs.Job.{entry_size, page_size}
use Rattle.wire.specs.Over.{over}
use Rattle.memory.specs.Memory.{place_of, with_locks, with_used}

-- a job's directory d and its pages p, of capacity c, in the memory, u pages in use, and "At the start no page is locked"
unfoldable pub loaded : List ℕ → List ℕ → List ℕ → ℕ → ℕ → List ℕ
loaded w d p c u = with_locks (with_used (over (over w 0 d) (place_of c 1) p) u) 0 257 0

-- the bytes of the directory of n entries, and those of P pages of capacity c behind them
unfoldable pub saved : List ℕ → ℕ → ℕ → ℕ → List ℕ
saved w n c P = take (entry_size * n) w ++ take (page_size c * P) (drop (place_of c 1) w)
