-- The code's header as the definitions' counts, and what rows 1 to 4 of the refusal table leave of a job.
use Rattle.std.specs.Prelude.{◌≡◌, ℕ, List, length}
use Rattle.spec.specs.Job.{Header as Counts, total}
use Rattle.spec.specs.Decode.{header_of}
use Rattle.laws.specs.Codec.Rows.{Limits}
use Rattle.header.specs.declared.Header.{Header}

abbrev pub counts_of : Header → Counts
counts_of h = record { g = h.depth; c = h.capacity; limit = h.pages; used = h.used; ops = h.ops; turns = h.turns }

-- h is the header of the job b; its counts are within their limits, and the sections fill the bytes
pub record Heads (h : Header) (b : List ℕ) : Type 0 where
  pub counts : counts_of h ≡ header_of b
  pub limits : Limits (counts_of h)
  pub size : length b ≡ total (counts_of h)
