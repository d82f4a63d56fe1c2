-- An accepted job, for those who run it: its header is what these functions ask for.
use Rattle.std.specs.Prelude.{ℕ, ◌≡◌, List, None}
use Rattle.spec.specs.Decode.{header_of}
use Rattle.spec.specs.Check.{job_fault}
use Rattle.laws.specs.Codec.Rows.{accepted_header}
use Rattle.header.specs.declared.Header.{Header}
use Rattle.header.specs.Counts.{counts_of, Heads}

pub accepted_heads : (h : Header) (b : List ℕ) → job_fault b ≡ None → counts_of h ≡ header_of b → Heads h b
accepted_heads h b e c =
    let a = accepted_header b e in
    record { counts = c; limits = rw c a.limits; size = rw c a.laid.size }
