-- What a call comes to, refused or done, step by step.
use Prim.Native.Nat.{ℕ}
use mathlib.Core.Path.{◌≡◌}
use mathlib.Core.List.{List}
use Rattle.std.specs.Prelude.{Option, None, Some}
use lib.ListN.{length}
use borrow.Author.Tests.{eq-eqb, ne_eqb}
use Rattle.spec.specs.Outcome.{Outcome}
use Rattle.spec.specs.Basics.{when, or_else}
use Rattle.spec.specs.Bytes.{AreBytes, byte}
use Rattle.spec.specs.Decode.{header_of, file_of}
use Rattle.spec.specs.Check.{Fault, numbered, job_fault}
use Rattle.spec.specs.Tidy.{tidy_bytes, ops_present, tidy_fault, tidy_outcome, tidy_buffer}
use Rattle.laws.specs.Codec.Accepted.{file_ok}
use Rattle.laws.specs.Codec.Numbers.{byte-lt}
use Rattle.laws.specs.Tidy.Bytes.{joined, tidied}
use Rattle.header.specs.declared.Header.{Header}
use Rattle.header.specs.Counts.{counts_of}
use Rattle.header.specs.Accepted.{accepted_heads}
use Rattle.wire.specs.Comes.{Comes}
use Rattle.tidy.specs.Given.{Given}
use Rattle.tidy.specs.Call.{Settled, output_fault, file_fault}

-- 18, or what is behind it
ops_there : (b : List ℕ) → ((header_of b).ops ≡ 0 → ⊥) → ops_present b ≡ Some 8
unfolding ops_present when
ops_there b n = rw (ne_eqb (header_of b).ops 0 n)

ops-none : (b : List ℕ) → (header_of b).ops ≡ 0 → ops_present b ≡ None
unfolding ops_present when
ops-none b e = rw (eq-eqb (header_of b).ops 0 e)

pub by_ops : (room d : ℕ) (b : List ℕ) → ((header_of b).ops ≡ 0 → ⊥) → file_fault room d b ≡ Some (record { number = 18; place = 8 })
unfolding or_else numbered
by_ops room d b n = rw (ops_there b n)

pub by_output : (room d : ℕ) (b : List ℕ) → (header_of b).ops ≡ 0 → file_fault room d b ≡ output_fault room d b
unfolding or_else numbered
by_output room d b e = rw (ops-none b e)

-- the file's own refusals come first
pub by_file : (room d : ℕ) (b : List ℕ) → job_fault b ≡ None → tidy_fault room d b ≡ file_fault room d b
unfolding tidy_fault or_else
by_file room d b e = rw e

pub by_job : (room d : ℕ) (b : List ℕ) (f : Fault) → job_fault b ≡ Some f → tidy_fault room d b ≡ Some f
unfolding tidy_fault or_else
by_job room d b f e = rw e

-- an accepted file, with its header
pub given : (h : Header) (b : List ℕ) → AreBytes b → job_fault b ≡ None → counts_of h ≡ header_of b → Given h b
unfolding byte
given h b bytes e c = record { bytes = byte-lt b bytes; accepted = e; heads = accepted_heads h b e c }

-- THE CALL
pub settled
    : {fault : Option Fault} {d : ℕ} {b s t : List ℕ} {r : Outcome}
    → AreBytes b
    → tidy_fault (length s) d b ≡ fault
    → Comes fault (tidy_bytes d b) s t r
    → Settled b d s t r
unfolding tidy_outcome tidy_buffer
settled {d = d} {b = b} {s = s} bytes e c =
    record { answer = rw e c.answer; output = rw e c.buffer; joined = λ n. joined (file_of b) (file_ok b n); tidied = tidied (length s) d b bytes }
