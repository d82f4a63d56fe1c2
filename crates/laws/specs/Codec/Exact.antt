-- An accepted job is a proper one, and fits its fields. So the byte strings that no row refuses are exactly the written proper jobs.
use Rattle.std.specs.Prelude.{ℕ, zero, suc, ◌≡◌, ◌↔◌, List, [], drop, None}
use Rattle.std.proofs.Common.{sym, ap, ◌∙◌, arith}
use Rattle.spec.specs.Basics.{Each}
use Rattle.spec.specs.Bytes.{AreBytes, byte}
use Rattle.spec.specs.Job.{Job, kind_number, op_size, table_offset, ops_offset}
use Rattle.spec.specs.Encode.{encode_job}
use Rattle.spec.specs.Decode.{header_of, page_parts, op_parts, record_of, page_of, op_of, file_of, job_of}
use Rattle.spec.specs.Check.{wrong_op, job_fault}
use Rattle.laws.specs.Tools.{each_imp}
use Rattle.laws.specs.Codec.Tools.{each_imp₂, each_map, each_places}
use Rattle.laws.specs.Codec.Numbers.{drop-bytes, parts-bytes, long_lt}
use Rattle.laws.specs.Codec.Rows.{Rows, accepted-rows, limits_said, counted}
use Rattle.laws.specs.Codec.Pages.{length-pages, page_at_lem}
use Rattle.laws.specs.Codec.Ops.{OpFine, ops_said}
use Rattle.laws.specs.Codec.Accepted.{accepted-file, accepted-turns}
use Rattle.laws.specs.Codec.Back.{RecFits}
use Rattle.laws.specs.Codec.Forth.{kind_forth, encode-decode}
use Rattle.laws.specs.Codec.Proper.{RecordsFit, OpProper, JobProper}
use Rattle.laws.specs.Codec.Written.{proper_accepted}
use Rattle.laws.specs.Codec.AsBytes.{written-bytes}

-- 32 bits are read
record_fits : (p : List ℕ) → AreBytes p → RecFits (record_of p)
unfolding record_of
record_fits p h = record { call = long_lt p h 0; charge = long_lt p h 4 }

pub page-fits : (p : List ℕ) → AreBytes p → Each RecFits (page_of p).records
unfolding page_of
page-fits p h = (each_map record_of _).1 (each_imp record_fits (parts-bytes (byte p 1) 8 (drop 4 p) (drop-bytes 4 p h)))

op_proper : (o : List ℕ) → AreBytes o → OpFine o → OpProper (op_of o)
unfolding op_of kind_number
op_proper o h fine =
    record {
      fits = record { call = long_lt o h 2; charge = long_lt o h 6 };
      charge = λ n. fine.charge (sym (kind_forth (byte o 0) fine.kind.0 fine.kind.1) ∙ ap kind_number n);
    }

records-fit : (b : List ℕ) → AreBytes b → Rows b → RecordsFit (file_of b)
unfolding file_of page_parts
records-fit b h rows zero n = absurd (omega arith)
records-fit b h rows (suc k) n =
    let u = ((limits_said b).0 rows.r3).used in
    let bytes = parts-bytes _ _ _ (drop-bytes (table_offset (header_of b)) b h) in
    rw page_at_lem (page-fits _ ((each_places (page_parts (header_of b) b) []).0 bytes k (rw length-pages (omega arith))))

ops_proper : (b : List ℕ) → AreBytes b → Rows b → Each OpProper (job_of b).ops
unfolding job_of op_parts wrong_op
ops_proper b h rows =
    let bytes = parts-bytes (header_of b).ops op_size _ (drop-bytes (ops_offset (header_of b)) b h) in
    (each_map op_of _).1 (each_imp₂ op_proper bytes ((ops_said (header_of b) _).0 rows.r9))

-- AN ACCEPTED JOB IS PROPER
pub accepted_proper : (b : List ℕ) → AreBytes b → job_fault b ≡ None → JobProper (job_of b)
unfolding job_of
accepted_proper b h e =
    let rows = (accepted-rows b).0 e in
    let l = (limits_said b).0 rows.r3 in
    let n = counted b in
    record {
      file = accepted-file b e;
      records = records-fit b h rows;
      op_count = omega (arith, n.ops, l.ops);
      ops = ops_proper b h rows;
      turn_count = omega (arith, n.turns, l.turns);
      turns = accepted-turns b e;
    }

-- WHAT IS ACCEPTED IS EXACTLY WHAT IS WRITTEN OF PROPER JOBS
pub accepted_exactly : (b : List ℕ) → AreBytes b × (job_fault b ≡ None) ↔ ((j : Job) × JobProper j × (encode_job j ≡ b))
accepted_exactly b = (
  λ h. (job_of b, accepted_proper b h.0 h.1, encode-decode b h.0 h.1),
  λ w. (rw w.2 at (written-bytes w.0 w.1), rw w.2 at (proper_accepted w.0 w.1)),
)
