-- Turns dealt, for every accepted job without turns given as its bytes: the list, the job that is written with it, and its run.
use Rattle.std.specs.Prelude.{ℕ, ◌+◌, ◌-◌, ◌*◌, ◌≤◌, ◌≡◌, refl, ◌↔◌, length, take, drop, None}
use Rattle.std.proofs.Common.{ap, ◌∙◌, arith}
use Rattle.std.proofs.Math.Path.{subst}
use mathlib.Core.List.{List, [], ◌++◌, append_assoc, append-nil}
use Rattle.spec.specs.Basics.{each}
use Rattle.spec.specs.Bytes.{AreBytes, two, four}
use Rattle.spec.specs.File.{File}
use Rattle.spec.specs.Job.{Job, header_size, turn_count_at, total_at, turn_size, table_offset, ops_offset, turns_offset, total}
use Rattle.spec.specs.Encode.{header_bytes, header_for, page_bytes, op_bytes, encode_job}
use Rattle.spec.specs.Decode.{header_of, job_of}
use Rattle.spec.specs.Run.{start, run}
use Rattle.spec.specs.Result.{read_result}
use Rattle.spec.specs.Check.{Lent, work_size, small_for}
use Rattle.spec.specs.Outcome.{result_bytes}
use Rattle.spec.specs.Deal.{max_dealt, dealt, dealt_job, dealt_bytes, turns_present, small_for_deal, deal_fault}
use Rattle.spec.specs.Claims.{Accepted}
use Rattle.spec.specs.Rounds.{AllDone, Complete}
use Rattle.spec.specs.Dealt.{DealtWritten, DealsTurns}
use Rattle.laws.specs.Codec.Tools.{or_else_none, among_none, among_end, numbered-none, failed}
use Rattle.laws.specs.Codec.Told.{tells_either}
use Rattle.laws.specs.Codec.Numbered.{Above0, Numbered, above0, job-numbered}
use Rattle.laws.specs.Codec.Rows.{counted}
use Rattle.laws.specs.Codec.Sections.{Sized, length-job}
use Rattle.laws.specs.Codec.Back.{decode-encode}
use Rattle.laws.specs.Codec.Forth.{encode-decode}
use Rattle.laws.specs.Codec.Proper.{JobProper, file_sized, job-fits}
use Rattle.laws.specs.Codec.Written.{proper_accepted}
use Rattle.laws.specs.Codec.AsBytes.{written-bytes}
use Rattle.laws.specs.Codec.Exact.{accepted_proper}
use Rattle.laws.specs.Codec.Quiet.{no_member}
use Rattle.laws.specs.Turns.Dealing.{Uses, uses_fit, uses_named, start_sound, dealt_uses, dealt-fits, dealt-done, dealt_well}
use Rattle.laws.specs.Rounds.{everyone}

-- a proper job with another list, all of whose turns are used, is proper: the list is short enough, and names the job's operations
pub uses_proper
    : (j : Job)
    → JobProper j
    → (ts : List ℕ)
    → Uses j.ops (start j.file (length j.ops)) ts
    → JobProper (record { file = j.file; ops = j.ops; turns = ts })
uses_proper j p ts u =
    record {
      file = p.file;
      records = p.records;
      op_count = p.op_count;
      ops = p.ops;
      turn_count = omega (arith, uses_fit j p.file p.op_count ts u);
      turns = uses_named j.ops _ ts (start_sound j p.file) u;
    }

-- a header with another turn count, in front of x: two of its fields are new, the count and the total
header_with
    : (f : File) (m t : ℕ) (x : List ℕ)
    → let b : List ℕ = header_bytes (header_for f m 0) ++ x in
    header_bytes (header_for f m t) ++ x
    ≡ take turn_count_at b
    ++ two t
    ++ take (total_at - (turn_count_at + 2)) (drop (turn_count_at + 2) b)
    ++ four (turns_offset (header_for f m 0) + turn_size * t)
    ++ drop header_size b
unfolding header_bytes header_for two four total turns_offset ops_offset table_offset
header_with f m t x = refl

-- a job without turns, and the same job with some
module _ (j : Job) (sized : Sized j.file) (unturned : j.turns ≡ []) (ts : List ℕ) where
  -- what stands between the header and the turns
  abbrev between : List ℕ
  between = each two j.file.directory ++ each (page_bytes j.file.c) (drop 1 j.file.table) ++ each op_bytes j.ops

  before : encode_job j ≡ header_bytes (header_for j.file (length j.ops) 0) ++ between
  unfolding encode_job each
  before = rw unturned (simp (append_assoc, append-nil))

  after
      : encode_job (record { file = j.file; ops = j.ops; turns = ts })
      ≡ header_bytes (header_for j.file (length j.ops) (length ts)) ++ between ++ each two ts
  unfolding encode_job
  after = simp append_assoc

  size : length (encode_job j) ≡ turns_offset (header_for j.file (length j.ops) 0)
  unfolding total turns_offset ops_offset table_offset header_for
  size = length-job j sized ∙ (rw unturned (omega arith))

  length_with : length (encode_job (record { file = j.file; ops = j.ops; turns = ts })) ≡ length (encode_job j) + turn_size * length ts
  unfolding total turns_offset ops_offset table_offset header_for
  length_with = length-job (record { file = j.file; ops = j.ops; turns = ts }) sized ∙ omega (arith, size)

  written_with
      : encode_job (record { file = j.file; ops = j.ops; turns = ts })
      ≡ take turn_count_at (encode_job j)
      ++ two (length ts)
      ++ take (total_at - (turn_count_at + 2)) (drop (turn_count_at + 2) (encode_job j))
      ++ four (length (encode_job j) + turn_size * length ts)
      ++ drop header_size (encode_job j)
      ++ each two ts
  written_with =
      rw (size, before) (after ∙ ap (λ (b : List ℕ). b ++ each two ts) (header_with j.file (length j.ops) (length ts) between))

-- 21 is not told: there are no turns
pub none_counted : (b : List ℕ) → turns_present b ≡ None → (header_of b).turns ≡ 0
unfolding turns_present
none_counted b e = simp failed at e

no_turn : (b : List ℕ) → turns_present b ≡ None → (job_of b).turns ≡ []
no_turn b e = no_member (job_of b).turns ((counted b).turns ∙ none_counted b e)

module _ (b : List ℕ) (bytes : AreBytes b) (accepted : Accepted b) (unturned : turns_present b ≡ None) where
  proper : JobProper (job_of b)
  proper = accepted_proper b bytes accepted

  dealt_proper : JobProper (dealt_job (job_of b))
  dealt_proper = uses_proper (job_of b) proper (dealt (job_of b)) (dealt_uses (job_of b))

  dealt-accepted : Accepted (dealt_bytes b)
  unfolding dealt_bytes
  dealt-accepted = proper_accepted (dealt_job (job_of b)) dealt_proper

  dealt-says : job_of (dealt_bytes b) ≡ dealt_job (job_of b)
  unfolding dealt_bytes
  dealt-says = decode-encode (dealt_job (job_of b)) (job-fits (dealt_job (job_of b)) dealt_proper)

  sized : Sized (job_of b).file
  sized = file_sized (job_of b).file proper.file

  dealt_same
      : dealt_bytes b
      ≡ take turn_count_at b
      ++ two (length (dealt (job_of b)))
      ++ take (total_at - (turn_count_at + 2)) (drop (turn_count_at + 2) b)
      ++ four (length b + turn_size * length (dealt (job_of b)))
      ++ drop header_size b
      ++ each two (dealt (job_of b))
  unfolding dealt_bytes
  dealt_same = rw (encode-decode b bytes accepted) at (written_with (job_of b) sized (no_turn b unturned) (dealt (job_of b)))

  pub dealt-length : length (dealt_bytes b) ≡ length b + turn_size * length (dealt (job_of b))
  unfolding dealt_bytes
  dealt-length = rw (encode-decode b bytes accepted) at (length_with (job_of b) sized (no_turn b unturned) (dealt (job_of b)))

  -- a run of what is written finishes all operations, so its result lacks nothing
  dealt-complete : (post : List ℕ) → Complete (dealt_job (job_of b)) (read_result (result_bytes (dealt_bytes b) ++ post))
  unfolding dealt_bytes
  dealt-complete post =
      subst (λ (j : Job). AllDone j (run j) → Complete j (read_result (result_bytes (dealt_bytes b) ++ post))) dealt-says
      (everyone (dealt_bytes b) post (written-bytes (dealt_job (job_of b)) dealt_proper) dealt-accepted).complete
      (λ i l. dealt-done (job_of b) proper.file proper.op_count i)

  dealt-written : DealtWritten b
  dealt-written =
      record {
        list = dealt_well (job_of b) proper.file proper.op_count;
        accepted = dealt-accepted;
        says = dealt-says;
        bytes = dealt_same;
        complete = dealt-complete;
      }

-- A CALL IS NOT REFUSED exactly if the job is accepted, has no turns, and enough is lent
pub record NotRefused (l : Lent) (b : List ℕ) : Type 0 where
  pub accepted : Accepted b
  pub unturned : turns_present b ≡ None
  pub output : length b + turn_size * max_dealt ≤ l.output
  pub rows : (header_of b).ops ≤ l.rows
  pub work : work_size ≤ l.work

pub deal_said : (l : Lent) (b : List ℕ) → deal_fault l b ≡ None ↔ NotRefused l b
unfolding deal_fault small_for_deal small_for
deal_said l b =
    simp (or_else_none, numbered-none, among_none, among_end, failed) (
      λ h. record { accepted = h.0; unturned = h.1.0; output = h.1.1.0; rows = h.1.1.1.0; work = h.1.1.1.1.0 },
      λ n. (n.accepted, (n.unturned, (n.output, (n.rows, (n.work, tt))))),
    )

-- no number is 0: where 0 is told, nothing is refused
pub deal-numbered : (l : Lent) (b : List ℕ) → Numbered (deal_fault l b)
unfolding deal_fault
deal-numbered l b = tells_either Above0 _ _ (job-numbered b) (tells_either Above0 _ _ (above0 21 _ refl) (above0 11 _ refl))

-- THE BUFFER THAT IS ASKED FOR IS ENOUGH
pub deal-enough : (l : Lent) (b : List ℕ) → AreBytes b → deal_fault l b ≡ None → length (dealt_bytes b) ≤ l.output
deal-enough l b bytes e =
    let n = (deal_said l b).0 e in
    let p = accepted_proper b bytes n.accepted in
    omega (arith, n.output, dealt-length b bytes n.accepted n.unturned, dealt-fits (job_of b) p.file p.op_count)

-- TURNS DEALT
pub deals_turns : DealsTurns
deals_turns = dealt-written
