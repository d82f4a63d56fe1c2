-- With no turns the charge file in the result is the one that came in, byte for byte.
use Rattle.std.specs.Prelude.{ℕ, zero, suc, ◌+◌, ◌-◌, ◌*◌, ◌^◌, ◌<◌, ◌≡◌, refl, List, [], ◌∷◌, ◌++◌, length, drop, replicate, None, Some}
use Rattle.std.proofs.Common.{sym, ◌∙◌, append-nil, append_assoc, drop_of_length-le}
use Rattle.std.proofs.Math.Path.{ap}
use native.Mathlib.Omega.{arith}
use Rattle.std.proofs.Math.ListN.{take}
use Rattle.spec.specs.Basics.{if, each, Each}
use Rattle.spec.specs.Bytes.{AreBytes}
use Rattle.spec.specs.Job.{Job, file_job, header_size, page_size, table_offset, ops_offset}
use Rattle.spec.specs.Encode.{header_bytes, header_for, encode_job, encode_file}
use Rattle.spec.specs.Decode.{header_of, file_of, job_of}
use Rattle.spec.specs.State.{blank}
use Rattle.spec.specs.Run.{start, steps, run}
use Rattle.spec.specs.Result.{under_way, count_under, file_bytes, file_left, result_of, result}
use Rattle.spec.specs.Check.{job_fault}
use Rattle.laws.specs.Tools.{first}
use Rattle.laws.specs.Codec.Pieces.{behind}
use Rattle.laws.specs.Codec.Rows.{Rows, accepted-rows, counted}
use Rattle.laws.specs.Codec.Accepted.{accepted-turns}
use Rattle.laws.specs.Codec.Forth.{directory_forth, table_forth, encode-decode}

-- an operation not begun is not under way
none-under : (m : ℕ) → count_under (replicate m blank) ≡ 0
unfolding count_under under_way if
none-under zero = refl
none-under (suc m) = none-under m

-- without turns nothing moves
unmoved : (j : Job) → j.turns ≡ [] → run j ≡ start j.file (length j.ops)
unfolding run steps
unmoved j e = rw e

unmoved_file : (j : Job) → j.turns ≡ [] → (result j).file ≡ Some (encode_file j.file)
unfolding result result_of file_left start if
unmoved_file j e = rw (unmoved j e, none-under (length j.ops))

pub no_member : {A : Type 0} (l : List A) → length l ≡ 0 → l ≡ []
no_member l e = drop_of_length-le l {i = 0} (omega arith)

-- THE RESULT'S FILE IS THE ONE THAT CAME IN
pub no_turns : (b : List ℕ) → (header_of b).turns ≡ 0 → (result (job_of b)).file ≡ Some (encode_file (job_of b).file)
no_turns b e = unmoved_file (job_of b) (no_member (job_of b).turns ((counted b).turns ∙ e))

-- what is written of the file of an accepted job
module _ (b : List ℕ) (bytes : AreBytes b) (accepted : job_fault b ≡ None) where
  rows : Rows b
  rows = (accepted-rows b).0 accepted

  -- AS BYTES: the directory and the page table of the job, behind a header for no operations and no turns
  pub file-kept : encode_file (file_of b) ≡ header_bytes (header_for (file_of b) 0 0) ++ take (ops_offset (header_of b) - header_size) (drop header_size b)
  unfolding encode_file encode_job each ops_offset table_offset
  file-kept =
      simp (append-nil, append_assoc)
      (ap (λ s. header_bytes (header_for (file_of b) 0 0) ++ s)
      ((behind (directory_forth b bytes rows) (table_forth b bytes rows)).same
      ∙ ap (λ n. take n (drop header_size b)) between))
    where
      between : 2 * 2 ^ (header_of b).g + page_size (header_of b).c * (header_of b).limit ≡ ops_offset (header_of b) - header_size
      between = omega arith

  -- so the result's charge file, where there are no turns
  pub no_turns-bytes
      : (header_of b).turns ≡ 0
      → file_bytes (result (job_of b)).file ≡ header_bytes (header_for (file_of b) 0 0) ++ take (ops_offset (header_of b) - header_size) (drop header_size b)
  unfolding file_bytes job_of
  no_turns-bytes t = ap file_bytes (no_turns b t) ∙ file-kept

  -- a turn names an operation: without operations there are no turns
  pub no_ops_no_turns : (header_of b).ops ≡ 0 → (header_of b).turns ≡ 0
  no_ops_no_turns m = sym (counted b).turns ∙ none_below (job_of b).turns (accepted-turns b accepted)
    where
      none_below : (ts : List ℕ) → Each (λ t. t < length (job_of b).ops) ts → length ts ≡ 0
      none_below [] h = refl
      none_below (t ∷ ts) h = absurd (omega (arith, first h, (counted b).ops))

  -- a charge file, read and written, is the same bytes
  pub charge-file-kept : (header_of b).ops ≡ 0 → (header_of b).turns ≡ 0 → encode_file (file_of b) ≡ b
  unfolding encode_file job_of
  charge-file-kept m t = ap encode_job same ∙ encode-decode b bytes accepted
    where
      same : file_job (file_of b) ≡ job_of b
      same = rw (no_member (job_of b).ops ((counted b).ops ∙ m), no_member (job_of b).turns ((counted b).turns ∙ t))
