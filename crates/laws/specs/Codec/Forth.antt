-- The bytes of an accepted job are what is written of the job that they mean: encode_job (job_of b) is b.
use Rattle.std.specs.Prelude.{ℕ, zero, suc, ◌+◌, ◌-◌, ◌*◌, ◌^◌, ◌<◌, ◌≤◌, ◌≡◌, List, [], ◌∷◌, map, get_or, drop, replicate, None}
use Rattle.std.proofs.Math.Path.{refl}
use Rattle.std.proofs.Common.{arith}
use Rattle.std.proofs.Math.ListN.{length, length-drop}
use Rattle.std.proofs.lemmas.List.{length-map}
use Rattle.spec.specs.Basics.{if, each, Each}
use Rattle.spec.specs.Bytes.{AreBytes, byte, word, long, two, four, parts}
use Rattle.spec.specs.Job.{Header, kind_number, kind_of, page_size, table_offset, ops_offset, turns_offset, total}
use Rattle.spec.specs.Encode.{header_bytes, record_bytes, page_bytes, op_bytes, header_for, encode_job}
use Rattle.spec.specs.Decode.{header_of, entry_parts, page_parts, op_parts, turn_parts, number_of, record_of, page_of, op_of, file_of, job_of}
use Rattle.spec.specs.Check.{wrong_op, job_fault}
use Rattle.laws.specs.Tools.{each_imp}
use Rattle.laws.specs.Codec.Tools.{each_imp₂, each_places}
use Rattle.laws.specs.Codec.Parts.{length-parts, each_parts}
use Rattle.laws.specs.Codec.Numbers.{Whole, parts_whole, drop-bytes}
use Rattle.laws.specs.Codec.Pieces.{Piece, ◌then◌, all_of, two_bytes, two_word, four_long, zeros_piece}
use Rattle.laws.specs.Codec.Rows.{Rows, accepted-rows, Laid, header_said, counted}
use Rattle.laws.specs.Codec.Pages.{PageFine}
use Rattle.laws.specs.Codec.Ops.{OpFine, ops_said}
use Rattle.laws.specs.Codec.Accepted.{fine}

-- the parts of a section, each of which comes back as it was
section_forth
    : (b : List ℕ) → AreBytes b
    → {A : Type 0} (enc : A → List ℕ) (dec : List ℕ → A) (n size at : ℕ)
    → at + size * n ≤ length b
    → (Each (Whole size) (parts n size (drop at b)) → Each (λ p. enc (dec p) ≡ p) (parts n size (drop at b)))
    → Piece b (each enc (map dec (parts n size (drop at b)))) at (size * n)
section_forth b bytes enc dec n size at l h =
    record { same = each_parts enc size dec n (drop at b) (h (parts_whole n size (drop at b) (drop-bytes at b bytes) (rw length-drop (omega arith)))) }

pub kind_forth : (k : ℕ) → 1 ≤ k → k ≤ 3 → kind_number (kind_of k) ≡ k
unfolding kind_of kind_number if
kind_forth zero l u = absurd (omega arith)
kind_forth (suc zero) l u = refl
kind_forth (suc (suc zero)) l u = refl
kind_forth (suc (suc (suc zero))) l u = refl
kind_forth (suc (suc (suc (suc k)))) l u = absurd (omega arith)

-- a part, read and written again
number_forth : (p : List ℕ) → Whole 2 p → two (number_of p) ≡ p
unfolding number_of
number_forth p w = all_of (two_word p w.bytes 0 (omega (arith, w.size))) w.size

record_forth : (p : List ℕ) → Whole 8 p → record_bytes (record_of p) ≡ p
unfolding record_bytes record_of
record_forth p w = all_of (four_long p w.bytes 0 (omega (arith, w.size)) then four_long p w.bytes 4 (omega (arith, w.size))) w.size

op_forth : (p : List ℕ) → Whole 10 p → OpFine p → op_bytes (op_of p) ≡ p
unfolding op_bytes op_of
op_forth p w o =
    all_of (first then four_long p w.bytes 2 (omega (arith, w.size)) then four_long p w.bytes 6 (omega (arith, w.size))) w.size
  where
    first : Piece p (kind_number (kind_of (byte p 0)) ∷ 0 ∷ []) 0 2
    first = rw (kind_forth (byte p 0) o.kind.0 o.kind.1) (rw o.spare at (two_bytes p 0 (omega (arith, w.size))))

page_forth : (h : Header) (x : ℕ) (p : List ℕ) → Whole (page_size h.c) p → PageFine h x p → page_bytes h.c (page_of p) ≡ p
unfolding page_bytes page_of
page_forth h x p w q =
    rw (length-map, length-parts)
    (all_of (two_bytes p 0 (omega (arith, w.size)) then two_word p w.bytes 2 (omega (arith, w.size)) then records then rest) (omega (arith, w.size, q.count)))
  where
    records : Piece p (each record_bytes (map record_of (parts (byte p 1) 8 (drop 4 p)))) 4 (8 * byte p 1)
    records =
        section_forth p w.bytes record_bytes record_of (byte p 1) 8 4 (omega (arith, w.size, q.count)) (each_imp record_forth)

    rest : Piece p (replicate (8 * (h.c - byte p 1)) 0) (4 + 8 * byte p 1) (8 * (h.c - byte p 1))
    rest = zeros_piece p (4 + 8 * byte p 1) (8 * (h.c - byte p 1)) (rw length-drop (omega (arith, w.size, q.count))) q.rest

-- section by section
module _ (b : List ℕ) (bytes : AreBytes b) (rows : Rows b) where
  laid : Laid b
  laid = (header_said b).0 (rows.r1, rows.r2, rows.r4)

  header_forth : Piece b (header_bytes (header_of b)) 0 32
  unfolding header_bytes header_of
  header_forth =
      count 0 laid.first (omega arith)
      then two_bytes b 2 (omega (arith, laid.header))
      then count 4 refl (omega arith)
      then count 6 refl (omega arith)
      then count 8 refl (omega arith)
      then count 10 refl (omega arith)
      then offset 12 laid.directory (omega arith)
      then offset 16 laid.table (omega arith)
      then offset 20 laid.ops (omega arith)
      then offset 24 laid.turns (omega arith)
      then offset 28 laid.whole (omega arith)
    where
      count : (p : ℕ) {n : ℕ} → word b p ≡ n → p + 2 ≤ 32 → Piece b (two n) p 2
      count p e l = rw e at (two_word b bytes p (omega (arith, laid.header)))

      offset : (p : ℕ) {n : ℕ} → long b p ≡ n → p + 4 ≤ 32 → Piece b (four n) p 4
      offset p e l = rw e at (four_long b bytes p (omega (arith, laid.header)))

  pub directory_forth : Piece b (each two (file_of b).directory) 32 (2 * 2 ^ (header_of b).g)
  unfolding file_of entry_parts total turns_offset ops_offset table_offset
  directory_forth = section_forth b bytes two number_of (2 ^ (header_of b).g) 2 32 (omega (arith, laid.size)) (each_imp number_forth)

  -- each page by itself
  pub part_forth
      : (k : ℕ)
      → k < (header_of b).limit
      → page_bytes (header_of b).c (page_of (get_or (page_parts (header_of b) b) k [])) ≡ get_or (page_parts (header_of b) b) k []
  unfolding page_parts total turns_offset ops_offset
  part_forth k l =
      let room : page_size (header_of b).c * (header_of b).limit ≤ length (drop (table_offset (header_of b)) b) = rw length-drop (omega (arith, laid.size)) in
      let whole = parts_whole _ _ _ (drop-bytes (table_offset (header_of b)) b bytes) room in
      page_forth (header_of b) (suc k) _ ((each_places _ []).0 whole k (rw length-parts l)) (fine b rows k l)

  pub table_forth
      : Piece b (each (page_bytes (file_of b).c) (drop 1 (file_of b).table)) (table_offset (header_of b)) (page_size (header_of b).c * (header_of b).limit)
  unfolding file_of page_parts total turns_offset ops_offset
  table_forth =
      section_forth b bytes (page_bytes (header_of b).c) page_of (header_of b).limit (page_size (header_of b).c) (table_offset (header_of b)) (omega (arith, laid.size))
      (λ whole. (each_places _ []).1 (λ k l. part_forth k (rw length-parts at l)))

  ops_forth : Piece b (each op_bytes (job_of b).ops) (ops_offset (header_of b)) (10 * (header_of b).ops)
  unfolding job_of op_parts total turns_offset wrong_op
  ops_forth =
      section_forth b bytes op_bytes op_of (header_of b).ops 10 (ops_offset (header_of b)) (omega (arith, laid.size))
      (λ whole. each_imp₂ op_forth whole ((ops_said (header_of b) (op_parts (header_of b) b)).0 rows.r9))

  turns_forth : Piece b (each two (job_of b).turns) (turns_offset (header_of b)) (2 * (header_of b).turns)
  unfolding job_of turn_parts total
  turns_forth = section_forth b bytes two number_of (header_of b).turns 2 (turns_offset (header_of b)) (omega (arith, laid.size)) (each_imp number_forth)

  head_same : header_for (file_of b) (length (job_of b).ops) (length (job_of b).turns) ≡ header_of b
  unfolding header_for file_of
  head_same = rw ((counted b).ops, (counted b).turns)

  job_forth : encode_job (job_of b) ≡ b
  unfolding encode_job job_of total turns_offset ops_offset table_offset
  job_forth = rw head_same (all_of (header_forth then directory_forth then table_forth then ops_forth then turns_forth) laid.size)

-- WHAT IS ACCEPTED IS WHAT IS WRITTEN
pub encode-decode : (b : List ℕ) → AreBytes b → job_fault b ≡ None → encode_job (job_of b) ≡ b
encode-decode b bytes e = job_forth b bytes ((accepted-rows b).0 e)
