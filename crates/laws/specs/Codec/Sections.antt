-- What is written of a job, section by section: how long each thing is, where each section begins, and the parts that are found there.
-- Asked of the job is only that directory, table and pages have their sizes (`Sized`).
use Rattle.std.specs.Prelude.{ℕ, ◌*◌, ◌^◌, ◌≤◌, ◌≡◌, length, drop}
use Rattle.std.proofs.Math.Path.{refl}
use mathlib.Core.List.{List, [], ◌++◌, map, append_assoc, append-nil}
use Rattle.std.proofs.Common.{arith, length-append, drop_at}
use Rattle.std.proofs.lemmas.List.{length-replicate}
use Rattle.spec.specs.declared.Rec.{Rec}
use Rattle.spec.specs.declared.Op.{Op}
use Rattle.spec.specs.Basics.{each, Each}
use Rattle.spec.specs.Bytes.{two, four, parts}
use Rattle.spec.specs.File.{Page, File}
use Rattle.spec.specs.Job.{Job, Header, record_size, page_size, op_size, header_size, table_offset, ops_offset, turns_offset, total}
use Rattle.spec.specs.Encode.{header_bytes, record_bytes, page_bytes, op_bytes, header_for, encode_job}
use Rattle.spec.specs.Decode.{entry_parts, page_parts, op_parts, turn_parts}
use Rattle.laws.specs.Tools.{each_imp}
use Rattle.laws.specs.Codec.Tools.{every}
use Rattle.laws.specs.Codec.Parts.{length_each, parts_each}

-- widths
pub length_two : (n : ℕ) → length (two n) ≡ 2
unfolding two
length_two n = refl

pub length_four : (n : ℕ) → length (four n) ≡ 4
unfolding four two
length_four n = refl

pub length_header : (h : Header) → length (header_bytes h) ≡ header_size
unfolding header_bytes two four
length_header h = refl

pub length_record : (r : Rec) → length (record_bytes r) ≡ record_size
unfolding record_bytes four two
length_record r = refl

pub length-records : (rs : List Rec) → length (each record_bytes rs) ≡ record_size * length rs
length-records rs = length_each record_bytes record_size rs (every length_record rs)

pub length-op : (o : Op) → length (op_bytes o) ≡ op_size
unfolding op_bytes four two
length-op o = refl

pub length-ops : (os : List Op) → length (each op_bytes os) ≡ op_size * length os
length-ops os = length_each op_bytes op_size os (every length-op os)

pub length-page : (c : ℕ) (p : Page) → length p.records ≤ c → length (page_bytes c p) ≡ page_size c
unfolding page_bytes two
length-page c p l =
    rw (length-append, length-records, length-replicate) (omega arith)

-- a section of b: the things xs, written one behind another, that stand behind `before`
pub section
    : {A : Type 0} (enc : A → List ℕ) (size : ℕ) {n at : ℕ} {xs : List A} {b : List ℕ} (before after : List ℕ)
    → Each (λ x. length (enc x) ≡ size) xs
    → length xs ≡ n
    → length before ≡ at
    → b ≡ before ++ (each enc xs ++ after)
    → parts n size (drop at b) ≡ map enc xs
section enc size {n = n} {at = at} {xs = xs} before after wide count start e =
    rw (e, drop_at before _ at start, ← count) (parts_each enc size xs after wide)

-- a file whose lists have the sizes that its header tells
pub record Sized (f : File) : Type 0 where
  pub directory : length f.directory ≡ 2 ^ f.g
  pub table : length (drop 1 f.table) ≡ f.limit
  pub room : Each (λ p. length p.records ≤ f.c) (drop 1 f.table)

-- the header that is written of a job
abbrev pub head_of : Job → Header
head_of j = header_for j.file (length j.ops) (length j.turns)

-- header, directory, table, operations and turns, as they are written
module _ (j : Job) (sized : Sized j.file) where
  abbrev H : List ℕ
  H = header_bytes (head_of j)

  abbrev D : List ℕ
  D = each two j.file.directory

  abbrev T : List ℕ
  T = each (page_bytes j.file.c) (drop 1 j.file.table)

  abbrev O : List ℕ
  O = each op_bytes j.ops

  abbrev U : List ℕ
  U = each two j.turns

  wide : Each (λ p. length (page_bytes j.file.c p) ≡ page_size j.file.c) (drop 1 j.file.table)
  wide = each_imp (length-page j.file.c) sized.room

  to_table : length (H ++ D) ≡ table_offset (head_of j)
  unfolding table_offset header_for
  to_table = rw (length-append, length_header, length_each two 2 _ (every length_two _), sized.directory)

  to_ops : length (H ++ D ++ T) ≡ ops_offset (head_of j)
  unfolding ops_offset header_for
  to_ops = rw (length-append, to_table, length_each _ _ _ wide, sized.table)

  to_turns : length (H ++ D ++ T ++ O) ≡ turns_offset (head_of j)
  unfolding turns_offset header_for
  to_turns = rw (length-append, to_ops, length-ops)

  -- the length that the header tells
  pub length-job : length (encode_job j) ≡ total (head_of j)
  unfolding total encode_job header_for
  length-job = rw (length-append, to_turns, length_each two 2 _ (every length_two _))

  -- the header stands first
  pub header_first : encode_job j ≡ H ++ (D ++ (T ++ (O ++ U)))
  unfolding encode_job
  header_first = simp append_assoc

  pub entries-written : entry_parts (head_of j) (encode_job j) ≡ map two j.file.directory
  unfolding entry_parts encode_job header_for
  entries-written =
      section two 2 {b = encode_job j} H (T ++ (O ++ U)) (every length_two j.file.directory) sized.directory (length_header (head_of j))
      (simp append_assoc)

  pub pages-written : page_parts (head_of j) (encode_job j) ≡ map (page_bytes j.file.c) (drop 1 j.file.table)
  unfolding page_parts encode_job header_for
  pages-written = section (page_bytes j.file.c) (page_size j.file.c) (H ++ D) (O ++ U) wide sized.table to_table (simp append_assoc)

  pub ops-written : op_parts (head_of j) (encode_job j) ≡ map op_bytes j.ops
  unfolding op_parts encode_job header_for
  ops-written = section op_bytes 10 (H ++ D ++ T) U (every length-op j.ops) refl to_ops (simp append_assoc)

  pub turns-written : turn_parts (head_of j) (encode_job j) ≡ map two j.turns
  unfolding turn_parts encode_job header_for
  turns-written = section two 2 (H ++ D ++ T ++ O) [] (every length_two j.turns) refl to_turns (simp (append_assoc, append-nil))
