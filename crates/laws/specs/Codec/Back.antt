-- A job that is written comes back when it is read: job_of (encode_job j) is j.
use Rattle.std.specs.Prelude.{ℕ, ◌-◌, ◌*◌, ◌^◌, ◌<◌, ◌≤◌, ◌≡◌, refl, length, drop, replicate}
use Rattle.std.proofs.Common.{ap, ap₂, ◌∙◌}
use mathlib.Core.List.{List, [], ◌∷◌, ◌++◌, map}
use Rattle.spec.specs.declared.Kind.{Kind}
use Rattle.spec.specs.declared.Kind.TheVariants.{Search, Insert, Delete}
use Rattle.spec.specs.declared.Rec.{Rec}
use Rattle.spec.specs.declared.Op.{Op}
use Rattle.spec.specs.Basics.{if, each, Each, end, next}
use Rattle.spec.specs.Bytes.{byte, word, long, two, four, parts}
use Rattle.spec.specs.File.{Page, File, zero_page}
use Rattle.spec.specs.Job.{Job, Header, kind_number, kind_of}
use Rattle.spec.specs.Encode.{header_bytes, record_bytes, page_bytes, op_bytes, header_for, encode_job}
use Rattle.spec.specs.Decode.{header_of, number_of, record_of, page_of, op_of, file_of, job_of}
use Rattle.laws.specs.Tools.{each_imp}
use Rattle.laws.specs.Codec.Tools.{every}
use Rattle.laws.specs.Codec.Parts.{parts_each}
use Rattle.laws.specs.Codec.Numbers.{word_two, long_four}
use Rattle.laws.specs.Codec.Sections.{length_record, Sized, head_of, header_first, entries-written, pages-written, ops-written, turns-written}

-- numbers that fit their fields, and lists as long as the counts say
pub record RecFits (r : Rec) : Type 0 where
  pub call : r.call < 4294967296
  pub charge : r.charge < 4294967296

pub record PageFits (c : ℕ) (p : Page) : Type 0 where
  pub pattern : p.pattern < 65536
  pub count : length p.records ≤ c
  pub records : Each RecFits p.records

pub record OpFits (o : Op) : Type 0 where
  pub call : o.call < 4294967296
  pub charge : o.charge < 4294967296

pub record FileFits (f : File) : Type 0 where
  pub limit : f.limit < 65536
  pub used : f.used < 65536
  pub size : length f.directory ≡ 2 ^ f.g
  pub entries : Each (λ x. x < 65536) f.directory
  pub front : f.table ≡ zero_page ∷ drop 1 f.table
  pub count : length (drop 1 f.table) ≡ f.limit
  pub pages : Each (PageFits f.c) (drop 1 f.table)

pub record JobFits (j : Job) : Type 0 where
  pub file : FileFits j.file
  pub op_count : length j.ops < 65536
  pub ops : Each OpFits j.ops
  pub turn_count : length j.turns < 65536
  pub turns : Each (λ t. t < 65536) j.turns

-- one by one
pub number_back : (n : ℕ) → n < 65536 → number_of (two n) ≡ n
unfolding number_of two
number_back n h = word_two n [] h

pub record_back : (r : Rec) → RecFits r → record_of (record_bytes r) ≡ r
unfolding record_of record_bytes long word byte four two
record_back r h = λ i. record { call = long_four r.call [] h.call i; charge = long_four r.charge [] h.charge i }

pub map_back : {A : Type 0} (dec : List ℕ → A) (enc : A → List ℕ) {xs : List A} → Each (λ x. dec (enc x) ≡ x) xs → map dec (map enc xs) ≡ xs
map_back dec enc end = refl
map_back dec enc (next e es) = ap₂ ◌∷◌ e (map_back dec enc es)

pub page_back : (c : ℕ) (p : Page) → PageFits c p → page_of (page_bytes c p) ≡ p
unfolding page_of page_bytes byte word two
page_back c p h = λ i. record { depth = p.depth; pattern = word_two p.pattern [] h.pattern i; records = records i }
  where
    records : map record_of (parts (length p.records) 8 (each record_bytes p.records ++ replicate (8 * (c - length p.records)) 0)) ≡ p.records
    records =
        ap (map record_of) (parts_each record_bytes 8 p.records _ (every length_record p.records))
        ∙ map_back record_of record_bytes (each_imp record_back h.records)

pub kind_back : (k : Kind) → kind_of (kind_number k) ≡ k
unfolding kind_of kind_number if
kind_back Search = refl
kind_back Insert = refl
kind_back Delete = refl

pub op_back : (o : Op) → OpFits o → op_of (op_bytes o) ≡ o
unfolding op_of op_bytes long word byte four two
op_back o h =
    λ i. record { kind = kind_back o.kind i; call = long_four o.call [] h.call i; charge = long_four o.charge [] h.charge i }

header_back
    : (h : Header) (post : List ℕ) → h.limit < 65536 → h.used < 65536 → h.ops < 65536 → h.turns < 65536 → header_of (header_bytes h ++ post) ≡ h
unfolding header_of header_bytes word byte four two
header_back h post p u m t =
    λ i.
    record {
      g = h.g;
      c = h.c;
      limit = word_two h.limit [] p i;
      used = word_two h.used [] u i;
      ops = word_two h.ops [] m i;
      turns = word_two h.turns [] t i;
    }

module _ (j : Job) (fits : JobFits j) where
  pub sized : Sized j.file
  sized = record { directory = fits.file.size; table = fits.file.count; room = each_imp (λ p h. h.count) fits.file.pages }

  pub head_back : header_of (encode_job j) ≡ head_of j
  unfolding header_for
  head_back = rw (header_first j sized) (header_back (head_of j) _ fits.file.limit fits.file.used fits.op_count fits.turn_count)

  pub file_back : file_of (encode_job j) ≡ j.file
  unfolding file_of header_for
  file_back = rw (head_back, entries-written j sized, pages-written j sized, directory, pages, ← fits.file.front)
    where
      directory : map number_of (map two j.file.directory) ≡ j.file.directory
      directory = map_back number_of two (each_imp number_back fits.file.entries)

      pages : map page_of (map (page_bytes j.file.c) (drop 1 j.file.table)) ≡ drop 1 j.file.table
      pages = map_back page_of (page_bytes j.file.c) (each_imp (page_back j.file.c) fits.file.pages)

  -- WHAT IS WRITTEN COMES BACK
  pub decode-encode : job_of (encode_job j) ≡ j
  unfolding job_of
  decode-encode = rw (file_back, head_back, ops-written j sized, turns-written j sized, ops, turns)
    where
      ops : map op_of (map op_bytes j.ops) ≡ j.ops
      ops = map_back op_of op_bytes (each_imp op_back fits.ops)

      turns : map number_of (map two j.turns) ≡ j.turns
      turns = map_back number_of two (each_imp number_back fits.turns)
