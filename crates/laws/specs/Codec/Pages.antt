-- Rows 12, 6 and 13, said of the bytes of each page; and what is read of a page that they do not refuse.
use Rattle.std.proofs.Math.Logic.Iff
use Rattle.std.specs.Prelude.{ℕ, suc, ◌+◌, ◌*◌, ◌^◌, ◌<◌, ◌≤◌, ◌≡◌, ◌↔◌, List, [], true, length, get_or, drop, None}
use Rattle.std.proofs.Math.Logic.{by_cases}
use Rattle.std.proofs.Common.{arith, lt-ltb, le-ltb}
use Rattle.std.proofs.Math.Decide.{dec_le}
use Rattle.std.proofs.lemmas.List.{length-map}
use Rattle.std.proofs.Math.ListN.{get_or-map}
use Rattle.spec.specs.Basics.{if, first_of}
use Rattle.spec.specs.Bytes.{byte, word, parts}
use Rattle.spec.specs.File.{zero_page, page_at}
use Rattle.spec.specs.Job.{Header, record_size}
use Rattle.spec.specs.Decode.{header_of, page_parts, page_of, file_of}
use Rattle.spec.specs.Check.{wrong_pattern, over_count, not_cleared, page_fault}
use Rattle.spec.specs.Proper.{PageOk}
use Rattle.laws.specs.Codec.Tools.{failed, among_none, among_end, numbered-none, row-none, row_end}
use Rattle.laws.specs.Codec.Walk.{first-none, first_from_1}
use Rattle.laws.specs.Codec.Parts.{length-parts}
use Rattle.laws.specs.Codec.Zeros.{zeros, not-zero-none, zeros_byte, zeros_drop}
use Rattle.laws.specs.Codec.Records.{RecordsOk}

-- the bytes p of page x pass
pub record PageFine (h : Header) (x : ℕ) (p : List ℕ) : Type 0 where
  pub deep : byte p 0 ≤ h.g
  pub small : word p 2 < 2 ^ byte p 0
  pub count : byte p 1 ≤ h.c
  pub rest : zeros (drop (4 + record_size * byte p 1) p) ≡ true
  pub unused : h.used < x → zeros p ≡ true

page-used : (h : Header) (x : ℕ) (p : List ℕ) → x ≤ h.used → page_fault h x p ≡ None ↔ PageFine h x p
unfolding page_fault if wrong_pattern over_count not_cleared
page-used h x p l =
    rw (le-ltb _ _ l)
    (simp (row-none, row_end, numbered-none, among_none, among_end, not-zero-none, failed)
    (λ e. record { deep = e.0.0; small = e.0.1.0; count = e.1.0; rest = e.1.1.0; unused = λ u. absurd (omega arith) }, λ r. search))

-- a page that is zero passes rows 12 and 6 too
page-unused : (h : Header) (x : ℕ) (p : List ℕ) → h.used < x → page_fault h x p ≡ None ↔ PageFine h x p
unfolding page_fault if word
page-unused h x p l =
    rw (lt-ltb _ _ l) (simp (row-none, row_end, numbered-none, not-zero-none) (λ e. zeroed e.0, λ r. (r.unused l, tt)))
  where
    zeroed : zeros p ≡ true → PageFine h x p
    zeroed e =
        record {
          deep = rw (zeros_byte p e 0) (omega arith);
          small = rw (zeros_byte p e 0, zeros_byte p e 2, zeros_byte p e (2 + 1)) (omega arith);
          count = rw (zeros_byte p e 1) (omega arith);
          rest = zeros_drop p (4 + record_size * byte p 1) e;
          unused = λ u. e;
        }

pub page-fine : (h : Header) (x : ℕ) (p : List ℕ) → page_fault h x p ≡ None ↔ PageFine h x p
page-fine h x p = by_cases (dec_le x h.used) (page-used h x p) (λ n. page-unused h x p (omega arith))

-- rows 12, 6 and 13
pub pages_said
    : (h : Header) (ps : List (List ℕ)) → first_of (page_fault h) 1 ps ≡ None ↔ ((k : ℕ) → k < length ps → PageFine h (suc k) (get_or ps k []))
pages_said h ps = simp (first_from_1, first-none (λ x. page_fault h (suc x)) ps [], page-fine) Iff.rfl

-- the page that is read: as many records as its bytes count
pub records-count : (p : List ℕ) → length (page_of p).records ≡ byte p 1
unfolding page_of
records-count p = rw (length-map, length-parts)

pub page_proper : {h : Header} {x : ℕ} {p : List ℕ} → PageFine h x p → RecordsOk (page_of p) → PageOk h.g h.c (page_of p)
unfolding page_of
page_proper fine r =
    record { deep = fine.deep; small = fine.small; room = rw records-count fine.count; homed = r.homed; calls_rise = r.calls_rise }

pub zero-page : (p : List ℕ) → zeros p ≡ true → page_of p ≡ zero_page
unfolding page_of word parts
zero-page p e = rw (zeros_byte p e 0, zeros_byte p e 1, zeros_byte p e 2, zeros_byte p e (2 + 1))

pub length-pages : (h : Header) (b : List ℕ) → length (page_parts h b) ≡ h.limit
unfolding page_parts
length-pages h b = length-parts _ _ _

pub page_at_lem : (b : List ℕ) (k : ℕ) → page_at (file_of b) (suc k) ≡ page_of (get_or (page_parts (header_of b) b) k [])
unfolding page_at file_of page_of word byte parts
page_at_lem b k = get_or-map page_of (page_parts (header_of b) b) k []
