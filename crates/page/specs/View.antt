-- The records that a page's bytes show, one by one.
use Rattle.std.specs.Prelude.{◌≡◌, refl, List, [], ◌∷◌, ◌++◌, map, ℕ, zero, suc, ◌+◌, ◌-◌, ◌*◌, ◌≤◌, ◌<◌, length, take, drop}
use Rattle.std.proofs.Common.{ap, ◌∙◌, append_assoc, add-zero, add-one, arith, drop-drop}
use Rattle.std.proofs.Math.Nat.{sub-zero}
use Rattle.spec.specs.declared.Rec.{Rec}
use Rattle.spec.specs.Bytes.{byte, long, parts}
use Rattle.spec.specs.Job.{record_size}
use Rattle.spec.specs.Decode.{record_of, page_of}
use Rattle.laws.specs.Codec.Parts.{long_in}

-- record number i of a page, from 0, whether or not the page counts it
unfoldable pub record_at : List ℕ → ℕ → Rec
record_at s i = record_of (take record_size (drop (4 + record_size * i) s))

-- read where it stands
pub record_read : (s : List ℕ) (i : ℕ) → record_at s i ≡ record { call = long s (4 + 8 * i); charge = long s (8 + 8 * i) }
unfolding record_at record_of
record_read s i =
    let e : 4 + 8 * i + 0 ≡ 4 + 8 * i = omega arith in
    let f : 4 + 8 * i + 4 ≡ 8 + 8 * i = omega arith in
    rw (long_in 8 (4 + 8 * i) s 0 (omega arith), long_in 8 (4 + 8 * i) s 4 (omega arith), e, f)

-- n records, from number i on
unfoldable pub records_from : List ℕ → ℕ → ℕ → List Rec
records_from s i n = map record_of (parts n record_size (drop (4 + record_size * i) s))

pub records_all : (s : List ℕ) → (page_of s).records ≡ records_from s 0 (byte s 1)
unfolding page_of records_from
records_all s = refl

pub records-none : (s : List ℕ) (i : ℕ) → records_from s i 0 ≡ []
unfolding records_from parts
records-none s i = refl

pub records-cons : (s : List ℕ) (i n : ℕ) → records_from s i (suc n) ≡ record_at s i ∷ records_from s (suc i) n
unfolding records_from record_at parts
records-cons s i n =
    let e : 4 + 8 * i + 8 ≡ 4 + 8 * suc i = omega arith in
    rw (drop-drop 8 (4 + 8 * i) s, e)

pub records_snoc : (s : List ℕ) (i n : ℕ) → records_from s i (suc n) ≡ records_from s i n ++ (record_at s (i + n) ∷ [])
records_snoc s i zero = rw (records-cons s i 0, records-none s (suc i), records-none s i, add-zero)
records_snoc s i (suc n) =
    let e : i + suc n ≡ suc i + n = omega arith in
    rw (records-cons s i (suc n), records_snoc s (suc i) n, records-cons s i n, e)

pub records-length : (s : List ℕ) (i n : ℕ) → length (records_from s i n) ≡ n
records-length s i zero = rw (records-none s i)
records-length s i (suc n) = rw (records-cons s i n) (ap suc (records-length s (suc i) n))

-- ---- a loop over n records has passed i of them: what is left

pub left_all : (s : List ℕ) (n : ℕ) → n ≡ byte s 1 → (page_of s).records ≡ records_from s 0 (n - 0)
left_all s n e = rw (sub-zero n, e) (records_all s)

pub left_more : (s : List ℕ) (i n : ℕ) → i < n → records_from s i (n - i) ≡ record_at s i ∷ records_from s (i + 1) (n - (i + 1))
left_more s i n h =
    let e : n - i ≡ suc (n - (i + 1)) = omega arith in
    rw (e, records-cons s i (n - (i + 1)), add-one)

pub left_none : (s : List ℕ) (i n : ℕ) → n ≤ i → records_from s i (n - i) ≡ []
left_none s i n h =
    let e : n - i ≡ 0 = omega arith in
    rw (e, records-none s i)

-- the n are those passed, and what is left
pub left_join : (s : List ℕ) (i n : ℕ) → i ≤ n → records_from s 0 n ≡ records_from s 0 i ++ records_from s i (n - i)
left_join s zero n h = rw (records-none s 0, sub-zero n)
left_join s (suc i) n h =
    let e : n - i ≡ suc (n - suc i) = omega arith in
    let at : 0 + i ≡ i = omega arith in
    left_join s i n (omega arith) ∙ rw (e, records-cons s i (n - suc i), records_snoc s 0 i, at, append_assoc)
