-- What a write leaves alone: every read that lies beside it. The bounds are numbers, so one law a reader serves every writer.
use Rattle.std.specs.Prelude.{◌≡◌, List, ℕ, ◌+◌, ◌*◌, length}
use Rattle.std.proofs.Math.Path.{sym, ap}
use Rattle.std.proofs.Common.{◌∙◌, arith}
use Rattle.spec.specs.Bytes.{byte, word}
use Rattle.spec.specs.Job.{page_size}
use Rattle.spec.specs.Decode.{page_of}
use Rattle.laws.specs.Codec.Parts.{byte_in}
use Rattle.wire.specs.Over.{over}
use Rattle.wire.specs.OverLaws.{length_over}
use Rattle.wire.specs.Reads.{Apart, byte_over_other, word_same, near}
use Rattle.wire.specs.Parts.{same_bytes}
use Rattle.memory.specs.Memory.{locks_at, used_at, turns_at, entry_in, lock_in, used_in, turn_in, place_of, part_in, page_in}
use Rattle.memory.specs.Within.{Within}
use Rattle.memory.specs.Places.{part_length}

-- n bytes of w, from place `at` on, may have become others in t, and no other byte has
pub record Beside (at n : ℕ) (w t : List ℕ) : Type 0 where
  pub size : length t ≡ length w
  pub bytes : (k : ℕ) → Apart k 1 at n → byte t k ≡ byte w k

pub beside : (w x : List ℕ) (at n : ℕ) → length x ≡ n → Beside at n w (over w at x)
beside w x at n e = record { size = length_over w at x; bytes = λ k h. byte_over_other x w at k (rw e h) }

module _ {at n : ℕ} {w t : List ℕ} (o : Beside at n w t) where
  word_kept : (k : ℕ) → Apart k 2 at n → word t k ≡ word w k
  word_kept k h = word_same t w k k (λ j l. o.bytes (k + j) (near k at n 2 j h l))

  pub entry_kept : (j : ℕ) → Apart (2 * j) 2 at n → entry_in t j ≡ entry_in w j
  unfolding entry_in
  entry_kept j h = word_kept (2 * j) h

  pub lock_kept : (x : ℕ) → Apart (locks_at + x) 1 at n → lock_in t x ≡ lock_in w x
  unfolding lock_in
  lock_kept x h = o.bytes (locks_at + x) h

  pub used-kept : Apart used_at 2 at n → used_in t ≡ used_in w
  unfolding used_in
  used-kept h = word_kept used_at h

  pub turn-kept : (e d : ℕ) → Apart (turns_at + 2 * (8 * e + d)) 2 at n → turn_in t e d ≡ turn_in w e d
  unfolding turn_in
  turn-kept e d h = word_kept (turns_at + 2 * (8 * e + d)) h

  pub within-kept : {c x : ℕ} → Within w c x → Within t c x
  within-kept h = record { size = omega (arith, o.size, h.size); capacity = h.capacity; number = h.number }

  pub part_kept : {c x : ℕ} → Within w c x → Apart (place_of c x) (page_size c) at n → part_in c t x ≡ part_in c w x
  part_kept {c} {x} i h =
      same_bytes (part_in c t x) (part_in c w x) (page_size c) (part_length (within-kept i)) (part_length i)
      (λ j l. unfold part_in in byte_in (page_size c) (place_of c x) t j l ∙ o.bytes (place_of c x + j) (near (place_of c x) at n (page_size c) j h l) ∙ sym (byte_in (page_size c) (place_of c x) w j l))

  pub page-kept : {c x : ℕ} → Within w c x → Apart (place_of c x) (page_size c) at n → page_in c t x ≡ page_in c w x
  unfolding page_in
  page-kept i h = ap page_of (part_kept i h)
