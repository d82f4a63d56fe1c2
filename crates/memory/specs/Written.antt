-- What each writer of the memory does: where it writes, with `Beside`, so that what lies beside reads as before; and what is then read at the place.
use Rattle.std.specs.Prelude.{◌≡◌, refl, ◌⊎◌, List, ℕ, ◌+◌, ◌-◌, ◌*◌, ◌≤◌, ◌<◌, length, replicate}
use Rattle.std.proofs.Math.Path.{ap}
use Rattle.std.proofs.Common.{◌∙◌, inl, inr, ⊎_elim, arith}
use Rattle.std.proofs.Math.Logic.{by_cases}
use Rattle.std.proofs.Math.Decide.{dec_lt}
use Rattle.std.proofs.lemmas.List.{length-replicate, get_or-replicate}
use Rattle.spec.specs.Bytes.{byte, two}
use Rattle.spec.specs.File.{Page}
use Rattle.spec.specs.Job.{page_size}
use Rattle.spec.specs.Check.{work_size}
use Rattle.spec.specs.Encode.{page_bytes}
use Rattle.spec.specs.Decode.{page_of}
use Rattle.wire.specs.Reads.{Apart, byte_over, word_put}
use Rattle.wire.specs.Parts.{part_over}
use Rattle.laws.specs.Codec.Back.{PageFits, page_back}
use Rattle.laws.specs.Codec.Sections.{length-page}
use Rattle.memory.specs.Memory.{locks_at, used_at, turns_at, entry_in, with_entry, lock_in, with_locks, used_in, with_used, turn_in, with_turn, place_of, part_in, page_in, with_page}
use Rattle.memory.specs.Within.{Within}
use Rattle.memory.specs.Places.{place_behind, part_fits}
use Rattle.memory.specs.Beside.{Beside, beside, entry_kept, lock_kept, turn-kept, part_kept, page-kept}

-- one of two different numbers is the lower
different : (a b : ℕ) → (a ≡ b → ⊥) → (a < b) ⊎ (b < a)
different a b n = by_cases (dec_lt a b) inl (λ h. inr (omega arith))

-- ---- an entry

pub entry-written : (w : List ℕ) (j v : ℕ) → Beside (2 * j) 2 w (with_entry w j v)
unfolding with_entry two
entry-written w j v = beside w (two v) (2 * j) 2 refl

pub entry_same : (w : List ℕ) (j v : ℕ) → work_size ≤ length w → j < 256 → v < 65536 → entry_in (with_entry w j v) j ≡ v
unfolding entry_in with_entry
entry_same w j v s h k = word_put w (2 * j) v (omega arith) k

pub entry_other : (w : List ℕ) (j v i : ℕ) → (i ≡ j → ⊥) → entry_in (with_entry w j v) i ≡ entry_in w i
entry_other w j v i n =
    entry_kept (entry-written w j v) i (⊎_elim (λ h. inl (omega arith)) (λ h. inr (omega arith)) (different i j n))

-- ---- locks

pub locks-written : (w : List ℕ) (x n v : ℕ) → Beside (locks_at + x) n w (with_locks w x n v)
unfolding with_locks
locks-written w x n v = beside w (replicate n v) (locks_at + x) n (length-replicate n v)

pub lock_same
    : (w : List ℕ) (x n v y : ℕ)
    → work_size ≤ length w
    → x + n ≤ 257
    → x ≤ y
    → y < x + n
    → lock_in (with_locks w x n v) y ≡ v
unfolding lock_in with_locks byte
lock_same w x n v y s h k l =
    let e : locks_at + y ≡ locks_at + x + (y - x) = omega arith in
    let long : length (replicate n v) ≡ n = length-replicate n v in
    rw e (byte_over (replicate n v) w (locks_at + x) (y - x) (omega arith) (omega arith) ∙ get_or-replicate n (y - x) v 0 (omega arith))

pub lock_other : (w : List ℕ) (x n v y : ℕ) → (y < x) ⊎ (x + n ≤ y) → lock_in (with_locks w x n v) y ≡ lock_in w y
lock_other w x n v y (inl h) = lock_kept (locks-written w x n v) y (inl (omega arith))
lock_other w x n v y (inr h) = lock_kept (locks-written w x n v) y (inr (omega arith))

-- ---- the pages in use

pub used-written : (w : List ℕ) (v : ℕ) → Beside used_at 2 w (with_used w v)
unfolding with_used two
used-written w v = beside w (two v) used_at 2 refl

pub used_same : (w : List ℕ) (v : ℕ) → work_size ≤ length w → v < 65536 → used_in (with_used w v) ≡ v
unfolding used_in with_used
used_same w v s k = word_put w used_at v (omega arith) k

-- ---- the turn of a change

pub turn-written : (w : List ℕ) (e d v : ℕ) → Beside (turns_at + 2 * (8 * e + d)) 2 w (with_turn w e d v)
unfolding with_turn two
turn-written w e d v = beside w (two v) (turns_at + 2 * (8 * e + d)) 2 refl

pub turn_same : (w : List ℕ) (e d v : ℕ) → work_size ≤ length w → e < 256 → d < 8 → v < 65536 → turn_in (with_turn w e d v) e d ≡ v
unfolding turn_in with_turn
turn_same w e d v s h k l = word_put w (turns_at + 2 * (8 * e + d)) v (omega arith) l

pub turn_other
    : (w : List ℕ) (e d v a b : ℕ)
    → d < 8
    → b < 8
    → ((a ≡ e) × (b ≡ d) → ⊥)
    → turn_in (with_turn w e d v) a b ≡ turn_in w a b
turn_other w e d v a b h k n =
    turn-kept (turn-written w e d v) a b
    (⊎_elim (λ l. inl (omega arith)) (λ l. inr (omega arith)) (different (8 * a + b) (8 * e + d) (λ q. n (omega arith))))

-- ---- a page. Its bytes are as many as they should be where its records are no more than c

pub page-written : (w : List ℕ) (c x : ℕ) (p : Page) → length p.records ≤ c → Beside (place_of c x) (page_size c) w (with_page c w x p)
unfolding with_page
page-written w c x p h = beside w (page_bytes c p) (place_of c x) (page_size c) (length-page c p h)

module _ {w : List ℕ} {c x : ℕ} (o : Within w c x) where
  pub part_same : (p : Page) → length p.records ≤ c → part_in c (with_page c w x p) x ≡ page_bytes c p
  unfolding part_in with_page
  part_same p h = part_over w (page_bytes c p) (place_of c x) (page_size c) (length-page c p h) (part_fits o)

  pub page_same : (p : Page) → PageFits c p → page_in c (with_page c w x p) x ≡ p
  unfolding page_in
  page_same p h = ap page_of (part_same p h.count) ∙ page_back c p h

  aside : (y : ℕ) → (x ≡ y → ⊥) → Apart (place_of c x) (page_size c) (place_of c y) (page_size c)
  aside y n = ⊎_elim (λ h. inl (place_behind c x y h)) (λ h. inr (place_behind c y x h)) (different x y n)

  pub part_other : (y : ℕ) (p : Page) → length p.records ≤ c → (x ≡ y → ⊥) → part_in c (with_page c w y p) x ≡ part_in c w x
  part_other y p h n = part_kept (page-written w c y p h) o (aside y n)

  pub page_other : (y : ℕ) (p : Page) → length p.records ≤ c → (x ≡ y → ⊥) → page_in c (with_page c w y p) x ≡ page_in c w x
  page_other y p h n = page-kept (page-written w c y p h) o (aside y n)
