-- How each update of the memory is an update of the file or the locks that it shows: an entry, a range of locks, the pages in use, a page; and the
-- turn of a change, which neither has.
use Rattle.std.specs.Prelude.{◌≡◌, ◌⊎◌, List, Bool, false, ℕ, suc, ◌+◌, ◌^◌, ◌≤◌, ◌<◌, length, get_or, set}
use Rattle.std.proofs.Math.Path.{sym, ap}
use Rattle.std.proofs.Common.{◌∙◌, inl, inr, arith, get_or-set_same, get_or-set_other, pow_mono}
use Rattle.std.proofs.Math.Logic.{by_cases}
use Rattle.std.proofs.Math.Decide.{ℕ_discrete, dec_lt}
use Rattle.spec.specs.File.{Page, File, zero_page, page_at, entry_at}
use Rattle.spec.specs.Encode.{page_bytes}
use Rattle.spec.specs.Split.{digit}
use Rattle.spec.specs.Run.{fill}
use Rattle.spec.specs.Check.{work_size}
use Rattle.spec.specs.Proper.{Fit}
use Rattle.laws.specs.Turns.Ranges.{Span, span?, fill_in, fill_out}
use Rattle.wire.specs.Reads.{Apart}
use Rattle.memory.specs.Memory.{locks_at, used_at, turns_at, pages_at, entry_in, with_entry, lock_in, with_locks, used_in, with_used, turn_in, with_turn, place_of, part_in, with_page}
use Rattle.memory.specs.Within.{Within}
use Rattle.memory.specs.Beside.{Beside, entry_kept, lock_kept, used-kept, turn-kept, part_kept}
use Rattle.memory.specs.Written.{entry-written, entry_same, entry_other, locks-written, lock_same, lock_other, used-written, used_same, turn-written, page-written, part_same, part_other}
use Rattle.simulation.specs.Shown.{Picture}

-- an entry's number is below 256
pub entry_256 : (f : File) → Fit f → (j : ℕ) → j < 2 ^ f.g → j < 256
entry_256 f fit j l = let z = pow_mono {i = f.g} {j = 8} fit.depth in omega arith

-- the file with an entry, the pages in use, or a page written
abbrev pub with_directory : File → ℕ → ℕ → File
with_directory f j v = record { g = f.g; c = f.c; limit = f.limit; used = f.used; directory = set f.directory j v; table = f.table }

abbrev pub with_use : File → ℕ → File
with_use f u = record { g = f.g; c = f.c; limit = f.limit; used = u; directory = f.directory; table = f.table }

abbrev pub with_table : File → ℕ → Page → File
with_table f x p = record { g = f.g; c = f.c; limit = f.limit; used = f.used; directory = f.directory; table = set f.table x p }

-- ---- what a write leaves alone, where n bytes from place `at` on are written

abbrev pub SameTurns : List ℕ → List ℕ → Type 0
SameTurns w t = (e d : ℕ) → e < 256 → d < 8 → turn_in t e d ≡ turn_in w e d

turns_still : {at n : ℕ} {w t : List ℕ} → Beside at n w t → Apart turns_at 4096 at n → SameTurns w t
turns_still o (inl h) e d le ld = turn-kept o e d (inl (omega arith))
turns_still o (inr h) e d le ld = turn-kept o e d (inr (omega arith))

module _ (f : File) (l : List Bool) (w : List ℕ) (fit : Fit f) (h : Picture f l w) where
  in_memory : (x : ℕ) → x ≤ f.limit → Within w f.c x
  in_memory x p = record { size = h.long; capacity = fit.capacity.1; number = omega (arith, fit.most) }

  module _ {at n : ℕ} {t : List ℕ} (o : Beside at n w t) where
    still_long : work_size ≤ length t
    still_long = omega (arith, o.size, h.long)

    entries_still : locks_at ≤ at → (j : ℕ) → j < 2 ^ f.g → entry_in t j ≡ entry_at f j
    entries_still k j p = let m = entry_256 f fit j p in entry_kept o j (inl (omega arith)) ∙ h.entries j p

    locks_still : Apart locks_at 512 at n → (x : ℕ) → x ≤ f.limit → lock_in t x ≡ digit (get_or l x false)
    locks_still k x p = lock_kept o x (by k) ∙ h.locks x p
      where
        by : Apart locks_at 512 at n → Apart (locks_at + x) 1 at n
        by (inl q) = inl (omega arith)
        by (inr q) = inr (omega (arith, fit.most))

    used_still : Apart used_at 2 at n → used_in t ≡ f.used
    used_still k = used-kept o k ∙ h.used

    pages_still : at + n ≤ pages_at → (x : ℕ) → 1 ≤ x → x ≤ f.limit → part_in f.c t x ≡ page_bytes f.c (page_at f x)
    unfolding place_of
    pages_still k x a p = part_kept o (in_memory x p) (inr (omega arith)) ∙ h.pages x a p

  -- ---- each update

  pub picture_entry : (j v : ℕ) → j < 2 ^ f.g → v < 65536 → Picture (with_directory f j v) l (with_entry w j v)
  unfolding entry_at page_at
  picture_entry j v lj lv =
      let k = entry_256 f fit j lj in
      let o = entry-written w j v in
      record {
        long = still_long o;
        entries = λ q p.
            by_cases (ℕ_discrete q j)
            (λ (e : q ≡ j). rw e (entry_same w j v h.long k lv ∙ sym (get_or-set_same f.directory j v 0 (omega (arith, fit.size)))))
            (λ n. entry_other w j v q n ∙ h.entries q p ∙ sym (get_or-set_other f.directory j q v 0 n));
        locks = locks_still o (inr (omega arith));
        used = used_still o (inr (omega arith));
        pages = pages_still o (omega arith);
      }

  pub picture_turn : (e d v : ℕ) → e < 2 ^ f.g → d < 8 → Picture f l (with_turn w e d v)
  picture_turn e d v le ld =
      let k = entry_256 f fit e le in
      let o = turn-written w e d v in
      record {
        long = still_long o;
        entries = entries_still o (omega arith);
        locks = locks_still o (inl (omega arith));
        used = used_still o (inl (omega arith));
        pages = pages_still o (omega arith);
      }

  pub picture_locks
      : (a n : ℕ) (v : Bool)
      → a + n ≤ suc f.limit
      → length l ≡ suc f.limit
      → Picture f (fill l a n v) (with_locks w a n (digit v))
  picture_locks a n v la size =
      let o = locks-written w a n (digit v) in
      record {
        long = still_long o;
        entries = entries_still o (omega arith);
        locks = λ y p.
            by_cases (span? a n y)
            (λ s.
            lock_same w a n (digit v) y h.long (omega (arith, fit.most)) s.0 s.1
            ∙ ap digit (sym (fill_in l a n y v false (omega arith) s)))
            (λ s. lock_other w a n (digit v) y (aside s) ∙ h.locks y p ∙ ap digit (sym (fill_out l a n y v false s)));
        used = used_still o (inr (omega (arith, fit.most)));
        pages = pages_still o (omega (arith, fit.most));
      }
    where
      aside : {y : ℕ} → (Span a n y → ⊥) → (y < a) ⊎ (a + n ≤ y)
      aside {y} s = by_cases (dec_lt y a) inl (λ k. inr (by_cases (dec_lt y (a + n)) (λ u. absurd (s (omega arith))) (λ u. omega arith)))

  pub picture_used : (u : ℕ) → u < 65536 → Picture (with_use f u) l (with_used w u)
  unfolding entry_at page_at
  picture_used u lu =
      let o = used-written w u in
      record {
        long = still_long o;
        entries = entries_still o (omega arith);
        locks = locks_still o (inl (omega arith));
        used = used_same w u h.long lu;
        pages = pages_still o (omega arith);
      }

  pub picture_page : (x : ℕ) (p : Page) → x ≤ f.limit → length p.records ≤ f.c → Picture (with_table f x p) l (with_page f.c w x p)
  unfolding entry_at page_at place_of
  picture_page x p lx lp =
      let o = page-written w f.c x p lp in
      record {
        long = still_long o;
        entries = entries_still o (omega arith);
        locks = locks_still o (inl (omega arith));
        used = used_still o (inl (omega arith));
        pages = λ y a k.
            by_cases (ℕ_discrete y x)
            (λ (e : y ≡ x).
            rw e
            (part_same (in_memory x lx) p lp
            ∙ ap (page_bytes f.c) (sym (get_or-set_same f.table x p zero_page (omega (arith, fit.pages))))))
            (λ n.
            part_other (in_memory y k) x p lp n ∙ h.pages y a k
            ∙ ap (page_bytes f.c) (sym (get_or-set_other f.table x y p zero_page n)));
      }

-- ---- the turns of changes stay, but where one is written

pub entry-turns : (w : List ℕ) (j v : ℕ) → j < 256 → SameTurns w (with_entry w j v)
entry-turns w j v l = turns_still (entry-written w j v) (inr (omega arith))

pub locks-turns : (w : List ℕ) (a n v : ℕ) → a + n ≤ 257 → SameTurns w (with_locks w a n v)
locks-turns w a n v l = turns_still (locks-written w a n v) (inr (omega arith))

pub used-turns : (w : List ℕ) (v : ℕ) → SameTurns w (with_used w v)
used-turns w v = turns_still (used-written w v) (inr (omega arith))

pub page-turns : (w : List ℕ) (c x : ℕ) (p : Page) → length p.records ≤ c → SameTurns w (with_page c w x p)
unfolding place_of
page-turns w c x p h = turns_still (page-written w c x p h) (inl (omega arith))
