-- The turns are over and all operations are told: what closing asks is there, and what it writes is the job's result.
use mathlib.Core.Path.{◌≡◌, sym, ap, ◌∙◌}
use mathlib.Core.List.{List, ◌++◌}
use Prim.Native.Nat.{ℕ, zero, suc, ◌^◌, ◌≤◌, ◌<◌}
use native.Mathlib.Numerals.{add-one}
use native.Mathlib.Omega.{arith}
use lib.ListN.{length, get_or, drop}
use Rattle.spec.specs.Code.{not_yet}
use Rattle.spec.specs.Decode.{job_of}
use Rattle.spec.specs.State.{State, gone}
use Rattle.spec.specs.Run.{row_of, run}
use Rattle.spec.specs.Result.{result_of, result}
use Rattle.spec.specs.Check.{work_size, result_size}
use Rattle.spec.specs.Claims.{state_at}
use Rattle.spec.specs.Outcome.{result_bytes}
use Rattle.laws.specs.Turns.Sizes.{run_shaped}
use Rattle.laws.specs.Turns.PageTold.{untold, page-small}
use Rattle.laws.specs.Turns.States.{state_at_end, run_now}
use Rattle.laws.specs.Turns.Whole.{Whole, end_whole}
use Rattle.header.specs.declared.Header.{Header}
use Rattle.header.specs.Counts.{counts_of}
use Rattle.turn.specs.Rows.{row_image, blank_row}
use Rattle.simulation.specs.Shown.{Shown}
use Rattle.result.specs.Finish.{FileShown, Ready, Finished}
use Rattle.result.specs.Image.{PageKept, tells}
use Rattle.result.specs.Telling.{Telling, none_told, one_told, ready, buffer}
use Rattle.table.specs.Turns.{Both}
use Rattle.table.specs.Told.{Told, told, tell_row, tell_rows}
use Rattle.run.specs.Table.{Accepts, Running}
use Rattle.run.proofs.Known.{proper, heads, ops_are, turns_are, depth_is, capacity_is, pages_are}

module _ {h : Header} {b : List ℕ} (a : Accepts h b) where
  abbrev s : State
  s = run (job_of b)

  ended : state_at (job_of b) h.turns ≡ s
  ended = rw (← turns_are a) (state_at_end (job_of b))

  whole : Whole (job_of b) s
  whole = end_whole (job_of b) (proper a).file

  rows_are : length s.rows ≡ h.ops
  rows_are = whole.rows ∙ ops_are a

  moment_past : (i : ℕ) → ((row_of s i).code ≡ not_yet → ⊥) → (row_of s i).moment < s.now
  moment_past i n = (whole.past.right i n).1

  page-kept : (i : ℕ) → PageKept (row_of s i)
  page-kept i = record { untold = untold (job_of b) (proper a).file i; most = page-small (job_of b) (proper a).file i }

  turns-few : s.now ≤ 16384
  turns-few = omega (arith, run_now (job_of b), (proper a).turn_count)

  module _ {o : Both} (r : Running (job_of b) h.turns o) where
    shown : Shown s o.work
    shown = rw ended at r.shown

    row_is : (i : ℕ) → i < h.ops → row_image (get_or s.rows i gone) ≡ get_or o.rows i blank_row
    unfolding row_of
    row_is i l = sym (rw ended at (r.table i (rw (ops_are a) l)))

    -- the first i operations are told
    module _ (x : List ℕ) where
      abbrev TellingBy : ℕ → Told → Type 0
      TellingBy i q = Telling s.rows i x o.work q.result q.work q.under

      one_more : (i : ℕ) (q : Told) → i < h.ops → TellingBy i q → TellingBy (suc i) (tell_row (get_or o.rows i blank_row) i q)
      unfolding tell_row row_of
      one_more i q l t =
          let w : work_size ≤ length q.work = omega (arith, shown.picture.long, t.rest.size) in
          rw (add-one i) at
          (one_told (omega (arith, rows_are)) (omega (arith, (heads a).limits.ops)) w (λ n. omega (arith, moment_past i n, turns-few)) t
          (tells (get_or s.rows i gone) (get_or o.rows i blank_row) i q.result q.work (row_is i l) (page-kept i)))

      telling : (i : ℕ) → i ≤ h.ops → TellingBy i (tell_rows o.rows i (told x o.work 0))
      unfolding tell_rows
      telling zero l = none_told s.rows x o.work
      telling (suc i) l = one_more i (tell_rows o.rows i (told x o.work 0)) (omega arith) (telling i (omega arith))

    file : FileShown s.file h.depth h.capacity h.pages o.work
    file =
        let z = run_shaped (job_of b) in
        let f = whole.good.fit in
        let deep : s.file.g ≡ h.depth = z.depth ∙ depth_is a in
        let size : s.file.c ≡ h.capacity = z.capacity ∙ capacity_is a in
        let many : s.file.limit ≡ h.pages = z.limit ∙ pages_are a in
        record {
          depth = deep;
          capacity = size;
          limit = many;
          used = shown.picture.used;
          entries = λ j l. shown.picture.entries j (rw deep l);
          pages = λ y l k. rw size at (shown.picture.pages y l (rw many k));
          directory = f.size ∙ ap (λ (n : ℕ). 2 ^ n) deep;
          table = f.pages ∙ ap suc many;
        }

    module _ (x : List ℕ) (long : result_size (counts_of h) ≤ length x) {q : Told} (e : q ≡ tell_rows o.rows h.ops (told x o.work 0)) where
      all : Telling s.rows h.ops x o.work q.result q.work q.under
      all = rw e (telling x h.ops (omega arith))

      pub told_sizes : (length q.result ≡ length x) × (length q.work ≡ length o.work)
      told_sizes = (all.size, all.rest.size)

      pub is_ready : Ready s h.depth h.capacity h.pages h.ops q.under q.result q.work
      unfolding result_size row_of
      is_ready =
          let l = (heads a).limits in
          ready s rows_are all (omega (arith, long)) shown.picture.long l.depth l.capacity.1 l.pages.1 file (λ i k n. moment_past i n)
          (omega (arith, turns-few))

      -- what closing writes, of the buffer as it was before the answers were told
      pub closed
          : {y : List ℕ} {v : ℕ}
          → Finished (result_of s) q.result y v
          → (v ≡ length (result_bytes b)) × (v ≤ length x) × (y ≡ result_bytes b ++ drop (length (result_bytes b)) x)
      unfolding result_bytes result
      closed f = (f.total, omega (arith, f.fits, all.size), buffer s rows_are all f)
