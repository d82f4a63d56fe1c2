-- The run of a job that meets no row of the refusal table, call by call: what each call asks is there, and what they come to is `Ran`.
use mathlib.Core.Path.{◌≡◌, sym, ap, subst, ◌∙◌}
use mathlib.Core.List.{List}
use Prim.Native.Nat.{ℕ, ◌+◌, ◌*◌, ◌/◌, ◌≤◌, ◌<◌}
use native.Mathlib.Omega.{arith}
use lib.ListN.{length, replicate}
use Rattle.spec.specs.Job.{table_offset, ops_offset, file_length}
use Rattle.header.specs.File.{file_size}
use Rattle.spec.specs.Decode.{header_of, job_of}
use Rattle.spec.specs.State.{State}
use Rattle.spec.specs.Run.{run}
use Rattle.spec.specs.Result.{result_of}
use Rattle.spec.specs.Check.{work_size, result_size}
use Rattle.header.specs.declared.Header.{Header}
use Rattle.header.specs.Counts.{counts_of}
use Rattle.memory.specs.Load.{loaded}
use Rattle.turn.specs.declared.Row.{Row}
use Rattle.turn.specs.Rows.{blank_row}
use Rattle.reader.specs.Parts.{directory_in, table_in, ops_in, turns_in}
use Rattle.result.specs.Finish.{Ready, Finished}
use Rattle.table.specs.Turns.{Both, both, Takes}
use Rattle.table.specs.Told.{Told, told, tell_rows}
use Rattle.run.specs.Table.{shape_for, all_turns, Accepts, Running}
use Rattle.run.specs.Call.{Accepted, Ran}
use Rattle.run.proofs.Known.{heads, ops_are}
use Rattle.run.proofs.Begins.{begun}
use Rattle.run.proofs.Turned.{turn-count, running, each_takes}
use Rattle.run.proofs.Closing.{told_sizes, is_ready, closed}
use Rattle.run.proofs.Ends.{accepts, enough}

module _ {b s : List ℕ} {x : List Row} {w : List ℕ} (a : Accepted b s x w) where
  module _ (h : Header) (e : counts_of h ≡ header_of b) where
    abbrev o : Accepts h b
    o = accepts a h e

    -- `start`
    pub start_asks : work_size ≤ length w
    start_asks = (enough a h e).2

    abbrev pub work₁ : List ℕ
    work₁ = loaded w (directory_in (counts_of h) b) (table_in (counts_of h) b) h.capacity h.used

    -- the table is blank, and the memory loaded
    abbrev pub first : Both
    first = both (replicate (length x) blank_row) work₁

    first_shown : Running (job_of b) 0 first
    first_shown = begun o w (enough a h e).2 (length x) (enough a h e).1

    -- the same of a table and a memory that it left so
    pub first_is : {z : List Row} {u : List ℕ} → z ≡ replicate (length x) blank_row → u ≡ work₁ → both z u ≡ first
    first_is ez eu = λ i. both (ez i) (eu i)

    -- `take_turns`
    pub turns_may
        : (q : Both)
        → q ≡ first
        → (k : ℕ)
        → k < length (turns_in (counts_of h) b) / 2
        → Takes (shape_for h) (ops_in (counts_of h) b) (turns_in (counts_of h) b) k (all_turns h b k q)
    turns_may q f k l = subst (λ (p : Both). Takes (shape_for h) (ops_in (counts_of h) b) (turns_in (counts_of h) b) k (all_turns h b k p)) (sym f) (each_takes o first first_shown k l)

    module _ (q : Both) (t : q ≡ all_turns h b (length (turns_in (counts_of h) b) / 2) first) where
      last_shown : Running (job_of b) h.turns q
      last_shown = rw (t, turn-count o) (running o h.turns first (omega arith) first_shown)

      -- `tell_rows`
      pub tell_asks : (h.ops ≤ length q.rows) × (h.ops ≤ 256) × (24 + 8 * h.ops ≤ length s) × (work_size ≤ length q.work)
      unfolding result_size
      tell_asks =
          (omega (arith, ops_are o, last_shown.room), (heads o).limits.ops, omega (arith, (enough a h e).0), last_shown.shown.picture.long)

      module _ (n : Told) (d : n ≡ tell_rows q.rows h.ops (told s q.work 0)) where
        -- `finish`
        pub finish_asks
            : (work_size ≤ length n.work)
            × (h.depth ≤ 8)
            × (h.capacity ≤ 8)
            × (h.pages ≤ 256)
            × (h.ops ≤ 256)
            × (24 + 12 * h.ops + file_size h.depth h.capacity h.pages ≤ length n.result)
        unfolding result_size file_length ops_offset table_offset
        finish_asks =
            let z = told_sizes o last_shown s (enough a h e).0 d in
            let q = (heads o).limits in (
              omega (arith, z.1, last_shown.shown.picture.long),
              q.depth,
              q.capacity.1,
              q.pages.1,
              q.ops,
              omega (arith, z.0, (enough a h e).0),
            )

        -- all of it; y, t and u are the table, the result and the memory in the end
        pub all_ran
            : {y : List Row} {f u : List ℕ} {v : ℕ}
            → length q.rows ≡ length x
            → length n.work ≡ length w
            → ((z : State) → Ready z h.depth h.capacity h.pages h.ops n.under n.result n.work → Finished (result_of z) n.result f v)
            → (y ≡ replicate (length q.rows) blank_row) × (u ≡ replicate (length n.work) 0)
            → Ran b s f x y w u v
        all_ran lx lw c g =
            let r = closed o last_shown s (enough a h e).0 d (c (run (job_of b)) (is_ready o last_shown s (enough a h e).0 d)) in
            record {
              total = r.0;
              result = r.2;
              rows = g.0 ∙ ap (λ (k : ℕ). replicate k blank_row) lx;
              work = g.1 ∙ ap (λ (k : ℕ). replicate {A = ℕ} k 0) lw;
            }
