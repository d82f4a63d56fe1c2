-- Turns dealt for a job that is not refused, call by call: what each call asks is there, and what they come to is `Dealt`.
use mathlib.Core.Path.{◌≡◌, refl, sym, ap, ◌∙◌}
use mathlib.Core.List.{List, [], ◌++◌}
use Prim.Native.Nat.{ℕ, ◌+◌, ◌*◌, ◌≤◌}
use native.Mathlib.Omega.{arith}
use lib.ListN.{length, drop, replicate}
use Rattle.spec.specs.Bytes.{two, four}
use Rattle.spec.specs.Job.{header_size, turn_count_at, total_at, turn_size, turns_offset, total, Header as Counts}
use Rattle.spec.specs.Basics.{each}
use Rattle.spec.specs.Decode.{header_of, job_of}
use Rattle.spec.specs.Check.{work_size}
use Rattle.spec.specs.Deal.{max_dealt, dealt_by, dealt, dealt_bytes}
use Rattle.laws.specs.Codec.Rows.{accepted_header}
use Rattle.laws.specs.Codec.Longest.{longest, total_most}
use Rattle.laws.specs.Codec.Tools.{every}
use Rattle.laws.specs.Codec.Parts.{length_each}
use Rattle.laws.specs.Codec.Sections.{length_two, length_four}
use Rattle.laws.specs.Turns.Dealing.{uses_fit, dealt-fits}
use Rattle.laws.specs.Dealt.{none_counted, dealt-length, NotRefused, deal_said, deals_turns}
use Rattle.run.specs.Call.{lent}
use Rattle.run.specs.Table.{Accepts}
use Rattle.run.proofs.Known.{proper, heads}
use Rattle.run.proofs.Begins.{begun}
use Rattle.rounds.proofs.Follows.{Follows, gives_all, follows_rounds, follows_none}
use Rattle.header.specs.declared.Header.{Header}
use Rattle.header.specs.Counts.{counts_of}
use Rattle.wire.specs.Over.{over}
use Rattle.wire.specs.OverLaws.{length_over}
use Rattle.memory.specs.Load.{loaded}
use Rattle.turn.specs.declared.Row.{Row}
use Rattle.turn.specs.Rows.{blank_row}
use Rattle.reader.specs.Parts.{directory_in, table_in}
use Rattle.rounds.specs.OnTable.{Dealing, dealing, rounds_on, GivesAll}
use Rattle.deal.proofs.Fields.{fields}
use Rattle.deal.specs.Call.{Accepted, Dealt}

-- the memory that `start` leaves, and what the rounds begin with: a blank table, the output as it came
abbrev pub work₁ : Header → List ℕ → List ℕ → List ℕ
work₁ h b w = loaded w (directory_in (counts_of h) b) (table_in (counts_of h) b) h.capacity h.used

abbrev pub first : Header → List ℕ → List ℕ → List Row → List ℕ → Dealing
first h b s x w = dealing (replicate (length x) blank_row) s (work₁ h b w) 0

-- what the calls ask, and what they come to
pub record Deals (b s : List ℕ) (x : List Row) (w : List ℕ) (h : Header) : Type 0 where
  pub start : work_size ≤ length w
  pub rounds : (n : ℕ) → GivesAll h b (rounds_on h b n (first h b s x w)) × ((rounds_on h b n (first h b s x w)).turns ≤ max_dealt)
  pub close
      : (u : Dealing)
      → u ≡ rounds_on h b max_dealt (first h b s x w)
      → (header_size ≤ length b) × (length b ≤ longest) × (u.turns ≤ max_dealt) × (length b + turn_size * u.turns ≤ length u.out)
  -- y, t and z are the table, the output and the memory in the end
  pub all
      : (u : Dealing)
      → u ≡ rounds_on h b max_dealt (first h b s x w)
      → {y : List Row} {t z : List ℕ} {v : ℕ}
      → length u.rows ≡ length x
      → length u.work ≡ length w
      → (y ≡ replicate (length u.rows) blank_row) × (z ≡ replicate (length u.work) 0)
      → (v ≡ length b + turn_size * u.turns) × (t ≡ over (over (over u.out 0 b) turn_count_at (two u.turns)) total_at (four v))
      → Dealt b s t x y w z v

module _ {b s : List ℕ} {x : List Row} {w : List ℕ} (a : Accepted b s x w) where
  lends : NotRefused (lent s x w) b
  lends = (deal_said (lent s x w) b).0 a.faultless

  head_there : header_size ≤ length b
  head_there = (accepted_header b lends.accepted).laid.header

  module _ (h : Header) (e : counts_of h ≡ header_of b) where
    abbrev o : Accepts h b
    o = record { bytes = a.bytes; accepted = lends.accepted; counts = e }

    -- there are no turns: the list begins where the job ends
    ends_at : turns_offset (counts_of h) ≡ length b
    unfolding total
    ends_at =
        let z : h.turns ≡ 0 = ap (λ (c : Counts). c.turns) e ∙ none_counted b lends.unturned in
        omega (arith, (heads o).size)

    room : turns_offset (counts_of h) + turn_size * max_dealt ≤ length s
    room = rw ends_at lends.output

    first_follows : Follows h b s [] (first h b s x w)
    first_follows =
        let enough : h.ops ≤ length x = rw (← e) at lends.rows in
        follows_none o s room (first h b s x w) refl refl (begun o w lends.work (length x) enough)

    abbrev list : List ℕ
    list = dealt (job_of b)

    follows_all : Follows h b s list (rounds_on h b max_dealt (first h b s x w))
    unfolding dealt dealt_by
    follows_all = follows_rounds o s room (first h b s x w) first_follows max_dealt

    short : length list ≤ max_dealt
    short = dealt-fits (job_of b) (proper o).file (proper o).op_count

    many : length (each two list) ≡ turn_size * length list
    many = length_each two turn_size list (every length_two list)

    size : length (dealt_bytes b) ≡ length b + turn_size * length list
    size = dealt-length b a.bytes lends.accepted lends.unturned

    -- where the rounds have led
    module _ (u : Dealing) (is : u ≡ rounds_on h b max_dealt (first h b s x w)) where
      led : Follows h b s list u
      led = rw is follows_all

      close_asks : (header_size ≤ length b) × (length b ≤ longest) × (u.turns ≤ max_dealt) × (length b + turn_size * u.turns ≤ length u.out)
      close_asks =
          rw led.turns
          (head_there, rw (heads o).size (total_most (counts_of h) (heads o).limits), short, rw (led.out, length_over) (omega (arith, lends.output, short)))

      -- the buffer in the end
      written
          : (v : ℕ)
          → v ≡ length b + turn_size * u.turns
          → over (over (over u.out 0 b) turn_count_at (two u.turns)) total_at (four v) ≡ dealt_bytes b ++ drop (length (dealt_bytes b)) s
      written v g =
          let z : v ≡ length b + turn_size * length list = rw led.turns at g in
          let m : length b + length (each two list) ≡ length (dealt_bytes b) = omega (arith, many, size) in
          let same = (deals_turns b a.bytes lends.accepted lends.unturned).bytes in
          rw (led.turns, led.out, ends_at)
          (fields b (each two list) s (two (length list)) (four v) head_there (omega (arith, many, short, lends.output)) (length_two _) (length_four _)
          ∙ rw (z, m) (ap (λ (t : List ℕ). t ++ drop (length (dealt_bytes b)) s) (sym same)))

    pub deals : Deals b s x w h
    deals =
        record {
          start = lends.work;
          rounds = λ n.
              let f = follows_rounds o s room (first h b s x w) first_follows n in
              (gives_all o s room _ _ f, rw f.turns (uses_fit (job_of b) (proper o).file (proper o).op_count _ f.uses));
          close = close_asks;
          all = λ u is lx lw k c.
              record {
                total = c.0 ∙ rw (led u is).turns (sym size);
                output = c.1 ∙ written u is _ c.0;
                rows = k.0 ∙ ap (λ (k : ℕ). replicate k blank_row) lx;
                work = k.1 ∙ ap (λ (k : ℕ). replicate {A = ℕ} k 0) lw;
              };
        }

-- the table and the memory that `start` leaves are what the rounds begin with
pub first_is
    : (h : Header) (b s : List ℕ) (x : List Row) (w : List ℕ) {z : List Row} {u : List ℕ}
    → z ≡ replicate (length x) blank_row
    → u ≡ work₁ h b w
    → dealing z s u 0 ≡ first h b s x w
first_is h b s x w ez eu = λ i. dealing (ez i) s (eu i) 0
