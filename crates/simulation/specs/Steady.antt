-- All that a turn in memory rests on, of a state of a run: gathered in one record, for every state of an accepted job's run; and what follows of
-- the pages, that they fit their bytes.
use Rattle.std.specs.Prelude.{◌≡◌, List, ℕ, ◌≤◌, ◌<◌, length}
use Rattle.std.proofs.Common.{sym, subst, arith, pow_mono}
use Rattle.spec.specs.declared.Op.{Op}
use Rattle.spec.specs.File.{page_at}
use Rattle.spec.specs.Job.{Job}
use Rattle.spec.specs.State.{State}
use Rattle.spec.specs.Run.{row_of, stage_of}
use Rattle.spec.specs.Claims.{state_at}
use Rattle.spec.specs.MostTurns.{most_used}
use Rattle.laws.specs.Codec.Back.{RecFits, PageFits}
use Rattle.laws.specs.Codec.Proper.{JobProper}
use Rattle.laws.specs.ReadBack.{narrow_at}
use Rattle.laws.specs.Turns.Sizes.{Shaped, run_shaped}
use Rattle.laws.specs.Turns.Good.{Good}
use Rattle.laws.specs.Turns.Does.{Coherent}
use Rattle.laws.specs.Turns.Settled.{Settled}
use Rattle.laws.specs.Turns.States.{state_at_now}
use Rattle.laws.specs.Turns.Whole.{whole}
use Rattle.laws.specs.Turns.Narrow.{EveryRecord}
use Rattle.laws.specs.Turns.Rising.{Rising, rising}
use Rattle.laws.specs.Turns.Followed.{Followed, followed}
use Rattle.laws.specs.Turns.Full.{Full, full}
use Rattle.laws.specs.Turns.Fields.{StageFields, stage_fields, cut, cut_run}
use Rattle.laws.specs.Turns.SpentTurns.{used_at_lem}
use Rattle.simulation.specs.Shown.{shape_of}

pub record Steady (ops : List Op) (s : State) : Type 0 where
  pub good : Good ops s
  pub coherent : Coherent ops s
  pub settled : Settled ops s
  pub rising : Rising s
  pub followed : Followed ops s
  pub full : (i : ℕ) → Full s.file (stage_of s i)
  pub fields : (i : ℕ) → StageFields s.now (stage_of s i)
  pub few : (i : ℕ) → (row_of s i).used ≤ most_used
  pub records : EveryRecord RecFits s.file
  pub time : s.now < 65536

-- a page fits its bytes
pub page-fits : (ops : List Op) (s : State) → Steady ops s → (x : ℕ) → PageFits s.file.c (page_at s.file x)
page-fits ops s st x =
    let p = st.coherent.pages x in
    let m = pow_mono {i = (page_at s.file x).depth} {j = 8} (omega (arith, p.deep, st.good.fit.depth)) in
    record { pattern = omega (arith, p.small); count = p.room; records = st.records x }

shaped : (j : Job) (k : ℕ) → Shaped j.file (state_at j k)
unfolding cut
shaped j k = rw (← cut_run j k) (run_shaped (cut j k))

-- the shape stays
pub shape_at : (j : Job) (k : ℕ) → shape_of (state_at j k).file ≡ shape_of j.file
shape_at j k = let z = shaped j k in λ i. record { depth = z.depth i; capacity = z.capacity i; pages = z.limit i }

pub steady : (j : Job) → JobProper j → (k : ℕ) → k ≤ length j.turns → Steady j.ops (state_at j k)
steady j h k l =
    let w = whole j h.file k l in
    record {
      good = w.good;
      coherent = w.coherent;
      settled = w.settled;
      rising = rising j h.file k l;
      followed = followed j h.file k l;
      full = full j h.file k l;
      fields = λ i. subst (λ t. StageFields t (stage_of (state_at j k) i)) (sym (state_at_now j k l)) (stage_fields j h.file i k l);
      few = λ i. used_at_lem j h.file i k;
      records = (narrow_at j h k).0;
      time = omega (arith, state_at_now j k l, h.turn_count);
    }
