-- What the code of a turn asks of its numbers holds in every memory that shows a state of an accepted job's run.
use Rattle.std.specs.Prelude.{◌≡◌, List, ℕ, ◌<◌, length, get_or}
use Rattle.std.proofs.Math.Path.{refl}
use Rattle.std.proofs.Common.{subst, ◌∙◌, arith}
use Rattle.spec.specs.declared.Op.{Op}
use Rattle.spec.specs.declared.Kind.{Kind}
use Rattle.spec.specs.declared.Kind.TheVariants.{Search, Insert, Delete}
use Rattle.spec.specs.declared.Task.{Task}
use Rattle.spec.specs.declared.Task.TheVariants.{Verify, Release, Decide, WritePage, WriteOld, Unlock}
use Rattle.spec.specs.declared.Part.{Part}
use Rattle.spec.specs.declared.Part.TheVariants.{WriteNew, WriteEntry, UnlockNew}
use Rattle.spec.specs.declared.Stage.{Stage}
use Rattle.spec.specs.declared.Stage.TheVariants.{NotBegun, ReadPage, Reread, Lock, Held, Split, Done}
use Rattle.spec.specs.File.{File}
use Rattle.spec.specs.Job.{Job, no_op}
use Rattle.spec.specs.State.{State}
use Rattle.spec.specs.Run.{row_of, stage_of}
use Rattle.spec.specs.Proper.{PageNo}
use Rattle.spec.specs.Claims.{state_at}
use Rattle.laws.specs.Codec.Proper.{JobProper}
use Rattle.laws.specs.Turns.Good.{Fine}
use Rattle.laws.specs.Turns.Work.{Plan, WorkTask, Work}
use Rattle.laws.specs.Turns.Slots.{found_slot}
use Rattle.laws.specs.Turns.Full.{FullPage, Full, full-count}
use Rattle.memory.specs.declared.Shape.{Shape}
use Rattle.memory.specs.Memory.{turn_in}
use Rattle.turn.specs.Rows.{row_image}
use Rattle.turn.specs.Safe.{Readable, Reading, Planned, Splitting, Writable, SafeHeld, SafeSplit, SafeAt, Safe}
use Rattle.simulation.specs.Shown.{shape_of, Shown}
use Rattle.simulation.specs.RowBack.{stage_back}
use Rattle.simulation.specs.Picture.{entry_256}
use Rattle.simulation.specs.Steady.{Steady, shape_at, steady}
use Rattle.simulation.specs.Reads.{page-used, look_is, named_is}

module _ (ops : List Op) (s : State) (i : ℕ) (w : List ℕ) (st : Steady ops s) (h : Shown s w) where
  abbrev f : File
  f = s.file

  abbrev op : Op
  op = get_or ops i no_op

  abbrev sh : Shape
  sh = shape_of f

  readable : (x : ℕ) → PageNo f x → Readable sh w x
  readable x n =
      record {
        number = omega (arith, n, st.good.fit.within, st.good.fit.most);
        count = rw (page-used ops s w st h x n) (st.coherent.pages x).room;
      }

  reading : (x : ℕ) → stage_of s i ≡ ReadPage x → PageNo f x → Reading sh op w x
  reading x e n =
      record {
        page = readable x n;
        stale = λ c.
            rw (page-used ops s w st h x n, named_is ops s w st h op, look_is ops s w st h x op.call)
            (λ q z.
            omega
            (arith, (found_slot ops s i x c (turn_in w) st.good st.coherent st.rising st.followed h.turns e q z).1, st.good.fit.depth));
      }

  planned : (x : ℕ) → PageNo f x → Plan f op x → FullPage f x → Planned sh op w x
  planned x n p u =
      let k = st.coherent.pages x in
      record {
        number = omega (arith, n, st.good.fit.within, st.good.fit.most);
        splits =
            rw (page-used ops s w st h x n)
            (record {
              deep = omega (arith, k.deep, st.good.fit.depth);
              full = omega (arith, k.room);
              home = p.here;
              homed = k.homed;
              apart = omega (arith, p.depth, st.good.fit.depth);
            });
        within = rw (page-used ops s w st h x n) p.depth;
      }

  writable : (x : ℕ) (k : Kind) → op.kind ≡ k → PageNo f x → WorkTask f op x WritePage → Writable sh w x k
  writable x Search e n t = tt
  writable x Insert e n t =
      (omega (arith, n, st.good.fit.within, st.good.fit.most), rw (page-used ops s w st h x n) (t.1 e).1)
  writable x Delete e n t = readable x n

  held_safe : (x : ℕ) (t : Task) → PageNo f x → WorkTask f op x t → Full f (Held x t) → SafeHeld sh op w x t
  held_safe x Verify n k u = tt
  held_safe x (Release y) n k u = (readable x n).number
  held_safe x Decide n k u = readable x n
  held_safe x WritePage n k u = writable x _ refl n k
  held_safe x WriteOld n k u = planned x n k.0 u
  held_safe x Unlock n k u = (readable x n).number

  split_safe : (x b n : ℕ) (q : Part) → Fine f op (Split x b n q) → Work f op (Split x b n q) → FullPage f x → SafeSplit sh op w x b n q
  split_safe x b n q fi k u = by q fi k
    where
      splitting : Splitting sh op w x b n
      splitting =
          record {
            plan = planned x fi.0.number k.0 u;
            count =
                fi.0.count
                ∙ (rw (page-used ops s w st h x fi.0.number) (full-count f op x u st.good.fit (st.coherent.pages x) k.0));
            behind = fi.0.below;
            room = omega (arith, fi.0.top, st.good.fit.within, st.good.fit.most);
          }

      by : (q : Part) → Fine f op (Split x b n q) → Work f op (Split x b n q) → SafeSplit sh op w x b n q
      by (WriteNew m) z y = (splitting, z.1.0, z.1.1)
      by (WriteEntry j) z y = (splitting, entry_256 f st.good.fit j y.1.2)
      by UnlockNew z y = splitting.room

  stage_safe : (to : Stage) → stage_of s i ≡ to → Fine f op to → Work f op to → Full f to → SafeAt sh op w to
  stage_safe NotBegun e fi k u = tt
  stage_safe (ReadPage x) e fi k u = reading x e fi
  stage_safe (Reread x t) e fi k u = tt
  stage_safe (Lock x) e fi k u = (readable x fi).number
  stage_safe (Held x t) e fi k u = held_safe x t fi.0 k u
  stage_safe (Split x b n q) e fi k u = split_safe x b n q fi k u
  stage_safe Done e fi k u = tt

  step_safe : Safe sh op (row_image (row_of s i)) w
  unfolding row_image
  step_safe =
      record {
        ready =
            record { size = h.picture.long; depth = st.good.fit.depth; capacity = st.good.fit.capacity.1; pages = st.good.fit.most };
        few = st.few i;
        at = rw (stage_back s.now (row_of s i) (unfold stage_of in st.fields i)) (unfold stage_of in stage_safe (stage_of s i) refl (st.good.fine i) (st.coherent.work i) (st.full i));
      }

pub safe
    : (j : Job)
    → JobProper j
    → (k : ℕ)
    → k < length j.turns
    → (w : List ℕ)
    → Shown (state_at j k) w
    → let i : ℕ = get_or j.turns k 0 in
    Safe (shape_of j.file) (get_or j.ops i no_op) (row_image (row_of (state_at j k) i)) w
safe j ok k l w h =
    let i : ℕ = get_or j.turns k 0 in
    subst (λ q. Safe q (get_or j.ops i no_op) (row_image (row_of (state_at j k) i)) w) (shape_at j k)
    (step_safe j.ops (state_at j k) i w (steady j ok k (omega arith)) h)
