-- What a turn reads of a memory that shows a state is what the machine reads: the call's entry, a page, what is found in it, a plan, the number of new pages.
use Rattle.std.specs.Prelude.{◌≡◌, refl, List, ℕ, ◌≤◌}
use Rattle.std.proofs.Common.{arith}
use Rattle.spec.specs.declared.Op.{Op}
use Rattle.spec.specs.Key.{index}
use Rattle.spec.specs.File.{File, page_at, find_in, look_in}
use Rattle.spec.specs.State.{State}
use Rattle.spec.specs.Turn.{home_of, entry_of, plan_of}
use Rattle.spec.specs.Proper.{PageNo}
use Rattle.laws.specs.Codec.Back.{page_back as bytes_back}
use Rattle.laws.specs.Turns.Prefix.{index_in}
use Rattle.laws.specs.Turns.CallsRise.{look_find}
use Rattle.memory.specs.Memory.{page_in}
use Rattle.turn.specs.Steps.{home, named, plan}
use Rattle.simulation.specs.Shown.{shape_of, Shown}
use Rattle.simulation.specs.Steady.{Steady, page-fits}

pub home_is : (f : File) (op : Op) → home (shape_of f) op ≡ home_of f op
unfolding home home_of
home_is f op = refl

module _ (ops : List Op) (s : State) (w : List ℕ) (st : Steady ops s) (h : Shown s w) where
  pub page_back : (x : ℕ) → 1 ≤ x → x ≤ s.file.limit → page_in s.file.c w x ≡ page_at s.file x
  unfolding page_in
  page_back x a l = rw (h.picture.pages x a l) (bytes_back s.file.c (page_at s.file x) (page-fits ops s st x))

  -- a page in use
  pub page-used : (x : ℕ) → PageNo s.file x → page_in s.file.c w x ≡ page_at s.file x
  page-used x n = page_back x n.0 (omega (arith, st.good.fit.within))

  -- looking that stops at the first higher number finds what is there
  pub look_is : (x k : ℕ) → look_in (page_at s.file x).records k ≡ find_in (page_at s.file x).records k
  look_is x k = look_find (page_at s.file x).records k (st.coherent.pages x).calls_rise

  module _ (op : Op) where
    pub named_is : named (shape_of s.file) op w ≡ entry_of s.file op
    unfolding named entry_of home home_of
    named_is = h.picture.entries (index s.file.g op.call) (index_in s.file st.good.fit op.call)

    pub plan_is : (x : ℕ) → PageNo s.file x → plan (shape_of s.file) op w x ≡ plan_of s.file op x
    unfolding plan plan_of
    plan_is x n = rw (page-used x n)
