-- What is known of an accepted job.
use mathlib.Core.Path.{◌≡◌, sym, ap, ◌∙◌}
use mathlib.Core.List.{List}
use Prim.Native.Nat.{ℕ}
use lib.ListN.{length}
use Rattle.spec.specs.Job.{Header as Counts}
use Rattle.spec.specs.Decode.{file_of, job_of}
use Rattle.laws.specs.Codec.Rows.{counted}
use Rattle.laws.specs.Codec.Proper.{JobProper}
use Rattle.laws.specs.Codec.Exact.{accepted_proper}
use Rattle.header.specs.declared.Header.{Header}
use Rattle.header.specs.Counts.{Heads}
use Rattle.header.specs.Accepted.{accepted_heads}
use Rattle.simulation.specs.Shown.{shape_of}
use Rattle.run.specs.Table.{Accepts}

module _ {h : Header} {b : List ℕ} (a : Accepts h b) where
  pub proper : JobProper (job_of b)
  proper = accepted_proper b a.bytes a.accepted

  pub heads : Heads h b
  heads = accepted_heads h b a.accepted a.counts

  pub ops_are : length (job_of b).ops ≡ h.ops
  ops_are = (counted b).ops ∙ ap (λ (z : Counts). z.ops) (sym a.counts)

  pub turns_are : length (job_of b).turns ≡ h.turns
  turns_are = (counted b).turns ∙ ap (λ (z : Counts). z.turns) (sym a.counts)

  pub shape_is : shape_of (job_of b).file ≡ record { depth = h.depth; capacity = h.capacity; pages = h.pages }
  unfolding job_of file_of
  shape_is = rw (← a.counts)

  pub depth_is : (job_of b).file.g ≡ h.depth
  unfolding job_of file_of
  depth_is = rw (← a.counts)

  pub capacity_is : (job_of b).file.c ≡ h.capacity
  unfolding job_of file_of
  capacity_is = rw (← a.counts)

  pub pages_are : (job_of b).file.limit ≡ h.pages
  unfolding job_of file_of
  pages_are = rw (← a.counts)

  pub used_is : (job_of b).file.used ≡ h.used
  unfolding job_of file_of
  used_is = rw (← a.counts)
