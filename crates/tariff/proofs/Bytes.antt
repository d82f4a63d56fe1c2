-- The bytes of an insert, and of one insert behind another.
use Prim.Native.Nat.{ℕ, ◌+◌, ◌*◌, ◌<◌, ◌≤◌}
use mathlib.Core.Path.{◌≡◌, refl, sym, ap, ◌∙◌}
use mathlib.Core.List.{List, ◌++◌}
use native.Mathlib.Omega.{arith}
use native.Mathlib.Nat.{le_of_lt}
use native.Mathlib.Numerals.{add-one}
use lib.ListN.{length, get_or, take}
use lib.Seq.{take-suc, take_all, length-take-le}
use Rattle.spec.specs.declared.Op.{Op}
use Rattle.spec.specs.Basics.{each}
use Rattle.spec.specs.Bytes.{two, four}
use Rattle.spec.specs.Job.{kind_number, op_size, no_op}
use Rattle.spec.specs.Encode.{op_bytes}
use Rattle.spec.specs.SwitchLog.{Logged, no_logged, switch_log}
use Rattle.spec.specs.Tariff.{Band, bands_of, charge_of, insert_for, inserts, insert_bytes}
use Rattle.laws.specs.Codec.Tools.{get_or_map}
use Rattle.laws.specs.Codec.Parts.{each_snoc}
use Rattle.laws.specs.Codec.Sections.{length-ops}
use Rattle.laws.specs.Priced.{inserts-count}
use Rattle.wire.specs.Over.{over}
use Rattle.wire.specs.OverLaws.{over_none, over-over}
use Rattle.wire.specs.Joined.{three}
use Rattle.tariff.specs.Call.{insert_of}

-- ---- one insert

-- its three fields: the kind with the zero byte, the call, the charge
pub insert_put
    : {s₁ s₂ s₃ : List ℕ} (s : List ℕ) (at call charge : ℕ)
    → s₁ ≡ over s at (two 2)
    → s₂ ≡ over s₁ (at + 2) (four call)
    → s₃ ≡ over s₂ (at + 6) (four charge)
    → s₃ ≡ over s at (op_bytes (insert_of call charge))
unfolding op_bytes kind_number two four
insert_put s at call charge e f g = three s (two 2) (four call) (four charge) at (at + 2) (at + 6) e f g refl (omega arith)

pub insert_for_lem
    : (bands : List Band) (r : Logged) (call charge : ℕ)
    → call ≡ r.call
    → charge ≡ charge_of bands r
    → insert_of call charge ≡ insert_for bands r
unfolding insert_for
insert_for_lem bands r call charge e f = rw (e, f)

-- ---- all of them

module _ (t l : List ℕ) where
  insert_at : (i : ℕ) → i < length (switch_log l) → get_or (inserts t l) i no_op ≡ insert_for (bands_of t) (get_or (switch_log l) i no_logged)
  unfolding inserts
  insert_at i u = get_or_map (insert_for (bands_of t)) (switch_log l) i no_logged no_op u

  -- the first i of them stand in the buffer, which was s
  abbrev pub Put : List ℕ → ℕ → List ℕ → Type 0
  Put s i u = u ≡ over s 0 (each op_bytes (take i (inserts t l)))

  pub put_none : (s : List ℕ) → Put s 0 s
  unfolding each
  put_none s = sym (over_none s 0)

  -- one insert more
  snoc : (i : ℕ) → i < length (inserts t l) → each op_bytes (take i (inserts t l)) ++ op_bytes (get_or (inserts t l) i no_op) ≡ each op_bytes (take (i + 1) (inserts t l))
  snoc i h =
      sym (each_snoc op_bytes (take i (inserts t l)) (get_or (inserts t l) i no_op))
      ∙ ap (each op_bytes) (sym (take-suc (inserts t l) i no_op h) ∙ ap (λ (n : ℕ). take n (inserts t l)) (sym (add-one i)))

  pub put_more
      : (s u v : List ℕ) (i : ℕ) (r : Logged)
      → i < length (switch_log l)
      → Put s i u
      → r ≡ get_or (switch_log l) i no_logged
      → v ≡ over u (op_size * i) (op_bytes (insert_for (bands_of t) r))
      → Put s (i + 1) v
  put_more s u v i r h e f g =
      let os = inserts t l in
      let m : i < length os = rw (inserts-count t l) h in
      let at : op_size * i ≡ 0 + length (each op_bytes (take i os)) = rw (length-ops (take i os), length-take-le i os (le_of_lt m)) (omega arith) in
      g ∙ rw (e, f, ← insert_at i h) (over-over (each op_bytes (take i os)) (op_bytes (get_or os i no_op)) s 0 (op_size * i) at ∙ ap (over s 0) (snoc i m))

  pub put_all : (s u : List ℕ) (i : ℕ) → length (switch_log l) ≤ i → Put s i u → u ≡ over s 0 (insert_bytes t l)
  unfolding insert_bytes
  put_all s u i h e = e ∙ ap (λ (os : List Op). over s 0 (each op_bytes os)) (take_all i (inserts t l) (rw (inserts-count t l) h))
