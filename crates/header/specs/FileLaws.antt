-- The header of a charge file, as it is written.
use Rattle.std.specs.Prelude.{◌≡◌, refl, List, ◌++◌, ℕ, ◌+◌, ◌*◌, ◌^◌, ◌<◌, replicate}
use Rattle.std.proofs.Common.{◌∙◌, mod-eq_of_lt, arith}
use Rattle.spec.specs.Bytes.{two, four}
use Rattle.spec.specs.Job.{job_version, table_offset, ops_offset, turns_offset, total}
use Rattle.spec.specs.Encode.{header_bytes}
use Rattle.laws.specs.Codec.Numbers.{low, high}
use Rattle.wire.specs.Over.{over}
use Rattle.wire.specs.Joined.{four as joined}
use Rattle.header.specs.File.{file_header, file_size}

-- the header, written in four pieces: depth and capacity are a byte each
pub file_header_lem
    : {s₁ s₂ s₃ s₄ : List ℕ} (s : List ℕ) (at g c P u T E : ℕ)
    → s₁ ≡ over s at (two job_version ++ two (g + 256 * c) ++ two P ++ two u)
    → s₂ ≡ over s₁ (at + 8) (replicate 4 0)
    → s₃ ≡ over s₂ (at + 12) (four 32 ++ four T ++ four E ++ four E)
    → s₄ ≡ over s₃ (at + 28) (four E)
    → g < 256
    → c < 256
    → T ≡ 32 + 2 * 2 ^ g
    → E ≡ file_size g c P
    → s₄ ≡ over s at (header_bytes (file_header g c P u))
unfolding header_bytes table_offset ops_offset turns_offset total two four
file_header_lem s at g c P u T E p q r v h k e f =
    let x : 32 + 2 * 2 ^ g + (4 + 8 * c) * P + 10 * 0 ≡ 32 + 2 * 2 ^ g + (4 + 8 * c) * P = omega arith in
    let y : 32 + 2 * 2 ^ g + (4 + 8 * c) * P + 2 * 0 ≡ 32 + 2 * 2 ^ g + (4 + 8 * c) * P = omega arith in
    joined s (two job_version ++ two (g + 256 * c) ++ two P ++ two u) (replicate 4 0) (four 32 ++ four T ++ four E ++ four E) at (at + 8) (at + 12) (four E) (at + 28)
    p q r v refl (omega arith) (omega arith)
    ∙ rw (x, y, low 256 g c h, high 256 g c h, mod-eq_of_lt k, e, f)
