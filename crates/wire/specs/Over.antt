-- Bytes written over others.
use Rattle.std.specs.Prelude.{ℕ, List}
use Rattle.std.proofs.lemmas.List.Edits.{sets}

-- s with the bytes x from place `at` on
unfoldable pub over : List ℕ → ℕ → List ℕ → List ℕ
over s at x = sets s at x
