-- One record more among a page's: its place.
use Rattle.std.specs.Prelude.{List, [], ◌∷◌, ℕ, suc, ltb}
use Rattle.spec.specs.declared.Rec.{Rec}
use Rattle.spec.specs.Basics.{if}

-- how many records stand before the first with a higher number
unfoldable pub place_in : List Rec → ℕ → ℕ
place_in [] k = 0
place_in (a ∷ rs) k = if (ltb k a.call) 0 (suc (place_in rs k))
