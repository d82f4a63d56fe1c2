-- Text that grew: what a method of `Text` has done.
use Rattle.std.specs.Prelude.{◌≡◌, List, ℕ, ◌+◌, ◌≤◌, length}
use denote.Ref.{MutBor}
use Rattle.wire.specs.Wrote.{Wrote}
use Rattle.text.specs.declared.Text.{Text}

-- how many bytes of text there are, the buffer's bytes, and that this is the buffer that was lent
abbrev pub written : Text → ℕ
written t = t.len

abbrev pub buffer : Text → List ℕ
buffer t = t.out.now

abbrev pub IsIn : MutBor (List ℕ) → Text → Type 0
IsIn lent t = t.out.ghost_name ≡ lent.ghost_name

-- the buffer has room for n bytes behind the text
abbrev pub Room : ℕ → Text → Type 0
Room n t = t.len + n ≤ length t.out.now

-- x, which has at most k bytes, was put behind the text, in the same buffer
pub record Added (k : ℕ) (x : List ℕ) (old new : Text) : Type 0 where
  pub lent : new.out.ghost_name ≡ old.out.ghost_name
  pub kept : length new.out.now ≡ length old.out.now
  pub wrote : Wrote k old.out.now old.len x new.out.now new.len
