-- Rows 5 and 7 as properties of a file. Row 5: every entry names a page in use. Row 7, with no word of tests or walks: of the pages in use, the
-- one whose pattern begins an entry is the one that the entry names, and no other.
use Rattle.std.proofs.Math.Logic.Iff
use Rattle.std.specs.Prelude.{ℕ, ◌^◌, ◌<◌, ◌≡◌, refl, ◌↔◌, false, length, None}
use Rattle.std.proofs.Common.{sym}
use Rattle.std.proofs.Math.Bool.{true}
use Rattle.spec.specs.Basics.{first_of}
use Rattle.spec.specs.Key.{begins}
use Rattle.spec.specs.File.{File, page_at, entry_at}
use Rattle.spec.specs.Check.{entry_fault, owns, owns_too, bad_owner, owner_fault}
use Rattle.spec.specs.Proper.{PageNo, Fit}
use Rattle.laws.specs.Codec.Tools.{only_no, failed}
use Rattle.laws.specs.Codec.Walk.{first-none}
use Rattle.laws.specs.Codec.InUse.{any_in_use}

-- row 5
pub entries_said
    : (f : File) → first_of (entry_fault f.used) 0 f.directory ≡ None ↔ ((j : ℕ) → j < length f.directory → PageNo f (entry_at f j))
unfolding entry_fault entry_at
entries_said f = simp (first-none (entry_fault f.used) f.directory 0, failed) Iff.rfl

-- row 7: of the pages in use, the pattern of page x begins entry e exactly if entry e names page x
abbrev pub Owners : File → Type 0
Owners f =
    (e x : ℕ) → e < 2 ^ f.g → PageNo f x → begins f.g (page_at f x).depth (page_at f x).pattern e ≡ true ↔ entry_at f e ≡ x

module _ (f : File) (fit : Fit f) where
  -- the test of row 7, of entry j that names page x
  owner-fine
      : (j x : ℕ) → bad_owner f j x ≡ false ↔ (owns f.g j (page_at f x) ≡ true) × ((y : ℕ) → PageNo f y → owns f.g j (page_at f y) ≡ true → y ≡ x)
  unfolding bad_owner owns_too
  owner-fine j x =
      simp (only_no, failed, any_in_use f fit.within fit.pages) Iff.rfl

  pub owners_said : first_of (owner_fault f) 0 f.directory ≡ None ↔ Owners f
  unfolding owner_fault owns entry_at
  owners_said = simp (first-none (owner_fault f) f.directory 0, failed, owner-fine, fit.size) (there, back)
    where
      -- entry e names the one page whose pattern begins e
      Alone : Type 0
      Alone =
          (e : ℕ)
          → e < 2 ^ f.g
          → (owns f.g e (page_at f (entry_at f e)) ≡ true) × ((y : ℕ) → PageNo f y → owns f.g e (page_at f y) ≡ true → y ≡ entry_at f e)

      there : Alone → Owners f
      there h e x l n = (λ o. sym ((h e l).1 x n o), λ (q : entry_at f e ≡ x). rw q at (h e l).0)

      back : Owners f → Alone
      back h e l = ((h e (entry_at f e) l (fit.entries e l)).1 refl, λ y n o. sym ((h e y l n).0 o))
