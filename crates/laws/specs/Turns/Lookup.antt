-- What the file holds of a call: what is found in the page that the call's entry names. And what the writing of a page, or of an entry, does
-- to that.
use Rattle.std.specs.Prelude.{ℕ, ◌<◌, ◌≡◌, length, Option}
use Rattle.std.proofs.Math.Path.{refl}
use Rattle.std.proofs.Common.{◌∙◌}
use Rattle.std.proofs.Math.Logic.{by_cases}
use Rattle.std.proofs.Math.Decide.{ℕ_discrete}
use Rattle.std.proofs.Math.Seq.{get_or-set_same, get_or-set_other}
use Rattle.spec.specs.declared.Rec.{Rec}
use Rattle.spec.specs.declared.Stage.TheVariants.{Done}
use Rattle.spec.specs.Key.{index}
use Rattle.spec.specs.File.{Page, File, zero_page, page_at, entry_at, find_in}
use Rattle.spec.specs.State.{same, go_page, go_entry}
use Rattle.spec.specs.Run.{table_after, directory_after, file_after}

unfoldable pub lookup : File → ℕ → Option Rec
lookup f k = find_in (page_at f (entry_at f (index f.g k))).records k

-- of a call whose entry names x
pub lookup_at : (f : File) (k x : ℕ) → entry_at f (index f.g k) ≡ x → lookup f k ≡ find_in (page_at f x).records k
unfolding lookup
lookup_at f k x e = rw e

-- the file after page x is written as q
module _ (f : File) (x : ℕ) (q : Page) where
  abbrev f' : File
  f' = file_after (go_page Done same x q) f

  pub page-not : (y : ℕ) → (y ≡ x → ⊥) → page_at f' y ≡ page_at f y
  unfolding page_at table_after
  page-not y n = get_or-set_other f.table x y q zero_page n

  pub page_dir : (e : ℕ) → entry_at f' e ≡ entry_at f e
  unfolding entry_at directory_after
  page_dir e = refl

  module _ (lt : x < length f.table) where
    pub page_same : page_at f' x ≡ q
    unfolding page_at table_after
    page_same = get_or-set_same f.table x q zero_page lt

    -- what holds of a call's page
    pub page_home
        : (P : Page → Type 0) (k : ℕ)
        → P (page_at f (entry_at f (index f.g k)))
        → (entry_at f (index f.g k) ≡ x → P q)
        → P (page_at f' (entry_at f' (index f.g k)))
    page_home P k h w =
        rw (page_dir (index f.g k))
        (by_cases (ℕ_discrete (entry_at f (index f.g k)) x)
        (λ (e : entry_at f (index f.g k) ≡ x). rw (e, page_same) (w e))
        (λ e. rw (page-not _ e) h))

    pub page_lookup
        : (k : ℕ)
        → (entry_at f (index f.g k) ≡ x → find_in q.records k ≡ find_in (page_at f x).records k)
        → lookup f' k ≡ lookup f k
    unfolding lookup
    page_lookup k w = page_home (λ p. find_in p.records k ≡ lookup f k) k refl (λ e. w e ∙ rw e refl)

    pub page_own : (k : ℕ) → entry_at f (index f.g k) ≡ x → lookup f' k ≡ find_in q.records k
    unfolding lookup
    page_own k e = rw (page_dir (index f.g k), e, page_same)

-- the file after entry j is written to name y
module _ (f : File) (j y : ℕ) where
  abbrev f'' : File
  f'' = file_after (go_entry Done same j y) f

  pub entry-not : (e : ℕ) → (e ≡ j → ⊥) → entry_at f'' e ≡ entry_at f e
  unfolding entry_at directory_after
  entry-not e n = get_or-set_other f.directory j e y 0 n

  pub entry-page : (x : ℕ) → page_at f'' x ≡ page_at f x
  unfolding page_at table_after
  entry-page x = refl

  module _ (lt : j < length f.directory) where
    pub entry_same : entry_at f'' j ≡ y
    unfolding entry_at directory_after
    entry_same = get_or-set_same f.directory j y 0 lt

    pub entry_home
        : (P : Page → Type 0) (k : ℕ)
        → P (page_at f (entry_at f (index f.g k)))
        → (index f.g k ≡ j → P (page_at f y))
        → P (page_at f'' (entry_at f'' (index f.g k)))
    entry_home P k h w =
        rw (entry-page (entry_at f'' (index f.g k)))
        (by_cases (ℕ_discrete (index f.g k) j) (λ (e : index f.g k ≡ j). rw (e, entry_same) (w e)) (λ e. rw (entry-not _ e) h))

    pub entry_lookup
        : (k : ℕ)
        → (index f.g k ≡ j → find_in (page_at f y).records k ≡ find_in (page_at f (entry_at f j)).records k)
        → lookup f'' k ≡ lookup f k
    unfolding lookup
    entry_lookup k w = entry_home (λ p. find_in p.records k ≡ lookup f k) k refl (λ e. w e ∙ rw e refl)

    pub entry_own : (k : ℕ) → index f.g k ≡ j → lookup f'' k ≡ find_in (page_at f y).records k
    unfolding lookup
    entry_own k e = rw (e, entry_same, entry-page y)
