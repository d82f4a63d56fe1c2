-- How many turns an operation has used, by its stage. A search reads its entry, and then a page and the entry again for each page that the entry
-- came to name; an insert or a delete uses three turns for each such page, and then one for each new page and each entry of a split. The page
-- that an entry comes to name is deeper than the one before, so there are no more of them than the directory has bits.
use Rattle.std.specs.Prelude.{ℕ, zero, suc, ◌+◌, ◌-◌, ◌*◌, ◌^◌, ◌<◌, ◌≤◌, ◌≡◌, refl}
use Rattle.std.proofs.Common.{◌∙◌, inl, arith, le_refl, pow-suc, pow_pos, pow_mono}
use Rattle.std.proofs.Math.Logic.{by_cases}
use Rattle.std.proofs.Math.Decide.{ℕ_discrete}
use Rattle.spec.specs.declared.Op.{Op}
use Rattle.spec.specs.declared.Kind.{Kind}
use Rattle.spec.specs.declared.Kind.TheVariants.{Search, Insert, Delete}
use Rattle.spec.specs.declared.Task.{Task}
use Rattle.spec.specs.declared.Task.TheVariants.{Verify, Release, Decide, WritePage, WriteOld, Unlock}
use Rattle.spec.specs.declared.Part.{Part}
use Rattle.spec.specs.declared.Part.TheVariants.{WriteNew, WriteEntry, UnlockNew}
use Rattle.spec.specs.declared.Stage.{Stage}
use Rattle.spec.specs.declared.Stage.TheVariants.{NotBegun, ReadPage, Reread, Lock, Held, Split, Done}
use Rattle.spec.specs.File.{File, page_at}
use Rattle.spec.specs.State.{Move}
use Rattle.spec.specs.Turn.{entry_of}
use Rattle.spec.specs.Run.{file_after}
use Rattle.spec.specs.Proper.{Fit, PageOk}
use Rattle.spec.specs.MostTurns.{sharp_turns}
use Rattle.laws.specs.Turns.Locks.{Holds}
use Rattle.laws.specs.Turns.Good.{Fine, goes_span}
use Rattle.laws.specs.Turns.Work.{Work}
use Rattle.laws.specs.Turns.Codes.{NoSearch, CodeAt}
use Rattle.laws.specs.Turns.Depths.{plan_most}
use Rattle.laws.specs.Turns.Interval.{start_of, end_start, goes_in}

-- two turns for each bit of depth l are no more than the entries that a page of that depth has no part of, if it can be split
retries : (l k : ℕ) → 0 < k → 2 * l + 2 ^ k ≤ 2 ^ (l + k)
retries zero k z = let e : 0 + k ≡ k = omega arith in rw e (omega arith)
retries (suc l) k z =
    let e : suc l + k ≡ suc (l + k) = omega arith in
    rw (e, pow-suc) (omega (arith, retries l k z, pow_mono {i = 1} {j = l + k} (omega arith)))

-- so l retries and a split are within 2^g
split_within : (g l n : ℕ) → 0 < n → l + n ≤ g → 2 * l + 2 ^ (g - l) ≤ 2 ^ g
split_within g l n z h = let e : l + (g - l) ≡ g = omega arith in rw e at (retries l (g - l) (omega arith))

-- what an operation can use has room for as many retries as there can be; an insert's also for a split, and where there is one the depth is not 0
plain-within : (g : ℕ) (k : Kind) → (k ≡ Search → ⊥) → 3 * g + 6 ≤ sharp_turns g k
unfolding sharp_turns
plain-within g Search n = absurd (n refl)
plain-within zero Insert n = omega arith
plain-within (suc g) Insert n = let e : g + 1 ≡ suc g = omega arith in let h = rw e at (retries g 1 (omega arith)) in omega arith
plain-within g Delete n = omega arith

pub search_within : (g : ℕ) (k : Kind) → k ≡ Search → 2 * g + 3 ≤ sharp_turns g k
unfolding sharp_turns
search_within g k e = rw e (le_refl (2 * g + 3))

insert_within : (g : ℕ) (k : Kind) → k ≡ Insert → 0 < g → 2 ^ g + g + 6 ≤ sharp_turns g k
unfolding sharp_turns
insert_within zero k e z = absurd (omega arith)
insert_within (suc g) k e z = rw e (le_refl (2 ^ suc g + suc g + 6))

-- the depth of the page that the call's entry names
unfoldable pub depth_of : File → Op → ℕ
depth_of f op = (page_at f (entry_of f op)).depth

-- u turns used, of an operation that read page number x from its entry: c, and k for each bit of the depth d that the page had; the page that
-- the entry names is as deep, and deeper if it is another one
pub record Read (f : File) (op : Op) (x c k u : ℕ) : Type 0 where
  pub d : ℕ
  pub used : u ≤ c + k * d
  pub deep : d ≤ depth_of f op
  pub moved : (entry_of f op ≡ x → ⊥) → d < depth_of f op

-- the turns that an operation can use
abbrev pub top : File → Op → ℕ
top f op = sharp_turns f.g op.kind

-- the turns used by an operation that holds page x; by one that splits it; by one at any stage. Where all that is left is known, it is counted
-- from the end
abbrev pub SpentTask : File → Op → ℕ → ℕ → Task → Type 0
SpentTask f op u x Verify = Read f op x 2 3 u
SpentTask f op u x (Release y) = Read f op y 0 3 u
SpentTask f op u x Decide = u ≤ 3 + 3 * (page_at f x).depth
SpentTask f op u x WritePage = u + 2 ≤ top f op
SpentTask f op u x WriteOld = u + 2 ≤ top f op
SpentTask f op u x Unlock = u + 1 ≤ top f op

abbrev pub SpentPart : File → Op → ℕ → ℕ → ℕ → Part → Type 0
SpentPart f op u x n (WriteNew i) = u ≤ 3 + 3 * (page_at f x).depth + i
SpentPart f op u x n (WriteEntry j) = u + start_of f.g (page_at f x) < 4 + 3 * (page_at f x).depth + n + j
SpentPart f op u x n UnlockNew = u + 3 ≤ top f op

abbrev pub Spent : File → Op → ℕ → Stage → Type 0
Spent f op u NotBegun = u ≡ 0
Spent f op u (ReadPage x) = Read f op x 1 2 u
Spent f op u (Reread x t) = Read f op x 2 2 u
Spent f op u (Lock x) = Read f op x 1 3 u
Spent f op u (Held x t) = SpentTask f op u x t
Spent f op u (Split x b n q) = SpentPart f op u x n q
Spent f op u Done = u ≤ top f op

-- what is known stays so after a move after which the call's entry names the same page or a deeper one, and which leaves the pages held
module _ (f : File) (m : Move) (op : Op)
    (deep : depth_of f op ≤ depth_of (file_after m f) op)
    (deeper : (entry_of (file_after m f) op ≡ entry_of f op → ⊥) → depth_of f op < depth_of (file_after m f) op)
  where
    read-after : (x c k u : ℕ) → Read f op x c k u → Read (file_after m f) op x c k u
    read-after x c k u h =
        record {
          d = h.d;
          used = h.used;
          deep = omega (arith, h.deep);
          moved = λ n.
              by_cases (ℕ_discrete (entry_of (file_after m f) op) (entry_of f op)) (λ e. let l = h.moved (λ z. n (e ∙ z)) in omega arith)
              (λ e. let l = deeper e in omega (arith, h.deep));
        }

    task_after : (u x : ℕ) (t : Task) → page_at (file_after m f) x ≡ page_at f x → SpentTask f op u x t → SpentTask (file_after m f) op u x t
    task_after u x Verify e h = read-after x 2 3 u h
    task_after u x (Release y) e h = read-after y 0 3 u h
    task_after u x Decide e h = rw e h
    task_after u x WritePage e h = h
    task_after u x WriteOld e h = h
    task_after u x Unlock e h = h

    part_after : (u x n : ℕ) (q : Part) → page_at (file_after m f) x ≡ page_at f x → SpentPart f op u x n q → SpentPart (file_after m f) op u x n q
    part_after u x n (WriteNew i) e h = rw e h
    part_after u x n (WriteEntry j) e h = rw e h
    part_after u x n UnlockNew e h = h

    pub spent_after
        : (u : ℕ) (st : Stage)
        → ((p : ℕ) → Holds st p → page_at (file_after m f) p ≡ page_at f p)
        → Spent f op u st
        → Spent (file_after m f) op u st
    spent_after u NotBegun a h = h
    spent_after u (ReadPage x) a h = read-after x 1 2 u h
    spent_after u (Reread x t) a h = read-after x 2 2 u h
    spent_after u (Lock x) a h = read-after x 1 3 u h
    spent_after u (Held x t) a h = task_after u x t (a x refl) h
    spent_after u (Split x b n q) a h = part_after u x n q (a x (inl refl)) h
    spent_after u Done a h = h

-- what is left to an operation at this stage, of the turns that it can use
module _ (f : File) (op : Op) (fit : Fit f) (pages : (x : ℕ) → PageOk f.g f.c (page_at f x)) (u : ℕ) where
  read_top : (x c k : ℕ) (h : Read f op x c k u) → h.d ≤ f.g
  unfolding depth_of
  read_top x c k h = omega (arith, h.deep, (pages (entry_of f op)).deep)

  pub decide_top : (x : ℕ) → NoSearch op → SpentTask f op u x Decide → u + 3 ≤ top f op
  decide_top x n h = omega (arith, (pages x).deep, plain-within f.g op.kind n)

  -- the depth has room for the new pages of a split
  room : (x b n : ℕ) (q : Part) → Fine f op (Split x b n q) → Work f op (Split x b n q) → (page_at f x).depth + n ≤ f.g
  room x b n q k w = omega (arith, k.0.count, plan_most f op x fit (pages x) w.0)

  pub new_top
      : (x b n i : ℕ)
      → Fine f op (Split x b n (WriteNew i))
      → Work f op (Split x b n (WriteNew i))
      → SpentPart f op u x n (WriteNew i)
      → u + 4 ≤ top f op
  new_top x b n i k w h =
      let r = room x b n (WriteNew i) k w in
      omega
      (arith, split_within f.g (page_at f x).depth n (omega arith) r, pow_pos (f.g - (page_at f x).depth), insert_within f.g op.kind w.0.kind (omega arith))

  pub entry_top
      : (x b n j : ℕ)
      → Fine f op (Split x b n (WriteEntry j))
      → Work f op (Split x b n (WriteEntry j))
      → SpentPart f op u x n (WriteEntry j)
      → u + 4 ≤ top f op
  entry_top x b n j k w h =
      let r = room x b n (WriteEntry j) k w in
      let z = goes_span f op x b n j k.0 k.1 in
      let c = goes_in f op x fit (pages x) w.0 b j w.1.2 k.1 in
      omega
      (arith, c.1, end_start f.g (page_at f x), split_within f.g (page_at f x).depth n (omega arith) r, insert_within f.g op.kind w.0.kind (omega arith))

  task_top : (x : ℕ) (t : Task) → NoSearch op → SpentTask f op u x t → u ≤ top f op
  task_top x Verify n h = omega (arith, h.used, read_top x 2 3 h, plain-within f.g op.kind n)
  task_top x (Release y) n h = omega (arith, h.used, read_top y 0 3 h, plain-within f.g op.kind n)
  task_top x Decide n h = omega (arith, decide_top x n h)
  task_top x WritePage n h = omega arith
  task_top x WriteOld n h = omega arith
  task_top x Unlock n h = omega arith

  part_top : (x b n : ℕ) (q : Part) → Fine f op (Split x b n q) → Work f op (Split x b n q) → SpentPart f op u x n q → u ≤ top f op
  part_top x b n (WriteNew i) k w h = omega (arith, new_top x b n i k w h)
  part_top x b n (WriteEntry j) k w h = omega (arith, entry_top x b n j k w h)
  part_top x b n UnlockNew k w h = omega arith

  pub stage_top : (st : Stage) (c : ℕ) → Fine f op st → Work f op st → CodeAt f op c st → Spent f op u st → u ≤ top f op
  stage_top NotBegun c k w n h = omega arith
  stage_top (ReadPage x) c k w n h = omega (arith, h.used, read_top x 1 2 h, search_within f.g op.kind w)
  stage_top (Reread x t) c k w n h = omega (arith, h.used, read_top x 2 2 h, search_within f.g op.kind w)
  stage_top (Lock x) c k w n h = omega (arith, h.used, read_top x 1 3 h, plain-within f.g op.kind n.0)
  stage_top (Held x t) c k w n h = task_top x t n.0 h
  stage_top (Split x b m q) c k w n h = part_top x b m q k w h
  stage_top Done c k w n h = h
