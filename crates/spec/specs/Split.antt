-- "Insert into a full page": the pages that it leaves, how many of them are new, and which entries change.
use Rattle.std.specs.Prelude.{ℕ, zero, suc, ◌+◌, ◌-◌, ◌*◌, min, List, [], ◌∷◌, Bool, true, false, not, ◌&&◌, length, ltb, eqb}
use Rattle.std.specs.Bool.{beq}
use Rattle.spec.specs.declared.Rec.{Rec}
use Rattle.spec.specs.Basics.{if, filter, all_of}
use Rattle.spec.specs.Key.{pseudo_key, index, bit, shared, begins}
use Rattle.spec.specs.File.{Page, File, entry_at, put_in}

-- the records whose pseudo-key bit number d is v. "both keep their order"
unfoldable pub has_bit : Bool → ℕ → Rec → Bool
has_bit v d r = beq (bit d r.call) v

unfoldable pub with_bit : Bool → ℕ → List Rec → List Rec
with_bit v d rs = filter (has_bit v d) rs

unfoldable pub digit : Bool → ℕ
digit true = 1
digit false = 0

-- "split the page .., depth one more": the half whose calls have v for their next bit
unfoldable pub half : Bool → Page → Page
half v p =
    record { depth = suc p.depth; pattern = 2 * p.pattern + digit v; records = with_bit v p.depth p.records }

-- an insert puts its record in its place: "Insert, split and delete all keep this"
unfoldable pub added : Page → Rec → Page
added p r = record { depth = p.depth; pattern = p.pattern; records = put_in p.records r }

-- A page after an insert: what the page itself becomes, and the new pages in the order of the splits.
pub record Grown : Type 0 where
  pub old : Page
  pub news : List Page

-- "the split page keeps bit 0, a new page gets bit 1": `other` is the half that the call is not in, `own` what becomes of the half that it is in
unfoldable pub joined : Bool → Page → Grown → Grown
joined true other own = record { old = other; news = own.old ∷ own.news }
joined false other own = record { old = own.old; news = other ∷ own.news }

-- "split the page that would take the call ..; repeat until the call's page has under c records". With n for fuel, up to n - 1 splits make room for the call
unfoldable pub grow : ℕ → ℕ → Page → Rec → Grown
grow c zero p r = record { old = p; news = [] }
grow c (suc n) p r =
    if (ltb (length p.records) c) (record { old = added p r; news = [] })
    (joined (bit p.depth r.call) (half (not (bit p.depth r.call)) p) (grow c n (half (bit p.depth r.call) p) r))

-- "all c records share their first g bits with the call"
unfoldable pub shares_index : ℕ → ℕ → Rec → Bool
shares_index g call r = eqb (index g r.call) (index g call)

unfoldable pub all_share : ℕ → List Rec → ℕ → Bool
all_share g rs call = all_of (shares_index g call) rs

-- "How many leading bits two pseudo keys share settles n": the least number that the call shares with one of the records, and n by it
unfoldable pub least_shared : List Rec → ℕ → ℕ
least_shared [] k = 32
least_shared (r ∷ rs) k = min (shared 32 (pseudo_key r.call) (pseudo_key k)) (least_shared rs k)

unfoldable pub split_count : Page → ℕ → ℕ
split_count p k = least_shared p.records k + 1 - p.depth

-- the page that entry j names after the split, among new pages that are numbered from b: 0 where it is none of them
unfoldable pub new_owner : ℕ → List Page → ℕ → ℕ → ℕ
new_owner g [] b j = 0
new_owner g (p ∷ ps) b j = if (begins g p.depth p.pattern j) b (new_owner g ps (suc b) j)

-- "each changed entry": entry j names x, and goes to one of the new pages, which are numbered from b + 1
unfoldable pub changes : File → ℕ → ℕ → List Page → ℕ → Bool
changes f x b ps j = eqb (entry_at f j) x && not (eqb (new_owner f.g ps (suc b) j) 0)

-- "by rising index": of the next n entries, from j on, the first that changes; none: the one past them
unfoldable pub next_entry : ℕ → File → ℕ → ℕ → List Page → ℕ → ℕ
next_entry zero f x b ps j = j
next_entry (suc n) f x b ps j = let later = next_entry n f x b ps (suc j) in if (changes f x b ps j) j later
