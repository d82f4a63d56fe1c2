-- The splits for an insert leave exactly the pieces.
use Rattle.std.specs.Prelude.{◌≡◌, refl, Bool, true, false, not, eqb, length, get_or}
use Rattle.std.proofs.Common.{sym, ◌∙◌, add-zero, arith, eqb-true, eq-eqb, ne_eqb}
use Rattle.std.proofs.Math.Path.{ap}
use Rattle.std.specs.Bool.{beq}
use Rattle.std.proofs.lemmas.Bool.{false≢true}
use mathlib.Core.List.{List, [], map}
use Prim.Native.Nat.{ℕ, zero, suc, ◌+◌, ◌-◌, ◌*◌, ◌≤◌, ◌<◌}
use Rattle.spec.specs.declared.Rec.{Rec}
use Rattle.spec.specs.Basics.{Each}
use Rattle.spec.specs.Key.{index, bit}
use Rattle.spec.specs.File.{Page, zero_page, put_in, has_index, of_index}
use Rattle.spec.specs.Split.{has_bit, with_bit, digit, half, added, Grown, joined, grow, least_shared, split_count}
use Rattle.spec.specs.Proper.{In}
use Rattle.laws.specs.Tools.{if_case, if-true, if-false, each_imp, filter-few}
use Rattle.laws.specs.Turns.Prefix.{to_half}
use Rattle.laws.specs.Turns.Shared.{least-most, least_all, next_bit, bit-next}
use Rattle.laws.specs.Turns.Count.{with_bit_all, with_bit-few, shares_of, grow-fits, grow-full}
use Rattle.page.specs.Lists.{filter_same}
use Rattle.pieces.specs.declared.Piece.{Piece}
use Rattle.pieces.specs.Piece.{side_piece, own_piece, kept_piece, new_piece, new_pieces, cut}
use Rattle.pieces.specs.Splits.{Splits, Fits, Enough}

-- ---- a half of a page, by what its calls begin with

side_eqb : (q : ℕ) (b v : Bool) → beq b v ≡ eqb (2 * q + digit b) (2 * q + digit v)
unfolding digit
side_eqb q true true = sym (eq-eqb (2 * q + 1) (2 * q + 1) refl)
side_eqb q true false = sym (ne_eqb (2 * q + 1) (2 * q + 0) (λ e. omega arith))
side_eqb q false true = sym (ne_eqb (2 * q + 0) (2 * q + 1) (λ e. omega arith))
side_eqb q false false = sym (eq-eqb (2 * q + 0) (2 * q + 0) refl)

-- of records that begin with q, those with bit v are those that begin with q and v
half-records
    : (v : Bool) (d q : ℕ) (rs : List Rec)
    → d < 32
    → Each (λ (a : Rec). index d a.call ≡ q) rs
    → with_bit v d rs ≡ of_index (suc d) (2 * q + digit v) rs
unfolding with_bit of_index has_bit has_index
half-records v d q rs h s =
    filter_same (has_bit v d) (has_index (suc d) (2 * q + digit v)) rs
    (each_imp (λ a (e : index d a.call ≡ q). rw (side_eqb q (bit d a.call) v, to_half d a.call q h e)) s)

-- the half that the call is not in
half_cut
    : (v : Bool) (p : Page) (r : Rec)
    → p.depth < 32
    → In p r.call
    → Each (λ (a : Rec). In p a.call) p.records
    → half v p ≡ cut p r (side_piece v p.depth r.call)
unfolding half cut side_piece
half_cut v p r h i s =
    rw (i, half-records v p.depth p.pattern p.records h s, if-false (put_in _ r) _ refl)

-- the half that it is in, with the call
added_cut
    : (p : Page) (r : Rec)
    → p.depth < 32
    → In p r.call
    → Each (λ (a : Rec). In p a.call) p.records
    → added (half (bit p.depth r.call) p) r ≡ cut p r (own_piece (suc p.depth) r.call)
unfolding half added cut own_piece
added_cut p r h i s =
    rw (to_half p.depth r.call p.pattern h i, half-records (bit p.depth r.call) p.depth p.pattern p.records h s, if-true (put_in _ r) _ refl)

-- ---- one split

-- what n splits leave
unfoldable pub made : ℕ → ℕ → Page → Rec → Grown
made n d p r = record { old = cut p r (kept_piece n d r.call); news = map (cut p r) (new_pieces n d r.call) }

joined_made
    : (n : ℕ) (p : Page) (r : Rec) (v : Bool)
    → bit p.depth r.call ≡ v
    → half (not v) p ≡ cut p r (side_piece (not v) p.depth r.call)
    → joined v (half (not v) p) (made n (suc p.depth) p r) ≡ made (suc n) p.depth p r
unfolding joined made kept_piece new_pieces new_piece
joined_made n p r true e h = rw (h, if-true _ _ e, if-true _ _ e)
joined_made n p r false e h = rw (h, if-false _ _ e, if-false _ _ e)

-- ---- all splits

-- a piece is made of the records alone
made_same : (n d : ℕ) (p q : Page) (r : Rec) → p.records ≡ q.records → made n d p r ≡ made n d q r
unfolding made cut
made_same n d p q r e = ap (λ (rs : List Rec). made n d (record { depth = 0; pattern = 0; records = rs }) r) e

module _ (c : ℕ) (p : Page) (r : Rec) (i : In p r.call) (s : Each (λ (a : Rec). In p a.call) p.records) (h : p.depth < 32) where
  -- a split, and what becomes of the half that the call is in
  one_split
      : (n m : ℕ)
      → c ≤ length p.records
      → grow c n (half (bit p.depth r.call) p) r ≡ made m (suc p.depth) p r
      → grow c (suc n) p r ≡ made (suc m) p.depth p r
  one_split n m e g =
      let v = bit p.depth r.call in
      grow-full c n p r e ∙ ap (joined v (half (not v) p)) g ∙ joined_made m p r v refl (half_cut (not v) p r h i s)

  -- the last split: the call's half has room
  last_half
      : (n : ℕ)
      → length p.records ≡ c
      → least_shared p.records r.call ≡ p.depth
      → grow c (suc n) (half (bit p.depth r.call) p) r ≡ made 0 (suc p.depth) p r
  unfolding made kept_piece new_pieces half
  last_half n e l =
      let d = p.depth in
      let v = bit d r.call in
      let few = with_bit-few v d p.records
      (λ t. let k = least-most p.records r.call (suc d) h (bit-next d p.records r.call h (shares_of p r.call s i) t) in omega arith) in
      grow-fits c n (half v p) r (omega arith) ∙ ap (λ (q : Page). record { old = q; news = [] }) (added_cut p r h i s)

  -- an earlier split: the call's half has all records
  same_half : suc p.depth ≤ least_shared p.records r.call → with_bit (bit p.depth r.call) p.depth p.records ≡ p.records
  same_half l = with_bit_all _ p.depth p.records (next_bit p.depth p.records r.call (least_all p.records r.call (suc p.depth) l))

-- suc m splits of a full page whose records share m bits more with the call than its depth
grow_made
    : (c n m : ℕ) (p : Page) (r : Rec)
    → m + 2 ≤ n
    → length p.records ≡ c
    → In p r.call
    → Each (λ (a : Rec). In p a.call) p.records
    → least_shared p.records r.call ≡ p.depth + m
    → p.depth + m < 32
    → grow c n p r ≡ made (suc m) p.depth p r
unfolding half
grow_made c zero m p r f e i s l h = absurd (omega arith)
grow_made c (suc zero) m p r f e i s l h = absurd (omega arith)
grow_made c (suc (suc n)) zero p r f e i s l h =
    one_split c p r i s (omega arith) (suc n) 0 (omega arith) (last_half c p r i s (omega arith) n e (omega arith))
grow_made c (suc (suc n)) (suc m) p r f e i s l h =
    let d = p.depth in
    let v = bit d r.call in
    let z = same_half c p r i s (omega arith) (omega arith) in
    let t = least_all p.records r.call (suc d) (omega arith) in
    let home : index (suc d) r.call ≡ 2 * p.pattern + digit v = to_half d r.call p.pattern (omega arith) i in
    let homed : Each (λ (a : Rec). index (suc d) a.call ≡ 2 * p.pattern + digit v) p.records =
    each_imp (λ a (q : index (suc d) a.call ≡ index (suc d) r.call). q ∙ home) t in
    let ih = grow_made c (suc n) m (half v p) r (omega arith) (rw z e) home (rw z homed) (rw z (omega arith)) (omega arith) in
    one_split c p r i s (omega arith) (suc n) (suc m) (omega arith) (ih ∙ made_same (suc m) (suc d) (half v p) p r z)

-- ---- the new pages, one by one

pieces_at
    : (p : Page) (r : Rec) (n d j : ℕ)
    → j < n
    → get_or (map (cut p r) (new_pieces n d r.call)) j zero_page ≡ cut p r (new_piece (n - suc j) (d + j) r.call)
unfolding new_pieces
pieces_at p r zero d j h = absurd (omega arith)
pieces_at p r (suc n) d zero h =
    let e : suc n - 1 ≡ n = omega arith in
    rw (e, add-zero)
pieces_at p r (suc n) d (suc j) h =
    let e : suc n - suc (suc j) ≡ n - suc j = omega arith in
    let f : d + suc j ≡ suc d + j = omega arith in
    rw (e, f) (pieces_at p r n (suc d) j (omega arith))

-- ---- what callers cite

module _ {c : ℕ} {p : Page} {r : Rec} (o : Splits c p r) where
  pub least-deep : p.depth ≤ least_shared p.records r.call
  least-deep = least-most p.records r.call p.depth o.deep (shares_of p r.call o.homed o.home)

  -- the last split makes a depth of at most 32
  pub split_deep : p.depth + split_count p r.call ≤ 32
  unfolding split_count
  split_deep = omega (arith, least-deep, o.apart)

  grow_all : (g : ℕ) → Enough g p r → grow c (suc g) p r ≡ made (split_count p r.call) p.depth p r
  unfolding split_count
  grow_all g h =
      let l = least_shared p.records r.call in
      let n : l + 1 - p.depth ≡ suc (l - p.depth) = omega (arith, least-deep) in
      rw n
      (grow_made c (suc g) (l - p.depth) p r (omega (arith, least-deep)) o.full o.home o.homed (omega (arith, least-deep)) (omega (arith, least-deep, o.apart)))

  pub grow-old : (g : ℕ) → Enough g p r → (grow c (suc g) p r).old ≡ cut p r (kept_piece (split_count p r.call) p.depth r.call)
  unfolding made
  grow-old g h = ap (λ (t : Grown). t.old) (grow_all g h)

  grow-news : (g : ℕ) → Enough g p r → (grow c (suc g) p r).news ≡ map (cut p r) (new_pieces (split_count p r.call) p.depth r.call)
  unfolding made
  grow-news g h = ap (λ (t : Grown). t.news) (grow_all g h)

  pub grow_new
      : (g i : ℕ)
      → Enough g p r
      → 1 ≤ i
      → i ≤ split_count p r.call
      → get_or (grow c (suc g) p r).news (i - 1) zero_page
      ≡ cut p r (new_piece (split_count p r.call - i) (p.depth + (i - 1)) r.call)
  grow_new g i h k l =
      let e : suc (i - 1) ≡ i = omega arith in
      ap (λ (ps : List Page). get_or ps (i - 1) zero_page) (grow-news g h)
      ∙ rw e at (pieces_at p r (split_count p r.call) p.depth (i - 1) (omega arith))

-- ---- a page of the old page's capacity has room for each piece

-- a piece is no deeper than e, and the call's own piece has depth e
record Sized (e call : ℕ) (q : Piece) : Type 0 where
  deep : q.depth ≤ e
  own : q.own ≡ true → (q.depth ≡ e) × (q.pattern ≡ index e call)

side_sized : (v : Bool) (d e call : ℕ) → suc d ≤ e → Sized e call (side_piece v d call)
unfolding side_piece
side_sized v d e call h = record { deep = h; own = λ u. absurd (false≢true u) }

kept_sized : (n d call : ℕ) → Sized (d + n) call (kept_piece n d call)
unfolding kept_piece own_piece
kept_sized zero d call = let e : d ≡ d + 0 = omega arith in record { deep = omega arith; own = λ u. (e, rw (← e)) }
kept_sized (suc n) d call =
    let e : suc d + n ≡ d + suc n = omega arith in
    if_case (Sized (d + suc n) call) (λ u. side_sized false d (d + suc n) call (omega arith)) (λ u. rw e at (kept_sized n (suc d) call))

new_sized : (n d call : ℕ) → Sized (suc d + n) call (new_piece n d call)
unfolding new_piece
new_sized n d call = if_case (Sized (suc d + n) call) (λ u. kept_sized n (suc d) call) (λ u. side_sized true d (suc d + n) call (omega arith))

-- not all records share one bit more than all of them do
own_few : (rs : List Rec) (k e : ℕ) → e ≤ 32 → least_shared rs k < e → length (of_index e (index e k) rs) < length rs
unfolding of_index has_index
own_few rs k e h l =
    filter-few (has_index e (index e k)) rs
    (λ t. let m = least-most rs k e h (each_imp (λ a u. eqb-true _ _ u) t) in omega arith)

sized_fits : {c : ℕ} {p : Page} {r : Rec} {q : Piece} → Splits c p r → Sized (suc (least_shared p.records r.call)) r.call q → Fits c p q
sized_fits {c} {p} {r} {q} o z =
    let e = suc (least_shared p.records r.call) in
    let few = own_few p.records r.call e o.apart (omega arith) in
    record { deep = omega (arith, z.deep, o.apart); spare = λ u. rw ((z.own u).0, (z.own u).1) (omega (arith, few, o.full)) }

module _ {c : ℕ} {p : Page} {r : Rec} (o : Splits c p r) where
  pub old-fits : Fits c p (kept_piece (split_count p r.call) p.depth r.call)
  unfolding split_count
  old-fits =
      let l = least_shared p.records r.call in
      let e : p.depth + (l + 1 - p.depth) ≡ suc l = omega (arith, least-deep o) in
      sized_fits o (rw e at (kept_sized (l + 1 - p.depth) p.depth r.call))

  pub new_fits : (i : ℕ) → 1 ≤ i → i ≤ split_count p r.call → Fits c p (new_piece (split_count p r.call - i) (p.depth + (i - 1)) r.call)
  unfolding split_count
  new_fits i h k =
      let l = least_shared p.records r.call in
      let d = p.depth + (i - 1) in
      let n = l + 1 - p.depth - i in
      let e : suc d + n ≡ suc l = omega (arith, least-deep o) in
      sized_fits o (rw e at (new_sized n d r.call))
