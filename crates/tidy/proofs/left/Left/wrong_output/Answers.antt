-- `Left::wrong_output` meets its contract: 19, then 11, of a file whose pages left have these depths.
use mathlib.Core.Path.{◌≡◌, refl, sym, ◌∙◌}
use mathlib.Core.Bool.{true, ◌||◌, or-true}
use lib.Dec.{ltb}
use borrow.Author.Tests.{lt-ltb}
use Rattle.std.specs.List.{list_any}
use Rattle.std.proofs.Common.{rules, tests}
use Rattle.std.proofs.lemmas.Iterator.{YieldsList-from_slice}
use Rattle.std.proofs.lemmas.Iterator.Search.{any_from_yields_List}
use Rattle.spec.specs.Job.{max_depth}
use Rattle.laws.specs.Tidy.Entries.{depths_left}
use Rattle.tidy.specs.Charge.{file_in}
use Rattle.tidy.proofs.Refused.{too_deep, too_small, enough}
use Rattle.tidy.proofs.left.Left.wrong_output.Goals.{then-depth-gt-MAX_DEPTH-via-then-depth-gt-MAX_DEPTH, then-depth-gt-MAX_DEPTH-via-else-depth-gt-MAX_DEPTH+then-any}
use Rattle.tidy.proofs.left.Left.wrong_output.Goals as goal

pub returns-then-depth-gt-MAX_DEPTH : goal.returns-then-depth-gt-MAX_DEPTH
returns-then-depth-gt-MAX_DEPTH c =
    let file = c.args.self.now.file in
    let d = c.args.depth in
    let left = depths_left (file_in file) 0 in
    let deep : (ltb max_depth d || list_any (ltb d) left) ≡ true
    = elim c.then-depth-gt-MAX_DEPTH.branch [
      | then-depth-gt-MAX_DEPTH-via-then-depth-gt-MAX_DEPTH w ↦ rw (lt-ltb max_depth d w.if-depth-gt-MAX_DEPTH.true)
      | then-depth-gt-MAX_DEPTH-via-else-depth-gt-MAX_DEPTH+then-any w ↦
          let any : w.any.result ≡ list_any (ltb d) w.depths.result.now
          = any_from_yields_List (ltb d) _ _ w.any.result w.any.ensures.ran (YieldsList-from_slice w.depths.result.now cc) (λ x b q k. search (rules, tests)) in
          rw (← w.depths.ensures, ← any, w.if-any.true, or-true)
    ] in
    rw c.at.ensures (too_deep file.given left refl d c.args.room deep)

pub returns-then-room-file_length : goal.returns-then-room-file_length
returns-then-room-file_length c =
    let e = c.args.self.now.file.given in
    let left = c.depths.result.now in
    let any : c.any.result ≡ list_any (ltb c.args.depth) left
    = any_from_yields_List (ltb c.args.depth) _ _ c.any.result c.any.ensures.ran (YieldsList-from_slice left cc) (λ x b q k. search (rules, tests)) in
    rw c.at-then-room-file_length.ensures
    (too_small e left c.depths.ensures c.args.depth c.args.room c.if-depth-gt-MAX_DEPTH.false (sym any ∙ c.if-any.false) (rw (← c.file_length.ensures.0) c.if-room-file_length.true))

pub returns : goal.returns
returns c =
    let e = c.args.self.now.file.given in
    let left = c.depths.result.now in
    let any : c.any.result ≡ list_any (ltb c.args.depth) left
    = any_from_yields_List (ltb c.args.depth) _ _ c.any.result c.any.ensures.ran (YieldsList-from_slice left cc) (λ x b q k. search (rules, tests)) in
    enough e left c.depths.ensures c.args.depth c.args.room c.if-depth-gt-MAX_DEPTH.false (sym any ∙ c.if-any.false) (rw (← c.file_length.ensures.0) c.if-room-file_length.false)
