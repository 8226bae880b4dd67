-- `plane::inner::behind_luma` meets its contract: two records one behind the other, and the first one's QP. Assumes nothing.
use mathlib.Core.Path.{◌≡◌, sym, ap, ◌∙◌}
use mathlib.Core.Bool.{true}
use mathlib.Core.List.{List}
use Prim.Native.Nat.{ℕ, ◌+◌, ◌-◌, ◌≤◌, ◌<◌}
use native.Mathlib.Omega.{arith}
use borrow.Author.Rules.{rules}
use lib.ListN.{length, take, drop}
use Rattle.record.specs.Kinds.{in_chroma, length_of}
use Rattle.record.specs.Records.{qp_in, length_from}
use Rattle.record.proofs.Walks.{place_next}
use Rattle.picture.specs.declared.Layout.{Layout}
use Rattle.picture.specs.Order.{count_of}
use Rattle.plane.specs.Decode.{luma_number, luma_in, chroma_in}
use Rattle.plane.specs.Walk.{AtMacroblock}
use Rattle.plane.proofs.Walking.{record_count, kind_some, Walking, part_inside, part_is, luma_among, luma_long, chroma_among, chroma_long}
use Rattle.plane.proofs.inner.behind_luma.Goals as goal

module _ {l : Layout} {start : ℕ} {file : List ℕ} {place m : ℕ} (below : m < count_of l) (at : AtMacroblock l start file true place m) {long : ℕ} (is : long ≡ length_from place file) where
  -- luma's record lies in the file
  inside : place + long ≤ length file
  inside = part_inside l file start at.fine (luma_number file start m) (luma_among l file start m below) at.at is

  luma : take (place + long - place) (drop place file) ≡ luma_in file start m
  luma = part_is l file start at.fine (luma_number file start m) (luma_among l file start m below) at.at is

  -- chroma's begins behind it,
  next : Walking l file start (place + long) (luma_number file start m + 1)
  next = place_next file start (luma_number file start m) at.at is

  -- is among the file's, and lies in it too
  among : luma_number file start m + 1 < record_count l file start
  among = chroma_among l file start m below (sym at.told)

  module _ {more : ℕ} (is_more : more ≡ length_from (place + long) file) where
    behind : place + long + more ≤ length file
    behind = part_inside l file start at.fine (luma_number file start m + 1) among next is_more

    chroma : take (place + long + more - (place + long)) (drop (place + long) file) ≡ chroma_in file start m
    chroma = part_is l file start at.fine (luma_number file start m + 1) among next is_more

    chroma_size : length (chroma_in file start m) ≡ length_of in_chroma
    chroma_size = sym (ap length chroma) ∙ chroma_long l file start m below at.fine (sym at.told) next is_more

pub overflow_add-at : goal.overflow_add-at
overflow_add-at c = let h = inside c.requires.0 c.requires.1 c.length_from.ensures in search rules

pub overflow_add-end : goal.overflow_add-end
overflow_add-end c = let h = behind c.requires.0 c.requires.1 c.length_from.ensures c.length_from-2.ensures in search rules

pub slice_bounds-qp-end : goal.slice_bounds-qp-end
slice_bounds-qp-end c = inside c.requires.0 c.requires.1 c.length_from.ensures

pub qp-requires : goal.qp-requires
qp-requires c =
    let a = c.args in
    let part = take (a.place + c.length_from.result - a.place) (drop a.place a.file.now) in
    let long = luma_long a.layout a.file.now a.start a.m c.requires.0 c.requires.1.fine c.requires.1.at c.length_from.ensures in
    omega (arith, long, kind_some part)

pub returns : goal.returns
returns c =
    let f = c.length_from.ensures in
    let g = c.length_from-2.ensures in
    record {
      qp_is = c.qp.ensures ∙ ap qp_in (luma c.requires.0 c.requires.1 f);
      place_is = next c.requires.0 c.requires.1 f;
      order = omega arith;
      inside = behind c.requires.0 c.requires.1 f g;
      part = chroma c.requires.0 c.requires.1 f g;
      long = chroma_size c.requires.0 c.requires.1 f g;
    }
