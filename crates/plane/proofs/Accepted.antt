-- A file all of whose tests have passed, macroblock after macroblock.
--     LumaLent, luma_lent     what is lent from macroblock m's place on lies in the file, and is its luma record, whose content passed
--     next_accepted           the next macroblock's place lies in the file too
-- Assumes nothing.
use mathlib.Core.Path.{◌≡◌, ap, ◌∙◌}
use mathlib.Core.Bool.{Bool}
use mathlib.Core.List.{List}
use Prim.Native.Nat.{ℕ, ◌+◌, ◌-◌, ◌<◌, ◌≤◌}
use lib.ListN.{length, take, drop}
use Rattle.lists.specs.Chain.{chain, pass}
use Rattle.lists.proofs.Chains.{chain_front, chain_behind, chain_pass}
use Rattle.record.specs.Kinds.{length_of}
use Rattle.record.specs.Records.{length_from, colour_at}
use Rattle.picture.specs.declared.Layout.{Layout}
use Rattle.picture.specs.Order.{count_of}
use Rattle.macroblock.specs.Content.{kind_by, content_tests}
use Rattle.plane.specs.Decode.{luma_number, luma_in, forms_tests, macroblock_tests, contents_tests, records_tests}
use Rattle.plane.specs.Walk.{next_place}
use Rattle.plane.proofs.Walking.{Walking, part_inside, part_is, luma_among, luma_long, luma_passed, next_inside}

-- so many bytes, lent from a place on for macroblock m's luma record
pub record LumaLent (l : Layout) (file : List ℕ) (start m place long : ℕ) : Type 0 where
  pub inside : place + long ≤ length file
  pub part : take (place + long - place) (drop place file) ≡ luma_in file start m
  pub size : length (take (place + long - place) (drop place file)) ≡ length_of (kind_by (take (place + long - place) (drop place file)))
  pub passed : chain (content_tests l m (take (place + long - place) (drop place file))) ≡ pass

module _ (l : Layout) (file : List ℕ) (start : ℕ) (accepted : chain (records_tests l start file) ≡ pass) (m : ℕ) (h : m < count_of l) {place : ℕ} (at : Walking l file start place (luma_number file start m)) where
  fine : chain (forms_tests l start file) ≡ pass
  fine = chain_front (forms_tests l start file) (contents_tests l start file) accepted

  pub luma_lent : {long : ℕ} → long ≡ length_from place file → LumaLent l file start m place long
  luma_lent {long} is =
      let among = luma_among l file start m h in
      let part = part_is l file start fine (luma_number file start m) among at is in
      let tested = chain_pass (macroblock_tests l start file) (count_of l) m h (chain_behind (forms_tests l start file) (contents_tests l start file) accepted) in
      record {
        inside = part_inside l file start fine (luma_number file start m) among at is;
        part = part;
        size = luma_long l file start m h fine at is;
        passed = ap (λ (p : List ℕ). chain (content_tests l m p)) part ∙ luma_passed l file start m tested;
      }

  pub next_accepted : {colour : Bool} → colour ≡ colour_at start file → next_place file colour place ≤ length file
  next_accepted is = next_inside l file start fine m h at is
