-- What a record of the coder's says, and that a decoder accepts it and rebuilds its macroblock as the coder did: for a plane of bytes, from a
-- rebuilt plane of bytes before the macroblock.
--     makes_bytes, seen_long, seen_bytes     the coder rebuilds bytes, and a block's thirteen neighbours are bytes
--     laws_at                                the laws of a coded block, at each block of the macroblock
--     levels_fit4                            its levels fit 16 bits
--     mode_said, levels_said                 the modes and the levels that are read from the record are the coder's
--     content_own4                            its content is fine
--     block_again, step_again4               its blocks are rebuilt as the coder rebuilt them
-- Assumes nothing.
use mathlib.Core.Path.{◌≡◌, sym, ap, ◌∙◌}
use mathlib.Core.Bool.{true, not}
use mathlib.Core.List.{List}
use Prim.Native.Nat.{ℕ, ◌<◌, ◌≤◌}
use native.Mathlib.Omega.{arith}
use borrow.Author.Tests.{eq-eqb}
use lib.IntN.{ℤ, pos}
use lib.ListN.{length, get_or}
use mir.Syntax.{w16}
use mir.Val.{SFits}
use Rattle.std.proofs.lemmas.Bool.{not_from_true}
use Rattle.lists.specs.Chain.{pass, chain}
use Rattle.lists.specs.Bytes.{Bytes}
use Rattle.lists.proofs.First.{first_none}
use Rattle.lists.proofs.Parts.{parts_at}
use Rattle.lists.proofs.Places.{parts_places}
use Rattle.lists.proofs.Tab.{get_d_tab}
use Rattle.quantizer.specs.Range.{highest}
use Rattle.intra4.specs.Rules as rules
use Rattle.residual.specs.Entry.{first_wide}
use Rattle.residual.specs.Order.{in_zigzag}
use Rattle.residual.specs.Rebuild as residual
use Rattle.residual.specs.Rebuild.{rescaled_of}
use Rattle.block.specs.Laws.{BlockLaws}
use Rattle.block.proofs.Laws.{block_laws}
use Rattle.record.specs.Records.{qp_in, mode_in, levels_in}
use Rattle.record.proofs.Back.{qp_back, mode_back, levels_back}
use Rattle.picture.specs.declared.Layout.{Layout}
use Rattle.picture.specs.Presence.{flags_of}
use Rattle.picture.specs.Order.{block_column, block_row, block_count}
use Rattle.picture.specs.Plane.{stride, block_of, first_turns}
use Rattle.picture.proofs.Start.{by_one, turns_follow}
use Rattle.picture.proofs.Bytes.{MakesBytes, length_gathered, gathered_bytes, block_bytes, turns_bytes}
use Rattle.macroblock4.specs.Content.{mode_holds, rescaled_in, range_holds, first_mode, first_range, content_tests4}
use Rattle.macroblock4.specs.Rebuild.{block_from, rebuilt_step4}
use Rattle.macroblock4.specs.Code.{round_of, mode_from, levels_from, samples_from, seen, modes_from, blocks_from, record_from4, coded_step4}
use Rattle.macroblock4.proofs.RecordFrom.{length_levels_from, length_blocks_from}
use Rattle.macroblock4.proofs.Coding.{modes_small}
use Rattle.macroblock4.proofs.Contents.{content_fine}

module _ (l : Layout) (qp : ℕ) (legal : qp ≤ highest) (original : List ℕ) (bytes : Bytes original) where
  pub laws_at : (m b : ℕ) (neighbours : List ℕ) → length neighbours ≡ 13 → Bytes neighbours → BlockLaws qp neighbours (flags_of 4 l m b) (block_of 4 l m b original)
  laws_at m b neighbours long near =
      block_laws qp neighbours (flags_of 4 l m b) (block_of 4 l m b original) legal long near
      (block_bytes 4 (stride 16 l) (block_column l m b) (block_row l m b) original bytes)

  pub makes_bytes : MakesBytes 4 (samples_from l qp original)
  unfolding samples_from
  makes_bytes m b neighbours long near = (laws_at m b neighbours long near).made_bytes

  module _ (m : ℕ) (before : List ℕ) (small : Bytes before) where
    abbrev own : List ℕ
    own = record_from4 l qp original m before

    abbrev around : ℕ → List ℕ
    around b = seen l qp original m before b

    seen_long : (b : ℕ) → length (around b) ≡ 13
    unfolding seen
    seen_long b = length_gathered 4 l m b (first_turns 4 (samples_from l qp original) l m b before)

    seen_bytes : (b : ℕ) → Bytes (around b)
    unfolding seen
    seen_bytes b =
        gathered_bytes 4 l m b (first_turns 4 (samples_from l qp original) l m b before) (turns_bytes 4 (samples_from l qp original) makes_bytes l m b before small)

    laws : (b : ℕ) → BlockLaws qp (around b) (flags_of 4 l m b) (block_of 4 l m b original)
    laws b = laws_at m b (around b) (seen_long b) (seen_bytes b)

    -- ---- what the record says

    pub levels_fit4 : (k : ℕ) → SFits w16 (get_or (blocks_from l qp original m before) k (pos 0))
    unfolding levels_from
    levels_fit4 = parts_places (SFits w16) (pos 0) (record { sfits = omega arith }) 16 _ (λ b h. (laws b).fits)

    pub qp_said : qp_in own ≡ qp
    unfolding record_from4
    qp_said = qp_back m qp (modes_from l qp original m before) (blocks_from l qp original m before)

    pub mode_said : (b : ℕ) → b < 16 → mode_in b own ≡ mode_from l original m b (around b)
    unfolding record_from4
    mode_said b h =
        mode_back m qp (modes_from l qp original m before) (blocks_from l qp original m before) (modes_small l qp original m before) b h
        ∙ get_d_tab 16 (λ k. mode_from l original m k (around k)) b 0 h

    pub levels_said : (b : ℕ) → b < 16 → levels_in b own ≡ levels_from l qp original m b (around b)
    unfolding record_from4
    levels_said b h =
        levels_back m qp (modes_from l qp original m before) (blocks_from l qp original m before) (length_blocks_from l qp original m before) levels_fit4 b h
        ∙ parts_at 16 (λ k. levels_from l qp original m k (around k)) 16 b (λ k n. length_levels_from l qp original m k (around k)) h

    numbers_said : (b : ℕ) → b < 16 → rescaled_in own b ≡ rescaled_of qp (levels_from l qp original m b (around b))
    unfolding rescaled_in
    numbers_said b h = λ i. rescaled_of (qp_said i) (levels_said b h i)

    -- ---- its content is fine

    mode_holds_law : (b : ℕ) → b < 16 → mode_holds l m own b ≡ true
    unfolding mode_holds mode_from
    mode_holds_law b h = ap (rules.permitted (flags_of 4 l m b)) (mode_said b h) ∙ (laws b).permitted

    range_holds_law : (b : ℕ) → b < 16 → range_holds own b ≡ true
    unfolding range_holds levels_from
    range_holds_law b h = eq-eqb (first_wide (in_zigzag (rescaled_in own b))) 16 (ap (λ (d : List ℤ). first_wide (in_zigzag d)) (numbers_said b h) ∙ (laws b).in_range)

    pub content_own4 : chain (content_tests4 l m own) ≡ pass
    unfolding first_mode first_range
    content_own4 =
        let modes : first_mode l m own ≡ 16 = first_none (λ b. not (mode_holds l m own b)) 16 (λ b h. not_from_true (mode_holds l m own b) (mode_holds_law b h)) in
        let ranges : first_range own ≡ 16 = first_none (λ b. not (range_holds own b)) 16 (λ b h. not_from_true (range_holds own b) (range_holds_law b h)) in
        content_fine l m own (omega (arith, qp_said)) (omega (arith, modes)) (omega (arith, ranges))

    -- ---- its blocks are rebuilt as the coder rebuilt them

    pub block_again : (b : ℕ) → b < 16 → block_from l own m b (around b) ≡ samples_from l qp original m b (around b)
    unfolding block_from samples_from mode_from levels_from
    block_again b h =
        (λ i. residual.rebuilt_samples (rules.samples_of (rules.predicted (round_of l m b (around b)) (mode_said b h i))) (numbers_said b h i)) ∙ sym (laws b).rebuilds

    pub step_again4 : rebuilt_step4 l m own before ≡ coded_step4 l qp original m before
    unfolding rebuilt_step4 coded_step4 block_count seen
    step_again4 =
        turns_follow 4 (block_from l own) (samples_from l qp original) l m 16 before
        (λ j b h is.
        let e : j ≡ b = by_one j ∙ sym is in
        rw e (block_again b (omega (arith, e))))
