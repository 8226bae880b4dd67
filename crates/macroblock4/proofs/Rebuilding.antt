-- A block's turn among its macroblock's samples, of what the code has computed, and the samples of a macroblock.
--     shown_bytes    its prediction is bytes
--     block_made     a block's turn, in the plane with the samples in their places
--     samples_made   the turns of its blocks, one after the other, leave the samples of the macroblock's step
-- Assumes nothing.
use mathlib.Core.Path.{◌≡◌, sym, ap, subst, ◌∙◌}
use mathlib.Core.List.{List}
use Prim.Native.Nat.{ℕ, ◌*◌}
use native.Mathlib.Omega.{arith}
use lib.ListN.{length}
use Rattle.lists.specs.Bytes.{Bytes}
use Rattle.lists.specs.Fold.{fold}
use Rattle.intra4.specs.Samples.{mask}
use Rattle.intra4.specs.Rules as rules
use Rattle.intra4.proofs.Bytes.{predicted_bytes}
use Rattle.residual.specs.Rebuild.{rebuilt_samples}
use Rattle.record.specs.Records.{mode_in}
use Rattle.picture.specs.declared.Layout.{Layout}
use Rattle.picture.specs.Order.{Among, column_in, row_in, block_count}
use Rattle.picture.specs.Plane.{plane_length, stride, stored, with_block, gathered, turn}
use Rattle.picture.specs.Presence.{flags_of}
use Rattle.picture.specs.Whole.{whole_column, whole_row, whole_of, with_whole}
use Rattle.picture.proofs.Bytes.{gathered_bytes, stored_bytes}
use Rattle.picture.proofs.Over.{block_over, step_beside}
use Rattle.picture.proofs.Start.{turns_four}
use Rattle.picture.proofs.Whole.{whole_back}
use Rattle.macroblock4.specs.Content.{rescaled_in}
use Rattle.macroblock4.specs.Rebuild.{block_from, rebuilt_step4}
use Rattle.macroblock4.proofs.Looks.{rebuilt_step4_law}

pub shown_bytes : (l : Layout) (m b : ℕ) (own plane : List ℕ) → Bytes own → Bytes plane → (flags mode : ℕ) {n p : List ℕ}
    → n ≡ gathered 4 l m b (with_whole 16 l m own plane) → p ≡ rules.samples_of (rules.predicted (mask n flags) mode) → Bytes p
shown_bytes l m b own plane small bytes flags mode {n} en ep =
    let near = gathered_bytes 4 l m b (with_whole 16 l m own plane) (stored_bytes 16 (stride 16 l) (whole_column 16 l m) (whole_row 16 l m) own plane small bytes) in
    subst Bytes (sym ep) (predicted_bytes n flags (subst Bytes (sym en) near) mode)

pub block_made : {l : Layout} {m b : ℕ} → Among l m b → (part own plane : List ℕ) → length own ≡ 256 → length plane ≡ plane_length 16 l
    → {flags mode : ℕ} {n p s after : List ℕ}
    → flags ≡ flags_of 4 l m b → n ≡ gathered 4 l m b (with_whole 16 l m own plane) → mode ≡ mode_in b part
    → p ≡ rules.samples_of (rules.predicted (mask n flags) mode) → s ≡ rebuilt_samples p (rescaled_in part b)
    → after ≡ stored 4 16 (4 * column_in b) (4 * row_in b) s own
    → with_whole 16 l m after plane ≡ turn 4 (block_from l part) l m b (with_whole 16 l m own plane)
unfolding turn block_from
block_made {l} {m} {b} a part own plane size long {s = s} ef en em ep es ea =
    ap (λ (samples : List ℕ). with_whole 16 l m samples plane) ea
    ∙ block_over a s own plane size long
    ∙ ap (λ (block : List ℕ). with_block 4 l m b block (with_whole 16 l m own plane)) (rw (es, ep, ef, en, em))

pub samples_made : {l : Layout} {m : ℕ} → Among l m 0 → (part own plane : List ℕ) → length plane ≡ plane_length 16 l → {after : List ℕ} → length after ≡ 256
    → with_whole 16 l m after plane ≡ fold 16 (turn 4 (block_from l part) l m) (with_whole 16 l m own plane)
    → after ≡ whole_of 16 l m (rebuilt_step4 l m part plane)
unfolding rebuilt_step4 block_count
samples_made {l} {m} a part own plane long {after} size e =
    sym (whole_back 16 (omega arith) l a.sound.some m a.macroblock after plane size long)
    ∙ ap (whole_of 16 l m) (e ∙ turns_four (block_from l part) l m 16 (with_whole 16 l m own plane))
    ∙ step_beside 16 (omega arith) l a.sound.some m a.macroblock (rebuilt_step4_law l a.sound.some m a.macroblock part) plane long own
