-- The contracts of `fleecebutton` determine the word that each exported function sends back, and what it leaves in its outputs.
-- Assumes nothing.
use mathlib.Core.Path.{refl, sym, ◌∙◌}
use mathlib.Core.List.{List}
use Prim.Native.Nat.{ℕ}
use lib.Ieee.{Float}
use lib.IntN.{ℤ}
use Rattle.unique.specs.Unique.{Unique}
use Rattle.fleecebutton.proofs.fb_predict.Kinds as fb_predict
use Rattle.fleecebutton.proofs.fb_predict.Reads as fb_predict_reads
use Rattle.fleecebutton.proofs.fb_choose.Kinds as fb_choose
use Rattle.fleecebutton.proofs.fb_choose.Reads as fb_choose_reads
use Rattle.fleecebutton.proofs.fb_forward.Kinds as fb_forward
use Rattle.fleecebutton.proofs.fb_forward.Reads as fb_forward_reads
use Rattle.fleecebutton.proofs.fb_levels.Kinds as fb_levels
use Rattle.fleecebutton.proofs.fb_levels.Reads as fb_levels_reads
use Rattle.fleecebutton.proofs.fb_rebuild.Kinds as fb_rebuild
use Rattle.fleecebutton.proofs.fb_rebuild.Reads as fb_rebuild_reads
use Rattle.fleecebutton.proofs.fb_rebuild_with_dc.Kinds as fb_rebuild_with_dc
use Rattle.fleecebutton.proofs.fb_rebuild_with_dc.Reads as fb_rebuild_with_dc_reads
use Rattle.fleecebutton.proofs.fb_luma_dc_levels.Kinds as fb_luma_dc_levels
use Rattle.fleecebutton.proofs.fb_luma_dc_levels.Reads as fb_luma_dc_levels_reads
use Rattle.fleecebutton.proofs.fb_luma_dc_values.Kinds as fb_luma_dc_values
use Rattle.fleecebutton.proofs.fb_luma_dc_values.Reads as fb_luma_dc_values_reads
use Rattle.fleecebutton.proofs.fb_chroma_dc_levels.Kinds as fb_chroma_dc_levels
use Rattle.fleecebutton.proofs.fb_chroma_dc_levels.Reads as fb_chroma_dc_levels_reads
use Rattle.fleecebutton.proofs.fb_chroma_dc_values.Kinds as fb_chroma_dc_values
use Rattle.fleecebutton.proofs.fb_chroma_dc_values.Reads as fb_chroma_dc_values_reads
use Rattle.fleecebutton.proofs.fb_chroma_quantizer.Kinds as fb_chroma_quantizer
use Rattle.fleecebutton.proofs.fb_chroma_quantizer.Reads as fb_chroma_quantizer_reads
use Rattle.fleecebutton.proofs.fb_code_block.Kinds as fb_code_block
use Rattle.fleecebutton.proofs.fb_code_block.Reads as fb_code_block_reads
use Rattle.fleecebutton.proofs.fb_promised_distance.Kinds as fb_promised_distance
use Rattle.fleecebutton.proofs.fb_promised_distance.Reads as fb_promised_distance_reads
use Rattle.fleecebutton.proofs.fb_code_plane.Kinds as fb_code_plane
use Rattle.fleecebutton.proofs.fb_code_plane.Reads as fb_code_plane_reads
use Rattle.fleecebutton.proofs.fb_read_head.Kinds as fb_read_head
use Rattle.fleecebutton.proofs.fb_read_head.Reads as fb_read_head_reads
use Rattle.fleecebutton.proofs.fb_code_picture.Kinds as fb_code_picture
use Rattle.fleecebutton.proofs.fb_code_picture.Reads as fb_code_picture_reads
use Rattle.fleecebutton.proofs.fb_decode_picture.Kinds as fb_decode_picture
use Rattle.fleecebutton.proofs.fb_decode_picture.Reads as fb_decode_picture_reads
use Rattle.fleecebutton.proofs.fb_inspect.Kinds as fb_inspect
use Rattle.fleecebutton.proofs.fb_inspect.Reads as fb_inspect_reads
use Rattle.fleecebutton.proofs.fb_decode_plane.Kinds as fb_decode_plane
use Rattle.fleecebutton.proofs.fb_decode_plane.Reads as fb_decode_plane_reads
use Rattle.fleecebutton.proofs.fb_quality_sheet.Kinds as fb_quality_sheet
use Rattle.fleecebutton.proofs.fb_quality_sheet.Reads as fb_quality_sheet_reads

pub fb_predict_unique : Unique 2 fb_predict.ps fb_predict.r fb_predict_reads.Learnt (List ℕ) (λ κs e. e.1.1.1.0.now)
fb_predict_unique κs a x y e f p q = (p.word ∙ sym q.word, p.wrote ∙ sym q.wrote)

pub fb_choose_unique : Unique 3 fb_choose.ps fb_choose.r fb_choose_reads.Learnt (List ℕ) (λ κs e. e.1.1.1.0.now)
fb_choose_unique κs a x y e f p q = (p.word ∙ sym q.word, p.wrote ∙ sym q.wrote)

pub fb_forward_unique : Unique 2 fb_forward.ps fb_forward.r fb_forward_reads.Learnt (List ℤ) (λ κs e. e.1.0.now)
fb_forward_unique κs a x y e f p q = (p.word ∙ sym q.word, p.wrote ∙ sym q.wrote)

pub fb_levels_unique : Unique 2 fb_levels.ps fb_levels.r fb_levels_reads.Learnt (List ℤ) (λ κs e. e.1.1.0.now)
fb_levels_unique κs a x y e f p q = (p.word ∙ sym q.word, p.wrote ∙ sym q.wrote)

pub fb_rebuild_unique : Unique 3 fb_rebuild.ps fb_rebuild.r fb_rebuild_reads.Learnt (List ℕ) (λ κs e. e.1.1.1.0.now)
fb_rebuild_unique κs a x y e f p q = (p.word ∙ sym q.word, p.wrote ∙ sym q.wrote)

pub fb_rebuild_with_dc_unique : Unique 3 fb_rebuild_with_dc.ps fb_rebuild_with_dc.r fb_rebuild_with_dc_reads.Learnt (List ℕ) (λ κs e. e.1.1.1.1.0.now)
fb_rebuild_with_dc_unique κs a x y e f p q = (p.word ∙ sym q.word, p.wrote ∙ sym q.wrote)

pub fb_luma_dc_levels_unique : Unique 2 fb_luma_dc_levels.ps fb_luma_dc_levels.r fb_luma_dc_levels_reads.Learnt (List ℤ) (λ κs e. e.1.1.0.now)
fb_luma_dc_levels_unique κs a x y e f p q = (p.word ∙ sym q.word, p.wrote ∙ sym q.wrote)

pub fb_luma_dc_values_unique : Unique 2 fb_luma_dc_values.ps fb_luma_dc_values.r fb_luma_dc_values_reads.Learnt (List ℤ) (λ κs e. e.1.1.0.now)
fb_luma_dc_values_unique κs a x y e f p q = (p.word ∙ sym q.word, p.wrote ∙ sym q.wrote)

pub fb_chroma_dc_levels_unique : Unique 2 fb_chroma_dc_levels.ps fb_chroma_dc_levels.r fb_chroma_dc_levels_reads.Learnt (List ℤ) (λ κs e. e.1.1.0.now)
fb_chroma_dc_levels_unique κs a x y e f p q = (p.word ∙ sym q.word, p.wrote ∙ sym q.wrote)

pub fb_chroma_dc_values_unique : Unique 2 fb_chroma_dc_values.ps fb_chroma_dc_values.r fb_chroma_dc_values_reads.Learnt (List ℤ) (λ κs e. e.1.1.0.now)
fb_chroma_dc_values_unique κs a x y e f p q = (p.word ∙ sym q.word, p.wrote ∙ sym q.wrote)

pub fb_chroma_quantizer_unique : Unique 0 fb_chroma_quantizer.ps fb_chroma_quantizer.r fb_chroma_quantizer_reads.Learnt (Unit {0}) (λ κs e. tt)
fb_chroma_quantizer_unique κs a x y e f p q = (p ∙ sym q, refl)

-- both outputs at exit
pub fb_code_block_unique : Unique 4 fb_code_block.ps fb_code_block.r fb_code_block_reads.Learnt (List ℤ × List ℕ) (λ κs e. (e.1.1.1.1.0.now, e.1.1.1.1.1.0.now))
fb_code_block_unique κs a x y e f p q =
    let l = p.levels ∙ sym q.levels in
    let o = p.rebuilt ∙ sym q.rebuilt in
    (p.word ∙ sym q.word, λ i. (l i, o i))

pub fb_promised_distance_unique : Unique 0 fb_promised_distance.ps fb_promised_distance.r fb_promised_distance_reads.Learnt (Unit {0}) (λ κs e. tt)
fb_promised_distance_unique κs a x y e f p q = (p ∙ sym q, refl)

-- both outputs at exit
pub fb_code_plane_unique : Unique 3 fb_code_plane.ps fb_code_plane.r fb_code_plane_reads.Learnt (List ℕ × List ℕ) (λ κs e. (e.1.1.1.1.1.0.now, e.1.1.1.1.1.1.0.now))
fb_code_plane_unique κs a x y e f p q =
    let file = p.filed ∙ sym q.filed in
    let plane = p.stored ∙ sym q.stored in
    (p.word ∙ sym q.word, λ i. (file i, plane i))

pub fb_inspect_unique : Unique 2 fb_inspect.ps fb_inspect.r fb_inspect_reads.Learnt (Unit {0}) (λ κs e. tt)
fb_inspect_unique κs a x y e f p q = (p ∙ sym q, refl)

pub fb_read_head_unique : Unique 1 fb_read_head.ps fb_read_head.r fb_read_head_reads.Learnt (Unit {0}) (λ κs e. tt)
fb_read_head_unique κs a x y e f p q = (p ∙ sym q, refl)

pub fb_decode_plane_unique : Unique 2 fb_decode_plane.ps fb_decode_plane.r fb_decode_plane_reads.Learnt (List ℕ) (λ κs e. e.1.0.now)
fb_decode_plane_unique κs a x y e f p q = (p.word ∙ sym q.word, p.wrote ∙ sym q.wrote)

-- all outputs at exit
pub fb_code_picture_unique : Unique 7 fb_code_picture.ps fb_code_picture.r fb_code_picture_reads.Learnt (List ℕ × List ℕ × List ℕ × List ℕ)
    (λ κs e. (e.1.1.1.1.1.1.1.1.1.0.now, e.1.1.1.1.1.1.1.1.1.1.0.now, e.1.1.1.1.1.1.1.1.1.1.1.0.now, e.1.1.1.1.1.1.1.1.1.1.1.1.0.now))
fb_code_picture_unique κs a x y e f p q =
    let file = p.filed ∙ sym q.filed in
    let luma = p.lumas ∙ sym q.lumas in
    let cb = p.cbs ∙ sym q.cbs in
    let cr = p.crs ∙ sym q.crs in
    (p.word ∙ sym q.word, λ i. (file i, luma i, cb i, cr i))

pub fb_decode_picture_unique : Unique 4 fb_decode_picture.ps fb_decode_picture.r fb_decode_picture_reads.Learnt (List ℕ × List ℕ × List ℕ) (λ κs e. (e.1.0.now, e.1.1.0.now, e.1.1.1.0.now))
fb_decode_picture_unique κs a x y e f p q =
    let luma = p.lumas ∙ sym q.lumas in
    let cb = p.cbs ∙ sym q.cbs in
    let cr = p.crs ∙ sym q.crs in
    (p.word ∙ sym q.word, λ i. (luma i, cb i, cr i))

pub fb_quality_sheet_unique : Unique 4 fb_quality_sheet.ps fb_quality_sheet.r fb_quality_sheet_reads.Learnt (List Float) (λ κs e. e.1.1.1.1.1.0.now)
fb_quality_sheet_unique κs a x y e f p q = (p.sends.word ∙ sym q.sends.word, p.sends.wrote ∙ sym q.sends.wrote)
