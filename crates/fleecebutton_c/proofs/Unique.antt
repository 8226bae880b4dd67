-- The contracts of the exports determine the word that each sends back, and what it leaves in its outputs: each has the clause of `fleecebutton`'s
-- function of its name, so that one's theorem is its own, over its own reading. Assumes nothing.
use mathlib.Core.List.{List}
use Prim.Native.Nat.{ℕ}
use lib.Ieee.{Float}
use lib.IntN.{ℤ}
use Rattle.unique.specs.Unique.{Unique}
use Rattle.fleecebutton.proofs.Unique as library
use Rattle.fleecebutton_c.proofs.fb_predict.Kinds as fb_predict
use Rattle.fleecebutton_c.proofs.fb_predict.Reads as fb_predict_reads
use Rattle.fleecebutton_c.proofs.fb_choose.Kinds as fb_choose
use Rattle.fleecebutton_c.proofs.fb_choose.Reads as fb_choose_reads
use Rattle.fleecebutton_c.proofs.fb_forward.Kinds as fb_forward
use Rattle.fleecebutton_c.proofs.fb_forward.Reads as fb_forward_reads
use Rattle.fleecebutton_c.proofs.fb_levels.Kinds as fb_levels
use Rattle.fleecebutton_c.proofs.fb_levels.Reads as fb_levels_reads
use Rattle.fleecebutton_c.proofs.fb_rebuild.Kinds as fb_rebuild
use Rattle.fleecebutton_c.proofs.fb_rebuild.Reads as fb_rebuild_reads
use Rattle.fleecebutton_c.proofs.fb_rebuild_with_dc.Kinds as fb_rebuild_with_dc
use Rattle.fleecebutton_c.proofs.fb_rebuild_with_dc.Reads as fb_rebuild_with_dc_reads
use Rattle.fleecebutton_c.proofs.fb_luma_dc_levels.Kinds as fb_luma_dc_levels
use Rattle.fleecebutton_c.proofs.fb_luma_dc_levels.Reads as fb_luma_dc_levels_reads
use Rattle.fleecebutton_c.proofs.fb_luma_dc_values.Kinds as fb_luma_dc_values
use Rattle.fleecebutton_c.proofs.fb_luma_dc_values.Reads as fb_luma_dc_values_reads
use Rattle.fleecebutton_c.proofs.fb_chroma_dc_levels.Kinds as fb_chroma_dc_levels
use Rattle.fleecebutton_c.proofs.fb_chroma_dc_levels.Reads as fb_chroma_dc_levels_reads
use Rattle.fleecebutton_c.proofs.fb_chroma_dc_values.Kinds as fb_chroma_dc_values
use Rattle.fleecebutton_c.proofs.fb_chroma_dc_values.Reads as fb_chroma_dc_values_reads
use Rattle.fleecebutton_c.proofs.fb_chroma_quantizer.Kinds as fb_chroma_quantizer
use Rattle.fleecebutton_c.proofs.fb_chroma_quantizer.Reads as fb_chroma_quantizer_reads
use Rattle.fleecebutton_c.proofs.fb_code_block.Kinds as fb_code_block
use Rattle.fleecebutton_c.proofs.fb_code_block.Reads as fb_code_block_reads
use Rattle.fleecebutton_c.proofs.fb_promised_distance.Kinds as fb_promised_distance
use Rattle.fleecebutton_c.proofs.fb_promised_distance.Reads as fb_promised_distance_reads
use Rattle.fleecebutton_c.proofs.fb_code_plane.Kinds as fb_code_plane
use Rattle.fleecebutton_c.proofs.fb_code_plane.Reads as fb_code_plane_reads
use Rattle.fleecebutton_c.proofs.fb_read_head.Kinds as fb_read_head
use Rattle.fleecebutton_c.proofs.fb_read_head.Reads as fb_read_head_reads
use Rattle.fleecebutton_c.proofs.fb_code_picture.Kinds as fb_code_picture
use Rattle.fleecebutton_c.proofs.fb_code_picture.Reads as fb_code_picture_reads
use Rattle.fleecebutton_c.proofs.fb_decode_picture.Kinds as fb_decode_picture
use Rattle.fleecebutton_c.proofs.fb_decode_picture.Reads as fb_decode_picture_reads
use Rattle.fleecebutton_c.proofs.fb_inspect.Kinds as fb_inspect
use Rattle.fleecebutton_c.proofs.fb_inspect.Reads as fb_inspect_reads
use Rattle.fleecebutton_c.proofs.fb_decode_plane.Kinds as fb_decode_plane
use Rattle.fleecebutton_c.proofs.fb_decode_plane.Reads as fb_decode_plane_reads
use Rattle.fleecebutton_c.proofs.fb_quality_sheet.Kinds as fb_quality_sheet
use Rattle.fleecebutton_c.proofs.fb_quality_sheet.Reads as fb_quality_sheet_reads

pub fb_predict_unique : Unique 2 fb_predict.ps fb_predict.r fb_predict_reads.Learnt (List ℕ) (λ κs e. e.1.1.1.0.now)
fb_predict_unique = library.fb_predict_unique

pub fb_choose_unique : Unique 3 fb_choose.ps fb_choose.r fb_choose_reads.Learnt (List ℕ) (λ κs e. e.1.1.1.0.now)
fb_choose_unique = library.fb_choose_unique

pub fb_forward_unique : Unique 2 fb_forward.ps fb_forward.r fb_forward_reads.Learnt (List ℤ) (λ κs e. e.1.0.now)
fb_forward_unique = library.fb_forward_unique

pub fb_levels_unique : Unique 2 fb_levels.ps fb_levels.r fb_levels_reads.Learnt (List ℤ) (λ κs e. e.1.1.0.now)
fb_levels_unique = library.fb_levels_unique

pub fb_rebuild_unique : Unique 3 fb_rebuild.ps fb_rebuild.r fb_rebuild_reads.Learnt (List ℕ) (λ κs e. e.1.1.1.0.now)
fb_rebuild_unique = library.fb_rebuild_unique

pub fb_rebuild_with_dc_unique : Unique 3 fb_rebuild_with_dc.ps fb_rebuild_with_dc.r fb_rebuild_with_dc_reads.Learnt (List ℕ) (λ κs e. e.1.1.1.1.0.now)
fb_rebuild_with_dc_unique = library.fb_rebuild_with_dc_unique

pub fb_luma_dc_levels_unique : Unique 2 fb_luma_dc_levels.ps fb_luma_dc_levels.r fb_luma_dc_levels_reads.Learnt (List ℤ) (λ κs e. e.1.1.0.now)
fb_luma_dc_levels_unique = library.fb_luma_dc_levels_unique

pub fb_luma_dc_values_unique : Unique 2 fb_luma_dc_values.ps fb_luma_dc_values.r fb_luma_dc_values_reads.Learnt (List ℤ) (λ κs e. e.1.1.0.now)
fb_luma_dc_values_unique = library.fb_luma_dc_values_unique

pub fb_chroma_dc_levels_unique : Unique 2 fb_chroma_dc_levels.ps fb_chroma_dc_levels.r fb_chroma_dc_levels_reads.Learnt (List ℤ) (λ κs e. e.1.1.0.now)
fb_chroma_dc_levels_unique = library.fb_chroma_dc_levels_unique

pub fb_chroma_dc_values_unique : Unique 2 fb_chroma_dc_values.ps fb_chroma_dc_values.r fb_chroma_dc_values_reads.Learnt (List ℤ) (λ κs e. e.1.1.0.now)
fb_chroma_dc_values_unique = library.fb_chroma_dc_values_unique

pub fb_chroma_quantizer_unique : Unique 0 fb_chroma_quantizer.ps fb_chroma_quantizer.r fb_chroma_quantizer_reads.Learnt (Unit {0}) (λ κs e. tt)
fb_chroma_quantizer_unique = library.fb_chroma_quantizer_unique

pub fb_code_block_unique : Unique 4 fb_code_block.ps fb_code_block.r fb_code_block_reads.Learnt (List ℤ × List ℕ) (λ κs e. (e.1.1.1.1.0.now, e.1.1.1.1.1.0.now))
fb_code_block_unique = library.fb_code_block_unique

pub fb_promised_distance_unique : Unique 0 fb_promised_distance.ps fb_promised_distance.r fb_promised_distance_reads.Learnt (Unit {0}) (λ κs e. tt)
fb_promised_distance_unique = library.fb_promised_distance_unique

pub fb_code_plane_unique : Unique 3 fb_code_plane.ps fb_code_plane.r fb_code_plane_reads.Learnt (List ℕ × List ℕ) (λ κs e. (e.1.1.1.1.1.0.now, e.1.1.1.1.1.1.0.now))
fb_code_plane_unique = library.fb_code_plane_unique

pub fb_inspect_unique : Unique 2 fb_inspect.ps fb_inspect.r fb_inspect_reads.Learnt (Unit {0}) (λ κs e. tt)
fb_inspect_unique = library.fb_inspect_unique

pub fb_read_head_unique : Unique 1 fb_read_head.ps fb_read_head.r fb_read_head_reads.Learnt (Unit {0}) (λ κs e. tt)
fb_read_head_unique = library.fb_read_head_unique

pub fb_decode_plane_unique : Unique 2 fb_decode_plane.ps fb_decode_plane.r fb_decode_plane_reads.Learnt (List ℕ) (λ κs e. e.1.0.now)
fb_decode_plane_unique = library.fb_decode_plane_unique

pub fb_code_picture_unique : Unique 7 fb_code_picture.ps fb_code_picture.r fb_code_picture_reads.Learnt (List ℕ × List ℕ × List ℕ × List ℕ)
    (λ κs e. (e.1.1.1.1.1.1.1.1.1.0.now, e.1.1.1.1.1.1.1.1.1.1.0.now, e.1.1.1.1.1.1.1.1.1.1.1.0.now, e.1.1.1.1.1.1.1.1.1.1.1.1.0.now))
fb_code_picture_unique = library.fb_code_picture_unique

pub fb_decode_picture_unique : Unique 4 fb_decode_picture.ps fb_decode_picture.r fb_decode_picture_reads.Learnt (List ℕ × List ℕ × List ℕ) (λ κs e. (e.1.0.now, e.1.1.0.now, e.1.1.1.0.now))
fb_decode_picture_unique = library.fb_decode_picture_unique

pub fb_quality_sheet_unique : Unique 4 fb_quality_sheet.ps fb_quality_sheet.r fb_quality_sheet_reads.Learnt (List Float) (λ κs e. e.1.1.1.1.1.0.now)
fb_quality_sheet_unique = library.fb_quality_sheet_unique
