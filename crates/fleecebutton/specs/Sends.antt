-- What each exported function sends back and writes: the tests, the value and the content of the entry point of its name, as that one's
-- contract has them (`Entry` of its crate). w is the word. That a slice of `u8` holds bytes is stated where a theorem about calls needs it (`bytes`).
-- Assumes nothing.
use Rattle.std.specs.Prelude.{◌≡◌, List, ℕ, Float, ℤ, length}
use Rattle.lists.specs.Bytes.{Bytes}
use Rattle.lists.specs.Parts.{over}
use Rattle.lists.specs.Chain.{chain, written}
use Rattle.intra4.specs.Choice.{chosen}
use Rattle.intra4.specs.Entry.{predict_tests, choose_tests, best_samples}
use Rattle.intra4.specs.Rules as rules
use Rattle.intra4.specs.Samples.{mask}
use Rattle.transform.specs.Entry.{forward_tests}
use Rattle.transform.specs.Forward.{forward}
use Rattle.residual.specs.Entry.{levels_tests, rebuild_tests, with_dc_tests}
use Rattle.residual.specs.Levels.{levels_of}
use Rattle.residual.specs.Rebuild.{rebuilt_samples, rescaled_of, rescaled_with_dc}
use Rattle.dc.specs.Dc.{luma_levels, luma_values, chroma_levels, chroma_values}
use Rattle.dc.specs.Entry.{luma_levels_tests, luma_values_tests, chroma_levels_tests, chroma_values_tests}
use Rattle.quantizer.specs.Chroma.{chroma_tests, chroma_of}
use Rattle.quantizer.specs.Range.{number_tests}
use Rattle.block.specs.Block.{coded_levels, coded_samples}
use Rattle.block.specs.Entry.{code_tests}
use Rattle.distance.specs.Entry.{samples_off}
use Rattle.head.specs.Entry.{head_tests, long_at, width_at, height_at, rows_at}
use Rattle.record.specs.Records.{colour_at}
use Rattle.picture.specs.Plane.{layout_of}
use Rattle.plane.specs.Code.{in_slices, code_plane_tests, coded_file, coded_plane}
use Rattle.plane.specs.Decode.{layout_in, decode_tests, decoded_plane}
use Rattle.frame.specs.Code.{code_picture_tests, coded_frame, coded_both}
use Rattle.frame.specs.Decode.{decode_picture_tests, cb_of, cr_of, colour_number}
use Rattle.inspection.specs.Inspect.{inspect_tests}
use Rattle.sheet.specs.Entry.{write_tests}
use Rattle.sheet.specs.Means.{given_of, area_of}
use Rattle.fleecebutton.specs.Word.{word_of, choice_value, head_value, sheet_value, Sends}

abbrev pub PredictSends : (neighbours : List ℕ) (flags mode : ℕ) (before : List ℕ) (w : ℕ) (after : List ℕ) → Type 0
PredictSends neighbours flags mode before w after =
    Sends (predict_tests neighbours flags mode before) 0 (rules.samples_of (rules.predicted (mask neighbours flags) mode)) before w after

abbrev pub ChooseSends : (neighbours : List ℕ) (flags : ℕ) (samples before : List ℕ) (w : ℕ) (after : List ℕ) → Type 0
ChooseSends neighbours flags samples before w after =
    let best = chosen (mask neighbours flags) samples in
    Sends (choose_tests neighbours flags samples before) (choice_value best) (best_samples (mask neighbours flags) best) before w after

abbrev pub ForwardSends : (residual before : List ℤ) (w : ℕ) (after : List ℤ) → Type 0
ForwardSends residual before w after = Sends (forward_tests residual before) 0 (forward residual) before w after

abbrev pub LevelsSends : (qp : ℕ) (residual before : List ℤ) (w : ℕ) (after : List ℤ) → Type 0
LevelsSends qp residual before w after = Sends (levels_tests qp residual before) 0 (levels_of qp residual) before w after

abbrev pub RebuildSends : (qp : ℕ) (prediction : List ℕ) (levels : List ℤ) (before : List ℕ) (w : ℕ) (after : List ℕ) → Type 0
RebuildSends qp prediction levels before w after =
    Sends (rebuild_tests qp prediction levels before) 0 (rebuilt_samples prediction (rescaled_of qp levels)) before w after

abbrev pub RebuildWithDcSends : (qp : ℕ) (prediction : List ℕ) (dc : ℤ) (ac : List ℤ) (before : List ℕ) (w : ℕ) (after : List ℕ) → Type 0
RebuildWithDcSends qp prediction dc ac before w after =
    Sends (with_dc_tests qp prediction dc ac before) 0 (rebuilt_samples prediction (rescaled_with_dc qp dc ac)) before w after

abbrev pub LumaDcLevelsSends : (qp : ℕ) (dc before : List ℤ) (w : ℕ) (after : List ℤ) → Type 0
LumaDcLevelsSends qp dc before w after = Sends (luma_levels_tests qp dc before) 0 (luma_levels qp dc) before w after

abbrev pub LumaDcValuesSends : (qp : ℕ) (levels before : List ℤ) (w : ℕ) (after : List ℤ) → Type 0
LumaDcValuesSends qp levels before w after = Sends (luma_values_tests qp levels before) 0 (luma_values qp levels) before w after

abbrev pub ChromaDcLevelsSends : (qp : ℕ) (dc before : List ℤ) (w : ℕ) (after : List ℤ) → Type 0
ChromaDcLevelsSends qp dc before w after = Sends (chroma_levels_tests qp dc before) 0 (chroma_levels qp dc) before w after

abbrev pub ChromaDcValuesSends : (qp : ℕ) (levels before : List ℤ) (w : ℕ) (after : List ℤ) → Type 0
ChromaDcValuesSends qp levels before w after = Sends (chroma_values_tests qp levels before) 0 (chroma_values qp levels) before w after

abbrev pub ChromaQuantizerSends : (qp : ℕ) (offset : ℤ) (w : ℕ) → Type 0
ChromaQuantizerSends qp offset w = w ≡ word_of (chain (chroma_tests qp offset)) (chroma_of qp offset)

-- two outputs: levels and rebuilt samples, l and o at entry, l' and o' at exit
pub record CodeBlockSends (qp flags : ℕ) (neighbours samples : List ℕ) (l : List ℤ) (o : List ℕ) (w : ℕ) (l' : List ℤ) (o' : List ℕ) : Type 0 where
  pub word : w ≡ word_of (chain (code_tests qp flags neighbours samples l o)) (choice_value (chosen (mask neighbours flags) samples))
  pub levels : l' ≡ written (chain (code_tests qp flags neighbours samples l o)) (coded_levels qp (mask neighbours flags) samples) l
  pub rebuilt : o' ≡ written (chain (code_tests qp flags neighbours samples l o)) (coded_samples qp (mask neighbours flags) samples) o
  pub bytes : Bytes neighbours × Bytes samples

abbrev pub PromisedDistanceSends : (qp w : ℕ) → Type 0
PromisedDistanceSends qp w = w ≡ word_of (chain (number_tests qp)) (samples_off qp)

-- two outputs: the file area and the rebuilt plane, file and rebuilt at entry, file' and rebuilt' at exit; the value is the bytes used
pub record CodePlaneSends (width height rows qp : ℕ) (plane file rebuilt : List ℕ) (w : ℕ) (file' rebuilt' : List ℕ) : Type 0 where
  pub word : w ≡ word_of (chain (code_plane_tests width height rows qp plane file rebuilt)) (length (coded_file (in_slices width height rows) qp plane))
  pub filed : file' ≡ written (chain (code_plane_tests width height rows qp plane file rebuilt)) (over (coded_file (in_slices width height rows) qp plane) file) file
  pub stored : rebuilt' ≡ written (chain (code_plane_tests width height rows qp plane file rebuilt)) (coded_plane (in_slices width height rows) qp plane) rebuilt
  pub bytes : Bytes plane

-- four outputs: the file area and the three rebuilt planes; the value is the bytes used
pub record CodePictureSends (width height rows qp : ℕ) (cb_offset cr_offset : ℤ) (luma cb cr file lumaOut cbOut crOut : List ℕ) (w : ℕ) (file' lumaOut' cbOut' crOut' : List ℕ) : Type 0 where
  pub word :
      w ≡ word_of (chain (code_picture_tests width height rows qp cb_offset cr_offset luma cb cr file lumaOut cbOut crOut))
      (length (coded_frame (in_slices width height rows) qp cb_offset cr_offset luma (record { cb = cb; cr = cr })))
  pub filed :
      file' ≡ written (chain (code_picture_tests width height rows qp cb_offset cr_offset luma cb cr file lumaOut cbOut crOut))
      (over (coded_frame (in_slices width height rows) qp cb_offset cr_offset luma (record { cb = cb; cr = cr })) file) file
  pub lumas :
      lumaOut' ≡ written (chain (code_picture_tests width height rows qp cb_offset cr_offset luma cb cr file lumaOut cbOut crOut)) (coded_plane (in_slices width height rows) qp luma) lumaOut
  pub cbs :
      cbOut' ≡ written (chain (code_picture_tests width height rows qp cb_offset cr_offset luma cb cr file lumaOut cbOut crOut))
      (coded_both (in_slices width height rows) qp cb_offset cr_offset (record { cb = cb; cr = cr })).cb cbOut
  pub crs :
      crOut' ≡ written (chain (code_picture_tests width height rows qp cb_offset cr_offset luma cb cr file lumaOut cbOut crOut))
      (coded_both (in_slices width height rows) qp cb_offset cr_offset (record { cb = cb; cr = cr })).cr crOut
  pub bytes : Bytes luma × Bytes cb × Bytes cr

abbrev pub ReadHeadSends : (file : List ℕ) (w : ℕ) → Type 0
ReadHeadSends file w = w ≡ word_of (chain (head_tests file)) (head_value (width_at file) (height_at file) (rows_at file))

abbrev pub DecodePlaneSends : (file before : List ℕ) (w : ℕ) (after : List ℕ) → Type 0
DecodePlaneSends file before w after = Sends (decode_tests file before) 0 (decoded_plane file) before w after

-- three outputs, the planes; the value is 1 for colour, 0 for mono
pub record DecodePictureSends (file luma cb cr : List ℕ) (w : ℕ) (luma' cb' cr' : List ℕ) : Type 0 where
  pub word : w ≡ word_of (chain (decode_picture_tests file luma cb cr)) (colour_number (colour_at (long_at file) file))
  pub lumas : luma' ≡ written (chain (decode_picture_tests file luma cb cr)) (decoded_plane file) luma
  pub cbs : cb' ≡ written (chain (decode_picture_tests file luma cb cr)) (cb_of (layout_in file) (long_at file) file cb) cb
  pub crs : cr' ≡ written (chain (decode_picture_tests file luma cb cr)) (cr_of (layout_in file) (long_at file) file cr) cr

abbrev pub InspectSends : (file theirs : List ℕ) (w : ℕ) → Type 0
InspectSends file theirs w = w ≡ word_of (chain (inspect_tests file theirs)) 0

-- one output, the area; the value is 1 where there is a sheet, 0 where there is none
pub record QualitySheetSends (width height : ℕ) (original rebuilt map : List ℕ) (before : List Float) (w : ℕ) (after : List Float) : Type 0 where
  pub sends :
      let given = given_of (layout_of width height) original rebuilt map in
      Sends (write_tests width height original rebuilt map before) (sheet_value given) (area_of given before) before w after
  pub bytes : Bytes original × Bytes rebuilt
