-- When the entry points refuse, over their contracts' own records, whatever lists these speak of: the theorems as they landed before the port (docs/PORT.md).
-- `proofs/Refuses` of each crate has those of the same names over the functions' own readings. Assumes nothing.
use mathlib.Core.List.{List}
use Prim.Native.Nat.{ℕ}
use lib.IntN.{ℤ}
use Rattle.block.specs.Entry.{Codes, code_tests}
use Rattle.dc.specs.Entry.{ChromaLevels, ChromaValues, LumaLevels, LumaValues, chroma_levels_tests, chroma_values_tests, luma_levels_tests, luma_values_tests}
use Rattle.distance.specs.Entry.{Promises}
use Rattle.frame.specs.Code.{CodesPicture, code_picture_tests}
use Rattle.frame.specs.Decode.{DecodesPicture, decode_picture_tests}
use Rattle.frame.specs.declared.Decoded.{Decoded}
use Rattle.head.specs.Entry.{ReadsHead, head_tests}
use Rattle.head.specs.declared.Head.{Head}
use Rattle.inspection.specs.Inspect.{Inspects, inspect_tests}
use Rattle.intra4.specs.Entry.{Chooses, Predicts, choose_tests, predict_tests}
use Rattle.intra4.specs.declared.Chosen.{Chosen}
use Rattle.lists.specs.Chain.{ExactlyIf}
use Rattle.plane.specs.Code.{CodesPlane, code_plane_tests}
use Rattle.plane.specs.Decode.{Decodes, decode_tests}
use Rattle.quantizer.specs.Chroma.{ChromaBuilds, chroma_tests}
use Rattle.quantizer.specs.Range.{Builds, number_tests}
use Rattle.refusal.proofs.Same.{says_exactly_if}
use Rattle.refusal.specs.Number.{said}
use Rattle.residual.specs.Entry.{Levels, Rebuilds, RebuildsWithDc, levels_tests, rebuild_tests, with_dc_tests}
use Rattle.sheet.specs.Entry.{Sheets, sheet_tests}
use Rattle.transform.specs.Entry.{Forwards, forward_tests}
use Rattle.std.specs.Prelude.{Result, Option}
use Rattle.refusal.specs.declared.Refusal.{Refusal}
use Rattle.quantizer.specs.declared.Quantizer.{Quantizer}
use Rattle.sheet.specs.declared.Sheet.{Sheet}

pub code_block_refuses_exactly_if : (qp f : ℕ) (n s : List ℕ) (l : List ℤ) (o : List ℕ) (r : Result Chosen Refusal) (l' : List ℤ) (o' : List ℕ) → Codes qp f n s l o r l' o' → ExactlyIf (code_tests qp f n s l o) (said r)
code_block_refuses_exactly_if qp f n s l o r l' o' p = says_exactly_if (code_tests qp f n s l o) p.says

pub luma_dc_levels_refuses_exactly_if : (qp : ℕ) (given before after : List ℤ) (r : Result (Unit {0}) Refusal) → LumaLevels qp given before r after → ExactlyIf (luma_levels_tests qp given before) (said r)
luma_dc_levels_refuses_exactly_if qp given before after r p = says_exactly_if (luma_levels_tests qp given before) p.says

pub luma_dc_values_refuses_exactly_if : (qp : ℕ) (given before after : List ℤ) (r : Result (Unit {0}) Refusal) → LumaValues qp given before r after → ExactlyIf (luma_values_tests qp given before) (said r)
luma_dc_values_refuses_exactly_if qp given before after r p = says_exactly_if (luma_values_tests qp given before) p.says

pub chroma_dc_levels_refuses_exactly_if : (qp : ℕ) (given before after : List ℤ) (r : Result (Unit {0}) Refusal) → ChromaLevels qp given before r after → ExactlyIf (chroma_levels_tests qp given before) (said r)
chroma_dc_levels_refuses_exactly_if qp given before after r p = says_exactly_if (chroma_levels_tests qp given before) p.says

pub chroma_dc_values_refuses_exactly_if : (qp : ℕ) (given before after : List ℤ) (r : Result (Unit {0}) Refusal) → ChromaValues qp given before r after → ExactlyIf (chroma_values_tests qp given before) (said r)
chroma_dc_values_refuses_exactly_if qp given before after r p = says_exactly_if (chroma_values_tests qp given before) p.says

pub promised_distance_refuses_exactly_if : (qp : ℕ) (r : Result ℕ Refusal) → Promises qp r → ExactlyIf (number_tests qp) (said r)
promised_distance_refuses_exactly_if qp r p = says_exactly_if (number_tests qp) p.says

pub decode_picture_refuses_exactly_if : (file luma cb cr : List ℕ) (r : Result Decoded Refusal) (luma' cb' cr' : List ℕ) → DecodesPicture file luma cb cr r luma' cb' cr' → ExactlyIf (decode_picture_tests file luma cb cr) (said r)
decode_picture_refuses_exactly_if file luma cb cr r luma' cb' cr' p = says_exactly_if (decode_picture_tests file luma cb cr) p.says

pub code_picture_refuses_exactly_if : (width height rows qp : ℕ) (cb_offset cr_offset : ℤ) (luma cb cr file lumaOut cbOut crOut : List ℕ) (r : Result ℕ Refusal) (file' lumaOut' cbOut' crOut' : List ℕ) → CodesPicture width height rows qp cb_offset cr_offset luma cb cr file lumaOut cbOut crOut r file' lumaOut' cbOut' crOut' → ExactlyIf (code_picture_tests width height rows qp cb_offset cr_offset luma cb cr file lumaOut cbOut crOut) (said r)
code_picture_refuses_exactly_if width height rows qp cb_offset cr_offset luma cb cr file lumaOut cbOut crOut r file' lumaOut' cbOut' crOut' p = says_exactly_if (code_picture_tests width height rows qp cb_offset cr_offset luma cb cr file lumaOut cbOut crOut) p.says

pub read_head_refuses_exactly_if : (file : List ℕ) (h : Result Head Refusal) → ReadsHead file h → ExactlyIf (head_tests file) (said h)
read_head_refuses_exactly_if file h p = says_exactly_if (head_tests file) p.says

pub inspect_refuses_exactly_if : (file theirs : List ℕ) (r : Result (Unit {0}) Refusal) → Inspects file theirs r → ExactlyIf (inspect_tests file theirs) (said r)
inspect_refuses_exactly_if file theirs r p = says_exactly_if (inspect_tests file theirs) p

pub predict_refuses_exactly_if : (n : List ℕ) (f m : ℕ) (o : List ℕ) (r : Result (Unit {0}) Refusal) (after : List ℕ) → Predicts n f m o r after → ExactlyIf (predict_tests n f m o) (said r)
predict_refuses_exactly_if n f m o r after p = says_exactly_if (predict_tests n f m o) p.says

pub choose_refuses_exactly_if : (n : List ℕ) (f : ℕ) (block o : List ℕ) (r : Result Chosen Refusal) (after : List ℕ) → Chooses n f block o r after → ExactlyIf (choose_tests n f block o) (said r)
choose_refuses_exactly_if n f block o r after p = says_exactly_if (choose_tests n f block o) p.says

pub code_plane_refuses_exactly_if : (width height rows qp : ℕ) (plane file rebuilt : List ℕ) (r : Result ℕ Refusal) (file' rebuilt' : List ℕ) → CodesPlane width height rows qp plane file rebuilt r file' rebuilt' → ExactlyIf (code_plane_tests width height rows qp plane file rebuilt) (said r)
code_plane_refuses_exactly_if width height rows qp plane file rebuilt r file' rebuilt' p = says_exactly_if (code_plane_tests width height rows qp plane file rebuilt) p.says

pub decode_plane_refuses_exactly_if : (file before after : List ℕ) (r : Result (Unit {0}) Refusal) → Decodes file before r after → ExactlyIf (decode_tests file before) (said r)
decode_plane_refuses_exactly_if file before after r p = says_exactly_if (decode_tests file before) p.says

pub chroma_quantizer_refuses_exactly_if : (qp : ℕ) (offset : ℤ) (b : Result Quantizer Refusal) → ChromaBuilds qp offset b → ExactlyIf (chroma_tests qp offset) (said b)
chroma_quantizer_refuses_exactly_if qp offset b p = says_exactly_if (chroma_tests qp offset) p.says

pub quantizer_new_refuses_exactly_if : (qp : ℕ) (b : Result Quantizer Refusal) → Builds qp b → ExactlyIf (number_tests qp) (said b)
quantizer_new_refuses_exactly_if qp b p = says_exactly_if (number_tests qp) p.says

pub levels_refuses_exactly_if : (qp : ℕ) (x before after : List ℤ) (r : Result (Unit {0}) Refusal) → Levels qp x before r after → ExactlyIf (levels_tests qp x before) (said r)
levels_refuses_exactly_if qp x before after r p = says_exactly_if (levels_tests qp x before) p.says

pub rebuild_refuses_exactly_if : (qp : ℕ) (p : List ℕ) (l : List ℤ) (before after : List ℕ) (r : Result (Unit {0}) Refusal) → Rebuilds qp p l before r after → ExactlyIf (rebuild_tests qp p l before) (said r)
rebuild_refuses_exactly_if qp p l before after r e = says_exactly_if (rebuild_tests qp p l before) e.says

pub rebuild_with_dc_refuses_exactly_if : (qp : ℕ) (p : List ℕ) (dc : ℤ) (ac : List ℤ) (before after : List ℕ) (r : Result (Unit {0}) Refusal) → RebuildsWithDc qp p dc ac before r after → ExactlyIf (with_dc_tests qp p dc ac before) (said r)
rebuild_with_dc_refuses_exactly_if qp p dc ac before after r e = says_exactly_if (with_dc_tests qp p dc ac before) e.says

pub quality_sheet_refuses_exactly_if : (width height : ℕ) (original rebuilt map : List ℕ) (r : Result (Option Sheet) Refusal) → Sheets width height original rebuilt map r → ExactlyIf (sheet_tests width height original rebuilt map) (said r)
quality_sheet_refuses_exactly_if width height original rebuilt map r p = says_exactly_if (sheet_tests width height original rebuilt map) p.says

pub forward_refuses_exactly_if : (x before after : List ℤ) (r : Result (Unit {0}) Refusal) → Forwards x before r after → ExactlyIf (forward_tests x before) (said r)
forward_refuses_exactly_if x before after r p = says_exactly_if (forward_tests x before) p.says
