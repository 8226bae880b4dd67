-- What the requests promise (`specs/Requests`), of any call: each is the theorem of its name, in `fleecebutton/proofs` (`OwnDc`, `Distance`,
-- `QualitySheet`) or `turned/proofs/Calls`, of the call's own reading. Request 03's claims stand in `Broken`.
--     fb_luma_dc_accepted, fb_chroma_dc_accepted, fb_code_block_near, fb_promise_kept, fb_no_sheet_exactly_if, fb_one_rounding,
--     fb_absent_has_no_value, fb_forward_turns, fb_levels_turn, fb_predict_turns     the claims of these names
--     requests     all claims
-- Assumes nothing.
use Prim.Native.Nat.{ℕ, ◌<◌, ◌≤◌}
use native.Mathlib.Omega.{arith}
use lib.IntN.{pos}
use lib.ListN.{get_or}
use Rattle.distance.specs.Distance.{distance_at}
use Rattle.fleecebutton.proofs.OwnDc as own_dc
use Rattle.fleecebutton.proofs.Distance as distance
use Rattle.fleecebutton.proofs.QualitySheet as quality_sheet
use Rattle.turned.proofs.Calls as turned
use Rattle.stamp.specs.Answers.{Succeeds, value_told}
use Rattle.stamp.specs.Calls.{word, after}
use Rattle.stamp.specs.Calls as calls
use Rattle.stamp.specs.Requests as paper
use Rattle.stamp.specs.Requests.{RequestClaim, Request}
use Rattle.stamp.proofs.Broken.{fb_decode_plane_broken_exactly_if, fb_decode_picture_broken_exactly_if}

-- ---- 06: there and back

pub fb_luma_dc_accepted : Request paper.fb_luma_dc_accepted
fb_luma_dc_accepted c d done e room =
    own_dc.fb_luma_dc_accepted c.call.lifetimes d.call.lifetimes c.call.given d.call.given c.call.word d.call.word c.call.exit d.call.exit
    (λ i. (e i).qp) (λ i. (e i).levels) room c.call.learnt d.call.learnt done

pub fb_chroma_dc_accepted : Request paper.fb_chroma_dc_accepted
fb_chroma_dc_accepted c d done e room =
    own_dc.fb_chroma_dc_accepted c.call.lifetimes d.call.lifetimes c.call.given d.call.given c.call.word d.call.word c.call.exit d.call.exit
    (λ i. (e i).qp) (λ i. (e i).levels) room c.call.learnt d.call.learnt done

-- ---- 07: how far off

pub fb_code_block_near : Request paper.fb_code_block_near
fb_code_block_near c done place l =
    let s = c.call.learnt in
    distance.fb_code_block_near c.call.lifetimes c.call.given c.call.word c.call.exit s done s.bytes.0 s.bytes.1 place l

pub fb_promise_kept : Request paper.fb_promise_kept
fb_promise_kept c p done same = ((kept 0 (omega arith)).0, λ place l. (kept place l).1)
  where
    kept : (place : ℕ) → place < 16
        → Succeeds (word p) × (distance_at (calls.given c).samples place (pos (get_or (after c).rebuilt place 0)) ≤ value_told (word p))
    kept place l =
        let s = c.call.learnt in
        distance.fb_promise_kept c.call.lifetimes c.call.given c.call.word c.call.exit s done s.bytes.0 s.bytes.1 place l
        p.call.lifetimes p.call.given p.call.word p.call.exit same p.call.learnt

-- ---- 09: the sheet

pub fb_no_sheet_exactly_if : Request paper.fb_no_sheet_exactly_if
fb_no_sheet_exactly_if c = quality_sheet.fb_no_sheet_exactly_if c.call.lifetimes c.call.given c.call.word c.call.exit c.call.learnt

pub fb_one_rounding : Request paper.fb_one_rounding
fb_one_rounding c z =
    let s = c.call.learnt in
    quality_sheet.fb_one_rounding c.call.lifetimes c.call.given c.call.word c.call.exit s z s.bytes.0 s.bytes.1

pub fb_absent_has_no_value : Request paper.fb_absent_has_no_value
fb_absent_has_no_value c c' sw sh sm so o b =
    quality_sheet.fb_absent_has_no_value c.call.lifetimes c'.call.lifetimes c.call.given c'.call.given c.call.word c'.call.word c.call.exit c'.call.exit
    sw sh sm so o b c.call.learnt c'.call.learnt

-- ---- 12: turned

pub fb_forward_turns : Request paper.fb_forward_turns
fb_forward_turns c c' = turned.fb_forward_turns c.call c'.call

pub fb_levels_turn : Request paper.fb_levels_turn
fb_levels_turn c c' = turned.fb_levels_turn c.call c'.call

pub fb_predict_turns : Request paper.fb_predict_turns
fb_predict_turns c c' = turned.fb_predict_turns c.call c'.call

pub requests : (k : RequestClaim) → Request k
requests paper.fb_decode_plane_broken_exactly_if = fb_decode_plane_broken_exactly_if
requests paper.fb_decode_picture_broken_exactly_if = fb_decode_picture_broken_exactly_if
requests paper.fb_luma_dc_accepted = fb_luma_dc_accepted
requests paper.fb_chroma_dc_accepted = fb_chroma_dc_accepted
requests paper.fb_code_block_near = fb_code_block_near
requests paper.fb_promise_kept = fb_promise_kept
requests paper.fb_no_sheet_exactly_if = fb_no_sheet_exactly_if
requests paper.fb_one_rounding = fb_one_rounding
requests paper.fb_absent_has_no_value = fb_absent_has_no_value
requests paper.fb_forward_turns = fb_forward_turns
requests paper.fb_levels_turn = fb_levels_turn
requests paper.fb_predict_turns = fb_predict_turns
