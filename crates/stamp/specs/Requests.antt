-- What the change requests (02) promise beside the demands, of any call of the exported functions. Assumes nothing.
use Rattle.std.specs.Prelude.{◌≡◌, List, ◌↔◌, ℕ, ◌*◌, ◌/◌, ◌%◌, ◌<◌, ◌≤◌, pos, length, get_or}
use Rattle.lists.specs.Chain.{AllPass}
use Rattle.residual.specs.Order.{in_places}
use Rattle.distance.specs.Distance.{promise_of, distance_at}
use Rattle.head.specs.Entry.{head_tests}
use Rattle.picture.specs.Plane.{layout_of, plane_length}
use Rattle.plane.specs.Broken.{FormRefused, MarkRefused, NumberRefused, SumRefused}
use Rattle.plane.specs.Decode.{layout_in}
use Rattle.fleecebutton.specs.Word.{places}
use Rattle.sheet.specs.Errors.{sample_count}
use Rattle.sheet.specs.Means.{means_of}
use Rattle.sheet.specs.Promises.{rounded_once, OfEach, AgreeInPresent}
use Rattle.sheet.specs.declared.Sheet.{Sheet}
use Rattle.turned.specs.Calls.{CallsExchanged}
use Rattle.turned.specs.Square.{turned_block, turned_samples}
use Rattle.stamp.specs.Answers.{Succeeds, value_told}
use Rattle.stamp.specs.Calls.{CallOf, fb_predict, fb_forward, fb_levels, fb_luma_dc_levels, fb_luma_dc_values, fb_chroma_dc_levels, fb_chroma_dc_values, fb_code_block, fb_promised_distance, fb_quality_sheet, fb_decode_plane, fb_decode_picture, word, given, before, after}
use Rattle.stamp.specs.Demand1.{tests_of, SameAnswer}

-- (Req 03) the numbers that say how a file is broken, "9 for a file too short, too long or with a cut head; 11 for a wrong mark, 12 for a wrong
-- number, 13 for a wrong sum"
pub data Broken : Type 0 where
  form mark number sum : Broken

abbrev pub number_for : Broken → ℕ
number_for form = 9
number_for mark = 11
number_for number = 12
number_for sum = 13

-- when each is given, with its place, of a file and of the luma plane that is lent
abbrev pub BrokenAt : Broken → (file luma : List ℕ) (place : ℕ) → Type 0
BrokenAt form file luma place = FormRefused file luma place
BrokenAt mark file luma place = MarkRefused file luma place
BrokenAt number file luma place = NumberRefused file luma place
BrokenAt sum file luma place = SumRefused file luma place

-- where the head is fine, both planes of chroma have the lengths that it tells of
abbrev pub ChromaFits : (file cb cr : List ℕ) → Type 0
ChromaFits file cb cr = AllPass (head_tests file) → (length cb ≡ plane_length 8 (layout_in file)) × (length cr ≡ plane_length 8 (layout_in file))

pub data RequestClaim : Type 0 where
  fb_decode_plane_broken_exactly_if fb_decode_picture_broken_exactly_if : RequestClaim
  fb_luma_dc_accepted fb_chroma_dc_accepted : RequestClaim
  fb_code_block_near fb_promise_kept : RequestClaim
  fb_no_sheet_exactly_if fb_one_rounding fb_absent_has_no_value : RequestClaim
  fb_forward_turns fb_levels_turn fb_predict_turns : RequestClaim

abbrev pub Request : RequestClaim → Type 0
-- (Req 03) each with its place, and exactly if the file is so broken; `fb_decode_picture` tests both planes of chroma behind the head, too
Request fb_decode_plane_broken_exactly_if = (c : CallOf fb_decode_plane) (k : Broken)
    → (word c % 256 ≡ number_for k) ↔ ((place : ℕ) × BrokenAt k (given c).file (before c) place × (word c / 256 ≡ place % places))
Request fb_decode_picture_broken_exactly_if = (c : CallOf fb_decode_picture) (k : Broken)
    → (word c % 256 ≡ number_for k)
    ↔ (ChromaFits (given c).file (before c).cb (before c).cr × ((place : ℕ) × BrokenAt k (given c).file (before c).luma place × (word c / 256 ≡ place % places)))
-- (Req 06) what a DC coder wrote, the way back accepts: the same QP, the levels that were left, and room
Request fb_luma_dc_accepted = (c : CallOf fb_luma_dc_levels) (d : CallOf fb_luma_dc_values) → Succeeds (word c)
    → given d ≡ record { qp = (given c).qp; levels = after c } → length (before d) ≡ 16 → word d ≡ 0
Request fb_chroma_dc_accepted = (c : CallOf fb_chroma_dc_levels) (d : CallOf fb_chroma_dc_values) → Succeeds (word c)
    → given d ≡ record { qp = (given c).qp; levels = after c } → length (before d) ≡ 4 → word d ≡ 0
-- (Req 07) "384 times the distance of the rebuilt sample from the original is at most (16a+24c+9b)*2^p+384"
Request fb_code_block_near = (c : CallOf fb_code_block) → Succeeds (word c) → (place : ℕ) → place < 16
    → 384 * distance_at (given c).samples place (pos (get_or (after c).rebuilt place 0)) ≤ promise_of (given c).qp
-- and no sample is farther off than `fb_promised_distance` says of the same QP, which it does
Request fb_promise_kept = (c : CallOf fb_code_block) (p : CallOf fb_promised_distance) → Succeeds (word c) → (given p).qp ≡ (given c).qp
    → Succeeds (word p) × ((place : ℕ) → place < 16 → distance_at (given c).samples place (pos (get_or (after c).rebuilt place 0)) ≤ value_told (word p))
-- (Req 09) "With nothing present the answer is 'no sheet', and exactly then"
Request fb_no_sheet_exactly_if = (c : CallOf fb_quality_sheet)
    → (word c ≡ 0) ↔ (AllPass (tests_of fb_quality_sheet (given c) (before c)) × ((m : ℕ) → m < (given c).width * (given c).height → get_or (given c).map m 0 ≡ 0))
-- "divided once": where the value is 1 the area holds a sheet, each mean of which is the double nearest to the exact fraction
Request fb_one_rounding = (c : CallOf fb_quality_sheet) → word c ≡ 256
    → let l = layout_of (given c).width (given c).height in
    (s : Sheet) × (after c ≡ means_of s) × OfEach l (given c).original (given c).rebuilt (given c).map s (λ mean sum. mean ≡ rounded_once sum (sample_count l (given c).map))
-- "every sample of an absent macroblock is left out": planes of the same lengths that agree in every macroblock present, and all else alike
Request fb_absent_has_no_value = (c c' : CallOf fb_quality_sheet)
    → (given c').width ≡ (given c).width → (given c').height ≡ (given c).height → (given c').map ≡ (given c).map → before c' ≡ before c
    → AgreeInPresent (layout_of (given c).width (given c).height) (given c).map (given c).original (given c').original
    → AgreeInPresent (layout_of (given c).width (given c).height) (given c).map (given c).rebuilt (given c').rebuilt
    → SameAnswer c c'
-- (Req 12) "exchanging rows and columns of a residual block exchanges those of its coefficients"
Request fb_forward_turns = (c c' : CallOf fb_forward) → (given c').residual ≡ turned_block (given c).residual → length (before c') ≡ 16
    → Succeeds (word c) → Succeeds (word c') × (after c' ≡ turned_block (after c))
-- "and, with flat weights, of its levels in raster order": they are written in zigzag order, and `in_places` puts them in raster order
Request fb_levels_turn = (c c' : CallOf fb_levels) → (given c').qp ≡ (given c).qp → (given c').residual ≡ turned_block (given c).residual → length (before c') ≡ 16
    → Succeeds (word c) → Succeeds (word c') × (in_places (after c') ≡ turned_block (in_places (after c)))
-- "exchanging A-D with I-L and their flags, M kept, turns mode 0 into 1 and 5 into 6 and back, and keeps 4 and DC, samples transposed"
Request fb_predict_turns = (c c' : CallOf fb_predict)
    → CallsExchanged (given c).neighbours (given c).flags (given c).mode (before c) (given c').neighbours (given c').flags (given c').mode (before c')
    → (word c' ≡ word c) × (Succeeds (word c) → after c' ≡ turned_samples (after c))
