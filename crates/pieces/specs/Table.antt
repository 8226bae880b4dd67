-- The starred lines of "Measured pieces" (01), in the paper's order: what the definitions of the contracts give, and what they must give.
-- Assumes nothing.
use Rattle.std.specs.Prelude.{◌≡◌, List, [], ◌∷◌, map, ℕ, ◌+◌, ◌*◌, ℤ, pos, negsuc, get_or, replicate}
use Rattle.lists.specs.Chain.{Verdict, chain}
use Rattle.refusal.specs.Number.{number, place}
use Rattle.refusal.specs.declared.Refusal.{Refusal}
use Rattle.quantizer.specs.Range.{number_tests, period_of}
use Rattle.quantizer.specs.Chroma.{chroma_of}
use Rattle.transform.specs.Forward.{forward}
use Rattle.transform.specs.Inverse.{inverse}
use Rattle.intra4.specs.Samples.{mask}
use Rattle.intra4.specs.Rules.{Predicted, samples, none, predicted}
use Rattle.residual.specs.Entry.{rebuild_tests}
use Rattle.residual.specs.Quantize.{level_of}
use Rattle.residual.specs.Rebuild.{rescaled_of}
use Rattle.residual.specs.Rescale.{mf_at}
use Rattle.dc.specs.Dc.{luma_levels, luma_values, chroma_levels, chroma_values}
use Rattle.head.specs.Heads.{head_of}

-- what is computed, and what is measured, as numbers
pub record Piece : Type 0 where
  pub computed : List ℤ
  pub measured : List ℤ

abbrev pub piece : List ℤ → List ℤ → Piece
piece c m = record { computed = c; measured = m }

-- a refusal is its number and its place; 0 and 0 stand for acceptance
abbrev pub sent : Verdict Refusal → List ℤ
sent v = pos (number v) ∷ pos (place v) ∷ []

abbrev pub accepted : List ℤ
accepted = pos 0 ∷ pos 0 ∷ []

abbrev pub refused : ℕ → List ℤ
refused n = pos n ∷ pos 0 ∷ []

-- a block with one number at place 0, and one with one number everywhere
abbrev pub alone : ℤ → List ℤ
alone z = z ∷ replicate 15 (pos 0)

abbrev pub all : ℤ → List ℤ
all z = replicate 16 z

-- a level alone at QP 0: what it rescales to, and what `rebuild` answers
abbrev pub rescaled_alone : ℤ → List ℤ
rescaled_alone z = get_or (rescaled_of 0 (alone z)) 0 (pos 0) ∷ []

abbrev pub rebuild_alone : ℤ → List ℤ
rebuild_alone z = sent (chain (rebuild_tests 0 (replicate 16 128) (alone z) (replicate 16 0)))

-- the level of a coefficient of class a at QP 28
abbrev pub level_at28 : ℤ → List ℤ
level_at28 y = level_of 0 (period_of 28) (mf_at 28 0) y ∷ []

-- the sample at (x,y); a mode that isn't permitted has none
abbrev pub sample_there : ℕ → ℕ → Predicted → List ℤ
sample_there x y (samples l) = pos (get_or l (4 * y + x) 0) ∷ []
sample_there x y none = []

-- "A..H = 10,20..80", "I..L = 10,20,30,41"; 200 stands where nothing is present
abbrev pub top : List ℕ
top = 200 ∷ 10 ∷ 20 ∷ 30 ∷ 40 ∷ 50 ∷ 60 ∷ 70 ∷ 80 ∷ 200 ∷ 200 ∷ 200 ∷ 200 ∷ []

abbrev pub left : List ℕ
left = 200 ∷ 200 ∷ 200 ∷ 200 ∷ 200 ∷ 200 ∷ 200 ∷ 200 ∷ 200 ∷ 10 ∷ 20 ∷ 30 ∷ 41 ∷ []

abbrev pub predicted_at : (neighbours : List ℕ) (flags mode x y : ℕ) → List ℤ
predicted_at neighbours flags mode x y = sample_there x y (predicted (mask neighbours flags) mode)

abbrev pub chroma_at : ℕ → ℤ → List ℤ
chroma_at qp offset = pos (chroma_of qp offset) ∷ []

unfoldable pub table : List Piece
table =
    -- "QP 51 accepted, 52 refused (2)."
    piece (sent (chain (number_tests 51))) accepted
    ∷ piece (sent (chain (number_tests 52))) (refused 2)
    -- "Level 3276 at QP 0, class a: 32760, accepted; 3277: refused (6)."
    ∷ piece (rescaled_alone (pos 3276)) (pos 32760 ∷ [])
    ∷ piece (rebuild_alone (pos 3276)) accepted
    ∷ piece (rebuild_alone (pos 3277)) (refused 6)
    -- "X all 1: Y(0,0)=16, the rest 0."
    ∷ piece (forward (all (pos 1))) (alone (pos 16))
    -- "d(0,0)=32 alone gives residual 1; -32 gives 0; -33 gives -1."
    ∷ piece (inverse (alone (pos 32))) (all (pos 1))
    ∷ piece (inverse (alone (negsuc 31))) (all (pos 0))
    ∷ piece (inverse (alone (negsuc 32))) (all (negsuc 0))
    -- "QP 28, class a: |Y|=42 gives 0, 43 gives 1; -43 gives -1."
    ∷ piece (level_at28 (pos 42)) (pos 0 ∷ [])
    ∷ piece (level_at28 (negsuc 41)) (pos 0 ∷ [])
    ∷ piece (level_at28 (pos 43)) (pos 1 ∷ [])
    ∷ piece (level_at28 (negsuc 42)) (negsuc 0 ∷ [])
    -- "A..H = 10,20..80, mode 3: (0,0) is 20, (3,3) is 78; E-H missing: (3,3) is 40."
    ∷ piece (predicted_at top 9 3 0 0) (pos 20 ∷ [])
    ∷ piece (predicted_at top 9 3 3 3) (pos 78 ∷ [])
    ∷ piece (predicted_at top 1 3 3 3) (pos 40 ∷ [])
    -- "I..L = 10,20,30,41, mode 8: (1,2) is 38, (2,2) is 41."
    ∷ piece (predicted_at left 2 8 1 2) (pos 38 ∷ [])
    ∷ piece (predicted_at left 2 8 2 2) (pos 41 ∷ [])
    -- "Sixteen luma DC of 160 at QP 28: first level 10, rest 0; back 640 each."
    ∷ piece (luma_levels 28 (all (pos 160))) (alone (pos 10))
    ∷ piece (luma_values 28 (alone (pos 10))) (all (pos 640))
    -- "Four chroma DC of 160 at 28: 5,0,0,0; back 640 each."
    ∷ piece (chroma_levels 28 (replicate 4 (pos 160))) (pos 5 ∷ pos 0 ∷ pos 0 ∷ pos 0 ∷ [])
    ∷ piece (chroma_values 28 (pos 5 ∷ pos 0 ∷ pos 0 ∷ pos 0 ∷ [])) (replicate 4 (pos 640))
    -- "Chroma quantizer: 29 to 29, 30 to 29, 51 with +12 to 39, 0 with -12 to 0."
    ∷ piece (chroma_at 29 (pos 0)) (pos 29 ∷ [])
    ∷ piece (chroma_at 30 (pos 0)) (pos 29 ∷ [])
    ∷ piece (chroma_at 51 (pos 12)) (pos 39 ∷ [])
    ∷ piece (chroma_at 0 (negsuc 11)) (pos 0 ∷ [])
    -- "Head of a 1x1 picture: 48 44 00 01 00 01 00 8E."
    ∷ piece (map pos (head_of 1 1 1)) (pos 72 ∷ pos 68 ∷ pos 0 ∷ pos 1 ∷ pos 0 ∷ pos 1 ∷ pos 0 ∷ pos 142 ∷ [])
    ∷ []

-- each piece of a table is as measured
abbrev pub AsMeasured : List Piece → Type 0
AsMeasured [] = Unit {0}
AsMeasured (p ∷ rest) = (p.computed ≡ p.measured) × AsMeasured rest
