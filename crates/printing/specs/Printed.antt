-- What `blockprint` prints (01, "Measured pieces"): "reads 31 bytes: QP, flags, 13 neighbours, 16 samples in raster order".
-- Assumes nothing.
use Rattle.std.specs.Prelude.{cond, List, [], ◌∷◌, ◌++◌, ℕ, ◌≤◌, eqb, ℤ, pos, length, get_or, take, drop, replicate}
use Rattle.lists.specs.Chain.{Verdict, pass, stop, chain}
use Rattle.refusal.specs.Number.{number, place}
use Rattle.refusal.specs.declared.Refusal.{Refusal}
use Rattle.refusal.specs.declared.Refusal.TheVariants as refusal
use Rattle.intra4.specs.Samples.{mask}
use Rattle.intra4.specs.Choice.{Best, nothing, at, chosen}
use Rattle.block.specs.Block.{coded_levels, coded_samples}
use Rattle.block.specs.Entry.{code_tests}
use Rattle.printing.specs.Text.{decimal_of, signed_of, line_of, Written}
use Rattle.printing.specs.declared.Text.{Text}

-- "A refusal prints `refused`, number, place."
abbrev pub refused_text : ℕ → ℕ → List ℕ
refused_text n p = (114 ∷ 101 ∷ 102 ∷ 117 ∷ 115 ∷ 101 ∷ 100 ∷ 32 ∷ []) ++ decimal_of n ++ (32 ∷ []) ++ decimal_of p ++ (10 ∷ [])

-- "ok, mode, SAD; levels in zigzag order; rebuilt raster samples"
abbrev pub ok_text : Best → List ℤ → List ℕ → List ℕ
ok_text nothing levels rebuilt = []
ok_text (at mode sad) levels rebuilt =
    (111 ∷ 107 ∷ 32 ∷ []) ++ decimal_of mode ++ (32 ∷ []) ++ decimal_of sad ++ (10 ∷ [])
    ++ line_of (λ k. signed_of (get_or levels k (pos 0))) ++ line_of (λ k. decimal_of (get_or rebuilt k 0))

-- by what the tests come to
abbrev pub outcome_text : Verdict Refusal → List ℕ → List ℕ
outcome_text pass ok = ok
outcome_text (stop r) ok = refused_text (number (stop r)) (place (stop r))

-- a block by its parts; the outputs that are lent have the right length
abbrev pub block_text : (qp flags : ℕ) (neighbours samples : List ℕ) → List ℕ
block_text qp flags neighbours samples =
    outcome_text (chain (code_tests qp flags neighbours samples (replicate 16 (pos 0)) (replicate 16 0)))
    (ok_text (chosen (mask neighbours flags) samples) (coded_levels qp (mask neighbours flags) samples) (coded_samples qp (mask neighbours flags) samples))

-- "Any other count prints `refused 1 0`."
unfoldable pub text_of : List ℕ → List ℕ
text_of input =
    cond (eqb (length input) 31)
    (block_text (get_or input 0 0) (get_or input 1 0) (take 13 (drop 2 input)) (take 16 (drop 15 input)))
    (outcome_text (stop refusal.Length) [])

pub record Prints (input : List ℕ) (r : Text) : Type 0 where
  pub wrote : Written (text_of input) r
  pub room : r.len ≤ 1024
