-- Inputs at which a faulty definition would answer otherwise: what the must-fail edits of specs/ run into. Assumes nothing.
use mathlib.Core.Path.{◌≡◌, refl}
use mathlib.Core.List.{[], ◌∷◌}
use lib.IntN.{pos, negsuc}
use Rattle.lists.specs.Chain.{chain}
use Rattle.refusal.specs.Number.{number}
use Rattle.whole.specs.Range.{inside}
use Rattle.quantizer.specs.Chroma.{chroma_tests}

-- "an offset of -12 to 12": numbers at the ends and one beyond
pub offsets_refused :
    number (chain (chroma_tests 28 (negsuc 12))) ∷ number (chain (chroma_tests 28 (negsuc 11))) ∷ number (chain (chroma_tests 28 (pos 12))) ∷ number (chain (chroma_tests 28 (pos 13))) ∷ []
    ≡ 2 ∷ 0 ∷ 0 ∷ 2 ∷ []
unfolding inside
offsets_refused = refl
