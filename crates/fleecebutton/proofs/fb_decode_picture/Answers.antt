-- `fleecebutton::fb_decode_picture` meets its contract: the word of the answer of `decode_picture`. Assumes nothing.
use Prim.Native.Nat.{ℕ}
use mathlib.Core.Path.{refl}
use borrow.Author.Rules.{rules}
use Rattle.frame.specs.Decode.{colour_value}
use Rattle.fleecebutton.proofs.Words.{mapped, value_sent, word_mapped}
use Rattle.fleecebutton.proofs.fb_decode_picture.Goals as goal

pub returns : goal.returns
returns c =
    let p = c.decode_picture-decoded.ensures in
    record { word = value_sent (λ (n : ℕ). n) _ _ _ p.says p.value (word_mapped (mapped colour_value _ _ c.map.ensures.cases (λ x n k. search rules) (λ e. refl)) c.of_value.ensures); lumas = p.lumas; cbs = p.cbs; crs = p.crs }
