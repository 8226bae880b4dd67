-- `printing::Draft::finish` meets its contract: the text, and zeros behind it. Assumes nothing.
use mathlib.Core.Path.{◌≡◌, ap, ◌∙◌}
use mathlib.Core.List.{List, ◌++◌}
use Prim.Native.Nat.{ℕ}
use lib.ListN.{length, drop, replicate}
use Rattle.std.proofs.lemmas.List.{drop-replicate}
use Rattle.printing.specs.Text.{padded, Written}
use Rattle.printing.proofs.Draft.finish.Goals as goal

-- v is the text w, laid over the front of 1024 zeros as s
laid : {w s v : List ℕ} → v ≡ s → s ≡ w → Written w (record { bytes = v ++ drop (length s) (replicate 1024 0); len = length s })
unfolding padded
laid {w} {s} {v} d e = record { bytes = λ i. (d ∙ e) i ++ drop-replicate (length (e i)) 1024 0 i; count = ap length e }

pub returns-clause-text : goal.returns-clause-text
returns-clause-text c = laid c.copy_from_slice.ensures.after (c.as_bytes-written.ensures.value ∙ c.as_str.ensures.value ∙ c.self.view_is)
