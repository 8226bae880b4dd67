-- `residual::levels` meets its contract: the tests' verdict, and the levels by value between two copies. Assumes nothing.
use borrow.Author.Rules.{rules}
use mathlib.Core.Path.{◌≡◌, refl}
use lib.IntN.{pos, negsuc}
use lib.ListN.{length}
use Rattle.whole.proofs.Range.{none_each}
use Rattle.transform.proofs.Sides.{kept}
use Rattle.residual.proofs.Entry.{residuals_legal}
use Rattle.residual.proofs.levels.Goals as goal

pub quantized-requires : goal.quantized-requires
quantized-requires c =
    let t = residuals_legal 16 (negsuc 254) (pos 255) c.args.qp c.args.residual.now (length c.args.out.now) c.in_ok-quantizer.ensures refl in
    let same : c.unwrap-x.result ≡ c.args.residual.now = search rules in
    (rw t.number t.legal, kept 255 same (none_each (negsuc 254) (pos 255) c.args.residual.now 255 tt tt t.none))
